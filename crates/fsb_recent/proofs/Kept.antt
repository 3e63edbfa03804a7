-- The last rows of a list that grows, and the requests that were over, one sample on.
use Rattle.std.proofs.Common.{◌≡◌, ◌∙◌, ℕ, zero, suc, ◌+◌, ◌-◌, ◌≤◌, List, [], ◌∷◌, ◌++◌, length, take, drop, filter, refl, sym, ap, arith, length-append, length-drop, drop-drop}
use Rattle.std.proofs.lemmas.List.{drop-append-le, take-append-le}
use Rattle.std.proofs.Math.Seq.{take-length}
use Rattle.circular_buffer.specs.Buffer.{keep_last}
use Rattle.fsb_signal.specs.declared.sample.Sample.{Sample}
use Rattle.fsb_trace.specs.At.{Trace}
use Rattle.fsb_owner_table.specs.declared.row.Row.{Row}
use Rattle.fsb_owner_table.specs.Kept.{rows_of}
use Rattle.fsb_recent.specs.Over.{is_newly_over, newly_over, over_of, over_until, past_of}

sum_of : (n a b k : ℕ) → k ≡ a - n → k + ((a - k) + b - n) ≡ a + b - n
sum_of n a b k e = omega (arith, e)

-- the last n of the last n and more are the last n of all
pub keep_last-more : {X : Type 0} (n : ℕ) (xs ys : List X) → keep_last n (keep_last n xs ++ ys) ≡ keep_last n (xs ++ ys)
keep_last-more n xs ys =
    let k : ℕ = length xs - n in
    let low : k ≤ length xs = omega arith in
    let joined : drop k xs ++ ys ≡ drop k (xs ++ ys) = sym (drop-append-le k xs ys low) in
    let long : length (drop k xs ++ ys) ≡ (length xs - k) + length ys =
    length-append (drop k xs) ys ∙ ap (λ m. m + length ys) (length-drop k xs) in
    let all : length (xs ++ ys) ≡ length xs + length ys = length-append xs ys in
    let sum : k + (length (drop k xs ++ ys) - n) ≡ length (xs ++ ys) - n = omega (arith, long, all) in
    ap (λ l. drop (length (drop k xs ++ ys) - n) l) joined ∙ drop-drop (length (drop k xs ++ ys) - n) k (xs ++ ys)
    ∙ ap (λ m. drop m (xs ++ ys)) sum

module _ (h : Trace) (x : Sample) where
  before : (n : ℕ) → n ≤ length h → over_until (h ++ x ∷ []) n ≡ over_until h n
  unfolding over_until
  before zero l = refl
  before (suc n) l =
      ap (λ rows. rows ++ newly_over (take (suc n) (h ++ x ∷ []))) (before n (omega (arith, l)))
      ∙ ap (λ v. over_until h n ++ newly_over v) (take-append-le (suc n) h (x ∷ []) l)

  size : length (h ++ x ∷ []) ≡ suc (length h)
  size = length-append h (x ∷ []) ∙ omega arith

  whole : take (suc (length h)) (h ++ x ∷ []) ≡ h ++ x ∷ []
  whole = ap (λ n. take n (h ++ x ∷ [])) (sym size) ∙ take-length (h ++ x ∷ [])

  last : over_until (h ++ x ∷ []) (suc (length h)) ≡ over_of h ++ newly_over (h ++ x ∷ [])
  unfolding over_until
  last =
      ap (λ rows. rows ++ newly_over (take (suc (length h)) (h ++ x ∷ []))) (before (length h) (omega arith))
      ∙ ap (λ v. over_of h ++ newly_over v) whole

  -- with the sample those are over that were, and those that are over with it
  pub over_more : over_of (h ++ x ∷ []) ≡ over_of h ++ newly_over (h ++ x ∷ [])
  over_more = ap (over_until (h ++ x ∷ [])) size ∙ last

  -- the same of the last ten
  pub past_more : (n : ℕ) → n ≡ length (h ++ x ∷ []) → (rows all : List Row)
      → all ≡ over_of h ++ filter (λ row. is_newly_over row n) rows → rows ≡ rows_of (h ++ x ∷ [])
      → keep_last 10 all ≡ past_of (h ++ x ∷ [])
  past_more n e rows all is same =
      let here : filter (λ row. is_newly_over row n) rows ≡ newly_over (h ++ x ∷ []) =
      ap (filter (λ row. is_newly_over row n)) same
      ∙ ap (λ m. filter (λ row. is_newly_over row m) (rows_of (h ++ x ∷ []))) e in
      ap (keep_last 10) (is ∙ ap (λ more. over_of h ++ more) here ∙ sym over_more)

-- nothing was over in a trace without clocks
pub past_empty : past_of [] ≡ []
unfolding over_until
past_empty = refl
