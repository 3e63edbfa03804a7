-- Lists of rows that are kept.
use Rattle.std.proofs.Common.{ℕ, zero, suc, ◌+◌, ◌-◌, ◌<◌, ◌≤◌, ◌≡◌, Bool, true, false, cond, Option, Some, None, refl}
use Rattle.std.proofs.Common.{sym, ap, ◌∙◌, arith, List, [], ◌∷◌, ◌++◌, All, length, subst}
use Rattle.std.specs.Option.{option_and_then, option_to_list}
use Rattle.std.specs.List.{filter_map}
use Rattle.std.specs.List.Retain.{RetainsInTurn}
use Rattle.std.proofs.lemmas.List.{append-nil}
use Rattle.std.proofs.lemmas.List.Elements.{All-append, All-cons, All-head, All-nil, All-tail, filter_map-append}
use Rattle.fsb_signal.specs.declared.sample.Sample.{Sample}
use Rattle.fsb_trace.specs.At.{Trace}
use Rattle.fsb_owner_table.specs.declared.happened.Happened.{Happened}
use Rattle.fsb_owner_table.specs.declared.row.Row.{Row}
use Rattle.fsb_trace.specs.At.{line_back}
use Rattle.fsb_owner_table.specs.Happened.{begun_row, Happens}
use Rattle.fsb_owner_table.proofs.Fresh.{begun_kept}
use Rattle.fsb_owner_table.specs.Kept.{IsKept, kept_at, kept_below, left_in, rows_of}
use Rattle.fsb_owner_table.proofs.KeptRows.{clock_is, kept_parts, kept_step}

filter_first : {A B : Type 0} (f : A → Option B) (a : A) (xs : List A) (m : Option B) → f a ≡ m
    → filter_map f (a ∷ xs) ≡ option_to_list m ++ filter_map f xs
filter_first f a xs None e = rw e refl
filter_first f a xs (Some b) e = rw e refl

one_retained : (f : Row → Option Row) (b : Bool) (o p : Row) (kept rows : List Row)
    → cond b (Some p) None ≡ f o → kept ≡ filter_map f rows → cond b (p ∷ kept) kept ≡ filter_map f (o ∷ rows)
one_retained f true o p kept rows e s = ap (λ xs. p ∷ xs) s ∙ sym (filter_first f o rows (Some p) (sym e))
one_retained f false o p kept rows e s = s ∙ sym (filter_first f o rows None (sym e))

-- where each call of a closure makes of a row what f leaves of it, what is retained is what f leaves of all
pub left_from_retain : {F : Type 0} (R : F → Row → Bool → F → Row → Type 0) (s : F) (P : Row → Type 0)
    (f : Row → Option Row) (rows left : List Row) → RetainsInTurn R s rows left → All P rows
    → ((o : Row) (b : Bool) (t : F) (p : Row) → R s o b t p → P o → (t ≡ s) × (cond b (Some p) None ≡ f o))
    → left ≡ filter_map f rows
left_from_retain R s P f [] left r k says = r
left_from_retain R s P f (o ∷ rows) left r k says =
    let said = says o r.0 r.1 r.2 r.3 (All-head P o rows k) in
    r.6
    ∙ one_retained f r.0 o r.2 r.4 rows said.1
    (left_from_retain R s P f rows r.4 (subst (λ t. RetainsInTurn R t rows r.4) said.0 r.5) (All-tail P o rows k) says)

one_kept : (h : Trace) (n : ℕ) (m : Option Row) → n + 1 < length h → kept_at h n ≡ m → All (IsKept h) (option_to_list m)
one_kept h n None l e = All-nil (IsKept h)
one_kept h n (Some row) l e =
    let at : row.seen.clock ≡ n = ap (λ r. r.seen.clock) (kept_parts h n row e).1 ∙ clock_is h n in
    All-cons (IsKept h) row [] (record { is = ap (kept_at h) at ∙ e; decoded = omega (arith, at, l) }) (All-nil (IsKept h))

pub are_kept : (h : Trace) (n : ℕ) → n < length h → All (IsKept h) (kept_below h n)
unfolding kept_below
are_kept h zero l = All-nil (IsKept h)
are_kept h (suc n) l =
    All-append (IsKept h) (kept_below h n) (option_to_list (kept_at h n)) (are_kept h n (omega arith))
    (one_kept h n (kept_at h n) (omega arith) refl)

rows_kept_of : (h : Trace) (n : ℕ) → length h ≡ n → All (IsKept h) (kept_below h (n - 1))
unfolding kept_below
rows_kept_of h zero e = All-nil (IsKept h)
rows_kept_of h (suc n) e = are_kept h (suc n - 1) (omega (arith, e))

pub rows_kept : (h : Trace) → All (IsKept h) (rows_of h)
rows_kept h = rows_kept_of h (length h) refl

left_one : {A B : Type 0} (g : A → Option B) (o : Option A)
    → filter_map g (option_to_list o) ≡ option_to_list (option_and_then g o)
left_one g None = refl
left_one g (Some a) = filter_first g a [] (g a) refl ∙ append-nil (option_to_list (g a))

module _ {h : Trace} {x : Sample} {v : Trace} {happened : Happened} (g : Happens h x v happened) where
  pub left_below : (n : ℕ) → n < length h → kept_below v n ≡ filter_map (left_in v) (kept_below h n)
  unfolding kept_below
  left_below zero l = refl
  left_below (suc n) l =
      ap (λ xs. xs ++ option_to_list (kept_at v n)) (left_below n (omega arith))
      ∙ ap (λ m. filter_map (left_in v) (kept_below h n) ++ option_to_list m) (kept_step g n (omega arith))
      ∙ ap (λ xs. filter_map (left_in v) (kept_below h n) ++ xs) (sym (left_one (left_in v) (kept_at h n)))
      ∙ sym (filter_map-append (left_in v) (kept_below h n) (option_to_list (kept_at h n)))

  some_rows : (m : ℕ) → length h ≡ m + 1
      → kept_below v (m + 1) ≡ filter_map (left_in v) (kept_below h m) ++ option_to_list (begun_row v (length h))
  unfolding kept_below
  some_rows m e =
      let back : length h - 1 ≡ m = omega (arith, e) in
      let last : kept_at v m ≡ begun_row v (length h) =
      ap (kept_at v) (sym back) ∙ begun_kept g.more g.orderly g.after (omega (arith, e)) in
      let next : m + 1 ≡ suc m = omega arith in
      ap (kept_below v) next
      ∙ ap (λ xs. xs ++ option_to_list (kept_at v m)) (left_below m (omega (arith, e)))
      ∙ ap (λ o. filter_map (left_in v) (kept_below h m) ++ option_to_list o) last

  rows_cases : (n : ℕ) → length h ≡ n
      → rows_of v ≡ filter_map (left_in v) (rows_of h) ++ option_to_list (begun_row v (length h))
  unfolding kept_below begun_row line_back
  rows_cases zero e =
      let size : length v - 1 ≡ 0 = omega (arith, g.more.size, e) in
      let none : length h - 1 ≡ 0 = omega (arith, e) in
      rw (size, none, e) refl
  rows_cases (suc m) e =
      let size : length v - 1 ≡ m + 1 = omega (arith, g.more.size, e) in
      let back : length h - 1 ≡ m = omega (arith, e) in
      ap (kept_below v) size ∙ some_rows m (omega (arith, e))
      ∙ ap (λ k. filter_map (left_in v) (kept_below h k) ++ option_to_list (begun_row v (length h))) (sym back)

  -- with the sample, those that are left of the rows are kept, and that of the request that is begun
  pub rows_go : rows_of v ≡ filter_map (left_in v) (rows_of h) ++ option_to_list (begun_row v (length h))
  rows_go = rows_cases (length h) refl

-- what the code makes of the rows is what is kept of the trace
pub rows_taken : {h : Trace} {x : Sample} {v : Trace} {happened : Happened} → Happens h x v happened → (old left new : List Row)
    → old ≡ rows_of h → left ≡ filter_map (left_in v) (rows_of h) → new ≡ left ++ option_to_list happened.begun
    → new ≡ rows_of v
rows_taken {h} {x} {v} {happened} g old left new same is made =
    made ∙ ap (λ xs. xs ++ option_to_list happened.begun) is
    ∙ ap (λ o. filter_map (left_in v) (rows_of h) ++ option_to_list o) g.begun ∙ sym (rows_go g)

pub empty_rows : rows_of [] ≡ []
unfolding kept_below
empty_rows = refl
