-- The end of the request that responded last, one sample on.
use Rattle.std.proofs.Common.{ℕ, zero, suc, ◌+◌, ◌<◌, ◌≤◌, ◌≡◌, Bool, true, false, cond, ◌&&◌, Option, Some, None}
use Rattle.std.proofs.Common.{[], ◌∷◌, ◌++◌, length, refl, sym, ap, subst, ◌∙◌, arith, inl, inr, nat_eq, is_some}
use Rattle.std.proofs.lemmas.Bool.{and_parts, cases_Bool, cases_lt, ltb-true, eqb-true, le-leb}
use Rattle.fsb_count.specs.Clocks.{count_where, from_clock, nth_where}
use Rattle.fsb_count.proofs.Interface.{count_where-more, count_where-same, nth_where-at, nth_where-past}
use Rattle.fsb_signal.specs.declared.lines.TheConstants.Lines.{DRDY}
use Rattle.fsb_signal.specs.declared.sample.Sample.{Sample}
use Rattle.fsb_signal.specs.Samples.{has_line, line_at}
use Rattle.fsb_trace.specs.At.{Trace, responds_at}
use Rattle.fsb_trace.specs.Outcome.{moves_data, response_clock_of}
use Rattle.fsb_trace.specs.Requests.{is_live, live_count}
use Rattle.fsb_trace.specs.Snoop.{snoop_end_of}
use Rattle.fsb_trace.specs.Response.{data_clock_of, end_of}
use Rattle.fsb_trace.proofs.Interface.{end_of-response}
use Rattle.fsb_laws.specs.OneMore.{OneMore, responds}
use Rattle.fsb_laws.specs.Orderly.{Orderly}
use Rattle.fsb_laws.specs.Progress.{response_count, transfer_of}
use Rattle.fsb_laws.proofs.Interface.{chunks_of-form, end_of-kept, ends_to-moving, ends_to-still, line_at-new, line_at-old}
use Rattle.fsb_laws.proofs.Interface.{moves_data-old, one_more, response_clock_of-new, response_clock_of-old, response_there}
use Rattle.fsb_laws.proofs.Interface.{transfer_parts, transferring_form, response_count-empty, response_count-kept}
use Rattle.fsb_heads.specs.Heads.{last_snoop_end, snooped_count, value_before}
use Rattle.fsb_heads.proofs.Interface.{count_answered}

before_suc : (f : ℕ → Option ℕ) (n i : ℕ) → n ≡ suc i → value_before f n ≡ f i
unfolding value_before
before_suc f n i e = rw e refl

before_zero : (f g : ℕ → Option ℕ) (n : ℕ) → n ≡ 0 → value_before f n ≡ value_before g n
unfolding value_before
before_zero f g n e = rw e refl

-- the fourth chunk of data that move since r, where three came, or one more is too few
moved_end : (v : Trace) (i r : ℕ) → moves_data v i ≡ true → response_clock_of v i ≡ Some r
    → end_of v i ≡ nth_where (from_clock r (line_at DRDY v)) 3 (length v)
unfolding end_of data_clock_of
moved_end v i r t e = rw (t, e) refl

few_by : (k : ℕ) (b : Bool) (n : ℕ) → n ≡ k + cond b 1 0 → k < 4 → (nat_eq k 3 && b) ≡ false → n ≤ 3
few_by k true n e few f =
    elim (cases_lt k 3) [
      | inl l ↦ omega (arith, e, l)
      | inr l ↦
          let three : k ≡ 3 = omega (arith, l, few) in
          absurd (let yes : (nat_eq k 3 && true) ≡ true = (rw three refl) in let no : ⊥ = cc in no)
    ]
few_by k false n e few f = omega (arith, e, few)

module _ (h : Trace) (x : Sample) (o : Orderly h) where
  abbrev v : Trace
  v = h ++ x ∷ []

  m : OneMore h x (h ++ x ∷ [])
  m = one_more h x

  pub chunk_now : (r : ℕ) → r < length h → from_clock r (line_at DRDY v) (length h) ≡ has_line x DRDY
  unfolding from_clock
  chunk_now r l = rw (le-leb r (length h) (omega (arith, l)), line_at-new DRDY h x v m) refl

  pub chunks_before : (r : ℕ)
      → count_where (from_clock r (line_at DRDY v)) (length h) ≡ count_where (from_clock r (line_at DRDY h)) (length h)
  unfolding from_clock
  chunks_before r =
      count_where-same (from_clock r (line_at DRDY v)) (from_clock r (line_at DRDY h)) (length h)
      (record { same = λ c l. rw (line_at-old DRDY h x v c m l) refl })

  fourth : (r k : ℕ) (b : Bool) → r < length h → count_where (from_clock r (line_at DRDY h)) (length h) ≡ k → k < 4
      → (nat_eq k 3 && has_line x DRDY) ≡ b
      → nth_where (from_clock r (line_at DRDY v)) 3 (length v) ≡ cond b (Some (length h)) None
  fourth r k true l e few t =
      let p = and_parts _ _ t in
      let three : k ≡ 3 = eqb-true k 3 p.0 in
      let now : count_where (from_clock r (line_at DRDY v)) (length h) ≡ 3 = chunks_before r ∙ e ∙ three in
      subst (λ n. nth_where (from_clock r (line_at DRDY v)) n (length v) ≡ Some (length h)) now
      (nth_where-at (from_clock r (line_at DRDY v)) (length v) (length h) (omega (arith, m.size)) (chunk_now r l ∙ p.1))
  fourth r k false l e few f =
      let size : length v ≡ length h + 1 = m.size in
      let more : count_where (from_clock r (line_at DRDY v)) (length v) ≡ k + cond (has_line x DRDY) 1 0 =
      ap (count_where (from_clock r (line_at DRDY v))) size
      ∙ count_where-more (from_clock r (line_at DRDY v)) (length h)
      ∙ ap (λ b. count_where (from_clock r (line_at DRDY v)) (length h) + cond b 1 0) (chunk_now r l)
      ∙ ap (λ n. n + cond (has_line x DRDY) 1 0) (chunks_before r ∙ e) in
      nth_where-past (from_clock r (line_at DRDY v)) 3 (length v)
      (few_by k (has_line x DRDY) (count_where (from_clock r (line_at DRDY v)) (length v)) more few f)

  -- while data are on the way it ends with the fourth chunk
  pub end-moving : (k : ℕ) → transfer_of h ≡ Some k
      → cond (nat_eq k 3 && has_line x DRDY) (Some (length h)) None ≡ value_before (end_of v) (response_count h)
  end-moving k e =
      let p = transfer_parts h k e in
      let i : ℕ = p.0 in
      let r = response_there h i (omega (arith, p.1)) in
      let t = and_parts _ _ (sym (transferring_form h (length h) i r.0 r.1) ∙ p.2) in
      let came : count_where (from_clock r.0 (line_at DRDY h)) (length h) ≡ k =
      (let form = sym (chunks_of-form h i r.0 r.1) ∙ p.3 in let same : _ ≡ k = cc in same) in
      let few : k < 4 = subst (λ n. n < 4) came (ltb-true _ _ t.1) in
      let there : response_clock_of v i ≡ Some r.0 = response_clock_of-old h x v i m (omega (arith, p.1)) ∙ r.1 in
      let moves : moves_data v i ≡ true = moves_data-old h x v i m o (omega (arith, p.1)) ∙ t.0 in
      sym (before_suc (end_of v) (response_count h) i p.1 ∙ moved_end v i r.0 moves there
      ∙ fourth r.0 k (nat_eq k 3 && has_line x DRDY) r.2 came few refl)

  kept_cases : (n : ℕ) → response_count h ≡ n → transfer_of h ≡ None
      → value_before (end_of h) (response_count h) ≡ value_before (end_of v) (response_count h)
  kept_cases zero e f = before_zero (end_of h) (end_of v) (response_count h) e
  kept_cases (suc i) e f =
      let p = (ends_to-still h o f).reached i (omega (arith, e)) in
      before_suc (end_of h) (response_count h) i e ∙ p.1
      ∙ sym (before_suc (end_of v) (response_count h) i e ∙ end_of-kept h x v i p.0 m o p.1 p.2)

  -- and where none are it has its end
  pub end-kept : transfer_of h ≡ None
      → value_before (end_of h) (response_count h) ≡ value_before (end_of v) (response_count h)
  end-kept f = kept_cases (response_count h) refl f

  -- with a response
  new_cases : (t : Option ℕ) → Orderly v → responds x ≡ true → transfer_of v ≡ t
      → cond (is_some t) None (Some (length h)) ≡ end_of v (response_count h)
  new_cases (Some k) after r e =
      sym ((ends_to-moving v k (response_count h) after e (count_answered h x v m r)).above (response_count h) (omega arith))
  new_cases None after r e =
      let p = (ends_to-still v after e).reached (response_count h) (let c = count_answered h x v m r in omega (arith, c)) in
      let back = end_of-response v (response_count h) p.0 p.1 in
      let new = response_clock_of-new h x v m r in
      let same : back.0 ≡ length h = (let one = back.1 in let q : _ ≡ length h = cc in q) in
      let is : p.0 ≡ length h = omega (arith, back.2, same, p.2, m.size) in
      sym (p.1 ∙ ap (λ c. Some c) is)

  pub end-after : (before : Option ℕ) → Orderly v → before ≡ value_before (end_of v) (response_count h)
      → cond (responds x) (cond (is_some (transfer_of v)) None (Some (length h))) before
      ≡ value_before (end_of v) (response_count v)
  end-after before after e =
      elim (cases_Bool (responds x)) [
        | inl r ↦
            ap (λ b. cond b (cond (is_some (transfer_of v)) None (Some (length h))) before) r
            ∙ new_cases (transfer_of v) after r refl
            ∙ sym (before_suc (end_of v) (response_count v) (response_count h) (count_answered h x v m r))
        | inr f ↦
            ap (λ b. cond b (cond (is_some (transfer_of v)) None (Some (length h))) before) f ∙ e
            ∙ sym (ap (value_before (end_of v)) (response_count-kept h x v m f))
      ]

pub end-fed : (h : Trace) (x : Sample) (n : ℕ) (before : Option ℕ) (moving : Bool) → Orderly h
    → Orderly (h ++ x ∷ []) → n ≡ length h → moving ≡ is_some (transfer_of (h ++ x ∷ []))
    → before ≡ value_before (end_of (h ++ x ∷ [])) (response_count h)
    → cond (responds x) (cond moving None (Some n)) before
    ≡ value_before (end_of (h ++ x ∷ [])) (response_count (h ++ x ∷ []))
end-fed h x n before moving o after e f g = rw (e, f) (end-after h x o before after g)

one_at_most : (b : Bool) → cond b 1 0 ≤ 1
one_at_most true = omega arith
one_at_most false = omega arith

-- the empty trace has none, and a trace has no more responses than clocks
pub ended-empty : None ≡ value_before (end_of []) (response_count [])
unfolding value_before
ended-empty = rw response_count-empty refl

most : (p : ℕ → Bool) (n : ℕ) → count_where p n ≤ n
unfolding count_where
most p zero = omega arith
most p (suc n) = let less = most p n in let one = one_at_most (p n) in omega (arith, less, one)

pub few_responses : (h : Trace) → response_count h ≤ length h
unfolding response_count
few_responses h = most (responds_at h) (length h)

-- nor more snoops
pub few_snoops : (h : Trace) → snooped_count h ≤ length h
unfolding snooped_count live_count
few_snoops h =
    let a = most (λ i. is_some (snoop_end_of h i)) (count_where (is_live h) (length h)) in
    let b = most (is_live h) (length h) in omega (arith, a, b)

pub snooped-empty : 0 ≡ snooped_count []
snooped-empty = let few = few_snoops [] in omega (arith, few)

pub last-empty : None ≡ last_snoop_end []
unfolding last_snoop_end value_before
last-empty = rw (sym snooped-empty) refl
