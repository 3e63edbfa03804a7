-- How the numbers of a trace lie to one another.
use Rattle.std.proofs.Common.{ℕ, zero, suc, ◌+◌, ◌-◌, ◌<◌, ◌≤◌, ◌≡◌, true, Option, Some, None, length, max, refl, sym}
use Rattle.std.proofs.Common.{subst, arith, not, inl, inr}
use Rattle.std.specs.Option.{option_map}
use Rattle.std.proofs.lemmas.Bool.{cases_order, and_parts, leb-true, ltb-false, not-true}
use Rattle.fsb_count.specs.Options.{is_some_and, is_before, greater_of}
use Rattle.fsb_count.proofs.Interface.{nth_where-rises}
use Rattle.fsb_signal.specs.declared.lines.TheConstants.Lines.{ADS}
use Rattle.fsb_signal.specs.Samples.{line_at}
use Rattle.fsb_trace.specs.At.{Trace}
use Rattle.fsb_trace.specs.Requests.{first_clock_of, is_live, live_clock_of}
use Rattle.fsb_trace.specs.Snoop.{is_every_second_from, start_after_clock, start_after_end, snoop_end_of}
use Rattle.fsb_trace.specs.Snoop.{snoop_start_of, is_snoop_clock_of}
use Rattle.fsb_trace.proofs.Stay.{snoop_end_of-before}

pub first_clock_of-rises : (w : Trace) (j k p q : ℕ) → j < k → first_clock_of w j ≡ Some p
    → first_clock_of w k ≡ Some q → p < q
unfolding first_clock_of
first_clock_of-rises w j k p q = nth_where-rises (line_at ADS w) j k (length w) p q

pub live_clock_of-rises : (w : Trace) (i j p q : ℕ) → i < j → live_clock_of w i ≡ Some p
    → live_clock_of w j ≡ Some q → p < q
unfolding live_clock_of
live_clock_of-rises w i j p q = nth_where-rises (is_live w) i j (length w) p q

rise_by : (w : Trace) (i k t : ℕ) → snoop_end_of w (i + k + 1) ≡ Some t
    → (s : ℕ) × (snoop_end_of w i ≡ Some s) × (s + 3 ≤ t)
rise_by w i zero t e = snoop_end_of-before w i t (rw (let same : i + zero + 1 ≡ i + 1 = omega arith in same) at e)
rise_by w i (suc k) t e =
    let before = snoop_end_of-before w (i + suc k) t e in
    let m : ℕ = before.0 in
    let apart : m + 3 ≤ t = before.2 in
    let same : i + suc k ≡ i + k + 1 = omega arith in
    let ih = rise_by w i k m (let P : ℕ → Type 0 = λ x. snoop_end_of w x ≡ Some m in subst P same before.1) in
    (ih.0, ih.1, (let low : ih.0 + 3 ≤ m = ih.2 in omega arith))

-- where a snoop end is reached, so are those before it, three clocks before at least
pub snoop_end_of-rises : (w : Trace) (i j t : ℕ) → i < j → snoop_end_of w j ≡ Some t
    → (s : ℕ) × (snoop_end_of w i ≡ Some s) × (s + 3 ≤ t)
snoop_end_of-rises w i j t l e =
    let same : i + (j - i - 1) + 1 ≡ j = omega arith in
    rise_by w i (j - i - 1) t (subst (λ m. snoop_end_of w m ≡ Some t) (sym same) e)

start_parts : (a b : Option ℕ) (n : ℕ) → greater_of a (option_map (λ s. s + 3) b) ≡ Some n
    → (t : ℕ) × (b ≡ Some t) × (t + 3 ≤ n)
unfolding greater_of
start_parts None b n e = absurd (let no : ⊥ = cc in no)
start_parts (Some a) None n e = absurd (let no : ⊥ = cc in no)
start_parts (Some a) (Some t) n e = (t, refl, (let top : max a (t + 3) ≡ n = cc in omega arith))

-- a snoop that is not the first starts three clocks after the snoop end before it at least
pub snoop_start_of-after : (w : Trace) (i n : ℕ) → snoop_start_of w (suc i) ≡ Some n
    → (t : ℕ) × (snoop_end_of w i ≡ Some t) × (t + 3 ≤ n)
unfolding snoop_start_of start_after_end
snoop_start_of-after w i n e = start_parts (start_after_clock w (suc i)) (snoop_end_of w i) n e

started : (w : Trace) (c : ℕ) (o : Option ℕ) → is_some_and o (λ start. is_every_second_from start c) ≡ true
    → (n : ℕ) × (o ≡ Some n) × (n ≤ c)
unfolding is_some_and is_every_second_from
started w c None e = absurd (let no : ⊥ = cc in no)
started w c (Some n) e = (n, refl, leb-true n c (and_parts _ _ e).0)

-- a snoop clock is not before its snoop's start, and not after its snoop end
pub snoop_clock-start : (w : Trace) (c i : ℕ) → is_snoop_clock_of w c i ≡ true
    → (n : ℕ) × (snoop_start_of w i ≡ Some n) × (n ≤ c)
unfolding is_snoop_clock_of
snoop_clock-start w c i e = started w c (snoop_start_of w i) ((and_parts _ _ (and_parts _ _ e).0).1)

not_after : (c s : ℕ) (o : Option ℕ) → o ≡ Some s → not (is_before o c) ≡ true → c ≤ s
unfolding is_before is_some_and
not_after c s o e t = ltb-false s c (not-true _ (rw e at t))

snoop_clock-end : (w : Trace) (c i s : ℕ) → is_snoop_clock_of w c i ≡ true → snoop_end_of w i ≡ Some s → c ≤ s
unfolding is_snoop_clock_of
snoop_clock-end w c i s e f = not_after c s (snoop_end_of w i) f (and_parts _ _ e).1

no_later : (w : Trace) (c i j : ℕ) → i < j → is_snoop_clock_of w c i ≡ true → is_snoop_clock_of w c j ≡ true → ⊥
no_later w c i zero l e f = omega arith
no_later w c i (suc j) l e f =
    let start = snoop_clock-start w c (suc j) f in
    let n : ℕ = start.0 in
    let here : n ≤ c = start.2 in
    let before = snoop_start_of-after w j n start.1 in
    let t : ℕ = before.0 in
    let apart : t + 3 ≤ n = before.2 in
    elim (cases_order i j) [
      | inl same ↦
          let low : c ≤ t = snoop_clock-end w c i t e (rw same before.1) in omega arith
      | inr other ↦ elim other [
        | inl less ↦
            let early = snoop_end_of-rises w i j t less before.1 in
            let s : ℕ = early.0 in
            let gap : s + 3 ≤ t = early.2 in
            let low : c ≤ s = snoop_clock-end w c i s e early.1 in omega arith
        | inr more ↦ omega arith
      ]
    ]

-- at most one request has a snoop clock at a clock
pub one_snoop : (w : Trace) (c i j : ℕ) → is_snoop_clock_of w c i ≡ true → is_snoop_clock_of w c j ≡ true → i ≡ j
one_snoop w c i j e f =
    elim (cases_order i j) [
      | inl same ↦ same
      | inr other ↦ elim other [
        | inl less ↦ absurd (no_later w c i j less e f)
        | inr more ↦ absurd (no_later w c j i more f e)
      ]
    ]
