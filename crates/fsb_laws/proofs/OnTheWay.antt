-- Which data are on the way in an orderly trace: those of the request that responded last, if any.
use Rattle.std.proofs.Common.{ℕ, suc, ◌+◌, ◌<◌, ◌≤◌, ◌≡◌, Bool, true, false, Some, None, length, refl, sym, ◌∙◌, arith}
use Rattle.std.proofs.Common.{inl, inr, subst}
use Rattle.std.proofs.lemmas.Bool.{cases_lt, cases_eq, and_left, and_right, le-ltb}
use Rattle.fsb_count.specs.Options.{is_some_and}
use Rattle.fsb_count.specs.Clocks.{count_where, from_clock}
use Rattle.fsb_count.proofs.Interface.{any_where-at, any_where-off, count_where-mono, count_where-passed}
use Rattle.fsb_count.proofs.Interface.{nth_where-found}
use Rattle.fsb_signal.specs.declared.lines.TheConstants.Lines.{DRDY}
use Rattle.fsb_signal.specs.Samples.{line_at}
use Rattle.fsb_trace.specs.At.{Trace}
use Rattle.fsb_trace.specs.Requests.{live_count}
use Rattle.fsb_trace.specs.Outcome.{response_clock_of, moves_data}
use Rattle.fsb_trace.specs.Response.{end_of}
use Rattle.fsb_trace.specs.Rules.{is_transferring_of, is_transferring}
use Rattle.fsb_trace.proofs.Interface.{snoop_end_of-clock, end_of-moving, live_below_count}
use Rattle.fsb_laws.specs.Orderly.{Orderly}
use Rattle.fsb_laws.specs.Progress.{response_count}
use Rattle.fsb_laws.proofs.ResponseSteps.{has_answer, response_there, response_past}
use Rattle.fsb_laws.proofs.EndFacts.{transferring_form, clear_parts}

-- without a response nothing is on the way
not_without : (w : Trace) (m i : ℕ) → response_clock_of w i ≡ None → is_transferring_of w m i ≡ false
unfolding is_transferring_of is_some_and
not_without w m i e = rw e (and_right _ _ refl)

-- where the end is below m the data came below m
enough : (w : Trace) (m i r e : ℕ) → response_clock_of w i ≡ Some r → moves_data w i ≡ true
    → end_of w i ≡ Some e → e < m → 4 ≤ count_where (from_clock r (line_at DRDY w)) m
enough w m i r e f t g l =
    let p = nth_where-found (from_clock r (line_at DRDY w)) 3 (length w) e (sym (end_of-moving w i r t f) ∙ g) in
    let one = count_where-passed (from_clock r (line_at DRDY w)) e p.1 in
    let more = count_where-mono (from_clock r (line_at DRDY w)) (e + 1) m (omega arith) in
    omega (arith, p.2)

ended_cases : (w : Trace) (m i r e : ℕ) (b : Bool) → response_clock_of w i ≡ Some r → moves_data w i ≡ b
    → end_of w i ≡ Some e → e < m → is_transferring_of w m i ≡ false
ended_cases w m i r e true f t g l =
    let four = enough w m i r e f t g l in
    transferring_form w m i r f ∙ and_right _ _ (le-ltb (count_where (from_clock r (line_at DRDY w)) m) 4 four)
ended_cases w m i r e false f t g l = transferring_form w m i r f ∙ and_left _ _ t

-- of a request before the last one to respond, nothing is on the way at the last clock or after it
before_last : (w : Trace) (m i last : ℕ) → Orderly w → response_count w ≡ suc last → i < last → length w ≤ m + 1
    → is_transferring_of w m i ≡ false
before_last w m i last o c l k =
    let p = response_there w (suc i) (omega arith) in
    let a = has_answer w p.0 (suc i) (o.timely (suc i) p.0 p.1) in
    let e = clear_parts w i p.0 a.clear in
    let r = response_there w i (omega arith) in
    ended_cases w m i r.0 e.0 (moves_data w i) r.1 refl e.1 (omega (arith, e.2, p.2))

of_others : (w : Trace) (m i last : ℕ) → Orderly w → response_count w ≡ suc last → (i ≡ last → ⊥)
    → length w ≤ m + 1 → is_transferring_of w m i ≡ false
of_others w m i last o c other k =
    elim (cases_lt i last) [
      | inl l ↦ before_last w m i last o c l k
      | inr l ↦ not_without w m i (response_past w i (omega (arith, other)))
    ]

pub last_is_live : (w : Trace) (i : ℕ) → Orderly w → i < response_count w → i < live_count w
last_is_live w i o l =
    let p = response_there w i l in
    let a = has_answer w p.0 i (o.timely i p.0 p.1) in
    let c = snoop_end_of-clock w i a.snoop a.is_snoop in
    live_below_count w i c.clock c.is_clock

by_last : (w : Trace) (m last : ℕ) (b : Bool) → Orderly w → response_count w ≡ suc last → length w ≤ m + 1
    → is_transferring_of w m last ≡ b → is_transferring w m ≡ b
unfolding is_transferring
by_last w m last true o c k e =
    any_where-at (is_transferring_of w m) (live_count w) last (last_is_live w last o (omega arith)) e
by_last w m last false o c k e =
    any_where-off (is_transferring_of w m) (live_count w) (λ i l.
    elim (cases_eq i last) [
      | inl same ↦ subst (λ j. is_transferring_of w m j ≡ false) (sym same) e
      | inr other ↦ of_others w m i last o c other k
    ])

pub is_transferring-last : (w : Trace) (m last : ℕ) → Orderly w → response_count w ≡ suc last → length w ≤ m + 1
    → is_transferring w m ≡ is_transferring_of w m last
is_transferring-last w m last o c k = by_last w m last (is_transferring_of w m last) o c k refl

pub is_transferring-none : (w : Trace) (m : ℕ) → response_count w ≡ 0 → is_transferring w m ≡ false
unfolding is_transferring
is_transferring-none w m c =
    any_where-off (is_transferring_of w m) (live_count w) (λ i l. not_without w m i (response_past w i (omega arith)))
