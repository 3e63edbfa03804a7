-- The moments of a run, and what the whole trace says.
use Rattle.std.proofs.Common.{ℕ, zero, suc, ◌+◌, ◌<◌, ◌≤◌, ◌≡◌, Bool, false, Option, Some, None, length, take, drop}
use Rattle.std.proofs.Common.{slice_get, refl, sym, ap, ◌∙◌, arith}
use Rattle.std.proofs.lemmas.List.{length-take-le, take-append-drop}
use Rattle.std.specs.Option.{option_and_then}
use Rattle.fsb_count.specs.Options.{is_at}
use Rattle.fsb_count.proofs.Interface.{first_where-found, first_where-at, is_at-some, is_at-from, slice_get-end}
use Rattle.fsb_signal.proofs.Interface.{slice_get-before}
use Rattle.fsb_trace.specs.At.{Trace}
use Rattle.fsb_trace.specs.Agree.{AgreeTo}
use Rattle.fsb_trace.specs.Requests.{live_count, live_clock_of}
use Rattle.fsb_trace.specs.Snoop.{snoop_end_of}
use Rattle.fsb_trace.proofs.Interface.{AgreeTo-sym, live_below_count, snoop_end_of-clock, snoop_end_of-stays}
use Rattle.fsb_trace.proofs.Interface.{live_clock_of-stays}
use Rattle.fsb_timely.specs.Moments.{moment_at, snoop_at, snoop_end_if_begun, snoop_end_for, snoop_end_with}
use Rattle.fsb_timely.specs.Moments.{number_snooped_at, turns_in, effective_choice}
use Rattle.fsb_timely.specs.Past.{SnoopEnd, Moment}
use Rattle.fsb_timely.specs.Runs.{past_with, next_moment, Run, run_to, moments_below, past_of}
use Rattle.fsb_timely.specs.Grants.{snooped_at}
use Rattle.fsb_timely.proofs.Beginnings.{length-moments}
use Rattle.fsb_timely.proofs.OneEnd.{one_end}

-- the moment of clock t of a run
abbrev pub moment_of : Run → ℕ → Moment
moment_of r t = next_moment r (moments_below r t) t

-- the moment of a clock is at its place
pub moment-at : (r : Run) (n t : ℕ) → t < n → slice_get (moments_below r n) t ≡ Some (moment_of r t)
unfolding moments_below
moment-at r zero t l = absurd (omega arith)
moment-at r (suc n) t l = grind (arith, slice_get-before, length-moments, slice_get-end, moment-at r n t)

-- a trace that is cut agrees up to the cut
pub cut-agrees : (w : Trace) (n : ℕ) → n ≤ length w → AgreeTo n w (take n w)
cut-agrees w n l = record {
  left = l;
  right = let e = length-take-le n w l in omega arith;
  same = λ c m. ap (λ v. slice_get v c) (sym (take-append-drop n w))
      ∙ slice_get-before (take n w) (drop n w) c (let e = length-take-le n w l in omega arith);
}

-- the request whose snoop end is t is found as such
pub number-found : (w : Trace) (i t : ℕ) → snoop_end_of w i ≡ Some t → number_snooped_at w t ≡ Some i
unfolding number_snooped_at
number-found w i t e =
    let h = snoop_end_of-clock w i t e in
    first_where-at (λ j. is_at (snoop_end_of w j) t) (live_count w) i (live_below_count w i h.clock h.is_clock)
    (is_at-from (snoop_end_of w i) t e) (λ k l. not_before k l (is_at (snoop_end_of w k) t) refl)
  where
    not_before : (k : ℕ) → k < i → (b : Bool) → is_at (snoop_end_of w k) t ≡ b → is_at (snoop_end_of w k) t ≡ false
    not_before k h1 b h2 = grind (arith, one_end, is_at-some)

-- and what is found as such is it
pub number-says : (w : Trace) (i t : ℕ) → number_snooped_at w t ≡ Some i → snoop_end_of w i ≡ Some t
unfolding number_snooped_at
number-says w i t e = grind (arith, first_where-found, is_at-some)

-- the snoop end that the moment of t has
pub snooped-there : (r : Run) (t : ℕ) → t < length r.trace → snooped_at (past_of r) t ≡ (moment_of r t).snooped
unfolding snooped_at past_of
snooped-there r t l = ap (option_and_then (λ moment. moment.snooped)) (moment-at r (length r.trace) t l)

-- what the moment of t has of live request i, whose first clock is q
abbrev pub snoop_of : Run → ℕ → ℕ → ℕ → SnoopEnd
snoop_of r t i q =
    snoop_end_with (past_with r (moments_below r t) t) (run_to r t).trace i q t
    (effective_choice r.plan.bridge (run_to r t).choices (run_to r t).trace (turns_in (moments_below r t)) q t).turn

-- the moment of t has the snoop end of the live request that has it there in the run up to t
snooped-as : (r : Run) (t i q : ℕ) → number_snooped_at (run_to r t).trace t ≡ Some i
    → live_clock_of (run_to r t).trace i ≡ Some q → (moment_of r t).snooped ≡ Some (snoop_of r t i q)
unfolding snoop_at snoop_end_if_begun snoop_end_for moment_at
snooped-as r t i q e f = rw (e, snoop_at, snoop_end_if_begun, f) refl

-- the run up to t and the run agree up to t
pub run_to-agrees : (r : Run) (t : ℕ) → t < length r.trace → AgreeTo (t + 1) r.trace (run_to r t).trace
unfolding run_to
run_to-agrees r t l = cut-agrees r.trace (t + 1) (omega arith)

-- where t is the snoop end of a live request of the whole trace, the moment of t has it
pub moment-snooped : (r : Run) (i t q : ℕ) → snoop_end_of r.trace i ≡ Some t → live_clock_of r.trace i ≡ Some q
    → (moment_of r t).snooped ≡ Some (snoop_of r t i q)
moment-snooped r i t q e f =
    let h = snoop_end_of-clock r.trace i t e in
    let same : q ≡ h.clock = (let e' = sym f ∙ h.is_clock in cc) in
    let above = h.above in
    let agree = run_to-agrees r t h.within in
    let there = snoop_end_of-stays (t + 1) r.trace (run_to r t).trace i t agree (omega arith) e in
    let clock = live_clock_of-stays (t + 1) r.trace (run_to r t).trace i q agree (omega arith) f in
    snooped-as r t i q (number-found (run_to r t).trace i t there) clock

-- and where it is none, the moment has none
no_number : (r : Run) (t : ℕ) → t < length r.trace → (o : Option ℕ) → number_snooped_at (run_to r t).trace t ≡ o
    → number_snooped_at r.trace t ≡ None → number_snooped_at (run_to r t).trace t ≡ None
no_number r t l None e none = e
no_number r t l (Some i) e none =
    let back = AgreeTo-sym (t + 1) r.trace (run_to r t).trace (run_to-agrees r t l) in
    let there = snoop_end_of-stays (t + 1) (run_to r t).trace r.trace i t back (omega arith)
    (number-says (run_to r t).trace i t e) in
    absurd (let h : ⊥ = (let e' = sym none ∙ number-found r.trace i t there in cc) in h)

pub moment-quiet : (r : Run) (t : ℕ) → t < length r.trace → number_snooped_at r.trace t ≡ None
    → (moment_of r t).snooped ≡ None
unfolding snoop_at moment_at
moment-quiet r t l none = grind (arith, no_number)
