-- A clock that a run has passed stays as it is.
use Rattle.std.proofs.Common.{ℕ, suc, ◌+◌, ◌<◌, ◌≤◌, ◌≡◌, true, nat_le, nat_lt, nat_eq, ◌&&◌, List, [], ◌∷◌, ◌++◌}
use Rattle.std.proofs.Common.{length, IsTrue, slice_get, sym, refl, ◌∙◌, arith, below_more}
use Rattle.std.specs.List.{list_all}
use Rattle.std.proofs.lemmas.Bool.{and_parts, eqb-true, le-leb, lt-ltb, ltb-true}
use Rattle.std.proofs.lemmas.List.{length-append}
use Rattle.fsb_signal.proofs.Interface.{slice_get-before}
use Rattle.fsb_access.specs.declared.log.Done.{Done}
use Rattle.fsb_signal.specs.declared.sample.Sample.{Sample}
use Rattle.fsb_signal.specs.Samples.{is_known_trace}
use Rattle.fsb_trace.specs.At.{Trace}
use Rattle.fsb_trace.specs.Agree.{AgreeTo}
use Rattle.fsb_timely.specs.Runs.{Run, requests_below, run_to, moments_below, past_of, past_to}
use Rattle.fsb_timely.specs.Growth.{IsNext, IsWhole, GoesOn}
use Rattle.fsb_timely.specs.Completions.{is_in_time}
use Rattle.fsb_timely.specs.Timely.{Part, holds_at, AtEachClock, IsTimelyAt, Timely}
use Rattle.fsb_timely.proofs.Beginnings.{agree-more, entries-later, holds_at-kept, length-moments, moments-kept}
use Rattle.fsb_timely.proofs.Beginnings.{next-begins, past-kept, requests-kept, run_to-kept}

-- a sample more at the end
pub agree_next : (w : Trace) (s : Sample) → AgreeTo (length w) (w ++ s ∷ []) w
agree_next w s = agree-more w (s ∷ [])

-- requests below a clock that was passed
pub requests-same : (w : Trace) (s : Sample) (n : ℕ) → n ≤ length w
    → requests_below (w ++ s ∷ []) n ≡ requests_below w n
requests-same w s n l = requests-kept w (s ∷ []) n l

-- the run up to a clock that was passed
pub run_to-same : (r s : Run) (c : ℕ) → IsNext r s → IsWhole r → c < length r.trace → run_to s c ≡ run_to r c
run_to-same r s c next whole l = run_to-kept r s c (next-begins r s next) whole l

-- the moments of clocks that were passed
pub moments-same : (r s : Run) (n : ℕ) → IsNext r s → IsWhole r → n ≤ length r.trace
    → moments_below s n ≡ moments_below r n
moments-same r s n next whole l = moments-kept r s n (next-begins r s next) whole l

-- the past up to a clock that was passed
pub past-same : (r s : Run) (c : ℕ) → IsNext r s → IsWhole r → c < length r.trace
    → past_to (past_of s) c ≡ past_to (past_of r) c
past-same r s c next whole l = past-kept r s c (next-begins r s next) whole l

-- what was said of a clock that was passed
pub holds_at-same : (part : Part) (r s : Run) (c : ℕ) → IsNext r s → IsWhole r → c < length r.trace
    → holds_at part s c ≡ holds_at part r c
holds_at-same part r s c next whole l = holds_at-kept part r s c (next-begins r s next) whole l

-- a part that holds at each clock of a run and at the next one
pub each_clock-more : (part : Part) (r s : Run) → IsNext r s → IsWhole r → AtEachClock part r
    → IsTrue (holds_at part s (length r.trace)) → AtEachClock part s
each_clock-more part r s next whole old new = record {
  at = λ c l.
      let longer : length s.trace ≡ suc (length r.trace) = grind (arith, length-append) in
      below_more (λ k. holds_at part s k ≡ true) (length r.trace) (λ k m. holds_at-same part r s k next whole m
      ∙ old.at k m) new c (let m : c < suc (length r.trace) = rw (sym longer) l in omega arith);
}

-- entries of one clock that the log may end at
in_time-same : (first n : ℕ) (entries : List Done) → first ≤ n
    → list_all (λ done. nat_eq done.clock n) entries ≡ true → is_in_time first (n + 1) entries ≡ true
unfolding is_in_time
in_time-same first n [] l e = refl
in_time-same first n (done ∷ entries) l e =
    let parts = and_parts (nat_eq done.clock n) (list_all (λ d. nat_eq d.clock n) entries) e in
    let at : done.clock ≡ n = eqb-true done.clock n parts.0 in
    rw (le-leb first done.clock (omega arith), lt-ltb done.clock (n + 1) (omega arith))
    (in_time-same done.clock n entries (omega arith) parts.1)

-- a log in time, and entries of the next clock
in_time-more : (first n : ℕ) (log entries : List Done) → first ≤ n → is_in_time first n log ≡ true
    → list_all (λ done. nat_eq done.clock n) entries ≡ true → is_in_time first (n + 1) (log ++ entries) ≡ true
unfolding is_in_time
in_time-more first n [] entries l e f = in_time-same first n entries l f
in_time-more first n (done ∷ log) entries l e f =
    let parts = and_parts (nat_le first done.clock) (nat_lt done.clock n && is_in_time done.clock n log) e in
    let rest = and_parts (nat_lt done.clock n) (is_in_time done.clock n log) parts.1 in
    let below : done.clock < n = ltb-true done.clock n rest.0 in
    rw (parts.0, lt-ltb done.clock (n + 1) (omega arith)) (in_time-more done.clock n log entries (omega arith) rest.1 f)

pub in_time-next : (r s : Run) → IsNext r s → is_in_time 0 (length r.trace) r.log ≡ true
    → is_in_time 0 (length s.trace) s.log ≡ true
in_time-next r s next e = grind (arith, length-append, in_time-more)

-- a timely run with one more clock at which the parts hold
pub timely-more : (r s : Run) → Timely r → IsNext r s → IsWhole s → IsTrue (is_known_trace s.trace)
    → IsTimelyAt s (length r.trace) → Timely s
timely-more r s old next whole known new = grind (arith, in_time-next, each_clock-more)

moments-there : (r s : Run) → IsNext r s → IsWhole r → (t : ℕ) → t < length r.trace
    → slice_get (past_of r).moments t ≡ slice_get (past_of s).moments t
unfolding past_of moments_below
moments-there r s next whole t l = grind (arith, length-append, slice_get-before, length-moments, moments-same)

-- the past of a run with one more clock goes on from the past of the run
pub past-goes_on : (r s : Run) → IsNext r s → IsWhole r → GoesOn (length r.trace) (past_of r) (past_of s)
unfolding past_of
past-goes_on r s next whole = grind (arith, moments-there, entries-later)
