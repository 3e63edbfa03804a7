-- A clock that a run has passed stays as it is, by however many clocks the run goes on.
use Rattle.std.proofs.Common.{ℕ, zero, suc, ◌+◌, ◌<◌, ◌≤◌, ◌≡◌, true, nat_le, nat_eq, List, [], ◌∷◌, ◌++◌, length}
use Rattle.std.proofs.Common.{take, IsTrue, ◌↔◌, ap, refl, ◌∙◌, arith, append-nil}
use Rattle.std.specs.List.{list_all}
use Rattle.std.proofs.lemmas.List.{take-append-le, length-append}
use Rattle.fsb_signal.proofs.Interface.{slice_get-before}
use Rattle.std.proofs.lemmas.List.Elements.{filter-append}
use Rattle.fsb_access.specs.declared.log.Done.{Done}
use Rattle.fsb_count.proofs.Interface.{count_where-same, count_where-mono}
use Rattle.fsb_trace.specs.At.{Trace}
use Rattle.fsb_trace.specs.Agree.{AgreeTo}
use Rattle.fsb_trace.proofs.Interface.{line_at-agree}
use Rattle.fsb_timely.specs.Carried.{carries_data}
use Rattle.fsb_timely.specs.Growth.{IsNext, IsWhole}
use Rattle.fsb_timely.specs.Runs.{Run, requests_below, entries_to, run_to, moments_below, past_of, past_to}
use Rattle.fsb_timely.specs.RunsGoOn.{IsBeginning}
use Rattle.fsb_timely.specs.Timely.{Part, holds_at, holds_in, IsTimelyAt}

-- samples more at the end
pub agree-more : (w more : Trace) → AgreeTo (length w) (w ++ more) w
agree-more w more = grind (arith, length-append, slice_get-before)

-- requests below a clock that was passed
pub requests-kept : (w more : Trace) (n : ℕ) → n ≤ length w → requests_below (w ++ more) n ≡ requests_below w n
unfolding requests_below
requests-kept w more n l = grind (arith, count_where-same, line_at-agree, agree-more)

-- entries at n or later are none up to an earlier clock
entries-none : (c n : ℕ) (entries : List Done) → c < n → list_all (λ done. nat_le n done.clock) entries ≡ true
    → entries_to c entries ≡ []
unfolding entries_to
entries-none c n [] l e = refl
entries-none c n (done ∷ entries) l e = grind (arith, entries-none c n entries l)

entries-kept : (c n : ℕ) (log entries : List Done) → c < n
    → list_all (λ done. nat_le n done.clock) entries ≡ true → entries_to c (log ++ entries) ≡ entries_to c log
unfolding entries_to
entries-kept c n log entries l e = grind (arith, filter-append, entries-none, append-nil)

log-kept : (r s : Run) (c : ℕ) → IsBeginning r s → c < length r.trace → entries_to c s.log ≡ entries_to c r.log
log-kept r s c on l =
    ap (entries_to c) on.more_log ∙ entries-kept c (length r.trace) r.log on.entries l on.later

-- the run up to a clock that was passed
pub run_to-kept : (r s : Run) (c : ℕ) → IsBeginning r s → IsWhole r → c < length r.trace → run_to s c ≡ run_to r c
unfolding run_to requests_below
run_to-kept r s c on whole l = grind (arith, requests-kept, take-append-le, count_where-mono, log-kept)

pub length-moments : (r : Run) (n : ℕ) → length (moments_below r n) ≡ n
unfolding moments_below
length-moments r zero = refl
length-moments r (suc n) = grind (arith, length-append, length-moments r n)

-- the moments of clocks that were passed
pub moments-kept : (r s : Run) (n : ℕ) → IsBeginning r s → IsWhole r → n ≤ length r.trace
    → moments_below s n ≡ moments_below r n
unfolding moments_below
moments-kept r s zero on whole l = refl
moments-kept r s (suc n) on whole l = grind (arith, run_to-kept, log-kept, moments-kept r s n on whole (omega arith))

-- the first moments of more clocks
first-moments : (s : Run) (m n k : ℕ) → m ≤ n → take m (moments_below s (n + k)) ≡ take m (moments_below s n)
unfolding moments_below
first-moments s m n zero l =
    ap (λ j. take m (moments_below s j)) (let none : n + 0 ≡ n = omega arith in none)
first-moments s m n (suc k) l =
    let longer : n + suc k ≡ suc (n + k) = omega arith in
    grind (arith, take-append-le, length-moments, first-moments s m n k l)

-- the past up to a clock that was passed
pub past-kept : (r s : Run) (c : ℕ) → IsBeginning r s → IsWhole r → c < length r.trace
    → past_to (past_of s) c ≡ past_to (past_of r) c
unfolding past_to past_of
past-kept r s c on whole l = grind (arith, length-append, first-moments, moments-kept, log-kept)

-- what was said of a clock that was passed
pub holds_at-kept : (part : Part) (r s : Run) (c : ℕ) → IsBeginning r s → IsWhole r → c < length r.trace
    → holds_at part s c ≡ holds_at part r c
unfolding holds_at holds_in
holds_at-kept part r s c on whole l = grind (arith, run_to-kept, past-kept)

-- entries of one clock are of that clock or a later one
pub entries-later : (n : ℕ) (entries : List Done) → list_all (λ done. nat_eq done.clock n) entries ≡ true
    → list_all (λ done. nat_le n done.clock) entries ≡ true
entries-later n [] e = refl
entries-later n (done ∷ entries) e = grind (arith, entries-later n entries)

-- a run is a beginning of itself with one more clock
pub next-begins : (r s : Run) → IsNext r s → IsBeginning r s
next-begins r s next = record {
  samples = next.sample ∷ [];
  holds = next.hold ∷ [];
  choices = next.choices;
  entries = next.entries;
  same_plan = next.same_plan;
  more_trace = next.more_trace;
  more_holds = next.more_holds;
  more_choices = next.more_choices;
  more_log = next.more_log;
  later = entries-later (length r.trace) next.entries next.at_end;
}

pub timely-kept : (r s : Run) (c : ℕ) → IsBeginning r s → IsWhole r → c < length r.trace
    → IsTimelyAt r c ↔ IsTimelyAt s c
timely-kept r s c on whole l = grind (arith, holds_at-kept)

pub carried-kept : (r s : Run) (c : ℕ) → IsBeginning r s → IsWhole r → c < length r.trace
    → IsTrue (holds_at carries_data r c) ↔ IsTrue (holds_at carries_data s c)
carried-kept r s c on whole l = grind (arith, holds_at-kept)
