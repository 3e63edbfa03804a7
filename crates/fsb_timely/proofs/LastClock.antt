-- The last clock of a run: up to it the run is itself.
use Rattle.std.proofs.Common.{ℕ, ◌+◌, ◌<◌, ◌≡◌, true, false, nat_eq, List, [], ◌∷◌, ◌++◌, length, sym, ap, refl, ◌∙◌}
use Rattle.std.proofs.Common.{arith}
use Rattle.std.specs.List.{filter, list_all}
use Rattle.std.proofs.lemmas.List.{length-append, take_all}
use Rattle.std.proofs.lemmas.List.Elements.{filter-append}
use Rattle.fsb_access.specs.declared.log.Done.{Done}
use Rattle.fsb_timely.specs.Completions.{is_in_time}
use Rattle.fsb_timely.specs.Growth.{IsWhole, GrowsTo, past_at_growth, moment_at_growth}
use Rattle.fsb_timely.specs.Runs.{Run, entries_to, run_to, moments_below, past_of, past_to}
use Rattle.fsb_timely.proofs.Beginnings.{length-moments}
use Rattle.fsb_timely.proofs.Next.{moments-same, run_to-same, past-same, in_time-next}

-- a log that ends below a clock has no entry above it
whole_log : (first n : ℕ) (log : List Done) → is_in_time first (n + 1) log ≡ true → entries_to n log ≡ log
unfolding is_in_time entries_to
whole_log first n [] e = refl
whole_log first n (done ∷ log) e = grind (arith, whole_log done.clock n log)

log_in_time : (s : Run) (n : ℕ) → is_in_time 0 (length s.trace) s.log ≡ true → length s.trace ≡ n + 1
    → entries_to n s.log ≡ s.log
log_in_time s n in_time e = whole_log 0 n s.log (sym (ap (λ k. is_in_time 0 k s.log) e) ∙ in_time)

-- the run up to its last clock
run_end : (s : Run) (n : ℕ) → IsWhole s → is_in_time 0 (length s.trace) s.log ≡ true → length s.trace ≡ n + 1
    → run_to s n ≡ s
unfolding run_to
run_end s n whole in_time e = grind (arith, take_all, log_in_time)

past_end : (s : Run) (n : ℕ) → is_in_time 0 (length s.trace) s.log ≡ true → length s.trace ≡ n + 1
    → past_to (past_of s) n ≡ past_of s
unfolding past_to past_of
past_end s n in_time e = grind (arith, length-moments, take_all, log_in_time)

before : (r s : Run) → GrowsTo r s → IsWhole r
before r s grows = record { one_hold = grows.timely.one_hold; one_choice = grows.timely.one_choice }

grown : (r s : Run) → GrowsTo r s → length s.trace ≡ length r.trace + 1
grown r s grows = ap length grows.next.more_trace ∙ length-append r.trace (grows.next.sample ∷ [])

grown_in_time : (r s : Run) → GrowsTo r s → is_in_time 0 (length s.trace) s.log ≡ true
grown_in_time r s grows = in_time-next r s grows.next grows.timely.in_time

pub run-ends : (r s : Run) → GrowsTo r s → run_to s (length r.trace) ≡ s
run-ends r s grows = run_end s (length r.trace) grows.whole (grown_in_time r s grows) (grown r s grows)

pub past-ends : (r s : Run) → GrowsTo r s → past_to (past_of s) (length r.trace) ≡ past_of s
past-ends r s grows = past_end s (length r.trace) (grown_in_time r s grows) (grown r s grows)

pub run-before : (r s : Run) (n : ℕ) → GrowsTo r s → n + 1 ≡ length r.trace → run_to s n ≡ r
run-before r s n grows e =
    run_to-same r s n grows.next (before r s grows) (omega (arith, e))
    ∙ run_end r n (before r s grows) grows.timely.in_time (sym e)

pub past-before : (r s : Run) (n : ℕ) → GrowsTo r s → n + 1 ≡ length r.trace → past_to (past_of s) n ≡ past_of r
past-before r s n grows e =
    past-same r s n grows.next (before r s grows) (omega (arith, e)) ∙ past_end r n grows.timely.in_time (sym e)

-- the new moment
pub moments-grow : (r s : Run) → GrowsTo r s → (past_of s).moments ≡ (past_of r).moments ++ moment_at_growth r s ∷ []
unfolding past_of moments_below moment_at_growth past_at_growth
moments-grow r s grows =
    let n = length r.trace in
    let before = moments-same r s n grows.next (before r s grows) (omega arith) in
    grind (arith, log_in_time, grown_in_time, grown, run-ends)

differs : (k n : ℕ) → k < n → nat_eq k n ≡ false
differs k n l = grind arith

-- no entry of a log is at the clock below which it ends
none_at_end : (first n : ℕ) (log : List Done) → is_in_time first n log ≡ true
    → filter (λ done. nat_eq done.clock n) log ≡ []
unfolding is_in_time
none_at_end first n [] e = refl
none_at_end first n (done ∷ log) e = grind (arith, none_at_end done.clock n log)

all_at_clock : (n : ℕ) (entries : List Done) → list_all (λ done. nat_eq done.clock n) entries ≡ true
    → filter (λ done. nat_eq done.clock n) entries ≡ entries
all_at_clock n [] e = refl
all_at_clock n (done ∷ entries) e = grind (arith, all_at_clock n entries)

pub entries-grow : (r s : Run) (grows : GrowsTo r s)
    → filter (λ done. nat_eq done.clock (length r.trace)) s.log ≡ grows.next.entries
entries-grow r s grows =
    let n = length r.trace in
    let old = none_at_end 0 n r.log grows.timely.in_time in
    let new = all_at_clock n grows.next.entries grows.next.at_end in
    grind (arith, filter-append)
