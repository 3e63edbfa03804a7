-- The last clock of a run that has grown by it: what is said of it is said of the whole run.
use Rattle.fsb_bench_run.proofs.Words
use Words.{ℕ, ◌≡◌, true, List, [], ◌∷◌, length, nat_eq, refl, arith, list_all, take_all, filter-append, Done}
use Words.{is_in_time, GrowsTo, Run, entries_to, past_of, past_to, Part, holds_at, holds_in, length-moments, run-ends}
use Words.{longer}

-- a log that ends below a clock has no entry above it
old-entries : (first n : ℕ) (log : List Done) → is_in_time first n log ≡ true → entries_to n log ≡ log
unfolding is_in_time entries_to
old-entries first n [] e = refl
old-entries first n (done ∷ log) e = grind (arith, old-entries done.clock n log)

-- nor have the entries of the clock
new-entries : (n : ℕ) (log : List Done) → list_all (λ done. nat_eq done.clock n) log ≡ true → entries_to n log ≡ log
unfolding entries_to
new-entries n [] e = refl
new-entries n (done ∷ log) e = grind (arith, new-entries n log)

-- the past up to the last clock is the whole past
pub past-now : (r s : Run) → GrowsTo r s → past_to (past_of s) (length r.trace) ≡ past_of s
unfolding past_to past_of entries_to
past-now r s grows = grind (arith, longer, length-moments, take_all, old-entries, new-entries, filter-append)

-- a part holds at the last clock where its test of the whole run passes there
pub holds-now : (part : Part) (r s : Run) → GrowsTo r s → part s (past_of s) (length r.trace) ≡ true
    → holds_at part s (length r.trace) ≡ true
unfolding holds_at holds_in
holds-now part r s grows e = grind (arith, run-ends, past-now)
