-- `Kept` by itself: caches and memory that are those of a run, and ones that differ in one thing.
use Rattle.std.proofs.Common.{◌≡◌, ◌<◌, ℕ, true, false, refl, sym, ap, ◌∙◌, List, [], ◌∷◌, take, replicate, slice_index}
use Rattle.std.proofs.Common.{IsTrue, nat_eq, if◌then◌else◌, arith, lit<}
use Rattle.std.proofs.lemmas.Bool.Decides.{nat_tests}
use Rattle.fsb_line.specs.declared.state.Mesi.{Mesi}
use Rattle.fsb_line.specs.declared.state.Mesi.TheVariants.{Invalid, Shared, Exclusive, Modified}
use Rattle.fsb_timely.specs.Runs.{Run, past_of}
use Rattle.fsb_timely.specs.Grants.{holds_line, is_ready}
use Rattle.fsb_timely.specs.Kept.{Kept, is_named}
use Rattle.rows_timely.proofs.Opened.{opened}
use Rattle.rows_timely.proofs.LaidOut.{run_of}
use Rattle.rows_timely.proofs.LoadThenStoreHit.{run as hit_run}
use Rattle.rows_timely.proofs.DirtyVictimWrittenBack.{run as victim_run}
use Rattle.rows_timely.proofs.StoreHandedOverBeforeArrival.{run as handed_run}
use Rattle.rows_timely.proofs.ThreeStoresChained.{run as chained_run}
use Rattle.rows_timely.proofs.RetriedLoad.{run as retried_run}
use Rattle.rows_timely.proofs.LockedItemRetried.{run as locked_run}

-- the load's line is held, and its bytes are still to come
abbrev pub awaited : Run
awaited = run_of hit_run.plan (take 9 hit_run.trace) []

-- the bytes that the plan sets
abbrev pub old_bytes : List ℕ
old_bytes = 7 ∷ replicate 31 0

-- with the store
abbrev pub new_bytes : List ℕ
new_bytes = 7 ∷ 5 ∷ replicate 30 0

-- the scripts name one line
named_hit : (line : ℕ) → IsTrue (is_named hit_run line) → line ≡ 2
unfolding opened
named_hit line n = grind (arith, nat_tests)

named_awaited : (line : ℕ) → IsTrue (is_named awaited line) → line ≡ 2
unfolding opened
named_awaited line n = grind (arith, nat_tests)

first : (a : ℕ) → a < 1 → a ≡ 0
first a l = omega arith

-- after the store the owner has its bytes, and memory those before it
pub stored_is_kept : Kept hit_run (λ a line. Modified) (λ a line. new_bytes) (λ line. old_bytes)
unfolding opened
stored_is_kept = record {
  invalid = λ a line l n e.
      let here : holds_line (past_of hit_run) a line 60 ≡ true = rw (first a l, named_hit line n) refl in
      absurd (let f : true ≡ false = sym here ∙ e in cc);
  states = λ a line l n held ready. rw (first a l, named_hit line n) refl;
  copies = λ a line l n held ready. rw (named_hit line n) refl;
  put = λ line n. rw (named_hit line n) refl;
}

-- a line whose bytes are still to come need not be in the cache
pub awaited_is_kept : Kept awaited (λ a line. Invalid) (λ a line. []) (λ line. old_bytes)
unfolding opened
awaited_is_kept = record {
  invalid = λ a line l n e. refl;
  states = λ a line l n held ready.
      let not_yet : is_ready (past_of awaited) a line 9 ≡ false = rw (first a l, named_awaited line n) refl in
      absurd (let f : true ≡ false = sym ready ∙ not_yet in cc);
  copies = λ a line l n held ready.
      let not_yet : is_ready (past_of awaited) a line 9 ≡ false = rw (first a l, named_awaited line n) refl in
      absurd (let f : true ≡ false = sym ready ∙ not_yet in cc);
  put = λ line n. rw (named_awaited line n) refl;
}

-- the owner's line stands as clean
pub clean_is_not_kept : ¬ Kept hit_run (λ a line. Exclusive) (λ a line. new_bytes) (λ line. old_bytes)
unfolding opened
clean_is_not_kept k = absurd (let f : Exclusive ≡ Modified = k.states 0 2 (lit< tt) refl refl refl in cc)

-- the owner has the bytes without the store
pub old_copy_is_not_kept : ¬ Kept hit_run (λ a line. Modified) (λ a line. old_bytes) (λ line. old_bytes)
unfolding opened
old_copy_is_not_kept k =
    absurd (let f : 0 ≡ 5 = ap (λ bytes. slice_index bytes 1) (k.copies 0 2 (lit< tt) refl refl refl) in omega arith)

-- memory has the store, which was not written back
pub new_memory_is_not_kept : ¬ Kept hit_run (λ a line. Modified) (λ a line. new_bytes) (λ line. new_bytes)
unfolding opened
new_memory_is_not_kept k =
    absurd (let f : 5 ≡ 0 = ap (λ bytes. slice_index bytes 1) (k.put 2 refl) in omega arith)

-- a line that was dropped stands as shared
pub dropped_line_is_not_kept :
    (bytes : ℕ → ℕ → List ℕ) (memory : ℕ → List ℕ) → ¬ Kept victim_run (λ a line. Shared) bytes memory
unfolding opened
dropped_line_is_not_kept bytes memory k =
    absurd (let f : Shared ≡ Invalid = k.invalid 0 4 (lit< tt) refl refl in cc)

-- the second agent's line, into which it stored, stands as Invalid
pub second_state_is_not_kept :
    (bytes : ℕ → ℕ → List ℕ) (memory : ℕ → List ℕ) → ¬ Kept handed_run (λ a line. Invalid) bytes memory
unfolding opened
second_state_is_not_kept bytes memory k =
    absurd (let f : Invalid ≡ Modified = k.states 1 2 (lit< tt) refl refl refl in cc)

-- the second agent's copy is without its store
pub second_copy_is_not_kept :
    (state : ℕ → ℕ → Mesi) (memory : ℕ → List ℕ)
    → ¬ Kept handed_run state (λ a line. 1 ∷ replicate 31 0) memory
unfolding opened
second_copy_is_not_kept state memory k =
    absurd (let f : 1 ≡ 2 = ap (λ bytes. slice_index bytes 0) (k.copies 1 2 (lit< tt) refl refl refl) in omega arith)

-- the second of three owners still has the line, which the first has no more
pub second_loss_is_not_kept :
    (bytes : ℕ → ℕ → List ℕ) (memory : ℕ → List ℕ)
    → ¬ Kept chained_run (λ a line. if nat_eq a 0 then Invalid else Shared) bytes memory
unfolding opened
second_loss_is_not_kept bytes memory k =
    absurd (let f : Shared ≡ Invalid = k.invalid 1 2 (lit< tt) refl refl in cc)

-- a line that its agent has alone and clean stands as shared
pub shared_for_exclusive_is_not_kept :
    (bytes : ℕ → ℕ → List ℕ) (memory : ℕ → List ℕ) → ¬ Kept retried_run (λ a line. Shared) bytes memory
unfolding opened
shared_for_exclusive_is_not_kept bytes memory k =
    absurd (let f : Shared ≡ Exclusive = k.states 0 2 (lit< tt) refl refl refl in cc)

-- memory has the last store of a line that was handed over, which stands in its owner's cache alone
pub last_store_in_memory_is_not_kept :
    (state : ℕ → ℕ → Mesi) (bytes : ℕ → ℕ → List ℕ)
    → ¬ Kept handed_run state bytes (λ line. 2 ∷ replicate 31 0)
unfolding opened
last_store_in_memory_is_not_kept state bytes k =
    absurd (let f : 2 ≡ 1 = ap (λ bytes. slice_index bytes 0) (k.put 2 refl) in omega arith)

-- both lines of a locked item are named, and no other one
pub locked_lines_are_named :
    (is_named locked_run 2 ≡ true) × (is_named locked_run 4 ≡ true) × (is_named locked_run 3 ≡ false)
unfolding opened
locked_lines_are_named = (refl, refl, refl)

-- memory has something of the second line of a locked item, which was never put there
pub second_line_of_lock_is_not_kept :
    (state : ℕ → ℕ → Mesi) (bytes : ℕ → ℕ → List ℕ)
    → ¬ Kept locked_run state bytes (λ line. if nat_eq line 4 then 9 ∷ replicate 31 0 else replicate 32 0)
unfolding opened
second_line_of_lock_is_not_kept state bytes k =
    absurd (let f : 9 ≡ 0 = ap (λ bytes. slice_index bytes 0) (k.put 4 refl) in omega arith)
