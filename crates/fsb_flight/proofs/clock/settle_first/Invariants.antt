use Rattle.std.proofs.Common.{ℕ, ◌<◌, ◌≡◌, slice_get, Some, is_none, false}
use Rattle.fsb_queue.specs.declared.entry.Entry.{Entry}
use Rattle.fsb_flight.proofs.clock.settle_first.Given as goal

-- nothing has changed, and the entries so far have an outcome
abbrev pub invariant-loop-i : goal.invariant-loop-i
invariant-loop-i l = record {
  same : l.queue ≡ l.initial.queue;
  outcomes : (k : ℕ) (e : Entry) → k < l.i → slice_get l.queue k ≡ Some e → is_none e.outcome ≡ false;
}
