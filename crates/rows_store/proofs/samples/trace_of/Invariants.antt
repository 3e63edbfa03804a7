use Rattle.std.proofs.Common.{◌≡◌, IsTrue, length}
use Rattle.std.specs.List.{list_all}
use Rattle.fsb_signal.specs.Parity.{has_no_parity}
use Rattle.fsb_signal.specs.Samples.{is_known_trace}
use Rattle.rows_store.proofs.samples.trace_of.Given as goal

-- each clock so far has its sample, no bit of them is unknown, and none has parity
abbrev pub invariant-loop-at : goal.invariant-loop-at
invariant-loop-at l =
    (length l.w.items ≡ l.at) × IsTrue (is_known_trace l.w.items) × IsTrue (list_all has_no_parity l.w.items)
