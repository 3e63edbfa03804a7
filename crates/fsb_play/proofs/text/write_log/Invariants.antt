use Rattle.std.proofs.Common.{◌≡◌, ◌++◌, IsTrue, length, ◌≤◌, drop}
use Rattle.std.specs.List.{flat_map}
use Rattle.fsb_io.proofs.Interface.{Written}
use Rattle.fsb_report.specs.LogText.{log_text, log_line_text, end_line_text}
use Rattle.fsb_play.proofs.text.write_log.Given as goal

abbrev pub invariant-loop-done : goal.invariant-loop-done
invariant-loop-done g l =
    (IsTrue g.O.Sink.tells
    → Written (log_text l.clocks l.of l.log)
    (flat_map log_line_text (drop l.done-index l.log) ++ end_line_text l.clocks (length l.log) l.of)
    (g.O.Sink.holds l.initial.out) (g.O.Sink.holds l.out))
    × (IsTrue g.O.Sink.tells → g.O.Sink.begun_as l.out ≡ g.O.Sink.begun_as l.initial.out)
    × (g.O.Sink.faults l.initial.out ≤ g.O.Sink.faults l.out)
