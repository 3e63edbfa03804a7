-- The names so far are those of the lines so far.
use Rattle.std.proofs.Common.{◌≡◌, map, take}
use Rattle.serde_json.specs.View.{view}
use Rattle.fsb_signal.specs.ControlLines.{line_names}
use Rattle.reason_facts.specs.Unknown.{names_in}
use Rattle.reason_facts.proofs.unknown.names_value.Given as goal

abbrev pub invariant-loop-number : goal.invariant-loop-number
invariant-loop-number l = map view l.list.items ≡ names_in l.lines (take l.number line_names)
