-- The values so far are those of the parts so far.
use Rattle.std.proofs.Common.{◌≡◌, map, take}
use Rattle.serde_json.specs.View.{view}
use Rattle.scope_json.specs.Parts.{part_data}
use Rattle.scope_json.proofs.parts.parts_value.Given as goal

abbrev pub invariant-loop-part : goal.invariant-loop-part
invariant-loop-part l = map view l.list.items ≡ map part_data (take l.part-index l.parts)
