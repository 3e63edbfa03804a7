use Rattle.std.proofs.Common.{List}
use Rattle.vcd_way.specs.Events.{DumpEvent}
use Rattle.fsb_signal.specs.declared.marks.Marks.{Marks}
use Rattle.scope_parts.specs.declared.plan.Plan.{Plan}
use Rattle.scope_parts.specs.Standing.{Stands}
use Rattle.rows_watch.proofs.parts.found.Given as goal

-- the judge stands for some events
abbrev pub invariant-loop-letter : goal.invariant-loop-letter
invariant-loop-letter l = (p : Plan) × (m : Marks) × (es : List DumpEvent) × Stands l.judge p m es
