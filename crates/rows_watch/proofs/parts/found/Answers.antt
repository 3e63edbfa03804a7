use Rattle.std.proofs.Common.{◌≡◌, List, sym, subst}
use Rattle.fsb_signal.specs.declared.marks.Marks.{Marks}
use Rattle.vcd_way.specs.Events.{DumpEvent}
use Rattle.scope_parts.specs.declared.judge.PartsJudge.{PartsJudge}
use Rattle.scope_parts.specs.declared.plan.Plan.{Plan}
use Rattle.scope_parts.specs.Standing.{Stands}
use Rattle.rows_watch.proofs.parts.found.Goals as goal
use Rattle.rows_watch.proofs.parts.found.Goals.{in-Some+in_ok-take, in_default}

-- the judge stands for some events
abbrev IsStanding : PartsJudge → Type 0
IsStanding j = (p : Plan) × (m : Marks) × (es : List DumpEvent) × Stands j p m es

stands_as : (j k : PartsJudge) (p : Plan) (m : Marks) (es : List DumpEvent) → j ≡ k → Stands k p m es → IsStanding j
stands_as j k p m es same s = (p, m, es, subst (λ (x : PartsJudge). Stands x p m es) (sym same) s)

pub loop-letter-preserved : goal.loop-letter-preserved
loop-letter-preserved c =
    let i = c.loop-letter.invariant in
    elim c.match-told.branch [
      | in-Some+in_ok-take w ↦ stands_as _ _ i.0 i.1 _ w.judge-is (w.in_ok-take.ensures.stands i.0 i.1 i.2 i.3)
      | in_default w ↦ stands_as _ _ i.0 i.1 i.2 w.judge-is i.3
    ]
