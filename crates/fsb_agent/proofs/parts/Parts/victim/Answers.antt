use Rattle.std.proofs.Common.{sym, ◌∙◌}
use Rattle.fsb_agent.specs.Parts.{parts_view}
use Rattle.fsb_agent.proofs.Victims.{victim-clean, victim-same, victim-yes}
use Rattle.fsb_agent.proofs.parts.Parts.victim.Goals as goal
use Rattle.fsb_agent.proofs.parts.Parts.victim.Goals.{else-other-line-via-then-other-line+else-is_modified}
use Rattle.fsb_agent.proofs.parts.Parts.victim.Goals.{else-other-line-via-else-other-line}

pub returns-then-is_modified : goal.returns-then-is_modified
returns-then-is_modified c =
    victim-yes (parts_view c.args.self.now) c.args.line c.in_ok-other.other c.requires
    (sym c.resident.ensures.sets ∙ c.in_ok-other.was) c.if-other-line.true
    (sym c.is_modified.ensures ∙ c.if-is_modified.true)

pub returns-else-other-line : goal.returns-else-other-line
returns-else-other-line c =
    elim c.else-other-line.branch [
      | else-other-line-via-then-other-line+else-is_modified w ↦
          victim-clean (parts_view c.args.self.now) c.args.line c.in_ok-other.other c.requires
          (sym c.resident.ensures.sets ∙ c.in_ok-other.was) (sym w.is_modified.ensures ∙ w.if-is_modified.false)
      | else-other-line-via-else-other-line w ↦
          victim-same (parts_view c.args.self.now) c.args.line c.in_ok-other.other c.requires
          (sym c.resident.ensures.sets ∙ c.in_ok-other.was) w.if-other-line.false
    ]
