use Rattle.std.proofs.Common.{sym, ◌∙◌}
use Rattle.fsb_agent.specs.Parts.{parts_view}
use Rattle.fsb_agent.proofs.Outlooks.{want-foreseen, want-idling}
use Rattle.fsb_agent.proofs.parts.Parts.want_foreseen.Goals as goal

pub returns-then-is_idle : goal.returns-then-is_idle
returns-then-is_idle c =
    want-idling (parts_view c.args.self.now) c.args.clock (sym c.is_idle.ensures ∙ c.if-is_idle.true)

pub returns-else-is_idle : goal.returns-else-is_idle
returns-else-is_idle c =
    c.requires.outlook.want
    ∙ want-foreseen (parts_view c.args.self.now) c.args.clock c.requires.unfinished
    (sym c.is_idle.ensures ∙ c.if-is_idle.false)
