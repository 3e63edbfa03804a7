use Rattle.std.proofs.Common.{sym, ◌∙◌}
use Rattle.fsb_agent.specs.Parts.{parts_view}
use Rattle.fsb_agent.proofs.Performing.{few_items}
use Rattle.fsb_agent.proofs.Ready.{met-ready, within_items}
use Rattle.fsb_agent.proofs.SoundPerforming.{met-hit}
use Rattle.fsb_agent.proofs.parts.Parts.perform.Goals as goal

pub complete-requires-clause-script : goal.complete-requires-clause-script
complete-requires-clause-script c = few_items _ c.args.self.now.script c.requires.sound.script

pub complete-requires-clause-there : goal.complete-requires-clause-there
complete-requires-clause-there c =
    let next = met-hit (parts_view c.args.self.now) c.args.clock (sym c.is_hit.ensures ∙ c.if-is_hit.true) in
    within_items c.args.self.now.script c.args.self.now.place next.item next.there

pub complete-requires-clause-performable : goal.complete-requires-clause-performable
complete-requires-clause-performable c =
    met-ready (parts_view c.args.self.now) c.args.self.now.hand.cache _ c.requires.sound.script
    (met-hit (parts_view c.args.self.now) c.args.clock (sym c.is_hit.ensures ∙ c.if-is_hit.true))
