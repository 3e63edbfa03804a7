use Rattle.std.proofs.Common.{sym, subst, ◌∙◌}
use Rattle.std.specs.Prelude.{IfSome}
use Rattle.fsb_cache.specs.Sets.{CacheSets}
use Rattle.fsb_agent_view.specs.AgentViews.{next_item_by}
use Rattle.fsb_agent.specs.Parts.{IsPerformable, parts_view}
use Rattle.fsb_agent.proofs.Performing.{few_items}
use Rattle.fsb_agent.proofs.Ready.{met-ready, within_items}
use Rattle.fsb_agent.proofs.SoundArriving.{met-arrival}
use Rattle.fsb_agent.proofs.SoundWinning.{only_out, room_only}
use Rattle.fsb_agent_view.specs.Arriving.{with_bytes}
use Rattle.fsb_agent.proofs.parts.Parts.meet.Goals as goal

pub fill-requires-clause-room : goal.fill-requires-clause-room
fill-requires-clause-room c = room_only c.args.self.now.hand.cache c.args.out.now.request.line
    (only_out (parts_view c.args.self.now) c.args.out.now c.requires.sound c.requires.found)

pub complete-requires-clause-script : goal.complete-requires-clause-script
complete-requires-clause-script c = few_items _ c.args.self.now.script c.requires.sound.script

pub complete-requires-clause-there : goal.complete-requires-clause-there
complete-requires-clause-there c =
    let next = met-arrival (parts_view c.args.self.now) c.args.clock c.args.out.now c.args.bytes
    c.requires.sound c.requires.found (sym c.is_arrival-completes.ensures ∙ c.if-completes.true) in
    within_items c.args.self.now.script c.args.self.now.place next.item next.there

pub complete-requires-clause-performable : goal.complete-requires-clause-performable
complete-requires-clause-performable c =
    let v = parts_view c.args.self.now in
    let next = met-arrival v c.args.clock c.args.out.now c.args.bytes c.requires.sound c.requires.found
    (sym c.is_arrival-completes.ensures ∙ c.if-completes.true) in
    subst (λ (lines : CacheSets). IfSome (next_item_by v) (IsPerformable lines)) (sym c.fill.ensures.sets)
    (met-ready (with_bytes v c.args.out.now.request.line c.args.bytes)
    (with_bytes v c.args.out.now.request.line c.args.bytes).lines _ c.requires.sound.script next)
