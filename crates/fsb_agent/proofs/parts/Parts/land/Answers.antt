use Rattle.std.proofs.Common.{◌<◌, sym, ap, subst, ◌∙◌, length}
use Rattle.std.specs.Prelude.{IsSome}
use Rattle.fsb_cache.specs.Sets.{Has}
use Rattle.fsb_linebuf.specs.Buffers.{Buffered, fill_on, promise_on}
use Rattle.fsb_agent_view.specs.AgentViews.{AgentView}
use Rattle.fsb_agent.specs.Parts.{parts_view}
use Rattle.fsb_agent.proofs.Ready.{landing-fill, landing-room, met-buffers, met-holds}
use Rattle.fsb_agent.proofs.parts.Parts.land.Goals as goal

pub settle-requires-clause-held : goal.settle-requires-clause-held
settle-requires-clause-held c =
    subst (λ (v : AgentView). Has v.lines c.args.out.now.request.line) (sym c.meet.ensures.agent)
    (met-holds (parts_view c.args.self.now) c.args.clock c.args.out.now c.args.bytes c.requires.sound c.requires.found)

pub settle-requires-clause-fill : goal.settle-requires-clause-fill
settle-requires-clause-fill c =
    subst (λ (b : Buffered). IsSome (fill_on c.args.out.now.request.line b.fills))
    (sym (ap (λ v. v.buffers) c.meet.ensures.agent
    ∙ met-buffers (parts_view c.args.self.now) c.args.clock c.args.out.now c.args.bytes))
    (landing-fill (parts_view c.args.self.now) c.args.out.now c.requires.sound c.requires.found c.requires.granted)

pub settle-requires-clause-room : goal.settle-requires-clause-room
settle-requires-clause-room c =
    subst (λ (b : Buffered). IsSome (promise_on c.args.out.now.request.line b.fills)
    → length b.pushes < 8) (sym (ap (λ v. v.buffers) c.meet.ensures.agent
    ∙ met-buffers (parts_view c.args.self.now) c.args.clock c.args.out.now c.args.bytes))
    (landing-room (parts_view c.args.self.now) c.args.out.now.request.line c.requires.sound)
