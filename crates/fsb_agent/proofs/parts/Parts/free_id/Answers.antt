use Rattle.std.proofs.Common.{◌+◌, ◌*◌, ◌<◌, refl, sym, ◌∙◌, length, arith}
use Rattle.fsb_count.specs.Clocks.{first_where}
use Rattle.fsb_agent.specs.Parts.{parts_view}
use Rattle.fsb_agent.proofs.FreeIds.{free_id-found, free_id-next}
use Rattle.fsb_agent.proofs.parts.Parts.free_id.Goals as goal

pub loop-n-init : goal.loop-n-init
unfolding first_where
loop-n-init c = refl

pub returns-then-not-is_id_used : goal.returns-then-not-is_id_used
returns-then-not-is_id_used c =
    let within : c.loop-n.n < length c.args.self.now.outs.items + 1 =
    omega (arith, c.len.ensures.value, c.loop-n-test.true) in
    free_id-found (parts_view c.args.self.now) c.loop-n.n (c.args.self.now.number * 16) refl c.loop-n.invariant
    (sym c.is_id_used.ensures ∙ c.if-not-is_id_used.true) within

pub loop-n-preserved : goal.loop-n-preserved
loop-n-preserved c =
    free_id-next (parts_view c.args.self.now) c.loop-n.n (c.args.self.now.number * 16) refl c.loop-n.invariant
    (sym c.is_id_used.ensures ∙ c.if-not-is_id_used.false)
