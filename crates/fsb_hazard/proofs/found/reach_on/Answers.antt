use Rattle.std.proofs.Common.{arith, ap, ◌∙◌}
use Rattle.std.specs.List.{list_any}
use Rattle.fsb_hazard.specs.Found.{is_within}
use Rattle.fsb_hazard.proofs.HeldClocks.{reached-more, reached-all, in_order-reached, same-reached}
use Rattle.fsb_hazard.proofs.found.reach_on.Goals as goal

pub loop-clocks-preserved : goal.loop-clocks-preserved
loop-clocks-preserved c =
    let l = c.loop-clocks in
    reached-more l.clocks-items c.args.held.now l.clocks-index l.last c.max-last.result (record { first = 0; last = 0 })
    (omega (arith, c.loop-clocks-test.true, l.auto.clocks-items)) l.invariant c.max-last.ensures

pub returns-clause-same : goal.returns-clause-same
returns-clause-same c clock =
    let l = c.loop-clocks in
    ap (list_any (is_within clock)) (reached-all l.clocks-items c.args.held.now l.clocks-index l.last
    (omega (arith, c.loop-clocks-test.false, l.auto.clocks-items)) l.invariant)
    ∙ same-reached clock c.args.held.now c.requires

pub returns-clause-in_order : goal.returns-clause-in_order
returns-clause-in_order c =
    let l = c.loop-clocks in
    rw (reached-all l.clocks-items c.args.held.now l.clocks-index l.last
    (omega (arith, c.loop-clocks-test.false, l.auto.clocks-items)) l.invariant)
    (in_order-reached c.args.held.now c.requires)
