use Rattle.std.proofs.Common.{◌≡◌, length, sym, ap, ◌∙◌, arith}
use Rattle.std.proofs.lemmas.Option.{slice_get_within}
use Rattle.fsb_phase.proofs.Interface.{none_is}
use Rattle.fsb_flight.specs.Steps.{settle_first}
use Rattle.fsb_flight.proofs.ListSteps.{settle_first-at, settle_first-none, length-settled_at}
use Rattle.fsb_flight.proofs.clock.settle_first.Goals as goal

pub returns-then-is_none : goal.returns-then-is_none
returns-then-is_none c =
    let same : c.loop-i.queue ≡ c.args.queue.now = c.loop-i.invariant.same in
    let size : length c.settle.new.self ≡ length c.args.queue.now =
    ap length c.settle.ensures ∙ length-settled_at c.loop-i.i c.args.outcome c.loop-i.queue ∙ ap length same in
    record {
      entries =
          c.settle.ensures
          ∙ sym (settle_first-at c.args.outcome c.loop-i.queue c.loop-i.i c.in-Some.e (sym c.at.ensures
          ∙ sym c.copied.ensures ∙ c.in-Some.is)
          (none_is c.in-Some.e.outcome c.if-is_none.ensures) (λ j y l e. c.loop-i.invariant.outcomes j y l e))
          ∙ ap (settle_first c.args.outcome) same;
      room = omega arith;
    }

pub returns : goal.returns
returns c =
    let same : c.loop-i.queue ≡ c.args.queue.now = c.loop-i.invariant.same in
    let size : length c.loop-i.queue ≡ length c.args.queue.now = ap length same in
    record {
      entries =
          sym (settle_first-none c.args.outcome c.loop-i.queue
          (λ j y e. c.loop-i.invariant.outcomes j y (let within = slice_get_within c.loop-i.queue j y e in
          omega (arith, c.len-i-end.ensures.len)) e))
          ∙ ap (settle_first c.args.outcome) same;
      room = omega arith;
    }
