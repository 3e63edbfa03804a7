use Rattle.std.proofs.Common.{◌∙◌, rules, tests}
use Rattle.std.proofs.lemmas.Iterator.Consumers.{YieldsList-from_rest}
use Rattle.std.proofs.lemmas.Iterator.Search.{find_from_yields_List}
use Rattle.fsb_bench_view.specs.BusDecisions.{is_cancelled_by}
use Rattle.fsb_bus.proofs.bus.Bus.cancelled.Goals as goal

pub returns : goal.returns
returns c =
    c.copied.ensures
    ∙ find_from_yields_List (is_cancelled_by c.args.clock) _ _ _ c.find.ensures.ran
    (YieldsList-from_rest c.args.self.now.queue c.iter.ensures) (λ x b q k. search (rules, tests))
