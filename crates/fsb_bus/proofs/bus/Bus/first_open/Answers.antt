use Rattle.std.proofs.Common.{is_none, ◌∙◌, rules, tests}
use Rattle.std.proofs.lemmas.Iterator.Consumers.{YieldsList-from_rest}
use Rattle.std.proofs.lemmas.Iterator.Search.{find_from_yields_List}
use Rattle.fsb_queue.specs.declared.entry.Entry.{Entry}
use Rattle.fsb_bus.proofs.bus.Bus.first_open.Goals as goal

pub returns : goal.returns
returns c =
    c.copied.ensures
    ∙ find_from_yields_List (λ (entry : Entry). is_none entry.outcome) _ _ _ c.find.ensures.ran
    (YieldsList-from_rest c.args.self.now.queue c.iter.ensures) (λ x b q k. search (rules, tests))
