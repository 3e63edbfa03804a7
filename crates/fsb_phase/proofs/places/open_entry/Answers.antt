use Rattle.std.proofs.Common.{is_none, ◌∙◌, rules, tests}
use Rattle.std.proofs.lemmas.Iterator.Consumers.{YieldsList-from_rest}
use Rattle.std.proofs.lemmas.Iterator.Search.{find_from_yields_List}
use Rattle.fsb_phase.proofs.places.open_entry.Goals as goal

pub returns : goal.returns
returns c =
    c.copied.ensures
    ∙ find_from_yields_List (λ e. is_none e.outcome) _ _ _ c.find.ensures.ran
    (YieldsList-from_rest c.args.queue.now c.iter.ensures) (λ x b q k. search (rules, tests))
