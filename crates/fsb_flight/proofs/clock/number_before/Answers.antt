use Rattle.std.proofs.Common.{◌≡◌, ◌+◌, nat_eq, sym, ap, ◌∙◌, rules, tests}
use Rattle.std.specs.Option.{option_map}
use Rattle.std.proofs.lemmas.Iterator.Consumers.{YieldsList-from_rest}
use Rattle.std.proofs.lemmas.Iterator.Search.{find_from_yields_List}
use Rattle.fsb_flight.specs.Steps.{number_before}
use Rattle.fsb_flight.proofs.ListSteps.{number_before-find}
use Rattle.fsb_flight.proofs.clock.number_before.Goals.{After-copied-found}
use Rattle.fsb_flight.proofs.clock.number_before.Goals as goal

-- the number of what was found is the one that is looked for
found : (c : After-copied-found)
    → number_before c.args.clock c.args.queue.now ≡ option_map (λ e. e.number) c.copied-found.result
found c =
    number_before-find c.args.clock c.args.queue.now
    ∙ ap (option_map (λ e. e.number)) (sym (c.copied-found.ensures
    ∙ find_from_yields_List (λ e. nat_eq (e.clock + 3) c.args.clock) _ _ _ c.find.ensures.ran
    (YieldsList-from_rest c.args.queue.now c.iter.ensures) (λ x b q k. search (rules, tests))))

pub returns-in-Some : goal.returns-in-Some
returns-in-Some c = sym (found (goal.at.returns-in-Some c).After-copied-found
    ∙ ap (option_map (λ e. e.number)) c.in-Some.is)

pub returns-in-None : goal.returns-in-None
returns-in-None c = sym (found (goal.at.returns-in-None c).After-copied-found
    ∙ ap (option_map (λ e. e.number)) c.in-None.is)
