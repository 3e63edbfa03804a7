use Rattle.std.proofs.Common.{◌+◌, ◌++◌, ◌∷◌, [], sym, subst, ap, ◌∙◌, List, length, arith}
use Rattle.std.proofs.lemmas.List.{length_push}
use Rattle.fsb_signal.specs.declared.sample.Sample.{Sample}
use Rattle.fsb_trigger.specs.TriggerSteps.{StepView}
use Rattle.fsb_trigger.specs.Hunt.{Stands, kept, steps_in}
use Rattle.fsb_trigger.specs.Match.{least_match}
use Rattle.fsb_trigger.specs.declared.hunt.Hunt.{Hunt}
use Rattle.fsb_trigger.proofs.hunt.Hunt.feed.Goals as goal

-- the steps are those of its trigger
own_steps : (hunt : Hunt) (steps : List StepView) (h : List Sample) → Stands hunt steps h
    → Stands hunt (steps_in hunt.trigger) h
own_steps hunt steps h k = subst (λ s. Stands hunt s h) (sym k.searches) k

pub returns-clause-found : goal.returns-clause-found
returns-clause-found c = λ steps h k.
    let self = c.args.self.now in
    c.told.ensures ∙ ap (λ t. kept (length (steps_in t)) c.look.new.self.found) c.look.ensures.trigger_stays
    ∙ c.look.ensures.finds h (own_steps self steps h k)
    ∙ ap (λ s. least_match s (h ++ c.args.sample.now ∷ [])) k.searches

pub returns-clause-stands : goal.returns-clause-stands
returns-clause-stands c = λ steps h k.
    let self = c.args.self.now in
    let own = own_steps self steps h k in
    let v : List Sample = h ++ c.args.sample.now ∷ [] in
    let now = c.look.new.self in
    let new : Hunt = record now { count = now.count + 1 } in
    subst (λ s. Stands new s v) k.searches (record {
      searches = ap (λ t. steps_in t) c.look.ensures.trigger_stays;
      counts = omega (arith, length_push h c.args.sample.now, k.counts, c.look.ensures.count_stays);
      finds = c.look.ensures.finds h own;
      keeps = λ none. c.look.ensures.keeps h own none;
    })
