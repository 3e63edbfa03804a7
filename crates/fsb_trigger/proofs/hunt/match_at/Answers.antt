use Rattle.std.proofs.Common.{◌≡◌, ◌+◌, ◌-◌, ◌++◌, ◌∷◌, [], ℕ, List, length, sym, ap, ◌∙◌, below_more, arith}
use Rattle.std.proofs.lemmas.List.{length-map}
use Rattle.fsb_signal.specs.declared.sample.Sample.{Sample}
use Rattle.fsb_trigger.specs.TriggerSteps.{view_of}
use Rattle.fsb_trigger.specs.Match.{newest_match}
use Rattle.fsb_trigger.specs.Hunt.{KeepsAt, kept, steps_in}
use Rattle.fsb_trigger.proofs.Taken.{taken-stays, keeps-same}
use Rattle.fsb_trigger.proofs.hunt.match_at.Goals as goal

pub returns-clause-newest : goal.returns-clause-newest
returns-clause-newest c = λ h e k.
    let steps = steps_in c.args.trigger.now in
    let v : List Sample = h ++ c.args.sample.now ∷ [] in
    let many = length-map c.args.trigger.now.steps.items view_of in
    let one : c.len-last.result - 1 + 1 ≡ length steps =
    omega (arith, c.len-last.ensures.value, c.args.trigger.now.some, many) in
    let last : c.len-last.result - 1 ≡ length steps - 1 = omega (arith, one) in
    ap (λ n. kept n c.chain_to-found.result) (sym one)
    ∙ c.chain_to-found.ensures h e (λ i l. k.each i (omega (arith, l, one)))
    ∙ ap (newest_match steps v) last

pub returns-clause-keeps : goal.returns-clause-keeps
returns-clause-keeps c = λ h e k none.
    let steps = steps_in c.args.trigger.now in
    let v : List Sample = h ++ c.args.sample.now ∷ [] in
    let last : ℕ = c.len-last.result - 1 in
    let many = length-map c.args.trigger.now.steps.items view_of in
    let one : last + 1 ≡ length steps = omega (arith, c.len-last.ensures.value, c.args.trigger.now.some, many) in
    let newest = c.chain_to-found.ensures h e (λ i l. k.each i (omega (arith, l, one))) in
    let stays = taken-stays c.args.latest.now steps h c.args.sample.now last (k.each last (omega (arith, one)))
    (ap (kept (last + 1)) (sym none) ∙ newest) in
    let here = keeps-same c.take_below.new.latest c.args.latest.now steps v last
    (c.take_below.ensures.rest_stays last (omega arith)) stays in
    record {
      each = λ i l. below_more (λ i. KeepsAt c.take_below.new.latest steps v i) last
          (c.take_below.ensures.keeps h e (λ i l. k.each i (omega (arith, l, one)))) here i (omega (arith, l, one));
    }
