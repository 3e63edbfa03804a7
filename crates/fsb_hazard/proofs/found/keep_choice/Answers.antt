use Rattle.std.proofs.Common.{◌≡◌, cond, Some, sym, ap, ◌∙◌}
use Rattle.std.specs.Ordering.{nat_cmp, is_eq}
use Rattle.std.specs.BTreeMap.{get}
use Rattle.fsb_hazard.specs.Choice.{join}
use Rattle.fsb_hazard.specs.Entry.{choice_of}
use Rattle.fsb_hazard.specs.Found.{chosen}
use Rattle.fsb_hazard.proofs.FoundEntries.{chosen-some}
use Rattle.fsb_hazard.proofs.found.keep_choice.Goals as goal

pub returns : goal.returns
returns c number request =
    let old = c.args.choices.now in
    let k = c.in-Some.number in
    let said : c.join-choice.result ≡ join (chosen old k) (choice_of c.args.line.now) =
    c.join-choice.ensures ∙ ap (λ a. join a c.choice_of.result) c.chosen.ensures
    ∙ ap (join (chosen old k)) c.choice_of.ensures in
    chosen-some old c.insert.new.self c.args.line.now k number request (sym c.request_of.ensures ∙ c.in-Some.is)
    (c.in_ok-insert.ensures.updates.0 number
    ∙ ap (λ a. cond (is_eq (nat_cmp k number)) (Some a) (get nat_cmp old number)) said)
