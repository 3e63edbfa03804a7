use Rattle.std.proofs.Common.{◌&&◌, not, sym, ap, ◌∙◌}
use Rattle.fsb_owner_judge.proofs.RuleForms.{hit-none, hit-some}
use Rattle.fsb_owner_judge.proofs.lines.OwnerLines.is_hit_wrong.Goals as goal

pub returns-in-Some : goal.returns-in-Some
returns-in-Some c = λ first v d k e.
    let end = c.in-Some.end in
    c.has_wrong_hit.ensures
    ∙ ap (λ b. not b && (end.is_reply && end.is_hit_wrong)) (c.is_spoiled.ensures ∙ k end.line)
    ∙ hit-some first v d end (sym e ∙ c.in-Some.is)

pub returns-in-None : goal.returns-in-None
returns-in-None c = λ first v d k e. hit-none first v d (sym e ∙ c.in-None.is)
