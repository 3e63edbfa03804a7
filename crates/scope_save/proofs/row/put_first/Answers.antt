use Rattle.std.proofs.lemmas.Result.{on_ok_weaker}
use Rattle.std.proofs.Common.{◌≡◌, ◌∙◌, ◌++◌, ap}
use Rattle.scope_save.specs.SaveText.{first_text}
use Rattle.scope_save.proofs.Steps.{five-put}
use Rattle.scope_save.proofs.row.put_first.Goals as goal

pub returns : goal.returns
unfolding first_text
returns c =
    on_ok_weaker c.put-4.result
    (λ h. five-put _ _ _ _ _ _ _ _ _ _ _ c.in_ok-put.ensures
    (c.in_ok-put-2.ensures ∙ ap (λ r. c.put.new.text.items ++ r) c.radix_of.ensures) c.in_ok-put-3.ensures
    c.in_ok-put_by.ensures
    h)
    c.put-4.ensures
