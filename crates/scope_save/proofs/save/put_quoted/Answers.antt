use Rattle.std.proofs.lemmas.Result.{on_ok_weaker}
use Rattle.scope_save.proofs.Steps.{three-put}
use Rattle.scope_save.proofs.save.put_quoted.Goals as goal

pub returns : goal.returns
returns c =
    on_ok_weaker c.put-3.result (λ h. three-put _ _ _ _ _ _ _ c.in_ok-put.ensures c.in_ok-put-2.ensures h) c.put-3.ensures
