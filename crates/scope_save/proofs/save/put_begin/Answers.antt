use Rattle.std.proofs.lemmas.Result.{on_ok_weaker}
use Rattle.scope_save.proofs.Steps.{three-put}
use Rattle.scope_save.proofs.save.put_begin.Goals as goal

pub returns : goal.returns
returns c =
    on_ok_weaker c.put-2.result (λ h. three-put _ _ _ _ _ _ _ c.in_ok-put.ensures c.in_ok-put_number.ensures h) c.put-2.ensures
