use Rattle.std.proofs.Common.{refl, ◌∙◌}
use Rattle.fsb_owner_laws.proofs.Interface.{unheld_settled}
use Rattle.fsb_owner_judge.proofs.Standing.{at_start}
use Rattle.fsb_owner_judge.proofs.judge.OwnerJudge.from_reset.Goals as goal

pub returns-clause-stands : goal.returns-clause-stands
returns-clause-stands c =
    at_start _ _ unheld_settled refl (λ line. c.new.ensures.kept line ∙ c.unheld.ensures) c.new.ensures.spoiled refl
