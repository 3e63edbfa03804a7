use Rattle.std.proofs.Common.{refl, ◌∙◌}
use Rattle.fsb_owner_laws.proofs.Interface.{every_settled}
use Rattle.fsb_owner_judge.proofs.Standing.{at_start}
use Rattle.fsb_owner_judge.proofs.judge.OwnerJudge.from_within.Goals as goal

pub returns-clause-stands : goal.returns-clause-stands
returns-clause-stands c =
    at_start _ _ every_settled refl (λ line. c.new.ensures.kept line ∙ c.every.ensures) c.new.ensures.spoiled refl
