use Rattle.std.proofs.Common.{◌∙◌}
use Rattle.fsb_owner_judge.proofs.Standing.{nothing_yet}
use Rattle.fsb_owner_judge.proofs.judge.OwnerJudge.is_spoiled.Goals as goal

pub returns-clause-traced : goal.returns-clause-traced
returns-clause-traced c = λ first h s r none.
    c.is_spoiled.ensures ∙ (s.lines r (nothing_yet c.args.self.now first h r none s)).spoiled c.args.line
