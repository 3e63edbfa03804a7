use Rattle.fsb_owner_judge.proofs.Walks.{walked-one}
use Rattle.fsb_owner_judge.proofs.lines.OwnerLines.walk.Goals as goal

pub returns-clause-sets : goal.returns-clause-sets
returns-clause-sets c = λ v d b e r m line.
    walked-one v d c.args.wait.now.line c.args.self.now.sets c.insert.new.self c.walked_set-next.result c.in_ok-insert.ensures.sets
    (c.walked_set-next.ensures v d b e r m) line
