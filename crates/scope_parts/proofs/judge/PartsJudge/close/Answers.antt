use Rattle.std.proofs.Common.{[], subst}
use Rattle.scope_check.specs.declared.part.Part.{Part}
use Rattle.scope_parts.specs.Standing.{Remembers}
use Rattle.scope_parts.proofs.judge.PartsJudge.close.Goals as goal

pub returns-clause-latest : goal.returns-clause-latest
returns-clause-latest c =
    let m = c.args.self.now.marks in
    let part = c.later_part-part.result in
    subst (λ (p : Part). Remembers c.first-self.result p m []) c.later_part-part.ensures
    (c.first-self.ensures part m (c.judged.ensures part m [] c.new-self.ensures))
