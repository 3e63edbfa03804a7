use Rattle.scope_way.proofs.Strictness.{strict_lawful}
use Rattle.scope_way.proofs.laws.strict_is_lawful.Goals as goal

pub returns : goal.returns
returns c = strict_lawful
