use Rattle.scope_way.proofs.Picked.{picked_are_lawful}
use Rattle.scope_way.proofs.laws.picked_wires_are_lawful.Goals as goal

pub returns : goal.returns
returns c = picked_are_lawful
