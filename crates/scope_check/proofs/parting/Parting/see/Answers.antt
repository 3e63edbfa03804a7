use Rattle.scope_check.proofs.parting.Parting.see.Goals as goal

pub returns-in-Before-clause-many : goal.returns-in-Before-clause-many
returns-in-Before-clause-many c p es w s = c.wait.ensures.many p es w s c.in-Before.is

pub returns-in-Inside-clause-many : goal.returns-in-Inside-clause-many
returns-in-Inside-clause-many c p es w s = c.go_on.ensures.many p es w s c.in-Inside.is
