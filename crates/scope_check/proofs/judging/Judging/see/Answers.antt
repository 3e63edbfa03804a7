use Rattle.scope_check.proofs.judging.Judging.see.Goals as goal

pub returns-in-Before-clause-many : goal.returns-in-Before-clause-many
returns-in-Before-clause-many c p m es s = c.wait.ensures.many p m es s c.in-Before.is

pub returns-in-Inside-clause-many : goal.returns-in-Inside-clause-many
returns-in-Inside-clause-many c p m es s = c.go_on.ensures.many p m es s c.in-Inside.is

pub returns-in-After-clause-many : goal.returns-in-After-clause-many
returns-in-After-clause-many c p m es s = c.pass.ensures.many p m es s c.in-After.is
