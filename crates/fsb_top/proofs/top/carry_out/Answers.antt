use Rattle.std.proofs.Common.{refl}
use Rattle.fsb_top.proofs.top.carry_out.Goals as goal

pub returns-in-Run-clause-ends : goal.returns-in-Run-clause-ends
returns-in-Run-clause-ends g c = rw c.in-Run.is c.run_file.ensures.ends

pub returns-in-Gen-clause-ends : goal.returns-in-Gen-clause-ends
returns-in-Gen-clause-ends g c = rw c.in-Gen.is (refl, c.run_made.ensures.ends)

pub returns-in-Look-clause-ends : goal.returns-in-Look-clause-ends
returns-in-Look-clause-ends g c = rw c.in-Look.is (refl, c.look_file.ensures.ends)
