use Rattle.std.proofs.Common.{sym}
use Rattle.std.proofs.lemmas.List.{take_all}
use Rattle.vcd_read.proofs.machine.first_of.Goals as goal

pub returns-then-digits-le65-clause-first : goal.returns-then-digits-le65-clause-first
returns-then-digits-le65-clause-first c = sym (take_all 65 c.args.digits.now c.if-digits-le65.true)
