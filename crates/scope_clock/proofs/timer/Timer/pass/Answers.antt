use Rattle.std.proofs.Common.{arith, refl}
use Rattle.scope_clock.proofs.Timing.{timed-one, times-few}
use Rattle.scope_clock.proofs.timer.Timer.pass.Goals as goal

pub returns-clause-timed : goal.returns-clause-timed
returns-clause-timed c = λ events more clock h one.
    timed-one c.args.self.now _ clock events more c.args.time h one refl refl c.kept-self.ensures

pub returns-then-self-clause-many : goal.returns-then-self-clause-many
returns-then-self-clause-many c = λ e events clock h.
    let few = times-few events in
    let is = h.count in
    omega (arith, few, is, c.if-self.true)
