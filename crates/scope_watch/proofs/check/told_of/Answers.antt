use Rattle.std.proofs.Common.{arith, refl, subst, sym}
use Rattle.vcd_way.specs.Events.{samples_among}
use Rattle.scope_ring.specs.Ring.{Stands as RingStands}
use Rattle.scope_watch.specs.Checking.{kept_to}
use Rattle.scope_watch.proofs.check.told_of.Goals as goal

pub returns-in-Ok-clause-told : goal.returns-in-Ok-clause-told
returns-in-Ok-clause-told c = λ p m es stands fed. (
  c.in-Ok.ensures.judged p m es stands,
  refl,
  refl,
  subst (λ o. RingStands c.args.judge.last (kept_to o (samples_among es))) (sym (c.in-Ok.ensures.fault p m es stands)) fed,
)

pub returns-in-Err-clause-many : goal.returns-in-Err-clause-many
returns-in-Err-clause-many c = λ p m es s. let full = c.in-Err.ensures.many p m es s in omega (arith, full)
