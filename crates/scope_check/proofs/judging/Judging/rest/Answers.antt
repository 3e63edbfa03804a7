use Rattle.std.proofs.Common.{◌++◌, ◌∷◌, [], refl}
use Rattle.vcd_way.specs.Events.{Hole, Resumed}
use Rattle.scope_check.proofs.Samples.{samples_hole, samples_resumed}
use Rattle.scope_check.proofs.Turns.{rests_as, rests_at}
use Rattle.scope_check.proofs.judging.Judging.rest.Goals as goal

pub returns-clause-hole : goal.returns-clause-hole
returns-clause-hole c p m es t s =
    let j = c.args.self.now in
    rests_as j c.stopped-self.result c.rested-self.result p m (es ++ Hole t ∷ []) c.stopped-self.ensures c.rested-self.ensures
    (rests_at j.phase j p m es (Hole t) ((λ xs. samples_hole xs t), refl, refl) s s.stage)

pub returns-clause-resumed : goal.returns-clause-resumed
returns-clause-resumed c p m es t s =
    let j = c.args.self.now in
    rests_as j c.stopped-self.result c.rested-self.result p m (es ++ Resumed t ∷ []) c.stopped-self.ensures
    c.rested-self.ensures
    (rests_at j.phase j p m es (Resumed t) ((λ xs. samples_resumed xs t), refl, refl) s s.stage)
