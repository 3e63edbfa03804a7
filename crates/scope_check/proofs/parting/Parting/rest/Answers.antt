use Rattle.std.proofs.Common.{◌++◌, ◌∷◌, [], refl, sym, subst}
use Rattle.vcd_way.specs.Events.{Hole, Resumed}
use Rattle.scope_check.specs.declared.judging.Phase.{Phase}
use Rattle.scope_check.specs.Parting.{HasParted}
use Rattle.scope_check.proofs.Samples.{samples_hole, samples_resumed}
use Rattle.scope_check.proofs.PartTurns.{rests}
use Rattle.scope_check.proofs.parting.Parting.rest.Goals as goal

pub returns-clause-hole : goal.returns-clause-hole
returns-clause-hole c p es w t s =
    let g = c.args.self.now in
    subst (λ (ph : Phase). HasParted (record g { quiet = 0; phase = ph }) p (es ++ Hole t ∷ []) w)
    (sym c.rested-self.ensures)
    (rests g.phase g p es w (Hole t) ((λ xs. samples_hole xs t), refl, refl) s s.stage)

pub returns-clause-resumed : goal.returns-clause-resumed
returns-clause-resumed c p es w t s =
    let g = c.args.self.now in
    subst (λ (ph : Phase). HasParted (record g { quiet = 0; phase = ph }) p (es ++ Resumed t ∷ []) w)
    (sym c.rested-self.ensures)
    (rests g.phase g p es w (Resumed t) ((λ xs. samples_resumed xs t), refl, refl) s s.stage)
