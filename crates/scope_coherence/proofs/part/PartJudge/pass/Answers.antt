use Rattle.std.proofs.Common.{◌++◌, ◌∷◌, [], ◌+◌, true, sym, subst}
use Rattle.vcd_course.specs.Told.{last_told, told_with}
use Rattle.vcd_way.specs.Events.{Sampled, Hole, Resumed}
use Rattle.scope_coherence.specs.Parting.{PartStands}
use Rattle.scope_coherence.proofs.Passing.{waits, waits-on, counts-clock, counts-hole, counts-resumed, many-waited}
use Rattle.scope_coherence.proofs.part.PartJudge.pass.Goals as goal

pub returns-then-self-ge-MOST-clause-many : goal.returns-then-self-ge-MOST-clause-many
returns-then-self-ge-MOST-clause-many c = λ e p m es before w s.
    let x = c.args.self.now in
    many-waited _ x.start x.has_stopped es c.if-self-ge-MOST.true (waits x p m es before w c.if-self.false s).1

pub returns-else-self-ge-MOST-clause-stands : goal.returns-else-self-ge-MOST-clause-stands
returns-else-self-ge-MOST-clause-stands c = λ p m es before after w s same.
    let x = c.args.self.now in
    let off = c.if-self.false in
    let t = last_told c.args.event.now.stamp in
    let y = c.in-Sampled.field-0 in
    subst (λ k. PartStands (record x { start = x.start + 1; has_stopped = x.has_stopped }) p m (es ++ told_with k t ∷ []) after w)
    (sym c.in-Sampled.is)
    (waits-on x p m es before w after (es ++ Sampled y t ∷ []) (x.start + 1) x.has_stopped off s
    (counts-clock x.start x.has_stopped es y t (waits x p m es before w off s).1))

pub returns-in-Hole-clause-stands : goal.returns-in-Hole-clause-stands
returns-in-Hole-clause-stands c = λ p m es before after w s same.
    let x = c.args.self.now in
    let off = c.if-self.false in
    let t = last_told c.args.event.now.stamp in
    subst (λ k. PartStands (record x { start = x.start; has_stopped = true }) p m (es ++ told_with k t ∷ []) after w)
    (sym c.in-Hole.is)
    (waits-on x p m es before w after (es ++ Hole t ∷ []) x.start true off s
    (counts-hole x.start x.has_stopped es t (waits x p m es before w off s).1))

pub returns-in-Resumed-clause-stands : goal.returns-in-Resumed-clause-stands
returns-in-Resumed-clause-stands c = λ p m es before after w s same.
    let x = c.args.self.now in
    let off = c.if-self.false in
    let t = last_told c.args.event.now.stamp in
    subst (λ k. PartStands (record x { start = x.start; has_stopped = true }) p m (es ++ told_with k t ∷ []) after w)
    (sym c.in-Resumed.is)
    (waits-on x p m es before w after (es ++ Resumed t ∷ []) x.start true off s
    (counts-resumed x.start x.has_stopped es t (waits x p m es before w off s).1))
