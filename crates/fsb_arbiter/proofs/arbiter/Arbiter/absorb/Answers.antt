use Rattle.std.proofs.Common.{refl, sym, ap, ◌∙◌}
use Rattle.fsb_arbiter.proofs.History.{stands-begun, stands-kept}
use Rattle.fsb_arbiter.proofs.arbiter.Arbiter.absorb.Goals as goal
use Rattle.fsb_arbiter.proofs.arbiter.Arbiter.absorb.Goals.{then-has, else-has}

pub returns : goal.returns
returns c =
    elim c.if-has.branch [
      | then-has w ↦ λ h s.
          stands-begun c.args.self.now _ h c.args.sample.now w.winner-winner.result s (w.winner-winner.ensures h s)
          (sym c.has.ensures ∙ w.if-has.true) (ap (λ a. a.newer) w.self-is) refl
          (ap (λ a. a.last) w.self-is) (ap (λ a. a.symmetric) w.self-is ∙ w.symmetric_after-self.ensures)
      | else-has w ↦ λ h s.
          stands-kept c.args.self.now _ h c.args.sample.now s
          (sym c.has.ensures ∙ w.if-has.false) (ap (λ a. a.newer) w.self-is) refl (ap (λ a. a.last) w.self-is)
          (ap (λ a. a.symmetric) w.self-is)
    ]
