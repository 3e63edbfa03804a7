use Rattle.std.proofs.Common.{List, ℕ, subst}
use Rattle.std.proofs.lemmas.Result.{on_ok_weaker}
use Rattle.scope_top.specs.Viewing.{IsCutBehind, MayStop}
use Rattle.scope_top.proofs.Viewing.{err-weaker, may-stop, rose-since}
use Rattle.scope_top.proofs.views.cut_as.Goals as goal

pub returns-in-Ok-clause-cut : goal.returns-in-Ok-clause-cut
returns-in-Ok-clause-cut g c = λ tells held.
    let dumped = g.S.Source.holds c.args.dump.now in
    let new = g.C.Sink.holds c.copy_around.new.cut in
    on_ok_weaker c.copy_around.result
    (λ h. record {
      again = c.in_ok-again.again;
      same = c.in_ok-again.ensures;
      cut = subst (λ (x : List ℕ). IsCutBehind c.args.choice.now c.in_ok-again.again dumped c.args.broken x new)
          (c.in-Ok.ensures.begun held).empty h;
    })
    (c.copy_around.ensures.cut tells held)

pub returns-in-Ok-clause-stop : goal.returns-in-Ok-clause-stop
returns-in-Ok-clause-stop g c = err-weaker _ _ c.copy_around.result
    (λ stop m. may-stop _ _ _ _ _ _ _ _ stop (λ d. d) (λ s. s)
    (λ rose tells. rose-since _ _ _ c.in-Ok.ensures.cause.later (rose tells)) (λ u. u) m)
    c.copy_around.ensures.stop
