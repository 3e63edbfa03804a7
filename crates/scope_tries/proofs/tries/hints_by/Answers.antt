-- The hints of one try more.
use Rattle.std.proofs.Common.{◌≡◌, ◌∙◌, arith, get_or, subst}
use Rattle.scope_tries.specs.declared.hint.Try.TheVariants.{First}
use Rattle.scope_tries.specs.Tries.{IsTried}
use Rattle.scope_tries.proofs.Tried.{hints_next}
use Rattle.scope_tries.proofs.tries.hints_by.Goals as goal

pub loop-by-preserved : goal.loop-by-preserved
loop-by-preserved g c = record {
  hints = λ tells.
      hints_next (IsTried c.args.choice.now c.args.plan c.args.edge c.args.broken (g.S.Source.holds c.args.dump.now)) c.args.tries.now c.loop-by.by-index First c.in_ok-further.further
      c.loop-by.hints.items c.keep.new.hints.items (omega (arith, c.loop-by-test.true)) (c.loop-by.invariant.hints tells)
      (subst (λ held. IsTried c.args.choice.now c.args.plan c.args.edge c.args.broken held (get_or c.args.tries.now c.loop-by.by-index First) c.in_ok-further.further) (c.loop-by.invariant.holds_stays tells)
      (c.in_ok-further.ensures.tried tells)) c.in_ok-keep.ensures;
  later = omega (arith, c.in_ok-further.ensures.later, c.loop-by.invariant.later);
  holds_stays = λ tells. c.in_ok-further.ensures.holds_stays tells ∙ c.loop-by.invariant.holds_stays tells;
}
