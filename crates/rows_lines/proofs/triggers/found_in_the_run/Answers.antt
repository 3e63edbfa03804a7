use Rattle.std.proofs.Common.{[], ◌∷◌, ◌++◌, refl, arith}
use Rattle.std.proofs.lemmas.List.{length_push}
use Rattle.fsb_trigger.specs.Hunt.{steps_in}
use Rattle.rows_lines.proofs.triggers.found_in_the_run.Goals as goal

pub loop-clock-init : goal.loop-clock-init
loop-clock-init c = (steps_in c.args.trigger, [], c.new-hunt.ensures, refl)

pub feed-found-requires : goal.feed-found-requires
feed-found-requires c =
    let k = c.loop-clock.invariant in
    (k.0, k.1, k.2, omega (arith, k.3))

pub loop-clock-preserved : goal.loop-clock-preserved
loop-clock-preserved c =
    let k = c.loop-clock.invariant in (
      k.0,
      k.1 ++ c.sample_at.result ∷ [],
      c.feed-found.ensures.stands k.0 k.1 k.2,
      omega (arith, k.3, length_push k.1 c.sample_at.result),
    )
