use Rattle.std.proofs.Common.{[], ◌∷◌, ◌++◌, refl, arith}
use Rattle.std.proofs.lemmas.List.{length_push}
use Rattle.rows_lines.proofs.waves.wave_of_the_load.Goals as goal

pub loop-clock-init : goal.loop-clock-init
loop-clock-init c = ([], c.new-wave.ensures, refl)

pub feed-requires : goal.feed-requires
feed-requires c =
    let kept = c.loop-clock.invariant in
    (c.args.from, c.args.to, kept.0, kept.1, omega (arith, kept.2))

pub loop-clock-preserved : goal.loop-clock-preserved
loop-clock-preserved c =
    let kept = c.loop-clock.invariant in (
      kept.0 ++ c.load_then_store_hit.result ∷ [],
      c.feed.ensures c.args.from c.args.to kept.0 kept.1,
      omega (arith, kept.2, length_push kept.0 c.load_then_store_hit.result),
    )
