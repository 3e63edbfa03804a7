use Rattle.std.proofs.Common.{[], ◌∷◌, arith}
use Rattle.rows_lines.proofs.waves.wave_of_two.Goals as goal

pub feed-requires-2 : goal.feed-requires-2
feed-requires-2 c = (
  c.args.from,
  c.args.to,
  c.args.first.now ∷ [],
  c.feed.ensures c.args.from c.args.to [] c.new-wave.ensures,
  omega arith,
)
