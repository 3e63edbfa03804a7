use Rattle.std.proofs.Common.{[]}
use Rattle.rows_watch.specs.declared.watched.Counter.{Counter}
use Rattle.rows_watch.proofs.watched.counted.Goals as goal

-- src/watched.rt:58:31
pub watch_values-requires-clause-ready : goal.watch_values-requires-clause-ready
watch_values-requires-clause-ready c = (record { samples = 0; holes = 0; resumed = 0; left = c.args.left }, [], tt)
