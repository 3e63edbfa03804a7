use Rattle.std.proofs.Common.{◌≡◌, ap, slice_get}
use Rattle.fsb_signal.specs.Table.{table}
use Rattle.scope_pick.specs.Places.{line_width, entry_width}
use Rattle.scope_pick.proofs.place.line_width.Goals as goal

pub returns-clause-width : goal.returns-clause-width
unfolding line_width entry_width
returns-clause-width c =
    let e : entry_width (slice_get table c.args.line) ≡ c.signal_at.result.now.width = ap entry_width c.signal_at.ensures in
    cc (e)
