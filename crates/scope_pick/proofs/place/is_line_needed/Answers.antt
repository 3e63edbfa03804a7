use Rattle.std.proofs.Common.{◌≡◌, ap, sym, slice_get}
use Rattle.fsb_signal.specs.Table.{table}
use Rattle.scope_pick.specs.Places.{is_line_needed, is_entry_needed}
use Rattle.scope_pick.proofs.place.is_line_needed.Goals as goal

pub returns : goal.returns
unfolding is_line_needed is_entry_needed
returns c =
    let e : is_entry_needed (slice_get table c.args.line) ≡ c.signal_at.result.now.needed = ap is_entry_needed c.signal_at.ensures in
    sym e
