use Rattle.std.proofs.Common.{◌≡◌, ap, nat_eq, slice_get}
use Rattle.std.specs.Cmp.Lexicographic.{pointwise}
use Rattle.fsb_signal.specs.Table.{table}
use Rattle.scope_pick.specs.Names.{is_exact_name, is_name_of, without_escape}
use Rattle.scope_pick.proofs.names.is_exact_name.Goals as goal

pub returns : goal.returns
unfolding is_exact_name is_name_of
returns c =
    let name = c.args.name.now in
    let e : is_name_of name (slice_get table c.args.line) ≡ pointwise nat_eq (without_escape name) c.signal_at.result.now.name.now
    = ap (is_name_of name) c.signal_at.ensures in
    cc (e, c.eq.ensures, c.without_escape.ensures, c.as_bytes.ensures.value)
