use Rattle.std.proofs.Common.{◌≡◌, ◌∙◌, ℕ, List, Some, None, ap, sym, arith}
use Rattle.std.specs.Str.{bytes_eq}
use Rattle.std.specs.Cmp.Lexicographic.{bytes_decides}
use Rattle.std.proofs.lemmas.Map.Text.{btree_map_updates_str}
use Rattle.scope_pick.specs.Headers.{kept_at}
use Rattle.scope_pick.proofs.Firsts.{kept-new}
use Rattle.scope_pick.proofs.header.keep_first.Goals as goal

pub returns-in_ok-insert : goal.returns-in_ok-insert
returns-in_ok-insert c other =
    let text : List ℕ = c.args.text.now in
    let none : kept_at c.args.firsts.now text ≡ None = grind (arith, c.kept_at.ensures, c.if-is_none.true, c.if-is_none.ensures) in
    kept-new (bytes_eq text other) c.args.index _ _
    (btree_map_updates_str text c.args.firsts.now c.insert.new.self (Some c.args.index) c.in_ok-insert.ensures.updates other)
    (λ same. ap (kept_at c.args.firsts.now) (sym ((bytes_decides text other).0 same)) ∙ none)
