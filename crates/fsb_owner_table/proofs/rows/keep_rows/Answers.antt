use Rattle.std.proofs.Common.{rules, ◌≡◌, ◌-◌, ◌+◌, Some, sym, ap, ◌∙◌, subst, All, arith, length}
use Rattle.std.specs.List.{filter_map}
use Rattle.fsb_owner_table.specs.declared.row.Row.{Row}
use Rattle.fsb_owner_table.specs.Kept.{IsKept, left_in, rows_of}
use Rattle.fsb_owner_table.proofs.KeptRows.{of_kept}
use Rattle.fsb_owner_table.proofs.KeptLists.{left_from_retain, rows_kept}
use Rattle.fsb_owner_table.proofs.rows.keep_rows.Goals as goal

pub returns : goal.returns
returns c = λ h v g same.
    let old : c.saturating_sub-old.result ≡ length v - 3 =
    omega (arith, c.saturating_sub-old.ensures, g.clock, g.more.size) in
    let kept : All (IsKept h) c.args.rows.now.items = subst (All (IsKept h)) (sym same) (rows_kept h) in
    left_from_retain _ _ (IsKept h) (left_in v) c.args.rows.now.items c.retain_mut.new.self.items
    c.retain_mut.ensures.filtered kept
    (λ o b t p r e. (search rules, search (rules, of_kept h c.args.sample.now v c.args.happened.now o g e, old)))
    ∙ ap (filter_map (left_in v)) same
