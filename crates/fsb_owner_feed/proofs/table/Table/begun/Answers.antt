use Rattle.std.proofs.Common.{◌≡◌, ◌-◌, Some, [], ◌∷◌, ◌++◌, length, ap, subst, sym, ◌∙◌}
use Rattle.fsb_trace.specs.At.{Trace}
use Rattle.fsb_owner_table.specs.Rows.{row_at}
use Rattle.fsb_owner_feed.specs.Begins.{IsLast, SaysBegins}
use Rattle.fsb_owner_feed.proofs.Beginning.{begun_none, begun_some}
use Rattle.fsb_owner_feed.proofs.table.Table.begun.Goals as goal

pub returns-in-Some : goal.returns-in-Some
returns-in-Some c = λ h g e.
    let v : Trace = h ++ c.args.sample.now ∷ [] in
    let s = subst (λ o. SaysBegins o h) c.in-Some.is g.stands.begins in
    let at : c.saturating_sub.result ≡ length h - 1 = c.saturating_sub.ensures ∙ ap (λ k. k - 1) e in
    let last = subst (λ q. IsLast c.in-Some.begins q h) (sym at) s.1 in
    ap (λ r. Some r) (c.row.ensures h last g.before g.after ∙ ap (row_at v) at)
    ∙ sym (begun_some h c.args.sample.now c.in-Some.begins s)

pub returns-in-None : goal.returns-in-None
returns-in-None c = λ h g e.
    sym (begun_none h c.args.sample.now (subst (λ o. SaysBegins o h) c.in-None.is g.stands.begins))
