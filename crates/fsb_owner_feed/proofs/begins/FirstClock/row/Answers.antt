use Rattle.std.proofs.Common.{◌≡◌, ◌∷◌, ◌++◌, ◌-◌, [], length, ap, arith, sym, ◌∙◌}
use Rattle.fsb_trace.specs.At.{Trace}
use Rattle.fsb_trace.specs.Requests.{line_of, seen_at}
use Rattle.fsb_laws.proofs.Interface.{one_more}
use Rattle.fsb_owner_table.specs.Rows.{row_at}
use Rattle.fsb_owner_feed.proofs.Beginning.{line_new}
use Rattle.fsb_owner_feed.proofs.begins.FirstClock.row.Goals as goal

pub returns : goal.returns
returns c = λ h l before after.
    let v : Trace = h ++ c.args.second.now ∷ [] in
    let at : length h - 1 ≡ c.args.clock = omega (arith, l.last) in
    c.begun_row.ensures h c.args.second.now v (one_more h c.args.second.now) before after (omega (arith, l.last))
    (c.seen.ensures h l ∙ ap (seen_at v) (sym at))
    (c.line_by.ensures ∙ sym (line_new c.args.second.now l) ∙ ap (line_of v) (sym at))
    ∙ ap (row_at v) at
