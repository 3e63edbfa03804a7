use Rattle.std.proofs.Common.{[], append-nil, refl, sym}
use Rattle.std.proofs.lemmas.Result.{on_ok_weaker}
use Rattle.fsb_io.proofs.Interface.{written_none, written_more, written_part, written_all}
use Rattle.fsb_show.proofs.Texts.{table_parts}
use Rattle.fsb_show.proofs.text.put_table.Goals as goal

pub returns-in_err-put_totals-clause-part : goal.returns-in_err-put_totals-clause-part
returns-in_err-put_totals-clause-part g c tells =
    written_part _ _ _ _ _ _ _ (written_none _ _) (table_parts _ c.args.rows.now c.args.clocks)
    (c.put_totals.ensures.part tells)

pub returns-in_err-put_rows-clause-part : goal.returns-in_err-put_rows-clause-part
returns-in_err-put_rows-clause-part g c tells =
    written_part _ _ _ _ _ _ _
    (written_more _ _ _ _ _ _ _ (written_none _ _) (table_parts _ c.args.rows.now c.args.clocks)
    (c.in_ok-put_totals.ensures.whole tells)) refl (c.put_rows.ensures.part tells)

pub returns-clause-whole : goal.returns-clause-whole
returns-clause-whole g c tells =
    on_ok_weaker c.put_verdict.result
    (λ whole. written_all _ [] _ _ (written_more _ _ _ [] _ _ _
    (written_more _ _ _ _ _ _ _
    (written_more _ _ _ _ _ _ _ (written_none _ _) (table_parts _ c.args.rows.now c.args.clocks)
    (c.in_ok-put_totals.ensures.whole tells)) refl (c.in_ok-put_rows.ensures.whole tells))
    (sym (append-nil _)) whole) refl)
    (c.put_verdict.ensures.whole tells)

pub returns-clause-part : goal.returns-clause-part
returns-clause-part g c tells =
    written_part _ _ _ [] _ _ _
    (written_more _ _ _ _ _ _ _
    (written_more _ _ _ _ _ _ _ (written_none _ _) (table_parts _ c.args.rows.now c.args.clocks)
    (c.in_ok-put_totals.ensures.whole tells)) refl (c.in_ok-put_rows.ensures.whole tells))
    (sym (append-nil _)) (c.put_verdict.ensures.part tells)
