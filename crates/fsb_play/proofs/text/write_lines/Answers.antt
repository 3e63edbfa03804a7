use Rattle.std.proofs.Common.{refl, sym, append_assoc, append-nil}
use Rattle.fsb_io.proofs.Interface.{written_none, written_more, written_part}
use Rattle.fsb_play.proofs.text.write_lines.Goals as goal

pub returns-in_err-put_all-clause-part : goal.returns-in_err-put_all-clause-part
returns-in_err-put_all-clause-part g c tells =
    written_part _ _ _ _ _ _ _ (written_none _ _)
    (append_assoc c.args.first.now c.args.second.now c.args.third.now) (c.put_all.ensures.part tells)

pub returns-in_err-put_all-2-clause-part : goal.returns-in_err-put_all-2-clause-part
returns-in_err-put_all-2-clause-part g c tells =
    written_part _ _ _ _ _ _ _
    (written_more _ _ _ _ _ _ _ (written_none _ _)
    (append_assoc c.args.first.now c.args.second.now c.args.third.now) (c.in_ok-put_all.ensures.whole tells))
    refl (c.put_all-2.ensures.part tells)

pub returns-clause-part : goal.returns-clause-part
returns-clause-part g c tells =
    written_part _ _ _ _ _ _ _
    (written_more _ _ _ _ _ _ _
    (written_more _ _ _ _ _ _ _ (written_none _ _)
    (append_assoc c.args.first.now c.args.second.now c.args.third.now) (c.in_ok-put_all.ensures.whole tells))
    refl (c.in_ok-put_all-2.ensures.whole tells))
    (sym (append-nil _)) (c.put_all-3.ensures.part tells)
