use Rattle.std.proofs.Common.{refl, sym, append-nil}
use Rattle.fsb_io.proofs.Interface.{written_none, written_more, written_part}
use Rattle.p6bench.proofs.report.Goals as goal

pub returns-in_err-put_all-clause-part : goal.returns-in_err-put_all-clause-part
returns-in_err-put_all-clause-part g c tells =
    written_part _ _ _ _ _ _ _ (written_none _ _) refl (c.put_all.ensures.part tells)

pub returns-clause-part : goal.returns-clause-part
returns-clause-part g c tells =
    written_part _ _ _ _ _ _ _
    (written_more _ _ _ _ _ _ _ (written_none _ _) refl (c.in_ok-put_all.ensures.whole tells))
    (sym (append-nil _)) (c.put_all-2.ensures.part tells)
