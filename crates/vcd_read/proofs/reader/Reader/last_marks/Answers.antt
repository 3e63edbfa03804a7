use Rattle.std.proofs.Common.{not, sym, ap, ◌∙◌}
use Rattle.std.proofs.lemmas.Bool.{false≢true}
use Rattle.vcd_read.proofs.Behind.{told_at_end}
use Rattle.vcd_read.proofs.reader.Reader.last_marks.Goals.{else-self-via-then-self+else-is_none, else-self-via-else-self}
use Rattle.vcd_read.proofs.reader.Reader.last_marks.Goals as goal

pub returns-else-self-clause-marks : goal.returns-else-self-clause-marks
returns-else-self-clause-marks c = λ fed stood followed.
    elim c.else-self.branch [
      | else-self-via-then-self+else-is_none w ↦
          told_at_end c.args.self.now fed followed (ap not (w.is_none.ensures ∙ ap not w.if-is_none.false)) stood
      | else-self-via-else-self w ↦ absurd (false≢true (sym w.if-self.false ∙ followed))
    ]
