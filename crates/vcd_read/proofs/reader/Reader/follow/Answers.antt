use Rattle.std.proofs.Common.{◌++◌, not, ap, ◌∙◌}
use Rattle.vcd_read.proofs.Behind.{still_stands, over_stands}
use Rattle.vcd_read.proofs.reader.Reader.follow.Goals.{else-self-via-then-self+else-is_none, else-self-via-else-self}
use Rattle.vcd_read.proofs.reader.Reader.follow.Goals as goal

pub returns-else-self-clause-stands : goal.returns-else-self-clause-stands
returns-else-self-clause-stands c = λ fed stood.
    let r = c.args.self.now in
    let refused = c.requires.refused in
    elim c.else-self.branch [
      | else-self-via-then-self+else-is_none w ↦
          still_stands r fed c.args.piece.now refused.0 refused.1 (ap not (w.is_none.ensures ∙ ap not w.if-is_none.false)) stood
      | else-self-via-else-self w ↦ over_stands r (fed ++ c.args.piece.now) refused.0 refused.1 w.if-self.false
    ]
