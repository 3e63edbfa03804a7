use Rattle.std.proofs.Common.{sym, ◌∙◌, ap, subst}
use Rattle.fsb_signal.specs.DumpText.{width_of}
use Rattle.vcd_grammar.specs.Digits.{extended}
use Rattle.vcd_grammar.specs.Levels.{level_of}
use Rattle.vcd_read.specs.declared.levels.Values.{Values}
use Rattle.vcd_read.specs.Lines.{SampleKept, with_line}
use Rattle.vcd_read.proofs.Samples.{kept_by-clock}
use Rattle.vcd_read.proofs.open_block.OpenBlock.set_line.Goals as goal

pub invariant_of-self-else-number-ne0 : goal.invariant_of-self-else-number-ne0
invariant_of-self-else-number-ne0 c =
    let b = c.self.inside in
    subst (λ (v : Values). SampleKept b.changed b.sample_before v.levels)
    (ap (λ n. with_line b.values n c.args.digits.now) (sym c.if-number-ne0.false) ∙ sym c.set_line.ensures)
    (kept_by-clock b.changed b.sample_before b.values.levels
    (level_of (extended (width_of 0) c.args.digits.now)) c.self.invariant)
