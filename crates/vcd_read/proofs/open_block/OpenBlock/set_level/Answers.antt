use Rattle.std.proofs.Common.{ap, ◌∙◌}
use Rattle.vcd_read.specs.declared.levels.Values.{Values}
use Rattle.vcd_read.specs.Lines.{BlockView, changed_line}
use Rattle.vcd_read.proofs.open_block.OpenBlock.set_level.Goals as goal

pub returns : goal.returns
returns c = λ digits other level.
    let b = c.self.inside in
    ap (λ (v : Values). record { clock_before = b.clock_before; sample_before = b.sample_before; now = v })
    (c.set_level.ensures digits other level)
    ∙ ap (λ (w : BlockView). changed_line w c.args.number digits) c.self.view_is
