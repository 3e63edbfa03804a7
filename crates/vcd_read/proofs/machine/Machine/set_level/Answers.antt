use Rattle.std.proofs.Common.{ap}
use Rattle.vcd_read.specs.ReaderView.{known_of}
use Rattle.vcd_read.specs.Lines.{BlockView}
use Rattle.vcd_read.proofs.machine.Machine.set_level.Goals as goal

pub returns : goal.returns
returns c = λ digits other level.
    let m = c.args.self.now in
    ap (λ (b : BlockView). record { known = known_of m; lines = record { block = b; decided = m.decided } })
    (c.set_level.ensures digits other level)
