use Rattle.vcd_read.specs.Scanning.{reading}
use Rattle.vcd_read.proofs.DirectVectors.{vector_taken}
use Rattle.vcd_read.proofs.scan.Scan.vector.Goals as goal

pub returns : goal.returns
returns c = record {
  state = λ bytes begins.
      vector_taken (reading c.args.self.now) bytes c.args.change c.requires.ready begins _
      (c.set_level.ensures begins.digits begins.other begins.level);
}
