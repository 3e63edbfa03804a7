use Rattle.vcd_read.specs.Scanning.{reading}
use Rattle.vcd_read.proofs.DirectTokens.{scalar_taken}
use Rattle.vcd_read.proofs.scan.Scan.scalar.Goals as goal

pub returns : goal.returns
returns c = record {
  state = λ w white.
      scalar_taken (reading c.args.self.now) _ w c.args.change.digit c.args.change.code c.args.change.number
      c.requires.ready c.requires.digit c.requires.code c.requires.line white c.set_digit.ensures;
}
