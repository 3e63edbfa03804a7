use Rattle.std.proofs.Common.{◌∙◌}
use Rattle.vcd_read.specs.Scanning.{reading}
use Rattle.vcd_read.proofs.Standings.{scanned_fits}
use Rattle.vcd_read.proofs.Behind.{on_ok_of, ended_marks, quiet_end}
use Rattle.vcd_read.proofs.reader.Reader.read_end.Goals as goal

pub finish-requires : goal.finish-requires
finish-requires c = scanned_fits c.args.self.now.scan c.requires.0 c.requires.1.scanned

pub returns-clause-marks : goal.returns-clause-marks
returns-clause-marks c = λ fed b.
    c.marks-self.ensures ∙ on_ok_of c.finish.result (c.finish.ensures.behind b.faulty) c.finish.ensures.marks
    ∙ ended_marks c.args.self.now.scan fed b.scanned

pub returns-clause-silent : goal.returns-clause-silent
returns-clause-silent c =
    let b = c.requires.1 in
    quiet_end (reading c.args.self.now.scan) c.args.self.now.limit c.args.self.now.scan.machine.decided
    c.args.to.now.items c.finish.new.to.items b.faulty
    (on_ok_of c.finish.result (c.finish.ensures.behind b.faulty) c.finish.ensures.samples)
