use Rattle.std.proofs.Common.{◌++◌, ◌∙◌}
use Rattle.vcd_read.specs.Scanning.{reading}
use Rattle.vcd_read.proofs.Standings.{scanned_fits}
use Rattle.vcd_read.proofs.Marking.{scanned_marks}
use Rattle.vcd_read.proofs.Behind.{on_ok_of, behind_more, quiet_bytes}
use Rattle.vcd_read.proofs.reader.Reader.read_on.Goals as goal

pub absorb-requires-clause-fits : goal.absorb-requires-clause-fits
absorb-requires-clause-fits c = scanned_fits c.args.self.now.scan c.requires.0 c.requires.1.scanned

pub returns-clause-behind : goal.returns-clause-behind
returns-clause-behind c = λ fed b.
    behind_more c.args.self.now.scan c.absorb.new.self fed c.args.piece.now b
    (on_ok_of c.absorb.result (c.absorb.ensures.behind b.faulty) c.absorb.ensures.state)

pub returns-clause-marks : goal.returns-clause-marks
returns-clause-marks c = λ fed b.
    let s = c.absorb.new.self in
    let more = behind_more c.args.self.now.scan s fed c.args.piece.now b
    (on_ok_of c.absorb.result (c.absorb.ensures.behind b.faulty) c.absorb.ensures.state) in
    c.marks-self.ensures ∙ scanned_marks s (fed ++ c.args.piece.now) more.scanned

pub returns-clause-silent : goal.returns-clause-silent
returns-clause-silent c =
    let b = c.requires.1 in
    quiet_bytes (reading c.args.self.now.scan) c.args.piece.now c.args.self.now.limit c.args.self.now.scan.machine.decided
    c.args.to.now.items c.absorb.new.to.items b.faulty
    (on_ok_of c.absorb.result (c.absorb.ensures.behind b.faulty) c.absorb.ensures.samples)
