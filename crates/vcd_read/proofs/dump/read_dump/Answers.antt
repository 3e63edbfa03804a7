use Rattle.std.proofs.Common.{◌≡◌, [], None, Some, Err, Option, sym, ◌∙◌}
use Rattle.vcd_read.specs.declared.stop.VcdStop.{VcdStop}
use Rattle.vcd_read.specs.declared.stop.VcdStop.TheVariants as stops
use Rattle.vcd_read.specs.Standing.{Scanned}
use Rattle.vcd_read.specs.Answers.{Answers, stop_of_dump}
use Rattle.vcd_read.proofs.Standings.{scanned_fits, scanned_more, reading_scanned}
use Rattle.vcd_read.proofs.Marking.{ended_lines, whole_marks}
use Rattle.vcd_read.proofs.Endings.{scan_dump_is, dump_read}
use Rattle.vcd_read.proofs.dump.read_dump.Goals as goal

-- a refusal is answered
refused : (X : Type 0) (stop : VcdStop) (told : Option VcdStop) → told ≡ Some stop → Answers {X = X} (Err stop) told
refused X stops.TooLong told h = h
refused X stops.Memory told h = tt
refused X (stops.Bad fault) told h = h

pub finish-requires : goal.finish-requires
finish-requires c = scanned_fits c.absorb.new.self c.args.bytes.now
    (scanned_more c.in_ok-scan.scan c.absorb.new.self [] c.args.bytes.now
    (reading_scanned c.in_ok-scan.scan [] c.in_ok-scan.ensures) c.in_ok-absorb.ensures.state)

pub returns-in-None-clause-answer : goal.returns-in-None-clause-answer
returns-in-None-clause-answer c =
    let h : Scanned c.absorb.new.self c.args.bytes.now =
    scanned_more c.in_ok-scan.scan c.absorb.new.self [] c.args.bytes.now
    (reading_scanned c.in_ok-scan.scan [] c.in_ok-scan.ensures) c.in_ok-absorb.ensures.state in
    sym (scan_dump_is c.absorb.new.self c.args.bytes.now 200000 _ _ c.in_ok-more.more h
    c.in_ok-more.ensures.fault c.in_ok-more.ensures.decided c.in_ok-more.ensures.rises)
    ∙ sym c.refusal.ensures ∙ c.in-None.is

pub returns-in-None-clause-trace : goal.returns-in-None-clause-trace
returns-in-None-clause-trace c =
    let h : Scanned c.absorb.new.self c.args.bytes.now =
    scanned_more c.in_ok-scan.scan c.absorb.new.self [] c.args.bytes.now
    (reading_scanned c.in_ok-scan.scan [] c.in_ok-scan.ensures) c.in_ok-absorb.ensures.state in
    let lawful : stop_of_dump 200000 c.args.bytes.now ≡ None =
    sym (scan_dump_is c.absorb.new.self c.args.bytes.now 200000 _ _ c.in_ok-more.more h
    c.in_ok-more.ensures.fault c.in_ok-more.ensures.decided c.in_ok-more.ensures.rises)
    ∙ sym c.refusal.ensures ∙ c.in-None.is in
    let read = dump_read c.in_ok-scan.scan c.absorb.new.self c.args.bytes.now 200000 c.new-samples.result.items
    c.absorb.new.to.items c.finish.new.to.items c.in_ok-scan.ensures c.new-samples.ensures.items h
    c.in_ok-absorb.ensures.samples c.in_ok-more.ensures.samples lawful in
    let lines = c.in_ok-more.ensures.lines ∙ ended_lines c.absorb.new.self c.args.bytes.now h in
    (read.0, whole_marks c.args.bytes.now _ _ lines c.declared_marks.ensures, read.1)

pub returns-clause-answer : goal.returns-clause-answer
returns-clause-answer c =
    let h : Scanned c.absorb.new.self c.args.bytes.now =
    scanned_more c.in_ok-scan.scan c.absorb.new.self [] c.args.bytes.now
    (reading_scanned c.in_ok-scan.scan [] c.in_ok-scan.ensures) c.in_ok-absorb.ensures.state in
    refused (Unit {0}) c.in-Some.stop _
    (sym (scan_dump_is c.absorb.new.self c.args.bytes.now 200000 _ _ c.in_ok-more.more h
    c.in_ok-more.ensures.fault c.in_ok-more.ensures.decided c.in_ok-more.ensures.rises)
    ∙ sym c.refusal.ensures ∙ c.in-Some.is)
