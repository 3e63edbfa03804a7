use Rattle.std.proofs.Common.{◌≡◌, is_some, ap, ◌∙◌}
use Rattle.std.proofs.lemmas.Result.{on_ok_weaker}
use Rattle.vcd_grammar.specs.Judging.{Known, known_marks}
use Rattle.vcd_grammar.specs.Reading.{or_cut}
use Rattle.vcd_grammar.specs.Tokens.{ended_at}
use Rattle.vcd_read.specs.Taking.{taken}
use Rattle.vcd_read.specs.ReaderView.{lines_view}
use Rattle.vcd_read.specs.Scanning.{Reading, reading, end_fault, ended_taken}
use Rattle.vcd_read.proofs.Readings.{end_sampled}
use Rattle.vcd_read.proofs.Behind.{faulty_tokens, faulty_cut}
use Rattle.vcd_read.proofs.scan.Scan.finish.Goals as goal

pub returns-clause-samples : goal.returns-clause-samples
returns-clause-samples c =
    let r = reading c.args.self.now in
    let m = c.end.new.self in
    let state = c.in_ok-last.ensures.state in
    let fault : m.fault ≡ end_fault r = ap (λ (k : Known). k.fault) c.end.ensures.known
    ∙ ap (λ (x : Reading). or_cut x.taken.known.fault x.taken.known.mode x.at) state in
    let lines : lines_view m ≡ (ended_taken r).lines = c.end.ensures.lines
    ∙ ap (λ (x : Reading). x.taken.lines) state in
    on_ok_weaker c.close.result
    (λ h. end_sampled r c.args.limit m.fault (lines_view m) c.args.to.now.items c.last.new.to.items _ fault
    lines c.in_ok-last.ensures.samples h) c.close.ensures.samples

pub returns-clause-lines : goal.returns-clause-lines
returns-clause-lines c =
    on_ok_weaker c.close.result (λ h. ap (λ (k : Known). k.lines) c.end.ensures.known
    ∙ ap (λ (x : Reading). x.taken.known.lines) c.in_ok-last.ensures.state) c.close.ensures.samples

pub returns-clause-marks : goal.returns-clause-marks
returns-clause-marks c =
    on_ok_weaker c.close.result (λ h. ap known_marks c.end.ensures.known
    ∙ ap (λ (x : Reading). known_marks x.taken.known) c.in_ok-last.ensures.state) c.close.ensures.samples

pub returns-clause-behind : goal.returns-clause-behind
returns-clause-behind c = λ faulty.
    let s = c.args.self.now in
    let last = ap (λ (x : Reading). is_some x.taken.known.fault) c.in_ok-last.ensures.state
    ∙ faulty_tokens (taken s.machine) (ended_at s.at s.run.bytes.items) faulty in
    c.close.ensures.behind (ap (λ (k : Known). is_some k.fault) c.end.ensures.known ∙ faulty_cut _ _ _ last)
