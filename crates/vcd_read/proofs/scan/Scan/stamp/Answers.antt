use Rattle.std.proofs.Common.{◌≡◌, ◌∙◌, sym, ap}
use Rattle.std.proofs.lemmas.Result.{on_ok_weaker}
use Rattle.vcd_grammar.specs.Judging.{turn, stamped}
use Rattle.vcd_read.specs.Taking.{taken, turned, decided_of, pushed}
use Rattle.vcd_read.specs.ReaderView.{known_of}
use Rattle.vcd_read.specs.Scanning.{reading}
use Rattle.vcd_read.proofs.Readings.{token_of, whole_taken, whole_sampled}
use Rattle.vcd_read.proofs.DirectTokens.{stamp_turns}
use Rattle.vcd_read.proofs.scan.Scan.stamp.Goals as goal

-- what the token does
does : (c : goal.After-stamped)
    → turn (known_of c.args.self.now.machine) (token_of c.args.self.now.at c.args.word.now)
    ≡ stamped (known_of c.args.self.now.machine) c.args.self.now.at c.args.time c.args.self.now.machine.time
does c = stamp_turns (known_of c.args.self.now.machine) c.args.self.now.at c.args.word.now c.args.time
    c.requires.ready.sound c.requires.ready.values c.requires.short c.requires.says

pub returns-clause-state : goal.returns-clause-state
returns-clause-state c = λ w white.
    let s = c.args.self.now in
    on_ok_weaker c.stamped.result
    (λ h. whole_taken (reading s) _ w c.args.word.now c.requires.ready.empty c.requires.dark c.requires.some
    c.requires.short white
    (h ∙ ap (turned (taken s.machine)) (sym (does c)))) c.stamped.ensures.taken

pub returns-clause-samples : goal.returns-clause-samples
returns-clause-samples c = λ w white.
    let s = c.args.self.now in
    on_ok_weaker c.stamped.result
    (λ h. whole_sampled (reading s) w c.args.limit c.args.word.now c.args.to.now.items _
    c.requires.ready.empty c.requires.dark c.requires.some c.requires.short white
    (h ∙ ap (λ t. pushed c.args.limit s.machine.decided c.args.to.now.items (decided_of (taken s.machine) t))
    (sym (does c)))) c.stamped.ensures.samples
