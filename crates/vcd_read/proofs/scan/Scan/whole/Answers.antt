use Rattle.std.proofs.Common.{◌≡◌, length, sym, ◌∙◌, arith}
use Rattle.std.proofs.lemmas.Bool.{eqb-true, eqb-false}
use Rattle.std.proofs.lemmas.Result.{on_ok_weaker}
use Rattle.vcd_read.specs.Scanning.{reading}
use Rattle.vcd_read.proofs.Readings.{blank_taken, blank_sampled, whole_taken, whole_sampled}
use Rattle.vcd_read.proofs.scan.Scan.whole.Goals as goal

pub returns-then-is_empty-clause-state : goal.returns-then-is_empty-clause-state
returns-then-is_empty-clause-state c = λ w white.
    blank_taken (reading c.args.self.now) w c.args.bytes.now c.requires.empty
    (eqb-true (length c.args.bytes.now) 0 (sym c.is_empty.ensures ∙ c.if-is_empty.true)) white

pub returns-then-is_empty-clause-samples : goal.returns-then-is_empty-clause-samples
returns-then-is_empty-clause-samples c = λ w white.
    blank_sampled (reading c.args.self.now) w c.args.limit c.args.bytes.now c.args.to.now.items c.requires.empty
    (eqb-true (length c.args.bytes.now) 0 (sym c.is_empty.ensures ∙ c.if-is_empty.true)) white

pub returns-clause-state : goal.returns-clause-state
returns-clause-state c = λ w white.
    let some : length c.args.bytes.now ≡ 0
    → ⊥ = eqb-false (length c.args.bytes.now) 0 (sym c.is_empty.ensures ∙ c.if-is_empty.false) in
    on_ok_weaker c.take.result
    (λ h. whole_taken (reading c.args.self.now) _ w c.args.bytes.now c.requires.empty c.requires.dark
    (omega (arith, some)) c.requires.short white h) c.take.ensures.taken

pub returns-clause-samples : goal.returns-clause-samples
returns-clause-samples c = λ w white.
    let some : length c.args.bytes.now ≡ 0
    → ⊥ = eqb-false (length c.args.bytes.now) 0 (sym c.is_empty.ensures ∙ c.if-is_empty.false) in
    on_ok_weaker c.take.result
    (λ h. whole_sampled (reading c.args.self.now) w c.args.limit c.args.bytes.now c.args.to.now.items _
    c.requires.empty c.requires.dark (omega (arith, some)) c.requires.short white h) c.take.ensures.samples
