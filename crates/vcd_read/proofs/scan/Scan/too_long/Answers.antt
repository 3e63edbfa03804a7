use Rattle.std.proofs.Common.{◌≡◌, ◌-◌, ◌++◌, take, ap, ◌∙◌, arith}
use Rattle.std.proofs.lemmas.Result.{on_ok_weaker}
use Rattle.vcd_read.specs.Scanning.{reading}
use Rattle.vcd_read.proofs.TokenRuns.{taken_by}
use Rattle.vcd_read.proofs.Readings.{over_taken, over_sampled}
use Rattle.vcd_read.proofs.scan.Scan.too_long.Goals as goal

-- the run with the bytes that it takes
grown : (c : goal.After-take) → c.append.new.self.bytes.items ≡ taken_by c.args.self.now.run.bytes.items c.args.bytes.now
grown c = c.append.ensures
    ∙ ap (λ n. c.args.self.now.run.bytes.items ++ take (70001 - n) c.args.bytes.now) c.run_len-2.ensures

pub returns-clause-state : goal.returns-clause-state
returns-clause-state c =
    let s = c.args.self.now in
    on_ok_weaker c.take.result
    (λ h. over_taken (reading s) c.args.bytes.now _ _ c.as_slice.result.now _ c.requires.dark
    c.requires.short c.requires.over (omega arith) (ap (λ n. s.at - n) c.run_len.ensures)
    c.as_slice.ensures (grown c) h) c.take.ensures.taken

pub returns-clause-samples : goal.returns-clause-samples
returns-clause-samples c =
    let s = c.args.self.now in
    on_ok_weaker c.take.result
    (λ h. over_sampled (reading s) c.args.bytes.now _ _ c.as_slice.result.now c.args.limit
    c.args.to.now.items c.requires.dark c.requires.short c.requires.over (omega arith)
    (ap (λ n. s.at - n) c.run_len.ensures) (c.as_slice.ensures ∙ grown c) h) c.take.ensures.samples
