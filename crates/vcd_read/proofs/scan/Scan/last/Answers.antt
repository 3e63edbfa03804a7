use Rattle.std.proofs.Common.{◌-◌, ap, arith}
use Rattle.std.proofs.lemmas.Result.{on_ok_weaker}
use Rattle.vcd_read.specs.Scanning.{reading}
use Rattle.vcd_read.proofs.Readings.{none_taken, none_sampled, one_taken, one_sampled, ended_some, ended_empty}
use Rattle.vcd_read.proofs.Readings.{ended_long}
use Rattle.vcd_read.proofs.scan.Scan.last.Goals as goal

pub returns-then-run_len-eq0-clause-state : goal.returns-then-run_len-eq0-clause-state
returns-then-run_len-eq0-clause-state c =
    let s = c.args.self.now in
    none_taken (reading s) (ended_empty s.at s.run.bytes.items (omega (arith, c.run_len.ensures)))

pub returns-then-run_len-eq0-clause-samples : goal.returns-then-run_len-eq0-clause-samples
returns-then-run_len-eq0-clause-samples c =
    let s = c.args.self.now in
    none_sampled (reading s) c.args.limit c.args.to.now.items
    (ended_empty s.at s.run.bytes.items (omega (arith, c.run_len.ensures)))

pub returns-then-run_len-gt-LONGEST-clause-state : goal.returns-then-run_len-gt-LONGEST-clause-state
returns-then-run_len-gt-LONGEST-clause-state c =
    let s = c.args.self.now in
    none_taken (reading s) (ended_long s.at s.run.bytes.items (omega (arith, c.run_len-2.ensures)))

pub returns-then-run_len-gt-LONGEST-clause-samples : goal.returns-then-run_len-gt-LONGEST-clause-samples
returns-then-run_len-gt-LONGEST-clause-samples c =
    let s = c.args.self.now in
    none_sampled (reading s) c.args.limit c.args.to.now.items
    (ended_long s.at s.run.bytes.items (omega (arith, c.run_len-2.ensures)))

pub returns-clause-state : goal.returns-clause-state
returns-clause-state c =
    let s = c.args.self.now in
    let ended = ended_some s.at s.run.bytes.items (omega (arith, c.run_len.ensures)) (omega (arith, c.run_len-2.ensures)) in
    on_ok_weaker c.take.result
    (λ h. one_taken (reading s) _ _ c.as_slice.result.now (ap (λ n. s.at - n) c.run_len-3.ensures)
    c.as_slice.ensures ended h) c.take.ensures.taken

pub returns-clause-samples : goal.returns-clause-samples
returns-clause-samples c =
    let s = c.args.self.now in
    let ended = ended_some s.at s.run.bytes.items (omega (arith, c.run_len.ensures)) (omega (arith, c.run_len-2.ensures)) in
    on_ok_weaker c.take.result
    (λ h. one_sampled (reading s) _ _ c.as_slice.result.now c.args.limit c.args.to.now.items
    (ap (λ n. s.at - n) c.run_len-3.ensures) c.as_slice.ensures ended h) c.take.ensures.samples
