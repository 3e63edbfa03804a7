use Rattle.std.proofs.Common.{◌+◌, length, sym, ap, ◌∙◌, arith}
use Rattle.vcd_read.specs.Taking.{pushed}
use Rattle.vcd_read.specs.Scanning.{reading}
use Rattle.vcd_read.proofs.Readings.{short_bytes, short_samples, long_bytes, long_samples}
use Rattle.vcd_read.proofs.scan.Scan.grown.Goals as goal

pub returns-then-run_len-gt-LONGEST-clause-state : goal.returns-then-run_len-gt-LONGEST-clause-state
returns-then-run_len-gt-LONGEST-clause-state c =
    sym (long_bytes (reading c.args.self.now) c.args.bytes.now c.requires.dark (omega (arith, c.run_len.ensures)))

pub returns-then-run_len-gt-LONGEST-clause-samples : goal.returns-then-run_len-gt-LONGEST-clause-samples
returns-then-run_len-gt-LONGEST-clause-samples c =
    let s = c.args.self.now in
    ap (pushed c.args.limit s.machine.decided c.args.to.now.items)
    (sym (long_samples (reading s) c.args.bytes.now c.requires.dark (omega (arith, c.run_len.ensures))))

pub returns-then-bytes-run_len-clause-state : goal.returns-then-bytes-run_len-clause-state
returns-then-bytes-run_len-clause-state c =
    let s = c.args.self.now in
    (λ i. record {
      taken = (reading s).taken;
      at = s.at + length c.args.bytes.now;
      run = c.append.ensures i;
    })
    ∙ sym (short_bytes (reading s) c.args.bytes.now c.requires.dark
    (omega (arith, c.run_len.ensures, c.run_len-2.ensures)))

pub returns-then-bytes-run_len-clause-samples : goal.returns-then-bytes-run_len-clause-samples
returns-then-bytes-run_len-clause-samples c =
    let s = c.args.self.now in
    ap (pushed c.args.limit s.machine.decided c.args.to.now.items)
    (sym (short_samples (reading s) c.args.bytes.now c.requires.dark
    (omega (arith, c.run_len.ensures, c.run_len-2.ensures))))
