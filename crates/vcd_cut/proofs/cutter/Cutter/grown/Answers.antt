use Rattle.std.proofs.Common.{◌+◌, length, ◌∙◌, arith}
use Rattle.vcd_cut.specs.Cutting.{cutting}
use Rattle.vcd_cut.proofs.TokenRuns.{long_tokens, short_tokens}
use Rattle.vcd_cut.proofs.Cutting.{long_cut, short_cut}
use Rattle.vcd_cut.proofs.cutter.Cutter.grown.Goals as goal

pub returns-then-len-gt-LONGEST-clause-state : goal.returns-then-len-gt-LONGEST-clause-state
returns-then-len-gt-LONGEST-clause-state c =
    long_cut (cutting c.args.self.now) c.args.bytes.now c.requires.dark (omega (arith, c.len.ensures))

pub returns-then-len-gt-LONGEST-clause-tokens : goal.returns-then-len-gt-LONGEST-clause-tokens
returns-then-len-gt-LONGEST-clause-tokens c =
    long_tokens c.args.self.now.at c.args.self.now.run.bytes.items c.args.bytes.now c.requires.dark
    (omega (arith, c.len.ensures))

pub returns-then-bytes-len-clause-state : goal.returns-then-bytes-len-clause-state
returns-then-bytes-len-clause-state c =
    let k = c.args.self.now in
    (λ i. record { at = k.at + length c.args.bytes.now; breaks = k.breaks; run = c.append.ensures i })
    ∙ short_cut (cutting k) c.args.bytes.now c.requires.dark (omega (arith, c.len.ensures, c.len-2.ensures))

pub returns-then-bytes-len-clause-tokens : goal.returns-then-bytes-len-clause-tokens
returns-then-bytes-len-clause-tokens c =
    short_tokens c.args.self.now.at c.args.self.now.run.bytes.items c.args.bytes.now c.requires.dark
    (omega (arith, c.len.ensures, c.len-2.ensures))
