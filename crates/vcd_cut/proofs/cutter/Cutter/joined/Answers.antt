use Rattle.std.proofs.Common.{◌≤◌, length, ap, ◌∙◌, arith}
use Rattle.vcd_cut.specs.declared.run.Run.{Run}
use Rattle.vcd_cut.specs.Cutting.{cutting}
use Rattle.vcd_cut.proofs.Cutting.{long_counted, joined_counted, kept_told}
use Rattle.vcd_cut.proofs.cutter.Cutter.joined.Goals as goal

pub returns-then-len-gt-LONGEST-clause-tokens : goal.returns-then-len-gt-LONGEST-clause-tokens
returns-then-len-gt-LONGEST-clause-tokens c =
    long_counted (cutting c.args.self.now) c.args.bytes.now c.requires.dark (omega (arith, c.len.ensures))

pub returns-clause-tokens : goal.returns-clause-tokens
returns-clause-tokens c =
    let k = c.args.self.now in
    let short : length k.run.bytes.items ≤ 70000 = omega (arith, c.len.ensures) in
    let within : length k.run.bytes.items ≤ k.at = omega (arith, short, c.requires.sound.run) in
    kept_told (cutting k) c.swap.new.y.bytes.items c.open_token-token.result c.args.bytes.now _ _
    (joined_counted (cutting k) c.args.bytes.now c.requires.dark short c.requires.some within)
    c.open_token-token.ensures.begins c.open_token-token.ensures.kept
    (ap (λ (r : Run). r.bytes.items) c.swap.ensures.y_after ∙ c.take_first.ensures.run)
