use Rattle.std.proofs.Common.{◌≡◌, ◌+◌, ◌≤◌, ◌++◌, length, ◌∙◌, arith}
use Rattle.vcd_cut.specs.Cutting.{cutting}
use Rattle.vcd_cut.proofs.TokenRuns.{over_tokens}
use Rattle.vcd_cut.proofs.Cutting.{over_cut, kept_told}
use Rattle.vcd_cut.proofs.cutter.Cutter.too_long.Goals as goal

pub returns-clause-state : goal.returns-clause-state
returns-clause-state c =
    let k = c.args.self.now in
    let at : c.take_first.new.self.at ≡ k.at = c.take_first.ensures.at in
    let breaks : c.take_first.new.self.breaks ≡ k.breaks = c.take_first.ensures.breaks in
    (λ i. record {
      at = at i + length c.args.bytes.now;
      breaks = breaks i;
      run = c.take_first.new.self.run.bytes.items;
    })
    ∙ over_cut (cutting k) c.args.bytes.now c.take_first.new.self.run.bytes.items c.requires.dark c.requires.short
    c.requires.over c.take_first.ensures.run

pub returns-clause-tokens : goal.returns-clause-tokens
returns-clause-tokens c =
    let k = c.args.self.now in
    let within : length k.run.bytes.items ≤ k.at = omega (arith, c.requires.short, c.requires.sound.run) in
    kept_told (cutting k) c.append.new.self.bytes.items c.open_token-token.result c.args.bytes.now _ _
    (over_tokens k.at k.run.bytes.items c.args.bytes.now c.requires.dark c.requires.short c.requires.over within)
    c.open_token-token.ensures.begins c.open_token-token.ensures.kept
    (c.append.ensures ∙ (λ i. c.clear.ensures i ++ c.as_slice.ensures i) ∙ c.take_first.ensures.run)
