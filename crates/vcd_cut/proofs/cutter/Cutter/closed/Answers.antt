use Rattle.std.proofs.Common.{◌+◌, ap, ◌∙◌, arith}
use Rattle.vcd_cut.specs.Cutting.{cutting}
use Rattle.vcd_cut.proofs.Cutting.{white_cut, white_counted}
use Rattle.vcd_cut.proofs.cutter.Cutter.closed.Goals as goal

pub returns-clause-state : goal.returns-clause-state
returns-clause-state c =
    white_cut (cutting c.args.self.now) _ c.args.bytes.now c.args.gap c.requires.gap c.requires.dark
    (omega (arith, c.last_of-token.ensures.at))
    (ap (λ n. n + c.breaks_in.result) c.last_of-token.ensures.breaks ∙ ap (λ n. c.args.self.now.breaks + n) c.breaks_in.ensures.breaks)
    c.last_of-token.ensures.empty

pub returns-clause-tokens : goal.returns-clause-tokens
returns-clause-tokens c =
    white_counted (cutting c.args.self.now) c.args.bytes.now c.args.gap c.requires.gap
    ∙ c.last_of-token.ensures.tokens
