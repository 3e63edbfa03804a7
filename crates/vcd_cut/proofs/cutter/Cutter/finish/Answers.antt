use Rattle.std.proofs.Common.{[], arith}
use Rattle.vcd_cut.specs.Cutting.{cutting}
use Rattle.vcd_cut.proofs.Cutting.{empty_counted}
use Rattle.vcd_cut.proofs.Standings.{sound_stands, end_stands, line_stands_if}
use Rattle.vcd_cut.proofs.cutter.Cutter.finish.Goals as goal

pub returns-then-len-eq0-clause-tokens : goal.returns-then-len-eq0-clause-tokens
returns-then-len-eq0-clause-tokens c = λ fed s.
    end_stands c.args.self.now fed [] s
    (empty_counted (cutting c.args.self.now) [] (omega (arith, c.len.ensures)) (omega arith))

pub joined-requires-clause-sound : goal.joined-requires-clause-sound
joined-requires-clause-sound c = sound_stands c.args.self.now c.requires.0 c.requires.1

pub returns-clause-tokens : goal.returns-clause-tokens
returns-clause-tokens c = λ fed s. end_stands c.args.self.now fed _ s c.joined.ensures.tokens

pub returns-clause-line : goal.returns-clause-line
returns-clause-line c = λ fed s.
    line_stands_if c.args.self.now fed c.joined.result s c.joined.ensures.begins
