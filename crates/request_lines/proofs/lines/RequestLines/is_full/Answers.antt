use Rattle.std.proofs.Common.{arith}
use Rattle.std.proofs.lemmas.Bool.{leb-true}
use Rattle.request_lines.proofs.Sounds.{none-of, table-whole}
use Rattle.request_lines.proofs.lines.RequestLines.is_full.Goals as goal

pub returns-then-is_none-clause-many : goal.returns-then-is_none-clause-many
returns-then-is_none-clause-many c = λ full form m w s.
    let whole = table-whole c.args.self.now form m w s (none-of c.args.self.now.found c.if-is_none.ensures) in
    let low = leb-true 4294967280 c.clock.result full in
    let is = c.clock.ensures in
    let size = whole.clock in
    omega (arith, low, is, size)
