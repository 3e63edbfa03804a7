use Rattle.std.proofs.Common.{arith, lit<}
use Rattle.std.proofs.lemmas.Fmt.{length-decimal-le}
use Rattle.vcd_write.proofs.clock.put_edge.Goals as goal

pub returns-clause-len : goal.returns-clause-len
returns-clause-len g c =
    let digits = length-decimal-le 7 c.args.time (lit< tt) c.requires.time (omega (arith, c.requires.time)) in
    omega (
      arith,
      digits,
      c.requires.edge,
      c.push.ensures.len,
      c.put_decimal.ensures.len,
      c.push-2.ensures.len,
      c.put_text.ensures.len,
    )
