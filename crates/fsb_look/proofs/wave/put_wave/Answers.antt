use Rattle.std.proofs.Common.{◌∙◌, refl, arith}
use Rattle.fsb_io.proofs.Interface.{written_none, written_more, written_part, written_all}
use Rattle.fsb_look.proofs.NextLine.{next_line, no_line, part_of_all}
use Rattle.fsb_look.proofs.wave.put_wave.Goals as goal

pub loop-i-init : goal.loop-i-init
loop-i-init g c = record {
  written = λ tells from to h stands. written_none _ _;
  name = λ tells. refl;
  later = omega arith;
}

pub returns-in_err-put_line-clause-part : goal.returns-in_err-put_line-clause-part
returns-in_err-put_line-clause-part g c tells from to h stands =
    let more = c.lines-i-end.ensures from to h stands in
    written_part _ _ _ _ _ _ _ (c.loop-i.invariant.written tells from to h stands)
    (next_line _ c.loop-i.i (omega (arith, more, c.loop-i-test.true))) (c.put_line.ensures.part tells from to h stands)

pub loop-i-preserved : goal.loop-i-preserved
loop-i-preserved g c = record {
  written = λ tells from to h stands.
      let more = c.lines-i-end.ensures from to h stands in
      written_more _ _ _ _ _ _ _ (c.loop-i.invariant.written tells from to h stands)
      (next_line _ c.loop-i.i (omega (arith, more, c.loop-i-test.true)))
      (c.in_ok-put_line.ensures.whole tells from to h stands);
  name = λ tells. c.put_line.ensures.name_stays tells ∙ c.loop-i.invariant.name tells;
  later = omega (arith, c.loop-i.invariant.later, c.put_line.ensures.cause.later);
}

pub returns-clause-whole : goal.returns-clause-whole
returns-clause-whole g c tells from to h stands =
    let more = c.lines-i-end.ensures from to h stands in
    written_all _ _ _ _ (c.loop-i.invariant.written tells from to h stands)
    (no_line _ c.loop-i.i (omega (arith, more, c.loop-i-test.false)))

pub returns-clause-part : goal.returns-clause-part
returns-clause-part g c tells from to h stands =
    let more = c.lines-i-end.ensures from to h stands in
    let w = c.loop-i.invariant.written tells from to h stands in
    part_of_all _ _ _ (written_all _ _ _ _ w (no_line _ c.loop-i.i (omega (arith, more, c.loop-i-test.false))))
