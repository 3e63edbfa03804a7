use Rattle.std.proofs.Common.{◌∙◌, arith}
use Rattle.fsb_io.proofs.Interface.{written_more, written_part, written_all}
use Rattle.fsb_signal.specs.Samples.{is_known}
use Rattle.fsb_signal.specs.Parity.{has_no_parity}
use Rattle.vcd_write.proofs.Clocks.{clocks_text-at, clocks_text-past, holds-at}
use Rattle.vcd_write.proofs.dump.put_clocks.Goals as goal

pub returns-in_err-put_clock-clause-part : goal.returns-in_err-put_clock-clause-part
returns-in_err-put_clock-clause-part g c tells =
    written_part _ _ _ _ _ _ _ (c.loop-clock.invariant.written tells)
    (clocks_text-at c.args.profile c.args.samples.now c.loop-clock.clock c.loop-clock.before _
    c.loop-clock-test.true c.index-samples-clock.is)
    (c.put_clock.ensures.part tells)

pub loop-clock-preserved : goal.loop-clock-preserved
loop-clock-preserved g c = record {
  known = holds-at is_known c.args.samples.now c.loop-clock.clock c.index-samples-clock.result c.requires.known
      c.loop-clock-test.true c.index-samples-clock.is;
  parity = λ one. holds-at has_no_parity c.args.samples.now c.loop-clock.clock c.index-samples-clock.result
      (c.requires.parity one) c.loop-clock-test.true c.index-samples-clock.is;
  later = omega (arith, c.loop-clock.invariant.later, c.put_clock.ensures.cause.later);
  name = λ tells. c.put_clock.ensures.name_stays tells ∙ c.loop-clock.invariant.name tells;
  written = λ tells.
      written_more _ _ _ _ _ _ _ (c.loop-clock.invariant.written tells)
      (clocks_text-at c.args.profile c.args.samples.now c.loop-clock.clock c.loop-clock.before _
      c.loop-clock-test.true c.index-samples-clock.is)
      (c.in_ok-put_clock.ensures.whole tells);
}

pub returns-clause-whole : goal.returns-clause-whole
returns-clause-whole g c tells =
    written_all _ _ _ _ (c.loop-clock.invariant.written tells)
    (clocks_text-past c.args.profile c.args.samples.now c.loop-clock.clock c.loop-clock.before c.loop-clock-test.false)
