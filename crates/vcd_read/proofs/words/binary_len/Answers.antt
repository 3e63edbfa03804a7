use Rattle.std.proofs.Common.{◌≡◌, get_or, arith}
use Rattle.vcd_grammar.specs.Digits.{is_value_digit}
use Rattle.vcd_read.proofs.LaneRuns.{more_pass, binary_value}
use Rattle.vcd_read.proofs.words.binary_len.Goals as goal

pub returns-then-run-lt-LANES-clause-digits : goal.returns-then-run-lt-LANES-clause-digits
returns-then-run-lt-LANES-clause-digits c =
    let run = c.binary_run-run in
    more_pass (λ b. is_value_digit b) c.args.word.now c.loop-at.at run.result
    (omega (arith, c.loop-at-test.true, c.loop-at.invariant.within, run.ensures.few)) c.loop-at.invariant.digits
    (λ k from to. binary_value (get_or c.args.word.now k 0) (run.ensures.passes k from to))

pub loop-at-preserved : goal.loop-at-preserved
loop-at-preserved c =
    let run = c.binary_run-run in
    let whole : run.result ≡ 16 = omega (arith, run.ensures.few, c.if-run-lt-LANES.false) in
    record {
      within = omega (arith, c.loop-at-test.true, c.loop-at.invariant.within);
      digits = more_pass (λ b. is_value_digit b) c.args.word.now c.loop-at.at 16
          (omega (arith, c.loop-at-test.true, c.loop-at.invariant.within)) c.loop-at.invariant.digits
          (λ k from to. binary_value (get_or c.args.word.now k 0)
          (run.ensures.passes k from (omega (arith, to, whole))));
    }
