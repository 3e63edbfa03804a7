use Rattle.std.proofs.Common.{◌≡◌, arith}
use Rattle.vcd_cut.specs.Cutting.{is_dark}
use Rattle.vcd_cut.proofs.LaneRuns.{more_pass}
use Rattle.vcd_cut.proofs.white.span_len.Goals as goal

pub returns-then-run-lt-LANES-clause-dark : goal.returns-then-run-lt-LANES-clause-dark
returns-then-run-lt-LANES-clause-dark c =
    let run = c.dark_run-run in
    more_pass (λ b. is_dark b) c.args.bytes.now c.loop-at.at run.result
    (omega (arith, c.loop-at-test.true, c.loop-at.invariant.within, run.ensures.few))
    c.loop-at.invariant.dark run.ensures.passes

pub loop-at-preserved : goal.loop-at-preserved
loop-at-preserved c =
    let run = c.dark_run-run in
    let whole : run.result ≡ 16 = omega (arith, run.ensures.few, c.if-run-lt-LANES.false) in
    record {
      within = omega (arith, c.loop-at-test.true, c.loop-at.invariant.within);
      dark = more_pass (λ b. is_dark b) c.args.bytes.now c.loop-at.at 16
          (omega (arith, c.loop-at-test.true, c.loop-at.invariant.within)) c.loop-at.invariant.dark
          (λ k from to. run.ensures.passes k from (omega (arith, to, whole)));
    }
