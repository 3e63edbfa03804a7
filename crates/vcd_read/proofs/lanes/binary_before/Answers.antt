use Rattle.std.proofs.Common.{◌≡◌, ◌+◌, ◌*◌, take, true, sym, subst, arith}
use Rattle.std.specs.List.{list_all}
use Rattle.vcd_grammar.specs.Levels.{bits_from, is_low}
use Rattle.vcd_read.specs.Lanes.{is_binary}
use Rattle.vcd_read.proofs.LaneRuns.{more_pass}
use Rattle.vcd_read.proofs.BinaryDigits.{run_read, run_fits, block_read, block_fits}
use Rattle.vcd_read.proofs.lanes.binary_before.Goals as goal

pub overflow_add-result-then-run-lt-LANES : goal.overflow_add-result-then-run-lt-LANES
overflow_add-result-then-run-lt-LANES c = record {
  fits = run_fits c.args.text.now (16 * c.loop-block.block) _ _ c.requires
      (omega (arith, c.loop-block-test.true)) c.loop-block.invariant.value c.block_at-run.ensures.zeros
      c.block_at-run.result.0 c.if-run-lt-LANES.true;
}

pub overflow_mul-zeros : goal.overflow_mul-zeros
overflow_mul-zeros c = record {
  fits = omega (
    arith,
    block_fits c.args.text.now (16 * c.loop-block.block) _ _ c.requires
        (omega (arith, c.loop-block-test.true)) c.loop-block.invariant.value c.block_at-run.ensures.zeros,
  );
}

pub overflow_add-zeros : goal.overflow_add-zeros
overflow_add-zeros c = record {
  fits = block_fits c.args.text.now (16 * c.loop-block.block) _ _ c.requires
      (omega (arith, c.loop-block-test.true)) c.loop-block.invariant.value c.block_at-run.ensures.zeros;
}

pub returns-then-run-lt-LANES : goal.returns-then-run-lt-LANES
returns-then-run-lt-LANES c =
    let run = c.block_at-run in
    let at = 16 * c.loop-block.block in
    record {
      few = omega (arith, c.loop-block-test.true, c.if-run-lt-LANES.true);
      digits = more_pass (λ b. is_binary b) c.args.text.now
          at run.result.0 (omega (arith, c.loop-block-test.true, c.requires, run.ensures.run.few))
          c.loop-block.invariant.digits run.ensures.run.passes;
      value = sym (run_read c.args.text.now at _ _ c.requires (omega (arith, c.loop-block-test.true))
          c.loop-block.invariant.value c.block_at-run.ensures.zeros run.result.0 c.if-run-lt-LANES.true);
    }

pub loop-block-preserved : goal.loop-block-preserved
loop-block-preserved c =
    let run = c.block_at-run in
    let text = c.args.text.now in
    let block = c.loop-block.block in
    let whole : run.result.0 ≡ 16 = omega (arith, run.ensures.run.few, c.if-run-lt-LANES.false) in
    let next : 16 * block + 16 ≡ 16 * (block + 1) = omega arith in
    record {
      digits = subst (λ n. list_all is_binary (take n text) ≡ true) next
          (more_pass (λ b. is_binary b) text (16 * block) 16 (omega (arith, c.loop-block-test.true, c.requires))
          c.loop-block.invariant.digits
          (λ k from to. run.ensures.run.passes k from (omega (arith, to, whole))));
      value = subst (λ n. bits_from is_low 0 (take n text) ≡ c.loop-block.zeros * 65536 + c.block_at-run.result.1) next
          (sym (block_read text (16 * block) _ _ c.requires (omega (arith, c.loop-block-test.true))
          c.loop-block.invariant.value c.block_at-run.ensures.zeros));
    }

pub returns : goal.returns
returns c =
    let all : 16 * c.loop-block.block ≡ 64 = omega (arith, c.loop-block.auto, c.loop-block-test.false) in
    record {
      few = omega arith;
      digits = subst (λ n. list_all is_binary (take n c.args.text.now) ≡ true) all c.loop-block.invariant.digits;
      value = subst (λ n. bits_from is_low 0 (take n c.args.text.now) ≡ c.loop-block.zeros) all
          c.loop-block.invariant.value;
    }
