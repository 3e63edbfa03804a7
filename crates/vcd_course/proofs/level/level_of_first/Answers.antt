use Rattle.std.proofs.Common.{◌≡◌, ◌+◌, ◌-◌, ◌*◌, ◌/◌, ◌^◌, ◌≤◌, length, take, ap, ◌∙◌, arith}
use Rattle.vcd_grammar.specs.Digits.{is_unknown}
use Rattle.vcd_grammar.specs.Levels.{bits_from, is_low, level_of}
use Rattle.vcd_course.proofs.Bits.{bits_first, block_read, block_fits}
use Rattle.vcd_course.proofs.level.level_of_first.Goals as goal

pub overflow_mul-asserted : goal.overflow_mul-asserted
overflow_mul-asserted c = record {
  fits = omega (
    arith,
    block_fits is_low c.args.row.now (16 * c.loop-block.block) _ _ c.requires.long
        (omega (arith, c.loop-block-test.true, c.requires.most)) c.loop-block.invariant.asserted
        c.equal_at-low.ensures,
  );
}

pub overflow_add-asserted : goal.overflow_add-asserted
overflow_add-asserted c = record {
  fits = block_fits is_low c.args.row.now (16 * c.loop-block.block) _ _ c.requires.long
      (omega (arith, c.loop-block-test.true, c.requires.most)) c.loop-block.invariant.asserted
      c.equal_at-low.ensures;
}

pub overflow_mul-unknown : goal.overflow_mul-unknown
overflow_mul-unknown c = record {
  fits = omega (
    arith,
    block_fits is_unknown c.args.row.now (16 * c.loop-block.block) _ _ c.requires.long
        (omega (arith, c.loop-block-test.true, c.requires.most)) c.loop-block.invariant.unknown
        c.unknown_at-open.ensures,
  );
}

pub overflow_add-unknown : goal.overflow_add-unknown
overflow_add-unknown c = record {
  fits = block_fits is_unknown c.args.row.now (16 * c.loop-block.block) _ _ c.requires.long
      (omega (arith, c.loop-block-test.true, c.requires.most)) c.loop-block.invariant.unknown
      c.unknown_at-open.ensures;
}

pub loop-block-preserved : goal.loop-block-preserved
loop-block-preserved c =
    let row = c.args.row.now in
    let inv = c.loop-block.invariant in
    let room : 16 * c.loop-block.block + 16 ≤ 64 = omega (arith, c.loop-block-test.true, c.requires.most) in
    let next : 16 * c.loop-block.block + 16 ≡ 16 * (c.loop-block.block + 1) = omega arith in
    record {
      within = omega (arith, c.loop-block-test.true);
      asserted = block_read is_low row (16 * c.loop-block.block) _ _ c.requires.long room inv.asserted
          c.equal_at-low.ensures
          ∙ ap (λ n. bits_from is_low 0 (take n row)) next;
      unknown = block_read is_unknown row (16 * c.loop-block.block) _ _ c.requires.long room inv.unknown
          c.unknown_at-open.ensures
          ∙ ap (λ n. bits_from is_unknown 0 (take n row)) next;
    }

pub returns : goal.returns
unfolding level_of
returns c =
    let row = c.args.row.now in
    let width = c.args.width in
    let read = 16 * c.loop-block.block in
    let inv = c.loop-block.invariant in
    let past : width ≤ read = omega (arith, c.loop-block-test.false) in
    let within : read ≤ length row = omega (arith, inv.within, c.requires.long, c.requires.most) in
    let asserted = ap (λ n. n / 2 ^ (read - width)) inv.asserted ∙ bits_first is_low width read row within past in
    let unknown = ap (λ n. n / 2 ^ (read - width)) inv.unknown ∙ bits_first is_unknown width read row within past in
    λ i. record { asserted = asserted i; unknown = unknown i }
