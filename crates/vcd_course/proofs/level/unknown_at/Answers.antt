use Rattle.std.proofs.Common.{◌+◌, ◌<◌, ◌≤◌, ◌^◌, length, take, drop, ap₂, sym, ◌∙◌, subst, arith}
use Rattle.std.proofs.lemmas.List.{length-take}
use Rattle.vcd_course.proofs.Bits.{unknown_bits, unknown_fits}
use Rattle.vcd_course.proofs.level.unknown_at.Goals as goal

pub overflow_add-result : goal.overflow_add-result
overflow_add-result c =
    let block = take 16 (drop c.args.at c.args.row.now) in
    let few : length block ≤ 64 = omega (arith, length-take 16 (drop c.args.at c.args.row.now)) in
    record {
      fits = subst (λ n. n < 2 ^ 64)
          (sym (ap₂ (λ a b. a + b) c.equal_at-small.ensures c.equal_at-large.ensures ∙ unknown_bits block))
          (unknown_fits block few);
    }

pub returns : goal.returns
returns c =
    ap₂ (λ a b. a + b) c.equal_at-small.ensures c.equal_at-large.ensures
    ∙ unknown_bits (take 16 (drop c.args.at c.args.row.now))
