use Rattle.std.proofs.Common.{◌≡◌, length, take, sym, subst, ◌∙◌, arith, length-set}
use Rattle.std.proofs.lemmas.List.{take_all}
use Rattle.vcd_way.specs.Events.{settled_digits}
use Rattle.vcd_course.proofs.SettleFacts.{length_settled, settled_digit_at}
use Rattle.vcd_course.proofs.TappedFacts.{write_first}
use Rattle.vcd_course.proofs.settle.settle_row.Goals as goal

pub loop-i-preserved : goal.loop-i-preserved
loop-i-preserved c =
    let inv = c.loop-i.invariant in
    let before = c.args.before.now in
    let after = c.args.after.now in
    let n : length (settled_digits before after) ≡ 64 = length_settled before after ∙ inv.before in
    record {
      long = length-set c.loop-i.row c.loop-i.i c.settled_digit.result ∙ inv.long;
      before = inv.before;
      after = inv.after;
      first = write_first c.loop-i.row (settled_digits before after) c.loop-i.i c.settled_digit.result
          (omega arith) (omega (arith, n)) inv.first
          (c.settled_digit.ensures ∙ sym (settled_digit_at before after c.loop-i.i (omega (arith, inv.before, inv.after))
          (omega (arith, inv.before))));
    }

pub returns : goal.returns
returns c =
    let inv = c.loop-i.invariant in
    let before = c.args.before.now in
    let after = c.args.after.now in
    let n : length (settled_digits before after) ≡ 64 = length_settled before after ∙ inv.before in
    let end : c.loop-i.i ≡ 64 = omega arith in
    sym (take_all 64 c.loop-i.row (omega (arith, inv.long)))
    ∙ subst (λ k. take k c.loop-i.row ≡ take k (settled_digits before after)) end inv.first
    ∙ take_all 64 (settled_digits before after) (omega (arith, n))
