use Rattle.std.proofs.Common.{◌≡◌, take, replicate, sym, subst, ◌∙◌, arith, length-set}
use Rattle.std.proofs.lemmas.List.{take_all, length-replicate, get_or-replicate}
use Rattle.vcd_course.proofs.TappedFacts.{write_first}
use Rattle.vcd_course.proofs.tapped.fill_first.Goals as goal

pub loop-i-preserved : goal.loop-i-preserved
loop-i-preserved c =
    let digit = c.args.digit in
    let xs = replicate c.args.count digit in
    let n = length-replicate c.args.count digit in
    record {
      long = length-set c.loop-i.row c.loop-i.i digit ∙ c.loop-i.invariant.long;
      first = write_first c.loop-i.row xs c.loop-i.i digit (omega arith) (omega (arith, n))
          c.loop-i.invariant.first (sym (get_or-replicate c.args.count c.loop-i.i digit 0 (omega arith)));
    }

pub returns : goal.returns
returns c =
    let xs = replicate c.args.count c.args.digit in
    let end : c.loop-i.i ≡ c.args.count = omega arith in
    subst (λ k. take k c.loop-i.row ≡ take k xs) end c.loop-i.invariant.first
    ∙ take_all c.args.count xs (omega (arith, length-replicate c.args.count c.args.digit))
