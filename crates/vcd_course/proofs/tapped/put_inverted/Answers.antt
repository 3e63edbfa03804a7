use Rattle.std.proofs.Common.{◌≡◌, length, take, subst, ◌∙◌, arith, length-set}
use Rattle.std.proofs.lemmas.List.{take_all}
use Rattle.vcd_grammar.specs.Digits.{extended}
use Rattle.vcd_way.specs.Events.{inverted_if}
use Rattle.vcd_course.proofs.DigitFacts.{length_extended, length_inverted}
use Rattle.vcd_course.proofs.TappedFacts.{write_first}
use Rattle.vcd_course.proofs.tapped.put_inverted.Goals as goal

pub loop-i-preserved : goal.loop-i-preserved
loop-i-preserved c =
    let tap = c.args.tap.now in
    let xs = inverted_if tap.inverted (extended tap.width c.args.digits.now) in
    let n : length xs ≡ tap.width = length_inverted tap.inverted (extended tap.width c.args.digits.now)
    ∙ length_extended tap.width c.args.digits.now c.requires.fits in
    record {
      long = length-set c.loop-i.row c.loop-i.i c.tap_digit.result ∙ c.loop-i.invariant.long;
      first = write_first c.loop-i.row xs c.loop-i.i c.tap_digit.result (omega arith) (omega (arith, n))
          c.loop-i.invariant.first c.tap_digit.ensures;
    }

pub returns : goal.returns
returns c =
    let tap = c.args.tap.now in
    let xs = inverted_if tap.inverted (extended tap.width c.args.digits.now) in
    let n : length xs ≡ tap.width = length_inverted tap.inverted (extended tap.width c.args.digits.now)
    ∙ length_extended tap.width c.args.digits.now c.requires.fits in
    let end : c.loop-i.i ≡ c.args.width = omega arith in
    subst (λ k. take k c.loop-i.row ≡ take k xs) end c.loop-i.invariant.first
    ∙ take_all c.args.width xs (omega (arith, n))
