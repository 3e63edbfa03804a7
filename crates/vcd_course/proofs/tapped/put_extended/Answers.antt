use Rattle.std.proofs.Common.{◌≡◌, ◌+◌, ◌-◌, length, set, get_or, slice_index, take, ap, sym, subst, ◌∙◌, refl, arith, length-set}
use Rattle.std.proofs.lemmas.List.{take_all}
use Rattle.vcd_grammar.specs.Digits.{extended}
use Rattle.vcd_course.proofs.DigitFacts.{length_extended, extended_digit}
use Rattle.vcd_course.proofs.TappedFacts.{write_first, pad_first}
use Rattle.vcd_course.proofs.tapped.put_extended.Goals as goal

pub loop-i-init : goal.loop-i-init
loop-i-init c =
    let digits = c.args.digits.now in
    let missing = c.args.width - length digits in
    let none : missing ≡ missing + 0 = omega arith in
    record {
      long = omega arith;
      missing = refl;
      within = omega arith;
      first = subst (λ n. take n c.fill_first.new.row ≡ take n (extended c.args.width digits)) none
          (c.fill_first.ensures ∙ pad_first c.args.width digits _ c.pad_before.ensures);
    }

pub loop-i-preserved : goal.loop-i-preserved
loop-i-preserved c =
    let digits = c.args.digits.now in
    let inv = c.loop-i.invariant in
    let i = c.loop-i.i in
    let top = c.args.width - length digits in
    let xs = extended c.args.width digits in
    let n : length xs ≡ c.args.width = length_extended c.args.width digits c.requires.fits in
    let place : top + i + 1 ≡ top + (i + 1) = omega arith in
    let back : top + i - top ≡ i = omega arith in
    let here : get_or digits i 0 ≡ get_or xs (top + i) 0 =
    sym (extended_digit c.args.width digits (top + i) (omega arith) ∙ ap (λ k. slice_index digits k) back) in
    record {
      long = length-set c.loop-i.row (top + i) (get_or digits i 0) ∙ inv.long;
      missing = refl;
      within = omega arith;
      first = subst (λ k. take k (set c.loop-i.row (top + i) (get_or digits i 0)) ≡ take k xs) place
          (write_first c.loop-i.row xs (top + i) (get_or digits i 0)
          (omega (arith, inv.long, c.requires.width, c.requires.fits)) (omega (arith, n, c.requires.fits)) inv.first here);
    }

pub returns : goal.returns
returns c =
    let digits = c.args.digits.now in
    let inv = c.loop-i.invariant in
    let xs = extended c.args.width digits in
    let n : length xs ≡ c.args.width = length_extended c.args.width digits c.requires.fits in
    let end : c.args.width - length digits + c.loop-i.i ≡ c.args.width = omega (arith, inv.within, c.requires.fits) in
    subst (λ k. take k c.loop-i.row ≡ take k xs) end inv.first
    ∙ take_all c.args.width xs (omega (arith, n))
