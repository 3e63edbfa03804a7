use Rattle.std.proofs.Common.{◌≡◌, arith}
use Rattle.vcd_grammar.specs.Digits.{extended, is_unknown}
use Rattle.vcd_grammar.specs.Levels.{bits_from, is_low, level_of}
use Rattle.vcd_read.proofs.Bits.{extended_bits, fill_fits, bits_more, bits_fit, bits_read}
use Rattle.vcd_read.proofs.levels.level_of_digits.Goals as goal

pub loop-digit-init : goal.loop-digit-init
loop-digit-init c = record {
  asserted = extended_bits is_low c.args.width c.args.digits.now _ _ _ c.pad_before-pad.ensures c.ones.ensures
      c.bits_if-asserted.ensures;
  unknown = extended_bits is_unknown c.args.width c.args.digits.now _ _ _ c.pad_before-pad.ensures
      c.ones-2.ensures (rw c.is_unknown.ensures at c.bits_if-unknown.ensures);
  asserted_fits = fill_fits _ _ _ _ c.ones.ensures c.bits_if-asserted.ensures;
  unknown_fits = fill_fits _ _ _ _ c.ones-2.ensures c.bits_if-unknown.ensures;
}

pub loop-digit-preserved : goal.loop-digit-preserved
loop-digit-preserved c = record {
  asserted = bits_more is_low _ _ c.loop-digit.digit-index c.args.digits.now _ (omega arith)
      c.loop-digit.invariant.asserted c.bits_if.ensures;
  unknown = bits_more is_unknown _ _ c.loop-digit.digit-index c.args.digits.now _ (omega arith)
      c.loop-digit.invariant.unknown (rw c.is_unknown-in-loop-digit.ensures at c.bits_if-in-loop-digit.ensures);
  asserted_fits = bits_fit _ _ _ _ _ c.bits_if.ensures c.loop-digit.invariant.asserted_fits;
  unknown_fits = bits_fit _ _ _ _ _ c.bits_if-in-loop-digit.ensures c.loop-digit.invariant.unknown_fits;
}

pub returns : goal.returns
unfolding level_of
returns c =
    let asserted : c.loop-digit.asserted ≡ bits_from is_low 0 (extended c.args.width c.args.digits.now) =
    bits_read is_low _ c.loop-digit.digit-index c.args.digits.now _ (omega arith) c.loop-digit.invariant.asserted in
    let unknown : c.loop-digit.unknown ≡ bits_from is_unknown 0 (extended c.args.width c.args.digits.now) =
    bits_read is_unknown _ c.loop-digit.digit-index c.args.digits.now _ (omega arith)
    c.loop-digit.invariant.unknown in
    λ i. record { asserted = asserted i; unknown = unknown i }
