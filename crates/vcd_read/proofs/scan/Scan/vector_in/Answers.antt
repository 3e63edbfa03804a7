use Rattle.std.proofs.Common.{◌≡◌, ◌-◌, ◌^◌, ◌<◌, length, take, drop, refl, sym, ap, subst, ◌∙◌, arith}
use Rattle.std.proofs.lemmas.List.{take_all, length-drop, length-take-le}
use Rattle.vcd_grammar.specs.Digits.{extended}
use Rattle.vcd_grammar.specs.Levels.{is_low, level_of}
use Rattle.vcd_read.specs.Lanes.{BeginsWithBinary}
use Rattle.vcd_read.proofs.BinaryDigits.{bits_lt}
use Rattle.vcd_read.proofs.DirectVectors.{vector_begins}
use Rattle.vcd_read.proofs.scan.Scan.vector_in.Goals as goal

pub level_of_binary-level-requires-clause-small : goal.level_of_binary-level-requires-clause-small
level_of_binary-level-requires-clause-small c =
    let bytes = c.args.bytes.now in
    let found = c.binary_before-count in
    let text = take (length bytes - 1) (drop 1 bytes) in
    let rest : text ≡ drop 1 bytes = take_all (length bytes - 1) (drop 1 bytes) (omega (arith, length-drop 1 bytes)) in
    let long = length-take-le found.result.0 text
    (omega (arith, found.ensures.few, ap (λ l. length l) rest, length-drop 1 bytes, c.if-bytes-lt68.false)) in
    subst (λ n. found.result.1 < 2 ^ n) long
    (subst (λ low. low < 2 ^ length (take found.result.0 text)) found.ensures.value
    (bits_lt is_low (take found.result.0 text)))

pub returns : goal.returns
returns c =
    let bytes = c.args.bytes.now in
    let found = c.binary_before-count in
    let rest : take (length bytes - 1) (drop 1 bytes) ≡ drop 1 bytes =
    take_all (length bytes - 1) (drop 1 bytes) (omega (arith, length-drop 1 bytes)) in
    vector_begins c.args.self.now.machine.codes bytes found.result.0 found.result.1 _ c.in_ok-number.number
    c.level_of_binary-level.result (omega (arith, c.if-bytes-lt68.false)) (omega (arith, c.if-bytes-ne98.false))
    (subst (λ text. BeginsWithBinary text found.result.0 found.result.1) rest found.ensures) c.if-count-eq0.false
    (sym c.is_gap.ensures ∙ c.if-not-is_gap.false) refl (sym c.is_white.ensures
    ∙ c.if-is_white.false) (sym c.is_gap-else-is_white.ensures ∙ c.if-not-is_gap-2.false)
    c.in_ok-number.ensures c.if-number-eq0.false (omega (arith, c.if-number-ge22.false))
    (omega (arith, c.width_at-width.ensures.width, c.if-width-count.false))
    (λ digits long binary value. c.level_of_binary-level.ensures digits long binary value
    ∙ ap (λ w. level_of (extended w digits)) c.width_at-width.ensures.width)
