use Rattle.std.proofs.Common.{◌≡◌, ◌+◌, true, drop, get_or, arith, sym, ap, subst, ◌∙◌}
use Rattle.std.proofs.lemmas.List.{get_or-drop}
use Rattle.vcd_grammar.specs.Tokens.{is_white}
use Rattle.vcd_read.proofs.DirectTokens.{number_longer, stamp_begins}
use Rattle.vcd_read.proofs.direct.stamp_in.Goals as goal

pub returns : goal.returns
returns c =
    let bytes = c.args.bytes.now in
    let found = c.in_ok-len in
    let next : 1 + found.len ≡ found.len + 1 = omega arith in
    stamp_begins bytes found.len found.time (omega (arith, c.if-bytes-lt20.false))
    (omega (arith, c.if-bytes-ne35.false))
    (number_longer 19 (drop 1 bytes) found.len found.time found.ensures) c.if-len-eq0.false
    (subst (λ b. is_white b ≡ true) (sym (get_or-drop 1 bytes found.len 0 ∙ ap (λ n. get_or bytes n 0) next))
    (sym c.is_gap.ensures ∙ c.if-not-is_gap.false))
