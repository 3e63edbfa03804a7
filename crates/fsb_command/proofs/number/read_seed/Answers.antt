use Rattle.std.proofs.Common.{rules, ◌≡◌, ◌∙◌, ◌+◌, ◌-◌, length, inl, inr, ⊎_elim, sym, ap, arith}
use Rattle.std.proofs.lemmas.Bool.Decides.{Decides-eqb}
use Rattle.fsb_command.specs.Number.{seed_named}
use Rattle.fsb_command.proofs.SeedDigits.{both_digits, no_front, no_last, no_seed}
use Rattle.fsb_command.proofs.number.read_seed.Goals as goal

pub returns-then-is_empty : goal.returns-then-is_empty
returns-then-is_empty c =
    let same = c.as_bytes-digits.ensures.value in
    no_seed _ (⊎_elim
    (λ t. inl (sym (ap length same) ∙ (Decides-eqb (length c.as_bytes-digits.result.now) 0).0
    (sym c.is_empty.ensures ∙ t)))
    (λ p. inr (omega (arith, ap length same, p.1))) c.then-is_empty.either)

pub returns-in_err-decimal_digits : goal.returns-in_err-decimal_digits
returns-in_err-decimal_digits c =
    let digits = c.as_bytes-digits.result.now in
    let some : length digits ≡ 0 → ⊥ = λ e. search rules in
    let at : (length digits - 1) + 1 ≡ length digits = omega arith in
    c.from_residual.ensures ∙ no_front digits _ _ (length digits - 1) at
    (omega arith) c.split_at.ensures.front c.split_at.ensures.back c.in_err-decimal_digits.ensures.value
    ∙ ap seed_named c.as_bytes-digits.ensures.value

pub returns-in_err-decimal_digits-2 : goal.returns-in_err-decimal_digits-2
returns-in_err-decimal_digits-2 c =
    let digits = c.as_bytes-digits.result.now in
    let some : length digits ≡ 0 → ⊥ = λ e. search rules in
    let at : (length digits - 1) + 1 ≡ length digits = omega arith in
    c.from_residual-in_err-decimal_digits-2.ensures
    ∙ no_last digits _ _ (length digits - 1) at
    (omega arith) c.split_at.ensures.front c.split_at.ensures.back _ c.in_ok-decimal_digits.ensures.value
    c.in_err-decimal_digits-2.ensures.value
    ∙ ap seed_named c.as_bytes-digits.ensures.value

pub returns : goal.returns
returns c =
    let digits = c.as_bytes-digits.result.now in
    let some : length digits ≡ 0 → ⊥ = λ e. search rules in
    let at : (length digits - 1) + 1 ≡ length digits = omega arith in
    c.with_digit.ensures
    ∙ both_digits digits _ _ (length digits - 1) at
    (omega arith) c.split_at.ensures.front c.split_at.ensures.back _ _ c.in_ok-decimal_digits.ensures.value
    c.in_ok-decimal_digits-2.ensures.value
    ∙ ap seed_named c.as_bytes-digits.ensures.value
