use Rattle.std.proofs.Common.{◌≡◌, refl, append_assoc, ◌∙◌}
use Rattle.fsb_signal.specs.DumpText.{width_of}
use Rattle.scope_write.proofs.ValueText.{shown_text-single, shown_text-word}
use Rattle.scope_write.proofs.value.put_value.Goals as goal

pub returns-then-width-eq1-clause-items : goal.returns-then-width-eq1-clause-items
returns-then-width-eq1-clause-items g c =
    let width : width_of c.args.number ≡ c.signal_at.result.now.width = rw c.signal_at.ensures refl in
    let text = shown_text-single c.args.number c.args.asserted c.args.unknown (width ∙ c.if-width-eq1.true) in
    rw (c.push-then-width-eq1.ensures.items, c.push.ensures.items, c.put_digits.ensures.items, text)
    (simp append_assoc refl)

pub returns-else-width-eq1-clause-items : goal.returns-else-width-eq1-clause-items
returns-else-width-eq1-clause-items g c =
    let width : width_of c.args.number ≡ c.signal_at.result.now.width = rw c.signal_at.ensures refl in
    let text = shown_text-word c.args.number c.args.asserted c.args.unknown _ width c.if-width-eq1.false in
    rw (
      c.push-else-width-eq1-4.ensures.items,
      c.push-else-width-eq1-3.ensures.items,
      c.push-else-width-eq1-2.ensures.items,
      c.put_digits-else-width-eq1.ensures.items,
      c.push-else-width-eq1.ensures.items,
      text,
    ) (simp append_assoc refl)
