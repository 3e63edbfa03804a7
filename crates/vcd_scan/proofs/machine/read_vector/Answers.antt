use Rattle.std.proofs.Common.{◌≡◌, ◌&&◌, false, IfOk, if◌then◌else◌, Some, None, sym, ap, subst, ◌∙◌}
use Rattle.vcd_way.specs.Steps.{digits_by, is_unreadable, vector_digits}
use Rattle.vcd_scan.specs.Digits.{all_digits}
use Rattle.vcd_scan.proofs.Steps.{digits_same}
use Rattle.vcd_scan.proofs.machine.read_vector.Goals as goal

pub returns : goal.returns
returns c = λ m d t.
    let digits = c.args.digits.now in
    let w = c.args.rules.has_wide_digits in
    let known : (m.takes_any && is_unreadable digits) ≡ false =
    ap (λ b. b && is_unreadable digits) t ∙ sym c.is_let_pass.ensures ∙ c.if-is_let_pass.false in
    let same : vector_digits m digits ≡ all_digits w digits =
    ap (λ b. if b then None else digits_by m digits) known ∙ digits_same m w digits d in
    subst (λ v. IfOk c.read_digits.result (λ all. v ≡ (if all then Some c.read_digits.new.to.items else None)))
    (sym same) c.read_digits.ensures

pub returns-then-is_let_pass : goal.returns-then-is_let_pass
returns-then-is_let_pass c = λ m d t.
    let digits = c.args.digits.now in
    ap (λ b. if b && is_unreadable digits then None else digits_by m digits) t
    ∙ ap (λ b. if b then None else digits_by m digits) (sym c.is_let_pass.ensures ∙ c.if-is_let_pass.true)
