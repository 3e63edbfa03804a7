use Rattle.std.proofs.Common.{◌++◌, Some, sym, ap, ◌∙◌}
use Rattle.vcd_scan.proofs.KnownDigits.{known_mean}
use Rattle.vcd_scan.proofs.digits.read_digits.Goals as goal

pub returns-then-are_known : goal.returns-then-are_known
returns-then-are_known c =
    let bytes = c.args.bytes.now in
    known_mean c.args.is_wide bytes (sym c.are_known.ensures ∙ c.if-are_known.true)
    ∙ ap Some (ap (λ xs. xs ++ bytes) (sym c.clear.ensures.items) ∙ sym c.in_ok-extend_from_slice.ensures.items)
