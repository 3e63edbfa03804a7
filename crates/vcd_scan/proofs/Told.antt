-- What a machine says, from which nothing more is erased.
use Rattle.std.proofs.Common.{◌≡◌, ℕ, List, refl, sym, ap, ◌∙◌}
use Rattle.vcd_way.specs.Steps.{InRemark, DumpState}
use Rattle.vcd_scan.specs.declared.machine.Machine.{Machine}
use Rattle.vcd_scan.specs.declared.machine.Place.{Place}
use Rattle.vcd_scan.specs.declared.machine.Place.TheVariants as places
use Rattle.vcd_scan.specs.Wired.{Wiring}
use Rattle.vcd_scan.specs.Erased.{section_from, remarks_from, spot_erased, erased}
use Rattle.vcd_scan.specs.Told.{spot_told, state_told}
use Rattle.vcd_scan.proofs.Erasing.{heard-again, limit-again}

told-spot : (p : Place) (digits : List ℕ) → spot_erased (spot_told p digits) ≡ spot_told p digits
told-spot places.Values digits = refl
told-spot (places.Code from) digits = refl
told-spot (places.OtherCode from) digits = refl
told-spot (places.Remark from heard) digits =
    ap (λ h. InRemark (section_from from h)) (heard-again heard)

pub told-erased : (m : Machine) → erased (state_told m) ≡ state_told m
told-erased m = λ i. record (state_told m) {
  spot = told-spot m.spot m.digits.items i;
  remarks = remarks_from (limit-again m.limit i);
}

-- what is known of a machine is what a step leaves
pub leaves : (new : Machine) (s : DumpState Wiring) → state_told new ≡ s → state_told new ≡ erased s
leaves new s h = sym (told-erased new) ∙ ap (λ (x : DumpState Wiring). erased x) h
