use Rattle.std.proofs.Common.{◌≡◌, ◌^◌, ◌*◌, ◌+◌, ◌-◌, ◌∷◌, false, suc, get_or, drop, drop-cons, length}
use Rattle.std.proofs.Common.{inl, inr, ap, ◌∙◌, arith}
use Rattle.std.proofs.lemmas.Bool.{cases_Bool}
use Rattle.std.proofs.lemmas.Nat.{pow-add}
use Rattle.fsb_bench_view.specs.BusSample.{bits_of}
use Rattle.fsb_bus.proofs.lines.bits_of.Goals as goal

pub loop-place-preserved : goal.loop-place-preserved
loop-place-preserved c =
    let bits = c.args.bits.now in
    let p = c.loop-place.place in
    let number = c.loop-place.number in
    let old = c.loop-place.invariant in
    let next : suc (p - 1) ≡ p = omega (arith, c.loop-place-test.true) in
    let split : drop (p - 1) bits ≡ get_or bits (p - 1) false ∷ drop p bits =
    drop-cons bits (p - 1) false (omega (arith, c.loop-place-test.true, old.within))
    ∙ ap (λ n. get_or bits (p - 1) false ∷ drop n bits) next in
    let longer : length bits - (p - 1) ≡ (length bits - p) + 1 = omega (arith, c.loop-place-test.true, old.within) in
    let power : 2 ^ (length bits - (p - 1)) ≡ 2 ^ (length bits - p) * 2 = rw longer (pow-add 2 (length bits - p) 1) in
    elim (cases_Bool (get_or bits (p - 1) false)) [
      | inl on ↦
          let one : c.from.result ≡ 1 = rw on at c.from.ensures in
          let sum : 2 * number + 1 ≡ 1 + 2 * bits_of (drop p bits) = omega (arith, old.value) in
          record {
            within = omega (arith, old.within);
            value = rw (split, on, one) sum;
            bound = rw (power, one) (omega (arith, old.bound));
          }
      | inr off ↦
          let none : c.from.result ≡ 0 = rw off at c.from.ensures in
          let sum : 2 * number + 0 ≡ 0 + 2 * bits_of (drop p bits) = omega (arith, old.value) in
          record {
            within = omega (arith, old.within);
            value = rw (split, off, none) sum;
            bound = rw (power, none) (omega (arith, old.bound));
          }
    ]
