use Rattle.std.proofs.Common.{◌≡◌, ◌-◌, ◌^◌, arith, ap, ◌∙◌}
use Rattle.std.proofs.lemmas.Nat.Bits.{ones_shr}
use Rattle.vcd_read.proofs.levels.ones.Goals as goal

pub returns-else-count-eq0 : goal.returns-else-count-eq0
returns-else-count-eq0 c =
    let count = c.args.count in
    let same : 64 - (64 - count) ≡ count = omega arith in
    ones_shr 64 (64 - count) (omega arith) ∙ ap (λ n. 2 ^ n - 1) same
