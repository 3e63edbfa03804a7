use Rattle.std.proofs.Common.{◌≡◌, ◌==◌, ◌||◌, ℕ, take}
use Rattle.std.specs.List.{list_any}
use Rattle.fsb_access.specs.Access.{accessed_line}
use Rattle.fsb_bus.specs.ListedLines.{is_listed}
use Rattle.fsb_bus.proofs.made.name_accesses.Given as goal

abbrev pub invariant-loop-access : goal.invariant-loop-access
invariant-loop-access l = (line : ℕ)
    → is_listed l.lines.items line
    ≡ (is_listed l.fn.lines.items line || list_any (λ access. accessed_line access == line)
    (take l.access-index l.accesses))
