use Rattle.std.proofs.Common.{◌≡◌, ◌||◌, ℕ, take}
use Rattle.std.specs.List.{list_any}
use Rattle.fsb_timely.specs.Kept.{is_named_in}
use Rattle.fsb_bus.specs.ListedLines.{is_listed}
use Rattle.fsb_bus.proofs.made.name_items.Given as goal

abbrev pub invariant-loop-item : goal.invariant-loop-item
invariant-loop-item l = (line : ℕ)
    → is_listed l.lines.items line
    ≡ (is_listed l.fn.lines.items line || list_any (is_named_in line) (take l.item-index l.items))
