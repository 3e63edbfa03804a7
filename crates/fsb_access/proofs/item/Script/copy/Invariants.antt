use Rattle.std.proofs.Common.{◌≡◌, take}
use Rattle.fsb_access.proofs.item.Script.copy.Given as goal

-- the items so far
abbrev pub invariant-loop-item : goal.invariant-loop-item
invariant-loop-item l = l.items.items ≡ take l.item-index l.item-items
