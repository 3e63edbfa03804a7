use Rattle.std.proofs.Common.{◌≡◌, ◌≤◌, ◌*◌, take}
use Rattle.fsb_plan_size.specs.AccessCount.{script_accesses}
use Rattle.fsb_plan_size.proofs.count.script_accesses.Given as goal

abbrev pub invariant-loop-item : goal.invariant-loop-item
invariant-loop-item l = (l.count ≡ script_accesses (take l.item-index l.items)) × (l.count ≤ 8 * l.item-index)
