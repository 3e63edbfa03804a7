use Rattle.std.proofs.Common.{◌≡◌, ◌≤◌, ◌*◌, take}
use Rattle.fsb_plan_size.specs.AccessCount.{access_count}
use Rattle.fsb_plan_size.proofs.count.access_count.Given as goal

abbrev pub invariant-loop-script : goal.invariant-loop-script
invariant-loop-script l = (l.count ≡ access_count (take l.script-index l.script-items))
    × (l.count ≤ 32768 * l.script-index)
