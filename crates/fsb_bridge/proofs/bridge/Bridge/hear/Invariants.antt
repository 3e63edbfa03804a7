use Rattle.std.proofs.Common.{◌≡◌, ◌++◌, map, take, drop}
use Rattle.fsb_bridge.specs.Deferrals.{told}
use Rattle.fsb_bridge.proofs.bridge.Bridge.hear.Given as goal

-- the deferrals before the place have heard it
abbrev pub invariant-loop-waiting : goal.invariant-loop-waiting
invariant-loop-waiting l =
    l.waiting-items ≡ map (told l.news) (take l.waiting-index l.initial.waiting-items)
    ++ drop l.waiting-index l.initial.waiting-items
