use Rattle.std.proofs.Common.{◌≡◌, ◌++◌, map, take, drop}
use Rattle.fsb_agent_view.specs.OwnRequests.{with_grant}
use Rattle.fsb_agent.proofs.outs.grant.Given as goal

-- the requests before the place are granted, where they have the number
abbrev pub invariant-loop-out : goal.invariant-loop-out
invariant-loop-out l =
    l.out-items ≡ map (with_grant l.number l.kept) (take l.out-index l.initial.out-items)
    ++ drop l.out-index l.initial.out-items
