use Rattle.std.proofs.Common.{◌≡◌, take}
use Rattle.fsb_rules.proofs.outstanding.copy_into.Given as goal

-- those so far are copied
abbrev pub invariant-loop-open : goal.invariant-loop-open
invariant-loop-open l = l.copy.items ≡ take l.open-index l.opens
