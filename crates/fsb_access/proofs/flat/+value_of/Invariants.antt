use Rattle.std.proofs.Common.{length}
use Rattle.fsb_access.proofs.flat.+value_of.Given as goal

-- the bytes that are left
abbrev pub decreases-value_of : goal.decreases-value_of
decreases-value_of l = length l.bytes.now
