-- What is left of the two paths is the same exactly where the paths are.
use Rattle.std.proofs.Common.{◌≡◌, true, length}
use Rattle.scope_wiring.specs.Texts.{is_same_path}
use Rattle.scope_wiring.proofs.SamePaths.{begins_bare}
use Rattle.scope_wiring.proofs.text.is_same_path.Given as goal

abbrev pub invariant-loop-byte : goal.invariant-loop-byte
invariant-loop-byte l =
    (is_same_path l.left l.right ≡ is_same_path l.fn.one l.fn.other)
    × (begins_bare l.left ≡ true)
    × (begins_bare l.right ≡ true)

abbrev pub decreases-loop-byte : goal.decreases-loop-byte
decreases-loop-byte l = length l.left
