-- What is left begins where the path does, but for what is passed.
use Rattle.std.proofs.Common.{◌≡◌, length}
use Rattle.scope_wiring.specs.Texts.{bare_from}
use Rattle.scope_wiring.proofs.text.bare_from.Given as goal

abbrev pub invariant-loop-byte : goal.invariant-loop-byte
invariant-loop-byte l = bare_from l.rest ≡ bare_from l.fn.path

abbrev pub decreases-loop-byte : goal.decreases-loop-byte
decreases-loop-byte l = length l.rest
