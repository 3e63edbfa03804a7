use Rattle.std.proofs.Common.{◌≤◌, ◌+◌, drop, map}
use Rattle.scope_wiring.specs.Settling.{said_by}
use Rattle.scope_top.proofs.ReadLines.{ReadSoFar}
use Rattle.scope_top.proofs.named.read_options.Given as goal

abbrev pub invariant-loop-byte : goal.invariant-loop-byte
invariant-loop-byte l =
    ReadSoFar (map said_by l.fn.options.items) (map said_by l.options.items) l.number l.line.items (drop l.byte-index l.text) l.text
    × (l.number ≤ l.byte-index + 1)
