-- The name that was begun and the bytes that are left go on from the lines so far.
use Rattle.std.proofs.Common.{◌≡◌, drop}
use Rattle.scope_words.specs.Names.{Lines, lines_in}
use Rattle.scope_words.proofs.Parts.{lines_behind}
use Rattle.scope_words.proofs.names.read_line_names.Given as goal

abbrev pub invariant-loop-byte : goal.invariant-loop-byte
invariant-loop-byte l =
    (lines_behind l.lines.items l.name.items (drop l.byte-index l.word) ≡ lines_in l.word) × Lines l.lines.items
