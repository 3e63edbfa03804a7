-- The lines that are drawn of a broken clock.
use Rattle.std.specs.Prelude.{List, [], ◌∷◌, fold, Option, Some, None}
use Rattle.reason_lines.specs.declared.named.NamedLines.{NamedLines}
use Rattle.reason_lines.specs.Named.{both, no_lines}
use Rattle.reason_lines.specs.LinesOf.{lines_of}
use Rattle.reason_texts.specs.declared.sentence.Sentence.{Sentence}

-- all lines of which one of the reasons speaks
abbrev pub lines_named : List Sentence → NamedLines
lines_named reasons = fold (λ named sentence. both named (lines_of sentence.reason)) no_lines reasons

-- the lines that are drawn of a clock with these reasons, if there are any
unfoldable pub named_by : List Sentence → Option NamedLines
named_by [] = None
named_by (sentence ∷ rest) = Some (lines_named (sentence ∷ rest))
