-- What tokens make of the reader's state, and the samples that they decide.
use Rattle.std.specs.Prelude.{ℕ, ◌+◌, List, [], ◌∷◌, ◌++◌, nat_lt, if◌then◌else◌}
use Rattle.fsb_signal.specs.declared.sample.Sample.{Sample}
use Rattle.vcd_grammar.specs.Tokens.{Token}
use Rattle.vcd_grammar.specs.Blocks.{Changed}
use Rattle.vcd_grammar.specs.Judging.{Known, nothing, TokenTurn, turn}
use Rattle.vcd_read.specs.declared.machine.Machine.{Machine}
use Rattle.vcd_read.specs.Lines.{OpenLines, at_start, after_events, decided_in}
use Rattle.vcd_read.specs.ReaderView.{known_of, lines_view}

-- what is known, and the values
pub record Taken : Type 0 where
  pub known : Known
  pub lines : OpenLines

-- what a machine has taken
abbrev pub taken : Machine → Taken
taken m = record { known = known_of m; lines = lines_view m }

-- before the first token
abbrev pub untaken : Taken
untaken = record { known = nothing; lines = at_start }

-- what a token's turn makes of it
abbrev pub turned : Taken → TokenTurn → Taken
turned s t = record { known = t.known; lines = after_events s.lines t.events }

-- the samples that a token's turn decides
abbrev pub decided_of : Taken → TokenTurn → List Sample
decided_of s t = decided_in s.lines t.events

-- a line has got some digits
abbrev pub line_changed : Known → ℕ → List ℕ → TokenTurn
line_changed k number digits =
    record { known = k; events = Changed (record { lines = number ∷ []; digits = digits }) ∷ [] }

-- what a token makes of it
abbrev pub take_token : Taken → Token → Taken
take_token s t = turned s (turn s.known t)

-- what tokens make of it
abbrev pub take_tokens : Taken → List Token → Taken
take_tokens s [] = s
take_tokens s (t ∷ ts) = take_tokens (take_token s t) ts

-- the samples that tokens decide
abbrev pub samples_in_tokens : Taken → List Token → List Sample
samples_in_tokens s [] = []
samples_in_tokens s (t ∷ ts) = decided_of s (turn s.known t) ++ samples_in_tokens (take_token s t) ts

-- samples with further ones behind them, of which those past the limit are left out; so many were decided before
abbrev pub pushed : ℕ → ℕ → List Sample → List Sample → List Sample
pushed limit decided samples [] = samples
pushed limit decided samples (s ∷ more) =
    pushed limit (decided + 1) (if nat_lt decided limit then samples ++ s ∷ [] else samples) more
