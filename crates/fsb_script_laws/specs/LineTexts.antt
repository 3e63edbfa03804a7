-- What it means that a text is one line of a kind.
use Rattle.std.specs.Prelude.{◌≡◌, ℕ, List, [], ◌∷◌, Result, Ok, Bool, true, false}
use Rattle.fsb_hazard.specs.declared.line.HazardLine.{HazardLine}
use Rattle.fsb_hazard.specs.declared.line.HazardLine.TheVariants.{Bnr}
use Rattle.fsb_script.specs.declared.fault.Cause.{Cause}
use Rattle.fsb_script.specs.Parsing.{◌>>=◌}
use Rattle.fsb_script.specs.TextWords.{text_lines}
use Rattle.fsb_script.specs.Statements.{keyword}

-- the text is one line, which begins with a word and of which the rest is read as a value
abbrev pub IsLineOf : {A : Type 0} → List ℕ → (List ℕ → Result A Cause) → List ℕ → A → Type 0
IsLineOf word read text value = (line : List ℕ) × ((text_lines text ≡ line ∷ []) × ((keyword word line >>= read) ≡ Ok value))

-- whether a hazard is of one request, and not of a span of clocks
abbrev pub is_of_one_request : HazardLine → Bool
is_of_one_request (Bnr from to) = false
is_of_one_request _ = true
