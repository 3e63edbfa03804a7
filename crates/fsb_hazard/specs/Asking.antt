-- What several hazard objects answer to a question, and what they tell where one of them did not load its lines.
use Rattle.std.specs.Prelude.{◌≡◌, ◌<◌, ⊤, ℕ, List, [], ◌∷◌, ◌++◌, length, take, drop, Option}
use Rattle.std.specs.List.{fold}
use Rattle.fsb_hazard.specs.declared.choice.Choice.{Choice}
use Rattle.fsb_hazard.specs.declared.choice.Ask.{Ask}
use Rattle.fsb_hazard.specs.Choice.{quiet_choice, join}
use Rattle.fsb_hazard.specs.Told.{Told, IsAnswer}

-- the answers to a question are those of objects that tell this, one of each, in order
abbrev pub AreAnswers : List (Option Told) → Ask → List Choice → Type 0
AreAnswers [] ask [] = ⊤
AreAnswers [] ask (answer ∷ answers) = ⊥
AreAnswers (told ∷ objects) ask [] = ⊥
AreAnswers (told ∷ objects) ask (answer ∷ answers) = IsAnswer told ask answer × AreAnswers objects ask answers

-- the choice is what one answer of each object joins to, beginning with the quiet choice
pub record IsJoined (objects : List (Option Told)) (ask : Ask) (choice : Choice) : Type 0 where
  pub answers : List Choice
  pub answered : AreAnswers objects ask answers
  pub joined : choice ≡ fold join quiet_choice answers

-- what objects tell where one of them did not load its lines: those before it what they tell after loading, and it and
-- those behind it what they told before
pub record IsLoadedInPart (before after told : List (Option Told)) : Type 0 where
  pub place : ℕ
  pub within : place < length before
  pub parts : told ≡ take place after ++ drop place before
