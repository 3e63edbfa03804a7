-- What a hazard object tells, and what it answers then.
use Rattle.std.specs.Prelude.{◌≡◌, ⊤, ℕ, Bool, true, false, List, Option, Some, None}
use Rattle.fsb_hazard.specs.declared.choice.Choice.{Choice}
use Rattle.fsb_hazard.specs.declared.choice.Ask.{Ask}
use Rattle.fsb_hazard.specs.declared.line.HazardLine.{HazardLine}
use Rattle.fsb_hazard.specs.Entry.{entry}
use Rattle.fsb_hazard.specs.Seed.{seed_entry}

-- what is told: a list of hazard lines, or a seed
pub data Told : Type 0 where
  by_lines : List HazardLine → Told
  by_seed : ℕ → Told

-- the entry of what is told for a question
abbrev pub entry_told : Told → Ask → Choice
entry_told (by_lines lines) ask = entry lines ask
entry_told (by_seed seed) ask = seed_entry seed ask

-- the answer to a question is the entry of what is told; any answer will do where nothing is told
abbrev pub IsAnswer : Option Told → Ask → Choice → Type 0
IsAnswer None ask answer = ⊤
IsAnswer (Some told) ask answer = answer ≡ entry_told told ask

-- what is told after lines were loaded: a scripted object tells the lines, any other one what it told before
abbrev pub told_after : Bool → List HazardLine → Option Told → Option Told
told_after true lines told = Some (by_lines lines)
told_after false lines told = told
