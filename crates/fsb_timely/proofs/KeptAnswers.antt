-- What a step keeps of the answers of hazard objects.
use Rattle.std.proofs.Common.{◌≡◌, ◌||◌, ℕ, false, List, [], ◌∷◌, Option, refl, sym, arith}
use Rattle.std.proofs.Math.Bool.{or-false}
use Rattle.std.specs.List.{fold, list_any}
use Rattle.fsb_encode.specs.declared.request.Request.{Request}
use Rattle.fsb_hazard.specs.declared.choice.Ask.TheVariants.{Begun, Clock}
use Rattle.fsb_hazard.specs.declared.choice.Choice.{Choice}
use Rattle.fsb_hazard.specs.Asking.{IsJoined}
use Rattle.fsb_hazard.specs.Choice.{join}
use Rattle.fsb_hazard.specs.Told.{Told}
use Rattle.fsb_timely.specs.Asked.{IsChosen, IsHold}

-- what answers join to has BNR# where it was there before, or one of them has it
joined_bnr : (first : Choice) (answers : List Choice)
    → (fold join first answers).bnr ≡ (first.bnr || list_any (λ (answer : Choice). answer.bnr) answers)
joined_bnr first [] = sym (or-false first.bnr)
joined_bnr first (answer ∷ answers) = grind (arith, joined_bnr (join first answer) answers)

pub choice_kept : (objects : List (Option Told)) (k : ℕ) (request : Request) (choice : Choice)
    → IsJoined objects (Begun k request) choice → IsChosen objects k (record choice { bnr = false })
choice_kept objects k request choice h = record { request = request; together = choice; joined = h; chosen = refl }

pub hold_kept : (objects : List (Option Told)) (c : ℕ) (choice : Choice) → IsJoined objects (Clock c) choice
    → IsHold objects c choice.bnr
hold_kept objects c choice h = grind (arith, joined_bnr)
