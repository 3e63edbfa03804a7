-- Asked: the choices and the holds of a run are what hazard objects answered.
use Rattle.std.specs.Prelude.{Bool, List, Option, Some, false, slice_get, ℕ, ◌≡◌}
use Rattle.std.specs.List.{list_any}
use Rattle.fsb_encode.specs.declared.request.Request.{Request}
use Rattle.fsb_hazard.specs.declared.choice.Ask.TheVariants.{Begun, Clock}
use Rattle.fsb_hazard.specs.declared.choice.Choice.{Choice}
use Rattle.fsb_hazard.specs.Asking.{AreAnswers, IsJoined}
use Rattle.fsb_hazard.specs.Told.{Told}

-- the choice for request k is what the answers to its beginning join to, BNR# left out; the answers to a request go by its
-- number, so that any request stands for one that is not decoded yet
pub record IsChosen (objects : List (Option Told)) (k : ℕ) (choice : Choice) : Type 0 where
  pub request : Request
  pub together : Choice
  pub joined : IsJoined objects (Begun k request) together
  pub chosen : choice ≡ record together { bnr = false }

-- the hold of clock c is whether one of the answers to the clock asks for BNR#
pub record IsHold (objects : List (Option Told)) (c : ℕ) (hold : Bool) : Type 0 where
  pub answers : List Choice
  pub answered : AreAnswers objects (Clock c) answers
  pub asks : hold ≡ list_any (λ answer. answer.bnr) answers

-- the choices and holds are what the objects answered, one after the other
pub record Asked (objects : List (Option Told)) (choices : List Choice) (holds : List Bool) : Type 0 where
  pub chosen : (k : ℕ) (choice : Choice) → slice_get choices k ≡ Some choice → IsChosen objects k choice
  pub held : (c : ℕ) (hold : Bool) → slice_get holds c ≡ Some hold → IsHold objects c hold
