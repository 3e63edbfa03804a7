-- What the hazard objects answered, out of a run.
use Rattle.std.proofs.Common.{◌≡◌, ◌∙◌, ℕ, Bool, false, List, Option, Some, ap, slice_get}
use Rattle.std.specs.List.{fold, list_any}
use Rattle.fsb_encode.specs.declared.request.Request.{Request}
use Rattle.fsb_hazard.specs.Asking.{AreAnswers}
use Rattle.fsb_hazard.specs.Choice.{join, quiet_choice}
use Rattle.fsb_hazard.specs.Told.{Told}
use Rattle.fsb_hazard.specs.declared.choice.Ask.TheVariants.{Begun, Clock}
use Rattle.fsb_hazard.specs.declared.choice.Choice.{Choice}
use Rattle.fsb_top.specs.RunOf.{IsRunOf}
use Rattle.fsb_script.specs.Plans.{PlanView}
use Rattle.fsb_timely.specs.Runs.{Run}

pub choices : (told : List (Option Told)) (plan : PlanView) (r : Run) → IsRunOf told plan r
    → (k : ℕ) (choice : Choice) → slice_get r.choices k ≡ Some choice
    → (request : Request) × (answers : List Choice) × AreAnswers told (Begun k request) answers
    × (choice ≡ record (fold join quiet_choice answers) { bnr = false })
choices told plan r h k choice e =
    let c = h.asked.chosen k choice e in (
      c.request,
      c.joined.answers,
      c.joined.answered,
      c.chosen ∙ ap (λ (together : Choice). record together { bnr = false }) c.joined.joined,
    )

pub holds : (told : List (Option Told)) (plan : PlanView) (r : Run) → IsRunOf told plan r
    → (c : ℕ) (hold : Bool) → slice_get r.holds c ≡ Some hold
    → (answers : List Choice) × AreAnswers told (Clock c) answers
    × (hold ≡ list_any (λ (answer : Choice). answer.bnr) answers)
holds told plan r h c hold e = let a = h.asked.held c hold e in (a.answers, a.answered, a.asks)
