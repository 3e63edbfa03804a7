-- Objects that are asked one after the other.
use Rattle.std.proofs.Common.{◌≡◌, ℕ, ◌+◌, ◌<◌, List, [], ◌∷◌, ◌++◌, length, map, take, get_or, Option, sym, ap, ◌∙◌}
use Rattle.std.proofs.Common.{add-one}
use Rattle.std.proofs.Math.ListN.{get_or-map}
use Rattle.std.proofs.Math.Seq.{take-suc}
use Rattle.std.proofs.lemmas.List.{length-map}
use Rattle.std.proofs.lemmas.List.Sums.{fold-append}
use Rattle.fsb_hazard.specs.declared.choice.Choice.{Choice}
use Rattle.fsb_hazard.specs.declared.choice.Ask.{Ask}
use Rattle.fsb_hazard.specs.Choice.{quiet_choice, join}
use Rattle.fsb_hazard.specs.Told.{Told, IsAnswer}
use Rattle.fsb_hazard.specs.Asking.{AreAnswers, IsJoined}

answers-more : (objects : List (Option Told)) (ask : Ask) (answers : List Choice) (told : Option Told) (answer : Choice)
    → AreAnswers objects ask answers → IsAnswer told ask answer
    → AreAnswers (objects ++ told ∷ []) ask (answers ++ answer ∷ [])
answers-more [] ask [] told answer front last = (last, tt)
answers-more [] ask (other ∷ answers) told answer front last = absurd front
answers-more (object ∷ objects) ask [] told answer front last = absurd front
answers-more (object ∷ objects) ask (other ∷ answers) told answer front last =
    (front.0, answers-more objects ask answers told answer front.1 last)

-- one object more was asked
pub joined_more : (objects : List (Option Told)) (ask : Ask) (told : Option Told) (choice answer : Choice)
    → IsJoined objects ask choice → IsAnswer told ask answer → IsJoined (objects ++ told ∷ []) ask (join choice answer)
joined_more objects ask told choice answer front last = record {
  answers = front.answers ++ answer ∷ [];
  answered = answers-more objects ask front.answers told answer front.answered last;
  joined = ap (λ c. join c answer) front.joined ∙ sym (fold-append join quiet_choice front.answers (answer ∷ []));
}

-- the object at a place was asked after those before it
pub joined_at : {B : Type 0} (told : B → Option Told) (now old : List B) (i : ℕ) (d : B) (ask : Ask)
    (choice answer : Choice)
    → i < length now → map told now ≡ map told old
    → IsJoined (take i (map told old)) ask choice → IsAnswer (told (get_or now i d)) ask answer
    → IsJoined (take (i + 1) (map told old)) ask (join choice answer)
joined_at told now old i d ask choice answer within same front last =
    let said : get_or (map told old) i (told d) ≡ told (get_or now i d) =
    ap (λ l. get_or l i (told d)) (sym same) ∙ get_or-map told now i d in
    let long : i < length (map told old) = rw (← same, length-map) within in
    rw (add-one, take-suc (map told old) i (told d) long, said)
    (joined_more (take i (map told old)) ask (told (get_or now i d)) choice answer front last)
