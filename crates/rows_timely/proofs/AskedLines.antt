-- The choices and the holds of a row are what an object answers that tells the row's hazard lines.
use Rattle.std.proofs.Common.{ℕ, zero, suc, ◌+◌, ◌≡◌, Bool, true, false, List, [], ◌∷◌, Some, length, slice_get, refl}
use Rattle.std.proofs.Common.{sym, ap, ◌∙◌, subst, inl, inr, add-one}
use Rattle.std.proofs.lemmas.List.{length-append}
use Rattle.std.specs.List.{list_any}
use Rattle.fsb_count.proofs.Interface.{slice_get-push}
use Rattle.fsb_hazard.specs.declared.choice.Choice.{Choice}
use Rattle.fsb_hazard.specs.declared.choice.Ask.TheVariants.{Clock, Begun}
use Rattle.fsb_hazard.specs.declared.line.HazardLine.{HazardLine}
use Rattle.fsb_hazard.specs.Choice.{quiet_choice}
use Rattle.fsb_hazard.specs.Entry.{entry as entry_of_lines}
use Rattle.fsb_hazard.proofs.Interface.{join_commutes, join_nothing}
use Rattle.fsb_timely.specs.Asked.{IsChosen, IsHold, Asked}
use Rattle.rows_timely.proofs.LaidOut.{some_request, told_lines, choice_for, choices_for, hold_for, holds_for}

pub length-choices : (lines : List HazardLine) (n : ℕ) → length (choices_for lines n) ≡ n
length-choices lines zero = refl
length-choices lines (suc n) =
    length-append (choices_for lines n) (choice_for lines n ∷ []) ∙ ap (λ k. k + 1) (length-choices lines n) ∙ add-one n

pub length-holds : (lines : List HazardLine) (n : ℕ) → length (holds_for lines n) ≡ n
length-holds lines zero = refl
length-holds lines (suc n) =
    length-append (holds_for lines n) (hold_for lines n ∷ []) ∙ ap (λ k. k + 1) (length-holds lines n) ∙ add-one n

choice-at : (lines : List HazardLine) (n k : ℕ) (choice : Choice)
    → slice_get (choices_for lines n) k ≡ Some choice → choice ≡ choice_for lines k
choice-at lines zero k choice e = absurd (let h : ⊥ = cc in h)
choice-at lines (suc n) k choice e =
    elim (slice_get-push (choices_for lines n) (choice_for lines n) k choice e) [
      | inl old ↦ choice-at lines n k choice old
      | inr new ↦ sym new.1 ∙ ap (choice_for lines) (sym (new.0 ∙ length-choices lines n))
    ]

hold-at : (lines : List HazardLine) (n c : ℕ) (hold : Bool) → slice_get (holds_for lines n) c ≡ Some hold
    → hold ≡ hold_for lines c
hold-at lines zero c hold e = absurd (let h : ⊥ = cc in h)
hold-at lines (suc n) c hold e =
    elim (slice_get-push (holds_for lines n) (hold_for lines n) c hold e) [
      | inl old ↦ hold-at lines n c hold old
      | inr new ↦ sym new.1 ∙ ap (hold_for lines) (sym (new.0 ∙ length-holds lines n))
    ]

or-nothing : (b : Bool) → b ≡ list_any (λ (x : Bool). x) (b ∷ [])
or-nothing true = refl
or-nothing false = refl

chosen : (lines : List HazardLine) (k : ℕ) → IsChosen (told_lines lines ∷ []) k (choice_for lines k)
chosen lines k =
    let answer : Choice = entry_of_lines lines (Begun k some_request) in
    record {
      request = some_request;
      together = answer;
      joined = record {
        answers = answer ∷ [];
        answered = (refl, tt);
        joined = sym (join_commutes quiet_choice answer ∙ join_nothing answer);
      };
      chosen = refl;
    }

held : (lines : List HazardLine) (c : ℕ) → IsHold (told_lines lines ∷ []) c (hold_for lines c)
held lines c = record {
  answers = entry_of_lines lines (Clock c) ∷ [];
  answered = (refl, tt);
  asks = or-nothing (hold_for lines c);
}

pub asked_for_lines : (lines : List HazardLine) (n m : ℕ)
    → Asked (told_lines lines ∷ []) (choices_for lines n) (holds_for lines m)
asked_for_lines lines n m = record {
  chosen = λ k choice e. subst (IsChosen (told_lines lines ∷ []) k) (sym (choice-at lines n k choice e))
      (chosen lines k);
  held = λ c hold e. subst (IsHold (told_lines lines ∷ []) c) (sym (hold-at lines m c hold e)) (held lines c);
}
