-- What is kept of hazard lines beside their entries, one line more at a time.
use Rattle.std.proofs.Common.{◌≡◌, ℕ, ◌+◌, ◌<◌, Bool, true, false, cond, List, [], ◌∷◌, length, take, get_or}
use Rattle.std.proofs.Common.{Option, Some, refl, sym, ap, ◌∙◌, arith, map}
use Rattle.std.proofs.lemmas.Bool.Decides.{nat_tests}
use Rattle.std.proofs.lemmas.List.{take_more}
use Rattle.std.specs.Prelude.{nat_eq, unwrap_or}
use Rattle.std.specs.Option.{option_map_or}
use Rattle.std.specs.Ordering.{nat_cmp, is_eq}
use Rattle.std.specs.BTreeMap.{BTreeMap, get}
use Rattle.std.specs.List.{fold}
use Rattle.fsb_encode.specs.declared.request.Request.{Request}
use Rattle.fsb_hazard.specs.declared.choice.Choice.{Choice}
use Rattle.fsb_hazard.specs.declared.choice.Ask.{Ask}
use Rattle.fsb_hazard.specs.declared.choice.Ask.TheVariants.{Begun}
use Rattle.fsb_hazard.specs.declared.line.HazardLine.{HazardLine}
use Rattle.fsb_hazard.specs.declared.line.HazardLine.TheVariants.{Stall, Trdy, Resp, Gap, Retry, Defer, Aerr, Bnr}
use Rattle.fsb_hazard.specs.Choice.{quiet_choice, join}
use Rattle.fsb_hazard.specs.Entry.{is_asked, choice_of, entry}
use Rattle.fsb_hazard.specs.Found.{request_of, chosen, AreChosen}
use Rattle.fsb_hazard.proofs.JoinLaws.{join_commutes, join_nothing, entry-append}

-- the entry of lines and the one that follows them
entry-more : (lines : List HazardLine) (i : ℕ) (line : HazardLine) (ask : Ask) → i < length lines
    → entry (take (i + 1) lines) ask ≡ join (entry (take i lines) ask) (entry (get_or lines i line ∷ []) ask)
entry-more lines i line ask within =
    ap (λ l. entry l ask) (take_more lines i line within)
    ∙ entry-append (take i lines) (get_or lines i line ∷ []) ask

pub chosen-more : (old new : BTreeMap ℕ Choice) (lines : List HazardLine) (i : ℕ) (line : HazardLine)
    → i < length lines
    → ((number : ℕ) (request : Request) → chosen new number
    ≡ join (chosen old number) (entry (get_or lines i line ∷ []) (Begun number request)))
    → AreChosen old (take i lines) → AreChosen new (take (i + 1) lines)
chosen-more old new lines i line within kept stands number request =
    let ask : Ask = Begun number request in
    kept number request ∙ ap (λ c. join c (entry (get_or lines i line ∷ []) ask)) (stands number request)
    ∙ sym (entry-more lines i line ask within)

-- the entry of one line
entry-one : (line : HazardLine) (ask : Ask)
    → entry (line ∷ []) ask ≡ cond (is_asked ask line) (choice_of line) quiet_choice
entry-one line ask =
    elim (is_asked ask line) as
    (λ t. fold join quiet_choice (map choice_of (cond t (line ∷ []) [])) ≡ cond t (choice_of line) quiet_choice) [
      | true ↦ join_commutes quiet_choice (choice_of line) ∙ join_nothing (choice_of line)
      | false ↦ refl
    ]

asked_of_request : (line : HazardLine) (number : ℕ) (request : Request)
    → is_asked (Begun number request) line ≡ option_map_or (λ k. nat_eq k number) (request_of line) false
asked_of_request (Stall k n) number request = refl
asked_of_request (Trdy k n) number request = refl
asked_of_request (Resp k n) number request = refl
asked_of_request (Gap k n) number request = refl
asked_of_request (Retry k) number request = refl
asked_of_request (Defer k later) number request = refl
asked_of_request (Aerr k) number request = refl
asked_of_request (Bnr first last) number request = refl

entry_of_request : (line : HazardLine) (number : ℕ) (request : Request)
    → entry (line ∷ []) (Begun number request)
    ≡ cond (option_map_or (λ k. nat_eq k number) (request_of line) false) (choice_of line) quiet_choice
entry_of_request line number request =
    entry-one line (Begun number request)
    ∙ ap (λ t. cond t (choice_of line) quiet_choice) (asked_of_request line number request)

same_key : (k number : ℕ) → is_eq (nat_cmp k number) ≡ nat_eq k number
same_key k number = grind (arith, nat_tests)

key_is : (k number : ℕ) → nat_eq k number ≡ true → k ≡ number
key_is k number e = grind (arith, nat_tests)

chosen_case : (is : Bool) (k number : ℕ) (old : BTreeMap ℕ Choice) (said : Choice) → (is ≡ true → k ≡ number)
    → unwrap_or (cond is (Some (join (chosen old k) said)) (get nat_cmp old number)) quiet_choice
    ≡ join (chosen old number) (cond is said quiet_choice)
chosen_case true k number old said same = ap (λ j. join (chosen old j) said) (same refl)
chosen_case false k number old said same = sym (join_nothing (chosen old number))

-- a line of a request was joined to what was kept for it
pub chosen-some : (old new : BTreeMap ℕ Choice) (line : HazardLine) (k number : ℕ) (request : Request)
    → request_of line ≡ Some k
    → get nat_cmp new number
    ≡ cond (is_eq (nat_cmp k number)) (Some (join (chosen old k) (choice_of line))) (get nat_cmp old number)
    → chosen new number ≡ join (chosen old number) (entry (line ∷ []) (Begun number request))
chosen-some old new line k number request some writes =
    let kept : Option Choice = Some (join (chosen old k) (choice_of line)) in
    let there : Option Choice = get nat_cmp old number in
    ap (λ o. unwrap_or o quiet_choice) (writes ∙ ap (λ t. cond t kept there) (same_key k number))
    ∙ chosen_case (nat_eq k number) k number old (choice_of line) (key_is k number)
    ∙ ap (λ o. join (chosen old number)
    (cond (option_map_or (λ j. nat_eq j number) o false) (choice_of line) quiet_choice)) (sym some)
    ∙ ap (join (chosen old number)) (sym (entry_of_request line number request))
