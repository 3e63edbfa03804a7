-- The lines of hazards read back.
use Rattle.std.proofs.Common.{◌≡◌, ℕ, ◌+◌, ◌<◌, ◌≤◌, true, List, [], ◌∷◌, ◌++◌, length, Ok, refl, sym, subst, arith}
use Rattle.std.proofs.Common.{length-append}
use Rattle.std.specs.Prelude.{codes}
use Rattle.std.specs.List.{list_all}
use Rattle.std.proofs.lemmas.Bool.{lt-ltb, and_parts}
use Rattle.std.proofs.lemmas.List.{append-nil, append_assoc}
use Rattle.fsb_hazard.specs.declared.line.HazardLine.{HazardLine}
use Rattle.fsb_hazard.specs.declared.line.HazardLine.TheVariants.{Stall, Trdy, Resp, Gap, Retry, Defer, Aerr, Bnr}
use Rattle.fsb_script.specs.Places.{at_hazards}
use Rattle.fsb_script.specs.Bounds.{is_lawful_hazard}
use Rattle.fsb_script.specs.TextWords.{is_silent, next_word}
use Rattle.fsb_script.specs.Plans.{PlanView}
use Rattle.fsb_script.specs.Drafts.{after_line, choice_line, hazard_line, transaction_line, block_line, add_hazard}
use Rattle.fsb_script.specs.Text.{hazard_text, hazards_text}
use Rattle.fsb_script_laws.specs.LineTexts.{is_of_one_request}
use Rattle.fsb_script_laws.proofs.Split.{GoesOn, goes_on}
use Rattle.fsb_script_laws.proofs.EachLine.{line_then, hazard_words, hazard_line_is, transaction_back}
use Rattle.fsb_script_laws.proofs.EachLine.{transaction_inner, block_words, block_line_is, block_read, block_inner}
use Rattle.fsb_script_laws.proofs.States.{state}

transaction_taken : (h : HazardLine) (agents : ℕ) (q : PlanView) → is_of_one_request h ≡ true
    → is_lawful_hazard h ≡ true → length q.hazards < 4096
    → after_line (state at_hazards agents q [] []) (codes "tx " ++ hazard_words h) ≡ Ok
    (state at_hazards agents (record q { hazards = q.hazards ++ h ∷ [] }) [] [])
unfolding after_line is_silent choice_line next_word hazard_line transaction_line add_hazard
transaction_taken h agents q is lawful room =
    rw (lt-ltb (length q.hazards) 4096 room) (rw (transaction_back h lawful is) refl)

block_taken : (from to agents : ℕ) (q : PlanView) → is_lawful_hazard (Bnr from to) ≡ true → length q.hazards < 4096
    → after_line (state at_hazards agents q [] []) (codes "bnr " ++ block_words from to) ≡ Ok
    (state at_hazards agents (record q { hazards = q.hazards ++ Bnr from to ∷ [] }) [] [])
unfolding after_line is_silent choice_line next_word hazard_line block_line add_hazard
block_taken from to agents q lawful room = rw (lt-ltb (length q.hazards) 4096 room)
    (rw (block_read from to lawful) refl)

-- the text goes on behind one more hazard, and so it does before its line
abbrev OneMore : HazardLine → Type 0
OneMore h = (agents : ℕ) (q : PlanView) (rest : List ℕ) (p : PlanView) → is_lawful_hazard h ≡ true
    → length q.hazards < 4096
    → GoesOn (state at_hazards agents (record q { hazards = q.hazards ++ h ∷ [] }) [] []) rest p
    → GoesOn (state at_hazards agents q [] []) (hazard_text h ++ rest) p

transaction_goes_on : (h : HazardLine) → is_of_one_request h ≡ true → OneMore h
transaction_goes_on h is agents q rest p lawful room then_ =
    subst (λ text. GoesOn (state at_hazards agents q [] []) text p)
    (sym (line_then (codes "tx " ++ hazard_words h) (hazard_text h) rest (hazard_line_is h is)))
    (goes_on (state at_hazards agents q [] []) (state at_hazards agents
    (record q { hazards = q.hazards ++ h ∷ [] }) [] []) (codes "tx " ++ hazard_words h) rest p
    (transaction_inner h is lawful) (transaction_taken h agents q is lawful room) then_)

block_goes_on : (from to : ℕ) → OneMore (Bnr from to)
block_goes_on from to agents q rest p lawful room then_ =
    subst (λ text. GoesOn (state at_hazards agents q [] []) text p)
    (sym (line_then (codes "bnr " ++ block_words from to) (hazard_text (Bnr from to)) rest
    (block_line_is from to)))
    (goes_on (state at_hazards agents q [] []) (state at_hazards agents
    (record q { hazards = q.hazards ++ Bnr from to ∷ [] }) [] []) (codes "bnr " ++ block_words from to) rest p
    (block_inner from to lawful) (block_taken from to agents q lawful room) then_)

hazard_goes_on : (h : HazardLine) → OneMore h
hazard_goes_on (Stall k n) = transaction_goes_on (Stall k n) refl
hazard_goes_on (Trdy k n) = transaction_goes_on (Trdy k n) refl
hazard_goes_on (Resp k n) = transaction_goes_on (Resp k n) refl
hazard_goes_on (Gap k n) = transaction_goes_on (Gap k n) refl
hazard_goes_on (Retry k) = transaction_goes_on (Retry k) refl
hazard_goes_on (Defer k later) = transaction_goes_on (Defer k later) refl
hazard_goes_on (Aerr k) = transaction_goes_on (Aerr k) refl
hazard_goes_on (Bnr from to) = block_goes_on from to

pub hazards_go_on : (hazards : List HazardLine) (agents : ℕ) (q : PlanView) (rest : List ℕ) (p : PlanView)
    → list_all is_lawful_hazard hazards ≡ true → length q.hazards + length hazards ≤ 4096
    → GoesOn (state at_hazards agents (record q { hazards = q.hazards ++ hazards }) [] []) rest p
    → GoesOn (state at_hazards agents q [] []) (hazards_text hazards ++ rest) p
hazards_go_on [] agents q rest p lawful few then_ =
    subst (λ (hs : List HazardLine). GoesOn (state at_hazards agents (record q { hazards = hs }) [] []) rest p)
    (append-nil q.hazards) then_
hazards_go_on (h ∷ hs) agents q rest p lawful few then_ =
    let here : is_lawful_hazard h ≡ true = (and_parts (is_lawful_hazard h) (list_all is_lawful_hazard hs) lawful).0 in
    let room : length q.hazards < 4096 = omega arith in
    let few_more : length (q.hazards ++ h ∷ []) + length hs ≤ 4096 = omega (arith, length-append q.hazards (h ∷ [])) in
    let others = hazards_go_on hs agents (record q { hazards = q.hazards ++ h ∷ [] }) rest p
    (and_parts (is_lawful_hazard h) (list_all is_lawful_hazard hs) lawful).1 few_more
    (subst (λ (all : List HazardLine). GoesOn (state at_hazards agents (record q { hazards = all }) [] []) rest p)
    (sym (append_assoc q.hazards (h ∷ []) hs)) then_) in
    subst (λ text. GoesOn (state at_hazards agents q [] []) text p)
    (sym (append_assoc (hazard_text h) (hazards_text hs) rest))
    (hazard_goes_on h agents q (hazards_text hs ++ rest) p here room others)
