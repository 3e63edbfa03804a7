-- `Asked` by itself: what two objects answered, of which one tells nothing, and answers that an object does not give.
use Rattle.std.proofs.Common.{◌≡◌, ◌||◌, ℕ, zero, suc, Bool, true, false, refl, ap, ◌∙◌, List, [], ◌∷◌, Option, Some}
use Rattle.std.proofs.Common.{None, slice_get, arith}
use Rattle.std.specs.List.{list_any, fold}
use Rattle.fsb_hazard.specs.declared.choice.Choice.{Choice}
use Rattle.fsb_hazard.specs.declared.line.HazardLine.{HazardLine}
use Rattle.fsb_hazard.specs.declared.line.HazardLine.TheVariants.{Stall, Bnr}
use Rattle.fsb_hazard.specs.declared.choice.Ask.{Ask}
use Rattle.fsb_hazard.specs.declared.choice.Ask.TheVariants.{Clock, Begun}
use Rattle.fsb_hazard.specs.Choice.{quiet_choice, join}
use Rattle.fsb_hazard.specs.Entry.{entry}
use Rattle.fsb_hazard.specs.Told.{Told}
use Rattle.fsb_hazard.specs.Asking.{AreAnswers}
use Rattle.fsb_timely.specs.Asked.{Asked, IsChosen, IsHold}
use Rattle.rows_timely.proofs.LaidOut.{told_lines, some_request}

-- two stalls of the first request, and BNR# at clock 1
abbrev pub lines : List HazardLine
lines = Stall 0 2 ∷ Bnr 1 1 ∷ []

-- an object that tells these lines, and one that tells nothing
abbrev pub teller : Option Told
teller = told_lines lines

abbrev pub silent : Option Told
silent = None

-- so many stalls
abbrev pub stalls : ℕ → Choice
stalls n = record quiet_choice { stall = n }

-- no stall, and BNR#, which counts of the answers to a clock alone
abbrev pub held : Choice
held = record quiet_choice { bnr = true }

-- the silent object asks for a third stall and for BNR# at clock 0
pub both_are_asked : Asked (teller ∷ silent ∷ []) (stalls 3 ∷ stalls 0 ∷ []) (true ∷ true ∷ [])
both_are_asked = record {
  chosen = λ k choice e. chosen-at k choice e;
  held = λ c hold e. held-at c hold e;
}
  where
    chosen-at : (k : ℕ) (choice : Choice) → slice_get (stalls 3 ∷ stalls 0 ∷ []) k ≡ Some choice
        → IsChosen (teller ∷ silent ∷ []) k choice
    chosen-at zero choice e = record {
      request = some_request;
      together = record (stalls 3) { bnr = true };
      joined = record {
        answers = stalls 2 ∷ record (stalls 3) { bnr = true } ∷ [];
        answered = (refl, (tt, tt));
        joined = refl;
      };
      chosen = cc;
    }
    chosen-at (suc zero) choice e = record {
      request = some_request;
      together = quiet_choice;
      joined = record { answers = quiet_choice ∷ quiet_choice ∷ []; answered = (refl, (tt, tt)); joined = refl };
      chosen = cc;
    }
    chosen-at (suc (suc k)) choice e = absurd (let h : ⊥ = cc in h)

    held-at : (c : ℕ) (hold : Bool) → slice_get (true ∷ true ∷ []) c ≡ Some hold → IsHold (teller ∷ silent ∷ []) c hold
    held-at zero hold e = record { answers = quiet_choice ∷ held ∷ []; answered = (refl, (tt, tt)); asks = cc }
    held-at (suc zero) hold e = record { answers = held ∷ quiet_choice ∷ []; answered = (refl, (tt, tt)); asks = cc }
    held-at (suc (suc c)) hold e = absurd (let h : ⊥ = cc in h)

-- one object that tells these lines has one answer, its entry
one_answer : (ask : Ask) (answers : List Choice) → AreAnswers (teller ∷ []) ask answers → answers ≡ entry lines ask ∷ []
one_answer ask [] h = absurd h
one_answer ask (answer ∷ []) h = ap (λ a. a ∷ []) h.0
one_answer ask (answer ∷ other ∷ answers) h = absurd h.1

-- what it chooses for a request is its entry
told_choice : (k : ℕ) (choice : Choice) (h : IsChosen (teller ∷ []) k choice)
    → choice ≡ record (fold join quiet_choice (entry lines (Begun k h.request) ∷ [])) { bnr = false }
told_choice k choice h =
    let clear : Choice → Choice = λ together. record together { bnr = false } in
    h.chosen ∙ ap clear (h.joined.joined
    ∙ ap (fold join quiet_choice) (one_answer (Begun k h.request) h.joined.answers h.joined.answered))

-- its choice for the first request has the two stalls
told_stalls : (choice : Choice) → IsChosen (teller ∷ []) 0 choice → choice ≡ stalls 2
told_stalls choice h = told_choice 0 choice h

-- and its holds are those of the line
told_hold : (c : ℕ) (hold : Bool) → IsHold (teller ∷ []) c hold → hold ≡ (entry lines (Clock c)).bnr || false
told_hold c hold h = h.asks
    ∙ ap (λ answers. list_any (λ (answer : Choice). answer.bnr) answers) (one_answer (Clock c) h.answers h.answered)

-- a stall is left out
pub stall_is_asked : ¬ Asked (teller ∷ []) (stalls 1 ∷ []) []
stall_is_asked a =
    absurd (let f : 1 ≡ 2 = ap (λ (choice : Choice). choice.stall)
    (told_stalls (stalls 1) (a.chosen 0 (stalls 1) refl)) in omega arith)

-- BNR# is kept in the choice of a request
pub bnr_is_no_choice : ¬ Asked (teller ∷ []) (record (stalls 2) { bnr = true } ∷ []) []
bnr_is_no_choice a =
    absurd (let f : true ≡ false = ap (λ (choice : Choice). choice.bnr) (told_stalls _ (a.chosen 0 _ refl)) in cc)

-- BNR# is not asserted though it is asked for
pub hold_is_asked : ¬ Asked (teller ∷ []) [] (false ∷ false ∷ [])
hold_is_asked a = absurd (let f : false ≡ true = told_hold 1 false (a.held 1 false refl) in cc)

-- BNR# is asserted though nobody asks for it
pub hold_is_not_asked : ¬ Asked (teller ∷ []) [] (true ∷ [])
hold_is_not_asked a = absurd (let f : true ≡ false = told_hold 0 true (a.held 0 true refl) in cc)

-- the answer for the second request stands as that for the first
pub other_number_is_not_asked : ¬ Asked (teller ∷ []) (quiet_choice ∷ []) []
other_number_is_not_asked a =
    absurd (let f : 0 ≡ 2 = ap (λ (choice : Choice). choice.stall)
    (told_stalls quiet_choice (a.chosen 0 quiet_choice refl)) in omega arith)

-- for the second request the object chooses nothing
told_quiet : (choice : Choice) → IsChosen (teller ∷ []) 1 choice → choice ≡ quiet_choice
told_quiet choice h = told_choice 1 choice h

-- the second request is stalled as the first one
pub second_request_is_asked : ¬ Asked (teller ∷ []) (stalls 2 ∷ stalls 2 ∷ []) []
second_request_is_asked a =
    absurd (let f : 2 ≡ 0 = ap (λ (choice : Choice). choice.stall)
    (told_quiet (stalls 2) (a.chosen 1 (stalls 2) refl)) in omega arith)

-- an object that tells no line
abbrev pub quiet : Option Told
quiet = told_lines []

-- two objects that tell lines have two answers, their entries
two_answers : (ask : Ask) (answers : List Choice) → AreAnswers (quiet ∷ teller ∷ []) ask answers
    → answers ≡ entry [] ask ∷ entry lines ask ∷ []
two_answers ask [] h = absurd h
two_answers ask (first ∷ []) h = absurd h.1
two_answers ask (first ∷ second ∷ []) h =
    ap (λ a. a ∷ second ∷ []) h.0 ∙ ap (λ b. entry [] ask ∷ b ∷ []) h.1.0
two_answers ask (first ∷ second ∷ other ∷ answers) h = absurd h.1.1

-- what the second object chooses counts
told_by_the_second : (choice : Choice) → IsChosen (quiet ∷ teller ∷ []) 0 choice → choice ≡ stalls 2
told_by_the_second choice h =
    let clear : Choice → Choice = λ together. record together { bnr = false } in
    h.chosen ∙ ap clear (h.joined.joined
    ∙ ap (fold join quiet_choice) (two_answers (Begun 0 h.request) h.joined.answers h.joined.answered))

-- the stalls of the second object are left out
pub second_object_is_asked : ¬ Asked (quiet ∷ teller ∷ []) (quiet_choice ∷ []) []
second_object_is_asked a =
    absurd (let f : 0 ≡ 2 = ap (λ (choice : Choice). choice.stall)
    (told_by_the_second quiet_choice (a.chosen 0 quiet_choice refl)) in omega arith)

-- the hold that the second object asks for is left out
pub second_hold_is_asked : ¬ Asked (quiet ∷ teller ∷ []) [] (false ∷ false ∷ [])
second_hold_is_asked a =
    let h = a.held 1 false refl in
    absurd (let f : false ≡ true = h.asks
    ∙ ap (λ answers. list_any (λ (answer : Choice). answer.bnr) answers) (two_answers (Clock 1) h.answers h.answered)
    in cc)
