-- A text without a fault in the strict way, in the way of wires.
use Rattle.std.proofs.Common.{◌≡◌, ◌≤◌, ℕ, suc, arith, Bool, true, false, not, ◌&&◌, if◌then◌else◌, is_some, List, [], ◌∷◌, ◌++◌, length}
use Rattle.std.proofs.Common.{Option, Some, None, refl, sym, ap, subst, ◌∙◌}
use Rattle.std.specs.List.{list_all}
use Rattle.std.proofs.lemmas.Bool.{and_parts}
use Rattle.vcd_grammar.specs.declared.fault.VcdFault.{VcdFault}
use Rattle.vcd_grammar.specs.Tokens.{tokens_of, tokens_so_far}
use Rattle.vcd_way.specs.Ways.{ValueRules}
use Rattle.vcd_way.specs.Pieces.{Stamp, TapChange, DumpSwitch, Off, On, Happening, Comes, Gets, Switches, pieces_from}
use Rattle.vcd_way.specs.Events.{DumpEvent, Sampled, Hole, Resumed, switch_event, Course, course_at_first, course_after}
use Rattle.vcd_way.specs.Events.{values_after, unknown_in, sample_in_block, events_from, samples_among}
use Rattle.vcd_way.specs.Steps.{Spot, AtPreface, AtHeader, InSection, AtValues, AtCode, AtOtherCode, InRemark}
use Rattle.vcd_way.specs.Steps.{first_state, happenings_in, is_past_header_at, hides_stamp}
use Rattle.vcd_way.specs.Answers.{state_of, fault_at_end, whole_fault, is_early, first_fault_by, events_by, events_so_far_by}
use Rattle.vcd_way.specs.Answers.{header_by}
use Rattle.vcd_way.specs.Strict.{strict}
use Rattle.scope_check.specs.Parts.{is_sampled}
use Rattle.scope_both.specs.Usual.{usual_rules}
use Rattle.scope_both.proofs.Changes.{plain}
use Rattle.scope_both.proofs.Codes.{Knows}
use Rattle.scope_both.proofs.Steps.{Lines, Taps, taking, Takes}
use Rattle.scope_both.proofs.Heads.{Outside}
use Rattle.scope_both.proofs.Tokens.{Told, all-told}

-- ---- where a text ends

record EndsWell (fault : Option VcdFault) (spot : Spot) : Type 0 where
  none : fault ≡ None
  here : spot ≡ AtValues

ends-well : (fault : Option VcdFault) (spot : Spot) (place : ℕ) → fault_at_end fault spot place ≡ None
    → EndsWell fault spot
ends-well (Some fault) spot place h = cc h
ends-well None AtPreface place h = cc h
ends-well None AtHeader place h = cc h
ends-well None (InSection section) place h = cc h
ends-well None AtValues place h = record { none = refl; here = refl }
ends-well None (AtCode from digits) place h = cc h
ends-well None (AtOtherCode from) place h = cc h
ends-well None (InRemark section) place h = cc h

strict-ends : (text : List ℕ) → first_fault_by strict text ≡ None
    → EndsWell (state_of strict (tokens_of text)).fault (state_of strict (tokens_of text)).spot
unfolding first_fault_by
strict-ends text h =
    let s = state_of strict (tokens_of text) in ends-well s.fault s.spot (length text) h

-- what is taken of a whole text is what the strict way takes of it, where that knows the codes that are declared
abbrev pub TakesAllOf : Lines → Taps → Bool → List ℕ → Type 0
TakesAllOf l t early text =
    Knows (header_by (taking l t early) text) (header_by strict text)
    → Takes l t (header_by (taking l t early) text) (header_by strict text)

told : (l : Lines) (t : Taps) (early : Bool) (text : List ℕ) → first_fault_by strict text ≡ None
    → TakesAllOf l t early text
    → Told l t early (first_state strict) (first_state (taking l t early)) [] (tokens_of text)
unfolding header_by
told l t early text h takes =
    let ends = strict-ends text h in
    all-told l t early (first_state strict) (first_state (taking l t early)) [] (tokens_of text)
    (record { fault = refl; none = refl; time = refl; path = refl; knows = λ code. refl }) (Outside true refl refl)
    ends.none ends.here takes refl

and-last : (a b c : Bool) → (a && b && c && false) ≡ false
and-last true true true = refl
and-last true true false = refl
and-last true false true = refl
and-last true false false = refl
and-last false true true = refl
and-last false true false = refl
and-last false false true = refl
and-last false false false = refl

whole-none : (l : Lines) (t : Taps) (early : Bool) (text : List ℕ) → first_fault_by strict text ≡ None
    → TakesAllOf l t early text → whole_fault (taking l t early) text ≡ None
whole-none l t early text h takes =
    let all = told l t early text h takes in
    λ i. fault_at_end (all.none i) (all.spot i) (length text)

never-early : (l : Lines) (t : Taps) (early : Bool) (text : List ℕ) → first_fault_by strict text ≡ None
    → TakesAllOf l t early text → is_early (taking l t early) text ≡ false
never-early l t early text h takes =
    let s = state_of (taking l t early) (tokens_so_far text) in
    let all = state_of (taking l t early) (tokens_of text) in
    (λ i. early && not (is_some s.fault) && (is_past_header_at s.spot && not (hides_stamp all.spot))
    && is_some (whole-none l t early text h takes i))
    ∙ and-last early (not (is_some s.fault)) (is_past_header_at s.spot && not (hides_stamp all.spot))

pub no-fault : (l : Lines) (t : Taps) (early : Bool) (text : List ℕ) → first_fault_by strict text ≡ None
    → TakesAllOf l t early text → first_fault_by (taking l t early) text ≡ None
unfolding first_fault_by
no-fault l t early text h takes = λ i.
    if never-early l t early text h takes i then None else whole-none l t early text h takes i

-- ---- holes

all-behind : (es fs : List DumpEvent) → list_all is_sampled (es ++ fs) ≡ true → list_all is_sampled fs ≡ true
all-behind [] fs h = h
all-behind (e ∷ es) fs h = all-behind es fs (and_parts (is_sampled e) (list_all is_sampled (es ++ fs)) h).1

never-switched : (switch : DumpSwitch) (stamp : Option Stamp) → is_sampled (switch_event switch stamp) ≡ true → ⊥
never-switched Off stamp h = cc h
never-switched On stamp h = cc h

-- where no hole is told, there is none
no-holes : (m : ValueRules) (c : Course) (stamp : Option Stamp) (block : List TapChange) (hs : List Happening)
    → list_all is_sampled (events_from m c (pieces_from stamp block hs)) ≡ true → plain hs ≡ hs
no-holes m c stamp block [] h = refl
no-holes m c stamp block (Comes next ∷ hs) h =
    let after = values_after c.values block in
    ap (λ xs. Comes next ∷ xs) (no-holes m (course_after c after) (Some next) [] hs
    (all-behind (sample_in_block m c stamp after) (events_from m (course_after c after) (pieces_from (Some next) [] hs)) h))
no-holes m c stamp block (Gets change ∷ hs) h =
    ap (λ xs. Gets change ∷ xs) (no-holes m c stamp (block ++ change ∷ []) hs h)
no-holes m c stamp block (Switches switch lines ∷ hs) h =
    let after = values_after c.values block in
    let there = record (course_after c after) { values = unknown_in after lines } in
    let rest = events_from m there (pieces_from stamp [] hs) in
    absurd (never-switched switch stamp
    (and_parts (is_sampled (switch_event switch stamp)) (list_all is_sampled rest)
    (all-behind (sample_in_block m c stamp after) (switch_event switch stamp ∷ rest) h)).0)

-- ---- samples alone

fewer : (es : List DumpEvent) → length (samples_among es) ≤ length es
fewer [] = omega arith
fewer (Sampled sample stamp ∷ es) = omega (arith, fewer es)
fewer (Hole stamp ∷ es) = omega (arith, fewer es)
fewer (Resumed stamp ∷ es) = omega (arith, fewer es)

-- as many samples as events
pub alone-sampled : (es : List DumpEvent) → length es ≡ length (samples_among es) → list_all is_sampled es ≡ true
alone-sampled [] h = refl
alone-sampled (Sampled sample stamp ∷ es) h = alone-sampled es (omega arith)
alone-sampled (Hole stamp ∷ es) h = absurd (omega (arith, fewer es))
alone-sampled (Resumed stamp ∷ es) h = absurd (omega (arith, fewer es))

pub sampled-alone : (es : List DumpEvent) → list_all is_sampled es ≡ true → length es ≡ length (samples_among es)
sampled-alone [] h = refl
sampled-alone (Sampled sample stamp ∷ es) h = ap (λ n. suc n) (sampled-alone es h)
sampled-alone (Hole stamp ∷ es) h = cc h
sampled-alone (Resumed stamp ∷ es) h = cc h

-- ---- events

-- what all tokens of a text tell
abbrev pub all-events : Lines → Taps → Bool → List ℕ → List DumpEvent
all-events l t early text =
    events_from (usual_rules early) course_at_first (pieces_from None []
    (happenings_in (taking l t early) (first_state (taking l t early)) (tokens_of text)))

pub whole-events : (l : Lines) (t : Taps) (early : Bool) (text : List ℕ) → first_fault_by strict text ≡ None
    → TakesAllOf l t early text → events_by (taking l t early) text ≡ all-events l t early text
unfolding events_by
whole-events l t early text h takes = λ i.
    if never-early l t early text h takes i then events_so_far_by (taking l t early) text
    else all-events l t early text

strict-events : (l : Lines) (t : Taps) (early : Bool) (text : List ℕ) → first_fault_by strict text ≡ None
    → TakesAllOf l t early text
    → events_from (usual_rules early) course_at_first (pieces_from None []
    (plain (happenings_in (taking l t early) (first_state (taking l t early)) (tokens_of text))))
    ≡ events_by strict text
unfolding events_by
strict-events l t early text h takes = (told l t early text h takes).events

pub same-told : (l : Lines) (t : Taps) (early : Bool) (text : List ℕ) → first_fault_by strict text ≡ None
    → TakesAllOf l t early text → list_all is_sampled (events_by (taking l t early) text) ≡ true
    → events_by (taking l t early) text ≡ events_by strict text
same-told l t early text h takes n =
    let way = taking l t early in
    let hs = happenings_in way (first_state way) (tokens_of text) in
    let all = whole-events l t early text h takes in
    let none = no-holes (usual_rules early) course_at_first None [] hs
    (subst (λ es. list_all is_sampled es ≡ true) all n) in
    all
    ∙ ap (λ xs. events_from (usual_rules early) course_at_first (pieces_from None [] xs)) (sym none)
    ∙ strict-events l t early text h takes
