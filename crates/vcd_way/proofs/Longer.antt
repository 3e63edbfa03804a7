-- In every way, what first bytes of a text tell, the whole text tells first; and a fault stays.
use Rattle.std.proofs.Common.{◌≡◌, ℕ, ◌<◌, Bool, true, false, not, ◌&&◌, if◌then◌else◌, is_some, List, [], ◌∷◌, ◌++◌}
use Rattle.std.proofs.Common.{length, append_assoc, append-nil, Option, Some, None, refl, sym, ap, subst, ◌∙◌, arith}
use Rattle.vcd_grammar.specs.declared.fault.VcdFault.{VcdFault}
use Rattle.vcd_grammar.specs.Tokens.{Token, open_run, ended_at, tokens_from, tokens_of, tokens_so_far}
use Rattle.vcd_way.specs.Ways.{ValueRules, Way}
use Rattle.vcd_way.specs.Pieces.{Stamp, TapChange, Happening, Comes, Gets, Switches, Piece, Changes, Switched}
use Rattle.vcd_way.specs.Pieces.{pieces_from, over}
use Rattle.vcd_way.specs.Events.{DumpEvent, switch_event, Course, course_at_first, course_after, values_after, unknown_in}
use Rattle.vcd_way.specs.Events.{sample_in_block, events_from}
use Rattle.vcd_way.specs.Steps.{DumpState, Step, first_state, reads_past, step, state_after, happenings_in}
use Rattle.vcd_way.specs.Steps.{is_past_header_at, hides_stamp}
use Rattle.vcd_way.specs.Answers.{state_of, pieces_in, fault_at_end, whole_fault, is_early, first_fault_by, fault_so_far_by}
use Rattle.vcd_way.specs.Answers.{events_so_far_by, events_by}
use Rattle.vcd_way.proofs.Blocks.{pieces_some, over-cons}
use Rattle.vcd_way.proofs.Headings.{state-append, tokens_longer}

-- events go on from others
abbrev pub GoesOnFrom : List DumpEvent → List DumpEvent → Type 0
GoesOnFrom first all = (rest : List DumpEvent) × (all ≡ first ++ rest)

goes-on-behind : (es first all : List DumpEvent) → GoesOnFrom first all → GoesOnFrom (es ++ first) (es ++ all)
goes-on-behind es first all p = (p.0, ap (λ x. es ++ x) p.1 ∙ sym (append_assoc es first p.0))

goes-on-twice : (first middle all : List DumpEvent) → GoesOnFrom first middle → GoesOnFrom middle all → GoesOnFrom first all
goes-on-twice first middle all p q =
    (p.0 ++ q.0, q.1 ∙ ap (λ x. x ++ q.0) p.1 ∙ append_assoc first p.0 q.0)

-- a first piece that is over
over-first : (m : ValueRules) (c : Course) (p : Piece) (ps : List Piece) → 0 < length ps
    → events_from m c (over (p ∷ ps)) ≡ events_from m c (p ∷ over ps)
over-first m c p ps some = ap (events_from m c) (over-cons p ps some)

-- what the pieces that are over tell, all tell first
open-last : (m : ValueRules) (c : Course) (stamp : Option Stamp) (block : List TapChange) (hs : List Happening)
    → GoesOnFrom (events_from m c (over (pieces_from stamp block hs))) (events_from m c (pieces_from stamp block hs))
open-last m c stamp block [] = (events_from m c (pieces_from stamp block []), refl)
open-last m c stamp block (Comes next ∷ hs) =
    let after = values_after c.values block in
    let ps = pieces_from (Some next) [] hs in
    let here = sample_in_block m c stamp after in
    subst (λ x. GoesOnFrom x (here ++ events_from m (course_after c after) ps))
    (sym (over-first m c (Changes stamp block) ps (pieces_some (Some next) [] hs)))
    (goes-on-behind here (events_from m (course_after c after) (over ps)) (events_from m (course_after c after) ps)
    (open-last m (course_after c after) (Some next) [] hs))
open-last m c stamp block (Gets change ∷ hs) = open-last m c stamp (block ++ change ∷ []) hs
open-last m c stamp block (Switches switch lines ∷ hs) =
    let after = values_after c.values block in
    let ps = pieces_from stamp [] hs in
    let here = sample_in_block m c stamp after in
    let there = record (course_after c after) { values = unknown_in after lines } in
    let rest = pieces_some stamp [] hs in
    subst (λ x. GoesOnFrom x (here ++ switch_event switch stamp ∷ events_from m there ps))
    (sym (over-first m c (Changes stamp block) (Switched switch stamp lines ∷ ps) (omega (arith, rest))
    ∙ ap (λ x. here ++ x) (over-first m (course_after c after) (Switched switch stamp lines) ps rest)))
    (goes-on-behind here (switch_event switch stamp ∷ events_from m there (over ps)) (switch_event switch stamp ∷ events_from m there ps)
    (goes-on-behind (switch_event switch stamp ∷ []) (events_from m there (over ps)) (events_from m there ps)
    (open-last m there stamp [] hs)))

-- what the pieces tell that are over behind some happenings, those tell first that are over behind more
more-over : (m : ValueRules) (c : Course) (stamp : Option Stamp) (block : List TapChange) (hs js : List Happening)
    → GoesOnFrom (events_from m c (over (pieces_from stamp block hs)))
    (events_from m c (over (pieces_from stamp block (hs ++ js))))
more-over m c stamp block [] js = (events_from m c (over (pieces_from stamp block js)), refl)
more-over m c stamp block (Comes next ∷ hs) js =
    let after = values_after c.values block in
    let few = pieces_from (Some next) [] hs in
    let many = pieces_from (Some next) [] (hs ++ js) in
    let here = sample_in_block m c stamp after in
    let next_course = course_after c after in
    subst (λ x. GoesOnFrom x (events_from m c (over (Changes stamp block ∷ many))))
    (sym (over-first m c (Changes stamp block) few (pieces_some (Some next) [] hs)))
    (subst (λ x. GoesOnFrom (here ++ events_from m next_course (over few)) x)
    (sym (over-first m c (Changes stamp block) many (pieces_some (Some next) [] (hs ++ js))))
    (goes-on-behind here (events_from m next_course (over few)) (events_from m next_course (over many))
    (more-over m next_course (Some next) [] hs js)))
more-over m c stamp block (Gets change ∷ hs) js = more-over m c stamp (block ++ change ∷ []) hs js
more-over m c stamp block (Switches switch lines ∷ hs) js =
    let after = values_after c.values block in
    let few = pieces_from stamp [] hs in
    let many = pieces_from stamp [] (hs ++ js) in
    let here = sample_in_block m c stamp after in
    let there = record (course_after c after) { values = unknown_in after lines } in
    let some_few = pieces_some stamp [] hs in
    let some_many = pieces_some stamp [] (hs ++ js) in
    subst (λ x. GoesOnFrom x (events_from m c (over (Changes stamp block ∷ Switched switch stamp lines ∷ many))))
    (sym (over-first m c (Changes stamp block) (Switched switch stamp lines ∷ few) (omega (arith, some_few))
    ∙ ap (λ x. here ++ x) (over-first m (course_after c after) (Switched switch stamp lines) few some_few)))
    (subst (λ x. GoesOnFrom (here ++ switch_event switch stamp ∷ events_from m there (over few)) x)
    (sym (over-first m c (Changes stamp block) (Switched switch stamp lines ∷ many) (omega (arith, some_many))
    ∙ ap (λ x. here ++ x) (over-first m (course_after c after) (Switched switch stamp lines) many some_many)))
    (goes-on-behind here (switch_event switch stamp ∷ events_from m there (over few)) (switch_event switch stamp ∷ events_from m there (over many))
    (goes-on-behind (switch_event switch stamp ∷ []) (events_from m there (over few)) (events_from m there (over many))
    (more-over m there stamp [] hs js))))

happenings-append : {W : Type 0} (way : Way W) (s : DumpState W) (ts us : List Token)
    → happenings_in way s (ts ++ us) ≡ happenings_in way s ts ++ happenings_in way (state_after way s ts) us
happenings-append way s [] us = refl
happenings-append way s (t ∷ ts) us =
    ap (λ hs. (step way s t).happenings ++ hs) (happenings-append way (step way s t).state ts us)
    ∙ sym (append_assoc (step way s t).happenings (happenings_in way (step way s t).state ts)
    (happenings_in way (state_after way (step way s t).state ts) us))

-- what tokens tell, they and others tell first
tokens-over : {W : Type 0} (way : Way W) (ts us : List Token)
    → GoesOnFrom (events_from way.rules course_at_first (over (pieces_in way ts)))
    (events_from way.rules course_at_first (over (pieces_in way (ts ++ us))))
tokens-over way ts us =
    let hs = happenings_in way (first_state way) ts in
    let js = happenings_in way (state_of way ts) us in
    subst (λ x. GoesOnFrom (events_from way.rules course_at_first (over (pieces_from None [] hs)))
    (events_from way.rules course_at_first (over (pieces_from None [] x))))
    (sym (happenings-append way (first_state way) ts us)) (more-over way.rules course_at_first None [] hs js)

pub so_far-longer : {W : Type 0} (way : Way W) (fed more : List ℕ)
    → GoesOnFrom (events_so_far_by way fed) (events_so_far_by way (fed ++ more))
unfolding events_so_far_by
so_far-longer way fed more =
    subst (λ x. GoesOnFrom (events_from way.rules course_at_first (over (pieces_in way (tokens_so_far fed))))
    (events_from way.rules course_at_first (over (pieces_in way x))))
    (sym (tokens_longer fed more)) (tokens-over way (tokens_so_far fed) (tokens_from (length fed) (open_run fed) more))

-- a whole text
whole-longer : {W : Type 0} (way : Way W) (text : List ℕ)
    → GoesOnFrom (events_so_far_by way text) (events_from way.rules course_at_first (pieces_in way (tokens_of text)))
unfolding events_so_far_by
whole-longer way text =
    goes-on-twice (events_from way.rules course_at_first (over (pieces_in way (tokens_so_far text))))
    (events_from way.rules course_at_first (over (pieces_in way (tokens_of text))))
    (events_from way.rules course_at_first (pieces_in way (tokens_of text)))
    (tokens-over way (tokens_so_far text) (ended_at (length text) (open_run text)))
    (open-last way.rules course_at_first None [] (happenings_in way (first_state way) (tokens_of text)))

early-or : (b : Bool) (first all : List DumpEvent) → GoesOnFrom first all → GoesOnFrom first (if b then first else all)
early-or true first all p = ([], sym (append-nil first))
early-or false first all p = p

pub events-longer : {W : Type 0} (way : Way W) (fed more : List ℕ)
    → GoesOnFrom (events_so_far_by way fed) (events_by way (fed ++ more))
unfolding events_by
events-longer way fed more =
    let text = fed ++ more in
    let whole = events_from way.rules course_at_first (pieces_in way (tokens_of text)) in
    goes-on-twice (events_so_far_by way fed) (events_so_far_by way text)
    (if is_early way text then events_so_far_by way text else whole) (so_far-longer way fed more)
    (early-or (is_early way text) (events_so_far_by way text) whole (whole-longer way text))

-- ---- a fault stays

stuck-step : {W : Type 0} (way : Way W) (s : DumpState W) (t : Token) (f : VcdFault) → s.fault ≡ Some f
    → step way s t ≡ reads_past s
unfolding step
stuck-step way s t f e = rw e refl

stuck-behind : {W : Type 0} (way : Way W) (s : DumpState W) (ts : List Token) (f : VcdFault) → s.fault ≡ Some f
    → (state_after way s ts).fault ≡ Some f
stuck-behind way s [] f e = e
stuck-behind {W = W} way s (t ∷ ts) f e =
    ap (λ (y : Step W). (state_after way y.state ts).fault) (stuck-step way s t f e) ∙ stuck-behind way s ts f e

fault-more : {W : Type 0} (way : Way W) (ts us : List Token) (f : VcdFault) → (state_of way ts).fault ≡ Some f
    → (state_of way (ts ++ us)).fault ≡ Some f
fault-more {W = W} way ts us f e =
    ap (λ (s : DumpState W). s.fault) (state-append way (first_state way) ts us) ∙ stuck-behind way (state_of way ts) us f e

fault-longer : {W : Type 0} (way : Way W) (fed more : List ℕ) (f : VcdFault)
    → (state_of way (tokens_so_far fed)).fault ≡ Some f → (state_of way (tokens_so_far (fed ++ more))).fault ≡ Some f
fault-longer way fed more f e =
    subst (λ ts. (state_of way ts).fault ≡ Some f) (sym (tokens_longer fed more))
    (fault-more way (tokens_so_far fed) (tokens_from (length fed) (open_run fed) more) f e)

not_early : (m : Bool) (fault : Option VcdFault) (p q : Bool) (f : VcdFault) → fault ≡ Some f
    → (m && not (is_some fault) && p && q) ≡ false
not_early true (Some x) p q f e = refl
not_early false (Some x) p q f e = refl
not_early m None p q f e = cc e

pub fault-stays : {W : Type 0} (way : Way W) (fed more : List ℕ) (f : VcdFault) → fault_so_far_by way fed ≡ Some f
    → first_fault_by way (fed ++ more) ≡ Some f
unfolding fault_so_far_by first_fault_by
fault-stays way fed more f e =
    let text = fed ++ more in
    let s = state_of way (tokens_so_far text) in
    let all = state_of way (tokens_of text) in
    let so_far = fault-longer way fed more f e in
    let whole = fault-more way (tokens_so_far text) (ended_at (length text) (open_run text)) f so_far in
    ap (λ b. if b then None else whole_fault way text)
    (not_early way.rules.ends_early s.fault (is_past_header_at s.spot && not (hides_stamp all.spot))
    (is_some (whole_fault way text)) f so_far)
    ∙ ap (λ x. fault_at_end x all.spot (length text)) whole
