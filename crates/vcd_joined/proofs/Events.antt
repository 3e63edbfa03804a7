-- What is told of a text, and its faults, are what the readers tell.
use Rattle.std.proofs.Common.{◌≡◌, ℕ, Bool, true, false, not, ◌&&◌, if◌then◌else◌, is_some, List, [], ◌∷◌, ◌++◌, length}
use Rattle.std.proofs.Common.{Option, None, option_map, refl, sym, ap, ◌∙◌, append_assoc, append-nil}
use Rattle.vcd_grammar.specs.Tokens.{Token, tokens_so_far, tokens_of, open_run, ended_at}
use Rattle.vcd_way.specs.Declarations.{Declaration}
use Rattle.vcd_way.specs.Ways.{ValueRules}
use Rattle.vcd_way.specs.Pieces.{Happening, Comes, Gets, Switches, pieces_of, over}
use Rattle.vcd_way.specs.Steps.{DumpState, first_state, happenings_in, unknown_from_here, is_past_header_at, open_from, hides_stamp}
use Rattle.vcd_way.specs.Events.{course_at_first, events_from}
use Rattle.vcd_way.specs.Answers.{state_of, pieces_in, fault_at_end, whole_fault, EarlyEnd, is_early, first_fault_by, early_end_by, events_by}
use Rattle.vcd_way.specs.Answers.{events_so_far_by, events_before_end_by, fault_so_far_by, header_by}
use Rattle.vcd_way.proofs.Interface.{tokens_longer, past-behind, state-append}
use Rattle.vcd_course.specs.Opening.{OpenPiece, first_open, after_happening, after_happenings, ended_in, told_at, told_in}
use Rattle.vcd_course.proofs.Interface.{after-append, told-append}
use Rattle.vcd_header.specs.Gathering.{gathering, header_fault_so_far, header_fault_of}
use Rattle.vcd_scan.specs.Wired.{Wiring, wired}
use Rattle.vcd_scan.specs.Begun.{begun}
use Rattle.vcd_scan.specs.Standing.{tokens_after, last_tokens_after, known_after, first_open_of, told_after}
use Rattle.vcd_scan.specs.Standing.{fault_behind, all_told_after}
use Rattle.vcd_scan.specs.Ending.{ends_early_after, early_end_after, fault_to_end, told_to_end}
use Rattle.vcd_joined.specs.Choosing.{Choice, choosing, IsTaken, of_values}
use Rattle.vcd_joined.specs.Behind.{gathered_in, IsHeader, behind}
use Rattle.vcd_joined.specs.Texts.{IsHeadWith, IsWholeWith}
use Rattle.vcd_joined.proofs.Header.{known-open, quiet-open, known-at-end, begins-at-end}
use Rattle.vcd_joined.proofs.Values.{known-behind, happened-behind}

-- ---- what happens, told

told-values : (m : ValueRules) (o : OpenPiece) (hs : List Happening) → told_in m o hs ≡ told_in (of_values m) o hs
told-values m o [] = refl
told-values m o (Comes stamp ∷ hs) =
    ap (λ es. told_at m o (Comes stamp) ++ es) (told-values m (after_happening o (Comes stamp)) hs)
told-values m o (Gets change ∷ hs) = told-values m (after_happening o (Gets change)) hs
told-values m o (Switches switch lines ∷ hs) =
    ap (λ es. told_at m o (Switches switch lines) ++ es) (told-values m (after_happening o (Switches switch lines)) hs)

-- that lines are unknown tells nothing
told-unknown : (m : ValueRules) (o : OpenPiece) (lines : List ℕ) → told_in m o (unknown_from_here lines) ≡ []
told-unknown m o [] = refl
told-unknown m o (number ∷ lines) = refl

told-behind : (m : ValueRules) (w : Wiring) (js : List Happening)
    → told_in m first_open (unknown_from_here w.lines ++ js) ≡ told_in (of_values m) (first_open_of w) js
told-behind m w js =
    told-append m first_open (unknown_from_here w.lines) js
    ∙ ap (λ es. es ++ told_in m (first_open_of w) js) (told-unknown m first_open w.lines)
    ∙ told-values m (first_open_of w) js

-- the law of vcd_course on events: of the pieces that are over, and of all
abbrev pub OverTold : Type 0
OverTold = (m : ValueRules) (hs : List Happening)
    → events_from m course_at_first (over (pieces_of hs)) ≡ told_in m first_open hs

abbrev pub AllTold : Type 0
AllTold = (m : ValueRules) (hs : List Happening)
    → events_from m course_at_first (pieces_of hs)
    ≡ told_in m first_open hs ++ ended_in m (after_happenings first_open hs)

-- ---- tokens behind a header

over-behind : (c : Choice) (m : ValueRules) (w : Wiring) (hs ts : List Token) → OverTold → IsHeader m hs
    → IsTaken c (gathered_in m hs).header w
    → events_from m course_at_first (over (pieces_in (choosing c m) (hs ++ ts))) ≡ told_after (of_values m) w ts
over-behind c m w hs ts law h k =
    law m (happenings_in (choosing c m) (first_state (choosing c m)) (hs ++ ts))
    ∙ ap (told_in m first_open) (happened-behind c m w hs ts h k)
    ∙ told-behind m w (happenings_in (wired (of_values m)) (begun w) ts)

all-behind : (c : Choice) (m : ValueRules) (w : Wiring) (hs ts : List Token) → AllTold → IsHeader m hs
    → IsTaken c (gathered_in m hs).header w
    → events_from m course_at_first (pieces_in (choosing c m) (hs ++ ts)) ≡ all_told_after (of_values m) w ts
all-behind c m w hs ts law h k =
    let js = happenings_in (wired (of_values m)) (begun w) ts in
    law m (happenings_in (choosing c m) (first_state (choosing c m)) (hs ++ ts))
    ∙ ap (λ x. told_in m first_open x ++ ended_in m (after_happenings first_open x)) (happened-behind c m w hs ts h k)
    ∙ (λ i. told-behind m w js i ++ ended_in m (after-append first_open (unknown_from_here w.lines) js i))

-- ---- texts behind a header

-- the tokens of a text with a header
so_far-tokens : (head fed : List ℕ) → tokens_so_far (head ++ fed) ≡ tokens_so_far head ++ tokens_after head fed
so_far-tokens head fed = tokens_longer head fed

all-tokens : (head fed : List ℕ) → tokens_of (head ++ fed) ≡ tokens_so_far head ++ last_tokens_after head fed
all-tokens head fed =
    let last = ended_at (length (head ++ fed)) (open_run (head ++ fed)) in
    ap (λ ts. ts ++ last) (so_far-tokens head fed)
    ∙ append_assoc (tokens_so_far head) (tokens_after head fed) last

pub told-so_far : (c : Choice) (m : ValueRules) (w : Wiring) (head fed : List ℕ) → OverTold → IsHeadWith c m w head
    → events_so_far_by (choosing c m) (head ++ fed) ≡ told_after (of_values m) w (tokens_after head fed)
unfolding events_so_far_by
told-so_far c m w head fed law h =
    ap (λ ts. events_from m course_at_first (over (pieces_in (choosing c m) ts))) (so_far-tokens head fed)
    ∙ over-behind c m w (tokens_so_far head) (tokens_after head fed) law h.header h.taken

pub told-before_end : (c : Choice) (m : ValueRules) (w : Wiring) (head fed : List ℕ) → OverTold → IsHeadWith c m w head
    → events_before_end_by (choosing c m) (head ++ fed) ≡ told_after (of_values m) w (last_tokens_after head fed)
unfolding events_before_end_by
told-before_end c m w head fed law h =
    ap (λ ts. events_from m course_at_first (over (pieces_in (choosing c m) ts))) (all-tokens head fed)
    ∙ over-behind c m w (tokens_so_far head) (last_tokens_after head fed) law h.header h.taken

-- before the header is over nothing is told
pub told-nothing : (c : Choice) (m : ValueRules) (fed : List ℕ) → OverTold
    → is_past_header_at (gathered_in m (tokens_so_far fed)).spot ≡ false → events_so_far_by (choosing c m) fed ≡ []
unfolding events_so_far_by
told-nothing c m fed law h =
    ap (λ hs. events_from m course_at_first (over (pieces_of hs))) (quiet-open c m (tokens_so_far fed) h)
    ∙ law m []

-- ---- what is known of texts

known-so_far : (c : Choice) (m : ValueRules) (w : Wiring) (head fed : List ℕ) → IsHeadWith c m w head
    → state_of (choosing c m) (tokens_so_far (head ++ fed))
    ≡ behind (gathered_in m (tokens_so_far head)) (known_after (of_values m) w (tokens_after head fed))
known-so_far c m w head fed h =
    ap (state_of (choosing c m)) (so_far-tokens head fed)
    ∙ known-behind c m w (tokens_so_far head) (tokens_after head fed) h.header h.taken

known-whole : (c : Choice) (m : ValueRules) (w : Wiring) (head fed : List ℕ) → IsHeadWith c m w head
    → state_of (choosing c m) (tokens_of (head ++ fed))
    ≡ behind (gathered_in m (tokens_so_far head)) (known_after (of_values m) w (last_tokens_after head fed))
known-whole c m w head fed h =
    ap (state_of (choosing c m)) (all-tokens head fed)
    ∙ known-behind c m w (tokens_so_far head) (last_tokens_after head fed) h.header h.taken

pub header-is : (c : Choice) (m : ValueRules) (w : Wiring) (head fed : List ℕ) → IsHeadWith c m w head
    → header_by (choosing c m) (head ++ fed) ≡ (gathered_in m (tokens_so_far head)).header
unfolding header_by
header-is c m w head fed h = ap (λ (s : DumpState (List Declaration)). s.header) (known-whole c m w head fed h)

pub fault-so_far : (c : Choice) (m : ValueRules) (w : Wiring) (head fed : List ℕ) → IsHeadWith c m w head
    → fault_so_far_by (choosing c m) (head ++ fed) ≡ (known_after (of_values m) w (tokens_after head fed)).fault
unfolding fault_so_far_by
fault-so_far c m w head fed h = ap (λ (s : DumpState (List Declaration)). s.fault) (known-so_far c m w head fed h)

-- ---- ends of texts

whole-behind : (c : Choice) (m : ValueRules) (w : Wiring) (head fed : List ℕ) → IsHeadWith c m w head
    → whole_fault (choosing c m) (head ++ fed)
    ≡ fault_behind (of_values m) w (last_tokens_after head fed) (length (head ++ fed))
whole-behind c m w head fed h =
    ap (λ (s : DumpState (List Declaration)). fault_at_end s.fault s.spot (length (head ++ fed))) (known-whole c m w head fed h)

early-behind : (c : Choice) (m : ValueRules) (w : Wiring) (head fed : List ℕ) → IsHeadWith c m w head
    → is_early (choosing c m) (head ++ fed) ≡ ends_early_after (of_values m) w head fed
early-behind c m w head fed h =
    let r = known_after (of_values m) w (tokens_after head fed) in
    let last = last_tokens_after head fed in
    let stops = fault_behind (of_values m) w last (length (head ++ fed)) in
    let past : is_past_header_at r.spot ≡ true = past-behind (wired (of_values m)) (begun w) (tokens_after head fed) refl in
    (λ i. m.ends_early && not (is_some (known-so_far c m w head fed h i).fault)
    && (is_past_header_at (known-so_far c m w head fed h i).spot && not (hides_stamp (known-whole c m w head fed h i).spot))
    && is_some (whole-behind c m w head fed h i))
    ∙ ap (λ b. m.ends_early && not (is_some r.fault)
    && (b && not (hides_stamp (known_after (of_values m) w last).spot)) && is_some stops) past

pub first_fault-is : (c : Choice) (m : ValueRules) (w : Wiring) (head fed : List ℕ) → IsHeadWith c m w head
    → first_fault_by (choosing c m) (head ++ fed) ≡ fault_to_end (of_values m) w head fed
unfolding first_fault_by
first_fault-is c m w head fed h =
    λ i. if early-behind c m w head fed h i then None else whole-behind c m w head fed h i

pub early_end-is : (c : Choice) (m : ValueRules) (w : Wiring) (head fed : List ℕ) → IsHeadWith c m w head
    → early_end_by (choosing c m) (head ++ fed) ≡ early_end_after (of_values m) w head fed
unfolding early_end_by
early_end-is c m w head fed h =
    λ i. if early-behind c m w head fed h i then
    option_map (λ fault. record { fault = fault; open_from = open_from (known-whole c m w head fed h i).spot })
    (whole-behind c m w head fed h i)
    else None

pub events-are : (c : Choice) (m : ValueRules) (w : Wiring) (head fed : List ℕ) → OverTold → AllTold
    → IsHeadWith c m w head
    → events_by (choosing c m) (head ++ fed) ≡ told_to_end (of_values m) w head fed
unfolding events_by
events-are c m w head fed law all h =
    let told =
    ap (λ ts. events_from m course_at_first (pieces_in (choosing c m) ts)) (all-tokens head fed)
    ∙ all-behind c m w (tokens_so_far head) (last_tokens_after head fed) all h.header h.taken in
    λ i. if early-behind c m w head fed h i then told-so_far c m w head fed law h i else told i

-- ---- texts that are a header

-- what is known at the end of one
known-of-header : (c : Choice) (m : ValueRules) (w : Wiring) (text : List ℕ) → IsHeader m (tokens_of text)
    → state_of (choosing c m) (tokens_of text) ≡ behind (gathered_in m (tokens_of text)) (begun w)
known-of-header c m w text h = known-at-end c m (tokens_of text) h ∙ begins-at-end m w (tokens_of text) h

no-end : (a b p e : Bool) → e ≡ false → (a && b && p && e) ≡ false
no-end true true true e h = h
no-end true true false e h = refl
no-end true false p e h = refl
no-end false b p e h = refl

no-fault : (c : Choice) (m : ValueRules) (text : List ℕ) → IsHeader m (tokens_of text)
    → whole_fault (choosing c m) text ≡ None
no-fault c m text h =
    ap (λ (s : DumpState (List Declaration)). fault_at_end s.fault s.spot (length text))
    (known-of-header c m (record { codes = []; lines = [] }) text h)

header-not-early : (c : Choice) (m : ValueRules) (text : List ℕ) → IsHeader m (tokens_of text)
    → is_early (choosing c m) text ≡ false
header-not-early c m text h =
    let s = state_of (choosing c m) (tokens_so_far text) in
    let all = state_of (choosing c m) (tokens_of text) in
    no-end m.ends_early (not (is_some s.fault)) (is_past_header_at s.spot && not (hides_stamp all.spot))
    (is_some (whole_fault (choosing c m) text)) (ap is_some (no-fault c m text h))

pub faultless-header : (c : Choice) (m : ValueRules) (text : List ℕ) → IsHeader m (tokens_of text)
    → first_fault_by (choosing c m) text ≡ None
unfolding first_fault_by
faultless-header c m text h =
    (λ i. if header-not-early c m text h i then None else no-fault c m text h i)

pub header-ends-well : (c : Choice) (m : ValueRules) (text : List ℕ) → IsHeader m (tokens_of text)
    → early_end_by (choosing c m) text ≡ None
unfolding early_end_by
header-ends-well c m text h =
    let spot = (state_of (choosing c m) (tokens_of text)).spot in
    let early : Option EarlyEnd =
    option_map (λ fault. record { fault = fault; open_from = open_from spot }) (whole_fault (choosing c m) text) in
    ap (λ b. if b then early else None) (header-not-early c m text h)

pub whole-header : (c : Choice) (m : ValueRules) (text : List ℕ) → IsHeader m (tokens_of text)
    → header_by (choosing c m) text ≡ (gathered_in m (tokens_of text)).header
unfolding header_by
whole-header c m text h =
    ap (λ (s : DumpState (List Declaration)). s.header) (known-at-end c m (tokens_of text) h)

pub told-by-header : (c : Choice) (m : ValueRules) (w : Wiring) (text : List ℕ) → AllTold → IsWholeWith c m w text
    → events_by (choosing c m) text ≡ all_told_after (of_values m) w []
unfolding events_by
told-by-header c m w text all h =
    ap (λ b. if b then events_so_far_by (choosing c m) text
    else events_from m course_at_first (pieces_in (choosing c m) (tokens_of text))) (header-not-early c m text h.header)
    ∙ ap (λ ts. events_from m course_at_first (pieces_in (choosing c m) ts)) (sym (append-nil (tokens_of text)))
    ∙ all-behind c m w (tokens_of text) [] all h.header h.taken

-- ---- texts whose header is not over

pub fault-in-header : (c : Choice) (m : ValueRules) (fed : List ℕ)
    → is_past_header_at (gathered_in m (tokens_so_far fed)).spot ≡ false
    → fault_so_far_by (choosing c m) fed ≡ header_fault_so_far m fed
unfolding fault_so_far_by
fault-in-header c m fed h =
    let g = gathered_in m (tokens_so_far fed) in
    ap (λ (s : DumpState (List Declaration)). s.fault) (known-open c m (tokens_so_far fed) h)
    ∙ sym (ap (λ b. if b then None else g.fault) h)

-- no first bytes end a header that the whole text does not end
not-so_far : (m : ValueRules) (text : List ℕ) → is_past_header_at (gathered_in m (tokens_of text)).spot ≡ false
    → is_past_header_at (gathered_in m (tokens_so_far text)).spot ≡ false
not-so_far m text h = by (is_past_header_at (gathered_in m (tokens_so_far text)).spot) refl
  where
    by : (b : Bool) → is_past_header_at (gathered_in m (tokens_so_far text)).spot ≡ b → b ≡ false
    by true e =
        let last = ended_at (length text) (open_run text) in
        let more = ap (λ (s : DumpState (List Declaration)). is_past_header_at s.spot)
        (state-append (gathering m) (first_state (gathering m)) (tokens_so_far text) last) in
        let wrong = sym (past-behind (gathering m) (gathered_in m (tokens_so_far text)) last e) ∙ sym more ∙ h in cc wrong
    by false e = refl

not-early : (a b p d e : Bool) → p ≡ false → (a && b && (p && d) && e) ≡ false
not-early true true p d e h = ap (λ x. (x && d) && e) h
not-early true false p d e h = refl
not-early false b p d e h = refl

pub fault-of-header : (c : Choice) (m : ValueRules) (text : List ℕ)
    → is_past_header_at (gathered_in m (tokens_of text)).spot ≡ false
    → first_fault_by (choosing c m) text ≡ header_fault_of m text
unfolding first_fault_by
fault-of-header c m text h =
    let s = state_of (choosing c m) (tokens_so_far text) in
    let all = state_of (choosing c m) (tokens_of text) in
    let g = gathered_in m (tokens_of text) in
    let early = not-so_far m text h in
    let there = ap (λ (x : DumpState (List Declaration)). is_past_header_at x.spot) (known-open c m (tokens_so_far text) early) ∙ early in
    ap (λ b. if b then None else whole_fault (choosing c m) text)
    (not-early m.ends_early (not (is_some s.fault)) (is_past_header_at s.spot) (not (hides_stamp all.spot))
    (is_some (whole_fault (choosing c m) text)) there)
    ∙ ap (λ (x : DumpState (List Declaration)). fault_at_end x.fault x.spot (length text)) (known-open c m (tokens_of text) h)
    ∙ sym (ap (λ b. if b then None else fault_at_end g.fault g.spot (length text)) h)
