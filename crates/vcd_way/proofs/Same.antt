-- The strict way is the grammar, token by token.
use Rattle.std.proofs.Common.{◌≡◌, ℕ, Bool, true, false, if◌then◌else◌, is_some, List, [], ◌∷◌}
use Rattle.std.proofs.Common.{length, take, option_map, Option, Some, None, refl, sym, ap, subst, ◌∙◌}
use Rattle.fsb_signal.specs.declared.marks.Marks.{Marks}
use Rattle.vcd_grammar.specs.declared.fault.VcdFault.{VcdFault}
use Rattle.vcd_grammar.specs.declared.fault.VcdCause.TheVariants as causes
use Rattle.vcd_grammar.specs.Tokens.{Token, is_long, tokens_of, tokens_so_far}
use Rattle.vcd_grammar.specs.Words.{HeaderWord, Declares, Finishes, Ends, Opens, Bare, header_word, value_word}
use Rattle.vcd_grammar.specs.Codes.{lines_of}
use Rattle.vcd_grammar.specs.Blocks.{BlockEvent}
use Rattle.vcd_grammar.specs.Heading.{is_header_over}
use Rattle.vcd_grammar.specs.Judging.{Known, nothing, TokenTurn, goes_to, fails, unless_long, header_turn}
use Rattle.vcd_grammar.specs.Judging.{value_turn, vector_turn, beside_turn, turn_in, mode_behind, turn, behind, events_in}
use Rattle.vcd_grammar.specs.Judging.{marks_of_lines, known_marks, is_past_header}
use Rattle.vcd_grammar.specs.Reading.{cut_in, or_cut, first_fault, samples_of, samples_before_end, marks_of, fault_so_far}
use Rattle.vcd_grammar.specs.Reading.{samples_so_far, marks_so_far, marks_at_end}
use Rattle.vcd_way.specs.Declarations.{DumpSection}
use Rattle.vcd_way.specs.Pieces.{Happening}
use Rattle.vcd_way.specs.Events.{samples_among, course_at_first}
use Rattle.vcd_way.specs.Steps.{Spot, AtPreface, AtHeader, InSection, AtValues, AtCode, AtOtherCode, InRemark, DumpState}
use Rattle.vcd_way.specs.Steps.{first_state, Step, reads_past, breaks, if_short, header_step, value_word_by, value_step}
use Rattle.vcd_way.specs.Steps.{vector_step, other_step, step_at, step, state_after, happenings_in}
use Rattle.vcd_way.specs.Answers.{cut_at, fault_at_end, first_fault_by, events_by, events_so_far_by, events_before_end_by}
use Rattle.vcd_way.specs.Answers.{fault_so_far_by, header_in, header_by, header_so_far_by, header_at_end_by}
use Rattle.vcd_way.specs.Strict.{StrictHeader, strict_rules, strict, marks_by}
use Rattle.vcd_way.proofs.Blocks.{Alike, alike-append, alike-samples, alike-ended, no_holes}
use Rattle.vcd_way.proofs.Header.{mode_of_section, mode_of_spot, known_of, is_sound, Follows, follows-if, at, header-same}
use Rattle.vcd_way.proofs.Header.{section-same}
use Rattle.vcd_way.proofs.Values.{same-word, same-value, same-vector-turn, same-beside, same-remark}

-- ---- one token

-- a token that is too long is a fault in both
short-same : (s : DumpState StrictHeader) (spot : Spot) (t : Token) (x : TokenTurn) (y : Step StrictHeader)
    → is_sound spot ≡ true → Follows x y
    → Follows (unless_long (known_of (at s spot)) t x) (if_short (at s spot) t y)
short-same s spot t x y h p =
    follows-if (is_long t.word) (fails (known_of (at s spot)) t.place causes.Token) x
    (breaks (at s spot) t.place causes.Token) y (record { known = refl; alike = tt; sound = h }) p

value-same : (s : DumpState StrictHeader) (t : Token)
    → Follows (value_turn (known_of (at s AtValues)) t.place (value_word t.word))
    (value_step strict (at s AtValues) t (value_word_by strict_rules t.word))
value-same s t =
    let word = same-word t.word in
    subst (λ w. Follows (value_turn (known_of (at s AtValues)) t.place w)
    (value_step strict (at s AtValues) t (value_word_by strict_rules t.word))) (sym word.same)
    (same-value s t (value_word_by strict_rules t.word) word.digits)

at-same : (spot : Spot) (s : DumpState StrictHeader) (t : Token) → is_sound spot ≡ true
    → Follows (turn_in (mode_of_spot spot) (known_of (at s spot)) t) (step_at strict spot (at s spot) t)
at-same AtPreface s t h = cc h
at-same AtHeader s t h =
    short-same s AtHeader t (header_turn (known_of (at s AtHeader)) t.place (header_word t.word))
    (header_step (at s AtHeader) t (header_word t.word)) refl (header-same s t (header_word t.word) refl)
at-same (InSection section) s t h = section-same s section t
at-same AtValues s t h =
    short-same s AtValues t (value_turn (known_of (at s AtValues)) t.place (value_word t.word))
    (value_step strict (at s AtValues) t (value_word_by strict_rules t.word)) refl (value-same s t)
at-same (AtCode from digits) s t h =
    let lines = lines_of s.header.codes t.word in
    short-same s (AtCode from digits) t
    (vector_turn (known_of (at s (AtCode from digits))) t.place from (take 65 digits) lines)
    (vector_step strict (at s (AtCode from digits)) t.place from digits (strict.taps s.header t.word)) h
    (same-vector-turn s t.place from digits lines h)
at-same (AtOtherCode from) s t h =
    let lines = lines_of s.header.codes t.word in
    short-same s (AtOtherCode from) t (beside_turn (known_of (at s (AtOtherCode from))) t.place lines)
    (other_step (at s (AtOtherCode from)) t.place (strict.taps s.header t.word)) refl (same-beside s t.place from lines)
at-same (InRemark section) s t h = same-remark s section t

faultless : (b : Bool) (x z : TokenTurn) (y w : Step StrictHeader) → b ≡ false → Follows z w
    → Follows (if b then x else z) (if b then y else w)
faultless true x z y w e p = cc e
faultless false x z y w e p = p

step-same : (s : DumpState StrictHeader) (t : Token) → s.fault ≡ None → is_sound s.spot ≡ true
    → Follows (turn (known_of s) t) (step strict s t)
unfolding turn step
step-same s t e h =
    faultless (is_some s.fault) (goes_to (known_of s) (mode_behind (known_of s).mode t))
    (turn_in (known_of s).mode (known_of s) t) (reads_past s) (step_at strict s.spot s t) (ap is_some e)
    (at-same s.spot s t h)

-- ---- tokens

-- what both know behind tokens: the same fault, the same lines, the same that happened; and without a fault the same place
pub record SameBehind (k : Known) (s : DumpState StrictHeader) (es : List BlockEvent) (hs : List Happening) : Type 0 where
  pub fault : k.fault ≡ s.fault
  pub lines : k.lines ≡ s.header.lines
  pub mode : s.fault ≡ None → k.mode ≡ mode_of_spot s.spot
  pub alike : Alike es hs

-- behind a fault
stuck-turn : (k : Known) (t : Token) (f : VcdFault) → k.fault ≡ Some f
    → turn k t ≡ goes_to k (mode_behind k.mode t)
unfolding turn
stuck-turn k t f e = rw e refl

stuck-step : (s : DumpState StrictHeader) (t : Token) (f : VcdFault) → s.fault ≡ Some f → step strict s t ≡ reads_past s
unfolding step
stuck-step s t f e = rw e refl

stuck : (k : Known) (s : DumpState StrictHeader) (ts : List Token) (f : VcdFault) → k.fault ≡ Some f → s.fault ≡ Some f
    → k.lines ≡ s.header.lines
    → SameBehind (behind k ts) (state_after strict s ts) (events_in k ts) (happenings_in strict s ts)
stuck k s [] f e g l = record {
  fault = e ∙ sym g;
  lines = l;
  mode = λ h. let wrong = sym h ∙ g in cc wrong;
  alike = tt;
}
stuck k s (t ∷ ts) f e g l =
    rw (stuck-turn k t f e, stuck-step s t f g) (stuck (goes_to k (mode_behind k.mode t)).known s ts f e g l)

-- what both know behind a token and others
abbrev SameRest : DumpState StrictHeader → Token → List Token → Type 0
SameRest s t ts =
    SameBehind (behind (turn (known_of s) t).known ts) (state_after strict (step strict s t).state ts)
    (events_in (turn (known_of s) t).known ts) (happenings_in strict (step strict s t).state ts)

rest : (s : DumpState StrictHeader) (t : Token) (ts : List Token) → Follows (turn (known_of s) t) (step strict s t)
    → ((step strict s t).state.fault ≡ None → is_sound (step strict s t).state.spot ≡ true
    → SameBehind (behind (known_of (step strict s t).state) ts) (state_after strict (step strict s t).state ts)
    (events_in (known_of (step strict s t).state) ts) (happenings_in strict (step strict s t).state ts))
    → (f : Option VcdFault) → (step strict s t).state.fault ≡ f → SameRest s t ts
rest s t ts one more None g =
    subst (λ k. SameBehind (behind k ts) (state_after strict (step strict s t).state ts) (events_in k ts)
    (happenings_in strict (step strict s t).state ts)) (sym one.known) (more g one.sound)
rest s t ts one more (Some f) g =
    stuck (turn (known_of s) t).known (step strict s t).state ts f (ap (λ (k : Known). k.fault) one.known ∙ g) g
    (ap (λ (k : Known). k.lines) one.known)

first : (s : DumpState StrictHeader) (t : Token) (ts : List Token) → Follows (turn (known_of s) t) (step strict s t)
    → SameRest s t ts
    → SameBehind (behind (known_of s) (t ∷ ts)) (state_after strict s (t ∷ ts)) (events_in (known_of s) (t ∷ ts))
    (happenings_in strict s (t ∷ ts))
first s t ts one r = record {
  fault = r.fault;
  lines = r.lines;
  mode = r.mode;
  alike = alike-append (turn (known_of s) t).events (events_in (turn (known_of s) t).known ts)
      (step strict s t).happenings (happenings_in strict (step strict s t).state ts) one.alike r.alike;
}

pub going : (s : DumpState StrictHeader) (ts : List Token) → s.fault ≡ None → is_sound s.spot ≡ true
    → SameBehind (behind (known_of s) ts) (state_after strict s ts) (events_in (known_of s) ts) (happenings_in strict s ts)
going s [] e h = record { fault = refl; lines = refl; mode = λ x. refl; alike = tt }
going s (t ∷ ts) e h =
    first s t ts (step-same s t e h)
    (rest s t ts (step-same s t e h) (λ g k. going (step strict s t).state ts g k) (step strict s t).state.fault refl)

-- ---- texts

-- from the first token on
abbrev begun : DumpState StrictHeader
begun = first_state strict

same-tokens : (ts : List Token)
    → SameBehind (behind nothing ts) (state_after strict begun ts) (events_in nothing ts) (happenings_in strict begun ts)
same-tokens ts = going begun ts refl refl

cut-section : (section : DumpSection) (w : HeaderWord) (place : ℕ)
    → cut_in (mode_of_section section w) place ≡ cut_at (InSection section) place
cut-section section Declares place = refl
cut-section section Finishes place = refl
cut-section section Ends place = refl
cut-section section Opens place = refl
cut-section section Bare place = refl

same-cut : (spot : Spot) (place : ℕ) → cut_in (mode_of_spot spot) place ≡ cut_at spot place
same-cut AtPreface place = refl
same-cut AtHeader place = refl
same-cut (InSection section) place = cut-section section (header_word section.keyword) place
same-cut AtValues place = refl
same-cut (AtCode from digits) place = refl
same-cut (AtOtherCode from) place = refl
same-cut (InRemark section) place = refl

same-end : (fault : Option VcdFault) (k : Known) (s : DumpState StrictHeader) (place : ℕ) → k.fault ≡ fault → s.fault ≡ fault
    → (fault ≡ None → k.mode ≡ mode_of_spot s.spot)
    → or_cut k.fault k.mode place ≡ fault_at_end s.fault s.spot place
same-end None k s place e f h = rw (e, f, h refl) (same-cut s.spot place)
same-end (Some fault) k s place e f h = rw (e, f) refl

pub same-first_fault : (text : List ℕ) → first_fault text ≡ first_fault_by strict text
unfolding first_fault first_fault_by
same-first_fault text =
    let s = state_after strict begun (tokens_of text) in
    let all = same-tokens (tokens_of text) in
    same-end s.fault (behind nothing (tokens_of text)) s (length text) all.fault refl all.mode

pub same-fault_so_far : (fed : List ℕ) → fault_so_far fed ≡ fault_so_far_by strict fed
unfolding fault_so_far fault_so_far_by
same-fault_so_far fed = (same-tokens (tokens_so_far fed)).fault

pub same-samples : (text : List ℕ) → samples_of text ≡ samples_among (events_by strict text)
unfolding samples_of events_by
same-samples text =
    alike-samples [] [] None course_at_first (events_in nothing (tokens_of text))
    (happenings_in strict begun (tokens_of text)) (λ e. refl) refl (same-tokens (tokens_of text)).alike

pub same-count : (text : List ℕ) → length (events_by strict text) ≡ length (samples_of text)
unfolding events_by
same-count text =
    sym (no_holes [] None course_at_first (events_in nothing (tokens_of text))
    (happenings_in strict begun (tokens_of text)) (same-tokens (tokens_of text)).alike)
    ∙ sym (ap length (same-samples text))

pub same-before_end : (text : List ℕ) → samples_before_end text ≡ samples_among (events_before_end_by strict text)
unfolding samples_before_end events_before_end_by
same-before_end text =
    alike-ended [] [] None course_at_first (events_in nothing (tokens_of text))
    (happenings_in strict begun (tokens_of text)) (λ e. refl) refl (same-tokens (tokens_of text)).alike

pub same-so_far : (fed : List ℕ) → samples_so_far fed ≡ samples_among (events_so_far_by strict fed)
unfolding samples_so_far events_so_far_by
same-so_far fed =
    alike-ended [] [] None course_at_first (events_in nothing (tokens_so_far fed))
    (happenings_in strict begun (tokens_so_far fed)) (λ e. refl) refl (same-tokens (tokens_so_far fed)).alike

pub same-marks : (text : List ℕ) → marks_of text ≡ marks_by (header_by strict text)
unfolding marks_of header_by
same-marks text = ap marks_of_lines (same-tokens (tokens_of text)).lines

-- ---- the marks, once the header is over

tell : (p b : Bool) (m : Marks) → is_some (if p then Some m else None) ≡ b
    → (if p then Some m else None) ≡ (if b then Some m else None)
tell true true m e = refl
tell true false m e = cc e
tell false true m e = cc e
tell false false m e = refl

told_by : (b : Bool) (h : StrictHeader) → (if b then Some (marks_by h) else None) ≡ option_map marks_by (if b then Some h else None)
told_by true h = refl
told_by false h = refl

same-known : (ts : List Token) → is_some (known_marks (behind nothing ts)) ≡ is_header_over ts
    → known_marks (behind nothing ts) ≡ option_map marks_by (header_in strict ts)
same-known ts e =
    tell (is_past_header (behind nothing ts).mode) (is_header_over ts) (marks_of_lines (behind nothing ts).lines) e
    ∙ ap (λ lines. if is_header_over ts then Some (marks_of_lines lines) else None) (same-tokens ts).lines
    ∙ told_by (is_header_over ts) (state_after strict begun ts).header

pub same-marks_so_far : (fed : List ℕ) → is_some (marks_so_far fed) ≡ is_header_over (tokens_so_far fed)
    → marks_so_far fed ≡ option_map marks_by (header_so_far_by strict fed)
unfolding marks_so_far header_so_far_by
same-marks_so_far fed e = same-known (tokens_so_far fed) e

pub same-marks_at_end : (text : List ℕ) → is_some (marks_at_end text) ≡ is_header_over (tokens_of text)
    → marks_at_end text ≡ option_map marks_by (header_at_end_by strict text)
unfolding marks_at_end header_at_end_by
same-marks_at_end text e = same-known (tokens_of text) e
