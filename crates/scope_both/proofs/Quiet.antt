-- Where no token is `$dumpoff`, no hole is told.
use Rattle.std.proofs.Common.{◌≡◌, ℕ, Bool, true, false, not, ◌&&◌, ◌==◌, if◌then◌else◌, is_some, List, [], ◌∷◌, ◌++◌}
use Rattle.std.proofs.Common.{codes, nat_lt, Option, Some, None, refl, sym, ap, subst, ◌∙◌}
use Rattle.std.specs.List.{list_all}
use Rattle.std.proofs.lemmas.Bool.{and_parts, not-true}
use Rattle.vcd_grammar.specs.declared.fault.VcdCause.TheVariants as causes
use Rattle.vcd_grammar.specs.Tokens.{Token, is_long}
use Rattle.vcd_grammar.specs.Words.{HeaderWord, Declares, Finishes, Ends, Opens, Bare, header_word, is_dollar, is_end}
use Rattle.vcd_grammar.specs.Words.{ValueWord, Stamp, Scalar, Vector, Foreign, Mark, Section, Wrong, same}
use Rattle.vcd_way.specs.Declarations.{DumpSection, Declaration, declaration_of, with_word}
use Rattle.vcd_way.specs.declared.tap.Tap.{Tap}
use Rattle.vcd_way.specs.Ways.{Kept, Keeps, Refuses, ValueRules, Way}
use Rattle.vcd_way.specs.Pieces.{Stamp as TimeStamp, TapChange, Happening, Comes, Gets, Switches, pieces_from}
use Rattle.vcd_way.specs.Events.{DumpEvent, Sampled, Course, course_after, at_first_edge, sampled, values_after}
use Rattle.vcd_way.specs.Events.{sample_in_block, events_from, is_edge, digit_after}
use Rattle.vcd_grammar.specs.Values.{Values, sample_of, clock_of}
use Rattle.vcd_way.specs.Steps.{Spot, AtPreface, AtHeader, InSection, AtValues, AtCode, AtOtherCode, InRemark, DumpState}
use Rattle.vcd_way.specs.Steps.{Step, reads_past, moves_to, breaks, if_short, header_step, unknown_from_here, kept_step}
use Rattle.vcd_way.specs.Steps.{declared_step, section_end, is_declaring, digits_by, value_word_by, comes}
use Rattle.vcd_way.specs.Steps.{stamp_step, given, scalar_step, is_too_wide_for, vector_digits, vector_step, other_step}
use Rattle.vcd_way.specs.Steps.{stops, resumes, mark_step, value_step, may_be_long, step_at, step}
use Rattle.vcd_way.specs.Steps.{happenings_in}
use Rattle.vcd_grammar.specs.Tokens.{tokens_of}
use Rattle.vcd_way.specs.Events.{course_at_first}
use Rattle.vcd_way.specs.Steps.{first_state}
use Rattle.vcd_way.specs.Answers.{first_fault_by, events_by}
use Rattle.vcd_way.specs.Strict.{strict}
use Rattle.scope_check.specs.Parts.{is_sampled}
use Rattle.scope_both.specs.Usual.{usual_rules}
use Rattle.scope_both.specs.Alike.{never_stops}
use Rattle.scope_both.proofs.Steps.{Lines, Taps, taking}
use Rattle.scope_both.proofs.Texts.{TakesAllOf, whole-events}

-- the dump does not stop or go on there
abbrev is_plain : Happening → Bool
is_plain (Comes stamp) = true
is_plain (Gets change) = true
is_plain (Switches switch lines) = false

-- the dump has not stopped before, and does not there
record Quiet {W : Type 0} (y : Step W) : Type 0 where
  is_off : y.state.is_off ≡ false
  plain : list_all is_plain y.happenings ≡ true

quiet-if : {W : Type 0} (b : Bool) (x y : Step W) → Quiet x → Quiet y → Quiet (if b then x else y)
quiet-if true x y p q = p
quiet-if false x y p q = q

quiet-unknown : (lines : List ℕ) → list_all is_plain (unknown_from_here lines) ≡ true
quiet-unknown [] = refl
quiet-unknown (n ∷ lines) = refl

quiet-word : {W : Type 0} (s : DumpState W) (t : Token) (w : HeaderWord) → s.is_off ≡ false → Quiet (header_step s t w)
quiet-word s t Declares h = record { is_off = h; plain = refl }
quiet-word s t Finishes h = record { is_off = h; plain = refl }
quiet-word s t Ends h = record { is_off = h; plain = refl }
quiet-word s t Opens h = record { is_off = h; plain = refl }
quiet-word s t Bare h = record { is_off = h; plain = refl }

quiet-kept : {W : Type 0} (s : DumpState W) (place : ℕ) (kept : Kept W) → s.is_off ≡ false → Quiet (kept_step s place kept)
quiet-kept s place (Keeps header lines) h = record { is_off = h; plain = quiet-unknown lines }
quiet-kept s place (Refuses cause) h = record { is_off = h; plain = refl }

quiet-declared : {W : Type 0} (way : Way W) (s : DumpState W) (place : ℕ) (d : Option Declaration) → s.is_off ≡ false
    → Quiet (declared_step way s place d)
quiet-declared way s place None h = record { is_off = h; plain = refl }
quiet-declared way s place (Some d) h = quiet-kept s place (way.declares s.header d) h

quiet-end : {W : Type 0} (way : Way W) (s : DumpState W) (section : DumpSection) (w : HeaderWord) → s.is_off ≡ false
    → Quiet (section_end way s section w)
quiet-end way s section Declares h =
    quiet-declared way (record s { spot = AtHeader }) section.place (declaration_of way.rules.widest s.path section) h
quiet-end way s section Finishes h =
    quiet-kept (record s { spot = AtValues }) section.place (way.closes s.header) h
quiet-end way s section Ends h = record { is_off = h; plain = refl }
quiet-end way s section Opens h = record { is_off = h; plain = refl }
quiet-end way s section Bare h = record { is_off = h; plain = refl }

quiet-breaks : {W : Type 0} (s : DumpState W) (t : Token) → s.is_off ≡ false → Quiet (breaks s t.place causes.Token)
quiet-breaks s t h = record { is_off = h; plain = refl }

quiet-stamp : {W : Type 0} (s : DumpState W) (place time : ℕ) (last : Option ℕ) → s.is_off ≡ false
    → Quiet (stamp_step s place time last)
quiet-stamp s place time None h = record { is_off = h; plain = refl }
quiet-stamp s place time (Some last) h =
    quiet-if (nat_lt time last) (breaks s place causes.TimeBack)
    (if nat_lt last time then comes s place time else reads_past s) (record { is_off = h; plain = refl })
    (quiet-if (nat_lt last time) (comes s place time) (reads_past s) (record { is_off = h; plain = refl })
    (record { is_off = h; plain = refl }))

quiet-given : {W : Type 0} (s : DumpState W) (place : ℕ) (taps : List Tap) (digits : Option (List ℕ)) → s.is_off ≡ false
    → Quiet (given s place taps digits)
quiet-given s place taps (Some digits) h = record { is_off = h; plain = refl }
quiet-given s place [] None h = record { is_off = h; plain = refl }
quiet-given s place (tap ∷ taps) None h = record { is_off = h; plain = refl }

quiet-scalar : {W : Type 0} (way : Way W) (s : DumpState W) (place digit : ℕ) (taps : Option (List Tap))
    → s.is_off ≡ false → Quiet (scalar_step way s place digit taps)
quiet-scalar way s place digit None h = record { is_off = h; plain = refl }
quiet-scalar way s place digit (Some taps) h = quiet-given s place taps (digits_by way.rules (digit ∷ [])) h

quiet-vector : {W : Type 0} (way : Way W) (s : DumpState W) (place from : ℕ) (digits : List ℕ) (taps : Option (List Tap))
    → s.is_off ≡ false → Quiet (vector_step way s place from digits taps)
quiet-vector way s place from digits None h = record { is_off = h; plain = refl }
quiet-vector way s place from digits (Some taps) h =
    quiet-if (is_too_wide_for taps digits) (breaks s from causes.Width)
    (given s from taps (vector_digits way.rules digits)) (record { is_off = h; plain = refl })
    (quiet-given s from taps (vector_digits way.rules digits) h)

quiet-other : {W : Type 0} (s : DumpState W) (place : ℕ) (taps : Option (List Tap)) → s.is_off ≡ false
    → Quiet (other_step s place taps)
quiet-other s place None h = record { is_off = h; plain = refl }
quiet-other s place (Some taps) h = record { is_off = h; plain = refl }

and-false : (x : Bool) → (x && false) ≡ false
and-false true = refl
and-false false = refl

quiet-mark : {W : Type 0} (way : Way W) (s : DumpState W) (word : List ℕ) → s.is_off ≡ false
    → same (codes "$dumpoff") word ≡ false → Quiet (mark_step way s word)
quiet-mark {W = W} way s word h e =
    let off : (way.rules.tells_holes && same (codes "$dumpoff") word) ≡ false =
    ap (λ x. way.rules.tells_holes && x) e ∙ and-false way.rules.tells_holes in
    let on : (way.rules.tells_holes && (s.is_off && same (codes "$dumpon") word)) ≡ false =
    ap (λ x. way.rules.tells_holes && (x && same (codes "$dumpon") word)) h ∙ and-false way.rules.tells_holes in
    let one : mark_step way s word ≡ reads_past s =
    λ i. if off i then stops way s else (if on i then resumes way s else reads_past s) in
    record {
      is_off = ap (λ (y : Step W). y.state.is_off) one ∙ h;
      plain = ap (λ (y : Step W). list_all is_plain y.happenings) one;
    }

quiet-value : {W : Type 0} (way : Way W) (s : DumpState W) (t : Token) (w : ValueWord) → s.is_off ≡ false
    → same (codes "$dumpoff") t.word ≡ false → Quiet (value_step way s t w)
quiet-value way s t (Stamp time) h e = quiet-stamp s t.place time s.time h
quiet-value way s t (Scalar digit code) h e = quiet-scalar way s t.place digit (way.taps s.header code) h
quiet-value way s t (Vector digits) h e = record { is_off = h; plain = refl }
quiet-value way s t Foreign h e = record { is_off = h; plain = refl }
quiet-value way s t Mark h e = quiet-mark way s t.word h e
quiet-value way s t Section h e = record { is_off = h; plain = refl }
quiet-value way s t Wrong h e = record { is_off = h; plain = refl }

quiet-at : {W : Type 0} (way : Way W) (spot : Spot) (s : DumpState W) (t : Token) → s.is_off ≡ false
    → same (codes "$dumpoff") t.word ≡ false → Quiet (step_at way spot s t)
quiet-at way AtPreface s t h e =
    let word = header_step s t (header_word t.word) in
    quiet-if (is_dollar t.word) (if_short s t word) (reads_past s)
    (quiet-if (is_long t.word) (breaks s t.place causes.Token) word (quiet-breaks s t h)
    (quiet-word s t (header_word t.word) h)) (record { is_off = h; plain = refl })
quiet-at way AtHeader s t h e =
    quiet-if (is_long t.word) (breaks s t.place causes.Token) (header_step s t (header_word t.word)) (quiet-breaks s t h)
    (quiet-word s t (header_word t.word) h)
quiet-at way (InSection section) s t h e =
    let w = header_word section.keyword in
    let more = moves_to s (InSection (with_word section t.word)) in
    quiet-if (is_long t.word && is_declaring w) (breaks s t.place causes.Token)
    (if is_end t.word then section_end way s section w else more) (quiet-breaks s t h)
    (quiet-if (is_end t.word) (section_end way s section w) more (quiet-end way s section w h)
    (record { is_off = h; plain = refl }))
quiet-at way AtValues s t h e =
    let w = value_word_by way.rules t.word in
    quiet-if (not (way.rules.takes_any && may_be_long w) && is_long t.word) (breaks s t.place causes.Token)
    (value_step way s t w) (quiet-breaks s t h) (quiet-value way s t w h e)
quiet-at way (AtCode from digits) s t h e =
    let taps = way.taps s.header t.word in
    quiet-if (is_long t.word) (breaks s t.place causes.Token) (vector_step way s t.place from digits taps)
    (quiet-breaks s t h) (quiet-vector way s t.place from digits taps h)
quiet-at way (AtOtherCode from) s t h e =
    let taps = way.taps s.header t.word in
    quiet-if (is_long t.word) (breaks s t.place causes.Token) (other_step s t.place taps) (quiet-breaks s t h)
    (quiet-other s t.place taps h)
quiet-at way (InRemark section) s t h e =
    quiet-if (is_end t.word) (moves_to (record s { remarks = s.remarks ++ section ∷ [] }) AtValues)
    (moves_to s (InRemark (with_word section t.word))) (record { is_off = h; plain = refl })
    (record { is_off = h; plain = refl })

quiet-step : {W : Type 0} (way : Way W) (s : DumpState W) (t : Token) → s.is_off ≡ false
    → same (codes "$dumpoff") t.word ≡ false → Quiet (step way s t)
unfolding step
quiet-step way s t h e =
    quiet-if (is_some s.fault) (reads_past s) (step_at way s.spot s t) (record { is_off = h; plain = refl })
    (quiet-at way s.spot s t h e)

-- no token is `$dumpoff`
abbrev has_no_off : List Token → Bool
has_no_off ts = list_all (λ (t : Token). not (same (codes "$dumpoff") t.word)) ts

plain-both : (hs js : List Happening) → list_all is_plain hs ≡ true → list_all is_plain js ≡ true
    → list_all is_plain (hs ++ js) ≡ true
plain-both [] js p q = q
plain-both (h ∷ hs) js p q =
    let parts = and_parts (is_plain h) (list_all is_plain hs) p in
    λ i. parts.0 i && plain-both hs js parts.1 q i

quiet-tokens : {W : Type 0} (way : Way W) (s : DumpState W) (ts : List Token) → s.is_off ≡ false
    → has_no_off ts ≡ true → list_all is_plain (happenings_in way s ts) ≡ true
quiet-tokens way s [] h e = refl
quiet-tokens way s (t ∷ ts) h e =
    let parts = and_parts (not (same (codes "$dumpoff") t.word)) (has_no_off ts) e in
    let one = quiet-step way s t h (not-true (same (codes "$dumpoff") t.word) parts.0) in
    plain-both (step way s t).happenings (happenings_in way (step way s t).state ts) one.plain
    (quiet-tokens way (step way s t).state ts one.is_off parts.1)

all-sampled : (a b : Bool) (x y : DumpEvent) (rest : List DumpEvent) → is_sampled x ≡ true → is_sampled y ≡ true
    → list_all is_sampled rest ≡ true
    → list_all is_sampled ((if a then x ∷ [] else (if b then y ∷ [] else [])) ++ rest) ≡ true
all-sampled true b x y rest p q r = λ i. p i && r i
all-sampled false true x y rest p q r = λ i. q i && r i
all-sampled false false x y rest p q r = r

block-sampled : (m : ValueRules) (c : Course) (stamp : Option TimeStamp) (after : Values) (rest : List DumpEvent)
    → list_all is_sampled rest ≡ true → list_all is_sampled (sample_in_block m c stamp after ++ rest) ≡ true
block-sampled m c stamp after rest r =
    all-sampled (c.is_seen && is_edge m.edge (clock_of c.values) (clock_of after))
    (m.takes_first && not c.is_seen && (clock_of after == digit_after m.edge))
    (Sampled (sample_of (sampled m.late c.values after)) stamp)
    (Sampled (sample_of (sampled m.late (at_first_edge stamp c.values after) after)) stamp) rest refl refl r

-- what is told of it
no-hole : (m : ValueRules) (c : Course) (stamp : Option TimeStamp) (block : List TapChange) (hs : List Happening)
    → list_all is_plain hs ≡ true → list_all is_sampled (events_from m c (pieces_from stamp block hs)) ≡ true
no-hole m c stamp block [] h = block-sampled m c stamp (values_after c.values block) [] refl
no-hole m c stamp block (Comes next ∷ hs) h =
    let after = values_after c.values block in
    block-sampled m c stamp after (events_from m (course_after c after) (pieces_from (Some next) [] hs))
    (no-hole m (course_after c after) (Some next) [] hs h)
no-hole m c stamp block (Gets change ∷ hs) h = no-hole m c stamp (block ++ change ∷ []) hs h
no-hole m c stamp block (Switches switch lines ∷ hs) h = cc h

pub quiet-text : (l : Lines) (t : Taps) (early : Bool) (text : List ℕ) → first_fault_by strict text ≡ None
    → TakesAllOf l t early text → never_stops text ≡ true
    → list_all is_sampled (events_by (taking l t early) text) ≡ true
quiet-text l t early text h takes n =
    let way = taking l t early in
    let hs = happenings_in way (first_state way) (tokens_of text) in
    subst (λ es. list_all is_sampled es ≡ true) (sym (whole-events l t early text h takes))
    (no-hole (usual_rules early) course_at_first None [] hs (quiet-tokens way (first_state way) (tokens_of text) refl n))
