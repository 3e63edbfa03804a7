-- In every way, what is kept of the header is known from the `$end` of its `$enddefinitions` on, and stays; before that no
-- piece is over.
use Rattle.std.proofs.Common.{◌≡◌, ℕ, Bool, true, false, not, ◌&&◌, ◌||◌, ◌==◌, if◌then◌else◌, is_some, List, [], ◌∷◌, ◌++◌}
use Rattle.std.proofs.Common.{length, codes, nat_eq, nat_lt, Option, Some, None, refl, sym, ap, subst, ◌∙◌, arith}
use Rattle.std.specs.List.{list_all}
use Rattle.std.specs.Cmp.Lexicographic.{same_text}
use Rattle.std.proofs.lemmas.Bool.{eqb-true}
use Rattle.vcd_grammar.specs.declared.fault.VcdFault.{VcdFault}
use Rattle.vcd_grammar.specs.declared.fault.VcdCause.{VcdCause}
use Rattle.vcd_grammar.specs.declared.fault.VcdCause.TheVariants as causes
use Rattle.vcd_grammar.specs.Tokens.{Token, is_long, open_run, ended_at, tokens_from, tokens_of, tokens_so_far}
use Rattle.vcd_grammar.specs.Words.{HeaderWord, Declares, Finishes, Ends, Opens, Bare, header_word, is_dollar, is_end}
use Rattle.vcd_grammar.specs.Words.{ValueWord, Stamp, Scalar, Vector, Foreign, Mark, Section, Wrong, same}
use Rattle.vcd_grammar.specs.Heading.{Heading, Between, Inside, Ending, Over, behind_word, behind_token, heading_behind}
use Rattle.vcd_grammar.specs.Heading.{is_over, is_header_over}
use Rattle.vcd_grammar.proofs.Interface.{tokens-append}
use Rattle.vcd_way.specs.Declarations.{DumpSection, Declaration, declaration_of, with_word}
use Rattle.vcd_way.specs.declared.tap.Tap.{Tap}
use Rattle.vcd_way.specs.Ways.{Kept, Keeps, Refuses, Way}
use Rattle.vcd_way.specs.Pieces.{Stamp as TimeStamp, TapChange, Happening, Comes, Gets, Switches, pieces_from, over}
use Rattle.vcd_way.specs.Steps.{Spot, AtPreface, AtHeader, InSection, AtValues, AtCode, AtOtherCode, InRemark, DumpState}
use Rattle.vcd_way.specs.Steps.{first_state, Step, reads_past, moves_to, breaks, if_short, header_step}
use Rattle.vcd_way.specs.Steps.{unknown_from_here, kept_step, declared_step, section_end, is_declaring}
use Rattle.vcd_way.specs.Steps.{digits_by, value_word_by, comes, stamp_step, given, scalar_step, is_too_wide_for, vector_step}
use Rattle.vcd_way.specs.Steps.{other_step, mark_step, value_step, step_at, step, state_after, happenings_in}
use Rattle.vcd_way.specs.Steps.{is_past_header_at, vector_digits, may_be_long, stops, resumes}
use Rattle.vcd_way.specs.Answers.{state_of, header_in, header_by, header_so_far_by, header_at_end_by, events_so_far_by}
use Rattle.vcd_way.specs.Events.{course_at_first, events_from}

-- the state at a spot
abbrev pub placed : {W : Type 0} → DumpState W → Spot → DumpState W
placed s spot = record s { spot = spot }

-- ---- behind the header

-- the header is over, and what is kept of it stays
pub record Stays {W : Type 0} (s : DumpState W) (y : Step W) : Type 0 where
  pub header : y.state.header ≡ s.header
  pub past : is_past_header_at y.state.spot ≡ true

stays-if : {W : Type 0} (s : DumpState W) (b : Bool) (x y : Step W) → Stays s x → Stays s y → Stays s (if b then x else y)
stays-if s true x y p q = p
stays-if s false x y p q = q

stays-same : {W : Type 0} (s : DumpState W) → is_past_header_at s.spot ≡ true → Stays s (reads_past s)
stays-same s h = record { header = refl; past = h }

stays-breaks : {W : Type 0} (s : DumpState W) (place : ℕ) (cause : VcdCause) → is_past_header_at s.spot ≡ true
    → Stays s (breaks s place cause)
stays-breaks s place cause h = record { header = refl; past = h }

stays-stamp : {W : Type 0} (s : DumpState W) (place time : ℕ) (last : Option ℕ) → is_past_header_at s.spot ≡ true
    → Stays s (stamp_step s place time last)
stays-stamp s place time None h = record { header = refl; past = h }
stays-stamp s place time (Some last) h =
    stays-if s (nat_lt time last) (breaks s place causes.TimeBack)
    (if nat_lt last time then comes s place time else reads_past s) (stays-breaks s place causes.TimeBack h)
    (stays-if s (nat_lt last time) (comes s place time) (reads_past s) (record { header = refl; past = h })
    (stays-same s h))

stays-given : {W : Type 0} (s : DumpState W) (place : ℕ) (taps : List Tap) (digits : Option (List ℕ))
    → is_past_header_at s.spot ≡ true → Stays s (given s place taps digits)
stays-given s place taps (Some digits) h = record { header = refl; past = refl }
stays-given s place [] None h = record { header = refl; past = refl }
stays-given s place (tap ∷ taps) None h = stays-breaks s place causes.Token h

stays-scalar : {W : Type 0} (way : Way W) (s : DumpState W) (place digit : ℕ) (taps : Option (List Tap))
    → is_past_header_at s.spot ≡ true → Stays s (scalar_step way s place digit taps)
stays-scalar way s place digit None h = stays-breaks s place causes.Code h
stays-scalar way s place digit (Some taps) h = stays-given s place taps (digits_by way.rules (digit ∷ [])) h

stays-vector : {W : Type 0} (way : Way W) (s : DumpState W) (place from : ℕ) (digits : List ℕ) (taps : Option (List Tap))
    → is_past_header_at s.spot ≡ true → Stays s (vector_step way s place from digits taps)
stays-vector way s place from digits None h = stays-breaks s place causes.Code h
stays-vector way s place from digits (Some taps) h =
    stays-if s (is_too_wide_for taps digits) (breaks s from causes.Width)
    (given s from taps (vector_digits way.rules digits)) (stays-breaks s from causes.Width h)
    (stays-given s from taps (vector_digits way.rules digits) h)

stays-other : {W : Type 0} (s : DumpState W) (place : ℕ) (taps : Option (List Tap)) → is_past_header_at s.spot ≡ true
    → Stays s (other_step s place taps)
stays-other s place None h = stays-breaks s place causes.Code h
stays-other s place (Some taps) h = record { header = refl; past = refl }

stays-mark : {W : Type 0} (way : Way W) (s : DumpState W) (word : List ℕ) → is_past_header_at s.spot ≡ true
    → Stays s (mark_step way s word)
stays-mark way s word h =
    let on = way.rules.tells_holes && (s.is_off && same (codes "$dumpon") word) in
    stays-if s (way.rules.tells_holes && same (codes "$dumpoff") word) (stops way s)
    (if on then resumes way s else reads_past s) (record { header = refl; past = h })
    (stays-if s on (resumes way s) (reads_past s) (record { header = refl; past = h }) (stays-same s h))

stays-value : {W : Type 0} (way : Way W) (s : DumpState W) (t : Token) (w : ValueWord) → is_past_header_at s.spot ≡ true
    → Stays s (value_step way s t w)
stays-value way s t (Stamp time) h = stays-stamp s t.place time s.time h
stays-value way s t (Scalar digit code) h = stays-scalar way s t.place digit (way.taps s.header code) h
stays-value way s t (Vector digits) h = record { header = refl; past = refl }
stays-value way s t Foreign h = record { header = refl; past = refl }
stays-value way s t Mark h = stays-mark way s t.word h
stays-value way s t Section h = record { header = refl; past = refl }
stays-value way s t Wrong h = stays-breaks s t.place causes.Token h

stays-short : {W : Type 0} (s : DumpState W) (t : Token) (y : Step W) → is_past_header_at s.spot ≡ true → Stays s y
    → Stays s (if_short s t y)
stays-short s t y h p = stays-if s (is_long t.word) (breaks s t.place causes.Token) y (stays-breaks s t.place causes.Token h) p

stays-at : {W : Type 0} (way : Way W) (spot : Spot) (s : DumpState W) (t : Token) → is_past_header_at spot ≡ true
    → Stays (placed s spot) (step_at way spot (placed s spot) t)
stays-at way AtPreface s t h = cc h
stays-at way AtHeader s t h = cc h
stays-at way (InSection section) s t h = cc h
stays-at way AtValues s t h =
    let w = value_word_by way.rules t.word in
    stays-if (placed s AtValues) (not (way.rules.takes_any && may_be_long w) && is_long t.word)
    (breaks (placed s AtValues) t.place causes.Token) (value_step way (placed s AtValues) t w)
    (stays-breaks (placed s AtValues) t.place causes.Token refl) (stays-value way (placed s AtValues) t w refl)
stays-at way (AtCode from digits) s t h =
    let p = placed s (AtCode from digits) in
    stays-short p t (vector_step way p t.place from digits (way.taps s.header t.word)) refl
    (stays-vector way p t.place from digits (way.taps s.header t.word) refl)
stays-at way (AtOtherCode from) s t h =
    let p = placed s (AtOtherCode from) in
    stays-short p t (other_step p t.place (way.taps s.header t.word)) refl
    (stays-other p t.place (way.taps s.header t.word) refl)
stays-at way (InRemark section) s t h =
    let p = placed s (InRemark section) in
    stays-if p (is_end t.word) (moves_to (record p { remarks = s.remarks ++ section ∷ [] }) AtValues)
    (moves_to p (InRemark (with_word section t.word))) (record { header = refl; past = refl })
    (record { header = refl; past = refl })

past-if : {W : Type 0} (s : DumpState W) (y : Step W) (f : Bool) → is_past_header_at s.spot ≡ true → Stays s y
    → is_past_header_at (if f then reads_past s else y).state.spot ≡ true
past-if s y true h p = h
past-if s y false h p = p.past

past-step : {W : Type 0} (way : Way W) (s : DumpState W) (t : Token) → is_past_header_at s.spot ≡ true
    → is_past_header_at (step way s t).state.spot ≡ true
unfolding step
past-step way s t h = past-if s (step_at way s.spot s t) (is_some s.fault) h (stays-at way s.spot s t h)

-- once the header is over, it stays so
pub past-behind : {W : Type 0} (way : Way W) (s : DumpState W) (ts : List Token) → is_past_header_at s.spot ≡ true
    → is_past_header_at (state_after way s ts).spot ≡ true
past-behind way s [] h = h
past-behind way s (t ∷ ts) h = past-behind way (step way s t).state ts (past-step way s t h)

fault-step : {W : Type 0} (way : Way W) (s : DumpState W) (t : Token) → is_some s.fault ≡ true
    → (step way s t).state ≡ s
unfolding step
fault-step way s t h = ap (λ b. (if b then reads_past s else step_at way s.spot s t).state) h

-- after a fault nothing changes
pub fault-behind : {W : Type 0} (way : Way W) (s : DumpState W) (ts : List Token) → is_some s.fault ≡ true
    → state_after way s ts ≡ s
fault-behind way s [] h = refl
fault-behind way s (t ∷ ts) h =
    let e = fault-step way s t h in
    ap (λ r. state_after way r ts) e ∙ fault-behind way s ts h

-- a token where there is no fault before it
pub sound-step : {W : Type 0} (way : Way W) (s : DumpState W) (t : Token) → s.fault ≡ None
    → step way s t ≡ step_at way s.spot s t
unfolding step
sound-step way s t h = ap (λ f. if is_some f then reads_past s else step_at way s.spot s t) h

-- nothing more is kept of the header: it is over, or there is a fault
abbrev Done : {W : Type 0} → DumpState W → Type 0
Done s = (is_some s.fault || is_past_header_at s.spot) ≡ true

record StaysDone {W : Type 0} (s r : DumpState W) : Type 0 where
  header : r.header ≡ s.header
  done : Done r

done-past : (f p : Bool) → p ≡ true → (f || p) ≡ true
done-past true p e = refl
done-past false p e = e

done-if : {W : Type 0} (s : DumpState W) (y : Step W) (f : Bool) → is_some s.fault ≡ f
    → (f ≡ false → Stays s y) → (f || is_past_header_at s.spot) ≡ true
    → StaysDone s (if f then reads_past s else y).state
done-if s y true e h d = record { header = refl; done = ap (λ x. x || is_past_header_at s.spot) e }
done-if s y false e h d =
    let p = h refl in
    record { header = p.header; done = done-past (is_some y.state.fault) (is_past_header_at y.state.spot) p.past }

or-second : (f p : Bool) → f ≡ false → (f || p) ≡ true → p ≡ true
or-second true p e d = cc e
or-second false p e d = d

done-step : {W : Type 0} (way : Way W) (s : DumpState W) (t : Token) → Done s → StaysDone s (step way s t).state
unfolding step
done-step way s t d =
    done-if s (step_at way s.spot s t) (is_some s.fault) refl
    (λ e. stays-at way s.spot s t (or-second (is_some s.fault) (is_past_header_at s.spot) e d)) d

done-behind : {W : Type 0} (way : Way W) (s : DumpState W) (ts : List Token) → Done s → StaysDone s (state_after way s ts)
done-behind way s [] d = record { header = refl; done = d }
done-behind way s (t ∷ ts) d =
    let p = done-step way s t d in
    let q = done-behind way (step way s t).state ts p.done in
    record { header = q.header ∙ p.header; done = q.done }

-- ---- where a spot stands in the header

abbrev section_heading : HeaderWord → Heading
section_heading Declares = Inside
section_heading Finishes = Ending
section_heading Ends = Inside
section_heading Opens = Inside
section_heading Bare = Inside

abbrev heading_at : Spot → Heading
heading_at AtPreface = Between
heading_at AtHeader = Between
heading_at (InSection section) = section_heading (header_word section.keyword)
heading_at AtValues = Over
heading_at (AtCode place digits) = Over
heading_at (AtOtherCode place) = Over
heading_at (InRemark section) = Over

abbrev heading : {W : Type 0} → Step W → Heading
heading y = heading_at y.state.spot

both : {W : Type 0} (b : Bool) (x y : Step W) (h j : Heading) → heading x ≡ h → heading y ≡ j
    → heading (if b then x else y) ≡ (if b then h else j)
both true x y h j e f = e
both false x y h j e f = f

either : {W : Type 0} (b : Bool) (x y : Step W) (h : Heading) → heading x ≡ h → heading y ≡ h
    → heading (if b then x else y) ≡ h
either true x y h e f = e
either false x y h e f = f

kept-heading : {W : Type 0} (s : DumpState W) (place : ℕ) (kept : Kept W) → heading (kept_step s place kept) ≡ heading_at s.spot
kept-heading s place (Keeps header lines) = refl
kept-heading s place (Refuses cause) = refl

declared-heading : {W : Type 0} (way : Way W) (s : DumpState W) (place : ℕ) (d : Option Declaration)
    → heading (declared_step way s place d) ≡ heading_at s.spot
declared-heading way s place None = refl
declared-heading way s place (Some d) = kept-heading s place (way.declares s.header d)

word-heading : {W : Type 0} (s : DumpState W) (t : Token) (w : HeaderWord) → header_word t.word ≡ w
    → heading_at s.spot ≡ Between → heading (header_step s t w) ≡ behind_word w
word-heading s t Declares e h = rw e refl
word-heading s t Finishes e h = rw e refl
word-heading s t Ends e h = refl
word-heading s t Opens e h = rw e refl
word-heading s t Bare e h = h

-- a word without `$` opens no section
bare_byte : (b : ℕ) → (b == 36) ≡ false → nat_eq 36 b ≡ false
bare_byte b h = by (nat_eq 36 b) refl
  where
    by : (x : Bool) → nat_eq 36 b ≡ x → x ≡ false
    by true e = let n : b ≡ 36 = sym (eqb-true 36 b e) in
        let wrong : true ≡ false = sym (ap (λ k. k == 36) n) ∙ h in cc wrong
    by false e = refl

bare : (word : List ℕ) → is_dollar word ≡ false → header_word word ≡ Bare
unfolding header_word
bare [] h = refl
bare (b ∷ bs) h = let e = bare_byte b h in rw (e, h) refl

over_at : (spot : Spot) → is_past_header_at spot ≡ true → heading_at spot ≡ Over
over_at AtPreface h = cc h
over_at AtHeader h = cc h
over_at (InSection section) h = cc h
over_at AtValues h = refl
over_at (AtCode place digits) h = refl
over_at (AtOtherCode place) h = refl
over_at (InRemark section) h = refl

-- the `$end` of a section is not too long
end_short : (word : List ℕ) → is_end word ≡ true → is_long word ≡ false
end_short word h = subst (λ w. is_long w ≡ false) (same_text (codes "$end") word (sym h)) refl

plain_preface : (word : List ℕ) (b : Bool) (long : Bool) → is_dollar word ≡ false
    → Between ≡ (if long then Between else behind_word (header_word word))
plain_preface word b true h = refl
plain_preface word b false h = rw (bare word h) refl

preface-heading : {W : Type 0} (s : DumpState W) (t : Token) (b : Bool) → is_dollar t.word ≡ b
    → heading_at s.spot ≡ Between
    → heading (if b then if_short s t (header_step s t (header_word t.word)) else reads_past s) ≡ behind_token Between t
preface-heading s t true e h =
    both (is_long t.word) (breaks s t.place causes.Token) (header_step s t (header_word t.word)) Between
    (behind_word (header_word t.word)) h (word-heading s t (header_word t.word) refl h)
preface-heading s t false e h = h ∙ plain_preface t.word false (is_long t.word) e

section-heading : {W : Type 0} (way : Way W) (s : DumpState W) (section : DumpSection) (t : Token) (w : HeaderWord)
    (long last : Bool) → header_word section.keyword ≡ w → s.spot ≡ InSection section → (last ≡ true → long ≡ false)
    → heading
    (if long && is_declaring w then breaks s t.place causes.Token
    else (if last then section_end way s section w else moves_to s (InSection (with_word section t.word))))
    ≡ elim w as (λ x. Heading) [
      | Declares ↦ if last then Between else Inside
      | Finishes ↦ if last then Over else Ending
      | Ends ↦ if last then Between else Inside
      | Opens ↦ if last then Between else Inside
      | Bare ↦ if last then Between else Inside
    ]
section-heading way s section t Declares true true e f g = let wrong = g refl in cc wrong
section-heading way s section t Declares true false e f g = ap heading_at f ∙ ap section_heading e
section-heading way s section t Declares false true e f g =
    declared-heading way (placed s AtHeader) section.place (declaration_of way.rules.widest s.path section)
section-heading way s section t Declares false false e f g = ap section_heading e
section-heading way s section t Finishes true true e f g = kept-heading (placed s AtValues) section.place (way.closes s.header)
section-heading way s section t Finishes false true e f g =
    kept-heading (placed s AtValues) section.place (way.closes s.header)
section-heading way s section t Finishes true false e f g = ap section_heading e
section-heading way s section t Finishes false false e f g = ap section_heading e
section-heading way s section t Ends true true e f g = refl
section-heading way s section t Ends false true e f g = refl
section-heading way s section t Ends true false e f g = ap section_heading e
section-heading way s section t Ends false false e f g = ap section_heading e
section-heading way s section t Opens true true e f g = refl
section-heading way s section t Opens false true e f g = refl
section-heading way s section t Opens true false e f g = ap section_heading e
section-heading way s section t Opens false false e f g = ap section_heading e
section-heading way s section t Bare true true e f g = refl
section-heading way s section t Bare false true e f g = refl
section-heading way s section t Bare true false e f g = ap section_heading e
section-heading way s section t Bare false false e f g = ap section_heading e

section-over : (w : HeaderWord) (t : Token)
    → elim w as (λ x. Heading) [
      | Declares ↦ if is_end t.word then Between else Inside
      | Finishes ↦ if is_end t.word then Over else Ending
      | Ends ↦ if is_end t.word then Between else Inside
      | Opens ↦ if is_end t.word then Between else Inside
      | Bare ↦ if is_end t.word then Between else Inside
    ] ≡ behind_token (section_heading w) t
section-over Declares t = refl
section-over Finishes t = refl
section-over Ends t = refl
section-over Opens t = refl
section-over Bare t = refl

past-heading : {W : Type 0} (way : Way W) (spot : Spot) (s : DumpState W) (t : Token) → is_past_header_at spot ≡ true
    → heading (step_at way spot (placed s spot) t) ≡ Over
past-heading way spot s t h = over_at (step_at way spot (placed s spot) t).state.spot (stays-at way spot s t h).past

heading-at : {W : Type 0} (way : Way W) (spot : Spot) (s : DumpState W) (t : Token)
    → heading (step_at way spot (placed s spot) t) ≡ behind_token (heading_at spot) t
heading-at way AtPreface s t = preface-heading (placed s AtPreface) t (is_dollar t.word) refl refl
heading-at way AtHeader s t =
    both (is_long t.word) (breaks (placed s AtHeader) t.place causes.Token)
    (header_step (placed s AtHeader) t (header_word t.word)) Between (behind_word (header_word t.word)) refl
    (word-heading (placed s AtHeader) t (header_word t.word) refl refl)
heading-at way (InSection section) s t =
    section-heading way (placed s (InSection section)) section t (header_word section.keyword) (is_long t.word)
    (is_end t.word) refl refl (end_short t.word) ∙ section-over (header_word section.keyword) t
heading-at way AtValues s t = past-heading way AtValues s t refl
heading-at way (AtCode from digits) s t = past-heading way (AtCode from digits) s t refl
heading-at way (AtOtherCode from) s t = past-heading way (AtOtherCode from) s t refl
heading-at way (InRemark section) s t = past-heading way (InRemark section) s t refl

-- without a fault the state stands here in the header
abbrev Heads : {W : Type 0} → DumpState W → Heading → Type 0
Heads s h = s.fault ≡ None → heading_at s.spot ≡ h

heads-if : {W : Type 0} (s : DumpState W) (y : Step W) (f : Option VcdFault) (h j : Heading) → s.fault ≡ f
    → (s.fault ≡ None → heading y ≡ j) → Heads (if is_some f then reads_past s else y).state j
heads-if s y None h j e p n = p e
heads-if s y (Some fault) h j e p n = let wrong = sym n ∙ e in cc wrong

heads-step : {W : Type 0} (way : Way W) (s : DumpState W) (t : Token) (h : Heading) → Heads s h
    → Heads (step way s t).state (behind_token h t)
unfolding step
heads-step way s t h p =
    heads-if s (step_at way s.spot s t) s.fault h (behind_token h t) refl
    (λ n. heading-at way s.spot s t ∙ ap (λ x. behind_token x t) (p n))

heads-behind : {W : Type 0} (way : Way W) (s : DumpState W) (ts : List Token) (h : Heading) → Heads s h
    → Heads (state_after way s ts) (heading_behind h ts)
heads-behind way s [] h p = p
heads-behind way s (t ∷ ts) h p = heads-behind way (step way s t).state ts (behind_token h t) (heads-step way s t h p)

first-heads : {W : Type 0} (way : Way W) → Heads (first_state way) Between
first-heads way n = by way.rules.skips_preface
  where
    by : (b : Bool) → heading_at (if b then AtPreface else AtHeader) ≡ Between
    by true = refl
    by false = refl

-- where the header is over, nothing more is kept
past_at : (spot : Spot) (h : Heading) → heading_at spot ≡ h → is_over h ≡ true → is_past_header_at spot ≡ true
past_at AtPreface h e o = let wrong = ap is_over e ∙ o in cc wrong
past_at AtHeader h e o = let wrong = ap is_over e ∙ o in cc wrong
past_at (InSection section) h e o = by (header_word section.keyword) (ap is_over e ∙ o)
  where
    by : (w : HeaderWord) → is_over (section_heading w) ≡ true → false ≡ true
    by Declares k = k
    by Finishes k = k
    by Ends k = k
    by Opens k = k
    by Bare k = k
past_at AtValues h e o = refl
past_at (AtCode place digits) h e o = refl
past_at (AtOtherCode place) h e o = refl
past_at (InRemark section) h e o = refl

done_where : {W : Type 0} (s : DumpState W) (h : Heading) (f : Option VcdFault) → s.fault ≡ f → Heads s h
    → is_over h ≡ true → Done s
done_where s h None e p o =
    done-past (is_some s.fault) (is_past_header_at s.spot) (past_at s.spot h (p e) o)
done_where s h (Some fault) e p o = ap (λ x. is_some x || is_past_header_at s.spot) e

done-of : {W : Type 0} (way : Way W) (ts : List Token) → is_header_over ts ≡ true → Done (state_of way ts)
done-of way ts o =
    done_where (state_of way ts) (heading_behind Between ts) (state_of way ts).fault refl
    (heads-behind way (first_state way) ts Between (first-heads way)) o

-- ---- before the end of the header

-- it is a change
abbrev is_change : Happening → Bool
is_change (Comes stamp) = false
is_change (Gets change) = true
is_change (Switches switch lines) = false

-- no time comes, and there is no hole
abbrev Calm : List Happening → Type 0
Calm hs = list_all is_change hs ≡ true

calm-if : {W : Type 0} (b : Bool) (x y : Step W) → Calm x.happenings → Calm y.happenings
    → Calm (if b then x else y).happenings
calm-if true x y p q = p
calm-if false x y p q = q

calm-unknown : (lines : List ℕ) → Calm (unknown_from_here lines)
calm-unknown [] = refl
calm-unknown (number ∷ lines) = refl

calm-kept : {W : Type 0} (s : DumpState W) (place : ℕ) (kept : Kept W) → Calm (kept_step s place kept).happenings
calm-kept s place (Keeps header lines) = calm-unknown lines
calm-kept s place (Refuses cause) = refl

calm-declared : {W : Type 0} (way : Way W) (s : DumpState W) (place : ℕ) (d : Option Declaration)
    → Calm (declared_step way s place d).happenings
calm-declared way s place None = refl
calm-declared way s place (Some d) = calm-kept s place (way.declares s.header d)

calm-header : {W : Type 0} (s : DumpState W) (t : Token) (w : HeaderWord) → Calm (header_step s t w).happenings
calm-header s t Declares = refl
calm-header s t Finishes = refl
calm-header s t Ends = refl
calm-header s t Opens = refl
calm-header s t Bare = refl

calm-short : {W : Type 0} (s : DumpState W) (t : Token) (y : Step W) → Calm y.happenings → Calm (if_short s t y).happenings
calm-short s t y p = calm-if (is_long t.word) (breaks s t.place causes.Token) y refl p

calm-end : {W : Type 0} (way : Way W) (s : DumpState W) (section : DumpSection) (w : HeaderWord)
    → Calm (section_end way s section w).happenings
calm-end way s section Declares =
    calm-declared way (placed s AtHeader) section.place (declaration_of way.rules.widest s.path section)
calm-end way s section Finishes = calm-kept (placed s AtValues) section.place (way.closes s.header)
calm-end way s section Ends = refl
calm-end way s section Opens = refl
calm-end way s section Bare = refl

calm-at : {W : Type 0} (way : Way W) (spot : Spot) (s : DumpState W) (t : Token) → is_past_header_at spot ≡ false
    → Calm (step_at way spot (placed s spot) t).happenings
calm-at way AtPreface s t h =
    let p = placed s AtPreface in
    calm-if (is_dollar t.word) (if_short p t (header_step p t (header_word t.word))) (reads_past p)
    (calm-short p t (header_step p t (header_word t.word)) (calm-header p t (header_word t.word))) refl
calm-at way AtHeader s t h =
    let p = placed s AtHeader in
    calm-short p t (header_step p t (header_word t.word)) (calm-header p t (header_word t.word))
calm-at way (InSection section) s t h =
    let p = placed s (InSection section) in
    let w = header_word section.keyword in
    calm-if (is_long t.word && is_declaring w) (breaks p t.place causes.Token)
    (if is_end t.word then section_end way p section w else moves_to p (InSection (with_word section t.word))) refl
    (calm-if (is_end t.word) (section_end way p section w) (moves_to p (InSection (with_word section t.word)))
    (calm-end way p section w) refl)
calm-at way AtValues s t h = cc h
calm-at way (AtCode from digits) s t h = cc h
calm-at way (AtOtherCode from) s t h = cc h
calm-at way (InRemark section) s t h = cc h

before_at : (spot : Spot) (h : Heading) → heading_at spot ≡ h → is_over h ≡ false → is_past_header_at spot ≡ false
before_at AtPreface h e o = refl
before_at AtHeader h e o = refl
before_at (InSection section) h e o = refl
before_at AtValues h e o = let wrong = ap is_over e ∙ o in cc wrong
before_at (AtCode place digits) h e o = let wrong = ap is_over e ∙ o in cc wrong
before_at (AtOtherCode place) h e o = let wrong = ap is_over e ∙ o in cc wrong
before_at (InRemark section) h e o = let wrong = ap is_over e ∙ o in cc wrong

calm-fault : {W : Type 0} (s : DumpState W) (y : Step W) (f : Option VcdFault) → (f ≡ None → Calm y.happenings)
    → Calm (if is_some f then reads_past s else y).happenings
calm-fault s y None p = p refl
calm-fault s y (Some fault) p = refl

calm-step : {W : Type 0} (way : Way W) (s : DumpState W) (t : Token) (h : Heading) → Heads s h → is_over h ≡ false
    → Calm (step way s t).happenings
unfolding step
calm-step way s t h p o =
    calm-fault s (step_at way s.spot s t) s.fault (λ n. calm-at way s.spot s t (before_at s.spot h (p n) o))

calm-append : (a b : List Happening) → Calm a → Calm b → Calm (a ++ b)
calm-append [] b p q = q
calm-append (Comes stamp ∷ a) b p q = cc p
calm-append (Gets change ∷ a) b p q = calm-append a b p q
calm-append (Switches switch lines ∷ a) b p q = cc p

-- the header stays over
over-behind : (ts : List Token) → is_over (heading_behind Over ts) ≡ true
over-behind [] = refl
over-behind (t ∷ ts) = over-behind ts

over-stays : (h : Heading) (ts : List Token) → is_over h ≡ true → is_over (heading_behind h ts) ≡ true
over-stays Between ts o = cc o
over-stays Inside ts o = cc o
over-stays Ending ts o = cc o
over-stays Over ts o = over-behind ts

not_before : (h : Heading) (ts : List Token) → is_over (heading_behind h ts) ≡ false → is_over h ≡ false
not_before h ts o = by (is_over h) refl
  where
    by : (b : Bool) → is_over h ≡ b → b ≡ false
    by true e = let wrong = sym (over-stays h ts e) ∙ o in cc wrong
    by false e = refl

calm-behind : {W : Type 0} (way : Way W) (s : DumpState W) (ts : List Token) (h : Heading) → Heads s h
    → is_over (heading_behind h ts) ≡ false → Calm (happenings_in way s ts)
calm-behind way s [] h p o = refl
calm-behind way s (t ∷ ts) h p o =
    calm-append (step way s t).happenings (happenings_in way (step way s t).state ts)
    (calm-step way s t h p (not_before h (t ∷ ts) o))
    (calm-behind way (step way s t).state ts (behind_token h t) (heads-step way s t h p) o)

-- no piece is over
none_over : (stamp : Option TimeStamp) (block : List TapChange) (hs : List Happening) → Calm hs
    → over (pieces_from stamp block hs) ≡ []
none_over stamp block [] h = refl
none_over stamp block (Comes next ∷ hs) h = cc h
none_over stamp block (Gets change ∷ hs) h = none_over stamp (block ++ change ∷ []) hs h
none_over stamp block (Switches switch lines ∷ hs) h = cc h

-- ---- what first bytes show

no_header : {A : Type 0} (b : Bool) (a : A) → (if b then Some a else None) ≡ None → b ≡ false
no_header true a e = cc e
no_header false a e = refl

a_header : {A : Type 0} (b : Bool) (a x : A) → (if b then Some a else None) ≡ Some x → (b ≡ true) × (a ≡ x)
a_header true a x e = (refl, cc e)
a_header false a x e = cc e

pub header-first : {W : Type 0} (way : Way W) (fed : List ℕ) → header_so_far_by way fed ≡ None
    → events_so_far_by way fed ≡ []
unfolding header_so_far_by events_so_far_by
header-first way fed e =
    let tokens = tokens_so_far fed in
    let before = no_header (is_header_over tokens) (state_of way tokens).header e in
    ap (λ ps. events_from way.rules course_at_first ps)
    (none_over None [] (happenings_in way (first_state way) tokens)
    (calm-behind way (first_state way) tokens Between (first-heads way) before))

pub state-append : {W : Type 0} (way : Way W) (s : DumpState W) (ts us : List Token)
    → state_after way s (ts ++ us) ≡ state_after way (state_after way s ts) us
state-append way s [] us = refl
state-append way s (t ∷ ts) us = state-append way (step way s t).state ts us

heading-append : (h : Heading) (ts us : List Token) → heading_behind h (ts ++ us) ≡ heading_behind (heading_behind h ts) us
heading-append h [] us = refl
heading-append h (t ∷ ts) us = heading-append (behind_token h t) ts us

-- further tokens change nothing that is kept of the header
record MoreTokens {W : Type 0} (way : Way W) (ts us : List Token) : Type 0 where
  over : is_header_over (ts ++ us) ≡ true
  header : (state_of way (ts ++ us)).header ≡ (state_of way ts).header

more_tokens : {W : Type 0} (way : Way W) (ts us : List Token) → is_header_over ts ≡ true → MoreTokens way ts us
more_tokens {W = W} way ts us o = record {
  over = ap is_over (heading-append Between ts us) ∙ over-stays (heading_behind Between ts) us o;
  header = ap (λ (s : DumpState W). s.header) (state-append way (first_state way) ts us)
      ∙ (done-behind way (state_of way ts) us (done-of way ts o)).header;
}

header-in-more : {W : Type 0} (way : Way W) (ts us : List Token) (h : W) → header_in way ts ≡ Some h
    → (header_in way (ts ++ us) ≡ Some h) × ((state_of way (ts ++ us)).header ≡ h)
header-in-more way ts us h e =
    let here = a_header (is_header_over ts) (state_of way ts).header h e in
    let more = more_tokens way ts us here.0 in
    let same = more.header ∙ here.1 in
    (ap (λ b. if b then Some (state_of way (ts ++ us)).header else None) more.over ∙ ap Some same, same)

-- the tokens of a longer text
pub tokens_longer : (fed more : List ℕ)
    → tokens_so_far (fed ++ more) ≡ tokens_so_far fed ++ tokens_from (length fed) (open_run fed) more
tokens_longer fed more = tokens-append 0 [] fed more
    ∙ ap (λ n. tokens_so_far fed ++ tokens_from n (open_run fed) more) (omega arith)

pub header-longer : {W : Type 0} (way : Way W) (fed more : List ℕ) (h : W) → header_so_far_by way fed ≡ Some h
    → header_so_far_by way (fed ++ more) ≡ Some h
unfolding header_so_far_by
header-longer way fed more h e =
    ap (header_in way) (tokens_longer fed more)
    ∙ (header-in-more way (tokens_so_far fed) (tokens_from (length fed) (open_run fed) more) h e).0

pub header-ended : {W : Type 0} (way : Way W) (text : List ℕ) (h : W) → header_so_far_by way text ≡ Some h
    → header_at_end_by way text ≡ Some h
unfolding header_so_far_by header_at_end_by
header-ended way text h e =
    (header-in-more way (tokens_so_far text) (ended_at (length text) (open_run text)) h e).0

pub header-whole : {W : Type 0} (way : Way W) (fed more : List ℕ) (h : W) → header_so_far_by way fed ≡ Some h
    → header_by way (fed ++ more) ≡ h
unfolding header_so_far_by header_by
header-whole way fed more h e =
    let text = fed ++ more in
    (header-in-more way (tokens_so_far text) (ended_at (length text) (open_run text)) h
    (ap (header_in way) (tokens_longer fed more)
    ∙ (header-in-more way (tokens_so_far fed) (tokens_from (length fed) (open_run fed) more) h e).0)).1

known-over : {A : Type 0} (b : Bool) (a : A) → is_some (if b then Some a else None) ≡ b
known-over true a = refl
known-over false a = refl

pub header-known : {W : Type 0} (way : Way W) (fed : List ℕ)
    → is_some (header_so_far_by way fed) ≡ is_header_over (tokens_so_far fed)
unfolding header_so_far_by
header-known way fed = known-over (is_header_over (tokens_so_far fed)) (state_of way (tokens_so_far fed)).header

pub header-known-at-end : {W : Type 0} (way : Way W) (text : List ℕ)
    → is_some (header_at_end_by way text) ≡ is_header_over (tokens_of text)
unfolding header_at_end_by
header-known-at-end way text = known-over (is_header_over (tokens_of text)) (state_of way (tokens_of text)).header
