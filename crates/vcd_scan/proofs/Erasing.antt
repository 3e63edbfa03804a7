-- No step behind a header asks for the sections that were read past, nor for the words of the open one,
-- and what is kept of them is as much as a step needs to keep as much.
use Rattle.std.proofs.Common.{◌≡◌, ℕ, Bool, true, false, not, ◌&&◌, ◌||◌, if◌then◌else◌, nat_lt, is_some, List, [], ◌∷◌, ◌++◌, codes}
use Rattle.std.proofs.Common.{Option, Some, None, refl, sym, ap, ap₂, ◌∙◌}
use Rattle.std.specs.List.{list_any}
use Rattle.std.proofs.lemmas.List.Folds.{list_any-append}
use Rattle.std.proofs.Math.Bool.{or-false}
use Rattle.vcd_grammar.specs.declared.fault.VcdFault.{VcdFault}
use Rattle.vcd_grammar.specs.declared.fault.VcdCause.{VcdCause}
use Rattle.vcd_grammar.specs.declared.fault.VcdCause.TheVariants as causes
use Rattle.vcd_grammar.specs.Tokens.{Token, is_long}
use Rattle.vcd_grammar.specs.Words.{ValueWord, Stamp, Scalar, Vector, Foreign, Mark, Section, Wrong, same, is_end}
use Rattle.vcd_way.specs.declared.tap.Tap.{Tap}
use Rattle.vcd_way.specs.Ways.{Way}
use Rattle.vcd_way.specs.Declarations.{DumpSection, with_word}
use Rattle.vcd_way.specs.Steps.{Spot, AtPreface, AtHeader, InSection, AtValues, AtCode, AtOtherCode, InRemark, DumpState, Step}
use Rattle.vcd_way.specs.Steps.{breaks, reads_past, moves_to, stamp_step, comes, given, scalar_step, vector_step, other_step}
use Rattle.vcd_way.specs.Steps.{mark_step, stops, resumes, value_step, remark_step, value_word_by}
use Rattle.vcd_way.specs.Steps.{step, step_at, is_past_header_at, is_too_wide_for, vector_digits, digits_by, may_be_long}
use Rattle.vcd_way.specs.Steps.{state_after, happenings_in, is_like_stamp, hides_stamp, open_from}
use Rattle.vcd_way.specs.Answers.{fault_at_end}
use Rattle.vcd_way.proofs.Interface.{past-behind}
use Rattle.vcd_scan.specs.declared.heard.Heard.{Heard}
use Rattle.vcd_scan.specs.Limits.{is_limit, is_exceeded, tells_limit, first_limit}
use Rattle.vcd_scan.specs.Erased.{heard_in, words_heard, heard_with, section_from, section_erased, remarks_from, spot_erased, erased}

-- ---- what is kept of sections

heard-by : (a b c : Bool) → heard_in (words_heard (record { stamp = a; limit = b; exceeded = c }))
    ≡ record { stamp = a; limit = b; exceeded = c }
heard-by true true true = refl
heard-by true true false = refl
heard-by true false true = refl
heard-by true false false = refl
heard-by false true true = refl
heard-by false true false = refl
heard-by false false true = refl
heard-by false false false = refl

pub heard-again : (h : Heard) → heard_in (words_heard h) ≡ h
heard-again h = heard-by h.stamp h.limit h.exceeded

pub heard-more : (words : List (List ℕ)) (word : List ℕ) → heard_in (words ++ word ∷ []) ≡ heard_with (heard_in words) word
heard-more words word = λ i. record {
  stamp = one is_like_stamp i;
  limit = one is_limit i;
  exceeded = one is_exceeded i;
}
  where
    one : (test : List ℕ → Bool) → list_any test (words ++ word ∷ []) ≡ (list_any test words || test word)
    one test = list_any-append test words (word ∷ []) ∙ ap (λ b. list_any test words || b) (or-false (test word))

pub limit-again : (limit : Option ℕ) → first_limit (remarks_from limit) ≡ limit
limit-again None = refl
limit-again (Some place) = refl

limit-push : (sections : List DumpSection) (section : DumpSection)
    → first_limit (sections ++ section ∷ [])
    ≡ first_limit (remarks_from (first_limit sections) ++ section_erased section ∷ [])
limit-push [] section =
    ap (λ h. if h.limit && h.exceeded then Some section.place else None) (sym (heard-again (heard_in section.words)))
limit-push (first ∷ sections) section = by (tells_limit first) (limit-push sections section)
  where
    by : (b : Bool) → first_limit (sections ++ section ∷ [])
        ≡ first_limit (remarks_from (first_limit sections) ++ section_erased section ∷ [])
        → (if b then Some first.place else first_limit (sections ++ section ∷ []))
        ≡ first_limit (remarks_from (if b then Some first.place else first_limit sections) ++ section_erased section ∷ [])
    by true rest = refl
    by false rest = rest

remarks-twice : (sections : List DumpSection)
    → remarks_from (first_limit (remarks_from (first_limit sections))) ≡ remarks_from (first_limit sections)
remarks-twice sections = ap remarks_from (limit-again (first_limit sections))

remarks-push : (sections : List DumpSection) (section : DumpSection)
    → remarks_from (first_limit (remarks_from (first_limit sections) ++ section_erased section ∷ []))
    ≡ remarks_from (first_limit (sections ++ section ∷ []))
remarks-push sections section = ap remarks_from (sym (limit-push sections section))

-- ---- where the next token stands

spot-twice : (spot : Spot) → spot_erased (spot_erased spot) ≡ spot_erased spot
spot-twice AtPreface = refl
spot-twice AtHeader = refl
spot-twice (InSection section) = refl
spot-twice AtValues = refl
spot-twice (AtCode from digits) = refl
spot-twice (AtOtherCode from) = refl
spot-twice (InRemark section) =
    ap (λ h. InRemark (section_from section.place h)) (heard-again (heard_in section.words))

pub hides-alike : (spot : Spot) → hides_stamp (spot_erased spot) ≡ hides_stamp spot
hides-alike AtPreface = refl
hides-alike AtHeader = refl
hides-alike (InSection section) = refl
hides-alike AtValues = refl
hides-alike (AtCode from digits) = refl
hides-alike (AtOtherCode from) = refl
hides-alike (InRemark section) = ap (λ (h : Heard). h.stamp) (heard-again (heard_in section.words))

pub open-alike : (spot : Spot) → open_from (spot_erased spot) ≡ open_from spot
open-alike AtPreface = refl
open-alike AtHeader = refl
open-alike (InSection section) = refl
open-alike AtValues = refl
open-alike (AtCode from digits) = refl
open-alike (AtOtherCode from) = refl
open-alike (InRemark section) = refl

pub end-alike : (fault : Option VcdFault) (spot : Spot) (place : ℕ)
    → fault_at_end fault (spot_erased spot) place ≡ fault_at_end fault spot place
end-alike (Some fault) spot place = refl
end-alike None AtPreface place = refl
end-alike None AtHeader place = refl
end-alike None (InSection section) place = refl
end-alike None AtValues place = refl
end-alike None (AtCode from digits) place = refl
end-alike None (AtOtherCode from) place = refl
end-alike None (InRemark section) place = refl

past-alike : (spot : Spot) → is_past_header_at spot ≡ true → is_past_header_at (spot_erased spot) ≡ true
past-alike AtPreface h = h
past-alike AtHeader h = h
past-alike (InSection section) h = h
past-alike AtValues h = refl
past-alike (AtCode from digits) h = refl
past-alike (AtOtherCode from) h = refl
past-alike (InRemark section) h = refl

-- ---- one token

-- two steps that leave the same but for what is erased
pub record Alike {W : Type 0} (x y : Step W) : Type 0 where
  pub state : erased x.state ≡ erased y.state
  pub happenings : x.happenings ≡ y.happenings

module _ {W : Type 0} (s : DumpState W) where
  alike-breaks : (place : ℕ) (cause : VcdCause) → Alike (breaks (erased s) place cause) (breaks s place cause)
  alike-breaks place cause = record {
    state = λ i. record (erased s) {
      fault = Some (record { place = place; cause = cause });
      spot = spot-twice s.spot i;
      remarks = remarks-twice s.remarks i;
    };
    happenings = refl;
  }

  alike-past : Alike (reads_past (erased s)) (reads_past s)
  alike-past = record { state = λ i. record (erased s) { spot = spot-twice s.spot i; remarks = remarks-twice s.remarks i }; happenings = refl }

  alike-moves : (spot : Spot) → Alike (moves_to (erased s) spot) (moves_to s spot)
  alike-moves spot = record {
    state = λ i. record (erased s) { spot = spot_erased spot; remarks = remarks-twice s.remarks i };
    happenings = refl;
  }

  alike-comes : (place time : ℕ) → Alike (comes (erased s) place time) (comes s place time)
  alike-comes place time = record {
    state = λ i. record (erased s) { time = Some time; spot = spot-twice s.spot i; remarks = remarks-twice s.remarks i };
    happenings = refl;
  }

alike-if : {W : Type 0} (b : Bool) (x u y v : Step W) → Alike x u → Alike y v
    → Alike (if b then x else y) (if b then u else v)
alike-if true x u y v p q = p
alike-if false x u y v p q = q

alike-stamp : {W : Type 0} (s : DumpState W) (place time : ℕ) (last : Option ℕ)
    → Alike (stamp_step (erased s) place time last) (stamp_step s place time last)
alike-stamp s place time None = alike-comes s place time
alike-stamp s place time (Some last) =
    alike-if (nat_lt time last) _ _ _ _ (alike-breaks s place causes.TimeBack)
    (alike-if (nat_lt last time) _ _ _ _ (alike-comes s place time) (alike-past s))

alike-given : {W : Type 0} (s : DumpState W) (place : ℕ) (taps : List Tap) (digits : Option (List ℕ))
    → Alike (given (erased s) place taps digits) (given s place taps digits)
alike-given s place taps (Some digits) = record {
  state = λ i. record (erased s) { spot = AtValues; remarks = remarks-twice s.remarks i };
  happenings = refl;
}
alike-given s place [] None = alike-moves s AtValues
alike-given s place (tap ∷ taps) None = alike-breaks s place causes.Token

alike-scalar : {W : Type 0} (way : Way W) (s : DumpState W) (place digit : ℕ) (taps : Option (List Tap))
    → Alike (scalar_step way (erased s) place digit taps) (scalar_step way s place digit taps)
alike-scalar way s place digit None = alike-breaks s place causes.Code
alike-scalar way s place digit (Some taps) = alike-given s place taps (digits_by way.rules (digit ∷ []))

alike-vector : {W : Type 0} (way : Way W) (s : DumpState W) (place from : ℕ) (digits : List ℕ) (taps : Option (List Tap))
    → Alike (vector_step way (erased s) place from digits taps) (vector_step way s place from digits taps)
alike-vector way s place from digits None = alike-breaks s place causes.Code
alike-vector way s place from digits (Some taps) =
    alike-if (is_too_wide_for taps digits) _ _ _ _ (alike-breaks s from causes.Width)
    (alike-given s from taps (vector_digits way.rules digits))

alike-other : {W : Type 0} (s : DumpState W) (place : ℕ) (taps : Option (List Tap))
    → Alike (other_step (erased s) place taps) (other_step s place taps)
alike-other s place None = alike-breaks s place causes.Code
alike-other s place (Some taps) = alike-moves s AtValues

alike-stops : {W : Type 0} (way : Way W) (s : DumpState W) → Alike (stops way (erased s)) (stops way s)
alike-stops way s = record {
  state = λ i. record (erased s) { is_off = true; spot = spot-twice s.spot i; remarks = remarks-twice s.remarks i };
  happenings = refl;
}

alike-resumes : {W : Type 0} (way : Way W) (s : DumpState W) → Alike (resumes way (erased s)) (resumes way s)
alike-resumes way s = record {
  state = λ i. record (erased s) { is_off = false; spot = spot-twice s.spot i; remarks = remarks-twice s.remarks i };
  happenings = refl;
}

alike-mark : {W : Type 0} (way : Way W) (s : DumpState W) (word : List ℕ)
    → Alike (mark_step way (erased s) word) (mark_step way s word)
alike-mark way s word =
    alike-if (way.rules.tells_holes && same (codes "$dumpoff") word) _ _ _ _ (alike-stops way s)
    (alike-if (way.rules.tells_holes && (s.is_off && same (codes "$dumpon") word)) _ _ _ _ (alike-resumes way s)
    (alike-past s))

alike-value : {W : Type 0} (way : Way W) (s : DumpState W) (t : Token) (w : ValueWord)
    → Alike (value_step way (erased s) t w) (value_step way s t w)
alike-value way s t (Stamp time) = alike-stamp s t.place time s.time
alike-value way s t (Scalar digit code) = alike-scalar way s t.place digit (way.taps s.header code)
alike-value way s t (Vector digits) = alike-moves s (AtCode t.place digits)
alike-value way s t Foreign = alike-moves s (AtOtherCode t.place)
alike-value way s t Mark = alike-mark way s t.word
alike-value way s t Section = alike-moves s (InRemark (record { place = t.place; keyword = t.word; words = [] }))
alike-value way s t Wrong = alike-breaks s t.place causes.Token

-- a further word of a section
word-alike : (section : DumpSection) (word : List ℕ)
    → spot_erased (InRemark (with_word (section_erased section) word)) ≡ spot_erased (InRemark (with_word section word))
word-alike section word =
    let heard = heard_in section.words in
    ap (λ h. InRemark (section_from section.place h))
    (heard-more (words_heard heard) word
    ∙ ap (λ h. heard_with h word) (heard-again heard)
    ∙ sym (heard-more section.words word))

alike-remark : {W : Type 0} (s : DumpState W) (section : DumpSection) (t : Token)
    → Alike (remark_step (erased s) (section_erased section) t) (remark_step s section t)
alike-remark s section t =
    alike-if (is_end t.word) _ _ _ _
    (record {
      state = λ i. record (erased s) { spot = AtValues; remarks = remarks-push s.remarks section i };
      happenings = refl;
    })
    (record {
      state = λ i. record (erased s) {
        spot = word-alike section t.word i;
        remarks = remarks-twice s.remarks i;
      };
      happenings = refl;
    })

-- behind the header
alike-at : {W : Type 0} (way : Way W) (spot : Spot) (s : DumpState W) (t : Token) → is_past_header_at spot ≡ true
    → Alike (step_at way (spot_erased spot) (erased s) t) (step_at way spot s t)
alike-at way AtPreface s t p = absurd (let no : ⊥ = cc in no)
alike-at way AtHeader s t p = absurd (let no : ⊥ = cc in no)
alike-at way (InSection section) s t p = absurd (let no : ⊥ = cc in no)
alike-at way AtValues s t p =
    let w = value_word_by way.rules t.word in
    alike-if (not (way.rules.takes_any && may_be_long w) && is_long t.word) _ _ _ _ (alike-breaks s t.place causes.Token)
    (alike-value way s t w)
alike-at way (AtCode from digits) s t p =
    alike-if (is_long t.word) _ _ _ _ (alike-breaks s t.place causes.Token)
    (alike-vector way s t.place from digits (way.taps s.header t.word))
alike-at way (AtOtherCode from) s t p =
    alike-if (is_long t.word) _ _ _ _ (alike-breaks s t.place causes.Token)
    (alike-other s t.place (way.taps s.header t.word))
alike-at way (InRemark section) s t p = alike-remark s section t

alike-step : {W : Type 0} (way : Way W) (s : DumpState W) (t : Token) → is_past_header_at s.spot ≡ true
    → Alike (step way (erased s) t) (step way s t)
unfolding step
alike-step way s t p = alike-if (is_some s.fault) _ _ _ _ (alike-past s) (alike-at way s.spot s t p)

-- ---- several tokens

pub state-alike : {W : Type 0} (way : Way W) (s : DumpState W) (ts : List Token) → is_past_header_at s.spot ≡ true
    → erased (state_after way (erased s) ts) ≡ erased (state_after way s ts)
state-alike way s [] p = λ i. record (erased s) { spot = spot-twice s.spot i; remarks = remarks-twice s.remarks i }
state-alike way s (t ∷ ts) p =
    let x = (step way (erased s) t).state in
    let y = (step way s t).state in
    sym (state-alike way x ts (past-behind way (erased s) (t ∷ []) (past-alike s.spot p)))
    ∙ ap (λ e. erased (state_after way e ts)) (alike-step way s t p).state
    ∙ state-alike way y ts (past-behind way s (t ∷ []) p)

pub happenings-alike : {W : Type 0} (way : Way W) (s : DumpState W) (ts : List Token) → is_past_header_at s.spot ≡ true
    → happenings_in way (erased s) ts ≡ happenings_in way s ts
happenings-alike way s [] p = refl
happenings-alike way s (t ∷ ts) p =
    let x = (step way (erased s) t).state in
    let y = (step way s t).state in
    ap₂ (λ hs more. hs ++ more) (alike-step way s t p).happenings
    (sym (happenings-alike way x ts (past-behind way (erased s) (t ∷ []) (past-alike s.spot p)))
    ∙ ap (λ e. happenings_in way e ts) (alike-step way s t p).state
    ∙ happenings-alike way y ts (past-behind way s (t ∷ []) p))
