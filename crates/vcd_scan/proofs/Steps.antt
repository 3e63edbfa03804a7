-- What a token does in its place, and a value for some taps.
use Rattle.std.proofs.Common.{◌≡◌, ℕ, ◌≤◌, Bool, true, false, ◌&&◌, ◌||◌, if◌then◌else◌, nat_lt, nat_le, List, [], ◌∷◌, length}
use Rattle.std.proofs.Common.{Option, Some, None, option_map, suc, refl, sym, ap, ◌∙◌, arith}
use Rattle.std.specs.List.{list_all, list_any}
use Rattle.std.proofs.Common.{not, ◌==◌, is_some, inl, inr}
use Rattle.std.proofs.lemmas.Bool.{and_parts, leb-true, le-ltb, true≢false}
use Rattle.std.proofs.lemmas.Bool.Decides.{eqb_tells}
use Rattle.vcd_grammar.specs.Words.{is_dollar, is_read_past, scalar_word, Mark, Section}
use Rattle.vcd_way.specs.Wide.{wide_digit}
use Rattle.vcd_grammar.specs.declared.fault.VcdCause.TheVariants as causes
use Rattle.vcd_grammar.specs.Tokens.{Token, is_long}
use Rattle.vcd_way.specs.declared.tap.Tap.{Tap}
use Rattle.vcd_way.specs.Ways.{ValueRules}
use Rattle.vcd_way.specs.Pieces.{Gets}
use Rattle.vcd_way.specs.Lawful.{is_line, is_lawful_tap, is_part_within}
use Rattle.fsb_signal.specs.DumpText.{width_of}
use Rattle.vcd_way.specs.Steps.{Spot, AtValues, DumpState, step, step_at, breaks, given, if_short, vector_step, vector_digits}
use Rattle.vcd_way.specs.Steps.{is_too_wide_for, is_unreadable, digits_by, one_more}
use Rattle.vcd_way.specs.Steps.{InRemark, Step, section_at, moves_to, word_step, value_word_by}
use Rattle.vcd_scan.specs.Erased.{opens_remark}
use Rattle.vcd_way.proofs.Interface.{sound-step}
use Rattle.vcd_scan.specs.Digits.{digit_by, all_digits}
use Rattle.vcd_scan.specs.Wired.{Wiring, wired}

pub step_is : (m : ValueRules) (s : DumpState Wiring) (t : Token) (spot : Spot) → s.fault ≡ None → s.spot ≡ spot
    → step (wired m) s t ≡ step_at (wired m) spot s t
step_is m s t spot n e = sound-step (wired m) s t n ∙ ap (λ x. step_at (wired m) x s t) e

-- ---- one digit

-- one digit is not too wide for a tap that has bits
pub scalar_fits : (taps : List Tap) (d : ℕ) → list_all is_lawful_tap taps ≡ true → is_too_wide_for taps (d ∷ []) ≡ false
scalar_fits [] d h = refl
scalar_fits (tap ∷ taps) d h =
    let both = and_parts (is_lawful_tap tap) (list_all is_lawful_tap taps) h in
    let inner = (and_parts (is_line tap.line) (nat_le 1 tap.width && is_part_within tap.part tap.width (width_of tap.line)) both.0).1 in
    let some = (and_parts (nat_le 1 tap.width) (is_part_within tap.part tap.width (width_of tap.line)) inner).0 in
    let first : nat_lt tap.width 1 ≡ false = le-ltb tap.width 1 (leb-true 1 tap.width some) in
    λ i. first i || scalar_fits taps d both.1 i

-- ---- a vector

pub digits_same : (m : ValueRules) (is_wide : Bool) (bs : List ℕ) → m.digit ≡ digit_by is_wide
    → digits_by m bs ≡ all_digits is_wide bs
digits_same m is_wide [] h = refl
digits_same m is_wide (b ∷ bs) h = λ i. one_more (h i b) (digits_same m is_wide bs h i)

some_inner : (a b : List ℕ) → Some a ≡ Some b → a ≡ b
some_inner a b h = cc

more_length : (d : Option ℕ) (r : Option (List ℕ)) (n : ℕ) (ds : List ℕ) → one_more d r ≡ Some ds
    → ((es : List ℕ) → r ≡ Some es → length es ≡ n) → length ds ≡ suc n
more_length None r n ds h rest = absurd cc
more_length (Some x) None n ds h rest = absurd cc
more_length (Some x) (Some es) n ds h rest =
    let e : x ∷ es ≡ ds = some_inner (x ∷ es) ds h in
    omega (arith, ap length e, rest es refl)

digits_length : (m : ValueRules) (bs ds : List ℕ) → digits_by m bs ≡ Some ds → length ds ≡ length bs
digits_length m [] ds h = let e : [] ≡ ds = some_inner [] ds h in sym (ap length e)
digits_length m (b ∷ bs) ds h = more_length (m.digit b) (digits_by m bs) (length bs) ds h (λ es k. digits_length m bs es k)

vector_length : (b : Bool) (m : ValueRules) (bs ds : List ℕ) → (if b then None else digits_by m bs) ≡ Some ds
    → length ds ≡ length bs
vector_length true m bs ds h = absurd cc
vector_length false m bs ds h = digits_length m bs ds h

-- the digits that are meant are no wider
pub meant_fits : (m : ValueRules) (taps : List Tap) (bs ds : List ℕ) → vector_digits m bs ≡ Some ds
    → is_too_wide_for taps bs ≡ false → is_too_wide_for taps ds ≡ false
meant_fits m taps bs ds h k =
    ap (λ n. list_any (λ (tap : Tap). nat_lt tap.width n) taps) (vector_length (m.takes_any && is_unreadable bs) m bs ds h) ∙ k

-- a code that was declared, after a vector that is not too wide
pub vector_there : (m : ValueRules) (s : DumpState Wiring) (t : Token) (from : ℕ) (digits : List ℕ)
    (found : Option (List Tap)) (taps : List Tap) (v : Option (List ℕ)) → is_long t.word ≡ false → found ≡ Some taps
    → is_too_wide_for taps digits ≡ false → vector_digits m digits ≡ v
    → if_short s t (vector_step (wired m) s t.place from digits found) ≡ given s from taps v
vector_there m s t from digits found taps v short is narrow meant =
    ap (λ b. if b then breaks s t.place causes.Token else vector_step (wired m) s t.place from digits found) short
    ∙ ap (vector_step (wired m) s t.place from digits) is
    ∙ ap (λ b. if b then breaks s from causes.Width else given s from taps (vector_digits m digits)) narrow
    ∙ ap (given s from taps) meant

pub given_bad : (s : DumpState Wiring) (from : ℕ) (taps : List Tap) → 1 ≤ length taps
    → given s from taps None ≡ breaks s from causes.Token
given_bad s from [] h = absurd (omega (arith, h))
given_bad s from (tap ∷ taps) h = refl

pub given_good : (s : DumpState Wiring) (from : ℕ) (taps : List Tap) (ds : List ℕ)
    → given s from taps (Some ds)
    ≡ record { state = record s { spot = AtValues }; happenings = Gets (record { taps = taps; digits = ds }) ∷ [] }
given_good s from [] ds = refl
given_good s from (tap ∷ taps) ds = refl

-- the taps that were found
pub found_taps : {R : Type 0} (now : R → List Tap) (found : Option (List Tap)) (result : Option R) (taps : R)
    → option_map now result ≡ found → result ≡ Some taps → found ≡ Some (now taps)
found_taps now found result taps h e = sym h ∙ ap (option_map now) e

-- ---- a section that opens between values

remark_first : (is_wide : Bool) (m : ValueRules) (bs : List ℕ) → m.digit ≡ digit_by is_wide
    → is_read_past (36 ∷ bs) ≡ false → value_word_by m (36 ∷ bs) ≡ Section
unfolding value_word_by wide_digit
remark_first true m bs d h =
    (λ i. if is_some (d i 36) then scalar_word 36 bs
    else (if is_read_past (36 ∷ bs) then Mark else Section))
    ∙ ap (λ b. if b then Mark else Section) h
remark_first false m bs d h =
    (λ i. if is_some (d i 36) then scalar_word 36 bs
    else (if is_read_past (36 ∷ bs) then Mark else Section))
    ∙ ap (λ b. if b then Mark else Section) h

-- the two parts of a word that opens no section
stays_parts : (d l p : Bool) → (d && not (l || p)) ≡ false → d ≡ true → (l || p) ≡ true
stays_parts true true p h e = refl
stays_parts true false true h e = refl
stays_parts true false false h e = sym h
stays_parts false l p h e = absurd (true≢false (sym e))

pub stays_dollar : (word : List ℕ) (b : ℕ) (bs : List ℕ) → word ≡ b ∷ bs → opens_remark word ≡ false → b ≡ 36
    → (is_long word || is_read_past word) ≡ true
stays_dollar word b bs is stays first =
    stays_parts (is_dollar word) (is_long word) (is_read_past word) stays
    (ap is_dollar is ∙ ap (λ k. k == 36) first)

word_short : {W : Type 0} (takes long : Bool) (x y : Step W) → long ≡ false
    → (if not (takes && false) && long then x else y) ≡ y
word_short true true x y h = absurd (true≢false h)
word_short true false x y h = refl
word_short false true x y h = absurd (true≢false h)
word_short false false x y h = refl

opens_parts : (d l p : Bool) → (d && not (l || p)) ≡ true → (d ≡ true) × ((l ≡ false) × (p ≡ false))
opens_parts true true p h = absurd (true≢false (sym h))
opens_parts true false true h = absurd (true≢false (sym h))
opens_parts true false false h = (refl, (refl, refl))
opens_parts false l p h = absurd (true≢false (sym h))

remark_word : (is_wide : Bool) (m : ValueRules) (word : List ℕ) → m.digit ≡ digit_by is_wide
    → is_dollar word ≡ true → is_read_past word ≡ false → value_word_by m word ≡ Section
remark_word is_wide m [] d h e = absurd (true≢false (sym h))
remark_word is_wide m (b ∷ bs) d h e =
    elim (eqb_tells b 36) [
      | inl here ↦ ap (λ k. value_word_by m (k ∷ bs)) here.1
          ∙ remark_first is_wide m bs d (ap (λ k. is_read_past (k ∷ bs)) (sym here.1) ∙ e)
      | inr other ↦ absurd (true≢false (sym h ∙ other.0))
    ]

-- what such a word does
pub opens_step : (is_wide : Bool) (m : ValueRules) (s : DumpState Wiring) (t : Token) → m.digit ≡ digit_by is_wide
    → opens_remark t.word ≡ true
    → word_step (wired m) s t (value_word_by m t.word) ≡ moves_to s (InRemark (section_at t))
opens_step is_wide m s t d h =
    let parts = opens_parts (is_dollar t.word) (is_long t.word) (is_read_past t.word) h in
    ap (word_step (wired m) s t) (remark_word is_wide m t.word d parts.0 parts.1.1)
    ∙ word_short m.takes_any (is_long t.word) _ _ parts.1.0
