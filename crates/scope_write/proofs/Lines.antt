-- The digits of all lines, and what changes make of them.
use Rattle.std.proofs.Common.{◌≡◌, ℕ, zero, suc, ◌+◌, ◌<◌, Bool, true, false, not, List, [], ◌∷◌, length, map}
use Rattle.std.proofs.Common.{set, get_or, refl, sym, ap, ◌∙◌, arith, Option, Some, None, replicate}
use Rattle.std.specs.Prelude.{◌&&◌, if◌then◌else◌, slice_set}
use Rattle.std.proofs.Math.Path.{ap₂}
use Rattle.std.proofs.lemmas.Bool.{eqb-true, and_parts}
use Rattle.fsb_signal.specs.declared.sample.Sample.{Sample}
use Rattle.fsb_signal.specs.DumpText.{width_of, value_of, texts_from}
use Rattle.vcd_grammar.specs.Digits.{extended}
use Rattle.vcd_grammar.specs.Blocks.{Change}
use Rattle.vcd_grammar.specs.Values.{Values, at_first, values_behind}
use Rattle.vcd_laws.proofs.Pieces.{Does, does-nothing, does-both}
use Rattle.vcd_laws.proofs.Known.{sets, changed, next, none}
use Rattle.vcd_laws.proofs.Lines.{mixed, values_behind-append, changed-append, changes_of}
use Rattle.scope_write.specs.Text.{is_written, unknown_of, shown_digits, is_same, has_changed, shown_value, shown_change}
use Rattle.scope_write.proofs.Entries.{shown}
use Rattle.scope_write.proofs.Changes.{extended-shown_digits, an_entry, does-value}
use Rattle.scope_write.proofs.Declaring.{unknown_if, unknown_below}

-- ---- lists of which the first elements are those of another

set-mixed : {X : Type 0} (new old : List X) (n : ℕ) (x : X) → n < length new → n < length old
    → get_or new n x ≡ x → set (mixed new old n) n x ≡ mixed new old (suc n)
set-mixed [] old n x h k e = absurd (omega (arith, h))
set-mixed (y ∷ new) [] n x h k e = absurd (omega (arith, k))
set-mixed (y ∷ new) (z ∷ old) zero x h k e = ap (λ v. v ∷ old) (sym e)
set-mixed (y ∷ new) (z ∷ old) (suc n) x h k e =
    ap (λ v. y ∷ v) (set-mixed new old n x (omega (arith, h)) (omega (arith, k)) e)

same-mixed : {X : Type 0} (new old : List X) (n : ℕ) (x : X) → n < length new → n < length old
    → get_or new n x ≡ x → get_or old n x ≡ x → mixed new old n ≡ mixed new old (suc n)
same-mixed [] old n x h k e f = absurd (omega (arith, h))
same-mixed (y ∷ new) [] n x h k e f = absurd (omega (arith, k))
same-mixed (y ∷ new) (z ∷ old) zero x h k e f = ap (λ v. v ∷ old) (f ∙ sym e)
same-mixed (y ∷ new) (z ∷ old) (suc n) x h k e f =
    ap (λ v. y ∷ v) (same-mixed new old n x (omega (arith, h)) (omega (arith, k)) e f)

-- ---- the digits of all lines

-- the numbers of the lines
abbrev pub all_numbers : List ℕ
all_numbers = 0 ∷ 1 ∷ 2 ∷ 3 ∷ 4 ∷ 5 ∷ 6 ∷ 7 ∷ 8 ∷ 9 ∷ 10 ∷ 11 ∷ 12 ∷ 13 ∷ 14 ∷ 15 ∷ 16 ∷ 17 ∷ 18 ∷ 19 ∷ 20 ∷ 21 ∷ []

-- the digits of each line, by its number
abbrev pub by_number : (ℕ → List ℕ) → Values
by_number f = map f all_numbers

get-by_number : (f : ℕ → List ℕ) (d : List ℕ) (n : ℕ) → n < 22 → get_or (by_number f) n d ≡ f n
get-by_number f d =
    next _ 21 refl
    (next _ 20 refl
    (next _ 19 refl
    (next _ 18 refl
    (next _ 17 refl
    (next _ 16 refl
    (next _ 15 refl
    (next _ 14 refl
    (next _ 13 refl
    (next _ 12 refl
    (next _ 11 refl
    (next _ 10 refl
    (next _ 9 refl
    (next _ 8 refl
    (next _ 7 refl
    (next _ 6 refl
    (next _ 5 refl
    (next _ 4 refl
    (next _ 3 refl
    (next _ 2 refl
    (next _ 1 refl
    (next _ 0 refl (none _))))))))))))))))))))))

-- one line gets its new digits
set-line : (new old : ℕ → List ℕ) (n : ℕ) (digits : List ℕ) → n < 22 → extended (width_of n) digits ≡ new n →
    values_behind (mixed (by_number new) (by_number old) n) (sets n digits ∷ [])
    ≡ mixed (by_number new) (by_number old) (suc n)
set-line new old n digits h is =
    ap (λ x. slice_set (mixed (by_number new) (by_number old) n) n x) is
    ∙ set-mixed (by_number new) (by_number old) n (new n) h h (get-by_number new (new n) n h)

-- one line has them already
keep-line : (new old : ℕ → List ℕ) (n : ℕ) → n < 22 → old n ≡ new n →
    mixed (by_number new) (by_number old) n ≡ mixed (by_number new) (by_number old) (suc n)
keep-line new old n h is =
    same-mixed (by_number new) (by_number old) n (new n) h h (get-by_number new (new n) n h)
    (get-by_number old (new n) n h ∙ is)

-- ---- before the first value

-- a line that is written is unknown, and another is not asserted
abbrev pub initial : List Bool → ℕ → List ℕ
initial there n = if is_written there n then extended (width_of n) (120 ∷ []) else replicate (width_of n) 49

first-idle : at_first ≡ by_number (λ n. replicate (width_of n) 49)
first-idle = refl

behind-unknown : (there : List Bool) (n : ℕ) → n < 23 →
    values_behind (by_number (λ n. replicate (width_of n) 49)) (unknown_below there n)
    ≡ mixed (by_number (initial there)) (by_number (λ n. replicate (width_of n) 49)) n
unfolding unknown_below
behind-unknown there zero h = refl
behind-unknown there (suc n) h =
    values_behind-append (by_number (λ n. replicate (width_of n) 49)) (unknown_below there n) (unknown_if there n)
    ∙ ap (λ v. values_behind v (unknown_if there n)) (behind-unknown there n (omega (arith, h)))
    ∙ by (is_written there n) refl
  where
    idle : ℕ → List ℕ
    idle n = replicate (width_of n) 49

    by : (w : Bool) → is_written there n ≡ w →
        values_behind (mixed (by_number (initial there)) (by_number (λ n. replicate (width_of n) 49)) n)
        (if w then sets n (120 ∷ []) ∷ [] else [])
        ≡ mixed (by_number (initial there)) (by_number (λ n. replicate (width_of n) 49)) (suc n)
    by true e = set-line (initial there) (λ n. replicate (width_of n) 49) n (120 ∷ []) (omega (arith, h)) (rw e refl)
    by false e = keep-line (initial there) (λ n. replicate (width_of n) 49) n (omega (arith, h)) (rw e refl)

-- the values behind the header
pub values-unknown : (there : List Bool)
    → values_behind at_first (unknown_below there 22) ≡ by_number (initial there)
values-unknown there = behind-unknown there 22 (omega arith)

-- ---- the lines of a sample

-- the digits of a line, where the clock has this one and the others are as in a sample; a line that is not written is
-- not asserted
abbrev pub line_of : List Bool → ℕ → Sample → ℕ → List ℕ
line_of there clock s zero = clock ∷ []
line_of there clock s (suc n) =
    if is_written there (suc n) then shown_digits (width_of (suc n)) (value_of s (suc n)) (unknown_of s (suc n))
    else replicate (width_of (suc n)) 49

-- all lines
abbrev pub lines_of : List Bool → ℕ → Sample → Values
lines_of there clock s = by_number (line_of there clock s)

-- a line gets the digits of a sample
abbrev set_to : Sample → ℕ → List Change
set_to now n = sets n (shown_digits (width_of n) (value_of now n) (unknown_of now n)) ∷ []

-- a line that is written gets them where it has changed
abbrev pub change_if : List Bool → Option Sample → Sample → ℕ → List Change
change_if there before now n = if is_written there n && has_changed before now n then set_to now n else []

-- the texts of the lines from 1 on do their changes
pub does-changes : (there : List Bool) (before : Option Sample) (now : Sample) (time : Option ℕ) (n : ℕ) → n < 22
    → Does (texts_from (shown_change there before now) 1 n) (shown there time) (shown there time)
    (changed (changes_of (change_if there before now) n))
unfolding texts_from shown_change
does-changes there before now time zero h = does-nothing (shown there time)
does-changes there before now time (suc n) h =
    rw (changed-append (changes_of (change_if there before now) n) (change_if there before now (1 + n)))
    (does-both (texts_from (shown_change there before now) 1 n) (shown_change there before now (1 + n)) _ _ _ _ _
    (does-changes there before now time n (omega (arith, h)))
    (by (is_written there (1 + n)) refl (has_changed before now (1 + n))))
  where
    by : (w : Bool) → is_written there (1 + n) ≡ w → (c : Bool) →
        Does (if w && c then shown_value now (1 + n) else []) (shown there time) (shown there time)
        (changed (if w && c then set_to now (1 + n) else []))
    by true e true = does-value there (1 + n) (value_of now (1 + n)) (unknown_of now (1 + n)) time
        (an_entry there (1 + n) (omega (arith, h)) e)
    by true e false = does-nothing (shown there time)
    by false e c = does-nothing (shown there time)

-- where a line does not change, it has its digits already
abbrev pub IsCarried : List Bool → Option Sample → Sample → (ℕ → List ℕ) → Type 0
IsCarried there before now old =
    (n : ℕ) → n < 21 → (is_written there (suc n) && has_changed before now (suc n)) ≡ false
    → old (suc n) ≡ line_of there 48 now (suc n)

and_true : (a b : Bool) → (a && b) ≡ true → a ≡ true
and_true true b h = refl
and_true false b h = h

one-line : (there : List Bool) (before : Option Sample) (now : Sample) (old : ℕ → List ℕ)
    → IsCarried there before now old → (n : ℕ) → n < 21 →
    values_behind (mixed (lines_of there 48 now) (by_number old) (suc n)) (change_if there before now (suc n))
    ≡ mixed (lines_of there 48 now) (by_number old) (suc (suc n))
one-line there before now old carried n h = by (is_written there (suc n) && has_changed before now (suc n)) refl
  where
    by : (t : Bool) → (is_written there (suc n) && has_changed before now (suc n)) ≡ t →
        values_behind (mixed (lines_of there 48 now) (by_number old) (suc n)) (if t then set_to now (suc n) else [])
        ≡ mixed (lines_of there 48 now) (by_number old) (suc (suc n))
    by true e = set-line (line_of there 48 now) old (suc n) _ (omega (arith, h))
        (extended-shown_digits (width_of (suc n)) (value_of now (suc n)) (unknown_of now (suc n))
        ∙ rw (and_true (is_written there (suc n)) (has_changed before now (suc n)) e) refl)
    by false e = keep-line (line_of there 48 now) old (suc n) (omega (arith, h)) (carried n h e)

behind-lines : (there : List Bool) (before : Option Sample) (now : Sample) (old : ℕ → List ℕ)
    → IsCarried there before now old → (n : ℕ) → n < 22 →
    values_behind (mixed (lines_of there 48 now) (by_number old) 1) (changes_of (change_if there before now) n)
    ≡ mixed (lines_of there 48 now) (by_number old) (suc n)
behind-lines there before now old carried zero h = refl
behind-lines there before now old carried (suc n) h =
    let number : 1 + n ≡ suc n = omega arith in
    let new = lines_of there 48 now in
    values_behind-append (mixed new (by_number old) 1) (changes_of (change_if there before now) n)
    (change_if there before now (1 + n))
    ∙ ap (λ v. values_behind v (change_if there before now (1 + n)))
    (behind-lines there before now old carried n (omega (arith, h)))
    ∙ ap (λ m. values_behind (mixed new (by_number old) (suc n)) (change_if there before now m)) number
    ∙ one-line there before now old carried n (omega (arith, h))

-- the changes of a clock's falling edge
abbrev pub fall : List Bool → Option Sample → Sample → List Change
fall there before now = sets 0 (48 ∷ []) ∷ changes_of (change_if there before now) 21

clock_digit : extended (width_of 0) (48 ∷ []) ≡ 48 ∷ []
unfolding extended
clock_digit = refl

-- they leave the digits of the sample
pub behind-fall : (there : List Bool) (before : Option Sample) (now : Sample) (old : ℕ → List ℕ)
    → IsCarried there before now old → values_behind (by_number old) (fall there before now) ≡ lines_of there 48 now
behind-fall there before now old carried =
    ap (λ v. values_behind v (changes_of (change_if there before now) 21))
    (set-line (line_of there 48 now) old 0 (48 ∷ []) (omega arith) clock_digit)
    ∙ behind-lines there before now old carried 21 (omega arith)

-- in the first sample each line that is written has changed
pub first-carried : (there : List Bool) (now : Sample) → IsCarried there None now (initial there)
first-carried there now n h = by (is_written there (suc n))
  where
    by : (w : Bool) → (w && true) ≡ false →
        (if w then extended (width_of (suc n)) (120 ∷ []) else replicate (width_of (suc n)) 49)
        ≡ (if w then shown_digits (width_of (suc n)) (value_of now (suc n)) (unknown_of now (suc n))
        else replicate (width_of (suc n)) 49)
    by true e = cc
    by false e = refl

-- a line that has not changed has the digits of the sample before
pub later-carried : (there : List Bool) (clock : ℕ) (before now : Sample)
    → IsCarried there (Some before) now (line_of there clock before)
later-carried there clock before now n h = by (is_written there (suc n)) (is_same before now (suc n)) refl
  where
    by : (w t : Bool) → is_same before now (suc n) ≡ t → (w && not t) ≡ false →
        (if w then shown_digits (width_of (suc n)) (value_of before (suc n)) (unknown_of before (suc n))
        else replicate (width_of (suc n)) 49)
        ≡ (if w then shown_digits (width_of (suc n)) (value_of now (suc n)) (unknown_of now (suc n))
        else replicate (width_of (suc n)) 49)
    by true true same e =
        ap₂ (shown_digits (width_of (suc n))) (eqb-true _ _ (and_parts _ _ same).0) (eqb-true _ _ (and_parts _ _ same).1)
    by true false same e = cc
    by false t same e = refl
