-- Lines that get their values one after another, and the texts of these values.
use Rattle.std.proofs.Common.{◌≡◌, ℕ, zero, suc, ◌+◌, ◌<◌, Bool, true, false, List, [], ◌∷◌, ◌++◌, length, map, take}
use Rattle.std.proofs.Common.{drop, set, get_or, refl, sym, ap, ◌∙◌, arith}
use Rattle.std.specs.Prelude.{◌*◌, ◌==◌, ◌||◌, not, if◌then◌else◌, slice_set}
use Rattle.std.proofs.Math.Path.{ap₂}
use Rattle.std.proofs.lemmas.Bool.{eqb-true}
use Rattle.fsb_signal.specs.declared.sample.Sample.{Sample}
use Rattle.fsb_signal.specs.declared.lines.TheConstants.Lines.{AP0, AP1, RP}
use Rattle.fsb_signal.specs.Samples.{has_line}
use Rattle.fsb_signal.specs.Parity.{has_no_parity}
use Rattle.fsb_signal.specs.DumpText.{width_of, digits_of, value_of, sample_value_text, change_text, texts_from}
use Rattle.vcd_grammar.specs.Blocks.{Change, Block, Changed}
use Rattle.vcd_grammar.specs.Values.{Values, set_lines, values_behind}
use Rattle.vcd_laws.proofs.Pieces.{Does, does-nothing, does-both}
use Rattle.vcd_laws.proofs.Digits.{extended-digits_of}
use Rattle.vcd_laws.proofs.Known.{Profile, One, Two, entries, last_entry, written, listed, sets, changed, next, none}
use Rattle.vcd_laws.proofs.Changes.{does-value}

-- ---- lists of which the first elements are those of another

-- the first n elements of one list, and the further ones of another
abbrev pub mixed : {X : Type 0} → List X → List X → ℕ → List X
mixed new old n = take n new ++ drop n old

set-mixed : {X : Type 0} (new old : List X) (n : ℕ) (x : X) → n < length new → n < length old
    → get_or new n x ≡ x → set (mixed new old n) n x ≡ mixed new old (suc n)
set-mixed [] old n x h k e = absurd (omega (arith, h))
set-mixed (y ∷ new) [] n x h k e = absurd (omega (arith, k))
set-mixed (y ∷ new) (z ∷ old) zero x h k e = ap (λ v. v ∷ old) (sym e)
set-mixed (y ∷ new) (z ∷ old) (suc n) x h k e =
    ap (λ v. y ∷ v) (set-mixed new old n x (omega (arith, h)) (omega (arith, k)) e)

same-mixed : {X : Type 0} (new old : List X) (n : ℕ) (x : X) → n < length new → n < length old
    → get_or new n x ≡ x → get_or old n x ≡ x → mixed new old n ≡ mixed new old (suc n)
same-mixed [] old n x h k e f = absurd (omega (arith, h))
same-mixed (y ∷ new) [] n x h k e f = absurd (omega (arith, k))
same-mixed (y ∷ new) (z ∷ old) zero x h k e f = ap (λ v. v ∷ old) (f ∙ sym e)
same-mixed (y ∷ new) (z ∷ old) (suc n) x h k e f =
    ap (λ v. y ∷ v) (same-mixed new old n x (omega (arith, h)) (omega (arith, k)) e f)

-- ---- the digits of all lines

-- the digits of each line, where the clock has this one and the others are as in a sample
abbrev pub digits_at : ℕ → Sample → Values
digits_at clock s =
    (clock ∷ [])
    ∷ map (λ number. digits_of (width_of number) (value_of s number))
    (1 ∷ 2 ∷ 3 ∷ 4 ∷ 5 ∷ 6 ∷ 7 ∷ 8 ∷ 9 ∷ 10 ∷ 11 ∷ 12 ∷ 13 ∷ 14 ∷ 15 ∷ 16 ∷ 17 ∷ 18 ∷ 19 ∷ 20 ∷ 21 ∷ [])

-- those of one line of a sample
abbrev pub line_digits : Sample → ℕ → List ℕ
line_digits s number = digits_of (width_of number) (value_of s number)

get-digits_at : (clock : ℕ) (s : Sample) (d : List ℕ) (n : ℕ) → n < 21
    → get_or (digits_at clock s) (suc n) d ≡ line_digits s (suc n)
get-digits_at clock s d =
    next _ 20 refl
    (next _ 19 refl
    (next _ 18 refl
    (next _ 17 refl
    (next _ 16 refl (next _ 15 refl (next _ 14 refl (next _ 13 refl (next _ 12 refl (next _ 11 refl (next _ 10 refl
    (next _ 9 refl
    (next _ 8 refl
    (next _ 7 refl
    (next _ 6 refl
    (next _ 5 refl
    (next _ 4 refl (next _ 3 refl (next _ 2 refl (next _ 1 refl (next _ 0 refl (none _)))))))))))))))))))))

-- ---- changes one after another

pub values_behind-append : (values : Values) (a b : Block)
    → values_behind values (a ++ b) ≡ values_behind (values_behind values a) b
values_behind-append values [] b = refl
values_behind-append values (c ∷ a) b = values_behind-append (set_lines values c.lines c.digits) a b

pub changed-append : (a b : List Change) → changed (a ++ b) ≡ changed a ++ changed b
changed-append [] b = refl
changed-append (c ∷ a) b = ap (λ es. Changed c ∷ es) (changed-append a b)

-- the changes of the lines from 1 on, so many of them
abbrev pub changes_of : (ℕ → List Change) → ℕ → List Change
changes_of changes zero = []
changes_of changes (suc n) = changes_of changes n ++ changes (1 + n)

-- the texts of the lines from 1 on do their changes
does-lines : (p : Profile) (text : ℕ → List ℕ) (changes : ℕ → List Change) (time : ℕ) →
    ((number : ℕ) → number < entries p
    → Does (text number) (written p time) (written p time) (changed (changes number))) →
    (n : ℕ) → n < entries p
    → Does (texts_from text 1 n) (written p time) (written p time) (changed (changes_of changes n))
unfolding texts_from
does-lines p text changes time each zero h = does-nothing (written p time)
does-lines p text changes time each (suc n) h =
    rw (changed-append (changes_of changes n) (changes (1 + n)))
    (does-both (texts_from text 1 n) (text (1 + n)) _ _ _ _ _
    (does-lines p text changes time each n (omega (arith, h))) (each (1 + n) (omega (arith, h))))

-- changes that bring each line from its old to its new digits
behind-lines : (changes : ℕ → List Change) (old new : Values) →
    ((n : ℕ) → n < 21 → values_behind (mixed new old (suc n)) (changes (suc n)) ≡ mixed new old (suc (suc n))) →
    (n : ℕ) → n < 22 → values_behind (mixed new old 1) (changes_of changes n) ≡ mixed new old (suc n)
behind-lines changes old new each zero h = refl
behind-lines changes old new each (suc n) h =
    let number : 1 + n ≡ suc n = omega arith in
    values_behind-append (mixed new old 1) (changes_of changes n) (changes (1 + n))
    ∙ ap (λ v. values_behind v (changes (1 + n))) (behind-lines changes old new each n (omega (arith, h)))
    ∙ ap (λ m. values_behind (mixed new old (suc n)) (changes m)) number
    ∙ each n (omega (arith, h))

-- ---- the lines of a sample

-- a line gets the digits of a sample
abbrev pub set_to : Sample → ℕ → List Change
set_to now number = sets number (line_digits now number) ∷ []

-- a line gets the digits of a sample where they differ from those of the sample before
abbrev pub set_where : Sample → Sample → ℕ → List Change
set_where before now number = if value_of before number == value_of now number then [] else set_to now number

set_to-mixed : (clock : ℕ) (now : Sample) (old : Values) → length old ≡ 22 → (n : ℕ) → n < 21 →
    values_behind (mixed (digits_at clock now) old (suc n)) (set_to now (suc n))
    ≡ mixed (digits_at clock now) old (suc (suc n))
set_to-mixed clock now old long n h =
    ap (λ digits. slice_set (mixed (digits_at clock now) old (suc n)) (suc n) digits)
    (extended-digits_of (width_of (suc n)) (value_of now (suc n)))
    ∙ set-mixed (digits_at clock now) old (suc n) (line_digits now (suc n)) (omega (arith, h))
    (omega (arith, h, long)) (get-digits_at clock now (line_digits now (suc n)) n h)

set_where-mixed : (clock was : ℕ) (before now : Sample) → (n : ℕ) → n < 21 →
    values_behind (mixed (digits_at clock now) (digits_at was before) (suc n)) (set_where before now (suc n))
    ≡ mixed (digits_at clock now) (digits_at was before) (suc (suc n))
set_where-mixed clock was before now n h = by (value_of before (suc n) == value_of now (suc n)) refl
  where
    by : (t : Bool) → (value_of before (suc n) == value_of now (suc n)) ≡ t →
        values_behind (mixed (digits_at clock now) (digits_at was before) (suc n))
        (if t then [] else set_to now (suc n)) ≡ mixed (digits_at clock now) (digits_at was before) (suc (suc n))
    by true e =
        let same : line_digits before (suc n) ≡ line_digits now (suc n) =
        ap (digits_of (width_of (suc n))) (eqb-true _ _ e) in
        same-mixed (digits_at clock now) (digits_at was before) (suc n) (line_digits now (suc n))
        (omega (arith, h)) (omega (arith, h))
        (get-digits_at clock now (line_digits now (suc n)) n h)
        (get-digits_at was before (line_digits now (suc n)) n h ∙ same)
    by false e = set_to-mixed clock now (digits_at was before) refl n h

-- ---- the lines that a profile does not have

-- a sample of a dump in a profile: in profile 1 it asserts no parity line
abbrev pub IsIn : Profile → Sample → Type 0
IsIn One s = has_no_parity s ≡ true
IsIn Two s = Unit {0}

-- in profile 1 neither parity line is asserted
no_parity : (s : Sample) → has_no_parity s ≡ true → (value_of s 20 ≡ 0) × (value_of s 21 ≡ 0)
unfolding value_of
no_parity s h = by (has_line s AP0) (has_line s AP1) (has_line s RP) h
  where
    bit : Bool → ℕ
    bit b = if b then 1 else 0

    by : (a b c : Bool) → not (a || b || c) ≡ true → (2 * bit b + bit a ≡ 0) × (bit c ≡ 0)
    by false false false h = (refl, refl)
    by false false true h = cc h
    by false true c h = cc h
    by true b c h = cc h

-- the digits of the lines past those of a profile, of which none is asserted
abbrev pub tail_of : Profile → Values
tail_of One = (49 ∷ 49 ∷ []) ∷ (49 ∷ []) ∷ []
tail_of Two = []

tail-is : (p : Profile) (clock : ℕ) (s : Sample) → IsIn p s → drop (entries p) (digits_at clock s) ≡ tail_of p
tail-is One clock s h =
    let none : (value_of s 20 ≡ 0) × (value_of s 21 ≡ 0) = no_parity s h in
    ap₂ (λ a b. digits_of 2 a ∷ digits_of 1 b ∷ []) none.0 none.1
tail-is Two clock s h = refl

-- once each line of the profile is that of a sample, all are
all_lines : (p : Profile) (clock : ℕ) (now : Sample) (old : Values) → IsIn p now → drop (entries p) old ≡ tail_of p →
    mixed (digits_at clock now) old (suc (last_entry p)) ≡ digits_at clock now
all_lines One clock now old h tail = ap (λ v. take 20 (digits_at clock now) ++ v) (tail ∙ sym (tail-is One clock now h))
all_lines Two clock now old h tail = ap (λ v. take 22 (digits_at clock now) ++ v) tail

last_within : (p : Profile) → last_entry p < 22
last_within One = omega arith
last_within Two = omega arith

last_listed : (p : Profile) → last_entry p < entries p
last_listed One = omega arith
last_listed Two = omega arith

-- the values of a first sample
pub does-values : (p : Profile) (time : ℕ) (now : Sample)
    → Does (texts_from (sample_value_text now) 1 (last_entry p)) (written p time) (written p time)
    (changed (changes_of (set_to now) (last_entry p)))
does-values p time now = does-lines p (sample_value_text now) (set_to now) time
    (λ number h. does-value p number (value_of now number) time (listed p number h)) (last_entry p) (last_listed p)

pub behind-values : (p : Profile) (clock : ℕ) (now : Sample) (old : Values) → length old ≡ 22 → IsIn p now
    → drop (entries p) old ≡ tail_of p →
    values_behind (mixed (digits_at clock now) old 1) (changes_of (set_to now) (last_entry p)) ≡ digits_at clock now
behind-values p clock now old long h tail =
    behind-lines (set_to now) old (digits_at clock now) (set_to-mixed clock now old long) (last_entry p)
    (last_within p) ∙ all_lines p clock now old h tail

-- the values that differ from those of the sample before
pub does-changes : (p : Profile) (time : ℕ) (before now : Sample)
    → Does (texts_from (change_text before now) 1 (last_entry p)) (written p time) (written p time)
    (changed (changes_of (set_where before now) (last_entry p)))
unfolding change_text
does-changes p time before now = does-lines p (change_text before now) (set_where before now) time each
    (last_entry p) (last_listed p)
  where
    each : (number : ℕ) → number < entries p
        → Does (change_text before now number) (written p time) (written p time) (changed (set_where before now number))
    each number h = by (value_of before number == value_of now number)
      where
        by : (t : Bool)
            → Does (if t then [] else sample_value_text now number) (written p time) (written p time)
            (changed (if t then [] else set_to now number))
        by true = does-nothing (written p time)
        by false = does-value p number (value_of now number) time (listed p number h)

pub behind-changes : (p : Profile) (clock was : ℕ) (before now : Sample) → IsIn p before → IsIn p now →
    values_behind (mixed (digits_at clock now) (digits_at was before) 1)
    (changes_of (set_where before now) (last_entry p)) ≡ digits_at clock now
behind-changes p clock was before now earlier h =
    behind-lines (set_where before now) (digits_at was before) (digits_at clock now)
    (set_where-mixed clock was before now) (last_entry p) (last_within p)
    ∙ all_lines p clock now (digits_at was before) h (tail-is p was before earlier)
