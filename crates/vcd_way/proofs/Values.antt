-- In the strict way a token between values does what the grammar says.
use Rattle.std.proofs.Common.{◌≡◌, ℕ, Bool, true, false, not, ◌&&◌, ◌||◌, ◌==◌, if◌then◌else◌, List, [], ◌∷◌, ◌++◌, length}
use Rattle.std.proofs.Common.{take, map, nat_lt, option_map, Option, Some, None, refl, sym, ap, arith}
use Rattle.std.specs.List.{list_all}
use Rattle.std.proofs.lemmas.Bool.{eqb-true}
use Rattle.vcd_grammar.specs.declared.fault.VcdCause.TheVariants as causes
use Rattle.vcd_grammar.specs.Tokens.{Token}
use Rattle.vcd_grammar.specs.Digits.{is_value_digit, time_in}
use Rattle.vcd_grammar.specs.Words.{ValueWord, Stamp, Scalar, Vector, Foreign, Mark, Section, Wrong, stamp_word, scalar_word}
use Rattle.vcd_grammar.specs.Words.{vector_word, value_word, is_read_past, is_end}
use Rattle.vcd_grammar.specs.Codes.{lines_of}
use Rattle.vcd_grammar.specs.Blocks.{Changed}
use Rattle.vcd_grammar.specs.Judging.{Values, stays, goes_to, fails, later, stamped}
use Rattle.vcd_grammar.specs.Judging.{scalar_turn, value_turn, is_too_wide, vector_turn, beside_turn}
use Rattle.vcd_way.specs.Declarations.{DumpSection}
use Rattle.vcd_way.specs.Events.{whole}
use Rattle.vcd_way.specs.Steps.{AtValues, AtCode, AtOtherCode, InRemark, DumpState, reads_past, moves_to, breaks}
use Rattle.vcd_way.specs.Steps.{is_digit_by, digits_by, vector_by, value_word_by, comes, stamp_step, given, scalar_step}
use Rattle.vcd_way.specs.Steps.{is_too_wide_for, vector_step, other_step, value_step, remark_step}
use Rattle.vcd_way.specs.Strict.{StrictHeader, strict_rules, strict}
use Rattle.vcd_way.proofs.Digits.{digit-test, digits-test, digits-meant, lines-set, wide-test, wide-set}
use Rattle.vcd_way.proofs.Header.{known_of, Follows, follows-if, at}

-- ---- what a token says

-- of a vector the first 65 digits
abbrev pub first_digits : ValueWord → ValueWord
first_digits (Stamp time) = Stamp time
first_digits (Scalar digit code) = Scalar digit code
first_digits (Vector digits) = Vector (take 65 digits)
first_digits Foreign = Foreign
first_digits Mark = Mark
first_digits Section = Section
first_digits Wrong = Wrong

-- it has digits alone
abbrev pub has_digits : ValueWord → Bool
has_digits (Stamp time) = true
has_digits (Scalar digit code) = is_value_digit digit
has_digits (Vector digits) = list_all is_value_digit digits
has_digits Foreign = true
has_digits Mark = true
has_digits Section = true
has_digits Wrong = true

-- a word of the grammar and one of the strict way
pub record SameWord (v w : ValueWord) : Type 0 where
  pub same : v ≡ first_digits w
  pub digits : has_digits w ≡ true

same-if : (b : Bool) (v x w y : ValueWord) → SameWord v w → SameWord x y
    → SameWord (if b then v else x) (if b then w else y)
same-if true v x w y p q = p
same-if false v x w y p q = q

same-stamp : (time : Option ℕ) → SameWord (stamp_word time) (stamp_word time)
same-stamp None = record { same = refl; digits = refl }
same-stamp (Some time) = record { same = refl; digits = refl }

same-scalar : (b : ℕ) (bs : List ℕ) → is_value_digit b ≡ true → SameWord (scalar_word b bs) (scalar_word b bs)
same-scalar b [] h = record { same = refl; digits = refl }
same-scalar b (x ∷ bs) h = record { same = refl; digits = h }

vector-if : (ds : List ℕ) (n v g : Bool) → n ≡ true → v ≡ list_all is_value_digit ds → g ≡ v
    → SameWord (if n && v then Vector (take 65 ds) else Wrong) (if g then Vector ds else Wrong)
vector-if ds false v g k e f = cc k
vector-if ds true true true k e f = record { same = refl; digits = sym e }
vector-if ds true true false k e f = cc f
vector-if ds true false true k e f = cc f
vector-if ds true false false k e f = record { same = refl; digits = refl }

-- a list with an element is not empty
some_length : (b : ℕ) (bs : List ℕ) → not (length (b ∷ bs) == 0) ≡ true
some_length b bs = by (length (b ∷ bs) == 0) refl
  where
    by : (x : Bool) → (length (b ∷ bs) == 0) ≡ x → not x ≡ true
    by true e = absurd (omega (arith, eqb-true (length (b ∷ bs)) 0 e))
    by false e = refl

same-vector : (bs : List ℕ) → SameWord (vector_word bs) (vector_by strict_rules bs)
same-vector [] = record { same = refl; digits = refl }
same-vector (b ∷ bs) =
    vector-if (b ∷ bs) (not (length (b ∷ bs) == 0)) (list_all is_value_digit (b ∷ bs))
    (list_all (is_digit_by strict_rules) (b ∷ bs)) (some_length b bs) refl (digits-test (b ∷ bs))

-- the words behind the test for a digit
same-other : (b : ℕ) (bs : List ℕ)
    → SameWord
    (if (b == 98) || (b == 66) then vector_word bs
    else (if ((b == 114) || (b == 82)) || ((b == 115) || (b == 83)) then Foreign
    else (if b == 36 then (if is_read_past (b ∷ bs) then Mark else Section) else Wrong)))
    (if (b == 98) || (b == 66) then vector_by strict_rules bs
    else (if ((b == 114) || (b == 82)) || ((b == 115) || (b == 83)) then Foreign
    else (if b == 36 then (if is_read_past (b ∷ bs) then Mark else Section) else Wrong)))
same-other b bs =
    let mark = same-if (is_read_past (b ∷ bs)) Mark Section Mark Section (record { same = refl; digits = refl })
    (record { same = refl; digits = refl }) in
    let dollar = same-if (b == 36) (if is_read_past (b ∷ bs) then Mark else Section) Wrong
    (if is_read_past (b ∷ bs) then Mark else Section) Wrong mark (record { same = refl; digits = refl }) in
    let last = if b == 36 then (if is_read_past (b ∷ bs) then Mark else Section) else Wrong in
    let foreign = same-if (((b == 114) || (b == 82)) || ((b == 115) || (b == 83))) Foreign last Foreign last
    (record { same = refl; digits = refl }) dollar in
    let others = if ((b == 114) || (b == 82)) || ((b == 115) || (b == 83)) then Foreign else last in
    same-if ((b == 98) || (b == 66)) (vector_word bs) others (vector_by strict_rules bs) others (same-vector bs) foreign

digit-if : (b : ℕ) (bs : List ℕ) (v g : Bool) (x y : ValueWord) → v ≡ is_value_digit b → g ≡ v → SameWord x y
    → SameWord (if v then scalar_word b bs else x) (if g then scalar_word b bs else y)
digit-if b bs true true x y e f p = same-scalar b bs (sym e)
digit-if b bs true false x y e f p = cc f
digit-if b bs false true x y e f p = cc f
digit-if b bs false false x y e f p = p

pub same-word : (word : List ℕ) → SameWord (value_word word) (value_word_by strict_rules word)
unfolding value_word value_word_by
same-word [] = record { same = refl; digits = refl }
same-word (b ∷ bs) =
    same-if (b == 35) (stamp_word (time_in bs)) _ (stamp_word (time_in bs)) _ (same-stamp (time_in bs))
    (digit-if b bs (is_value_digit b) (is_digit_by strict_rules b) _ _ refl (digit-test b) (same-other b bs))

-- ---- what it does

same-stamp-turn : (s : DumpState StrictHeader) (place time : ℕ) (last : Option ℕ)
    → Follows (stamped (known_of (at s AtValues)) place time last) (stamp_step (at s AtValues) place time last)
same-stamp-turn s place time None = record { known = refl; alike = tt; sound = refl }
same-stamp-turn s place time (Some last) =
    follows-if (nat_lt time last) (fails (known_of (at s AtValues)) place causes.TimeBack)
    (if nat_lt last time then later (known_of (at s AtValues)) time else stays (known_of (at s AtValues)))
    (breaks (at s AtValues) place causes.TimeBack)
    (if nat_lt last time then comes (at s AtValues) place time else reads_past (at s AtValues))
    (record { known = refl; alike = tt; sound = refl })
    (follows-if (nat_lt last time) (later (known_of (at s AtValues)) time) (stays (known_of (at s AtValues)))
    (comes (at s AtValues) place time) (reads_past (at s AtValues))
    (record { known = refl; alike = tt; sound = refl }) (record { known = refl; alike = tt; sound = refl }))

same-scalar-turn : (s : DumpState StrictHeader) (place digit : ℕ) (lines : Option (List ℕ)) → is_value_digit digit ≡ true
    → Follows (scalar_turn (known_of (at s AtValues)) place digit lines)
    (scalar_step strict (at s AtValues) place digit (option_map (map whole) lines))
same-scalar-turn s place digit None h = record { known = refl; alike = tt; sound = refl }
same-scalar-turn s place digit (Some lines) h =
    rw (digits-meant (digit ∷ []) (ap (λ x. x && true) h))
    (record { known = refl; alike = (λ v. lines-set lines (digit ∷ []) v, tt); sound = refl })

pub same-value : (s : DumpState StrictHeader) (t : Token) (w : ValueWord) → has_digits w ≡ true
    → Follows (value_turn (known_of (at s AtValues)) t.place (first_digits w)) (value_step strict (at s AtValues) t w)
same-value s t (Stamp time) h = same-stamp-turn s t.place time s.time
same-value s t (Scalar digit code) h = same-scalar-turn s t.place digit (lines_of s.header.codes code) h
same-value s t (Vector digits) h = record { known = refl; alike = tt; sound = h }
same-value s t Foreign h = record { known = refl; alike = tt; sound = refl }
same-value s t Mark h = record { known = refl; alike = tt; sound = refl }
same-value s t Section h = record { known = refl; alike = tt; sound = refl }
same-value s t Wrong h = record { known = refl; alike = tt; sound = refl }

-- a vector that is too wide, or not
vector-width : (s : DumpState StrictHeader) (from : ℕ) (digits lines : List ℕ) (v g : Bool)
    → is_too_wide (take 65 digits) lines ≡ v → v ≡ g → digits_by strict_rules digits ≡ Some digits
    → list_all is_value_digit digits ≡ true
    → Follows
    (if v then fails (known_of (at s (AtCode from digits))) from causes.Width
    else record {
      known = record (known_of (at s (AtCode from digits))) { mode = Values };
      events = Changed (record { lines = lines; digits = take 65 digits }) ∷ [];
    })
    (if g then breaks (at s (AtCode from digits)) from causes.Width
    else given (at s (AtCode from digits)) from (map whole lines) (digits_by strict_rules digits))
vector-width s from digits lines true true e f d h = record { known = refl; alike = tt; sound = h }
vector-width s from digits lines true false e f d h = cc f
vector-width s from digits lines false true e f d h = cc f
vector-width s from digits lines false false e f d h =
    rw d (record { known = refl; alike = (wide-set lines digits e, tt); sound = refl })

pub same-vector-turn : (s : DumpState StrictHeader) (place from : ℕ) (digits : List ℕ) (lines : Option (List ℕ))
    → list_all is_value_digit digits ≡ true
    → Follows (vector_turn (known_of (at s (AtCode from digits))) place from (take 65 digits) lines)
    (vector_step strict (at s (AtCode from digits)) place from digits (option_map (map whole) lines))
same-vector-turn s place from digits None h = record { known = refl; alike = tt; sound = h }
same-vector-turn s place from digits (Some lines) h =
    vector-width s from digits lines (is_too_wide (take 65 digits) lines) (is_too_wide_for (map whole lines) digits) refl
    (wide-test lines digits) (digits-meant digits h) h

pub same-beside : (s : DumpState StrictHeader) (place from : ℕ) (lines : Option (List ℕ))
    → Follows (beside_turn (known_of (at s (AtOtherCode from))) place lines)
    (other_step (at s (AtOtherCode from)) place (option_map (map whole) lines))
same-beside s place from None = record { known = refl; alike = tt; sound = refl }
same-beside s place from (Some lines) = record { known = refl; alike = tt; sound = refl }

pub same-remark : (s : DumpState StrictHeader) (section : DumpSection) (t : Token)
    → Follows
    (if is_end t.word then goes_to (known_of (at s (InRemark section))) Values
    else stays (known_of (at s (InRemark section))))
    (remark_step (at s (InRemark section)) section t)
same-remark s section t = by (is_end t.word)
  where
    by : (b : Bool)
        → Follows
        (if b then goes_to (known_of (at s (InRemark section))) Values
        else stays (known_of (at s (InRemark section))))
        (if b then
        moves_to (record (at s (InRemark section)) { remarks = s.remarks ++ section ∷ [] }) AtValues
        else moves_to (at s (InRemark section)) (InRemark (record section { words = section.words ++ t.word ∷ [] })))
    by true = record { known = refl; alike = tt; sound = refl }
    by false = record { known = refl; alike = tt; sound = refl }
