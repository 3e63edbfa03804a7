-- What a token between values says: what the strict way takes, says the same to one that lets more pass.
use Rattle.std.proofs.Common.{◌≡◌, ◌≤◌, ℕ, Bool, true, false, not, ◌&&◌, ◌||◌, ◌==◌, if◌then◌else◌, is_some, List, [], ◌∷◌}
use Rattle.std.proofs.Common.{length, nat_le, Option, Some, None, refl, sym, ap, ◌∙◌, arith}
use Rattle.std.specs.List.{list_all}
use Rattle.std.proofs.lemmas.Bool.{eqb-true, ne_eqb, ltb-false, lt-leb, and_parts}
use Rattle.vcd_grammar.specs.Tokens.{longest, is_long}
use Rattle.vcd_grammar.specs.Digits.{is_value_digit, time_in}
use Rattle.vcd_grammar.specs.Words.{ValueWord, Stamp, Scalar, Vector, Foreign, Mark, Section, Wrong, stamp_word, scalar_word}
use Rattle.vcd_grammar.specs.Words.{is_read_past}
use Rattle.vcd_way.specs.Ways.{ValueRules}
use Rattle.vcd_way.specs.Steps.{is_digit_by, one_more, digits_by, vector_by, value_word_by, is_unreadable}
use Rattle.vcd_way.specs.Strict.{strict_rules}
use Rattle.vcd_way.specs.Wide.{wide_digit}
use Rattle.scope_both.specs.Usual.{usual_rules}

-- ---- digits

wide-keeps : (b : ℕ) → is_value_digit b ≡ true → wide_digit b ≡ Some b
unfolding wide_digit
wide-keeps b h = rw h refl

some-if : (x : Bool) (b : ℕ) → is_some (if x then Some b else None) ≡ x
some-if true b = refl
some-if false b = refl

digit-test : (b : ℕ) → is_digit_by strict_rules b ≡ is_value_digit b
digit-test b = some-if (is_value_digit b) b

digits-test : (ds : List ℕ) → list_all (is_digit_by strict_rules) ds ≡ list_all is_value_digit ds
digits-test [] = refl
digits-test (d ∷ ds) = λ i. digit-test d i && digits-test ds i

pub strict-digits : (ds : List ℕ) → list_all is_value_digit ds ≡ true → digits_by strict_rules ds ≡ Some ds
strict-digits [] h = refl
strict-digits (d ∷ ds) h =
    let parts = and_parts (is_value_digit d) (list_all is_value_digit ds) h in
    λ i. one_more (if parts.0 i then Some d else None) (strict-digits ds parts.1 i)

pub usual-digits : (early : Bool) (ds : List ℕ) → list_all is_value_digit ds ≡ true
    → digits_by (usual_rules early) ds ≡ Some ds
usual-digits early [] h = refl
usual-digits early (d ∷ ds) h =
    let parts = and_parts (is_value_digit d) (list_all is_value_digit ds) h in
    λ i. one_more (wide-keeps d parts.0 i) (usual-digits early ds parts.1 i)

-- ---- words

-- the word is a fault
abbrev pub is_wrong : ValueWord → Bool
is_wrong (Stamp time) = false
is_wrong (Scalar digit code) = false
is_wrong (Vector digits) = false
is_wrong Foreign = false
is_wrong Mark = false
is_wrong Section = false
is_wrong Wrong = true

-- digits of a strict value, of which all are known
abbrev pub are_sound : List ℕ → Bool
are_sound digits = list_all is_value_digit digits && not (is_unreadable digits)

-- its digits are those of a strict value
abbrev pub is_sound_word : ValueWord → Bool
is_sound_word (Stamp time) = true
is_sound_word (Scalar digit code) = is_value_digit digit
is_sound_word (Vector digits) = are_sound digits
is_sound_word Foreign = true
is_sound_word Mark = true
is_sound_word Section = true
is_sound_word Wrong = true

-- it says the same
pub record SameWord (v w : ValueWord) : Type 0 where
  pub same : w ≡ v
  pub sound : is_sound_word v ≡ true

-- the same, where it is no fault
abbrev Alike : ValueWord → ValueWord → Type 0
Alike v w = is_wrong v ≡ false → SameWord v w

alike-if : (b : Bool) (v x w y : ValueWord) → Alike v w → Alike x y → Alike (if b then v else x) (if b then w else y)
alike-if true v x w y p q = p
alike-if false v x w y p q = q

alike-stamp : (time : Option ℕ) → Alike (stamp_word time) (stamp_word time)
alike-stamp None h = cc h
alike-stamp (Some time) h = record { same = refl; sound = refl }

alike-scalar : (b : ℕ) (bs : List ℕ) → is_value_digit b ≡ true → Alike (scalar_word b bs) (scalar_word b bs)
alike-scalar b [] d h = cc h
alike-scalar b (x ∷ bs) d h = record { same = refl; sound = d }

or-both : (p q : Bool) → p ≡ false → q ≡ false → (p || q) ≡ false
or-both p q e f = λ i. e i || f i

-- digits of a token that is not too long
readable : (b c : ℕ) (cs : List ℕ) → is_long (b ∷ c ∷ cs) ≡ false → is_unreadable (c ∷ cs) ≡ false
readable b c cs h =
    let few : length (b ∷ c ∷ cs) ≤ longest = ltb-false longest (length (b ∷ c ∷ cs)) h in
    or-both (length (c ∷ cs) == 0) (nat_le longest (length (c ∷ cs))) (ne_eqb (length (c ∷ cs)) 0 (omega arith))
    (lt-leb longest (length (c ∷ cs)) (omega arith))

vector-if : (early : Bool) (c : ℕ) (cs : List ℕ) (g : Bool) → g ≡ list_all is_value_digit (c ∷ cs)
    → is_unreadable (c ∷ cs) ≡ false
    → Alike (if g then Vector (c ∷ cs) else Wrong) (Vector (c ∷ cs))
vector-if early c cs true e u h = record { same = refl; sound = λ i. sym e i && not (u i) }
vector-if early c cs false e u h = cc h

alike-vector : (early : Bool) (b : ℕ) (bs : List ℕ) → is_long (b ∷ bs) ≡ false
    → Alike (vector_by strict_rules bs) (vector_by (usual_rules early) bs)
alike-vector early b [] l = λ h. cc h
alike-vector early b (c ∷ cs) l =
    vector-if early c cs (list_all (is_digit_by strict_rules) (c ∷ cs)) (digits-test (c ∷ cs)) (readable b c cs l)

-- the words behind the test for a digit
abbrev rest_by : ValueRules → ℕ → List ℕ → ValueWord
rest_by m b bs =
    if (b == 98) || (b == 66) then vector_by m bs
    else (if ((b == 114) || (b == 82)) || ((b == 115) || (b == 83)) then Foreign
    else (if b == 36 then (if is_read_past (b ∷ bs) then Mark else Section)
    else (if m.takes_any then scalar_word b bs else Wrong)))

alike-other : (v : ValueWord) → Alike Wrong v
alike-other v h = cc h

alike-rest : (early : Bool) (b : ℕ) (bs : List ℕ) → is_long (b ∷ bs) ≡ false
    → Alike (rest_by strict_rules b bs) (rest_by (usual_rules early) b bs)
alike-rest early b bs l =
    let mark = if is_read_past (b ∷ bs) then Mark else Section in
    let letter = ((b == 114) || (b == 82)) || ((b == 115) || (b == 83)) in
    alike-if ((b == 98) || (b == 66)) (vector_by strict_rules bs)
    (if letter then Foreign else (if b == 36 then mark else Wrong)) (vector_by (usual_rules early) bs)
    (if letter then Foreign else (if b == 36 then mark else scalar_word b bs)) (alike-vector early b bs l)
    (alike-if letter Foreign (if b == 36 then mark else Wrong) Foreign (if b == 36 then mark else scalar_word b bs)
    (λ h. record { same = refl; sound = refl })
    (alike-if (b == 36) mark Wrong mark (scalar_word b bs)
    (alike-if (is_read_past (b ∷ bs)) Mark Section Mark Section (λ h. record { same = refl; sound = refl })
    (λ h. record { same = refl; sound = refl })) (alike-other (scalar_word b bs))))

-- a byte that is a digit in a wide sense is none of the letters that begin another word
no-letter : (early : Bool) (b c : ℕ) → is_digit_by (usual_rules early) b ≡ true
    → is_digit_by (usual_rules early) c ≡ false → (b == c) ≡ false
no-letter early b c d n = by (b == c) refl
  where
    by : (x : Bool) → (b == c) ≡ x → x ≡ false
    by true e =
        let same : b ≡ c = eqb-true b c e in
        let wrong : true ≡ false = sym d ∙ ap (is_digit_by (usual_rules early)) same ∙ n in
        wrong
    by false e = refl

wrong-rest : (b : ℕ) (bs : List ℕ) → (b == 98) ≡ false → (b == 66) ≡ false → (b == 114) ≡ false → (b == 82) ≡ false
    → (b == 115) ≡ false → (b == 83) ≡ false → (b == 36) ≡ false → rest_by strict_rules b bs ≡ Wrong
wrong-rest b bs p q r s t u d = λ i.
    if p i || q i then vector_by strict_rules bs
    else (if (r i || s i) || (t i || u i) then Foreign
    else (if d i then (if is_read_past (b ∷ bs) then Mark else Section) else Wrong))

alike-wrong : (v x w : ValueWord) → v ≡ Wrong → Alike v w
alike-wrong v x w e h = let wrong : true ≡ false = sym (ap is_wrong e) ∙ h in cc wrong

-- a digit in a wide sense alone
wide-alone : (early : Bool) (b : ℕ) (bs : List ℕ) → is_digit_by (usual_rules early) b ≡ true
    → rest_by strict_rules b bs ≡ Wrong
unfolding wide_digit
wide-alone early b bs d =
    let no = no-letter early b in
    wrong-rest b bs (no 98 d refl) (no 66 d refl) (no 114 d refl) (no 82 d refl) (no 115 d refl) (no 83 d refl)
    (no 36 d refl)

digit-if : (early : Bool) (b : ℕ) (bs : List ℕ) (g k : Bool) → is_long (b ∷ bs) ≡ false → g ≡ is_value_digit b
    → is_digit_by (usual_rules early) b ≡ k → (is_value_digit b ≡ true → k ≡ true)
    → Alike (if g then scalar_word b bs else rest_by strict_rules b bs)
    (if k then scalar_word b bs else rest_by (usual_rules early) b bs)
digit-if early b bs true true l e f n = alike-scalar b bs (sym e)
digit-if early b bs true false l e f n = let wrong = n (sym e) in cc wrong
digit-if early b bs false true l e f n = alike-wrong (rest_by strict_rules b bs) Wrong (scalar_word b bs) (wide-alone early b bs f)
digit-if early b bs false false l e f n = alike-rest early b bs l

pub same-word : (early : Bool) (word : List ℕ) → is_long word ≡ false
    → is_wrong (value_word_by strict_rules word) ≡ false
    → SameWord (value_word_by strict_rules word) (value_word_by (usual_rules early) word)
unfolding value_word_by
same-word early [] l = λ h. cc h
same-word early (b ∷ bs) l =
    alike-if (b == 35) (stamp_word (time_in bs)) _ (stamp_word (time_in bs)) _ (alike-stamp (time_in bs))
    (digit-if early b bs (is_digit_by strict_rules b) (is_digit_by (usual_rules early) b) l (digit-test b) refl
    (λ d. ap is_some (wide-keeps b d)))
