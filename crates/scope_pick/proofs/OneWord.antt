-- What is asked of a word in single bits is answered by its own bits.
use Rattle.std.proofs.Common.{◌≡◌, ◌∙◌, ℕ, ◌+◌, Bool, true, false, nat_eq, nat_le, not, cond, ◌&&◌, ◌||◌, List, [], ◌∷◌, ◌++◌, Option, Some, None, refl, ap, sym, append-nil, BTreeMap, Vec, Global, IfSome}
use Rattle.std.specs.Cmp.{both_tied, unsigned_ties}
use Rattle.std.specs.List.{filter, find, list_any}
use Rattle.std.specs.Ordering.{bool_cmp, is_eq}
use Rattle.std.proofs.lemmas.Bool.{and_parts, eqb-true}
use Rattle.scope_pick.specs.declared.split.Bit.{Bit}
use Rattle.scope_pick.specs.Places.{line_width, lowest_index}
use Rattle.scope_pick.specs.Splits.{is_of_word, is_bit_of, bit_in, is_other_bit, has_bit, bit_numbers, has_bits_from, base_of, is_first_bit}
use Rattle.std.specs.BTreeMap.{get}
use Rattle.scope_pick.specs.Words.{WordKey, word_key, key_cmp, items_kept, word_at, base_at}
use Rattle.scope_pick.proofs.Within.{find-filtered, any-filtered, find-passes, all-agree}

-- both or neither
alike : (x y : Bool) → (x && y || not x && not y) ≡ true → x ≡ y
alike true true h = refl
alike true false h = absurd cc
alike false true h = absurd cc
alike false false h = refl

alike-ties : (x y : Bool) → (x && y || not x && not y) ≡ is_eq (bool_cmp x y)
alike-ties true true = refl
alike-ties true false = refl
alike-ties false true = refl
alike-ties false false = refl

-- the keys of two bits tie where they are bits of one word
pub keys_tie : (b c : Bit) → is_eq (key_cmp (word_key b) (word_key c)) ≡ is_of_word c b
unfolding is_of_word
keys_tie b c =
    sym (both_tied _ _ _ _
    (both_tied _ _ _ _ (unsigned_ties b.scope c.scope) (unsigned_ties b.line c.line)) (alike-ties b.exact c.exact))

-- bits of one word agree in what the word is
same-fields : (b c : Bit) → is_of_word b c ≡ true
    → (c.scope ≡ b.scope) × (c.line ≡ b.line) × (c.exact ≡ b.exact)
unfolding is_of_word
same-fields b c h =
    let parts =
    and_parts (nat_eq c.scope b.scope && nat_eq c.line b.line) (c.exact && b.exact || not c.exact && not b.exact) h in
    let two = and_parts (nat_eq c.scope b.scope) (nat_eq c.line b.line) parts.0 in
    (eqb-true _ _ two.0, eqb-true _ _ two.1, alike c.exact b.exact parts.1)

word-same : (b c e : Bit) → is_of_word b c ≡ true → is_of_word c e ≡ is_of_word b e
unfolding is_of_word
word-same b c e h = let s = same-fields b c h in rw (s.0, s.1, s.2) refl

-- the bit is this one, if there is one
abbrev is_at : Bit → Option Bit → Bool
is_at b o = elim o [ None ↦ false | Some c ↦ nat_eq c.index b.index ]

-- whether a bit is the first of its word
pub first-bit-within : (bs : List Bit) (b : Bit) → is_first_bit (filter (is_of_word b) bs) b ≡ is_first_bit bs b
unfolding is_first_bit
first-bit-within bs b = ap (is_at b) (find-filtered (is_of_word b) (is_of_word b) (λ c other. other) bs)

-- the bit of a number
pub bit-within : (bs : List Bit) (b : Bit) (n : ℕ) → bit_in (filter (is_of_word b) bs) b n ≡ bit_in bs b n
unfolding bit_in is_bit_of
bit-within bs b n = find-filtered (is_bit_of b n) (is_of_word b) (λ c other. rw other refl) bs

bit-stands : (bs : List Bit) (b : Bit) (n : ℕ) (c : Bit) → bit_in bs b n ≡ Some c → is_of_word b c ≡ true
unfolding bit_in is_bit_of
bit-stands bs b n c is =
    (and_parts (is_of_word b c) (nat_eq c.number n) (find-passes (is_bit_of b n) bs c is)).0

-- no other wire stands for the bit, if there is one
abbrev is_alone : List Bit → Option Bit → Bool
is_alone bs o = elim o [ None ↦ false | Some c ↦ not (list_any (is_other_bit c) bs) ]

other-within : (bs : List Bit) (b c : Bit) → is_of_word b c ≡ true
    → list_any (is_other_bit c) (filter (is_of_word b) bs) ≡ list_any (is_other_bit c) bs
unfolding is_other_bit is_bit_of
other-within bs b c stands =
    any-filtered (is_other_bit c) (is_of_word b) (λ e other. rw (word-same b c e stands) (rw other refl)) bs

-- whether the word has a bit, on one wire
has-within : (bs : List Bit) (b : Bit) (n : ℕ) → has_bit (filter (is_of_word b) bs) b n ≡ has_bit bs b n
unfolding has_bit
has-within bs b n = ap (is_alone (filter (is_of_word b) bs)) (bit-within bs b n) ∙ at (bit_in bs b n) refl
  where
    at : (o : Option Bit) → bit_in bs b n ≡ o → is_alone (filter (is_of_word b) bs) o ≡ is_alone bs o
    at None is = refl
    at (Some c) is = ap not (other-within bs b c (bit-stands bs b n c is))

bits-within : (bs : List Bit) (b : Bit) (base : ℕ)
    → has_bits_from (filter (is_of_word b) bs) b base ≡ has_bits_from bs b base
unfolding has_bits_from
bits-within bs b base =
    all-agree (λ k. nat_le (line_width b.line) k || has_bit (filter (is_of_word b) bs) b (base + k))
    (λ k. nat_le (line_width b.line) k || has_bit bs b (base + k))
    (λ k. ap (λ o. nat_le (line_width b.line) k || o) (has-within bs b (base + k))) bit_numbers

-- the number of the word's lowest bit
pub base-within : (bs : List Bit) (b : Bit) → base_of (filter (is_of_word b) bs) b ≡ base_of bs b
unfolding base_of
base-within bs b = rw (bits-within bs b (lowest_index b.line), bits-within bs b 0) refl

-- searches by tests that agree
find-agree : (p q : Bit → Bool) → ((c : Bit) → p c ≡ q c) → (bs : List Bit) → find p bs ≡ find q bs
find-agree p q h [] = refl
find-agree p q h (c ∷ bs) = rw (h c) rw (find-agree p q h bs) refl

-- bits of one word have its bits and its lowest number alike
bit-same : (bs : List Bit) (b c : Bit) (n : ℕ) → is_of_word b c ≡ true → bit_in bs c n ≡ bit_in bs b n
unfolding bit_in is_bit_of
bit-same bs b c n h =
    find-agree (is_bit_of c n) (is_bit_of b n) (λ e. ap (λ t. t && nat_eq e.number n) (word-same b c e h)) bs

has-same : (bs : List Bit) (b c : Bit) (n : ℕ) → is_of_word b c ≡ true → has_bit bs c n ≡ has_bit bs b n
unfolding has_bit
has-same bs b c n h = ap (is_alone bs) (bit-same bs b c n h)

bits-same : (bs : List Bit) (b c : Bit) (base : ℕ) → is_of_word b c ≡ true
    → has_bits_from bs c base ≡ has_bits_from bs b base
unfolding has_bits_from
bits-same bs b c base h =
    all-agree (λ k. nat_le (line_width c.line) k || has_bit bs c (base + k))
    (λ k. nat_le (line_width b.line) k || has_bit bs b (base + k))
    (λ k. ap (λ l. nat_le (line_width l) k || has_bit bs c (base + k)) (same-fields b c h).1
    ∙ ap (λ o. nat_le (line_width b.line) k || o) (has-same bs b c (base + k) h)) bit_numbers

pub base-same : (bs : List Bit) (b c : Bit) → is_of_word b c ≡ true → base_of bs c ≡ base_of bs b
unfolding base_of
base-same bs b c h =
    ap (λ l. cond (has_bits_from bs c (lowest_index l)) (Some (lowest_index l))
    (cond (has_bits_from bs c 0) (Some 0) None)) (same-fields b c h).1
    ∙ rw (bits-same bs b c (lowest_index b.line) h) rw (bits-same bs b c 0 h) refl

-- what is kept of the numbers, once that of a bit's word is kept too
pub base-kept : (old new : BTreeMap WordKey (Option ℕ)) (bs : List Bit) (b other : Bit) (base : Option ℕ)
    → IfSome (base_at old other) (λ kept. kept ≡ base_of bs other)
    → base ≡ base_of bs b
    → get key_cmp new (word_key other)
    ≡ cond (is_eq (key_cmp (word_key b) (word_key other))) (Some base) (get key_cmp old (word_key other))
    → IfSome (base_at new other) (λ kept. kept ≡ base_of bs other)
base-kept old new bs b other base before own is =
    rw (is ∙ ap (λ t. cond t (Some base) (get key_cmp old (word_key other))) (keys_tie b other))
    (at (is_of_word other b) refl)
  where
    at : (t : Bool) → is_of_word other b ≡ t
        → IfSome (cond t (Some base) (get key_cmp old (word_key other))) (λ kept. kept ≡ base_of bs other)
    at true same = own ∙ base-same bs other b same
    at false apart = before

-- what is kept of a word, where another value is kept for one word alone
pub kept-but : (old new : BTreeMap WordKey (Vec Bit Global)) (b other : Bit) (w : Option (Vec Bit Global))
    → get key_cmp new (word_key other)
    ≡ cond (is_eq (key_cmp (word_key b) (word_key other))) w (get key_cmp old (word_key other))
    → word_at new other ≡ cond (is_of_word other b) (items_kept w) (word_at old other)
kept-but old new b other w is =
    ap items_kept is
    ∙ ap (λ t. items_kept (cond t w (get key_cmp old (word_key other)))) (keys_tie b other)
    ∙ at (is_of_word other b)
  where
    at : (t : Bool) → items_kept (cond t w (get key_cmp old (word_key other)))
        ≡ cond t (items_kept w) (word_at old other)
    at true = refl
    at false = refl

same-kept : (words : BTreeMap WordKey (Vec Bit Global)) (b other : Bit) → is_of_word other b ≡ true
    → word_at words b ≡ word_at words other
same-kept words b other h = let s = same-fields other b h in rw (s.0, s.1, s.2) refl

-- what is kept once a bit stands behind the others of its word
pub kept-more : (words : BTreeMap WordKey (Vec Bit Global)) (b other : Bit) (items : List Bit)
    → items ≡ word_at words b ++ b ∷ []
    → cond (is_of_word other b) items (cond (is_of_word other b) [] (word_at words other))
    ≡ word_at words other ++ cond (is_of_word other b) (b ∷ []) []
kept-more words b other items are = at (is_of_word other b) refl
  where
    at : (t : Bool) → is_of_word other b ≡ t
        → cond t items (cond t [] (word_at words other)) ≡ word_at words other ++ cond t (b ∷ []) []
    at true same = are ∙ ap (λ l. l ++ b ∷ []) (same-kept words b other same)
    at false apart = sym (append-nil (word_at words other))
