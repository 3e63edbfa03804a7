-- The keys of the long codes in their tree.
use Rattle.std.proofs.Common.{◌≡◌, ℕ, ◌+◌, ◌^◌, ◌<◌, ◌≤◌, Bool, true, false, List, [], ◌∷◌, length, ◌==◌, Option}
use Rattle.std.proofs.Common.{Some, None, cond, nat_cmp, Ordering, Less, Equal, Greater, refl, sym, ap, subst, ◌∙◌}
use Rattle.std.proofs.Common.{arith, nat_le, suc, Vec}
use Rattle.std.specs.Ordering.{is_eq}
use Rattle.std.specs.BTreeMap.{insert_entry}
use Rattle.std.specs.Cmp.Lexicographic.{slice_cmp, same_text, texts_ties, nat_list_eq_equiv}
use Rattle.std.proofs.lemmas.Bool.{false≢true, eqb-true, eqb-false, eq-eqb, ne_eqb}
use Rattle.vcd_read.specs.CodesView.{LongKept, KeepsLong, key_at, key_of, word_at, packed}

none-some : {X : Type 0} {P : Type 0} (x : X) → ◌≡◌ {A = Option X} None (Some x) → P
none-some x h = absurd cc

some-same : {X : Type 0} (a b : X) → ◌≡◌ {A = Option X} (Some a) (Some b) → a ≡ b
some-same a b h = cc

-- equal codes are one
one_text : (a b : List ℕ) → is_eq (slice_cmp nat_cmp a b) ≡ true → a ≡ b
one_text a b h = same_text a b (sym (texts_ties a b ∙ h))

-- a code is equal to itself
itself : (a : List ℕ) → is_eq (slice_cmp nat_cmp a a) ≡ true
itself a = sym (texts_ties a a) ∙ nat_list_eq_equiv.refl a

module _ {A : Type 0} where
  -- the order of the tree
  abbrev pub by_bytes : Vec ℕ A → Vec ℕ A → Ordering
  by_bytes a b = slice_cmp nat_cmp a.items b.items

  -- the keys, once a code that was not there has got one
  key_put :
      (es : List (Vec ℕ A × ℕ)) (word : Vec ℕ A) (new : ℕ) (code : List ℕ) → key_at es word.items ≡ None
      → key_at (insert_entry by_bytes es word new) code
      ≡ cond (is_eq (slice_cmp nat_cmp code word.items)) (Some new) (key_at es code)
  key_put [] word new code absent = refl
  key_put (e ∷ es) word new code absent =
      by (by_bytes word e.0) refl (λ none. key_put es word new code none)
    where
      by : (o : Ordering) → by_bytes word e.0 ≡ o
          → (key_at es word.items ≡ None → key_at (insert_entry by_bytes es word new) code
          ≡ cond (is_eq (slice_cmp nat_cmp code word.items)) (Some new) (key_at es code))
          → key_at (insert_entry by_bytes (e ∷ es) word new) code
          ≡ cond (is_eq (slice_cmp nat_cmp code word.items)) (Some new) (key_at (e ∷ es) code)
      by Less o rest = rw o refl
      by Equal o rest = none-some e.1 (sym (rw o at absent))
      by Greater o rest =
          rw o (both (is_eq (slice_cmp nat_cmp code e.0.items)) (is_eq (slice_cmp nat_cmp code word.items)) refl refl
          (rest (rw o at absent)))
        where
          both : (a b : Bool) → is_eq (slice_cmp nat_cmp code e.0.items) ≡ a → is_eq (slice_cmp nat_cmp code word.items) ≡ b
              → key_at (insert_entry by_bytes es word new) code
              ≡ cond (is_eq (slice_cmp nat_cmp code word.items)) (Some new) (key_at es code)
              → cond (is_eq (slice_cmp nat_cmp code e.0.items)) (Some e.1) (key_at (insert_entry by_bytes es word new) code)
              ≡ cond (is_eq (slice_cmp nat_cmp code word.items)) (Some new)
              (cond (is_eq (slice_cmp nat_cmp code e.0.items)) (Some e.1) (key_at es code))
          both true true a b more =
              let one : word.items ≡ e.0.items = sym (one_text code word.items b) ∙ one_text code e.0.items a in
              absurd (false≢true (sym (ap is_eq o) ∙ ap (λ w. is_eq (slice_cmp nat_cmp w e.0.items)) one
              ∙ itself e.0.items))
          both true false a b more = rw (a, b) refl
          both false b a k more = rw a more

  -- the codes of the keys then
  word_put :
      (es : List (Vec ℕ A × ℕ)) (word : Vec ℕ A) (new key : ℕ) → key_at es word.items ≡ None
      → word_at es new ≡ None
      → word_at (insert_entry by_bytes es word new) key ≡ cond (new == key) (Some word.items) (word_at es key)
  word_put [] word new key absent free = refl
  word_put (e ∷ es) word new key absent free =
      by (by_bytes word e.0) refl (λ none. word_put es word new key none)
    where
      by : (o : Ordering) → by_bytes word e.0 ≡ o
          → (key_at es word.items ≡ None → word_at es new ≡ None
          → word_at (insert_entry by_bytes es word new) key ≡ cond (new == key) (Some word.items) (word_at es key))
          → word_at (insert_entry by_bytes (e ∷ es) word new) key
          ≡ cond (new == key) (Some word.items) (word_at (e ∷ es) key)
      by Less o rest = rw o refl
      by Equal o rest = none-some e.1 (sym (rw o at absent))
      by Greater o rest = rw o (one (e.1 == new) refl)
        where
          one : (t : Bool) → (e.1 == new) ≡ t
              → cond (e.1 == key) (Some e.0.items) (word_at (insert_entry by_bytes es word new) key)
              ≡ cond (new == key) (Some word.items) (cond (e.1 == key) (Some e.0.items) (word_at es key))
          one true t = none-some e.0.items (sym (rw t at free))
          one false t = both (e.1 == key) (new == key) refl refl (rest (rw o at absent) (rw t at free))
            where
              both : (a b : Bool) → (e.1 == key) ≡ a → (new == key) ≡ b
                  → word_at (insert_entry by_bytes es word new) key ≡ cond (new == key) (Some word.items) (word_at es key)
                  → cond (e.1 == key) (Some e.0.items) (word_at (insert_entry by_bytes es word new) key)
                  ≡ cond (new == key) (Some word.items) (cond (e.1 == key) (Some e.0.items) (word_at es key))
              both true true a b more =
                  absurd (eqb-false e.1 new t (eqb-true e.1 key a ∙ sym (eqb-true new key b)))
              both true false a b more = rw (a, b) refl
              both false b a k more = rw a more

  length_put :
      (es : List (Vec ℕ A × ℕ)) (word : Vec ℕ A) (new : ℕ) → key_at es word.items ≡ None
      → length (insert_entry by_bytes es word new) ≡ suc (length es)
  length_put [] word new absent = refl
  length_put (e ∷ es) word new absent = by (by_bytes word e.0) refl (λ none. length_put es word new none)
    where
      by : (o : Ordering) → by_bytes word e.0 ≡ o
          → (key_at es word.items ≡ None → length (insert_entry by_bytes es word new) ≡ suc (length es))
          → length (insert_entry by_bytes (e ∷ es) word new) ≡ suc (length (e ∷ es))
      by Less o rest = rw o refl
      by Equal o rest = none-some e.1 (sym (rw o at absent))
      by Greater o rest = rw o (ap suc (rest (rw o at absent)))

  pub kept_none : (es : List (Vec ℕ A × ℕ)) → es ≡ [] → LongKept es
  kept_none es h = subst LongKept (sym h) (record { told = λ code key k. none-some key k; within = λ key w k. none-some w k })

  -- a code without a key is not among the long ones
  pub absent_of : (es : List (Vec ℕ A × ℕ)) (code word : List ℕ) → key_of es code ≡ None → word ≡ code
      → key_at es word ≡ None
  absent_of es code word h is = ap (key_at es) is ∙ by (nat_le (length code) 7) refl
    where
      by : (b : Bool) → nat_le (length code) 7 ≡ b → key_at es code ≡ None
      by true t = none-some (packed code) (sym (rw t at h))
      by false t = rw t at h

  -- no code has the key behind the last one
  free : (es : List (Vec ℕ A × ℕ)) → LongKept es → word_at es (2 ^ 63 + length es) ≡ None
  free es kept = by (word_at es (2 ^ 63 + length es)) refl
    where
      by : (o : Option (List ℕ)) → word_at es (2 ^ 63 + length es) ≡ o → word_at es (2 ^ 63 + length es) ≡ None
      by None t = t
      by (Some word) t = absurd (omega (arith, (kept.within (2 ^ 63 + length es) word t).1))

  -- what the tree keeps, once a code that was not there has got the key behind the last one
  pub kept_put :
      (es : List (Vec ℕ A × ℕ)) (word : Vec ℕ A) → LongKept es → key_at es word.items ≡ None
      → LongKept (insert_entry by_bytes es word (2 ^ 63 + length es))
  kept_put es word kept absent = record { told = told; within = within }
    where
      new : ℕ
      new = 2 ^ 63 + length es

      key_is : (code : List ℕ) → key_at (insert_entry by_bytes es word new) code
          ≡ cond (is_eq (slice_cmp nat_cmp code word.items)) (Some new) (key_at es code)
      key_is code = key_put es word new code absent

      word_is : (key : ℕ) → word_at (insert_entry by_bytes es word new) key
          ≡ cond (new == key) (Some word.items) (word_at es key)
      word_is key = word_put es word new key absent (free es kept)

      told : (code : List ℕ) (key : ℕ) → key_at (insert_entry by_bytes es word new) code ≡ Some key
          → word_at (insert_entry by_bytes es word new) key ≡ Some code
      told code key h = by (is_eq (slice_cmp nat_cmp code word.items)) refl (sym (key_is code) ∙ h)
        where
          by : (b : Bool) → is_eq (slice_cmp nat_cmp code word.items) ≡ b
              → cond (is_eq (slice_cmp nat_cmp code word.items)) (Some new) (key_at es code) ≡ Some key
              → word_at (insert_entry by_bytes es word new) key ≡ Some code
          by true b k =
              let is : new ≡ key = some-same new key (rw b at k) in
              word_is key ∙ rw (eq-eqb new key is) (ap Some (sym (one_text code word.items b)))
          by false b k =
              let there : word_at es key ≡ Some code = kept.told code key (rw b at k) in
              let below = (kept.within key code there).1 in
              word_is key ∙ rw (ne_eqb new key (λ e. omega (arith, e, below))) there

      within : (key : ℕ) (w : List ℕ) → word_at (insert_entry by_bytes es word new) key ≡ Some w
          → (2 ^ 63 ≤ key) × (key < 2 ^ 63 + length (insert_entry by_bytes es word new))
      within key w h = by (new == key) refl (sym (word_is key) ∙ h)
        where
          by : (b : Bool) → (new == key) ≡ b → cond (new == key) (Some word.items) (word_at es key) ≡ Some w
              → (2 ^ 63 ≤ key) × (key < 2 ^ 63 + length (insert_entry by_bytes es word new))
          by true b k =
              let is = eqb-true new key b in
              (omega (arith, is), omega (arith, is, length_put es word new absent))
          by false b k =
              let old = kept.within key w (rw b at k) in
              (old.0, omega (arith, old.1, length_put es word new absent))

  -- the codes before keep their keys
  pub keeps_put :
      (es : List (Vec ℕ A × ℕ)) (word : Vec ℕ A) → LongKept es → key_at es word.items ≡ None
      → KeepsLong es (insert_entry by_bytes es word (2 ^ 63 + length es))
  keeps_put es word kept absent = record { keys = keys; words = words }
    where
      new : ℕ
      new = 2 ^ 63 + length es

      keys : (code : List ℕ) (key : ℕ) → key_at es code ≡ Some key
          → key_at (insert_entry by_bytes es word new) code ≡ Some key
      keys code key h = key_put es word new code absent ∙ by (is_eq (slice_cmp nat_cmp code word.items)) refl
        where
          by : (b : Bool) → is_eq (slice_cmp nat_cmp code word.items) ≡ b
              → cond (is_eq (slice_cmp nat_cmp code word.items)) (Some new) (key_at es code) ≡ Some key
          by true b = none-some key (sym absent ∙ ap (key_at es) (sym (one_text code word.items b)) ∙ h)
          by false b = rw b h

      words : (key : ℕ) (w : List ℕ) → word_at es key ≡ Some w
          → word_at (insert_entry by_bytes es word new) key ≡ Some w
      words key w h =
          let below = (kept.within key w h).1 in
          word_put es word new key absent (free es kept) ∙ rw (ne_eqb new key (λ e. omega (arith, e, below))) h

  pub key_is_put :
      (es : List (Vec ℕ A × ℕ)) (word : Vec ℕ A) (new : ℕ) → key_at es word.items ≡ None
      → key_at (insert_entry by_bytes es word new) word.items ≡ Some new
  key_is_put es word new absent = key_put es word new word.items absent ∙ rw (itself word.items) refl
