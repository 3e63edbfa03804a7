-- What one more code makes of the places.
use Rattle.std.proofs.Common.{◌≡◌, ℕ, Bool, true, false, nat_eq, nat_lt, nat_cmp, List, [], ◌∷◌, Option, Some, None, Result, Ok, Err, cond}
use Rattle.std.proofs.Common.{Vec, Ordering, Less, Equal, Greater, refl, sym, ap, ◌∙◌}
use Rattle.std.proofs.lemmas.Bool.{false≢true, eqb-true}
use Rattle.std.specs.BTreeMap.{insert_entry, is_at}
use Rattle.std.specs.Map.{lookup}
use Rattle.std.specs.Result.{OnOk}
use Rattle.std.specs.Ordering.{is_eq}
use Rattle.std.specs.Cmp.Lexicographic.{slice_cmp, same_text, texts_ties, nat_list_eq_equiv}
use Rattle.steady_map.specs.Entries.{get}
use Rattle.vcd_grammar.specs.Words.{same}
use Rattle.vcd_scan.specs.CodeNumbers.{number_of}
use Rattle.vcd_scan.specs.CodePlaces.{low_place, place_at, place_by, first_of, Puts}
use Rattle.vcd_scan.specs.declared.places.CodePlaces.{CodePlaces}
use Rattle.vcd_scan.proofs.NumberLemmas.{same_number, other_number, none_number}

none-some : {X P : Type 0} (x : X) → ◌≡◌ {A = Option X} None (Some x) → P
none-some x h = absurd cc

-- where the code has a number
by_number : (old new : CodePlaces) (code other : List ℕ) (number place : ℕ) → number_of code ≡ Some number
    → place_at new other None ≡ place_at old other None
    → ((m : ℕ) → place_at new other (Some m) ≡ cond (nat_eq number m) (Some place) (place_at old other (Some m)))
    → place_by new other ≡ cond (same code other) (Some place) (place_by old other)
by_number old new code other number place h none some = by (number_of other) refl
  where
    by : (o : Option ℕ) → number_of other ≡ o
        → place_by new other ≡ cond (same code other) (Some place) (place_by old other)
    by None t = ap (place_at new other) t ∙ none
        ∙ sym (ap (λ b. cond b (Some place) (place_by old other)) (other_number code other number h t)
        ∙ ap (place_at old other) t)
    by (Some m) t = ap (place_at new other) t ∙ some m
        ∙ (λ i. cond (same_number code other number m h t i) (Some place) (place_at old other (sym t i)))

pub puts_low : (old new : CodePlaces) (code : List ℕ) (number place : ℕ) → number_of code ≡ Some number
    → nat_lt number 65536 ≡ true → new.high ≡ old.high → new.others ≡ old.others
    → ((m : ℕ) → low_place new.low.items m ≡ cond (nat_eq number m) (Some place) (low_place old.low.items m))
    → Puts old new code place
puts_low old new code number place h small high others low other =
    by_number old new code other number place h
    (ap (λ m. lookup (is_at (λ v. slice_cmp nat_cmp other v.items)) m.entries) others)
    (λ m. by m (nat_lt m 65536) refl)
  where
    by : (m : ℕ) (b : Bool) → nat_lt m 65536 ≡ b
        → place_at new other (Some m) ≡ cond (nat_eq number m) (Some place) (place_at old other (Some m))
    by m true t = rw t (low m)
    by m false t = rw t (ap (λ s. get s m) high ∙ apart (nat_eq number m) refl)
      where
        apart : (b : Bool) → nat_eq number m ≡ b → get old.high m ≡ cond (nat_eq number m) (Some place) (get old.high m)
        apart true e = absurd (false≢true (sym t ∙ ap (λ n. nat_lt n 65536) (sym (eqb-true number m e)) ∙ small))
        apart false e = rw e refl

pub puts_high : (old new : CodePlaces) (code : List ℕ) (number place : ℕ) → number_of code ≡ Some number
    → nat_lt number 65536 ≡ false → new.low ≡ old.low → new.others ≡ old.others
    → ((m : ℕ) → get new.high m ≡ cond (nat_eq number m) (Some place) (get old.high m))
    → Puts old new code place
puts_high old new code number place h large low others high other =
    by_number old new code other number place h
    (ap (λ m. lookup (is_at (λ v. slice_cmp nat_cmp other v.items)) m.entries) others)
    (λ m. by m (nat_lt m 65536) refl)
  where
    by : (m : ℕ) (b : Bool) → nat_lt m 65536 ≡ b
        → place_at new other (Some m) ≡ cond (nat_eq number m) (Some place) (place_at old other (Some m))
    by m false t = rw t (high m)
    by m true t = rw t (ap (λ v. low_place v.items m) low ∙ apart (nat_eq number m) refl)
      where
        apart : (b : Bool) → nat_eq number m ≡ b
            → low_place old.low.items m ≡ cond (nat_eq number m) (Some place) (low_place old.low.items m)
        apart true e = absurd (false≢true (sym large ∙ ap (λ n. nat_lt n 65536) (eqb-true number m e) ∙ t))
        apart false e = rw e refl

-- the same, where it has none
pub puts_other : (old new : CodePlaces) (code : List ℕ) (place : ℕ) → number_of code ≡ None
    → new.low ≡ old.low → new.high ≡ old.high
    → ((other : List ℕ) → place_at new other None ≡ cond (same code other) (Some place) (place_at old other None))
    → Puts old new code place
puts_other old new code place h low high at other = by (number_of other) refl
  where
    by : (o : Option ℕ) → number_of other ≡ o
        → place_by new other ≡ cond (same code other) (Some place) (place_by old other)
    by None t = ap (place_at new other) t ∙ at other
        ∙ sym (ap (λ o. cond (same code other) (Some place) (place_at old other o)) t)
    by (Some m) t = ap (place_at new other) t
        ∙ (λ i. cond (nat_lt m 65536) (low_place (low i).items m) (get (high i) m))
        ∙ sym (ap (λ b. cond b (Some place) (place_by old other)) (none_number code other m h t)
        ∙ ap (place_at old other) t)

-- a code that has a place keeps it
pub there : (t : CodePlaces) (code : List ℕ) (old place : ℕ) → place_by t code ≡ Some old
    → (other : List ℕ) → place_by t other ≡ first_of (place_by t other) (same code other) place
there t code old place h other = by (same code other) (place_by t other) refl refl
  where
    by : (b : Bool) (o : Option ℕ) → same code other ≡ b → place_by t other ≡ o
        → place_by t other ≡ first_of (place_by t other) (same code other) place
    by b (Some p) e k = rw k refl
    by false None e k = rw (k, e) refl
    by true None e k = none-some old (sym k ∙ ap (place_by t) (sym (same_text code other (sym e))) ∙ h)

-- a code that had none has got one
pub new_there : (old new : CodePlaces) (code : List ℕ) (place : ℕ) → place_by old code ≡ None → Puts old new code place
    → (other : List ℕ) → place_by new other ≡ first_of (place_by old other) (same code other) place
new_there old new code place h puts other = by (same code other) (place_by old other) refl refl
  where
    by : (b : Bool) (o : Option ℕ) → same code other ≡ b → place_by old other ≡ o
        → place_by new other ≡ first_of (place_by old other) (same code other) place
    by false None e k = puts other ∙ rw (e, k) refl
    by false (Some p) e k = puts other ∙ rw (e, k) refl
    by true None e k = puts other ∙ rw (e, k) refl
    by true (Some p) e k = none-some p (sym h ∙ ap (place_by old) (same_text code other (sym e)) ∙ k)

-- equal codes are one
one_text : (a b : List ℕ) → is_eq (slice_cmp nat_cmp a b) ≡ true → a ≡ b
one_text a b h = same_text a b (sym (texts_ties a b ∙ h))

-- a code is equal to itself
itself : (a : List ℕ) → is_eq (slice_cmp nat_cmp a a) ≡ true
itself a = sym (texts_ties a a) ∙ nat_list_eq_equiv.refl a

-- the same, the other way round
turned : (a b : List ℕ) → is_eq (slice_cmp nat_cmp a b) ≡ same b a
turned a b = by (is_eq (slice_cmp nat_cmp a b)) (same b a) refl refl
  where
    by : (x y : Bool) → is_eq (slice_cmp nat_cmp a b) ≡ x → same b a ≡ y → is_eq (slice_cmp nat_cmp a b) ≡ same b a
    by true true h k = h ∙ sym k
    by false false h k = h ∙ sym k
    by true false h k = absurd (false≢true (sym k ∙ ap (λ w. same w a) (sym (one_text a b h)) ∙ nat_list_eq_equiv.refl a))
    by false true h k = absurd (false≢true (sym h ∙ ap (λ w. is_eq (slice_cmp nat_cmp a w)) (same_text b a (sym k)) ∙ itself a))

module _ {A : Type 0} where
  -- the order of the tree
  abbrev pub by_bytes : Vec ℕ A → Vec ℕ A → Ordering
  by_bytes a b = slice_cmp nat_cmp a.items b.items

  -- the place of a code in the tree
  abbrev at_code : List (Vec ℕ A × ℕ) → List ℕ → Option ℕ
  at_code es code = lookup (is_at (λ v. slice_cmp nat_cmp code v.items)) es

  -- the tree, once a code that was not there has got a place
  key_put :
      (es : List (Vec ℕ A × ℕ)) (word : Vec ℕ A) (new : ℕ) (code : List ℕ) → at_code es word.items ≡ None
      → at_code (insert_entry by_bytes es word new) code
      ≡ cond (is_eq (slice_cmp nat_cmp code word.items)) (Some new) (at_code es code)
  key_put [] word new code absent = refl
  key_put (e ∷ es) word new code absent =
      by (by_bytes word e.0) refl (λ none. key_put es word new code none)
    where
      by : (o : Ordering) → by_bytes word e.0 ≡ o
          → (at_code es word.items ≡ None → at_code (insert_entry by_bytes es word new) code
          ≡ cond (is_eq (slice_cmp nat_cmp code word.items)) (Some new) (at_code es code))
          → at_code (insert_entry by_bytes (e ∷ es) word new) code
          ≡ cond (is_eq (slice_cmp nat_cmp code word.items)) (Some new) (at_code (e ∷ es) code)
      by Less o rest = rw o refl
      by Equal o rest = none-some e.1 (sym (rw o at absent))
      by Greater o rest =
          rw o (both (is_eq (slice_cmp nat_cmp code e.0.items)) (is_eq (slice_cmp nat_cmp code word.items)) refl refl
          (rest (rw o at absent)))
        where
          both : (a b : Bool) → is_eq (slice_cmp nat_cmp code e.0.items) ≡ a → is_eq (slice_cmp nat_cmp code word.items) ≡ b
              → at_code (insert_entry by_bytes es word new) code
              ≡ cond (is_eq (slice_cmp nat_cmp code word.items)) (Some new) (at_code es code)
              → cond (is_eq (slice_cmp nat_cmp code e.0.items)) (Some e.1) (at_code (insert_entry by_bytes es word new) code)
              ≡ cond (is_eq (slice_cmp nat_cmp code word.items)) (Some new)
              (cond (is_eq (slice_cmp nat_cmp code e.0.items)) (Some e.1) (at_code es code))
          both true true a b more =
              let one : word.items ≡ e.0.items = sym (one_text code word.items b) ∙ one_text code e.0.items a in
              absurd (false≢true (sym (ap is_eq o) ∙ ap (λ w. is_eq (slice_cmp nat_cmp w e.0.items)) one
              ∙ itself e.0.items))
          both true false a b more = rw (a, b) refl
          both false b a k more = rw a more

  pub added_code : (es : List (Vec ℕ A × ℕ)) (word : Vec ℕ A) (place : ℕ) (code other : List ℕ) → word.items ≡ code
      → at_code es code ≡ None
      → at_code (insert_entry by_bytes es word place) other ≡ cond (same code other) (Some place) (at_code es other)
  added_code es word place code other is absent =
      key_put es word place other (ap (at_code es) is ∙ absent)
      ∙ ap (λ b. cond b (Some place) (at_code es other)) (turned other word.items ∙ ap (λ w. same w other) is)

-- what holds of an Ok by another fact
pub on_ok : {T E P Q : Type 0} (r : Result T E) → (P → Q) → OnOk r P → OnOk r Q
on_ok (Ok x) f p = f p
on_ok (Err e) f p = tt
