-- A list of parts, read one behind the other.
use Rattle.std.proofs.Common.{◌≡◌, ◌+◌, ℕ, suc, true, false, cond, Option, Some, None, option_map, option_and_then}
use Rattle.std.proofs.Common.{List, [], ◌∷◌, ◌++◌, length, map, nat_lt, nat_le, refl, sym, ap, ◌∙◌, inl, inr, arith}
use Rattle.std.proofs.Common.{append_assoc}
use Rattle.std.proofs.lemmas.Bool.{cases_Bool}
use Rattle.std.proofs.lemmas.Bool.Decides.{nat_tests}
use Rattle.std.proofs.lemmas.List.{length-append}
use Rattle.fsb_trigger.specs.Grammar.{both, all_there, up_to_eight, next_of}

-- what a list of parts is read as behind values that were read
abbrev pub list_behind : {X : Type 0} → (List ℕ → Option X) → List X → List (List ℕ) → Option (List X)
list_behind read xs texts = option_and_then up_to_eight (option_map (λ more. xs ++ more) (all_there (map read texts)))

module _ {X : Type 0} where
  onto : List X → Option X → Option (List X)
  onto xs one = cond (nat_lt (length xs) 8) (option_map (λ x. xs ++ x ∷ []) one) None

  whole : List X → Option X → Option (List X) → Option (List X)
  whole xs one more = option_and_then up_to_eight (option_map (λ more. xs ++ more) (both (λ x xs. x ∷ xs) one more))

  -- one value more than there is room for
  over : (xs : List X) (x : X) (more : List X) → nat_lt (length xs) 8 ≡ false → up_to_eight (xs ++ x ∷ more) ≡ None
  unfolding up_to_eight
  over xs x more full =
      let long : length (xs ++ x ∷ more) ≡ length xs + suc (length more) = length-append xs (x ∷ more) in
      let no : nat_le (length (xs ++ x ∷ more)) 8 ≡ false = grind (arith, nat_tests) in
      rw no refl

  whole-none : (xs : List X) (one : Option X) (more : Option (List X)) → onto xs one ≡ None → whole xs one more ≡ None
  unfolding onto whole both
  whole-none xs None more e = refl
  whole-none xs (Some x) None e = refl
  whole-none xs (Some x) (Some more) e =
      elim (cases_Bool (nat_lt (length xs) 8)) [
        | inl t ↦ absurd (let no : ⊥ = (let s : Some (xs ++ x ∷ []) ≡ None = rw t at e in cc) in no)
        | inr f ↦ over xs x more f
      ]

  whole-some : (xs ys : List X) (one : Option X) (more : Option (List X)) → onto xs one ≡ Some ys
      → whole xs one more ≡ option_and_then up_to_eight (option_map (λ more. ys ++ more) more)
  unfolding onto whole both
  whole-some xs ys None more e =
      elim (cases_Bool (nat_lt (length xs) 8)) [
        | inl t ↦ absurd (let no : ⊥ = (let s : None ≡ Some ys = rw t at e in cc) in no)
        | inr f ↦ absurd (let no : ⊥ = (let s : None ≡ Some ys = rw f at e in cc) in no)
      ]
  whole-some xs ys (Some x) None e = refl
  whole-some xs ys (Some x) (Some more) e =
      elim (cases_Bool (nat_lt (length xs) 8)) [
        | inl t ↦
            (let same : xs ++ x ∷ [] ≡ ys = (let s : Some (xs ++ x ∷ []) ≡ Some ys = rw t at e in cc) in
            ap (λ l. up_to_eight l) (sym (append_assoc xs (x ∷ []) more) ∙ ap (λ l. l ++ more) same))
        | inr f ↦ absurd (let no : ⊥ = (let s : None ≡ Some ys = rw f at e in cc) in no)
      ]

  whole-last : (xs : List X) (one : Option X) → onto xs one ≡ whole xs one (Some [])
  unfolding onto whole both up_to_eight
  whole-last xs None =
      elim (cases_Bool (nat_lt (length xs) 8)) [ inl t ↦ rw t refl | inr f ↦ rw f refl ]
  whole-last xs (Some x) =
      elim (cases_Bool (nat_lt (length xs) 8)) [
        | inl t ↦
            (let long : length (xs ++ x ∷ []) ≡ length xs + 1 = length-append xs (x ∷ []) in
            let yes : nat_le (length (xs ++ x ∷ [])) 8 ≡ true = grind (arith, nat_tests) in
            rw (t, yes) refl)
        | inr f ↦ rw f (sym (over xs x [] f))
      ]

  -- the first part is not read
  pub list_behind-none : (read : List ℕ → Option X) (xs : List X) (p : List ℕ) (ps : List (List ℕ))
      → next_of read xs p ≡ None → list_behind read xs (p ∷ ps) ≡ None
  unfolding next_of all_there onto whole
  list_behind-none read xs p ps e = whole-none xs (read p) (all_there (map read ps)) e

  -- the first part is read
  pub list_behind-some : (read : List ℕ → Option X) (xs ys : List X) (p : List ℕ) (ps : List (List ℕ))
      → next_of read xs p ≡ Some ys → list_behind read xs (p ∷ ps) ≡ list_behind read ys ps
  unfolding next_of all_there onto whole
  list_behind-some read xs ys p ps e = whole-some xs ys (read p) (all_there (map read ps)) e

  -- the last part
  pub list_behind-last : (read : List ℕ → Option X) (xs : List X) (p : List ℕ)
      → next_of read xs p ≡ list_behind read xs (p ∷ [])
  unfolding next_of all_there onto whole
  list_behind-last read xs p = whole-last xs (read p)

  same : (more : Option (List X))
      → option_and_then up_to_eight (option_map (λ more. [] ++ more) more) ≡ option_and_then up_to_eight more
  same None = refl
  same (Some more) = refl

  -- nothing was read before
  pub list_behind-begins : (read : List ℕ → Option X) (ps : List (List ℕ))
      → list_behind read [] ps ≡ option_and_then up_to_eight (all_there (map read ps))
  list_behind-begins read ps = same (all_there (map read ps))
