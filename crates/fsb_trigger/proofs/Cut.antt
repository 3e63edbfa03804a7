-- A text cut at a byte.
use Rattle.std.proofs.Common.{◌≡◌, ◌≢◌, ◌<◌, ◌+◌, ℕ, suc, Option, Some, None, List, [], ◌∷◌, ◌++◌, Bor, IfSome}
use Rattle.std.proofs.Common.{MatchOption, length, get_or, option_map, refl, sym, ap, ◌∙◌, inl, inr, arith, eqb, ne_eqb}
use Rattle.std.specs.Option.{option_map_or}
use Rattle.std.proofs.lemmas.Bool.{cases_Bool, eq-eqb}
use Rattle.std.proofs.lemmas.List.{length-append}
use Rattle.fsb_trigger.specs.Grammar.{onto_first, parts, cut_of, behind_first}

-- the byte is not in the text
abbrev pub Lacks : ℕ → List ℕ → Type 0
Lacks c xs = (i : ℕ) → i < length xs → get_or xs i 0 ≢ c

pub cut_of-there : (c : ℕ) (xs ys : List ℕ) → Lacks c xs → cut_of c (xs ++ c ∷ ys) ≡ Some (xs, ys)
unfolding cut_of
cut_of-there c [] ys h = rw (eq-eqb c c refl) refl
cut_of-there c (x ∷ xs) ys h =
    rw (ne_eqb x c (h 0 (omega arith)))
    (ap (option_map (λ cut. (x ∷ cut.0, cut.1))) (cut_of-there c xs ys (λ i less. h (suc i) (omega (arith, less)))))

pub cut_of-none : (c : ℕ) (xs : List ℕ) → Lacks c xs → cut_of c xs ≡ None
unfolding cut_of
cut_of-none c [] h = refl
cut_of-none c (x ∷ xs) h =
    rw (ne_eqb x c (h 0 (omega arith)))
    (ap (option_map (λ cut. (x ∷ cut.0, cut.1))) (cut_of-none c xs (λ i less. h (suc i) (omega (arith, less)))))

-- what cutting at an ASCII character gives
pub cut_is : (c : ℕ) (bs : List ℕ) (r : Option (Bor (List ℕ) × Bor (List ℕ)))
    → MatchOption r (Lacks c bs) (λ x. (bs ≡ x.0.now ++ (c ∷ x.1.now)) × Lacks c x.0.now)
    → (option_map (λ cut. (cut.0.now, cut.1.now)) r ≡ cut_of c bs) × IfSome r (λ cut. length cut.1.now < length bs)
cut_is c bs None h = (sym (cut_of-none c bs h), tt)
cut_is c bs (Some x) (e, lacks) =
    let long : length bs ≡ length x.0.now + suc (length x.1.now) = ap (λ l. length l) e
    ∙ length-append x.0.now (c ∷ x.1.now) in
    (sym (ap (cut_of c) e ∙ cut_of-there c x.0.now x.1.now lacks), omega (arith, long))

-- the first byte taken off
pub behind_is : (c : ℕ) (bs : List ℕ) (r : Option (Bor (List ℕ)))
    → MatchOption r ((rest : List ℕ) → bs ≢ c ∷ rest) (λ x. bs ≡ c ∷ x.now)
    → option_map (λ rest. rest.now) r ≡ behind_first c bs
unfolding behind_first
behind_is c [] None h = refl
behind_is c (b ∷ bs) None h = rw (ne_eqb b c (λ e. h bs (ap (λ y. y ∷ bs) e))) refl
behind_is c bs (Some x) e = sym (ap (behind_first c) e ∙ rw (eq-eqb c c refl) refl)

-- the parts of a text, by its first cut
abbrev pub parts_by : ℕ → List ℕ → Option (List ℕ × List ℕ) → List (List ℕ)
parts_by c text cut = option_map_or (λ cut. cut.0 ∷ parts c cut.1) cut (text ∷ [])

onto : (c x : ℕ) (xs : List ℕ) (cut : Option (List ℕ × List ℕ)) → parts c xs ≡ parts_by c xs cut
    → onto_first x (parts c xs) ≡ parts_by c (x ∷ xs) (option_map (λ cut. (x ∷ cut.0, cut.1)) cut)
unfolding onto_first
onto c x xs None e = ap (onto_first x) e
onto c x xs (Some cut) e = ap (onto_first x) e

pub parts-cut : (c : ℕ) (text : List ℕ) → parts c text ≡ parts_by c text (cut_of c text)
unfolding parts cut_of
parts-cut c [] = refl
parts-cut c (x ∷ xs) =
    elim (cases_Bool (eqb x c)) [
      | inl t ↦ rw t refl
      | inr f ↦ rw f (onto c x xs (cut_of c xs) (parts-cut c xs))
    ]

-- the first part, where there is a cut
pub parts-some : (c : ℕ) (text front back : List ℕ) → Some (front, back) ≡ cut_of c text
    → parts c text ≡ front ∷ parts c back
parts-some c text front back e = parts-cut c text ∙ ap (parts_by c text) (sym e)

-- the only part, where there is none
pub parts-none : (c : ℕ) (text : List ℕ) → None ≡ cut_of c text → parts c text ≡ text ∷ []
parts-none c text e = parts-cut c text ∙ ap (parts_by c text) (sym e)
