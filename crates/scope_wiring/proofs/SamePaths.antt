-- Paths whichever of their names are escaped.
use Rattle.std.proofs.Common.{◌≡◌, ◌∙◌, ◌≤◌, ℕ, Bool, true, false, nat_eq, not, ◌&&◌, List, [], ◌∷◌, length, refl, sym, ap, arith, eq-eqb}
use Rattle.std.specs.List.{filter}
use Rattle.std.specs.Cmp.Lexicographic.{pointwise}
use Rattle.scope_wiring.specs.Texts.{is_escape, bare_path, bare_from, is_same_path}

-- the path has no byte, or begins with one that no escaped name adds
abbrev pub begins_bare : List ℕ → Bool
begins_bare [] = true
begins_bare (byte ∷ path) = not (is_escape byte)

pub bare_begins : (path : List ℕ) → begins_bare (bare_from path) ≡ true
bare_begins [] = refl
bare_begins (byte ∷ path) = let rest = bare_begins path in grind (arith, rest)

pub bare_same : (path : List ℕ) → bare_path (bare_from path) ≡ bare_path path
unfolding bare_path
bare_same [] = refl
bare_same (byte ∷ path) = let rest = bare_same path in grind (arith, rest)

-- the length does not grow
pub bare_within : (path : List ℕ) → length (bare_from path) ≤ length path
bare_within [] = omega arith
bare_within (byte ∷ path) = let rest = bare_within path in grind (arith, rest)

pub begun : (one other : List ℕ) → is_same_path (bare_from one) (bare_from other) ≡ is_same_path one other
unfolding is_same_path
begun one other = rw (bare_same one) rw (bare_same other) refl

-- a byte that both begin with
pub same_on : (a b : ℕ) (left right : List ℕ) → not (is_escape a) ≡ true → not (is_escape b) ≡ true
    → is_same_path (a ∷ left) (b ∷ right) ≡ (nat_eq a b && is_same_path left right)
unfolding is_same_path bare_path
same_on a b left right h k = grind (arith, h, k)

pub same_short : (a : ℕ) (left : List ℕ) → not (is_escape a) ≡ true → is_same_path (a ∷ left) [] ≡ false
unfolding is_same_path bare_path
same_short a left h = grind (arith, h)

pub same_end : (right : List ℕ) → begins_bare right ≡ true → is_same_path [] right ≡ nat_eq (length right) 0
unfolding is_same_path bare_path
same_end [] h = refl
same_end (b ∷ right) h = grind (arith, h)

-- the test of what is left, where both begin with a byte
pub on_both : (one other left right more rest : List ℕ) (a b : ℕ)
    → left ≡ a ∷ more → right ≡ b ∷ rest → begins_bare left ≡ true → begins_bare right ≡ true
    → is_same_path left right ≡ is_same_path one other → a ≡ b
    → is_same_path (bare_from more) (bare_from rest) ≡ is_same_path one other
on_both one other left right more rest a b el er bl br is same =
    begun more rest
    ∙ sym (same_on a b more rest (sym (ap begins_bare el) ∙ bl) (sym (ap begins_bare er) ∙ br)
    ∙ ap (λ t. t && is_same_path more rest) (eq-eqb a b same))
    ∙ sym (ap (λ l. is_same_path l right) el ∙ ap (is_same_path (a ∷ more)) er)
    ∙ is

pub apart : (one other left right more rest : List ℕ) (a b : ℕ)
    → left ≡ a ∷ more → right ≡ b ∷ rest → begins_bare left ≡ true → begins_bare right ≡ true
    → is_same_path left right ≡ is_same_path one other → nat_eq a b ≡ false
    → false ≡ is_same_path one other
apart one other left right more rest a b el er bl br is other_byte =
    sym (ap (λ t. t && is_same_path more rest) other_byte)
    ∙ sym (same_on a b more rest (sym (ap begins_bare el) ∙ bl) (sym (ap begins_bare er) ∙ br))
    ∙ sym (ap (λ l. is_same_path l right) el ∙ ap (is_same_path (a ∷ more)) er)
    ∙ is

pub shorter : (one other left right more : List ℕ) (a : ℕ)
    → left ≡ a ∷ more → right ≡ [] → begins_bare left ≡ true
    → is_same_path left right ≡ is_same_path one other → false ≡ is_same_path one other
shorter one other left right more a el er bl is =
    sym (same_short a more (sym (ap begins_bare el) ∙ bl))
    ∙ sym (ap (λ l. is_same_path l right) el ∙ ap (is_same_path (a ∷ more)) er)
    ∙ is

pub at_end : (one other left right : List ℕ) → left ≡ [] → begins_bare right ≡ true
    → is_same_path left right ≡ is_same_path one other → nat_eq (length right) 0 ≡ is_same_path one other
at_end one other left right el br is =
    sym (same_end right br) ∙ sym (ap (λ l. is_same_path l right) el) ∙ is
