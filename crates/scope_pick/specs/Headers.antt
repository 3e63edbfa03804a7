-- Where texts of a header came first.
use Rattle.std.specs.Prelude.{◌≡◌, ℕ, nat_eq, List, map, Option}
use Rattle.std.specs.List.{position}
use Rattle.std.specs.Ordering.{nat_cmp}
use Rattle.std.specs.Cmp.Lexicographic.{pointwise, slice_cmp}
use Rattle.std.specs.BTreeMap.{BTreeMap, get_by}
use Rattle.scope_pick.specs.declared.variable.Variable.{Variable}
use denote.Ref.{Bor}

-- what is kept for a text
abbrev pub kept_at : BTreeMap (Bor (List ℕ)) ℕ → List ℕ → Option ℕ
kept_at firsts text = get_by (λ k. slice_cmp nat_cmp text k.now) firsts

-- the place of the first of these that is the text
abbrev pub place_in : List (List ℕ) → List ℕ → Option ℕ
place_in texts text = position (λ t. pointwise nat_eq t text) texts

-- the place of each text's first is kept
abbrev pub AreFirsts : BTreeMap (Bor (List ℕ)) ℕ → List (List ℕ) → Type 0
AreFirsts firsts texts = (text : List ℕ) → kept_at firsts text ≡ place_in texts text

-- the scopes of these variables
abbrev pub scopes_in : List Variable → List (List ℕ)
scopes_in vs = map (λ v. v.scope.items) vs

-- their codes
abbrev pub codes_in : List Variable → List (List ℕ)
codes_in vs = map (λ v. v.code.items) vs

-- the first of each scope and of each code is kept
pub record AreKept (scopes codes : BTreeMap (Bor (List ℕ)) ℕ) (vs : List Variable) : Type 0 where
  pub by_scope : AreFirsts scopes (scopes_in vs)
  pub by_code : AreFirsts codes (codes_in vs)
