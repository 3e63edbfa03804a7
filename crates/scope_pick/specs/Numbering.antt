-- The numbers of scopes and wires: each is the index of its first declaration.
use Rattle.std.specs.Prelude.{ℕ, Bool, nat_eq, not, List, [], ◌∷◌, codes, unwrap_or}
use Rattle.std.specs.List.{position, list_any}
use Rattle.std.specs.Cmp.Lexicographic.{pointwise}
use Rattle.scope_pick.specs.declared.variable.Variable.{Variable}

-- the two stand in one scope
unfoldable pub is_beside : Variable → Variable → Bool
is_beside v w = pointwise nat_eq v.scope.items w.scope.items

-- the two are one wire: they have the same code
unfoldable pub is_same_wire : Variable → Variable → Bool
is_same_wire v w = pointwise nat_eq v.code.items w.code.items

-- types whose variables are no lines
abbrev pub other_kinds : List (List ℕ)
other_kinds =
    codes "real"
    ∷ codes "realtime"
    ∷ codes "shortreal"
    ∷ codes "string"
    ∷ codes "event"
    ∷ codes "parameter"
    ∷ codes "real_parameter"
    ∷ []

-- a variable of this type may be a line
unfoldable pub is_wire_kind : List ℕ → Bool
is_wire_kind kind = not (list_any (λ k. pointwise nat_eq kind k) other_kinds)

-- the number of a variable's scope: the index of the first declaration in it
unfoldable pub scope_number : List Variable → ℕ → Variable → ℕ
scope_number vs i v = unwrap_or (position (λ w. is_beside w v) vs) i

-- the number of a variable's wire: the index of the first declaration with its code
unfoldable pub wire_number : List Variable → ℕ → Variable → ℕ
wire_number vs i v = unwrap_or (position (λ w. is_same_wire w v) vs) i
