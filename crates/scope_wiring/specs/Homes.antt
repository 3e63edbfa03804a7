-- Which scope is judged.
use Rattle.std.specs.Prelude.{ℕ, Bool, false, nat_eq, not, ◌&&◌, length, slice_get, List, Option, Some, None, if◌then◌else◌}
use Rattle.std.specs.List.{position, find, list_any}
use Rattle.std.specs.Cmp.Lexicographic.{pointwise}
use Rattle.std.specs.declared.alloc.Global.{Global}
use Rattle.std.specs.declared.vec.Vec.{Vec}
use Rattle.scope_pick.specs.declared.variable.Variable.{Variable}
use Rattle.scope_pick.specs.declared.wires.Named.{Named}
use Rattle.scope_pick.specs.Scopes.{is_whole, qualified, is_fullest, is_scope_needed}
use Rattle.scope_wiring.specs.declared.cause.Cause.TheVariants.{NoScope, NotWhole, NoneWhole, Several}
use Rattle.scope_wiring.specs.declared.home.Home.{Home}
use Rattle.scope_wiring.specs.declared.home.Home.TheVariants.{Nowhere, At, Refused}
use Rattle.scope_wiring.specs.Texts.{scope_path, is_same_path}

-- the variable stands in the scope of this path
unfoldable pub is_in_scope : List ℕ → Variable → Bool
is_in_scope path v = pointwise nat_eq v.scope.items path

-- the number of the scope of this very path: its first declaration
unfoldable pub scope_at : List Variable → List ℕ → Option ℕ
scope_at vs path = position (is_in_scope path) vs

-- the variable stands in a scope of this path, whichever of its names are escaped
unfoldable pub is_in_like : List ℕ → Variable → Bool
is_in_like path v = is_same_path v.scope.items path

-- another variable does too, and its scope is another one
unfoldable pub is_in_other : List ℕ → Variable → Variable → Bool
is_in_other path v w = is_in_like path w && not (is_in_scope v.scope.items w)

-- there is one beside this variable
unfoldable pub has_other_scope : List Variable → List ℕ → Option Variable → Bool
has_other_scope vs path None = false
has_other_scope vs path (Some v) = list_any (is_in_other path v) vs

-- the number of the one scope of this path, whichever of its names are escaped
unfoldable pub scope_like : List Variable → List ℕ → Option ℕ
scope_like vs path =
    elim (position (is_in_like path) vs) [
      | None ↦ None
      | Some i ↦ if has_other_scope vs path (slice_get vs i) then None else Some i
    ]

-- the number of the scope that a path names: the one of this very path, or else the one that is like it
unfoldable pub scope_named : List Variable → List ℕ → Option ℕ
scope_named vs path =
    elim (scope_at vs path) [ Some i ↦ Some i | None ↦ scope_like vs path ]

-- the scope that the user names: it must have every needed line, and none that is ambiguous
unfoldable pub home_named : List Variable → List Named → List ℕ → List ℕ → Home
home_named vs ns settled text =
    elim (scope_named vs (scope_path text)) [
      | None ↦ Refused NoScope
      | Some scope ↦ if is_whole ns settled scope then At scope else Refused (NotWhole scope)
    ]

-- of the scopes that qualify the one that has the lines of all
unfoldable pub home_among : List Named → List ℕ → List Named → Home
home_among ns settled scopes =
    elim (find (is_fullest ns settled scopes) scopes) [
      | Some e ↦ At e.scope
      | None ↦ if nat_eq (length scopes) 0 then Refused NoneWhole else Refused Several
    ]

-- the scope that is judged where the user names none
unfoldable pub home_by_default : List Named → List ℕ → Home
home_by_default ns settled =
    if is_scope_needed settled then home_among ns settled (qualified ns settled) else Nowhere

-- the scope that is judged
unfoldable pub home_of : List Variable → List Named → List ℕ → Option (Vec ℕ Global) → Home
home_of vs ns settled None = home_by_default ns settled
home_of vs ns settled (Some text) = home_named vs ns settled text.items
