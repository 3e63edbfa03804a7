-- The variables that are named like lines, by their scopes.
use Rattle.std.specs.Prelude.{◌≡◌, ℕ, nat_eq, List, [], Option, Some, None}
use Rattle.std.specs.List.{filter}
use Rattle.std.specs.Ordering.{nat_cmp}
use Rattle.std.specs.BTreeMap.{BTreeMap, get}
use Rattle.std.specs.declared.alloc.Global.{Global}
use Rattle.std.specs.declared.vec.Vec.{Vec}
use Rattle.scope_pick.specs.declared.wires.Named.{Named}

-- those of the scope, in the order of the header
abbrev pub in_scope : ℕ → List Named → List Named
in_scope scope ns = filter (λ (e : Named). nat_eq e.scope scope) ns

-- the items of a list that may be there
abbrev pub items_of : Option (Vec Named Global) → List Named
items_of None = []
items_of (Some group) = group.items

-- what is kept for the scope
abbrev pub group_at : BTreeMap ℕ (Vec Named Global) → ℕ → List Named
group_at groups scope = items_of (get nat_cmp groups scope)

-- each scope's are kept
abbrev pub AreGroups : BTreeMap ℕ (Vec Named Global) → List Named → Type 0
AreGroups groups ns = (scope : ℕ) → group_at groups scope ≡ in_scope scope ns
