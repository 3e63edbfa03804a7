-- Why no scope is picked.
use Rattle.std.specs.Prelude.{◌≡◌, ◌≢◌, ℕ, true, false, List, [], Option, Some, None}
use Rattle.scope_pick.specs.declared.wires.Named.{Named}
use Rattle.scope_pick.specs.declared.scopes.ScopeFault.{ScopeFault}
use Rattle.scope_pick.specs.declared.scopes.ScopeFault.TheVariants.{Memory, Missing, Several}
use Rattle.scope_pick.specs.Scopes.{qualified, picked, buses, is_scope_needed}

-- no scope is judged only where none is needed
abbrev pub IsPicked : List Named → List ℕ → Option Named → Type 0
IsPicked ns settled None = is_scope_needed settled ≡ false
IsPicked ns settled (Some e) = picked ns settled ≡ Some e

-- the fault is told exactly where its cause holds; memory may lack at any time
abbrev pub IsScopeFault : List Named → List ℕ → ScopeFault → Type 0
IsScopeFault ns settled (Memory e) = Unit {0}
IsScopeFault ns settled Missing =
    (qualified ns settled ≡ []) × (is_scope_needed settled ≡ true)
IsScopeFault ns settled (Several scopes) =
    (qualified ns settled ≢ []) × (scopes.items ≡ buses ns settled) × (picked ns settled ≡ None)
