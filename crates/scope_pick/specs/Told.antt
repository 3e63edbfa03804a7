-- What is told of the scope that is judged.
use Rattle.std.specs.Prelude.{ℕ, Bool, nat_eq, not, is_none, ◌&&◌, List}
use Rattle.std.specs.List.{filter}
use Rattle.scope_pick.specs.declared.wires.Named.{Named}
use Rattle.scope_pick.specs.Scopes.{lines, is_for, is_ambiguous, found_in, is_listed}

-- the line is to be found in the scope, and is not
unfoldable pub is_unfound : List Named → List ℕ → ℕ → ℕ → Bool
is_unfound ns settled scope line =
    not (is_listed settled line) && is_none (found_in ns scope line)

-- the lines that are not found in the scope, but for the settled ones
unfoldable pub unfound_lines : List Named → List ℕ → ℕ → List ℕ
unfound_lines ns settled scope = filter (is_unfound ns settled scope) lines

-- the lines for which several wires have equally good names; they are not found either
unfoldable pub ambiguous_lines : List Named → List ℕ → ℕ → List ℕ
ambiguous_lines ns settled scope =
    filter (λ n. not (is_listed settled n) && is_ambiguous ns scope n) lines

-- the variable has another name for a line of its scope than the one that was taken
unfoldable pub is_other_name : Named → Named → Bool
is_other_name taken e = is_for taken.scope taken.line e && not (nat_eq e.index taken.index)

-- the other names that stand for the line of a variable in its scope
unfoldable pub other_names : List Named → Named → List Named
other_names ns taken = filter (is_other_name taken) ns
