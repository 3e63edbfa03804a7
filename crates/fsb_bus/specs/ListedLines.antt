-- Lines that are listed as they are named.
use Rattle.std.specs.Prelude.{ℕ, ◌==◌, Bool, List}
use Rattle.std.specs.List.{list_any}

-- the line is one of these
abbrev pub is_listed : List ℕ → ℕ → Bool
is_listed lines line = list_any (λ other. other == line) lines
