-- The bounds of a part.
use Rattle.std.specs.Prelude.{ℕ, Bool, false, ◌||◌, nat_le, nat_lt, Option, Some, None}
use Rattle.scope_check.specs.declared.part.Begin.{Begin}
use Rattle.scope_check.specs.declared.part.Begin.TheVariants.{Known, At, Quiet}
use Rattle.scope_check.specs.declared.part.Bound.{Bound}
use Rattle.scope_check.specs.declared.part.Bound.TheVariants.{Clock, Time}

-- a clock of this number and time is at or above the bound
abbrev pub reaches : Bound → ℕ → ℕ → Bool
reaches (Clock least) clock time = nat_le least clock
reaches (Time least) clock time = nat_le least time

-- it is above the last one that may be judged
abbrev pub passes : Option Bound → ℕ → ℕ → Bool
passes None clock time = false
passes (Some (Clock last)) clock time = nat_lt last clock
passes (Some (Time last)) clock time = nat_lt last time

-- so many clocks are counted
abbrev pub most_counted : ℕ
most_counted = 4294967280

-- a part that begins so, behind so many clocks, begins later
abbrev pub begins_behind : Begin → ℕ → Bool
begins_behind Known clock = false
begins_behind (At bound) clock = nat_lt 0 clock
begins_behind (Quiet bound quiet) clock = nat_lt 0 clock

-- a part that begins so, behind so many clocks, among which the dump stopped or went on or did not, begins later: of what
-- came before nothing is known
abbrev pub begins_later : Begin → ℕ → Bool → Bool
begins_later begin clock has_stopped = has_stopped || begins_behind begin clock

-- the most events of which a part is told without being judged
abbrev pub most_parted : ℕ
most_parted = 18446744073709551615
