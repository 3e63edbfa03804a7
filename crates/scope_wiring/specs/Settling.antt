-- What the user asks for.
use Rattle.std.specs.Prelude.{ℕ, Bool, nat_eq, nat_lt, not, ◌&&◌, count_by, List, ◌++◌, map, Option, Some, None}
use Rattle.std.specs.List.{find}
use Rattle.scope_pick.specs.Places.{is_line_needed}
use Rattle.scope_wiring.specs.declared.text.LineOption.{LineOption}
use Rattle.scope_wiring.specs.declared.cause.Cause.{Cause}
use Rattle.scope_wiring.specs.declared.cause.Cause.TheVariants.{Needed, Twice}
use Rattle.scope_wiring.specs.Texts.{Said}

-- an option as what it says
abbrev pub said_by : LineOption → Said
said_by o = record { line = o.line; inverted = o.inverted; target = o.target.items }

-- the lines that the user named, and those that he left out
unfoldable pub settled_lines : List LineOption → List ℕ → List ℕ
settled_lines os without = map (λ o. o.line) os ++ without

-- a line that cannot be left out: a needed one but for the data
unfoldable pub is_fixed : ℕ → Bool
is_fixed line = nat_lt line 22 && not (nat_eq line 19) && is_line_needed line

-- the line is among these twice
unfoldable pub is_twice : List ℕ → ℕ → Bool
is_twice settled line = nat_lt 1 (count_by (λ n. nat_eq n line) settled)

-- the first line that is settled twice
unfoldable pub twice_cause : List ℕ → Option Cause
twice_cause settled =
    elim (find (is_twice settled) settled) [ None ↦ None | Some line ↦ Some (Twice line) ]

-- what is wrong with the options by themselves
unfoldable pub options_cause : List ℕ → List ℕ → Option Cause
options_cause settled without =
    elim (find is_fixed without) [
      | Some line ↦ Some (Needed line)
      | None ↦ twice_cause settled
    ]
