-- Which other ways to read a rejected dump get further.
use Rattle.std.specs.Prelude.{ℕ, Bool, nat_lt, ◌+◌, Option, Some, None, if◌then◌else◌}
use Rattle.scope_check.specs.declared.finding.Verdict.{Verdict}
use Rattle.scope_check.specs.declared.finding.Verdict.TheVariants as verdicts
use Rattle.scope_tries.specs.declared.hint.Further.{Further}
use Rattle.scope_tries.specs.declared.hint.Further.TheVariants as furthers
use Rattle.scope_tries.specs.declared.hint.Try.{Try}
use Rattle.scope_tries.specs.declared.hint.Try.TheVariants as tries

-- the clock of this number in the reading by the try lies behind the broken one; with `--first` each clock has
-- the number after its own
abbrev pub is_later : Try → ℕ → ℕ → Bool
is_later tries.First broken clock = nat_lt (broken + 1) clock
is_later (tries.After line) broken clock = nat_lt broken clock
is_later tries.AfterRequests broken clock = nat_lt broken clock

-- how much further a dump gets whose first broken clock is this one, read by the try with this verdict
unfoldable pub further_in : Try → ℕ → Verdict → Option Further
further_in by broken verdicts.Nothing = None
further_in by broken verdicts.Accepted = Some furthers.Accepted
further_in by broken (verdicts.Broken clock rule stamp) =
    if is_later by broken clock then Some (furthers.Broken clock) else None
