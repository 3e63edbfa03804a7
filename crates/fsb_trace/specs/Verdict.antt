-- The verdict on a trace, of a dump with these marks.
use Rattle.std.specs.Prelude.{ℕ, ◌+◌, Bool, ◌&&◌, nat_lt, is_some, take, Option, length}
use Rattle.std.specs.Option.{option_map, option_and_then}
use Rattle.fsb_count.specs.Clocks.{first_where}
use Rattle.fsb_signal.specs.declared.marks.Marks.{Marks}
use Rattle.fsb_trace.specs.At.{Trace}
use Rattle.fsb_trace.specs.Rules.{breaks}

-- rule j, 1 to 20, is broken at c: c is a clock of w, and the rule is judged over the first c + 1 samples of w
unfoldable pub is_broken : Marks → Trace → ℕ → ℕ → Bool
is_broken m w c j = nat_lt c (length w) && breaks m (take (c + 1) w) c j

-- the least rule that is broken at c
unfoldable pub least_rule : Marks → Trace → ℕ → Option ℕ
least_rule m w c = first_where (is_broken m w c) 21

-- some rule is broken at c
unfoldable pub breaks_a_rule : Marks → Trace → ℕ → Bool
breaks_a_rule m w c = is_some (least_rule m w c)

-- the least clock with a broken rule and, there, the least rule; none where the trace is accepted
unfoldable pub verdict : Marks → Trace → Option (ℕ × ℕ)
verdict m w =
    option_and_then (λ c. option_map {U = ℕ × ℕ} (λ j. (c, j)) (least_rule m w c)) (first_where (breaks_a_rule m w) (length w))
