-- The verdict of coherence: the first broken rule of all, phase rules and rules of ownership together.
use Rattle.std.specs.Prelude.{ℕ, nat_lt, Bool, if◌then◌else◌, List, Option, Some, None, length}
use Rattle.fsb_signal.specs.declared.marks.Marks.{Marks}
use Rattle.fsb_trace.specs.At.{Trace}
use Rattle.fsb_trace.specs.Verdict.{is_broken}
use Rattle.fsb_owners.specs.Joint.{Joint}
use Rattle.fsb_owners.specs.Least.{least_broken}
use Rattle.fsb_owners.specs.Rules.{is_ownership_broken}

-- rule j, 1 to 31, is broken at c: a phase rule, 1 to 20, or a rule of ownership, 21 to 31
unfoldable pub is_any_broken : Marks → List Joint → Trace → ℕ → ℕ → Bool
is_any_broken m first w c j = if nat_lt j 21 then is_broken m w c j else is_ownership_broken first w c j

-- the least clock with a broken rule and, there, the least rule; none where the trace breaks no rule. A broken phase rule comes
-- before the rules of ownership of its clock, and nothing behind it is judged
unfoldable pub coherence_verdict : Marks → List Joint → Trace → Option (ℕ × ℕ)
coherence_verdict m first w = least_broken (is_any_broken m first w) 32 (length w)

-- the finding with the lesser clock; the first one, where both have the same
abbrev pub earlier_of : Option (ℕ × ℕ) → Option (ℕ × ℕ) → Option (ℕ × ℕ)
earlier_of None other = other
earlier_of (Some p) None = Some p
earlier_of (Some p) (Some q) = if nat_lt q.0 p.0 then Some q else Some p
