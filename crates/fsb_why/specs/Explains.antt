-- What an answer to the question why a rule is broken is worth.
use Rattle.std.specs.Prelude.{◌≡◌, ℕ, Bool, false, ◌||◌, nat_eq, Option, Some, None}
use Rattle.fsb_signal.specs.declared.marks.Marks.{Marks}
use Rattle.fsb_trace.specs.declared.who.Who.{Who}
use Rattle.fsb_trace.specs.At.{Trace}
use Rattle.fsb_trace.specs.Rules.{breaks, is_asked_wrongly}
use Rattle.fsb_reasons.specs.declared.reason.Reason.{Reason}
use Rattle.fsb_reasons.specs.RuleOf.{rule_of}
use Rattle.fsb_reasons.specs.Holds.{Holds}

-- the reason is of rule j, and holds at the last clock c of v
pub record IsReason (m : Marks) (v : Trace) (c j : ℕ) (reason : Reason) : Type 0 where
  pub rule : rule_of reason ≡ j
  pub holds : Holds m v c reason

-- a reason is one of rule j that holds at c; none says that the rule is kept there
abbrev pub Explains : Marks → Trace → ℕ → ℕ → Option Reason → Type 0
Explains m v c j None = breaks m v c j ≡ false
Explains m v c j (Some reason) = IsReason m v c j reason

-- the same of a test: a reason is one of rule j, and none says that the test fails
abbrev pub Tells : Marks → Trace → ℕ → ℕ → Bool → Option Reason → Type 0
Tells m v c j broken None = broken ≡ false
Tells m v c j broken (Some reason) = IsReason m v c j reason

-- and of one agent's request line, by rule 8
abbrev pub ExplainsAgent : Marks → Trace → ℕ → Who → Option Reason → Type 0
ExplainsAgent m v c who reason = Tells m v c 8 (is_asked_wrongly v c who) reason

-- the first of two reasons that is there
abbrev pub either_reason : Option Reason → Option Reason → Option Reason
either_reason None second = second
either_reason (Some reason) second = Some reason

-- the rules for which an answer is exact
unfoldable pub is_line_rule : ℕ → Bool
is_line_rule j =
    nat_eq j 1 || nat_eq j 2 || nat_eq j 3 || nat_eq j 5 || nat_eq j 6 || nat_eq j 7 || nat_eq j 8 || nat_eq j 9
    || nat_eq j 10 || nat_eq j 17 || nat_eq j 19 || nat_eq j 20
