-- A rejected dump, read in other ways.
use Rattle.std.specs.Prelude.{◌≡◌, ℕ, Bool, true, false, not, ◌&&◌, List, [], ◌∷◌, ◌++◌, nat_eq, length, Option, Some, None, Result, Ok, Err, if◌then◌else◌}
use Rattle.scope_check.specs.declared.finding.Verdict.{Verdict}
use Rattle.scope_check.specs.declared.finding.Verdict.TheVariants as verdicts
use Rattle.scope_parts.specs.declared.plan.Plan.{Plan}
use Rattle.scope_tries.specs.declared.hint.Further.{Further}
use Rattle.scope_tries.specs.declared.hint.Hint.{Hint}
use Rattle.scope_tries.specs.declared.hint.Try.{Try}
use Rattle.scope_tries.specs.declared.hint.Try.TheVariants as tries
use Rattle.scope_report.specs.Endings.{verdict_over}
use Rattle.scope_tries.specs.Hints.{further_in}
use Rattle.scope_watch.specs.declared.check.Checked.{Checked}
use Rattle.scope_watch.specs.declared.check.Finding.{Finding}
use Rattle.scope_watch.specs.declared.check.Finding.TheVariants as findings
use Rattle.scope_watch.specs.declared.stop.ScopeStop.{ScopeStop}
use Rattle.scope_watch.specs.declared.stop.ScopeStop.TheVariants as stops
use Rattle.scope_watch.specs.declared.values.Sampling.{Sampling}
use Rattle.scope_watch.specs.Checking.{IsChecked}
use Rattle.scope_wiring.specs.declared.wiring.Choice.{Choice}
use Rattle.vcd_way.specs.declared.tap.Edge.{Edge}

-- the edge at which tries sample: there are some where the dump can be read again, and neither a first edge nor a late
-- line was asked for
abbrev pub tries_of : Bool → Sampling → Option Edge
tries_of is_again s =
    if is_again && (not s.takes_first && nat_eq (length s.late.items) 0) then Some s.edge else None

-- the first broken clock of a verdict
abbrev pub broken_by : Verdict → Option ℕ
broken_by verdicts.Nothing = None
broken_by verdicts.Accepted = None
broken_by (verdicts.Broken clock rule stamp) = Some clock

-- the first broken clock of what was found
abbrev pub broken_found : Finding → Option ℕ
broken_found (findings.Refused refusal) = None
broken_found (findings.Judged wiring told) = broken_by (verdict_over told.judged)

-- the try takes a clock that is first seen high to have its first edge there
abbrev pub takes_first_by : Try → Bool
takes_first_by tries.First = true
takes_first_by (tries.After line) = false
takes_first_by tries.AfterRequests = false

-- the lines that the try samples after the edge
abbrev pub late_by : Try → List ℕ
late_by tries.First = []
late_by (tries.After line) = line ∷ []
late_by tries.AfterRequests = 1 ∷ 2 ∷ 3 ∷ 4 ∷ []

-- the lines are sampled as the try says
pub record SamplesBy (by : Try) (edge : Edge) (s : Sampling) : Type 0 where
  pub edge_is : s.edge ≡ edge
  pub first_is : s.takes_first ≡ takes_first_by by
  pub late_is : s.late.items ≡ late_by by

-- how much further a dump gets of which this was found by the try
abbrev pub further_found : Try → ℕ → Finding → Option Further
further_found by broken (findings.Refused refusal) = None
further_found by broken (findings.Judged wiring told) = further_in by broken (verdict_over told.judged)

-- the answer is one that the dump itself makes: neither did memory lack nor a read fail
abbrev pub is_of_dump : Result Checked ScopeStop → Bool
is_of_dump (Ok checked) = true
is_of_dump (Err (stops.Bad fault)) = true
is_of_dump (Err stops.NoHeader) = true
is_of_dump (Err stops.TooLong) = true
is_of_dump (Err stops.TooMany) = true
is_of_dump (Err stops.WriteFault) = true
is_of_dump (Err stops.ReadFault) = false
is_of_dump (Err stops.Memory) = false

-- how much further a dump gets of which this is answered by the try: one that cannot be read so gets nowhere
abbrev pub further_answered : Try → ℕ → Result Checked ScopeStop → Option Further
further_answered by broken (Ok checked) = further_found by broken checked.finding
further_answered by broken (Err stop) = None

-- what comes of the try: the dump, sampled as the try says and else judged in the same way, gets so much further than to
-- the broken clock, or it does not
pub record IsTried (choice : Choice) (plan : Plan) (edge : Edge) (broken : ℕ) (dumped : List ℕ) (by : Try) (further : Option Further) : Type 0 where
  pub sampling : Sampling
  pub samples : SamplesBy by edge sampling
  pub answer : Result Checked ScopeStop
  pub is_checked : IsChecked answer choice plan sampling dumped
  pub of_dump : is_of_dump answer ≡ true
  pub gets : further ≡ further_answered by broken answer

-- the hint of a try of which this comes: one, where the dump gets further, and none else
abbrev pub hint_of : Try → Option Further → List Hint
hint_of by None = []
hint_of by (Some further) = record { by = by; further = further } ∷ []

-- the hints of some tries, where this comes of each: those of the first try, and then those of the others
abbrev pub AreHints : (Try → Option Further → Type 0) → List Try → List Hint → Type 0
AreHints Comes [] hints = hints ≡ []
AreHints Comes (by ∷ tries) hints =
    (further : Option Further) × (rest : List Hint)
    × Comes by further × AreHints Comes tries rest × (hints ≡ hint_of by further ++ rest)

-- the tries, in the order in which they are told: LOCK_n is line 6, ADS_n 8, REQ_n 9, A_n 10
abbrev pub all_tries : List Try
all_tries =
    tries.First ∷ tries.AfterRequests ∷ tries.After 6 ∷ tries.After 8 ∷ tries.After 9 ∷ tries.After 10 ∷ []
