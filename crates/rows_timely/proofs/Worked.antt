-- Computed, and is so: a worked run is a simulation, what it keeps of hazards is what its lines tell, and with one thing
-- changed it is no simulation. `worked` says it of any run and changes that are `Computed`; that a run is, is a line for
-- each, with a `refl` for each clause. Were `worked` named there too, the run would be computed twice.
use Rattle.std.proofs.Common.{◌≡◌, ◌&&◌, ◌+◌, ℕ, zero, suc, Bool, true, false, not, nat_lt, if◌then◌else◌, ◌==◌, IsTrue}
use Rattle.std.proofs.Common.{List, [], ◌∷◌, length, take, set, refl, sym, ap, ◌∙◌, arith}
use Rattle.std.specs.List.{list_all}
use Rattle.std.proofs.lemmas.Bool.{and_parts, ltb-true}
use Rattle.fsb_access.proofs.Interface.{steps_of-nobody}
use Rattle.fsb_access.specs.Replay.{Served}
use Rattle.fsb_access.specs.ScriptOrder.{AreOfItems, Step, accesses_of, are_items_together, script_of, steps_of}
use Rattle.fsb_access.specs.declared.log.Done.{Done}
use Rattle.fsb_script.specs.Plans.{PlanView}
use Rattle.fsb_signal.specs.declared.sample.Sample.{Sample}
use Rattle.fsb_signal.specs.Samples.{is_known_trace}
use Rattle.fsb_timely.specs.Runs.{Run, requests_below}
use Rattle.fsb_timely.specs.Starts.{starts_requests, drives_request_lines}
use Rattle.fsb_timely.specs.Snoops.{drives_hazards, has_snoop_result}
use Rattle.fsb_timely.specs.Transfers.{drives_responses}
use Rattle.fsb_timely.specs.Carried.{carries_data}
use Rattle.fsb_timely.specs.Completions.{logs_completions, is_in_time}
use Rattle.fsb_timely.specs.BusLock.{drives_lock}
use Rattle.fsb_timely.specs.ParityLines.{drives_parity}
use Rattle.fsb_timely.specs.Timely.{Part, AtEachClock, holds_at, keeps}
use Rattle.fsb_timely.specs.Simulated.{Simulated}
use Rattle.fsb_timely.specs.Asked.{Asked}
use Rattle.rows_timely.proofs.AskedLines.{asked_for_lines, length-choices, length-holds}
use Rattle.rows_timely.proofs.LaidOut.{changed, choices_for, every_part, holds_for, run_of, told_lines}
use Rattle.rows_timely.proofs.ParityByDigits.{every_part_by_digits, keeps_by_digits}
use Rattle.rows_timely.proofs.Tests.{simulated_if}

-- what a run may fail: one of the eight parts or the data at a clock, or the times of its log
pub data Test : Type 0 where
  Starts : Test
  RequestLines : Test
  Hazards : Test
  SnoopResults : Test
  Responses : Test
  Completions : Test
  BusLock : Test
  ParityLines : Test
  Chunks : Test
  Times : Test

-- the run passes the test at this clock
abbrev pub passes : Test → Run → ℕ → Bool
passes Starts r c = holds_at starts_requests r c
passes RequestLines r c = holds_at drives_request_lines r c
passes Hazards r c = holds_at drives_hazards r c
passes SnoopResults r c = holds_at has_snoop_result r c
passes Responses r c = holds_at drives_responses r c
passes Completions r c = holds_at logs_completions r c
passes BusLock r c = holds_at drives_lock r c
passes ParityLines r c = holds_at drives_parity r c
passes Chunks r c = holds_at carries_data r c
passes Times r c = is_in_time 0 (length r.trace) r.log

-- the test is made at this clock of the run; that of the times at any
abbrev pub is_made_at : Test → Run → ℕ → Bool
is_made_at Times r c = true
is_made_at test r c = nat_lt c (length r.trace)

-- a run with one thing changed, and the test that it fails at a clock
pub record Change : Type 0 where
  pub test : Test
  pub clock : ℕ
  pub made : Run → Run

-- the sample of this clock is another one, and the trace ends with it
abbrev pub at : Test → ℕ → Sample → Change
at test c sample =
    record { test = test; clock = c; made = λ r. run_of r.plan (changed r.trace c sample) r.log }

-- the log is another one
abbrev pub logged : Test → ℕ → (List Done → List Done) → Change
logged test c change = record { test = test; clock = c; made = λ r. run_of r.plan r.trace (change r.log) }

-- entry i of the log is another one, which shows at this clock
abbrev pub entered : ℕ → ℕ → Done → Change
entered c i done = logged Completions c (λ log. set log i done)

-- the plan is another one
abbrev pub planned : Test → ℕ → (PlanView → PlanView) → Change
planned test c change = record { test = test; clock = c; made = λ r. run_of (change r.plan) r.trace r.log }

-- the run that is made fails its test at its clock
abbrev pub is_refused : Run → Change → Bool
is_refused r change =
    is_made_at change.test (change.made r) change.clock && not (passes change.test (change.made r) change.clock)

abbrev pub are_refused : Run → List Change → Bool
are_refused r [] = true
are_refused r (change ∷ changes) = is_refused r change && are_refused r changes

-- each run that is made fails its test at its clock, and is no simulation
abbrev pub AreRefused : Run → List Change → Type 0
AreRefused r [] = Unit {0}
AreRefused r (change ∷ changes) =
    (passes change.test (change.made r) change.clock ≡ false)
    × (¬ Simulated (change.made r))
    × AreRefused r changes

-- the number of an agent's items that are done, where so many were done before
abbrev items_from : ℕ → ℕ → List Done → ℕ
items_from count agent [] = count
items_from count agent (done ∷ log) = items_from (if done.agent == agent then done.item + 1 else count) agent log

-- the accesses of an agent's items that are done
abbrev steps_due : Run → ℕ → List Step
steps_due r agent = accesses_of (take (items_from 0 agent r.log) (script_of r.plan.scripts agent))

-- what four agents did
abbrev FourSteps : Type 0
FourSteps = List Step × List Step × List Step × List Step

abbrev pub all_done : Run → FourSteps
all_done r = (steps_of 0 r.log, steps_of 1 r.log, steps_of 2 r.log, steps_of 3 r.log)

-- what they are to do for that
abbrev pub all_due : Run → FourSteps
all_due r = (steps_due r 0, steps_due r 1, steps_due r 2, steps_due r 3)

-- nothing in the trace is unknown, and the log is in time, of four agents, and each item's entries stand together
abbrev pub is_laid_out : Run → Bool
is_laid_out r =
    is_known_trace r.trace
    && (is_in_time 0 (length r.trace) r.log
    && (list_all (λ (done : Done). nat_lt done.agent 4) r.log && are_items_together r.log))

-- all of a run but its parts and its changes
abbrev pub Rest : Run → Type 0
Rest r =
    (is_laid_out r ≡ true)
    × (all_done r ≡ all_due r)
    × Served r.plan.mem r.log
    × (r.choices ≡ choices_for r.plan.hazards (requests_below r.trace (length r.trace)))
    × (r.holds ≡ holds_for r.plan.hazards (length r.trace))

-- all that is computed of a run and its changes
abbrev pub Computed : Run → List Change → Type 0
Computed r changes = (keeps every_part r ≡ true) × Rest r × (are_refused r changes ≡ true)

-- the same in profile 2, parity computed digit by digit
abbrev pub ComputedByDigits : Run → List Change → Type 0
ComputedByDigits r changes =
    (keeps every_part_by_digits r ≡ true) × Rest r × (are_refused r changes ≡ true) × (r.plan.profile ≡ 2)

-- what follows: the run keeps every part at each clock, it is a simulation, its choices and holds are what its hazard
-- lines tell, and its changes are refused
pub record IsWorked (r : Run) (changes : List Change) : Type 0 where
  pub computes : keeps every_part r ≡ true
  pub simulated : Simulated r
  pub asked : Asked (told_lines r.plan.hazards ∷ []) r.choices r.holds
  pub refused : AreRefused r changes

follows : (r : Run) → all_done r ≡ all_due r → list_all (λ (done : Done). nat_lt done.agent 4) r.log ≡ true
    → (agent : ℕ) → AreOfItems (script_of r.plan.scripts agent) (steps_of agent r.log)
follows r e below zero = record { items = items_from 0 0 r.log; same = ap (λ (t : FourSteps). t.0) e }
follows r e below (suc zero) = record { items = items_from 0 1 r.log; same = ap (λ (t : FourSteps). t.1) e }
follows r e below (suc (suc zero)) = record { items = items_from 0 2 r.log; same = ap (λ (t : FourSteps). t.2) e }
follows r e below (suc (suc (suc zero))) = record {
  items = items_from 0 3 r.log;
  same = ap (λ (t : FourSteps). t.3) e;
}
follows r e below (suc (suc (suc (suc agent)))) = record {
  items = 0;
  same = steps_of-nobody 4 (suc (suc (suc (suc agent)))) r.log below (omega arith);
}

-- a run that fails a part at one of its clocks does not keep it
fails : (part : Part) (r : Run) (c : ℕ) → (nat_lt c (length r.trace) && not (holds_at part r c)) ≡ true
    → ¬ AtEachClock part r
fails part r c e h =
    let parts = and_parts (nat_lt c (length r.trace)) (not (holds_at part r c)) e in
    let held = h.at c (ltb-true c (length r.trace) parts.0) in
    absurd (let f : true ≡ false = sym parts.1 ∙ ap not held in cc)

-- so it is no simulation
none : (test : Test) (r : Run) (c : ℕ) → (is_made_at test r c && not (passes test r c)) ≡ true → ¬ Simulated r
none Starts r c e s = fails starts_requests r c e s.timely.request_starts
none RequestLines r c e s = fails drives_request_lines r c e s.timely.request_lines
none Hazards r c e s = fails drives_hazards r c e s.timely.hazard_lines
none SnoopResults r c e s = fails has_snoop_result r c e s.timely.snoop_results
none Responses r c e s = fails drives_responses r c e s.timely.responses_and_data
none Completions r c e s = fails logs_completions r c e s.timely.completions
none BusLock r c e s = fails drives_lock r c e s.timely.bus_lock
none ParityLines r c e s = fails drives_parity r c e s.timely.parity
none Chunks r c e s = fails carries_data r c e s.carried
none Times r c e s = absurd (let f : true ≡ false = sym e ∙ ap not s.timely.in_time in cc)

not_passed : (made passed : Bool) → (made && not passed) ≡ true → passed ≡ false
not_passed true false e = refl
not_passed true true e = absurd (let f : ⊥ = cc in f)
not_passed false passed e = absurd (let f : ⊥ = cc in f)

all_refused : (r : Run) (changes : List Change) → are_refused r changes ≡ true → AreRefused r changes
all_refused r [] e = tt
all_refused r (change ∷ changes) e =
    let run = change.made r in
    let parts = and_parts (is_refused r change) (are_refused r changes) e in (
      not_passed (is_made_at change.test run change.clock) (passes change.test run change.clock) parts.0,
      none change.test run change.clock parts.0,
      all_refused r changes parts.1,
    )

simulated : (r : Run) → keeps every_part r ≡ true → Rest r → Simulated r
simulated r e rest =
    let known = and_parts (is_known_trace r.trace) (is_in_time 0 (length r.trace) r.log
    && (list_all (λ (done : Done). nat_lt done.agent 4) r.log && are_items_together r.log)) rest.0 in
    let timed = and_parts (is_in_time 0 (length r.trace) r.log)
    (list_all (λ (done : Done). nat_lt done.agent 4) r.log && are_items_together r.log) known.1 in
    let ordered = and_parts (list_all (λ (done : Done). nat_lt done.agent 4) r.log) (are_items_together r.log) timed.1 in
    simulated_if r e known.0
    (ap length rest.4 ∙ length-holds r.plan.hazards (length r.trace))
    (ap length rest.3 ∙ length-choices r.plan.hazards (requests_below r.trace (length r.trace)))
    timed.0 (record { follows = follows r rest.1 ordered.0; together = ordered.1 }) rest.2

asked : (r : Run) → Rest r → Asked (told_lines r.plan.hazards ∷ []) r.choices r.holds
asked r rest = rw (rest.3, rest.4)
    (asked_for_lines r.plan.hazards (requests_below r.trace (length r.trace)) (length r.trace))

pub worked : (r : Run) (changes : List Change) → Computed r changes → IsWorked r changes
worked r changes c = record {
  computes = c.0;
  simulated = simulated r c.0 c.1;
  asked = asked r c.1;
  refused = all_refused r changes c.2;
}

pub worked_by_digits : (r : Run) (changes : List Change) → ComputedByDigits r changes → IsWorked r changes
worked_by_digits r changes c =
    worked r changes (keeps_by_digits r c.3 c.0, c.1, c.2)
