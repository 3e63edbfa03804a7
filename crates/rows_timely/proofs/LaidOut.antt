-- Runs written out clock by clock.
use Rattle.std.proofs.Common.{ℕ, zero, suc, ◌+◌, ◌&&◌, Bool, false, List, [], ◌∷◌, ◌++◌, length, take, set, Option}
use Rattle.std.proofs.Common.{Some}
use Rattle.fsb_access.specs.declared.access.Access.{Access}
use Rattle.fsb_access.specs.declared.access.Setting.{Setting}
use Rattle.fsb_access.specs.declared.log.Done.{Done}
use Rattle.fsb_encode.specs.declared.request.Kind.TheVariants.{Read}
use Rattle.fsb_encode.specs.declared.request.Request.{Request}
use Rattle.fsb_hazard.specs.declared.choice.Choice.{Choice}
use Rattle.fsb_hazard.specs.declared.choice.Ask.TheVariants.{Clock, Begun}
use Rattle.fsb_hazard.specs.declared.line.HazardLine.{HazardLine}
use Rattle.fsb_hazard.specs.Told.{Told, by_lines}
use Rattle.fsb_hazard.specs.Entry.{entry as entry_of_lines}
use Rattle.fsb_script.specs.Plans.{PlanView}
use Rattle.fsb_signal.specs.declared.lines.Lines.{Lines}
use Rattle.fsb_signal.specs.declared.sample.Sample.{Sample}
use Rattle.fsb_signal.specs.Samples.{known_sample}
use Rattle.fsb_trace.specs.At.{Trace}
use Rattle.fsb_timely.specs.Runs.{Run, requests_below}
use Rattle.fsb_timely.specs.Starts.{starts_requests, drives_request_lines}
use Rattle.fsb_timely.specs.Snoops.{drives_hazards, has_snoop_result}
use Rattle.fsb_timely.specs.Transfers.{drives_responses}
use Rattle.fsb_timely.specs.Carried.{carries_data}
use Rattle.fsb_timely.specs.Completions.{logs_completions}
use Rattle.fsb_timely.specs.BusLock.{drives_lock}
use Rattle.fsb_timely.specs.ParityLines.{drives_parity}
use Rattle.fsb_timely.specs.Timely.{Part}

-- the bits of some different lines together
abbrev pub bits_of : List Lines → ℕ
bits_of [] = 0
bits_of (line ∷ lines) = line.0 + bits_of lines

-- a sample in which these lines and these bits of REQ, A and D are asserted, and nothing is unknown
abbrev pub clock : List Lines → ℕ → ℕ → ℕ → Sample
clock lines req addr dbus = known_sample (bits_of lines) req addr dbus

-- a sample in which nothing is asserted
abbrev pub idle : Sample
idle = clock [] 0 0 0

-- the first c + 1 samples of a trace, of which the last is another one
abbrev pub changed : Trace → ℕ → Sample → Trace
changed trace c sample = set (take (c + 1) trace) c sample

-- an entry of a log: clock, agent, item, part, access, value
abbrev pub entry : ℕ → ℕ → ℕ → ℕ → Access → ℕ → Done
entry clock agent item part access value =
    record { clock = clock; agent = agent; item = item; part = part; access = access; value = value }

abbrev pub setting : ℕ → ℕ → Setting
setting addr byte = record { addr = addr; byte = byte }

-- a request: what an object that tells lines answers for it depends on its number alone
abbrev pub some_request : Request
some_request = record { kind = Read; line = 0; chunk = 0; did = 0; den = false }

-- what an object tells that tells these lines
abbrev pub told_lines : List HazardLine → Option Told
told_lines lines = Some (by_lines lines)

-- what an object that tells these lines answers for request k, BNR# left out
abbrev pub choice_for : List HazardLine → ℕ → Choice
choice_for lines k = record (entry_of_lines lines (Begun k some_request)) { bnr = false }

-- its answers for the first n requests
abbrev pub choices_for : List HazardLine → ℕ → List Choice
choices_for lines zero = []
choices_for lines (suc n) = choices_for lines n ++ choice_for lines n ∷ []

-- whether it asks for BNR# at clock c
abbrev pub hold_for : List HazardLine → ℕ → Bool
hold_for lines c = (entry_of_lines lines (Clock c)).bnr

-- whether it asks for BNR# at the first n clocks
abbrev pub holds_for : List HazardLine → ℕ → List Bool
holds_for lines zero = []
holds_for lines (suc n) = holds_for lines n ++ hold_for lines n ∷ []

-- the eight parts together, and the data
abbrev pub every_part : Part
every_part r p c =
    starts_requests r p c
    && (drives_request_lines r p c
    && (drives_hazards r p c
    && (has_snoop_result r p c
    && (drives_responses r p c
    && (logs_completions r p c && (drives_lock r p c && (drives_parity r p c && carries_data r p c)))))))

-- the run of a plan whose one hazard object tells the plan's lines
abbrev pub run_of : PlanView → Trace → List Done → Run
run_of plan trace log = record {
  plan = plan;
  choices = choices_for plan.hazards (requests_below trace (length trace));
  holds = holds_for plan.hazards (length trace);
  trace = trace;
  log = log;
}
