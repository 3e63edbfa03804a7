-- What the program hands to a call, and what is left of it once the end of the dump is handed on.
use Rattle.std.specs.Prelude.{◌≡◌, ◌⊎◌, ◌++◌, ℕ, IsTrue, List, [], ◌∷◌, Option, Some, None, Result, Ok, Err, codes}
use Rattle.fsb_command.specs.Form.{Form, run, ask, gen}
use Rattle.fsb_gather.specs.GatherView.{GatherView}
use Rattle.fsb_hazard.specs.Told.{Told, by_lines}
use Rattle.fsb_io.specs.Faults.{Rose}
use Rattle.fsb_io.specs.declared.sink.Sink.{Ghosts as SinkGhosts}
use Rattle.fsb_io.specs.declared.refusal.Memory.{Memory}
use Rattle.fsb_top.specs.Writing.{HasDump, HasPart}
use Rattle.fsb_probe.specs.Weights.{line_weight, data_weight}
use Rattle.fsb_script.specs.Plans.{PlanView}
use Rattle.fsb_signal.specs.declared.lines.TheConstants.Lines.{ADS, DRDY}
use Rattle.fsb_signal.specs.declared.sample.Sample.{Sample}
use Rattle.fsb_top.specs.CallEnds.{DumpCall}
use Rattle.fsb_top.specs.declared.status.Status.{Status}
use Rattle.fsb_top.specs.declared.status.Status.TheVariants.{Done, DumpFault, OutOfMemory}

-- what the program's objects tell of a plan: there is one, and it does what the hazard lines of the plan say
abbrev pub told_of : PlanView → List (Option Told)
told_of plan = Some (by_lines plan.hazards) ∷ []

-- what a sample weighs for the program's probes: 1 with ADS#, 1 with DRDY#, and how many data bits are asserted with
-- DRDY#
abbrev pub weights : List (Sample → ℕ)
weights = line_weight ADS.0 ∷ line_weight DRDY.0 ∷ data_weight ∷ []

-- the sink below was not begun: what it holds, and behind it what is gathered, is what it held
pub record IsNotBegun (before held gathered : List ℕ) (was_begun_as begun_as : Option (List ℕ)) : Type 0 where
  pub held_stays : held ++ gathered ≡ before
  pub name_stays : begun_as ≡ was_begun_as

-- the sink below was begun under the name of the dump and holds a first part of it, or was not begun
abbrev pub HasPartBelow : List ℕ → Option (List ℕ) → List ℕ → Option (List ℕ) → List ℕ → List ℕ
    → Option (List ℕ) → Type 0
HasPartBelow text None before was_begun_as held gathered begun_as = ⊥
HasPartBelow text (Some name) before was_begun_as held gathered begun_as =
    HasPart text name held begun_as ⊎ IsNotBegun before held gathered was_begun_as begun_as

-- the sink below the one that gathers, where the dump has a name, was begun under it and has the dump of the run; where
-- it failed, in the call or as the end of the dump was handed on, it has a first part of that, or was not begun
abbrev pub IsDumpedBelow : Status → List ℕ → Option (List ℕ) → List ℕ → Option (List ℕ) → List ℕ → List ℕ
    → Option (List ℕ) → Type 0
IsDumpedBelow Done text name before was_begun_as held gathered begun_as = HasDump text name held begun_as
IsDumpedBelow DumpFault text name before was_begun_as held gathered begun_as =
    HasPartBelow text name before was_begun_as held gathered begun_as
IsDumpedBelow _ text name before was_begun_as held gathered begun_as = Unit {0}

-- the sink of the dump below the one that gathers, before and after a call: that both stay as they were,
-- that the sink below failed, and what it has of a dump
abbrev pub dump_below : {D : Type 0} → SinkGhosts D → GatherView D → GatherView D → DumpCall
dump_below sink was now = record {
  Stays = now ≡ was;
  Fails = Rose (sink.faults was.sink) (sink.faults now.sink);
  Has = λ status text name. IsTrue sink.tells → IsDumpedBelow status text name
      (sink.holds was.sink) (sink.begun_as was.sink) (sink.holds now.sink) now.gathered
      (sink.begun_as now.sink);
}

-- the name of the file that a command of this form reads, where it reads one
abbrev pub name_read : Form → Option (List ℕ)
name_read (run bench dump) = Some bench
name_read (ask dump asked) = Some dump
name_read (gen seed agents items) = None

-- the name of the dump that a command of this form writes, where it writes one
abbrev pub name_written : Form → Option (List ℕ)
name_written (run bench dump) = dump
name_written (ask dump asked) = None
name_written (gen seed agents items) = None

-- the status of a call that came to its end, or lacked memory before it began
abbrev pub status_after : Result Status Memory → Status
status_after (Ok status) = status
status_after (Err memory) = OutOfMemory

-- a line with its line feed; where there is no line, nothing
abbrev pub printed_line : List ℕ → List ℕ
printed_line [] = []
printed_line (byte ∷ line) = (byte ∷ line) ++ codes "\n"
