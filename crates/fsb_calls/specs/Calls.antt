-- A call of `bench` as one value, and that it ended as the relation says.
use Rattle.std.specs.Prelude.{ℕ, List, Option}
use Rattle.fsb_command.specs.Form.{Form}
use Rattle.fsb_hazard.specs.Told.{Told}
use Rattle.fsb_io.specs.declared.sink.Sink.{Ghosts as SinkGhosts}
use Rattle.fsb_io.specs.declared.source.Source.{Ghosts as SourceGhosts}
use Rattle.fsb_script.specs.Plans.{PlanView}
use Rattle.fsb_signal.specs.declared.sample.Sample.{Sample}
use Rattle.fsb_top.specs.declared.status.Status.{Status}
use Rattle.fsb_top.specs.CallEnds.{CallEnds, dump_call}

-- a call, from outside, over a source, a sink of what is printed, and a sink of the dump
pub record Call {S O D : Type 0} (source : SourceGhosts S) (out : SinkGhosts O)
    (dump : SinkGhosts D)
    : Type 0 where
  -- the source, before it and after it
  pub was : S
  pub now : S
  -- the sink of what is printed
  pub before : O
  pub after : O
  -- the sink of the dump
  pub first : D
  pub last : D
  -- what the hazard objects tell once they were given the hazard lines of a plan
  pub told : PlanView → List (Option Told)
  -- the weights of the probes
  pub weights : List (Sample → ℕ)
  -- what its words ask for, and its status
  pub words : Option Form
  pub status : Status

module _ {S O D : Type 0} {source : SourceGhosts S} {out : SinkGhosts O} {dump : SinkGhosts D} where
  -- the call left behind what the relation says of these words with this status
  abbrev pub EndsAs : Call source out dump → Option Form → Status → Type 0
  EndsAs call words status =
      CallEnds source out (dump_call dump call.first call.last) call.was call.now
      call.before call.after call.told call.weights words status

  -- the call left behind what the relation says of its own words and its own status
  abbrev pub EndsSo : Call source out dump → Type 0
  EndsSo call = EndsAs call call.words call.status

  -- what the source held
  abbrev pub held : Call source out dump → List ℕ
  held call = source.holds call.was

  -- what is left of it to read
  abbrev pub left_of : Call source out dump → List ℕ
  left_of call = source.left call.now

  -- the name that it was begun under last
  abbrev pub named_as : Call source out dump → Option (List ℕ)
  named_as call = source.begun_as call.now

  -- what the sink of what is printed held before the call
  abbrev pub printed_before : Call source out dump → List ℕ
  printed_before call = out.holds call.before

  -- what it holds after it
  abbrev pub printed : Call source out dump → List ℕ
  printed call = out.holds call.after
