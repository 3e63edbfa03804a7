-- The part of a dump that was judged.
use Rattle.std.specs.Prelude.{◌≡◌, ◌<◌, ℕ, Bool, true, false, List, [], length}
use Rattle.fsb_signal.specs.declared.marks.Marks.{Marks}
use Rattle.fsb_trace.specs.At.{Trace}
use Rattle.fsb_owner_verdict.specs.Coherence.{coherence_verdict}
use Rattle.vcd_way.specs.Events.{DumpEvent}
use Rattle.scope_check.specs.declared.part.Part.{Part}
use Rattle.scope_check.specs.Parting.{HasParted}
use Rattle.scope_check.specs.Parts.{clocks_of, has_stopped}
use Rattle.scope_check.specs.Standing.{later_at}
use Rattle.scope_coherence.specs.declared.coherer.Coherer.{Coherer}
use Rattle.scope_coherence.specs.declared.cohering.Cohering.{Cohering}
use Rattle.scope_coherence.specs.declared.part.PartJudge.{PartJudge}
use Rattle.scope_coherence.specs.declared.part.PartTold.{PartTold}
use Rattle.scope_coherence.specs.Cohering.{Stands}
use Rattle.scope_coherence.specs.Found.{first_joints, pair_of}

-- so many clocks came among these events, and the dump stopped there or did not
pub record Counts (n : ℕ) (b : Bool) (es : List DumpEvent) : Type 0 where
  pub start : n ≡ clocks_of es
  pub stopped : b ≡ has_stopped es

-- the part has begun behind some events: the machine was made for a part that begins there, and fed its samples
pub record HasBegun (x : Cohering) (p : Part) (m : Marks) (before : List DumpEvent) (w : Trace) : Type 0 where
  pub some : 0 < length w
  pub stands : Stands x m (first_joints (later_at p before)) w

-- where the part has not begun behind these events, they were counted; where it has, those before it
abbrev pub IsAt : Bool → PartJudge → Part → Marks → List DumpEvent → List DumpEvent → Trace → Type 0
IsAt false x p m es before w = (w ≡ []) × Counts x.start x.has_stopped es
IsAt true x p m es before w = HasBegun x.cohering p m before w × Counts x.start x.has_stopped before

-- the judge was made for this part of a dump with these marks, and took these events: these samples of the part, which stands
-- behind some events
pub record PartStands (x : PartJudge) (p : Part) (m : Marks) (es before : List DumpEvent) (w : Trace) : Type 0 where
  pub begin : p.begin ≡ x.begin
  pub marked : x.marks ≡ m
  pub at : IsAt x.has_begun x p m es before w

-- where the part stood behind some events before, or had no sample yet in these, it may stand so with one more
pub record IsNext (w : Trace) (es before after : List DumpEvent) : Type 0 where
  pub stays : 0 < length w → after ≡ before
  pub begins : w ≡ [] → after ≡ es

-- the part, which stands behind these events, may go on with its next sample
pub record IsReady (x : PartJudge) (p : Part) (m : Marks) (before : List DumpEvent) (w : Trace) : Type 0 where
  pub begun : x.has_begun ≡ true
  pub begin : p.begin ≡ x.begin
  pub marked : x.marks ≡ m
  pub stands : Stands x.cohering m (first_joints (later_at p before)) w
  pub counts : Counts x.start x.has_stopped before

-- this is told of a part with these samples, behind these events
pub record TellsBehind (t : PartTold) (p : Part) (m : Marks) (before : List DumpEvent) (w : Trace) : Type 0 where
  pub start : t.start ≡ clocks_of before
  pub later : t.is_later ≡ later_at p before
  pub found : pair_of t.found ≡ coherence_verdict m (first_joints t.is_later) w

-- what is told of the part: with no sample, all events come before it
pub record TellsPart (t : PartTold) (p : Part) (m : Marks) (es before : List DumpEvent) (w : Trace) : Type 0 where
  pub some : 0 < length w → TellsBehind t p m before w
  pub none : w ≡ [] → TellsBehind t p m es w

-- the second watcher has become of the first as it was shown these events: it judged the samples of the part of them
pub record HasCohered (first now : Coherer) (events : List DumpEvent) : Type 0 where
  pub samples : Trace
  pub parted : HasParted now.parting first.part events samples
  pub stands : PartStands now.judge first.part first.marks events parted.before samples
