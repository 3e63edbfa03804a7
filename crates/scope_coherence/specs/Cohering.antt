-- The samples that were judged.
use Rattle.std.specs.Prelude.{◌≡◌, ◌≤◌, ◌+◌, List, [], ◌∷◌, ◌++◌, length, Option, Some, None}
use Rattle.fsb_signal.specs.declared.marks.Marks.{Marks}
use Rattle.fsb_signal.specs.declared.sample.Sample.{Sample}
use Rattle.fsb_trace.specs.At.{Trace}
use Rattle.fsb_trace.specs.Verdict.{verdict}
use Rattle.fsb_rules.specs.Checker.{Stands as CheckerStands}
use Rattle.fsb_owners.specs.Joint.{Joint}
use Rattle.fsb_owner_verdict.specs.Coherence.{coherence_verdict}
use Rattle.fsb_cohere.specs.Cohere.{Stands as CoherenceStands, fed}
use Rattle.scope_coherence.specs.declared.cohering.Cohering.{Cohering}
use Rattle.scope_coherence.specs.declared.cohering.Incoherent.{Incoherent}

-- no rule is broken by these samples, of a dump with these marks, and both judges were fed them
pub record Follows (x : Cohering) (m : Marks) (first : List Joint) (w : Trace) : Type 0 where
  pub unbroken : coherence_verdict m first w ≡ None
  pub checker : CheckerStands x.checker m w
  pub coherence : CoherenceStands x.coherence first w
  pub count : x.count ≡ length w
  pub few : fed x.coherence ≤ x.count
  pub none : x.found ≡ None

-- no phase rule is broken by these samples and one more, which the judge of the phase rules was fed alone, and no rule of
-- ownership by these
pub record IsSound (x : Cohering) (m : Marks) (first : List Joint) (w : Trace) (next : Sample) : Type 0 where
  pub sound : verdict m (w ++ next ∷ []) ≡ None
  pub checker : CheckerStands x.checker m (w ++ next ∷ [])
  pub coherence : CoherenceStands x.coherence first w
  pub count : x.count ≡ length w + 1
  pub few : fed x.coherence + 1 ≤ x.count
  pub none : x.found ≡ None

-- or this is found of them
abbrev pub StandsWith : Option Incoherent → Cohering → Marks → List Joint → Trace → Type 0
StandsWith None x m first w = Follows x m first w
StandsWith (Some b) x m first w = coherence_verdict m first w ≡ Some (b.clock, b.rule)

-- the machine was made with these marks and first joint states, and fed these samples
abbrev pub Stands : Cohering → Marks → List Joint → Trace → Type 0
Stands x m first w = StandsWith x.found x m first w
