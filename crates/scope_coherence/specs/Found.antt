-- What is found of a part of a waveform.
use Rattle.std.specs.Prelude.{ℕ, Bool, true, false, Option, Some, None, List, [], ◌∷◌}
use Rattle.fsb_owners.specs.Joint.{Joint, every_joint, unheld}
use Rattle.scope_coherence.specs.declared.cohering.Incoherent.{Incoherent}

-- the joint states that each line may have before a part: all four caches empty; any state, where the part begins later
abbrev pub first_joints : Bool → List Joint
first_joints false = unheld ∷ []
first_joints true = every_joint

-- a finding as a clock and a rule
abbrev pub pair_of : Option Incoherent → Option (ℕ × ℕ)
pair_of None = None
pair_of (Some b) = Some (b.clock, b.rule)
