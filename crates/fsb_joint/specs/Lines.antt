-- The sets of all lines.
use Rattle.std.specs.Prelude.{◌≡◌, ℕ, unwrap_or, nat_eq, if◌then◌else◌}
use Rattle.steady_map.specs.Entries.{get}
use Rattle.fsb_joint.specs.declared.set.JointSet.{JointSet}
use Rattle.fsb_joint.specs.declared.line_sets.LineSets.{LineSets}

-- the set of the line: that which was put there last, or else the first
abbrev pub set_of_line : LineSets → ℕ → JointSet
set_of_line lines line = unwrap_or (get lines.sets line) lines.first

-- the line has this set now, and each other line what it had
abbrev pub Sets : LineSets → LineSets → ℕ → JointSet → Type 0
Sets old new line set = (other : ℕ) → set_of_line new other ≡ (if nat_eq line other then set else set_of_line old other)
