-- The status that a command ends in, out of what it found in the file.
use Rattle.std.specs.Prelude.{ℕ, List, Option, None, Some}
use Rattle.fsb_audit.specs.declared.finding.Finding.{Finding}
use Rattle.fsb_audit.specs.declared.finding.Finding.TheVariants as findings
use Rattle.fsb_rules.specs.declared.broken.Broken.{Broken}
use Rattle.fsb_top.specs.declared.status.Status.{Status}
use Rattle.fsb_top.specs.declared.status.Status.TheVariants.{Done, Foul, NotFound, Rejected}

-- of a check or a table, by the broken rule that comes first
abbrev pub status_of_broken : Option Broken → Status
status_of_broken None = Done
status_of_broken (Some broken) = Rejected broken

-- of an audit, by what it finds first
abbrev pub status_of_finding : Option Finding → Status
status_of_finding None = Done
status_of_finding (Some (findings.Broken broken)) = Rejected broken
status_of_finding (Some (findings.Foul foul)) = Foul foul

-- of a search, by the clocks of the least match
abbrev pub status_of_match : Option (List ℕ) → Status
status_of_match None = NotFound
status_of_match (Some clocks) = Done
