-- What an audit finds of a dump.
use Rattle.std.specs.Prelude.{◌≡◌, ℕ, List, Option, Some, None, Result, Ok, Err}
use Rattle.fsb_trace.specs.At.{Trace}
use Rattle.fsb_watch.specs.Watched.{IsSeen}
use Rattle.fsb_audit.specs.declared.finding.Finding.{Finding}
use Rattle.fsb_audit.specs.MovedChunks.{moved_count}
use Rattle.fsb_audit.specs.Fouls.{finding_of}
use Rattle.fsb_audit_dump.specs.declared.audit.Audited.{Audited}

-- what is found in a trace, and where nothing is, how many chunks it moves
unfoldable pub audited_as : Option Finding → Trace → Result ℕ Finding
audited_as None w = Ok (moved_count w)
audited_as (Some found) w = Err found

-- the text is the dump of a trace that has so many clocks, in which this is found
abbrev pub IsAudited : Audited → List ℕ → Type 0
IsAudited audited text = IsSeen (λ marks w. audited.found ≡ audited_as (finding_of marks w) w) audited.clocks text
