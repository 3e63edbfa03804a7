-- What the auditor of a dump stands for.
use Rattle.std.specs.Prelude.{◌≡◌, true, false, Some}
use Rattle.fsb_signal.specs.declared.marks.Marks.{Marks}
use Rattle.fsb_trace.specs.At.{Trace}
use Rattle.fsb_audit.specs.declared.audit.Audit.{Audit}
use Rattle.fsb_audit.specs.Fouls.{finding_of}
use Rattle.fsb_audit.specs.Audit.{Stands, has_lacked_memory}
use Rattle.fsb_audit_dump.specs.Audited.{audited_as}
use Rattle.fsb_audit_dump.specs.declared.audit.Auditor.{Auditor}

-- what is found so far is what is to be found in the samples of this trace, of a dump with these marks
pub record HasAudited (auditor : Auditor) (marks : Marks) (w : Trace) : Type 0 where
  pub audit : Audit
  pub held : auditor.audit ≡ Some audit
  pub stands : Stands audit marks w
  pub room : has_lacked_memory audit ≡ false
  pub found : auditor.found ≡ audited_as (finding_of marks w) w

-- memory was lacking in the audit
pub record HasLackedMemory (auditor : Auditor) : Type 0 where
  pub audit : Audit
  pub held : auditor.audit ≡ Some audit
  pub lacked : has_lacked_memory audit ≡ true
