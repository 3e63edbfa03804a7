use Rattle.std.proofs.Common.{◌≡◌, false, length}
use Rattle.fsb_signal.specs.declared.marks.Marks.{Marks}
use Rattle.fsb_trace.specs.At.{Trace}
use Rattle.fsb_audit.specs.Fouls.{finding_of}
use Rattle.fsb_audit.specs.Audit.{Stands, has_lacked_memory}
use Rattle.rows_dumps.proofs.audits.audited.Given as goal

-- the audit was fed as many samples as clocks so far, and found this in them
abbrev pub invariant-loop-clock : goal.invariant-loop-clock
invariant-loop-clock l =
    (h : Trace) × Stands l.audit (record { ap = false; rp = false }) h × (length h ≡ l.clock)
    × (has_lacked_memory l.audit ≡ false)
    × (l.found ≡ finding_of (record { ap = false; rp = false }) h)
