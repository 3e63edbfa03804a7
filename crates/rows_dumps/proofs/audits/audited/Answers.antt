use Rattle.std.proofs.Common.{ap, ◌∙◌, sym, refl, ◌+◌, [], ◌∷◌, ◌++◌, length, false}
use Rattle.fsb_laws.proofs.Interface.{one_more}
use Rattle.fsb_laws.specs.OneMore.{OneMore}
use Rattle.fsb_signal.specs.declared.marks.Marks.{Marks}
use Rattle.fsb_audit.proofs.Interface.{nothing_yet}
use Rattle.rows_dumps.proofs.audits.audited.Goals as goal

abbrev no_marks : Marks
no_marks = record { ap = false; rp = false }

pub loop-clock-init : goal.loop-clock-init
loop-clock-init c = ([], c.in_ok-audit.ensures.stands, refl, c.in_ok-audit.ensures.room, sym (nothing_yet no_marks))

pub loop-clock-preserved : goal.loop-clock-preserved
loop-clock-preserved c =
    let i = c.loop-clock.invariant in (
      i.0 ++ c.sample_at.result ∷ [],
      c.in_ok-found.ensures.stands no_marks i.0 i.1,
      (one_more i.0 c.sample_at.result).size ∙ ap (λ n. n + 1) i.2,
      c.in_ok-found.ensures.room,
      c.in_ok-found.ensures.found no_marks i.0 i.1,
    )
