use Rattle.std.proofs.Common.{append_assoc}
use Rattle.fsb_report.specs.SummaryText.{counts_text}
use Rattle.fsb_report.proofs.summary.put_counts.Goals as goal

pub returns-clause-items : goal.returns-clause-items
unfolding counts_text
returns-clause-items c =
    rw (
      c.put_number-4.ensures.items,
      c.put_number-3.ensures.items,
      c.put_number-2.ensures.items,
      c.put_number.ensures.items,
    )
    (rw (c.from.ensures, c.from-2.ensures, c.from-3.ensures, c.from-4.ensures) (simp append_assoc))
