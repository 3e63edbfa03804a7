use Rattle.vcd_write.proofs.ClockText.{clock_text-zero, clock_text-later}
use Rattle.vcd_write.proofs.clock.text_of_clock.Goals as goal

pub returns-then-clock-eq0-clause-items : goal.returns-then-clock-eq0-clause-items
returns-then-clock-eq0-clause-items c =
    rw (c.put_edge.ensures.items, c.new-text.ensures, c.from-time.ensures) (clock_text-zero _ _ _ _ c.if-clock-eq0.true)

pub returns-else-clock-eq0-clause-items : goal.returns-else-clock-eq0-clause-items
returns-else-clock-eq0-clause-items c =
    rw (
      c.put_edge-else-clock-eq0-2.ensures.items,
      c.put_changes.ensures.items,
      c.put_edge-else-clock-eq0.ensures.items,
      c.new-text.ensures,
      c.from-time.ensures,
    )
    (clock_text-later _ _ _ _ c.if-clock-eq0.false)
