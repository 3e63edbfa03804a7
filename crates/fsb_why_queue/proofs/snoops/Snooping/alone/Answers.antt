use Rattle.std.proofs.Common.{sym, ap, ◌∙◌, arith}
use Rattle.fsb_trace.specs.Snoop.{is_every_second_from}
use Rattle.fsb_why_queue.proofs.Asking.{between-is, clock-kept, early-is}
use Rattle.fsb_why_queue.proofs.snoops.Snooping.alone.Goals as goal

pub returns-then-is_every_second_from : goal.returns-then-is_every_second_from
returns-then-is_every_second_from c = λ m v n a.
    clock-kept m v c.args.clock c.args.self.now.start n.due
    (sym (c.is_every_second_from.ensures ∙ ap (is_every_second_from c.args.self.now.start) c.from.ensures) ∙ c.if-is_every_second_from.true)

pub returns-then-from-self : goal.returns-then-from-self
returns-then-from-self c = λ m v n a.
    early-is m v c.args.clock c.args.self.now c.args.lines n a
    (sym (c.is_every_second_from.ensures ∙ ap (is_every_second_from c.args.self.now.start) c.from.ensures) ∙ c.if-is_every_second_from.false)
    (omega (arith, c.if-from-self.true, c.from-else-is_every_second_from.ensures))

pub returns-else-from-self : goal.returns-else-from-self
returns-else-from-self c = λ m v n a.
    between-is m v c.args.clock c.args.self.now c.args.lines n a
    (sym (c.is_every_second_from.ensures ∙ ap (is_every_second_from c.args.self.now.start) c.from.ensures) ∙ c.if-is_every_second_from.false)
    (omega (arith, c.if-from-self.false, c.from-else-is_every_second_from.ensures))
