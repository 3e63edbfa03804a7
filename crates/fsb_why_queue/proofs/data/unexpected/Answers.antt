use Rattle.std.proofs.Common.{sym, ◌∙◌}
use Rattle.fsb_why_queue.proofs.Busy.{busy-for-none, data-for-none, none-used}
use Rattle.fsb_why_queue.proofs.data.unexpected.Goals as goal

pub returns-then-has : goal.returns-then-has
returns-then-has c = λ m v k e n.
    data-for-none m v k c.args.sample.now c.args.last e n (sym c.has.ensures ∙ c.if-has.true)

pub returns-then-has-2 : goal.returns-then-has-2
returns-then-has-2 c = λ m v k e n.
    busy-for-none m v k c.args.sample.now c.args.last e n.after (sym c.has-else-has.ensures ∙ c.if-has-2.true)

pub returns-else-has-2 : goal.returns-else-has-2
returns-else-has-2 c = λ m v k e n.
    none-used m v k c.args.sample.now c.args.last e n (sym c.has.ensures ∙ c.if-has.false)
    (sym c.has-else-has.ensures ∙ c.if-has-2.false)
