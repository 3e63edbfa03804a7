use Rattle.fsb_why_open.proofs.Taking.{counted, few, nobodys, too_many_is}
use Rattle.fsb_why_open.proofs.ids.too_many.Goals as goal

pub returns-then-outstanding-ge4 : goal.returns-then-outstanding-ge4
returns-then-outstanding-ge4 c = λ m h x request b plain.
    too_many_is b m c.in-Some.who c.number-outstanding.result c.in-Some.is plain
    (counted b c.in-Some.who c.count_of.result c.number-outstanding.result c.in-Some.is c.ranges.clock.fits
    c.count_of.ensures c.number-outstanding.ensures) c.if-outstanding-ge4.true

pub returns-else-outstanding-ge4 : goal.returns-else-outstanding-ge4
returns-else-outstanding-ge4 c = λ m h x request b plain.
    few b c.number-outstanding.result
    (counted b c.in-Some.who c.count_of.result c.number-outstanding.result c.in-Some.is c.ranges.clock.fits
    c.count_of.ensures c.number-outstanding.ensures) c.if-outstanding-ge4.false

pub returns-in-None : goal.returns-in-None
returns-in-None c = λ m h x request b plain. nobodys b c.in-None.is
