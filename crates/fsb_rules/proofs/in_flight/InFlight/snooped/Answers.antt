use Rattle.std.proofs.Common.{◌≡◌, Some, None, slice_get, sym, ◌∙◌}
use Rattle.fsb_rules.proofs.Queue.{asks_first}
use Rattle.fsb_rules.proofs.QueueGoes.{ends_none, snooped_new}
use Rattle.fsb_rules.proofs.in_flight.InFlight.snooped.Goals as goal

pub returns-then-ends_snoop-clause-snooped : goal.returns-then-ends_snoop-clause-snooped
returns-then-ends_snoop-clause-snooped c = λ h a.
    let e : slice_get c.args.self.now.asking.items 0 ≡ Some c.in-Some.request.now =
    sym (rw (c.in-Some.is, c.as_slice.ensures.value) at c.first.ensures.value) in
    snooped_new a c.args.sample.now (sym (c.ends_snoop.ensures h a) ∙ c.if-ends_snoop.true) (asks_first a.stands e)
    c.has.ensures c.has-then-ends_snoop.ensures

pub returns-in-None-clause-there : goal.returns-in-None-clause-there
returns-in-None-clause-there c = λ h a.
    let e : slice_get c.args.self.now.asking.items 0 ≡ None =
    sym (rw (c.in-None.is, c.as_slice.ensures.value) at c.first.ensures.value) in
    sym (ends_none a c.args.sample.now e)
