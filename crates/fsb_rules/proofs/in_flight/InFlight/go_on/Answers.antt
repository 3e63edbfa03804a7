use Rattle.std.proofs.Common.{refl, sym, ◌∙◌}
use Rattle.fsb_rules.proofs.QueueGoes.{begun_fits, queue_follows, snooped_fits}
use Rattle.fsb_rules.proofs.in_flight.InFlight.go_on.Goals as goal

pub take_request-requires : goal.take_request-requires
take_request-requires c = rw c.take_last.ensures.asking (begun_fits c.requires.1)

pub take_snooped-requires : goal.take_snooped-requires
take_snooped-requires c = λ t. rw c.take_last.ensures.waiting
    (snooped_fits c.requires.1
    (sym (c.snooped-snooped.ensures.there c.requires.0 c.requires.1.in_time.here) ∙ t))

pub returns : goal.returns
returns c = λ h g.
    let there = c.snooped-snooped.ensures.there h g.in_time.here in
    queue_follows g _ c.snooped-snooped.result there (c.snooped-snooped.ensures.snooped h g.in_time.here)
    (c.take_request.ensures ∙ (rw (c.take_last.ensures.asking, c.has.ensures, sym c.is_some-2.ensures) refl))
    (c.take_snooped.ensures ∙ (rw (c.take_last.ensures.waiting, c.responds.ensures) refl))
    (c.heads_with-heads.ensures h g.in_time (c.is_some.ensures ∙ there)) (c.take_last.ensures.last h g.in_time)
