use Rattle.std.proofs.Common.{[], ◌∷◌, ◌++◌, length, ap, subst, sym, ◌∙◌}
use Rattle.fsb_laws.specs.OneMore.{cancels}
use Rattle.fsb_trace.specs.Outcome.{response_clock_of}
use Rattle.fsb_laws.proofs.Interface.{one_more}
use Rattle.fsb_owner_feed.specs.Table.{IsReached}
use Rattle.fsb_owner_feed.proofs.Happening.{answered_is}
use Rattle.fsb_owner_feed.proofs.table.Table.happened.Goals as goal

pub returns-clause-happens : goal.returns-clause-happens
returns-clause-happens c = λ h g.
    let answered = c.answered-answered.ensures h g in
    record {
      more = one_more h c.args.sample.now;
      orderly = g.before;
      after = g.after;
      clock = g.stands.clock;
      cancelled = λ q. c.cancelled_by.ensures q ∙ ap (λ n. cancels c.args.sample.now n q) g.stands.clock;
      snooped = c.snooped.ensures.reached h g g.stands.clock;
      answered = subst (λ o. IsReached response_clock_of o (h ++ c.args.sample.now ∷ []) (length h))
          (sym c.clock_of.ensures) (answered_is g c.answered-answered.result answered);
      ended = c.ended.ensures h g answered;
      begun = c.begun.ensures h g g.stands.clock;
    }

pub returns-clause-snoops : goal.returns-clause-snoops
returns-clause-snoops c = λ h g. c.snooped.ensures.there h g g.stands.clock
