use Rattle.scope_wiring.proofs.Best.{best-within}
use Rattle.scope_wiring.proofs.candidates.best_among.Goals as goal

pub returns : goal.returns
returns c =
    rw (best-within c.in_ok-groups.groups c.args.names.now c.args.settled.now c.args.scopes.now c.in_ok-counts.counts.items
    c.greatest.result c.in_ok-groups.ensures c.in_ok-counts.ensures (λ count. rw c.deref.ensures.value at c.greatest.ensures count))
    at c.greatest_among.ensures
