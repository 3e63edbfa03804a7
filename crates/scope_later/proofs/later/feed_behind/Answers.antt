use Rattle.std.proofs.Common.{◌∙◌, ◌++◌, ap}
use Rattle.scope_later.specs.Histories.{history}
use Rattle.scope_later.specs.Findings.{found_behind, counted_behind}
use Rattle.scope_later.proofs.later.feed_behind.Goals as goal

pub returns-clause-found : goal.returns-clause-found
unfolding found_behind
returns-clause-found c a m h s =
    c.counted.ensures ∙ ap counted_behind (c.feed-found.ensures.verdict m (history a ++ h) s)
