use Rattle.fsb_coherent.proofs.QuietClocks.{no_events, keeps-quiet}
use Rattle.fsb_coherent.proofs.laws.quiet_clocks_keep_ties.Goals as goal

pub returns-clause-events : goal.returns-clause-events
returns-clause-events c = no_events

pub returns-clause-tie : goal.returns-clause-tie
returns-clause-tie c = keeps-quiet
