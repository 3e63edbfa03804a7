use Rattle.std.specs.Prelude.{false}
use Rattle.fsb_agent_run.proofs.Places.{idling-by, next-by, placed-at, window-by}
use Rattle.fsb_agent_run.proofs.StatesTold.{met-by, served-by, there-by}
use Rattle.fsb_coherent.specs.Relation.{is_dirty_below}
use Rattle.fsb_agent_run.specs.Stages.{is_dirty_snooped}
use Rattle.fsb_agent_run.proofs.laws.views_go_by_the_run.Goals as goal

pub returns-clause-next : goal.returns-clause-next
returns-clause-next c = λ p a d v h. next-by p a d v h.agent (placed-at p a d v h.placed)

pub returns-clause-window : goal.returns-clause-window
returns-clause-window c = λ p a d v h. window-by p a d false v h.agent (placed-at p a d v h.placed)

pub returns-clause-idling : goal.returns-clause-idling
returns-clause-idling c = λ p a d v h. idling-by p a d v h.agent (placed-at p a d v h.placed)

pub returns-clause-met : goal.returns-clause-met
returns-clause-met c = λ p a d v need h. met-by p a d d (λ line. is_dirty_below p a line d) v need h.lines

pub returns-clause-served : goal.returns-clause-served
returns-clause-served c = λ p a d v need h. served-by p a d (λ line. is_dirty_below p a line d) v need h.lines

pub returns-clause-there : goal.returns-clause-there
returns-clause-there c = λ p a d v need h. there-by p a d (λ line. is_dirty_snooped p a line d) v need h.lines
