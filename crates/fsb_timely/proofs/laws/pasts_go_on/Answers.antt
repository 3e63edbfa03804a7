use Rattle.fsb_timely.proofs.GoingOn.{going-alike, holds_line-same, latest_grant-same, is_ready-same, is_exclusive-same}
use Rattle.fsb_timely.proofs.GoingScripts.{next_item-alike, window-alike, is_idling-alike, is_hit-alike}
use Rattle.fsb_timely.proofs.Next.{past-goes_on}
use Rattle.fsb_timely.proofs.laws.pasts_go_on.Goals as goal

pub returns-clause-held : goal.returns-clause-held
returns-clause-held c = λ n p q a line t h l. holds_line-same n p q a line t (going-alike n p q h) l

pub returns-clause-latest : goal.returns-clause-latest
returns-clause-latest c = λ n p q a line t h l. latest_grant-same n p q a line t (going-alike n p q h) l

pub returns-clause-ready : goal.returns-clause-ready
returns-clause-ready c = λ n p q a line t h l. is_ready-same n p q a line t (going-alike n p q h) l

pub returns-clause-exclusive : goal.returns-clause-exclusive
returns-clause-exclusive c = λ n p q a line t h l. is_exclusive-same n p q a line t (going-alike n p q h) l

pub returns-clause-item : goal.returns-clause-item
returns-clause-item c = next_item-alike

pub returns-clause-window : goal.returns-clause-window
returns-clause-window c = window-alike

pub returns-clause-idling : goal.returns-clause-idling
returns-clause-idling c = is_idling-alike

pub returns-clause-hit : goal.returns-clause-hit
returns-clause-hit c = is_hit-alike

pub returns-clause-next : goal.returns-clause-next
returns-clause-next c = past-goes_on
