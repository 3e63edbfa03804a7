use Rattle.fsb_timely.proofs.Holding.{holds_line-more, latest_grant-more, is_exclusive-more, is_ended-more}
use Rattle.fsb_timely.proofs.laws.held_lines_step.Goals as goal

pub returns-clause-held : goal.returns-clause-held
returns-clause-held c = holds_line-more

pub returns-clause-latest : goal.returns-clause-latest
returns-clause-latest c = latest_grant-more

pub returns-clause-exclusive : goal.returns-clause-exclusive
returns-clause-exclusive c = is_exclusive-more

pub returns-clause-ended : goal.returns-clause-ended
returns-clause-ended c = is_ended-more
