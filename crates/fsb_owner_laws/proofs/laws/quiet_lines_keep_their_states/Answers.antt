use Rattle.fsb_owner_laws.proofs.Quiet.{clock_quiet, unseen_quiet}
use Rattle.fsb_owner_laws.proofs.laws.quiet_lines_keep_their_states.Goals as goal

pub returns : goal.returns
returns c = record { shown = clock_quiet; unseen = unseen_quiet }
