use Rattle.fsb_owner_laws.proofs.StepLosses.{reply_keeps, request_keeps, unseen_keeps}
use Rattle.fsb_owner_laws.proofs.laws.steps_keep_lines_coherent.Goals as goal

pub returns : goal.returns
returns c = record { request = request_keeps; reply = reply_keeps; unseen = unseen_keeps }
