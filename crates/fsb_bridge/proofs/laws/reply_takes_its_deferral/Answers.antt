use Rattle.fsb_bridge.proofs.Taken.{deferral_of_id-StandsFor, deferral_of_id-reply, waiting_without-reply}
use Rattle.fsb_bridge.proofs.laws.reply_takes_its_deferral.Goals as goal

pub returns : goal.returns
returns c = record { first = deferral_of_id-StandsFor; answered = deferral_of_id-reply; rest = waiting_without-reply }
