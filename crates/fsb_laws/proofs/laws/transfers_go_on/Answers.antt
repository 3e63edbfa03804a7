use Rattle.fsb_laws.proofs.EndFacts.{ends_to-still, ends_to-moving}
use Rattle.fsb_laws.proofs.TransferSteps.{transfer_of-kept, transfer_of-begun}
use Rattle.fsb_laws.proofs.ReadySteps.{ready_clock_of-begun, ready_clock_of-old}
use Rattle.fsb_laws.proofs.laws.transfers_go_on.Goals as goal

pub returns : goal.returns
returns c = record {
  begun = transfer_of-begun;
  kept = transfer_of-kept;
  still = ends_to-still;
  moving = ends_to-moving;
  ready = ready_clock_of-begun;
  still_ready = ready_clock_of-old;
}
