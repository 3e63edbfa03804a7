use Rattle.fsb_encode.proofs.CodedRequests.{request_held}
use Rattle.fsb_encode.proofs.decoding.clocks_hold_request.Goals as goal

pub returns : goal.returns
returns c = request_held
