use Rattle.fsb_lawful.proofs.AddressErrors.{keeps-10}
use Rattle.fsb_lawful.proofs.laws.address_errors_cancel_requests.Goals as goal

pub returns : goal.returns
returns c = keeps-10
