use Rattle.fsb_laws.proofs.FlightSteps.{in_flight-more}
use Rattle.fsb_laws.proofs.laws.flight_goes_on.Goals as goal

pub returns : goal.returns
returns c = in_flight-more
