use Rattle.fsb_trace.proofs.AgreeAt.{winner_at-agree}
use Rattle.fsb_trace.proofs.Stay.{first_clock_of-stays, live_clock_of-stays, snoop_end_of-stays}
use Rattle.fsb_trace.proofs.Stay.{response_clock_of-stays}
use Rattle.fsb_trace.proofs.StayEnds.{outcome_of-stays, end_of-stays, ready_clock_of-stays}
use Rattle.fsb_trace.proofs.laws.numbers_stay.Goals as goal

pub returns : goal.returns
returns c = record {
  winner = winner_at-agree;
  request = first_clock_of-stays;
  live = live_clock_of-stays;
  snoop_end = snoop_end_of-stays;
  response = response_clock_of-stays;
  outcome = outcome_of-stays;
  end = end_of-stays;
  ready = ready_clock_of-stays;
}
