use Rattle.std.proofs.Common.{refl}
use Rattle.fsb_count.specs.Clocks.{count_where, all_where, nth_where}
use Rattle.fsb_trace.specs.Requests.{live_count, live_clock_of}
use Rattle.fsb_trace.specs.Snoop.{snoop_end_of, snoop_end_if, start_after_clock}
use Rattle.fsb_trace.specs.Response.{answer_from, two_after_snoop}
use Rattle.fsb_laws.specs.Progress.{response_count}
use Rattle.fsb_laws.proofs.Interface.{orderly-empty}
use Rattle.fsb_heads.specs.Heads.{value_before}
use Rattle.fsb_phase.specs.Phases.{last_response}
use Rattle.fsb_phase.proofs.phases.Phases.new.Goals as goal

pub returns : goal.returns
unfolding count_where all_where nth_where live_count live_clock_of snoop_end_of snoop_end_if start_after_clock
    response_count answer_from two_after_snoop value_before last_response
returns c = record { heads = c.new.ensures; from = refl; response = refl; orderly = orderly-empty }
