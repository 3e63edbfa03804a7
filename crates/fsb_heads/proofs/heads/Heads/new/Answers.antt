use Rattle.std.proofs.Common.{refl}
use Rattle.fsb_count.specs.Clocks.{count_where, all_where, nth_where}
use Rattle.fsb_trace.specs.Requests.{live_count, live_clock_of}
use Rattle.fsb_trace.specs.Snoop.{snoop_end_of, snoop_end_if, start_after_clock}
use Rattle.fsb_trace.specs.Response.{ready_clock_of, ready_after, clock_after_snoop}
use Rattle.fsb_laws.specs.Progress.{response_count, transfer_of, transfer_after}
use Rattle.fsb_heads.specs.Heads.{value_before, snooped_count, last_snoop_end}
use Rattle.fsb_heads.proofs.heads.Heads.new.Goals as goal

pub returns : goal.returns
unfolding count_where all_where nth_where live_count live_clock_of snoop_end_of snoop_end_if start_after_clock
    ready_clock_of ready_after clock_after_snoop response_count transfer_of transfer_after value_before snooped_count
    last_snoop_end
returns c = record { snooped = refl; ready = refl; chunks = refl }
