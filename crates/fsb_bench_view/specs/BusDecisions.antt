-- What is decided at a clock before its sample is made.
use Rattle.std.specs.Prelude.{ℕ, ◌+◌, ◌==◌, ◌&&◌, Bool, List, [], ◌∷◌, Option, slice_get}
use Rattle.std.specs.List.{find}
use Rattle.std.specs.Option.{option_and_then}
use Rattle.fsb_agent_view.specs.AgentViews.{AgentView}
use Rattle.fsb_agent_view.specs.Wanting.{want_by}
use Rattle.fsb_agent_view.specs.declared.want.Want.{Want}
use Rattle.fsb_bridge.specs.Deferrals.{due_deferral}
use Rattle.fsb_phase.specs.declared.drive.Drive.{Drive}
use Rattle.fsb_queue.specs.declared.entry.Entry.{Entry}
use Rattle.fsb_trace.specs.declared.who.Who.{Who}
use Rattle.fsb_bench_view.specs.declared.decided.AskedFor.{AskedFor}
use Rattle.fsb_bench_view.specs.declared.decided.Decided.{Decided}
use Rattle.fsb_bench_view.specs.BusViews.{BusView}
use Rattle.fsb_bench_view.specs.BusStarting.{starting_by}
use Rattle.fsb_bench_view.specs.BusSnooping.{snooping_by}

-- what the agent of this number wants at a clock, if there is one
abbrev pub want_at : List AgentView → ℕ → ℕ → Option Want
want_at agents clock n = option_and_then (λ v. want_by v clock) (slice_get agents n)

-- what is asked for at a clock
abbrev pub asked_by : BusView → ℕ → AskedFor
asked_by bus clock = record {
  wants =
      want_at bus.agents clock 0 ∷ (want_at bus.agents clock 1
      ∷ (want_at bus.agents clock 2 ∷ (want_at bus.agents clock 3 ∷ [])));
  due = due_deferral clock bus.bridge.waiting;
}

-- the entry began three clocks before, and is to be cancelled
abbrev pub is_cancelled_by : ℕ → Entry → Bool
is_cancelled_by clock entry = entry.choice.aerr && (entry.clock + 3 == clock)

-- the request that an address error cancels at the clock
abbrev pub cancelled_by : BusView → ℕ → Option Entry
cancelled_by bus clock = find (is_cancelled_by clock) bus.queue

-- what is decided at the clock after the hits: this is the winner, this is driven, BNR# is asked for or not, and was two
-- clocks before or not
abbrev pub bus_decided : BusView → Option Who → ℕ → Drive → Bool → Bool → Decided
bus_decided bus winner clock drive hold was_held = record {
  hold = hold;
  drive = drive;
  asked = asked_by bus clock;
  starting = starting_by bus winner clock (asked_by bus clock) was_held;
  cancelled = cancelled_by bus clock;
  snooped = snooping_by bus drive;
}
