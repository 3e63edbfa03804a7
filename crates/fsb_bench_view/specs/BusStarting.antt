-- Which request begins at a clock.
use Rattle.std.specs.Prelude.{ℕ, ◌+◌, ◌==◌, ◌&&◌, Bool, true, false, not, is_none, nat_le, nat_lt, if◌then◌else◌, length, Option, Some, None, slice_get}
use Rattle.std.specs.List.{list_any}
use Rattle.std.specs.Option.{option_and_then, option_map, option_map_or}
use Rattle.fsb_agent_view.specs.declared.want.Want.{Want}
use Rattle.fsb_bridge.specs.declared.deferral.Deferral.{Deferral}
use Rattle.fsb_queue.specs.declared.entry.Entry.{Entry}
use Rattle.fsb_timely.specs.Starts.{reply_to}
use Rattle.fsb_trace.specs.Requests.{is_write_back_kind}
use Rattle.fsb_trace.specs.declared.who.Who.{Who}
use Rattle.fsb_trace.specs.declared.who.Who.TheVariants.{Symmetric, Priority}
use Rattle.fsb_bench_view.specs.declared.beginning.Latest.{Latest}
use Rattle.fsb_bench_view.specs.declared.beginning.Starting.{Starting}
use Rattle.fsb_bench_view.specs.declared.decided.AskedFor.{AskedFor}
use Rattle.fsb_bench_view.specs.BusViews.{BusView}

-- what the agent of this number wants
abbrev pub want_in : AskedFor → ℕ → Option Want
want_in asked n = option_map_or (λ want. want) (slice_get asked.wants n) None

-- no request began at one of the two clocks before
abbrev pub is_spaced_by : Option Latest → ℕ → Bool
is_spaced_by latest clock = option_map_or (λ last. nat_le (last.clock + 3) clock) latest true

-- a request may begin at the clock: BNR# was not asked for two clocks before, no request began at one of the two clocks
-- before, and fewer than eight are in flight
abbrev pub may_start : BusView → ℕ → Bool → Bool
may_start bus clock was_held = not was_held && (is_spaced_by bus.latest clock && nat_lt (length bus.queue) 8)

-- the entry is another agent's
abbrev pub is_of_other : ℕ → Who → Bool
is_of_other agent (Symmetric other) = not (other == agent)
is_of_other agent Priority = false

-- the entry is another agent's request for the line, and has no snoop end
abbrev pub is_open_of_other : ℕ → ℕ → Entry → Bool
is_open_of_other agent line entry = is_of_other agent entry.who && (entry.request.line == line) && is_none entry.outcome

-- the agent is held back: it wants to write a line back for which another agent's request is open
abbrev pub is_kept_from : BusView → ℕ → Want → Bool
is_kept_from bus agent want =
    is_write_back_kind want.request.kind && list_any (is_open_of_other agent want.request.line) bus.queue

-- the want of the agent that has won begins, unless it is held back
abbrev pub starting_want : BusView → ℕ → Want → Option Starting
starting_want bus agent want =
    if is_kept_from bus agent want then None
    else Some record { who = Symmetric agent; request = want.request; locked = want.locked }

-- the reply to the deferral begins
abbrev pub starting_reply : Deferral → Starting
starting_reply deferral = record { who = Priority; request = reply_to deferral.request; locked = false }

-- what begins where this agent has won: its want, or the reply that is due
abbrev pub starting_for : BusView → AskedFor → Who → Option Starting
starting_for bus asked (Symmetric agent) = option_and_then (starting_want bus agent) (want_in asked agent)
starting_for bus asked Priority = option_map starting_reply asked.due

-- what begins at the clock, where this is the winner
abbrev pub starting_by : BusView → Option Who → ℕ → AskedFor → Bool → Option Starting
starting_by bus winner clock asked was_held =
    if may_start bus clock was_held then option_and_then (starting_for bus asked) winner else None
