-- Arbitration: which agent may begin a request at a clock.
use Rattle.std.specs.Prelude.{ℕ, zero, suc, ◌+◌, ◌-◌, ◌%◌, Bool, true, false, ◌&&◌, nat_lt, nat_eq, if◌then◌else◌, Option, Some, None}
use Rattle.std.specs.Option.{option_map}
use Rattle.fsb_count.specs.Options.{is_some_and}
use Rattle.fsb_count.specs.Clocks.{first_where}
use Rattle.fsb_signal.specs.declared.lines.Lines.{Lines}
use Rattle.fsb_signal.specs.declared.lines.TheConstants.Lines.{BREQ0, BREQ1, BREQ2, BREQ3, BPRI, LOCK, ADS}
use Rattle.fsb_signal.specs.Samples.{line_at}
use Rattle.fsb_trace.specs.declared.who.Who.{Who}
use Rattle.fsb_trace.specs.declared.who.Who.TheVariants.{Symmetric, Priority}
use Rattle.fsb_trace.specs.At.{Trace}

-- the BREQ# line of a symmetric agent, 0 to 3
unfoldable pub bus_request_of : ℕ → Lines
bus_request_of zero = BREQ0
bus_request_of (suc zero) = BREQ1
bus_request_of (suc (suc zero)) = BREQ2
bus_request_of (suc (suc (suc n))) = BREQ3

-- the agent's own request line: BREQ# of a symmetric agent, BPRI# of the priority agent
unfoldable pub request_line_of : Who → Lines
request_line_of (Symmetric a) = bus_request_of a
request_line_of Priority = BPRI

-- the two are the same agent
unfoldable pub is_same_agent : Who → Who → Bool
is_same_agent (Symmetric a) (Symmetric b) = nat_eq a b
is_same_agent (Symmetric a) Priority = false
is_same_agent Priority (Symmetric b) = false
is_same_agent Priority Priority = true

-- there is such an agent, and it is this one
unfoldable pub is_agent : Option Who → Who → Bool
is_agent winner who = is_some_and winner (is_same_agent who)

-- which agents began the requests so far: the agent of the last one, if there is one and it had a winner, and the
-- symmetric agent that began one last
abbrev pub Requesters : Type 0
Requesters = Option Who × Option ℕ

-- no request yet
unfoldable pub no_requesters : Requesters
no_requesters = (None, None)

-- the symmetric agent that began a request last, where it was this one so far, and this agent begins one more
unfoldable pub symmetric_after : Option ℕ → Option Who → Option ℕ
symmetric_after symmetric (Some (Symmetric a)) = Some a
symmetric_after symmetric (Some Priority) = symmetric
symmetric_after symmetric None = symmetric

-- one more request, begun by this agent, if there is one
unfoldable pub then_begun : Requesters → Option Who → Requesters
then_begun requesters winner = (winner, symmetric_after requesters.1 winner)

-- the agent with which the rotating order begins: the one after the last symmetric requester, or agent 0
unfoldable pub first_in_order : Option ℕ → ℕ
first_in_order None = 0
first_in_order (Some a) = (a + 1) % 4

-- the n-th agent, from 0, in the order that begins with this one and goes on modulo 4
unfoldable pub agent_in_order : ℕ → ℕ → ℕ
agent_in_order first n = (first + n) % 4

-- the n-th agent in that order has its BREQ# asserted at d
unfoldable pub asks_in_order : Trace → ℕ → ℕ → ℕ → Bool
asks_in_order w d first n = line_at (bus_request_of (agent_in_order first n)) w d

-- the first symmetric agent in that order with BREQ# at d
unfoldable pub first_asking : Trace → ℕ → ℕ → Option ℕ
first_asking w d first = option_map (agent_in_order first) (first_where (asks_in_order w d first) 4)

-- the last requester, if there is one and its request line is asserted at d
unfoldable pub last_if_asking : Trace → ℕ → Option Who → Option Who
last_if_asking w d None = None
last_if_asking w d (Some who) = if line_at (request_line_of who) w d then Some who else None

-- the winner by the lines of clock d: with LOCK# the last requester while it asks; without LOCK# the priority agent
-- if it asks, else the first symmetric agent that asks, in rotating order
unfoldable pub winner_by : Trace → ℕ → Requesters → Option Who
winner_by w d requesters =
    elim (line_at LOCK w d) [
      | true ↦ last_if_asking w d requesters.0
      | false ↦ elim (line_at BPRI w d) [
        | true ↦ Some Priority
        | false ↦ option_map Symmetric (first_asking w d (first_in_order requesters.1))
      ]
    ]

-- the winner at c after these requests, by the lines two clocks before; below clock 2 there is none
unfoldable pub winner_after : Trace → ℕ → Requesters → Option Who
winner_after w c requesters = elim (nat_lt c 2) [ true ↦ None | false ↦ winner_by w (c - 2) requesters ]

-- which agents began the requests before clock c; each request counts, also one that is cancelled later
unfoldable pub requesters_before : Trace → ℕ → Requesters
requesters_before w zero = no_requesters
requesters_before w (suc c) =
    elim (line_at ADS w c) [
      | true ↦ let requesters = requesters_before w c in then_begun requesters (winner_after w c requesters)
      | false ↦ requesters_before w c
    ]

-- the winner at c
unfoldable pub winner_at : Trace → ℕ → Option Who
winner_at w c = winner_after w c (requesters_before w c)

-- the agent of the last request before c
unfoldable pub last_agent : Trace → ℕ → Option Who
last_agent w c = (requesters_before w c).0

-- the agent of the last request before c that a symmetric agent began
unfoldable pub last_symmetric : Trace → ℕ → Option ℕ
last_symmetric w c = (requesters_before w c).1

-- the agent begins a request at c
unfoldable pub begins_at : Trace → ℕ → Who → Bool
begins_at w c who = line_at ADS w c && is_agent (winner_at w c) who
