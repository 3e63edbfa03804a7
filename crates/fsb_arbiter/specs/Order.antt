-- The winner by a set of control lines: what the definition of a winner says of the lines of one clock.
use Rattle.std.specs.Prelude.{ℕ, Bool, true, false, ◌==◌, if◌then◌else◌, Option, Some, None}
use Rattle.std.specs.Option.{option_map}
use Rattle.std.specs.Int.RustNames.{bit_and}
use Rattle.fsb_count.specs.Clocks.{first_where}
use Rattle.fsb_signal.specs.declared.lines.Lines.{Lines}
use Rattle.fsb_signal.specs.declared.lines.TheConstants.Lines.{BPRI, LOCK}
use Rattle.fsb_trace.specs.declared.who.Who.{Who}
use Rattle.fsb_trace.specs.declared.who.Who.TheVariants.{Symmetric, Priority}
use Rattle.fsb_trace.specs.Winner.{bus_request_of, request_line_of, agent_in_order, first_in_order}

-- the line is among the lines
abbrev pub is_in : Lines → Lines → Bool
is_in lines line = bit_and lines.0 line.0 == line.0

-- the n-th agent in the order that begins with this one has its BREQ# among the lines
unfoldable pub asks_among : Lines → ℕ → ℕ → Bool
asks_among lines first n = is_in lines (bus_request_of (agent_in_order first n))

-- the first symmetric agent in that order whose BREQ# is among the lines
unfoldable pub first_among : Lines → ℕ → Option ℕ
first_among lines first = option_map (agent_in_order first) (first_where (asks_among lines first) 4)

-- the last requester, if there is one and its request line is among the lines
unfoldable pub last_if_among : Lines → Option Who → Option Who
last_if_among lines None = None
last_if_among lines (Some who) = if is_in lines (request_line_of who) then Some who else None

-- the winner by these lines, after requests the last of which this agent began, and this symmetric agent one last
unfoldable pub winner_among : Lines → Option Who → Option ℕ → Option Who
winner_among lines last symmetric =
    elim (is_in lines LOCK) [
      | true ↦ last_if_among lines last
      | false ↦ elim (is_in lines BPRI) [
        | true ↦ Some Priority
        | false ↦ option_map Symmetric (first_among lines (first_in_order symmetric))
      ]
    ]
