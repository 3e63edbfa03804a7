-- Responses and data: what is on TRDY#, RS#, DRDY# and DBSY#, and where D# is 0.
use Rattle.std.specs.Prelude.{ℕ, ◌&&◌, ◌||◌, Bool, nat_eq, Option, is_some}
use Rattle.std.specs.Bool.{beq}
use Rattle.std.specs.Option.{option_map_or, option_and_then}
use Rattle.fsb_count.specs.Clocks.{first_where, any_where}
use Rattle.fsb_count.specs.Options.{is_some_and}
use Rattle.fsb_signal.specs.declared.lines.TheConstants.Lines.{TRDY, DRDY, DBSY}
use Rattle.fsb_signal.specs.Samples.{line_at, data_at}
use Rattle.fsb_trace.specs.declared.outcome.Outcome.{Outcome}
use Rattle.fsb_trace.specs.At.{response_code_at}
use Rattle.fsb_trace.specs.Outcome.{does_move, response_code_of, response_clock_of, settled_outcome_of}
use Rattle.fsb_trace.specs.Requests.{live_count}
use Rattle.fsb_trace.specs.Response.{takes, answer_from, ready_clock_of}
use Rattle.fsb_trace.specs.Timing.{is_ready_from, is_response_from, chunk_from, is_busy_from}
use Rattle.fsb_timely.specs.Past.{Past}
use Rattle.fsb_timely.specs.Moments.{turns_in}
use Rattle.fsb_timely.specs.Runs.{Run}
use Rattle.fsb_timely.specs.Snoops.{live_choice}

-- live request i takes, and c comes its wait for TRDY# after the clock from which it is answered
unfoldable pub is_ready_due : Run → ℕ → ℕ → Bool
is_ready_due r c i =
    takes r.trace i && is_ready_from (answer_from r.trace i) (live_choice r i).trdy c

-- c is the response clock that live request i is to have: one that takes has it two clocks after its ready clock, any
-- other from the clock from which it is answered, and both wait as is chosen
unfoldable pub is_response_clock : Run → ℕ → ℕ → Bool
is_response_clock r c i =
    is_response_from (takes r.trace i) (answer_from r.trace i) (ready_clock_of r.trace i) (live_choice r i).resp c

-- the settled outcome of live request i
unfoldable pub settled_of : Run → Past → ℕ → Option Outcome
settled_of r p i = settled_outcome_of r.trace (turns_in p.moments) i

-- the live request that is to respond at c
unfoldable pub number_responding : Run → ℕ → Option ℕ
number_responding r c = first_where (is_response_clock r c) (live_count r.trace)

-- the response code that c is to have: that of the settled outcome of the live request that is to respond there, or 0
unfoldable pub code_due : Run → Past → ℕ → ℕ
code_due r p c = option_map_or response_code_of (option_and_then (settled_of r p) (number_responding r c)) 0

-- the settled outcome of live request i is one with which data move
unfoldable pub settles_to_move : Run → Past → ℕ → Bool
settles_to_move r p i = is_some_and (settled_of r p i) does_move

-- data of live request i move, and c is one of its four data clocks: a chunk is due there
unfoldable pub has_data_at : Run → Past → ℕ → ℕ → Bool
has_data_at r p c i =
    settles_to_move r p i
    && is_some (option_and_then (chunk_from (live_choice r i).gap c) (response_clock_of r.trace i))

-- data of live request i move, and c is a clock at which it keeps the data bus: from its response clock to the clock
-- before its last data
unfoldable pub is_busy_at : Run → Past → ℕ → ℕ → Bool
is_busy_at r p c i =
    settles_to_move r p i && is_some_and (response_clock_of r.trace i) (is_busy_from (live_choice r i).gap c)

-- TRDY# is at c exactly where c is the ready clock of a live request that takes
unfoldable pub drives_ready : Run → ℕ → Bool
drives_ready r c = beq (line_at TRDY r.trace c) (any_where (is_ready_due r c) (live_count r.trace))

-- RS# has the code at c that is due there
unfoldable pub drives_code : Run → Past → ℕ → Bool
drives_code r p c = nat_eq (response_code_at r.trace c) (code_due r p c)

-- DRDY# is at c exactly where a live request has data there
unfoldable pub drives_data_ready : Run → Past → ℕ → Bool
drives_data_ready r p c = beq (line_at DRDY r.trace c) (any_where (has_data_at r p c) (live_count r.trace))

-- DBSY# is at c exactly where a live request keeps the data bus
unfoldable pub drives_data_busy : Run → Past → ℕ → Bool
drives_data_busy r p c = beq (line_at DBSY r.trace c) (any_where (is_busy_at r p c) (live_count r.trace))

-- D# is 0 at c where DRDY# is not there
unfoldable pub keeps_data_quiet : Run → ℕ → Bool
keeps_data_quiet r c = line_at DRDY r.trace c || nat_eq (data_at r.trace c).bits 0

-- Responses and data: TRDY#, the code of RS#, DRDY# and DBSY# are as they are due, and D# is 0 where no data are.
unfoldable pub drives_responses : Run → Past → ℕ → Bool
drives_responses r p c =
    drives_ready r c && drives_code r p c && drives_data_ready r p c && drives_data_busy r p c && keeps_data_quiet r c
