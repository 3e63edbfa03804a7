-- What is due at the next clock after a history, of a request in flight.
use Rattle.std.specs.Prelude.{ℕ, Bool, ◌&&◌, is_none, if◌then◌else◌, Option, Some, None, length}
use Rattle.std.specs.Option.{option_and_then}
use Rattle.fsb_count.specs.Options.{is_some_and}
use Rattle.fsb_trace.specs.At.{Trace}
use Rattle.fsb_trace.specs.Requests.{live_number_of}
use Rattle.fsb_trace.specs.Snoop.{is_every_second_from, snoop_start_of, snoop_end_of}
use Rattle.fsb_trace.specs.Outcome.{does_move, response_clock_of}
use Rattle.fsb_trace.specs.Response.{takes, answer_from, ready_clock_of}
use Rattle.fsb_queue.specs.declared.entry.Entry.{Entry}
use Rattle.fsb_trace.specs.Timing.{is_stall_from, is_ready_from, is_response_from, chunk_from, is_busy_from}

-- the number of the entry's request among the live ones
abbrev pub rank_of : Trace → Entry → ℕ
rank_of h e = live_number_of h e.clock

-- the request has no snoop end yet, and the next clock is one of its snoop clocks
unfoldable pub has_snoop : Trace → Entry → Bool
has_snoop h e =
    is_none (snoop_end_of h (rank_of h e))
    && is_some_and (snoop_start_of h (rank_of h e)) (λ start. is_every_second_from start (length h))

-- and there its snoop is to be stalled: its stalls are not used up
unfoldable pub is_stalled : Trace → Entry → Bool
is_stalled h e = has_snoop h e && is_some_and (snoop_start_of h (rank_of h e)) (is_stall_from e.choice.stall (length h))

-- the request has not responded yet
abbrev pub awaits_response : Trace → Entry → Bool
awaits_response h e = is_none (response_clock_of h (rank_of h e))

-- the request takes and has not responded, and the next clock is its ready clock
unfoldable pub has_ready : Trace → Entry → Bool
has_ready h e =
    awaits_response h e && takes h (rank_of h e)
    && is_ready_from (answer_from h (rank_of h e)) e.choice.trdy (length h)

-- the request has not responded, and the next clock is its response clock
unfoldable pub has_response : Trace → Entry → Bool
has_response h e =
    awaits_response h e
    && is_response_from (takes h (rank_of h e)) (answer_from h (rank_of h e)) (ready_clock_of h (rank_of h e)) e.choice.resp (length h)

-- the response clock of the request, if it lies in the history or is the next clock
unfoldable pub response_to_now : Trace → Entry → Option ℕ
response_to_now h e =
    elim (response_clock_of h (rank_of h e)) [
      | Some r ↦ Some r
      | None ↦ if has_response h e then Some (length h) else None
    ]

-- the request's outcome is settled, and with it data move
abbrev pub is_moving : Entry → Bool
is_moving e = is_some_and e.outcome does_move

-- the chunk of the request's data that is due at the next clock, by its place in the burst order
unfoldable pub due_chunk : Trace → Entry → Option ℕ
due_chunk h e =
    if is_moving e then option_and_then (chunk_from e.choice.gap (length h)) (response_to_now h e) else None

-- the request's data keep the bus busy at the next clock
unfoldable pub keeps_busy : Trace → Entry → Bool
keeps_busy h e = is_moving e && is_some_and (response_to_now h e) (is_busy_from e.choice.gap (length h))
