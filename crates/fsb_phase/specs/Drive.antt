-- What is driven at the next clock after a history, and what happens with its sample.
use Rattle.std.specs.Prelude.{ℕ, Bool, ◌&&◌, is_some, List, Option}
use Rattle.std.specs.List.{find}
use Rattle.std.specs.Option.{option_map, option_map_or, option_and_then}
use Rattle.fsb_count.specs.Options.{is_at}
use Rattle.fsb_trace.specs.At.{Trace}
use Rattle.fsb_trace.specs.Requests.{is_live}
use Rattle.fsb_trace.specs.Snoop.{snoop_end_of}
use Rattle.fsb_trace.specs.Outcome.{response_code_of}
use Rattle.fsb_trace.specs.Response.{end_of}
use Rattle.fsb_queue.specs.declared.entry.Entry.{Entry}
use Rattle.fsb_phase.specs.declared.drive.Drive.{Drive}
use Rattle.fsb_phase.specs.declared.drive.Phased.{Phased}
use Rattle.fsb_phase.specs.Due.{rank_of, has_snoop, is_stalled, has_ready, has_response, due_chunk, keeps_busy}

-- the response code of the entry's outcome; 0 where it has none
unfoldable pub settled_code : Entry → ℕ
settled_code e = option_map_or response_code_of e.outcome 0

-- the chunk that is due of an entry, with the entry's number
unfoldable pub numbered_chunk : Trace → Entry → Option (ℕ × ℕ)
numbered_chunk h e = option_map (λ n. (e.number, n)) (due_chunk h e)

-- what is driven at the next clock, where these are the requests in flight: the number of the one whose snoop clock it is
-- and whether that stalls; whether one that takes is ready; the code of the one that responds, or 0; and of the one whose
-- data move, whether they keep the bus busy, and the number and the chunk that is due
unfoldable pub drive_of : Trace → List Entry → Drive
drive_of h queue = record {
  snoop = option_map (λ e. e.number) (find (has_snoop h) queue);
  stall = is_some (find (is_stalled h) queue);
  trdy = is_some (find (has_ready h) queue);
  rs = option_map_or settled_code (find (has_response h) queue) 0;
  dbsy = is_some (find (keeps_busy h) queue);
  chunk = option_and_then (numbered_chunk h) (find (λ e. is_some (due_chunk h e)) queue);
}

-- the request is live in the longer history, and its snoop end is the clock n
unfoldable pub ends_snoop_at : Trace → ℕ → Entry → Bool
ends_snoop_at v n e = is_live v e.clock && is_at (snoop_end_of v (rank_of v e)) n

-- the request is live in the longer history, and its end is the clock n
unfoldable pub has_end_at : Trace → ℕ → Entry → Bool
has_end_at v n e = is_live v e.clock && is_at (end_of v (rank_of v e)) n

-- what happens at the clock n of the history: the number of the request whose snoop end it is, and of the one whose end
unfoldable pub phased_at : Trace → ℕ → List Entry → Phased
phased_at v n queue = record {
  snooped = option_map (λ e. e.number) (find (ends_snoop_at v n) queue);
  ended = option_map (λ e. e.number) (find (has_end_at v n) queue);
}
