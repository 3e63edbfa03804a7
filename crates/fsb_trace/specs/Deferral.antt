-- Deferrals: which is answered, which is due, and which line is pending.
use Rattle.std.specs.Prelude.{ℕ, ◌+◌, ◌-◌, Bool, ◌&&◌, ◌||◌, not, nat_le, List, Option, slice_index}
use Rattle.std.specs.Option.{option_and_then}
use Rattle.fsb_count.specs.Options.{is_some_and, is_before, is_at}
use Rattle.fsb_count.specs.Clocks.{first_where, any_where}
use Rattle.fsb_trace.specs.At.{Trace}
use Rattle.fsb_trace.specs.Requests.{is_live, live_count, live_clock_of, line_of}
use Rattle.fsb_trace.specs.Snoop.{snoop_end_of}
use Rattle.fsb_trace.specs.Outcome.{response_clock_of, is_settled_deferred}
use Rattle.fsb_trace.specs.Flight.{is_in_flight, is_reply_to, reply_number_of}

-- the request that begins at q is a reply to live request i that is in flight at c, or live
unfoldable pub answers : Trace → ℕ → ℕ → ℕ → Bool
answers w c i q = is_reply_to w i q && (is_in_flight w c q || is_live w q)

-- a reply to live request i that began before c is in flight at c, or live
unfoldable pub is_answered : Trace → ℕ → ℕ → Bool
is_answered w c i = any_where (answers w c i) c

-- the clocks for which a deferral is put off, by its effective turn
unfoldable pub later_of : ℕ → ℕ
later_of turn = turn - 2

-- live request i is due at c: it is Deferred, c is its response clock plus 1 plus the clocks it is put off for, or
-- later, and it is not answered
unfoldable pub is_due : Trace → List ℕ → ℕ → ℕ → Bool
is_due w turns c i =
    is_settled_deferred w turns i
    && is_some_and (response_clock_of w i) (λ r. nat_le (r + 1 + later_of (slice_index turns i)) c)
    && not (is_answered w c i)

-- the least request that is due at c
unfoldable pub due_at : Trace → List ℕ → ℕ → Option ℕ
due_at w turns c = first_where (is_due w turns c) (live_count w)

-- live request i keeps its line pending at c: it names the line, is Deferred, has its snoop end below c, and no reply
-- to it has its own snoop end below c
unfoldable pub keeps_pending : Trace → List ℕ → ℕ → ℕ → ℕ → Bool
keeps_pending w turns line c i =
    is_at (option_and_then (line_of w) (live_clock_of w i)) line && is_settled_deferred w turns i
    && is_before (snoop_end_of w i) c
    && not (is_before (option_and_then (snoop_end_of w) (reply_number_of w i)) c)

-- the line is pending at c
unfoldable pub is_pending : Trace → List ℕ → ℕ → ℕ → Bool
is_pending w turns line c = any_where (keeps_pending w turns line c) (live_count w)
