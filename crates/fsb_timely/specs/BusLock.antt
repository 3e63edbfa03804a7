-- The bus lock.
use Rattle.std.specs.Prelude.{ℕ, ◌+◌, ◌-◌, ◌&&◌, ◌||◌, Bool, true, false, not, nat_eq, nat_le, slice_get}
use Rattle.std.specs.Bool.{beq}
use Rattle.std.specs.List.{list_any}
use Rattle.std.specs.Option.{option_and_then}
use Rattle.fsb_count.specs.Clocks.{any_where, holds_since}
use Rattle.fsb_count.specs.Options.{is_some_and}
use Rattle.fsb_signal.specs.declared.lines.TheConstants.Lines.{LOCK}
use Rattle.fsb_signal.specs.Samples.{line_at}
use Rattle.fsb_access.specs.declared.log.Done.{Done}
use Rattle.fsb_trace.specs.Requests.{is_write_back}
use Rattle.fsb_timely.specs.Past.{Past}
use Rattle.fsb_timely.specs.Grants.{begun_at}
use Rattle.fsb_timely.specs.Scripts.{is_locked, items_of, next_item}
use Rattle.fsb_timely.specs.Wants.{want_of}
use Rattle.fsb_timely.specs.Runs.{Run, past_to}

-- agent a begins a request at t
unfoldable pub is_begun_by : Past → ℕ → ℕ → Bool
is_begun_by p a t = is_some_and (begun_at p t) (λ claim. nat_eq claim.agent a)

-- at t agent a's next item is a locked one, and its want is no write-back
unfoldable pub wants_lock : Past → ℕ → ℕ → Bool
wants_lock p a t = is_some_and (next_item p a t) is_locked && not (is_write_back (want_of p a t))

-- agent a begins a locked request at t: its next item is then a locked one, and its want no write-back
unfoldable pub is_locked_request : Past → ℕ → ℕ → Bool
is_locked_request p a t = elim (is_begun_by p a t) [ true ↦ wants_lock (past_to p t) a t | false ↦ false ]

-- the entry is of a locked item of agent a, at t
unfoldable pub ends_locked_item : Past → ℕ → ℕ → Done → Bool
ends_locked_item p a t done =
    nat_eq done.clock t && nat_eq done.agent a && is_some_and (slice_get (items_of p a) done.item) is_locked

-- t is the response Retry of a locked request of agent a
unfoldable pub is_lock_retried : Past → ℕ → ℕ → Bool
is_lock_retried p a t =
    is_some_and (option_and_then (λ moment. moment.retried) (slice_get p.moments t)) (is_locked_request p a)

-- AERR# at t cancels a locked request of agent a
unfoldable pub is_lock_cancelled : Past → ℕ → ℕ → Bool
is_lock_cancelled p a t =
    is_some_and (option_and_then (λ moment. moment.cancelled) (slice_get p.moments t)) (is_locked_request p a)

-- agent a releases the lock at t: it completes its locked item, or its locked request is retried or cancelled there
unfoldable pub is_release : Past → ℕ → ℕ → Bool
is_release p a t = list_any (ends_locked_item p a t) p.log || is_lock_retried p a t || is_lock_cancelled p a t

-- agent a released the lock at the clock before t
unfoldable pub is_released_before : Past → ℕ → ℕ → Bool
is_released_before p a t = nat_le 1 t && is_release p a (t - 1)

-- agent a keeps the bus locked at c: it began a locked request at c or below, and since then, from that request's own first
-- clock to the clock before c, it made no release
unfoldable pub keeps_lock : Past → ℕ → ℕ → Bool
keeps_lock p c a = holds_since (is_locked_request p a) (is_released_before p a) (c + 1)

-- Bus lock: LOCK# is at c exactly where an agent keeps the bus locked.
unfoldable pub drives_lock : Run → Past → ℕ → Bool
drives_lock r p c = beq (line_at LOCK r.trace c) (any_where (keeps_lock p c) 4)
