-- A row after what happens with a sample.
use Rattle.std.specs.Prelude.{ℕ, Bool, ◌&&◌, ◌||◌, if◌then◌else◌, Option, Some, None}
use Rattle.fsb_count.specs.Options.{is_at, is_before, is_some_and}
use Rattle.fsb_signal.specs.declared.lines.TheConstants.Lines.{DEFER, HIT, HITM}
use Rattle.fsb_signal.specs.declared.sample.Sample.{Sample}
use Rattle.fsb_signal.specs.Samples.{has_line, response_of}
use Rattle.fsb_trace.specs.declared.outcome.Outcome.{Outcome}
use Rattle.fsb_trace.specs.declared.seen.Seen.{Seen}
use Rattle.fsb_trace.specs.Requests.{have_same_id, is_reply}
use Rattle.fsb_trace.specs.Outcome.{is_deferral, told_with}
use Rattle.fsb_owner_table.specs.declared.happened.Happened.{Happened}
use Rattle.fsb_owner_table.specs.declared.row.Row.{Row}
use Rattle.fsb_owner_table.specs.declared.row.Snooped.{Snooped}

-- the request is Deferred
abbrev pub is_row_deferred : Row → Bool
is_row_deferred row = is_some_and row.outcome is_deferral

-- HITM# is asserted at its snoop end
abbrev pub is_row_handed : Row → Bool
is_row_handed row = is_some_and row.snoop (λ s. s.hitm)

-- what a response with this code tells of it
abbrev pub row_told_by : Row → ℕ → Outcome
row_told_by row code = told_with (is_row_handed row) row.seen.request code

-- the request that is begun is a reply to it
abbrev pub is_row_answered_by : Row → Row → Bool
is_row_answered_by row begun =
    is_row_deferred row && (is_reply begun.seen.request && (have_same_id begun.seen.request row.seen.request
    && is_before row.response begun.seen.clock))

-- the first clock of the request that is begun, where it is a reply to it
abbrev pub answer_of : Row → Option Row → Option ℕ
answer_of row None = None
answer_of row (Some begun) = if is_row_answered_by row begun then Some begun.seen.clock else None

-- the reply, unless it is cancelled, or else the request that is begun, if it is one
abbrev pub reply_after : Row → Happened → Option ℕ → Option ℕ
reply_after row happened None = answer_of row happened.begun
reply_after row happened (Some p) = if is_at happened.cancelled p then None else Some p

-- the sample, where a snoop ends with it
abbrev pub snooped_now : ℕ → Sample → Snooped
snooped_now n x = record { clock = n; hit = has_line x HIT; hitm = has_line x HITM; defer = has_line x DEFER }

-- the request as it is seen, unless it was cancelled after what happens
abbrev pub seen_after : Row → Happened → Seen
seen_after row happened = record {
  clock = row.seen.clock;
  who = row.seen.who;
  request = row.seen.request;
  cancelled = row.seen.cancelled || is_at happened.cancelled row.seen.clock;
}

-- this clock where the event is the request's, and else the clock before
abbrev pub clock_after : Option ℕ → ℕ → ℕ → Option ℕ → Option ℕ
clock_after event own clock old = if is_at event own then Some clock else old

-- the same by the event of its reply, if it has one
abbrev pub reply_clock_after : Option ℕ → Option ℕ → ℕ → Option ℕ → Option ℕ
reply_clock_after event None clock old = old
reply_clock_after event (Some reply) clock old = clock_after event reply clock old

-- the row after what happens with the sample
unfoldable pub row_after : Row → Happened → Sample → Row
row_after row happened x = record {
  seen = seen_after row happened;
  line = row.line;
  snoop = if is_at happened.snooped row.seen.clock then Some (snooped_now happened.clock x) else row.snoop;
  response = clock_after happened.answered row.seen.clock happened.clock row.response;
  outcome = if is_at happened.answered row.seen.clock then Some (row_told_by row (response_of x)) else row.outcome;
  end = clock_after happened.ended row.seen.clock happened.clock row.end;
  reply = reply_after row happened row.reply;
  reply_snoop = reply_clock_after happened.snooped row.reply happened.clock row.reply_snoop;
  reply_end = reply_clock_after happened.ended row.reply happened.clock row.reply_end;
}
