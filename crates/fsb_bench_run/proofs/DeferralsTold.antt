-- What the bench's list of deferrals tells of the next clock of its run.
use Rattle.fsb_bench_run.proofs.Words
use Words.{ℕ, ◌≡◌, true, false, Some, is_some, option_map_or, deferral_of_id, is_waited_for, IsThatOf, Request}
use Words.{request_at, is_pending, is_reply_kind, snooped_at, turns_in, SnoopEnd, Run, past_of, number_served_at}
use Words.{was_hit_before, BenchView, next_clock_of}

-- the list tells which lines are pending at the next clock, which deferral a reply takes that has its snoop end
-- there, and
-- whether HIT# was at the snoop end of the deferred request; and such a reply has its deferral in the list
pub record DeferralsTold (v : BenchView) (s : Run) : Type 0 where
  pub pending : (line : ℕ) → is_pending s.trace (turns_in (past_of v.run).moments) line (next_clock_of v)
      ≡ is_waited_for line v.bus.bridge.waiting
  pub deferral : (end : SnoopEnd) (reply : Request) → snooped_at (past_of s) (next_clock_of v) ≡ Some end
      → request_at s.trace end.first ≡ Some reply → is_reply_kind reply.kind ≡ true
      → IsThatOf s.trace (deferral_of_id reply.did v.bus.bridge.waiting)
      (number_served_at s (past_of s) (next_clock_of v))
  pub taken : (end : SnoopEnd) (reply : Request) → snooped_at (past_of s) (next_clock_of v) ≡ Some end
      → request_at s.trace end.first ≡ Some reply → is_reply_kind reply.kind ≡ true
      → is_some (deferral_of_id reply.did v.bus.bridge.waiting) ≡ true
  pub hit : (end : SnoopEnd) (reply : Request) → snooped_at (past_of s) (next_clock_of v) ≡ Some end
      → request_at s.trace end.first ≡ Some reply → is_reply_kind reply.kind ≡ true
      → was_hit_before s (past_of s) (next_clock_of v)
      ≡ option_map_or (λ deferral. deferral.shared) (deferral_of_id reply.did v.bus.bridge.waiting) false
