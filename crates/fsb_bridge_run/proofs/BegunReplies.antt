-- The request to which the reply that begins at a clock is.
use Rattle.fsb_bridge_run.proofs.Words
use Words.{ℕ, ◌+◌, ◌<◌, ◌≤◌, ◌≡◌, true, false, Some, length, arith, inl, option_and_then, both_ways, false_from_ne_true}
use Words.{is_before-parts, Request, is_answered, reply_number_of, live_request_of, snoop_end_of, snoop_end_of-clock}
use Words.{Run, past_of, past_to, run_to, due_number, reply_to, would_begin, and-then, map-some, run_to-agrees, Reaches}
use Words.{waits, reply_begun, turns_of}
use Rattle.fsb_bridge_run.proofs.DueReplies.{IsDueAt, due-at, is-replied}
use Rattle.fsb_bridge_run.proofs.PriorityReplies.{begun-parts}
use Rattle.fsb_bridge_run.proofs.UnderWay.{answered-same}
use Rattle.fsb_bridge_run.proofs.Waiting.{answered-from, is_replied, waits-from}

-- the reply that begins at n is the one to this live request, which is due there
pub record BegunFor (r : Run) (n : ℕ) (reply : Request) : Type 0 where
  pub number : ℕ
  pub due : IsDueAt r n number
  pub unanswered : is_answered r.trace n number ≡ false
  pub request : Request
  pub asked : live_request_of r.trace number ≡ Some request
  pub did : reply.did ≡ request.did

pub begun-for : (r : Run) (n : ℕ) (reply : Request) → Reaches r (n + 1) → reply_begun r n ≡ Some reply
    → BegunFor r n reply
unfolding would_begin reply_to
begun-for r n reply h e =
    let w = r.trace in
    let v = (run_to r n).trace in
    let l : n < length w = omega arith in
    let due = due_number (run_to r n) (past_to (past_of r) n) n in
    let x = map-some reply_to (option_and_then (live_request_of v) due) reply (begun-parts r n reply e) in
    let j = and-then (live_request_of v) due x.0 x.1 in
    let d = due-at r n j.0 h.timely l j.1 in
    grind (arith, answered-same, run_to-agrees)

-- that request waits up to the least clock at which the reply may have its snoop end
pub begun-waits : (r : Run) (n c : ℕ) (reply : Request) (b : BegunFor r n reply) → b.due.snoop < c → c ≤ n + 4
    → waits r.trace (turns_of r) c b.number ≡ true
begun-waits r n c reply b low high =
    let w = r.trace in
    let i = b.number in
    let d = b.due in
    let o = option_and_then (snoop_end_of w) (reply_number_of w i) in
    waits-from w (turns_of r) c i d.snoop d.deferred d.is_snoop low (false_from_ne_true (is_replied w c i) (λ t.
    let y = is_before-parts o c t in
    let below = y.2 in
    let k = and-then (snoop_end_of w) (reply_number_of w i) y.0 y.1 in
    let m = is-replied w i k.0 k.1 in
    let s = snoop_end_of-clock w k.0 y.0 k.2 in
    let above = s.above in
    let one = s.is_clock in
    let two = m.first in
    let same : s.clock ≡ m.clock = cc in
    both_ways (is_answered w n i) b.unanswered
    (answered-from w n i m.clock (record { below = omega arith; reply = m.reply; kept = inl m.live }))))
