-- A reply that begins in a timely run answers a request that is due.
use Rattle.fsb_bridge_run.proofs.Words
use Words.{ℕ, suc, ◌+◌, ◌<◌, ◌≤◌, ◌≡◌, true, false, not, ◌&&◌, Option, Some, length, nat_le, slice_index, refl, sym, ap}
use Words.{◌∙◌, arith, inl, inr, option_and_then, and_from, and_parts, cases_lt, eq-eqb, false_from_ne_true, leb-true}
use Words.{not-true, is_before, is_some_and, first_where-found, is_before-parts, Request, ADS, line_at, Trace}
use Words.{request_at, due_at, is_answered, is_due, later_of, is_reply_to, reply_number_of, is_settled_deferred}
use Words.{response_clock_of, have_same_id, is_cancelled, is_live, is_reply, live_clock_of, live_count, live_request_of}
use Words.{snoop_end_of, winner_at, Who, AgreeTo-sym, is_live-agree, is_reply-some, line_at-agree}
use Words.{live_request_of-stays, request_at-agree, response_clock_of-stays, snoop_end_of-clock, snoop_end_of-stays}
use Words.{number_of_turn, turns_in, Run, past_of, past_to, run_to, due_number, reply_to, request_begun, would_begin}
use Words.{Timely, snoop-tied, WantsLawfully, and-then, begun-decoded, begun-winner, orderly-at, past-cut}
use Words.{run_to-agrees, some-and, turned-at, want-own, answered, has-reply, live-at, waits, turns_of}
use Rattle.fsb_bridge_run.proofs.Alike.{SameDeferrals, deferred-same}
use Rattle.fsb_bridge_run.proofs.UnderWay.{reply-to-kept}
use Rattle.fsb_bridge_run.proofs.Waiting.{answered-from, reply-from, reply-parts, waits-from}

-- the run up to c has the same deferrals so far as the whole run
pub cut-same : (r : Run) (c : ℕ) → Timely r → c < length r.trace
    → SameDeferrals (c + 1) r.trace (run_to r c).trace (turns_of r) (turns_in (past_to (past_of r) c).moments)
cut-same r c h l =
    let w = r.trace in
    let v = (run_to r c).trace in
    let agree = run_to-agrees r c l in
    record {
      agree = agree;
      same = λ i t e less.
          let there = snoop_end_of-stays (c + 1) w v i t agree less e in
          let turned = turned-at r c i t h l there in
          let tied = snoop-tied r i t e in
          let one = turned.there in
          let two = tied.1.there in
          let same : tied.0 ≡ turned.end = cc in
          let cut = ap (λ p. slice_index (turns_in p.moments) i) (past-cut r c l) in
          tied.1.turn ∙ ap (λ x. number_of_turn x.turn) same ∙ sym turned.number ∙ cut;
    }

-- what the priority agent begins is the reply to what is due; no other agent begins a reply
due-by : (r : Run) (q : ℕ) (who : Who) (request : Request) → r.plan.ahead ≤ 4
    → would_begin (run_to r q) (past_to (past_of r) q) q who ≡ Some request → is_reply (Some request) ≡ true
    → (x : Request) × (option_and_then (live_request_of (run_to r q).trace)
    (due_number (run_to r q) (past_to (past_of r) q) q) ≡ Some x) × (reply_to x ≡ request)
unfolding would_begin past_to past_of
due-by r q who request h1 h2 h3 = grind (arith, want-own, is_reply-some)

-- the live request that is due at q: it is Deferred, responded before q, and no reply to it is under way
pub record IsDueAt (r : Run) (q i : ℕ) : Type 0 where
  pub snoop : ℕ
  pub is_snoop : snoop_end_of r.trace i ≡ Some snoop
  pub deferred : is_settled_deferred r.trace (turns_of r) i ≡ true
  pub response : ℕ
  pub is_response : response_clock_of r.trace i ≡ Some response
  pub gap : snoop + 2 ≤ response
  pub after : response < q
  pub unanswered : is_answered (run_to r q).trace q i ≡ false
  pub asked : live_request_of (run_to r q).trace i ≡ live_request_of r.trace i

pub due-at : (r : Run) (q i : ℕ) → Timely r → q < length r.trace
    → due_number (run_to r q) (past_to (past_of r) q) q ≡ Some i → IsDueAt r q i
unfolding due_number due_at is_due
due-at r q i h long due =
    let w = r.trace in
    let v = (run_to r q).trace in
    let back = AgreeTo-sym (q + 1) w v (run_to-agrees r q long) in
    let turns = turns_in (past_to (past_of r) q).moments in
    let found = first_where-found (is_due v turns q) (live_count v) i due in
    let parts = and_parts (is_settled_deferred v turns i && is_some_and (response_clock_of v i)
    (λ r. nat_le (r + 1 + later_of (slice_index turns i)) q)) (not (is_answered v q i)) found.1 in
    let both = and_parts (is_settled_deferred v turns i) _ parts.0 in
    let response = some-and (response_clock_of v i) (λ r. nat_le (r + 1 + later_of (slice_index turns i)) q) both.1 in
    let after = leb-true (response.0 + 1 + later_of (slice_index turns i)) q response.2 in
    let a = answered v i response.0 (orderly-at r q h long) response.1 in
    let gap = a.before in
    let snoop = snoop_end_of-stays (q + 1) v w i a.snoop back (omega arith) a.is_snoop in
    let settled = deferred-same (q + 1) w v (turns_of r) turns i a.snoop (cut-same r q h long) snoop (omega arith) in
    record {
      snoop = a.snoop;
      is_snoop = snoop;
      deferred = settled ∙ both.0;
      response = response.0;
      is_response = response_clock_of-stays (q + 1) v w i response.0 back (omega arith) response.1;
      gap = gap;
      after = omega arith;
      unanswered = not-true (is_answered v q i) parts.1;
      asked = live_request_of-stays (q + 1) v w i a.snoop back (omega arith) a.is_snoop;
    }

-- the live request that the reply that begins at q answers: it is Deferred, responded before q, and no live reply to it
-- began before
pub record AnswersDue (r : Run) (q : ℕ) : Type 0 where
  pub number : ℕ
  pub snoop : ℕ
  pub is_snoop : snoop_end_of r.trace number ≡ Some snoop
  pub deferred : is_settled_deferred r.trace (turns_of r) number ≡ true
  pub response : ℕ
  pub is_response : response_clock_of r.trace number ≡ Some response
  pub gap : snoop + 2 ≤ response
  pub after : response < q
  pub request : Request
  pub asked : live_request_of r.trace number ≡ Some request
  pub shown : request_at r.trace q ≡ Some (reply_to request)
  pub answers : is_reply_to r.trace number q ≡ true
  pub unanswered : (u : ℕ) → u < q → is_reply_to r.trace number u ≡ true → is_live r.trace u ≡ true → ⊥

same-as : (a b : Option Request) (x : Request) → a ≡ Some (reply_to x) → b ≡ Some x → have_same_id a b ≡ true
unfolding have_same_id is_some_and reply_to
same-as a b x e f = rw (e, f) (eq-eqb x.did x.did refl)

pub answers-due : (r : Run) (q : ℕ) → Timely r → WantsLawfully r → r.plan.ahead ≤ 4 → suc q < length r.trace
    → line_at ADS r.trace q ≡ true → is_reply (request_at r.trace q) ≡ true → AnswersDue r q
unfolding request_begun
answers-due r q h wants few l ads replies =
    let w = r.trace in
    let v = (run_to r q).trace in
    let long : q < length w = omega arith in
    let agree = run_to-agrees r q long in
    let here = sym (line_at-agree ADS (q + 1) w v q agree (omega arith)) ∙ ads in
    let b = begun-decoded r q h l here in
    let next = run_to-agrees r (suc q) l in
    let decoded = request_at-agree (suc q + 1) w (run_to r (suc q)).trace q next (omega arith)
    ∙ b.2 (wants.lawful q b.0 b.1) in
    let who = begun-winner (would_begin (run_to r q) (past_to (past_of r) q) q) (winner_at v q) b.0 b.1 in
    let due = due-by r q who.0 b.0 few who.2 (sym (ap is_reply decoded) ∙ replies) in
    let x : Request = due.0 in
    let j = and-then (live_request_of v) (due_number (run_to r q) (past_to (past_of r) q) q) x due.1 in
    let i : ℕ = j.0 in
    let d = due-at r q i h long j.1 in
    grind (arith, reply-from, same-as, reply-to-kept, reply-parts, answered-from, is_live-agree, agree)

pub live-of : (w : Trace) (i q : ℕ) → live_clock_of w i ≡ Some q → is_live w q ≡ true
unfolding is_live is_cancelled
live-of w i q e = let k = live-at w i q e in and_from _ _ k.asks (ap not k.kept)

-- the live reply to a request, by its number: where it begins
pub record IsReplied (w : Trace) (i j : ℕ) : Type 0 where
  pub clock : ℕ
  pub first : live_clock_of w j ≡ Some clock
  pub live : is_live w clock ≡ true
  pub reply : is_reply_to w i clock ≡ true

pub is-replied : (w : Trace) (i j : ℕ) → reply_number_of w i ≡ Some j → IsReplied w i j
is-replied w i j e =
    let k = has-reply w i j e in
    grind (arith, live-of, reply-from)

-- that request waits up to the least clock at which the reply may have its snoop end
pub due-waits : (r : Run) (q c : ℕ) (d : AnswersDue r q) → d.snoop < c → c ≤ q + 4
    → waits r.trace (turns_of r) c d.number ≡ true
due-waits r q c d below low =
    let w = r.trace in
    waits-from w (turns_of r) c d.number d.snoop d.deferred d.is_snoop below
    (false_from_ne_true (is_before (option_and_then (snoop_end_of w) (reply_number_of w d.number)) c) (λ t.
    let x = is_before-parts (option_and_then (snoop_end_of w) (reply_number_of w d.number)) c t in
    let less = x.2 in
    let j = and-then (snoop_end_of w) (reply_number_of w d.number) x.0 x.1 in
    let k = is-replied w d.number j.0 j.1 in
    let m = snoop_end_of-clock w j.0 x.0 j.2 in
    let above = m.above in
    let one = m.is_clock in
    let two = k.first in
    let same : m.clock ≡ k.clock = cc in
    elim (cases_lt k.clock q) [
      | inl early ↦ d.unanswered k.clock early k.reply k.live
      | inr late ↦ omega arith
    ]))
