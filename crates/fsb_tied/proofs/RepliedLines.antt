-- The snoop end of a reply that grants a line: it is for the line's deferral, and HIT# tells what it told there.
use Rattle.fsb_tied.proofs.Words
use Words.{ℕ, ◌+◌, ◌<◌, ◌≤◌, ◌≡◌, Bool, true, false, ◌&&◌, ◌||◌, Option, Some, None, length, slice_index, refl, sym, ap}
use Words.{◌∙◌, arith, option_and_then, both_ways, is_at, is_some_and, first_where-same, is_at-from, is_at-some, Kind}
use Words.{Reply, Request, Turn, Keep, kind_owns, HIT, HITM, line_at, Replied, request_at, reply_number_of, is_deferral}
use Words.{is_settled_deferred, outcome_by_kind, is_reply, is_reply_kind, line_at_snoop_end, AgreeTo-sym, line_at-agree}
use Words.{live_clock_of-stays, live_request_of-at, live_request_of-stays, snoop_end_of-rises, snoop_end_of-stays}
use Words.{is_owning, snooped_at, grant_to, is_answered_by, is_owner_request, is_shared_at, number_of_turn}
use Words.{served_number, turns_in, Grant, SnoopEnd, Run, past_of, past_to, run_to, is_held_elsewhere, number_served_at}
use Words.{was_hit_before, Timely, number-found, snoop-tied, purpose_of, IsRepliedOn, deferred_to, purpose_at}
use Words.{is_always_kept, outcome_by_turn, outcome_under, outcome-made, turn-kept, KeepsBounds, past-cut}
use Words.{run_to-agrees, turned-at}
use Rattle.std.proofs.Math.Bool.{or-false}
use Rattle.fsb_tied.proofs.PendingLines.{deferred-so-far}
use Rattle.fsb_tied.proofs.RepliesSeen.{reply-stays, same-both}
use Rattle.fsb_tied.proofs.ReplyEnds.{IsReplyEnd, reply-deferral, reply-end-at}
use Rattle.fsb_tied.proofs.SnoopClaims.{IsSnooped, claimed-at, kind-shown, snooped-by}
use Rattle.fsb_tied.proofs.SnoopOutcomes.{hit-told}
use Rattle.fsb_tied.proofs.SnoopTold.{told-again}

turn-to : (r : Run) (n t k : ℕ) (s : SnoopEnd) → Timely r → n < length r.trace → IsSnooped r t k s → t ≤ n
    → slice_index (turns_in (past_to (past_of r) n).moments) k ≡ number_of_turn s.turn
turn-to r n t k s h l snooped low =
    let agree = run_to-agrees r n l in
    let there = snoop_end_of-stays (n + 1) r.trace (run_to r n).trace k t agree (omega arith) snooped.tied.reached in
    let turned = turned-at r n k t h l there in
    let one = turned.there in
    let two = snooped.tied.there in
    let same : turned.end ≡ s = cc in
    ap (λ p. slice_index (turns_in p.moments) k) (sym (past-cut r n l)) ∙ turned.number
    ∙ ap (λ x. number_of_turn x.turn) same

-- whether a live request is answered by another one shows at the snoop end of this
answered-alike : (r : Run) (n i k : ℕ) (s : SnoopEnd) → Timely r → IsSnooped r n i s → k < i
    → is_answered_by (run_to r n).trace (turns_in (past_to (past_of r) n).moments) i k
    ≡ is_answered_by r.trace (turns_in (past_of r).moments) i k
unfolding is_answered_by is_settled_deferred
answered-alike r n i k s h snooped less =
    let w = r.trace in
    let u = (run_to r n).trace in
    let turns = turns_in (past_to (past_of r) n).moments in
    let l = snooped.within in
    let late = snooped.above in
    let agree = run_to-agrees r n l in
    let back = AgreeTo-sym (n + 1) w u agree in
    let before = snoop_end_of-rises w k i n less snooped.tied.reached in
    let gap : before.0 + 3 ≤ n = before.2 in
    let tied = snoop-tied r k before.0 before.1 in
    let end = snooped-by r before.0 k tied.0 tied.1 in
    let above = end.above in
    let q = tied.0.first in
    let clock = live_clock_of-stays (n + 1) w u k q agree (omega arith) end.tied.first in
    let first = live_clock_of-stays (n + 1) w u i s.first agree (omega arith) snooped.tied.first in
    let turn = turn-to r n before.0 k tied.0 h l end (omega arith) in
    let settled = deferred-so-far r n before.0 k tied.0 turns end (omega arith) l turn ∙ sym end.tied.outcome in
    let replies = same-both (is_at (reply_number_of u k) i) (is_at (reply_number_of w k) i)
    (λ e. is_at-from (reply_number_of w k) i (reply-stays (n + 1) u w k i q s.first back clock (omega arith) first
    (omega arith) (is_at-some (reply_number_of u k) i e)))
    (λ e. is_at-from (reply_number_of u k) i (reply-stays (n + 1) w u k i q s.first agree end.tied.first
    (omega arith) snooped.tied.first (omega arith) (is_at-some (reply_number_of w k) i e))) in
    λ x. is_some_and (settled x) is_deferral && replies x

-- and so does what it serves
served-alike : (r : Run) (n i : ℕ) (s : SnoopEnd) → Timely r → IsSnooped r n i s
    → served_number (run_to r n).trace (turns_in (past_to (past_of r) n).moments) i
    ≡ served_number r.trace (turns_in (past_of r).moments) i
unfolding served_number
served-alike r n i s h snooped =
    let w = r.trace in
    let u = (run_to r n).trace in
    let turns = turns_in (past_to (past_of r) n).moments in
    let agree = run_to-agrees r n snooped.within in
    let request = sym (live_request_of-stays (n + 1) w u i n agree (omega arith) snooped.tied.reached) in
    let first = first_where-same (is_answered_by u turns i) (is_answered_by w (turns_in (past_of r).moments) i) i
    (record { same = λ k l. answered-alike r n i k s h snooped l }) in
    λ x. elim (is_reply (request x)) [ true ↦ first x | false ↦ Some i ]

-- HIT# at the snoop end of the request that is answered
hit-before : (r : Run) (line n : ℕ) (s : SnoopEnd) (grant : Grant) → Timely r → (k : IsReplyEnd r line n s grant)
    → was_hit_before (run_to r n) (past_to (past_of r) n) n ≡ line_at HIT r.trace k.clock
unfolding was_hit_before number_served_at line_at_snoop_end is_some_and
hit-before r line n s grant h k =
    let w = r.trace in
    let u = (run_to r n).trace in
    let i = k.number in
    let before = k.before in
    let agree = run_to-agrees r n k.snooped.within in
    let reached = snoop_end_of-stays (n + 1) w u i n agree (omega arith) k.snooped.tied.reached in
    let there = snoop_end_of-stays (n + 1) w u k.served k.clock agree (omega arith) k.put_off.snooped.tied.reached in
    let serves = ap (option_and_then (served_number u (turns_in (past_to (past_of r) n).moments)))
    (number-found u i n reached) ∙ served-alike r n i s h k.snooped ∙ k.serves in
    ap (λ o. is_some_and o (line_at_snoop_end HIT u)) serves ∙ ap (λ o. is_some_and o (line_at HIT u)) there
    ∙ sym (line_at-agree HIT (n + 1) w u k.clock agree (omega arith))

-- the owner of the grant
owns-as : (request : Request) (kind : Kind) → request.kind ≡ kind → is_reply_kind kind ≡ false → (s : SnoopEnd)
    → s.kind ≡ Some kind → is_owner_request (Some request) ≡ kind_owns (purpose_at s)
unfolding is_owner_request is_some_and is_owning is_reply_kind purpose_at purpose_of
owns-as request kind h1 h2 s h3 = grind arith

reply-request : (o : Option Request) → is_reply o ≡ true → (request : Request) × (o ≡ Some request)
    × (request.kind ≡ Reply)
unfolding is_reply is_some_and is_reply_kind
reply-request o h1 = grind arith

reply-kept : (o : Option Request) (request : Request) → o ≡ Some request → request.kind ≡ Reply
    → is_always_kept o ≡ true
unfolding is_always_kept is_some_and
reply-kept o request e k = rw (e, k) refl

reply-outcome : (handed : Bool) (turn : Turn) (o : Option Request) (request : Request) → handed ≡ false → turn ≡ Keep
    → o ≡ Some request → request.kind ≡ Reply → outcome_under handed turn o ≡ Replied
unfolding outcome_under outcome_by_turn outcome_by_kind
reply-outcome handed turn o request clean keep e k = rw (clean, keep, e, k) refl

pub replied-on : (r : Run) (line n : ℕ) (s : SnoopEnd) (grant : Grant) → Timely r → KeepsBounds r.plan
    → snooped_at (past_of r) n ≡ Some s → s.claim ≡ None → s.grant ≡ Some grant → grant.line ≡ line
    → IsRepliedOn (past_of r) line n s grant
unfolding is_shared_at is_deferral is_reply_kind purpose_of deferred_to grant_to
replied-on r line n s grant h bounds there none grants names =
    let w = r.trace in
    let k = reply-end-at r line n s grant there none grants names in
    let t = k.clock in
    let d = k.put_off in
    let c = claimed-at r t k.served d.end d.claim h bounds d.snooped d.claims in
    let reply = reply-request (request_at w s.first) k.replies in
    let known : s.kind ≡ Some Reply = kind-shown r n k.number s reply.0 k.snooped reply.1 ∙ ap Some reply.2 in
    let told = told-again r n s Reply h k.snooped.within there known refl in
    let keep = turn-kept r n s there (reply-kept (request_at w s.first) reply.0 reply.1 reply.2) in
    let asked = live_request_of-at w k.served d.end.first c.request d.snooped.tied.first c.decoded in
    let owns = ap is_owner_request asked ∙ owns-as c.request c.request.kind refl c.plain d.end c.kind in
    let hit = hit-told r t k.served d.end d.claim h d.snooped c
    (λ e. both_ways (is_deferral d.end.outcome) (ap is_deferral e) d.deferred) in
    let seen : is_shared_at w n ≡ is_held_elsewhere (past_to (past_of r) t) d.claim.agent line t =
    ap (λ b. line_at HIT w n || b) told.clean ∙ or-false (line_at HIT w n) ∙ told.hit
    ∙ hit-before r line n s grant h k ∙ hit
    ∙ ap (λ x. is_held_elsewhere (past_to (past_of r) t) d.claim.agent x t) d.names in
    record {
      replied = outcome-made r n s there
          ∙ reply-outcome (line_at HITM w n) s.turn (request_at w s.first) reply.0 told.clean keep reply.1 reply.2;
      no_kind = ap (option_and_then purpose_of) known;
      deferral = deferred_to (past_of r) line t d.end d.claim.agent;
      pending = reply-deferral r line n s grant h bounds k;
      agent = sym (ap (λ g. g.agent) k.made);
      first = sym (ap (λ g. g.first) k.made);
      owns = sym (ap (λ g. g.owns) k.made) ∙ owns;
      seen = λ plain. sym (ap (λ g. g.shared) k.made) ∙ seen;
    }
