-- A request that was put off is owed while its reply has no end; so is each one that had its snoop end and has no end.
use Rattle.fsb_tied.proofs.Words
use Words.{ℕ, zero, suc, ◌+◌, ◌<◌, ◌≤◌, ◌≡◌, true, false, Some, length, refl, sym, ap, subst, ◌∙◌, inl, inr, arith}
use Words.{both_ways, cases_Bool, any_where-off, LineDeferral, AERR, line_at, last_clock_of, reply_end_of}
use Words.{reply_number_of, is_deferred, end_of, AgreeTo-sym, live_clock_of-stays, snoop_end_of-stays}
use Words.{last_clock_of-deferred, last_clock_of-plain, is_ended, snooped_at, Claim, SnoopEnd, Run, past_of, run_to}
use Words.{Timely, is_asked_for, owed, tied-snoop, KeepsBounds, and-then, run_to-agrees, deferral_below}
use Words.{is_cancelled_below}
use Rattle.fsb_tied.proofs.Deferrals.{deferral-awaits}
use Rattle.fsb_tied.proofs.Beginnings.{begun-from, begun-want}
use Rattle.fsb_tied.proofs.Ended.{ends-at}
use Rattle.fsb_tied.proofs.OneReply.{told-deferred}
use Rattle.fsb_tied.proofs.Owing.{claim-no-reply, left-outstanding, listed-owed, own-owed}
use Rattle.fsb_tied.proofs.PendingLines.{HasNoReply, IsPutOff}
use Rattle.fsb_tied.proofs.RepliesSeen.{reply-snooped}
use Rattle.fsb_tied.proofs.Slots.{asks-as}
use Rattle.fsb_tied.proofs.SnoopClaims.{snooped-by}
use Rattle.fsb_tied.proofs.SnoopOpen.{live-at, live-uncancelled}

-- a request with a claim that had its snoop end, and has no end so far, is owed
pub snooped-owed : (r : Run) (n u : ℕ) (s : SnoopEnd) (claim : Claim) → Timely r → KeepsBounds r.plan
    → n ≤ length r.trace → u < n → snooped_at (past_of r) u ≡ Some s → s.claim ≡ Some claim
    → is_ended (past_of r) n s.first ≡ false
    → is_asked_for (owed (past_of r) claim.agent n) claim.line ≡ true
unfolding is_cancelled_below
snooped-owed r n u s claim h bounds l below there claims unended =
    grind (arith, tied-snoop, snooped-by, begun-from, own-owed, any_where-off, live-uncancelled)

-- no reply to live request j has its end so far
abbrev pub HasNoReplyEnd : Run → ℕ → ℕ → Type 0
HasNoReplyEnd r j e =
    (i x : ℕ) → reply_number_of r.trace j ≡ Some i → end_of (run_to r e).trace i ≡ Some x → x < e + 1 → ⊥

-- a request that was put off is not finished, while its reply has no end
put-off-unfinished : (r : Run) (line t j e x : ℕ) → Timely r → e < length r.trace → t < e + 1
    → (d : IsPutOff r line t j) → HasNoReplyEnd r j e → last_clock_of (run_to r e).trace j ≡ Some x → x < e + 1 → ⊥
unfolding reply_end_of
put-off-unfinished r line t j e x h l below d none last low =
    let w = r.trace in
    let u = (run_to r e).trace in
    let above = d.snooped.above in
    let agree = run_to-agrees r e l in
    let clock = live_clock_of-stays (e + 1) w u j d.end.first agree (omega arith) d.snooped.tied.first in
    elim (cases_Bool (is_deferred u j)) [
      | inl deferred ↦
          let y = and-then (end_of u) (reply_number_of u j) x (sym (last_clock_of-deferred u j deferred) ∙ last) in
          let k = ends-at r e y.0 x h l y.2 in
          let before = k.before in
          let back = AgreeTo-sym (e + 1) w u agree in
          let whole = reply-snooped (e + 1) u w j y.0 d.end.first k.snoop back clock (omega arith) y.1 k.is_snoop
          (omega arith) in
          none y.0 x whole.0 y.2 low
      | inr plain ↦
          let end = sym (last_clock_of-plain u j plain) ∙ last in
          both_ways (is_deferred u j) plain (told-deferred r e t j x d.end h l d.snooped d.deferred end)
    ]

-- so it is owed
pub put-off-owed : (r : Run) (line t j e : ℕ) → Timely r → KeepsBounds r.plan → e < length r.trace → t < e + 1
    → (d : IsPutOff r line t j) → HasNoReplyEnd r j e
    → is_asked_for (owed (past_of r) d.claim.agent (suc e)) line ≡ true
put-off-owed r line t j e h bounds l below d none =
    let w = r.trace in
    let u = (run_to r e).trace in
    let q : ℕ = d.end.first in
    let k = d.snooped in
    let above = k.above in
    let live = live-at w j q k.tied.first in
    let agree = run_to-agrees r e l in
    let clock = live_clock_of-stays (e + 1) w u j q agree (omega arith) k.tied.first in
    let here = (live-at u j q clock).number in
    let begun = begun-from r q d.claim (omega arith) k.ads (sym k.tied.claim ∙ d.claims) in
    let want = begun-want r q d.claim h bounds (omega arith) begun in
    let out = left-outstanding r e q l (record {
      asks = k.ads;
      below = omega arith;
      no_reply = claim-no-reply r e q d.claim h bounds l (omega arith) want;
      uncancelled = λ error low. both_ways (line_at AERR w (q + 3)) live.kept error;
      unfinished = λ i x lives number last low.
          let same : i ≡ j = sym number ∙ here in
          put-off-unfinished r line t j e x h l below d none (subst (λ n. last_clock_of u n ≡ Some x) same last) low;
    }) in
    asks-as r d.claim.agent line (suc e) d.claim refl d.names (listed-owed r e q d.claim l (omega arith) out begun)

-- a reply with an end has its snoop end before it
no-reply-end : (r : Run) (e j i x : ℕ) → Timely r → e < length r.trace → HasNoReply r j (suc e)
    → reply_number_of r.trace j ≡ Some i → end_of (run_to r e).trace i ≡ Some x → x < e + 1 → ⊥
no-reply-end r e j i x h l none reply end low =
    let k = ends-at r e i x h l end in
    let before = k.before in
    let back = AgreeTo-sym (e + 1) r.trace (run_to r e).trace (run_to-agrees r e l) in
    let whole = snoop_end_of-stays (e + 1) (run_to r e).trace r.trace i k.snoop back (omega arith) k.is_snoop in
    none i k.snoop reply whole (omega arith)

-- an agent for which the line is deferred has asked for it
pub deferral-owed : (r : Run) (line n : ℕ) (d : LineDeferral) → Timely r → KeepsBounds r.plan → n ≤ length r.trace
    → deferral_below (past_of r) line n ≡ Some d → is_asked_for (owed (past_of r) d.agent n) line ≡ true
deferral-owed r line zero d h bounds l e =
    let k = deferral-awaits r line zero d h bounds e in let below = k.below in absurd (omega arith)
deferral-owed r line (suc e) d h bounds l f =
    let k = deferral-awaits r line (suc e) d h bounds f in
    let below = k.below in
    let asked = put-off-owed r line k.clock k.number e h bounds (omega arith) (omega arith) k.put_off
    (λ i x reply end low. no-reply-end r e k.number i x h (omega arith) k.unreplied reply end low) in
    ap (λ b. is_asked_for (owed (past_of r) b (suc e)) line) k.agent ∙ asked
