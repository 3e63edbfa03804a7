-- When the calls of an agent may come, by its record at the stages of a clock.
use Rattle.fsb_agent_run.proofs.Words
use Words.{ℕ, ◌+◌, ◌<◌, ◌≡◌, Bool, true, map, Option, Some, None, refl, sym, ap, subst, ◌∙◌, arith, Claim, Owing, Past}
use Words.{SnoopEnd, begun_at, Run, past_of, owed, is_outstanding, cancelled_in, begun-want, cancels, Reaches}
use Words.{cancelled-last, last-outstanding, OwnRequest, AgentView, may_give_up, request_numbered, may_commit, IsSound}
use Words.{may_send, HasBytesOwed, are_owings_apart, HasLines, owing_by, IsViewAfterHit, IsViewAfterSent}
use Words.{IsViewBeforeSnoop, owed_sent}
use Rattle.fsb_agent_run.proofs.Among.{Among, among-left}
use Rattle.fsb_agent_run.proofs.AwaitedFills.{HasFillsOf}
use Rattle.fsb_agent_run.proofs.BufferCounts.{fill-counted}
use Rattle.fsb_agent_run.proofs.FewOwed.{within}
use Rattle.fsb_agent_run.proofs.FillsTold.{fill_out, found_number}
use Rattle.fsb_agent_run.proofs.MayCalls.{cancelled-may, own-may}
use Rattle.fsb_agent_run.proofs.OutLists.{find-number, numbered-among, out-there, owing-there}
use Rattle.fsb_agent_run.proofs.OwedApart.{sent-apart}
use Rattle.fsb_agent_run.proofs.OwedStages.{IsOwnAt, modified-kept}
use Rattle.fsb_agent_run.proofs.OwedSteps.{owed-there, owing-is, reaches-less}
use Rattle.fsb_agent_run.proofs.SentViews.{wanted-there}

pub tells-grants : (held alone dirty awaited : ℕ → Bool) (number : ℕ) (v : AgentView) (out : OwnRequest) → IsSound v
    → HasLines held alone dirty awaited v → request_numbered number v.outs ≡ Some out
    → out.granted ≡ awaited out.request.line
tells-grants held alone dirty awaited number v out sound lines found =
    let line : ℕ = out.request.line in
    let own = ap (λ k. request_numbered k v.outs) (found_number number v.outs out found) ∙ found in
    sym (fill_out v out sound own) ∙ fill-counted line v.buffers.fills (awaited line) (lines.fills line)

-- no outstanding request has a number that is still to come
none-numbered : (r : Run) (a c : ℕ) (v : AgentView) → Reaches r (c + 1) → IsViewAfterHit (past_of r) a c v
    → request_numbered c v.outs ≡ None
none-numbered r a c v h view = by (request_numbered c v.outs) refl
  where
    by : (o : Option OwnRequest) → request_numbered c v.outs ≡ o → request_numbered c v.outs ≡ None
    by None e = e
    by (Some out) e =
        let k = numbered-among c out v.outs e in
        let there = owing-there (past_of r) a c (owed (past_of r) a c) v out view.requests k.0 in
        let is = owing-is r a c (owing_by a out) (reaches-less r c (c + 1) (omega arith) h) there in
        let before : out.number < c = is.before in
        let same : out.number ≡ c = k.1 in
        absurd (omega arith)

pub send-may : (r : Run) (a c : ℕ) (claim : Claim) (v : AgentView) → Reaches r (c + 1)
    → begun_at (past_of r) c ≡ Some claim → claim.agent ≡ a → IsViewAfterHit (past_of r) a c v → may_send v c c ≡ true
send-may r a c claim v h begun mine view = grind (arith, wanted-there, none-numbered)

pub own-seen : (r : Run) (a c number : ℕ) (s : SnoopEnd) (v : AgentView) → Reaches r (c + 1)
    → IsOwnAt (past_of r) a c number s v → IsSound v → IsViewBeforeSnoop (past_of r) a c v
    → HasBytesOwed (past_of r) a c (c + 1) c v → may_commit v number true s.outcome ≡ true
own-seen r a c number s v h k sound view owed = grind (arith, own-may, modified-kept)

-- a request of the agent's that is outstanding before the clock's cancellation is one of the record's
sent-out : (r : Run) (a c q : ℕ) (claim : Claim) (v : AgentView) → Reaches r (c + 1)
    → begun_at (past_of r) q ≡ Some claim → claim.agent ≡ a → q < c → is_outstanding r.trace c q ≡ true
    → IsViewAfterSent (past_of r) a c v
    → (out : OwnRequest) × (out.number ≡ q) × (request_numbered out.number v.outs ≡ Some out)
    × (out.request.line ≡ claim.line)
unfolding owed_sent
sent-out r a c q claim v h begun mine below out view =
    let p : Past = past_of r in
    let long = h.long in
    let want = begun-want r q claim h.timely h.bounds (omega arith) begun in
    let owing = owed-there r c q claim (reaches-less r c (c + 1) (omega arith) h) begun below out in
    let among : Among owing.0 (owed p a c) = subst (λ b. Among owing.0 (owed p b c)) mine owing.1 in
    let sent : Among owing.0 (owed_sent p a c) = among-left owing.0 (owed p a c) _ among in
    let found = out-there p a c (owed_sent p a c) v owing.0 view.requests sent in
    let apart : are_owings_apart p (map (owing_by a) v.outs) ≡ true = grind (arith, sent-apart) in
    let first : found.0.number ≡ q =
    ap (λ (o : Owing). o.claim.first) found.2 ∙ ap (λ (x : Claim). x.first) owing.2 ∙ want.first in (
      found.0,
      first,
      find-number p a found.0 v.outs apart found.1,
      ap (λ (o : Owing). o.claim.line) found.2 ∙ ap (λ (x : Claim). x.line) owing.2,
    )

pub cancelled-seen : (r : Run) (a c q : ℕ) (claim : Claim) (v : AgentView) → Reaches r (c + 1)
    → cancelled_in (past_of r) c ≡ Some q → begun_at (past_of r) q ≡ Some claim → claim.agent ≡ a → IsSound v
    → IsViewAfterSent (past_of r) a c v → may_give_up v q ≡ true
cancelled-seen r a c q claim v h cancelled begun mine sound view =
    let p : Past = past_of r in
    let long = h.long in
    let at = cancels r c q (omega arith) cancelled in
    let clock : c ≡ q + 3 = at.0 in
    let want = begun-want r q claim h.timely h.bounds (omega arith) begun in
    let last = cancelled-last r c q h cancelled in
    let o = sent-out r a c q claim v h begun mine (omega arith) (last-outstanding r c q claim h begun
    (omega arith) last) view in
    let fills : HasFillsOf p a c c v = record { fills = view.lines.fills } in
    ap (may_give_up v) (sym o.1)
    ∙ cancelled-may r a c claim o.0 v h.timely h.bounds (within r c h.long) (cancelled ∙ ap Some (sym want.first)) mine
    (sym o.3) sound (ap (begun_at p) want.first ∙ begun) o.2 fills
