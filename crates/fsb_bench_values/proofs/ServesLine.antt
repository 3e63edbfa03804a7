-- The line on which an end is awaited after a snoop end is that of the request which is served.
use Rattle.fsb_bench_values.proofs.Words
use Words.{ℕ, ◌+◌, ◌<◌, ◌≤◌, ◌≡◌, Option, Some, None, length, refl, sym, ap, subst, ◌∙◌, arith, Awaited, awaited_by}
use Words.{Request, KeepsBounds, Entry, served-number, Reaches, replied-outstanding, begun-shown, begun-want}
use Words.{clock-facts, granted-await, live-request, written-await, begun_at, claim_at, served_number, turns_in, Claim}
use Words.{Grant, SnoopEnd, Run, past_of, IsSnoopOf, Timely, is_some_and, request_at, is_reply, live_clock_of}
use Words.{live_number_of, Who, Symmetric, Priority, live_clock_of-rises, Served, IsBegunAt, IsServed, and-some}
use Words.{answered-of, begun-claim, begun-is, begun-reply-kind, begun-request, claim-told, itself-served, reply-serves}

-- the entry's request has this snoop end in the run
pub record HasSnoopEnd (r : Run) (e : Entry) (end : SnoopEnd) : Type 0 where
  pub number : ℕ
  pub rank : live_number_of r.trace e.clock ≡ number
  pub old : live_clock_of r.trace number ≡ Some e.clock
  pub snoop : ℕ
  pub near : snoop < length r.trace
  pub above : e.clock + 4 ≤ snoop
  pub tied : IsSnoopOf r number snoop end
  pub first : end.first ≡ e.clock

-- what is served has the line on which an end is awaited; a request with a claim serves itself, and one without is
-- granted the line of another
pub record ServesLine (e : Entry) (served : Served) (end : SnoopEnd) : Type 0 where
  pub awaits : (awaited : Awaited) → awaited_by end ≡ Some awaited → awaited.line ≡ served.request.line
  pub own : (claim : Claim) → end.claim ≡ Some claim → (claim.line ≡ served.request.line) × (served.first ≡ e.clock)
  pub reply : end.claim ≡ None → (grant : Grant) × (end.grant ≡ Some grant)

one-of : {X : Type 0} (a b : X) → Some a ≡ Some b → a ≡ b
one-of a b e = cc

-- a claim is for the line of its request
pub claim-line : (r : Run) (q a : ℕ) (request : Request) (claim : Claim) → Timely r → KeepsBounds r.plan
    → q < length r.trace → IsBegunAt r q (Symmetric a) request → begun_at (past_of r) q ≡ Some claim
    → claim.line ≡ request.line
claim-line r q a request claim timely bounds l begun_so e =
    let want = begun-want r q claim timely bounds l e in
    grind (arith, begun-is)

-- where the snoop end has this claim
claimed-line : (r : Run) (t : ℕ) (end : SnoopEnd) (claim : Claim) (awaited : Awaited) (o : Option Grant) → end.grant ≡ o
    → Timely r → KeepsBounds r.plan → t < length r.trace
    → Rattle.fsb_timely.specs.Grants.snooped_at (past_of r) t ≡ Some end → end.claim ≡ Some claim
    → awaited_by end ≡ Some awaited → awaited.line ≡ claim.line
claimed-line r t end claim awaited (Some grant) f timely bounds l there claims e =
    let by = granted-await end awaited grant f e in
    let granted : end.grant ≡ Some by.grant = by.granted in
    sym by.names ∙ (clock-facts r claim.line t timely bounds l).settles.elsewhere end claim by.grant there claims
    granted
claimed-line r t end claim awaited None f timely bounds l there claims e =
    let by = written-await end awaited f e in
    let same = one-of by.claim claim (sym by.claimed ∙ claims) in
    sym by.names ∙ ap (λ (x : Claim). x.line) same

serves-by : (r : Run) (e : Entry) (served : Served) (end : SnoopEnd) (who : Who) → Timely r → KeepsBounds r.plan
    → HasSnoopEnd r e end → IsBegunAt r e.clock who e.request → IsServed r e served → ServesLine e served end
unfolding is_reply is_some_and
serves-by r e served end (Symmetric agent) timely bounds d begun_so is =
    let q : ℕ = e.clock in
    let turns = turns_in (past_of r).moments in
    let above = d.above in
    let near = d.near in
    let b = begun-claim r q agent e.request (omega arith) begun_so in
    let claims = d.tied.claim ∙ ap (claim_at r.trace) d.first ∙ claim-told r q b.0 (omega arith) begun_so.begins b.1 in
    let want = begun-want r q b.0 timely bounds (omega arith) b.1 in
    let shown = begun-shown r q b.0 timely bounds (omega arith) want in
    let plain = ap (λ o. is_reply o) (live-request r.trace d.number q d.old ∙ shown) ∙ want.no_reply in
    let itself : served_number r.trace turns (live_number_of r.trace q) ≡ Some d.number =
    ap (served_number r.trace turns) d.rank ∙ itself-served r.trace turns d.number plain in
    let first : served.first ≡ q = grind arith in
    let mine = subst (λ x. IsBegunAt r x (Symmetric served.agent) served.request) first is.begun in
    let line = claim-line r q served.agent served.request b.0 timely bounds (omega arith) mine b.1 in
    record {
      awaits = λ awaited f. claimed-line r d.snoop end b.0 awaited end.grant refl timely bounds near d.tied.there
          claims f ∙ line;
      own = λ claim f. (ap (λ (x : Claim). x.line) (one-of claim b.0 (sym f ∙ claims)) ∙ line, first);
      reply = λ none. absurd (let no : None ≡ Some b.0 = sym none ∙ claims in cc);
    }
serves-by r e served end Priority timely bounds d begun_so is =
    let w = r.trace in
    let q : ℕ = e.clock in
    let turns = turns_in (past_of r).moments in
    let above = d.above in
    let near = d.near in
    let kind = begun-reply-kind r q e.request begun_so in
    let decoded = begun-request r q Priority e.request timely bounds (omega arith) begun_so in
    let replies = ap (λ o. is_reply o) (ap (request_at w) d.first ∙ decoded) ∙ kind in
    let j = and-some (live_clock_of w) (served_number w turns (live_number_of w q)) served.first is.first in
    let serves : served_number w turns d.number ≡ Some j.0 = ap (served_number w turns) (sym d.rank) ∙ j.1 in
    let low = (answered-of w turns d.number j.0 (ap (λ o. is_reply o) (live-request w d.number q d.old ∙ decoded)
    ∙ kind)
    serves).0 in
    let rise = live_clock_of-rises w j.0 d.number served.first q low j.2 d.old in
    let asks = live-request w j.0 served.first j.2
    ∙ begun-request r served.first (Symmetric served.agent) served.request timely bounds (omega arith) is.begun in
    let short : Reaches r (d.snoop + 1) = record { timely = timely; bounds = bounds; long = omega arith } in
    let g = reply-serves r d.snoop d.number j.0 served.first end served.request short d.tied replies serves asks j.2 in
    let grant : Grant = g.grant in
    let k = replied-outstanding r d.snoop end grant short d.tied.there g.unclaimed g.grants in
    let first : k.end.first ≡ served.first = one-of k.end.first served.first
    (sym (served-number r d.snoop grant short k) ∙ g.asked) in
    let there : begun_at (past_of r) served.first ≡ Some k.claim = ap (begun_at (past_of r)) (sym first) ∙ k.begun in
    let line = claim-line r served.first served.agent served.request k.claim timely bounds
    (omega arith) is.begun there in
    record {
      awaits = λ awaited f.
          let by = granted-await end awaited grant g.grants f in
          let same = one-of by.grant grant (sym by.granted ∙ g.grants) in
          sym by.names ∙ ap (λ (x : Grant). x.line) same ∙ sym k.line ∙ line;
      own = λ claim f. absurd (let no : None ≡ Some claim = sym g.unclaimed ∙ f in cc);
      reply = λ none. (grant, g.grants);
    }

pub serves-line : (r : Run) (e : Entry) (served : Served) (end : SnoopEnd) → Timely r → KeepsBounds r.plan
    → HasSnoopEnd r e end → IsBegunAt r e.clock e.who e.request → IsServed r e served → ServesLine e served end
serves-line r e served end timely bounds d begun_so is = serves-by r e served end e.who timely bounds d begun_so is
