-- The snoop end of a reply for a line, as the rules of ownership see it and as the run has it.
use Rattle.std.proofs.Common.{ℕ, ◌+◌, ◌<◌, ◌≡◌, ◌≢◌, Bool, true, false, ◌&&◌, ◌||◌, not, nat_eq}
use Rattle.std.proofs.Common.{[], Option, Some, None, refl, sym, ap, subst, ◌∙◌, arith, inl, inr}
use Rattle.std.specs.Option.{option_map}
use Rattle.std.proofs.lemmas.Bool.{and_from, and_parts, both_ways, cases_Bool, cases_lt, false_from_ne_true, eq-eqb}
use Rattle.fsb_count.specs.Options.{is_at, is_some_and}
use Rattle.fsb_count.proofs.Interface.{first_where-at, is_at-from, is_at-some}
use Rattle.fsb_encode.specs.declared.request.Kind.{Kind}
use Rattle.fsb_encode.specs.declared.request.Request.{Request}
use Rattle.fsb_line.specs.declared.purpose.Purpose.{Purpose}
use Rattle.fsb_line.specs.declared.purpose.Purpose.TheVariants.{Own, Read, Upgrade, WriteBack}
use Rattle.fsb_line.specs.States.{asks_line, gets_line, is_held, is_sole, kind_owns}
use Rattle.fsb_signal.specs.declared.lines.TheConstants.Lines.{HIT, HITM}
use Rattle.fsb_signal.specs.Samples.{line_at}
use Rattle.fsb_trace.specs.At.{Trace, request_at}
use Rattle.fsb_trace.specs.Flight.{reply_clock_of, reply_number_of}
use Rattle.fsb_trace.specs.Outcome.{is_deferral, is_deferred, response_clock_of}
use Rattle.fsb_trace.specs.Requests.{is_reply, is_reply_kind, line_of, live_clock_of, live_count, live_number_of, live_request_of}
use Rattle.fsb_trace.specs.Snoop.{snoop_end_of}
use Rattle.fsb_trace.proofs.Interface.{AgreeTo-sym, is_deferred-stays, live_below_count, response_clock_of-stays}
use Rattle.fsb_trace.proofs.Interface.{snoop_end_of-stays}
use Rattle.fsb_timely.specs.Past.{Claim, Grant, SnoopEnd}
use Rattle.fsb_timely.specs.Grants.{holds_line, is_exclusive, is_owning, snooped_at}
use Rattle.fsb_timely.specs.Hits.{line_state_of}
use Rattle.fsb_timely.specs.Moments.{claim_at, grant_to, is_owner_request, is_shared_at}
use Rattle.fsb_timely.specs.Runs.{Run, past_of, run_to}
use Rattle.fsb_timely.specs.Timely.{Timely}
use Rattle.fsb_timely.proofs.Interface.{snoop-tied}
use Rattle.fsb_lawful.proofs.Interface.{run_to-agrees, told-as-settled, turned-at, wants-lawfully}
use Rattle.fsb_coherent.specs.Awaits as awaits
use Rattle.fsb_tied.proofs.Ended.{response-within}
use Rattle.fsb_tied.proofs.Interface.{IsPutOff, IsSnooped, clock-facts, events-may-happen, has-reply, live-request}
use Rattle.fsb_tied.proofs.Interface.{reply-grants, snooped-by, told-again}
use Rattle.fsb_hazard.specs.Choice.{is_never_held_up}
use Rattle.fsb_tied.proofs.Interface.{asked-at, deferred-held}
use Rattle.fsb_tied.proofs.OneReply.{two-replies}
use Rattle.fsb_tied.proofs.ReplyEnds.{IsReplyEnd}
use Rattle.fsb_tied.proofs.SnoopClaims.{kind-shown}
use Rattle.fsb_run_laws.specs.Reaches.{Reaches}
use Rattle.fsb_owners.specs.Joint.{has_other_holder, state_at}
use Rattle.fsb_owners.specs.Shown.{agent_at, is_reply_of, names, origin_of}
use Rattle.fsb_owner_laws.specs.Losses.{fits_reply, has_other_sole}
use Rattle.fsb_owner_laws.proofs.AgreeWords as words
use Rattle.fsb_owner_laws.proofs.AskedOnce.{IsAsker, IsReplied}
use Rattle.fsb_owner_laws.proofs.BrokenRules.{named}
use Rattle.fsb_owner_laws.proofs.Emptied.{Ender}
use Rattle.fsb_owner_run.proofs.Claims.{asks-purpose, claim-of}
use Rattle.fsb_owner_run.proofs.Sets.{at_agent}
use Rattle.fsb_owner_run.proofs.Snooped.{none-of-four, the-orderly}
use Rattle.fsb_owner_run.proofs.States.{joint_at, state-held, state-sole}

-- what is told of a request that has responded is what was settled
pub told-same : (r : Run) (i t c : ℕ) (s : SnoopEnd) → Timely r → IsSnooped r t i s → response_clock_of r.trace i ≡ Some c
    → is_deferred r.trace i ≡ is_deferral s.outcome
unfolding is_deferred is_some_and
told-same r i t c s h k e =
    let w = r.trace in
    let u = (run_to r c).trace in
    let l = response-within w i c e in
    let agree = run_to-agrees r c l in
    let back = AgreeTo-sym (c + 1) w u agree in
    let there = response_clock_of-stays (c + 1) w u i c agree (omega arith) e in
    let told = told-as-settled r c i c h l there in
    let before = told.before in
    let whole = snoop_end_of-stays (c + 1) u w i told.snoop back (omega arith) told.is_snoop in
    let here = k.tied.reached in
    let same : told.snoop ≡ t = cc in
    let turned = turned-at r c i told.snoop h l told.is_snoop in
    let one = subst (λ x. snooped_at (past_of r) x ≡ Some turned.end) same turned.there in
    let two = k.tied.there in
    let end : turned.end ≡ s = cc in
    is_deferred-stays (c + 1) w u i t c agree (omega arith) here (omega arith) e
    ∙ ap (λ o. is_some_and o is_deferral) (told.outcome ∙ turned.outcome) ∙ ap (λ (x : SnoopEnd). is_deferral x.outcome) end

-- a request that is told Deferred, as the run put it off
pub put-off-told : (r : Run) (line i q t a : ℕ) → Timely r → snoop_end_of r.trace i ≡ Some t
    → live_clock_of r.trace i ≡ Some q → line_of r.trace q ≡ Some line → agent_at r.trace q ≡ Some a
    → is_deferred r.trace i ≡ true → (c : ℕ) → response_clock_of r.trace i ≡ Some c
    → (d : IsPutOff r line t i) × (d.claim ≡ record { first = q; agent = a; line = line }) × (d.end.first ≡ q)
put-off-told r line i q t a h snoop clock names agent deferred c response =
    let w = r.trace in
    let tied = snoop-tied r i t snoop in
    let s = tied.0 in
    let k = snooped-by r t i s tied.1 in
    let one = tied.1.first in
    let same : s.first ≡ q = cc in
    let claim : Claim = record { first = q; agent = a; line = line } in (
      record {
        end = s;
        snooped = k;
        deferred = sym (told-same r i t c s h k response) ∙ deferred;
        claim = claim;
        claims = tied.1.claim ∙ ap (claim_at w) same ∙ claim-of w q a line agent names;
        names = refl;
      },
      refl,
      same,
    )

-- the snoop end of a reply for the line: the agent, what it asked, and the moment of the clock
pub record IsRepliedEnd (r : Run) (line n : ℕ) (e : Ender) : Type 0 where
  pub end : SnoopEnd
  pub snooped : IsSnooped r n e.0 end
  pub unclaimed : end.claim ≡ None
  pub grant : Grant
  pub grants : end.grant ≡ Some grant
  pub agent : grant.agent ≡ e.1.0
  pub names : grant.line ≡ line
  pub owns : grant.owns ≡ kind_owns e.1.1
  pub shared : grant.shared ≡ line_at HIT r.trace n
  pub reply : is_reply (live_request_of r.trace e.0) ≡ true
  pub asks : asks_line e.1.1 ≡ true
  pub four : e.1.0 < 4

number-of-reply : (w : Trace) (i c j : ℕ) → reply_clock_of w i ≡ Some c → live_number_of w c ≡ j
    → reply_number_of w i ≡ Some j
unfolding reply_number_of
number-of-reply w i c j e f = ap (option_map (live_number_of w)) e ∙ ap Some f

pub owner-kind : (kind : Kind) (purpose : Purpose) → awaits.purpose_of kind ≡ Some purpose → is_owning kind ≡ kind_owns purpose
unfolding awaits.purpose_of is_owning
owner-kind kind purpose h1 = grind arith

owner-asked : (w : Trace) (i q : ℕ) (request : Request) (purpose : Purpose) → live_clock_of w i ≡ Some q
    → request_at w q ≡ Some request → awaits.purpose_of request.kind ≡ Some purpose
    → is_owner_request (live_request_of w i) ≡ kind_owns purpose
unfolding is_owner_request live_request_of is_some_and
owner-asked w i q request purpose e f g = rw (e, f) (owner-kind request.kind purpose g)

shared-hit : (w : Trace) (n : ℕ) → line_at HITM w n ≡ false → is_shared_at w n ≡ line_at HIT w n
unfolding is_shared_at
shared-hit w n e = rw e (or-false (line_at HIT w n))
  where
    or-false : (b : Bool) → (b || false) ≡ b
    or-false true = refl
    or-false false = refl

pub decoded-reply : (o : Option Request) → is_reply o ≡ true → (request : Request) × (o ≡ Some request)
    × (is_reply_kind request.kind ≡ true)
unfolding is_reply is_some_and
decoded-reply None e = absurd (let no : ⊥ = cc in no)
decoded-reply (Some request) e = (request, refl, e)

-- what is put off asks for its line
held-asks : (kind : Kind) (purpose : Purpose) → awaits.purpose_of kind ≡ Some purpose → is_never_held_up kind ≡ false
    → asks_line purpose ≡ true
unfolding awaits.purpose_of
held-asks kind purpose h1 h2 = grind arith

pub replied-end : (r : Run) (line n : ℕ) (e : Ender) → Reaches r (n + 1) → (k : IsAsker r.trace line n e)
    → IsReplied r.trace e.0 k.number → e.1.0 < 4 → IsRepliedEnd r line n e
unfolding grant_to
replied-end r line n e h k way four =
    let w = r.trace in
    let i = k.number in
    let long = h.long in
    let wants = wants-lawfully r h.bounds in
    let put = words.put_off w i (the-orderly r n h) way.answered.deferred in
    let shown = named w line k.clock k.names_line in
    let d = put-off-told r line i k.clock put.snoop e.1.0 h.timely put.is_snoop k.begins shown.1 k.agent
    way.answered.deferred put.response put.is_response in
    let number = number-of-reply w i way.clock e.0 way.answered.reply way.number in
    let g = reply-grants r line put.snoop i e.0 n h.timely wants h.bounds.few_ahead d.0 number k.snoop in
    let asked = asked-at r put.snoop i d.0.end h.timely wants d.0.snooped in
    let decoded = subst (λ q. request_at w q ≡ Some asked.request) d.2 asked.decoded in
    let purpose = sym (asks-purpose w k.clock asked.request decoded) ∙ k.kind in
    let there = decoded-reply (live_request_of w e.0) way.reply in
    let first = sym (live-request w e.0 g.end.first g.snooped.tied.first) ∙ there.1 in
    let again = told-again r n g.end there.0.kind h.timely g.snooped.within g.snooped.tied.there
    (kind-shown r n e.0 g.end there.0 g.snooped first) there.2 in
    record {
      end = g.end;
      snooped = g.snooped;
      unclaimed = g.unclaimed;
      grant = grant_to g.end.first (is_owner_request (live_request_of w i)) (is_shared_at w n) d.0.claim;
      grants = g.grants;
      agent = ap (λ c. c.agent) d.1;
      names = ap (λ c. c.line) d.1;
      owns = owner-asked w i k.clock asked.request e.1.1 k.begins decoded purpose;
      shared = shared-hit w n again.clean;
      reply = way.reply;
      asks = held-asks asked.request.kind e.1.1 purpose
          (deferred-held r put.snoop i d.0.end asked.request h.timely d.0.snooped asked.decoded d.0.deferred);
      four = four;
    }

-- the deferral that the reply answers leaves the line to its agent
not-own : (kind : Purpose) → kind_owns kind ≡ true → gets_line kind ≡ true → kind ≡ Own
not-own Own e f = refl
not-own Read e f = absurd (let no : ⊥ = cc in no)
not-own Upgrade e f = absurd (let no : ⊥ = cc in no)
not-own WriteBack e f = absurd (let no : ⊥ = cc in no)

-- who holds a line that is replied to
pub record IsLeftTo (r : Run) (line n : ℕ) (e : Ender) : Type 0 where
  pub shared : (b : ℕ) → is_exclusive (past_of r) b line n ≡ false
  pub alone : (kind_owns e.1.1 || not (line_at HIT r.trace n)) ≡ true → (b : ℕ) → b ≢ e.1.0
      → holds_line (past_of r) b line n ≡ false

pub left-to : (r : Run) (line n : ℕ) (e : Ender) → Reaches r (n + 1) → IsRepliedEnd r line n e → IsLeftTo r line n e
left-to r line n e h k =
    let p = past_of r in
    let long = h.long in
    let tie = (events-may-happen r line n [] h.timely h.bounds (omega arith)).1 in
    let on = (clock-facts r line n h.timely h.bounds (omega arith)).settles.replied k.end k.grant k.snooped.tied.there
    k.unclaimed k.grants k.names in
    let d = on.deferral in
    let pending = tie.ordered.pending d (tie.tied.deferral ∙ on.pending) in
    let agent : d.agent ≡ e.1.0 = sym on.agent ∙ k.agent in
    let owns : kind_owns d.kind ≡ kind_owns e.1.1 = sym on.owns ∙ k.owns in
    record {
      shared = λ b. sym (tie.tied.sole b) ∙ pending.nobody_sole b;
      alone = λ sole b other. sym (tie.tied.held b) ∙ (elim (cases_Bool (kind_owns e.1.1)) [
        | inl t ↦ pending.unshared (not-own d.kind (owns ∙ t) pending.gets) b (λ same. other (same ∙ agent))
        | inr f ↦
            let unseen : line_at HIT r.trace n ≡ false = by-second (kind_owns e.1.1) (line_at HIT r.trace n) f sole in
            pending.unseen (sym (on.seen (k.owns ∙ f)) ∙ k.shared ∙ unseen) b (λ same. other (same ∙ agent))
      ]);
    }
  where
    by-second : (a b : Bool) → a ≡ false → (a || not b) ≡ true → b ≡ false
    by-second a b h1 h2 = grind arith

others-off : (r : Run) (line n : ℕ) (e : Ender) → ((b : ℕ) → b ≢ e.1.0 → holds_line (past_of r) b line n ≡ false)
    → not (has_other_holder e.1.0 (joint_at (past_of r) line n)) ≡ true
unfolding has_other_holder
others-off r line n e h =
    let p = past_of r in
    ap not (none-of-four (λ b. not (nat_eq b e.1.0) && is_held (state_at (joint_at p line n) b)) (λ b l.
    elim (cases_Bool (nat_eq b e.1.0)) [
      | inl t ↦ rw t refl
      | inr f ↦ rw (
        f,
        at_agent (λ c. line_state_of p c line n) b l,
        state-held p b line n,
        h b (λ same. both_ways (nat_eq b e.1.0) f (eq-eqb b e.1.0 same)),
      ) refl
    ]))

soles-off : (r : Run) (line n : ℕ) (e : Ender) → ((b : ℕ) → is_exclusive (past_of r) b line n ≡ false)
    → not (has_other_sole e.1.0 (joint_at (past_of r) line n)) ≡ true
unfolding has_other_sole
soles-off r line n e h =
    let p = past_of r in
    ap not (none-of-four (λ b. not (nat_eq b e.1.0) && is_sole (state_at (joint_at p line n) b)) (λ b l.
    rw (at_agent (λ c. line_state_of p c line n) b l, state-sole p b line n, h b) (off (nat_eq b e.1.0))))
  where
    off : (b : Bool) → (not b && false) ≡ false
    off true = refl
    off false = refl

fits-by : (r : Run) (line n : ℕ) (e : Ender) (kind : Purpose) → e.1.1 ≡ kind → IsLeftTo r line n e
    → fits_reply (line_at HIT r.trace n) e.1.0 kind (joint_at (past_of r) line n) ≡ true
unfolding fits_reply
fits-by r line n e Read same k =
    elim (cases_Bool (line_at HIT r.trace n)) [
      | inl t ↦ rw t (soles-off r line n e k.shared)
      | inr f ↦ rw f (others-off r line n e (k.alone (rw (same, f) refl)))
    ]
fits-by r line n e Own same k = others-off r line n e (k.alone (rw same refl))
fits-by r line n e Upgrade same k = others-off r line n e (k.alone (rw same refl))
fits-by r line n e WriteBack same k = refl

pub replied-fits : (r : Run) (line n : ℕ) (e : Ender) → Reaches r (n + 1) → IsRepliedEnd r line n e
    → fits_reply (line_at HIT r.trace n) e.1.0 e.1.1 (joint_at (past_of r) line n) ≡ true
replied-fits r line n e h k = fits-by r line n e e.1.1 refl (left-to r line n e h k)

-- a request that counts at a reply is the one that the reply serves
same-served : (r : Run) (line n j i : ℕ) (s : SnoopEnd) (grant : Grant) → Reaches r (n + 1)
    → (k : IsReplyEnd r line n s grant)
    → is_deferred r.trace i ≡ true → reply_number_of r.trace i ≡ Some k.number → i ≡ k.served
same-served r line n j i s grant h k deferred reply =
    let w = r.trace in
    let wants = wants-lawfully r h.bounds in
    let put = words.put_off w i (the-orderly r n h) deferred in
    let tied = snoop-tied r i put.snoop put.is_snoop in
    let sn = snooped-by r put.snoop i tied.0 tied.1 in
    let settled = sym (told-same r i put.snoop put.response tied.0 h.timely sn put.is_response) ∙ deferred in
    elim (cases_lt i k.served) [
      | inl less ↦
          absurd (two-replies r k.clock put.snoop i k.served k.number tied.0 k.put_off.end h.timely wants
          h.bounds.few_ahead sn settled k.put_off.snooped k.put_off.deferred less reply k.reply)
      | inr more ↦ elim (cases_lt k.served i) [
        | inl less ↦
            absurd (two-replies r put.snoop k.clock k.served i k.number k.put_off.end tied.0 h.timely wants
            h.bounds.few_ahead k.put_off.snooped k.put_off.deferred sn settled less k.reply reply)
        | inr other ↦ omega (arith, more, other)
      ]
    ]

-- the request that counts at the snoop end of a reply
pub reply-origin : (r : Run) (line n : ℕ) (s : SnoopEnd) (grant : Grant) → Reaches r (n + 1)
    → (k : IsReplyEnd r line n s grant) → origin_of r.trace k.number ≡ Some k.served
unfolding origin_of is_reply_of
reply-origin r line n s grant h k =
    let w = r.trace in
    let is = live-request w k.number s.first k.snooped.tied.first in
    let reply : is_reply (live_request_of w k.number) ≡ true = ap is_reply is ∙ k.replies in
    let has = has-reply w k.served k.number k.reply in
    let told = told-same r k.served k.clock has.response k.put_off.end h.timely k.put_off.snooped has.is_response
    ∙ k.put_off.deferred in
    rw reply (first_where-at (is_reply_of w k.number) (live_count w) k.served
    (live_below_count w k.served k.put_off.end.first k.put_off.snooped.tied.first)
    (and_from _ _ told (is_at-from (reply_number_of w k.served) k.number k.reply))
    (λ j l. false_from_ne_true _ (λ t.
    let parts = and_parts (is_deferred w j) (is_at (reply_number_of w j) k.number) t in
    let same = same-served r line n k.number j s grant h k parts.0 (is_at-some (reply_number_of w j) k.number parts.1) in
    omega (arith, same, l))))
