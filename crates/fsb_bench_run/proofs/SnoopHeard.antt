-- The snoop end that a bench tells its agents is that of its run.
use Rattle.fsb_bench_run.proofs.Words
use Words.{ℕ, ◌+◌, ◌/◌, ◌<◌, ◌≡◌, ◌||◌, ◌⊎◌, Bool, true, false, Option, Some, None, List, length, is_some, refl, sym}
use Words.{ap, subst, ◌∙◌, arith, inl, inr, slice_get, option_and_then, Done, number_asked, served-number, Bridged}
use Words.{deferral_of_id, IsThatOf, Deferral, deferred-at, is_some_and, first_where-found, is_at-some, Request, Choice}
use Words.{wants-lawfully, rank_of, longer, Reaches, replied-outstanding, replied-served, ADS, HIT, line_at, IsPutOff}
use Words.{begun-want, live-request, reply-grants, begun_at, snooped_at, IsSnoopOf, claim_at, grant_for, grant_of}
use Words.{grant_to, is_answered_by, is_owner_request, is_shared_at, served_number, turns_in, Claim, Grant, Past}
use Words.{SnoopEnd, Run, past_of, number_served_at, want_of, begun-told, number-found, Trace, request_at}
use Words.{reply_number_of, is_settled_deferred, is_reply, is_reply_kind, live_clock_of, live_request_of, Outcome, Who}
use Words.{Symmetric, Priority, snoop_end_of-rises, SnoopSettled, step_decided, step_performed, snooped_entry}
use Words.{snooped_reply, snooping_of, BenchView, next_clock_of, IsBegunAt}
use Rattle.fsb_bench_run.proofs.BegunEvents.{begun-claim}
use Rattle.fsb_bench_run.proofs.BegunRequests.{begun-is}
use Rattle.fsb_bench_run.proofs.BegunStays.{begun-stays}
use Rattle.fsb_bench_run.proofs.AskedNow.{shows-now}
use Rattle.fsb_bench_run.proofs.DeferralsNow.{deferrals-now}
use Rattle.fsb_bench_run.proofs.DeferredBegun.{deferred-begun}
use Rattle.fsb_bench_run.proofs.DrivenLines.{hit_driven, hitm_driven}
use Rattle.fsb_bench_run.proofs.HazardsDriven.{decoded-now}
use Rattle.fsb_bench_run.proofs.RunWith.{run_with}
use Rattle.fsb_bench_run.proofs.SameBus.{same-performed}
use Rattle.fsb_bench_run.proofs.SnoopCases.{SnoopsHere}
use Rattle.fsb_bench_run.proofs.SnoopEntry.{held-here}
use Rattle.fsb_bench_run.proofs.SnoopResult.{begun-reply-kind, deferral-started, hit-now, hitm-now}
use Rattle.fsb_bench_run.proofs.SnoopTold.{snoop-told}
use Rattle.fsb_bench_run.proofs.StepWith.{IsStepWith}

-- the snoop end of an agent's request
pub record IsClaimHeard (s : Run) (n : ℕ) (end : SnoopEnd) (x : SnoopSettled) : Type 0 where
  pub claim : Claim
  pub claims : end.claim ≡ Some claim
  pub agent : claim.agent ≡ x.served.agent
  pub first : end.first ≡ x.served.first
  pub want : want_of (past_of s) claim.agent end.first ≡ Some x.served.request
  pub plain : is_reply_kind x.served.request.kind ≡ false
  pub itself : x.served.request ≡ x.entry.request
  pub shared : (grant : Grant) → end.grant ≡ Some grant → (x.hit || x.hitm) ≡ grant.shared

-- that of a reply to a deferred one
pub record IsReplyHeard (s : Run) (n : ℕ) (end : SnoopEnd) (x : SnoopSettled) : Type 0 where
  pub unclaimed : end.claim ≡ None
  pub grant : Grant
  pub grants : end.grant ≡ Some grant
  pub agent : grant.agent ≡ x.served.agent
  pub asked : number_asked (past_of s) grant.agent n grant.line ≡ Some x.served.first
  pub reply : is_reply_kind x.entry.request.kind ≡ true
  pub shared : (x.hit || x.hitm) ≡ grant.shared

-- the snoop end that is decided is that of the clock
pub record IsSnoopHeard (s : Run) (n : ℕ) (x : SnoopSettled) : Type 0 where
  pub end : SnoopEnd
  pub there : snooped_at (past_of s) n ≡ Some end
  pub outcome : end.outcome ≡ x.outcome
  pub turn : end.turn ≡ x.turn
  pub entry : end.first ≡ x.entry.clock
  pub decoded : request_at s.trace x.entry.clock ≡ Some x.entry.request
  pub hit : line_at HIT s.trace n ≡ x.hit
  pub served : IsClaimHeard s n end x ⊎ IsReplyHeard s n end x
  pub begun : IsBegunAt s x.served.first (Symmetric x.served.agent) x.served.request

-- a grant tells whether HIT# or HITM# was at its snoop end
shared-of : (p : Past) (w : Trace) (i q t : ℕ) (outcome : Outcome) (grant : Grant)
    → grant_of p w i q t outcome ≡ Some grant
    → grant.shared ≡ is_shared_at w t
unfolding grant_of grant_for grant_to
shared-of p w i q t outcome grant e = grind arith

some-there : {X : Type 0} (o : Option X) → is_some o ≡ true → (x : X) × (o ≡ Some x)
some-there o h1 = grind arith

pub claim-told : (s : Run) (q : ℕ) (claim : Claim) → q < length s.trace → line_at ADS s.trace q ≡ true
    → begun_at (past_of s) q ≡ Some claim → claim_at s.trace q ≡ Some claim
claim-told s q claim l ads e = grind (arith, begun-told)

-- what a reply serves that has its snoop end at n
pub record IsReplyServed (s : Run) (n q : ℕ) (end : SnoopEnd) (request : Request) : Type 0 where
  pub unclaimed : end.claim ≡ None
  pub grant : Grant
  pub grants : end.grant ≡ Some grant
  pub agent : grant.agent ≡ request.did / 16
  pub asked : number_asked (past_of s) grant.agent n grant.line ≡ Some q
  pub shared : grant.shared ≡ is_shared_at s.trace n
  pub begun : IsBegunAt s q (Symmetric (request.did / 16)) request

pub answered-of : (w : Trace) (turns : List ℕ) (m j : ℕ) → is_reply (live_request_of w m) ≡ true
    → served_number w turns m ≡ Some j
    → (j < m) × (is_settled_deferred w turns j ≡ true) × (reply_number_of w j ≡ Some m)
unfolding served_number is_answered_by
answered-of w turns m j replies served = grind (arith, first_where-found, is_at-some)

pub reply-serves : (s : Run) (n m j q : ℕ) (end : SnoopEnd) (request : Request) → Reaches s (n + 1)
    → IsSnoopOf s m n end
    → is_reply (request_at s.trace end.first) ≡ true → served_number s.trace (turns_in (past_of s).moments) m ≡ Some j
    → live_request_of s.trace j ≡ Some request → live_clock_of s.trace j ≡ Some q → IsReplyServed s n q end request
unfolding grant_to
reply-serves s n m j q end request h is replies served asks clock =
    let w = s.trace in
    let p = past_of s in
    let turns = turns_in p.moments in
    let long = h.long in
    let a = answered-of w turns m j (ap is_reply (live-request w m end.first is.first) ∙ replies) served in
    let rises = snoop_end_of-rises w j m n a.0 is.reached in
    let wants = wants-lawfully s h.bounds in
    let d = deferred-at s rises.0 j h.timely wants rises.1 a.1 in
    let above = d.snooped.above in
    let within = d.snooped.within in
    let begun = deferred-begun s rises.0 j h.bounds d in
    let first : d.end.first ≡ q = one d.end.first q (sym d.snooped.tied.first ∙ clock) in
    let same : d.request ≡ request = one-request d.request request (sym d.asked ∙ asks) in
    let c = begun-claim s d.end.first (d.request.did / 16) d.request (omega arith) begun in
    let put_off : IsPutOff s c.0.line rises.0 j = record {
      end = d.end;
      snooped = d.snooped;
      deferred = d.deferred;
      claim = c.0;
      claims = d.snooped.tied.claim ∙ claim-told s d.end.first c.0 (omega arith) d.snooped.ads c.1;
      names = refl;
    } in
    let g = reply-grants s c.0.line rises.0 j m n h.timely wants h.bounds.few_ahead put_off a.2 is.reached in
    let grant : Grant = grant_to g.end.first (is_owner_request (live_request_of w j)) (is_shared_at w n) c.0 in
    let same_end : g.end ≡ end = one-end g.end end (sym g.snooped.tied.there ∙ is.there) in
    let unclaimed : end.claim ≡ None = sym (ap (λ (x : SnoopEnd). x.claim) same_end) ∙ g.unclaimed in
    let grants : end.grant ≡ Some grant = sym (ap (λ (x : SnoopEnd). x.grant) same_end) ∙ g.grants in
    let k = replied-outstanding s n end grant h is.there unclaimed grants in
    record {
      unclaimed = unclaimed;
      grant = grant;
      grants = grants;
      agent = c.2 ∙ ap (λ (x : Request). x.did / 16) same;
      asked = served-number s n grant h k ∙ sym (replied-served s n m end grant h is.there unclaimed grants is.reached)
          ∙ ap (option_and_then (live_clock_of w)) served ∙ clock;
      shared = refl;
      begun = subst (λ x. IsBegunAt s x (Symmetric (request.did / 16)) request) first
          (subst (λ (x : Request). IsBegunAt s d.end.first (Symmetric (x.did / 16)) x) same begun);
    }
  where
    one : (a b : ℕ) → Some a ≡ Some b → a ≡ b
    one a b e = cc

    one-request : (a b : Request) → Some a ≡ Some b → a ≡ b
    one-request a b e = cc

    one-end : (a b : SnoopEnd) → Some a ≡ Some b → a ≡ b
    one-end a b e = cc

-- HIT# or HITM# is driven at the clock
shared-now : (v : BenchView) (hold : Bool) (choice : Choice) (entries : List Done)
    (c : SnoopsHere v hold choice entries)
    (who : Who) (x : SnoopSettled) → c.now.entry.who ≡ who → snooped_entry (step_performed v) c.now.entry who ≡ Some x
    → is_shared_at (run_with v hold choice entries).trace (next_clock_of v) ≡ (x.hit || x.hitm)
unfolding is_shared_at
shared-now v hold choice entries c who x e is =
    let hit = hit-now v hold choice entries c who e ∙ ap (λ o. hit_driven o false) is in
    let hitm = hitm-now v hold choice entries c who e ∙ ap (λ o. hitm_driven o false) is in
    λ i. hit i || hitm i

-- what a bench decides of the snoop end of a clock
pub record HearsSnoop (v : BenchView) (hold : Bool) (s : Run) : Type 0 where
  pub snooped : SnoopSettled
  pub decided : (step_decided v hold).snooped ≡ Some snooped
  pub heard : IsSnoopHeard s (next_clock_of v) snooped

heard-by : (v : BenchView) (hold : Bool) (choice : Choice) (entries : List Done) → IsStepWith v hold choice entries
    → Reaches (run_with v hold choice entries) (next_clock_of v + 1)
    → (c : SnoopsHere v hold choice entries) (who : Who)
    → c.now.entry.who ≡ who → HearsSnoop v hold (run_with v hold choice entries)
unfolding is_reply is_some_and number_served_at
heard-by v hold choice entries k h c (Symmetric agent) e =
    let r = v.run in
    let s = run_with v hold choice entries in
    let p = past_of s in
    let n = next_clock_of v in
    let bus = step_performed v in
    let y = c.now.entry in
    let size = longer r s k.grows in
    let here = held-here r v.bus.queue c.now.place y k.bench.requests c.now.at in
    let within = here.within in
    let told = deferrals-now v hold choice entries k.bench k.grows (shows-now v hold choice entries k) in
    let t = snoop-told v hold choice entries k.bench told k.grows c in
    let x : SnoopSettled = snooping_of bus agent y in
    let decided = c.decided ∙ ap (snooped_entry bus y) e in
    let same : t.snooped ≡ x = one-settled t.snooped x (sym t.decided ∙ decided) in
    let began = subst (λ w. IsBegunAt s y.clock w y.request) e
    (begun-stays r s y.clock y.who y.request k.grows within (k.bench.entries.begun c.now.place y c.now.at)) in
    let b = begun-claim s y.clock agent y.request (omega arith) began in
    let want = begun-want s y.clock b.0 h.timely h.bounds (omega arith) b.1 in
    let request : want.request ≡ y.request = one-request want.request y.request
    (sym want.begins ∙ begun-is s y.clock (Symmetric agent) y.request (omega arith) began) in
    record {
      snooped = x;
      decided = decided;
      heard = record {
        end = c.told.end;
        there = c.told.is_end.there;
        outcome = t.outcome ∙ ap (λ (z : SnoopSettled). z.outcome) same;
        turn = t.turn ∙ ap (λ (z : SnoopSettled). z.turn) same;
        entry = c.told.first;
        decoded = decoded-now v hold choice entries k.bench k.grows c;
        hit = hit-now v hold choice entries c (Symmetric agent) e;
        served = inl (record {
          claim = b.0;
          claims = c.told.is_end.claim ∙ ap (claim_at s.trace) c.told.first
              ∙ claim-told s y.clock b.0 (omega arith) began.begins b.1;
          agent = b.2;
          first = c.told.first;
          want = ap (want_of p b.0.agent) c.told.first ∙ want.want ∙ ap (λ z. Some z) request;
          plain = ap (λ (z : Request). is_reply_kind z.kind) (sym request) ∙ want.no_reply;
          itself = refl;
          shared = λ grant g.
              sym (shared-of p s.trace (rank_of s.trace y) c.told.end.first n c.told.end.outcome grant
              (sym c.told.is_end.grant ∙ g) ∙ shared-now v hold choice entries c (Symmetric agent) x e refl);
        });
        begun = began;
      };
    }
  where
    one-settled : (a b : SnoopSettled) → Some a ≡ Some b → a ≡ b
    one-settled a b e = cc

    one-request : (a b : Request) → Some a ≡ Some b → a ≡ b
    one-request a b e = cc
heard-by v hold choice entries k h c Priority e =
    let r = v.run in
    let s = run_with v hold choice entries in
    let p = past_of s in
    let n = next_clock_of v in
    let bus = step_performed v in
    let y = c.now.entry in
    let did = y.request.did in
    let turns = turns_in p.moments in
    let m = rank_of s.trace y in
    let told = deferrals-now v hold choice entries k.bench k.grows (shows-now v hold choice entries k) in
    let t = snoop-told v hold choice entries k.bench told k.grows c in
    let begun = subst (λ w. IsBegunAt r y.clock w y.request) e (k.bench.entries.begun c.now.place y c.now.at) in
    let kind = begun-reply-kind r y.clock y.request begun in
    let here = decoded-now v hold choice entries k.bench k.grows c in
    let decoded = ap (request_at s.trace) c.told.first ∙ here in
    let there = c.told.is_end.there in
    let some = some-there (deferral_of_id did v.bus.bridge.waiting)
    (told.taken c.told.end y.request there decoded kind) in
    let d : Deferral = some.0 in
    let that = told.deferral c.told.end y.request there decoded kind in
    let one = subst (λ o. IsThatOf s.trace o (number_served_at s p n)) some.1 that in
    let at = deferral-started v hold choice entries k.bench k.grows c d one.0 one.1 one.2 in
    let list = ap (λ (x : Bridged). deferral_of_id did x.waiting) (same-performed v).bridge ∙ some.1 in
    let started = ap (λ xs. slice_get xs d.number) (same-performed v).started ∙ at.1 in
    let x : SnoopSettled = snooped_reply y d at.0 in
    let is : snooped_entry bus y Priority ≡ Some x = grind arith in
    let decided = c.decided ∙ ap (snooped_entry bus y) e ∙ is in
    let same : t.snooped ≡ x = one-settled t.snooped x (sym t.decided ∙ decided) in
    let number = number-found s.trace m n c.told.is_end.reached in
    let served : served_number s.trace turns m ≡ Some one.0 = grind arith in
    let serves = reply-serves s n m one.0 at.0.clock c.told.end d.request h c.told.is_end
    (ap (λ o. is_reply o) decoded ∙ kind) served one.2.request at.2 in
    record {
      snooped = x;
      decided = decided;
      heard = record {
        end = c.told.end;
        there = there;
        outcome = t.outcome ∙ ap (λ (z : SnoopSettled). z.outcome) same;
        turn = t.turn ∙ ap (λ (z : SnoopSettled). z.turn) same;
        entry = c.told.first;
        decoded = here;
        hit = hit-now v hold choice entries c Priority e ∙ ap (λ o. hit_driven o false) is;
        served = inr (record {
          unclaimed = serves.unclaimed;
          grant = serves.grant;
          grants = serves.grants;
          agent = serves.agent;
          asked = serves.asked;
          reply = kind;
          shared = sym (serves.shared ∙ shared-now v hold choice entries c Priority x e is);
        });
        begun = serves.begun;
      };
    }
  where
    one-settled : (a b : SnoopSettled) → Some a ≡ Some b → a ≡ b
    one-settled a b e = cc

pub hears-snoop : (v : BenchView) (hold : Bool) (choice : Choice) (entries : List Done)
    → IsStepWith v hold choice entries
    → Reaches (run_with v hold choice entries) (next_clock_of v + 1) → (c : SnoopsHere v hold choice entries)
    → HearsSnoop v hold (run_with v hold choice entries)
hears-snoop v hold choice entries k h c = heard-by v hold choice entries k h c c.now.entry.who refl
