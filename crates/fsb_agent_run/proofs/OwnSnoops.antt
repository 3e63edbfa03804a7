-- The snoop end of an agent's own request, and of the reply to its deferred one, in its view.
use Rattle.fsb_agent_run.proofs.Words
use Words.{ℕ, ◌+◌, ◌<◌, ◌≡◌, ◌≢◌, ◌⊎◌, Bool, true, false, not, ◌&&◌, ◌||◌, List, Option, Some, None, is_some, nat_eq}
use Words.{refl, sym, ap, subst, ◌∙◌, inl, inr, arith, if◌then◌else◌, ◌==◌, option_and_then, option_map_or, both_ways}
use Words.{cases_Bool, eq-eqb, eqb-true, copies, sets_filled, is_at, is_some_and, nat_eq-sym, Kind, Request, Purpose}
use Words.{Mesi, Exclusive, Invalid, Modified, Shared, asks_line, granted, is_held, kind_owns, Claim, Grant, Owing}
use Words.{Past, SnoopEnd, begun_at, grant_at, holds_line, is_claim_of, is_claim_of_other, is_evicted}
use Words.{is_named_by_other, is_snooped, is_taken_away, is_written_back, snooped_at, is_got, is_upgraded, makes_grant}
use Words.{Run, past_of, owed, want_of, is_write_back_kind, Outcome, Granted, Handed, Retried, Deferred, Written}
use Words.{Replied, Failed, Upgraded, cancelled_in, purpose_of, fits_getting, fits_kind, fits_upgrade, fits_write_back}
use Words.{begun-shown, begun-want, claimed-at, clock-facts, snooped-by, uncontested, writes-back-alone, tied-snoop}
use Words.{Reaches, state_granted, state_read, snooped-outstanding, OwnRequest, AgentView, line_state_by}
use Words.{request_numbered, requests_granted, committed, granted_by, kind_asks, no_bytes, own_settled, upgraded_by}
use Words.{with_fill, written_by, HasRequestsOf, is_won_below, IsViewAfterSnoop, IsViewBeforeSnoop, is_uncancelled}
use Words.{owed_sent, owed_through}
use Rattle.fsb_encode.specs.declared.request.Kind.TheVariants as kinds
use Rattle.fsb_agent_run.proofs.Among.{Among, among-left, filter-among}
use Rattle.fsb_agent_run.proofs.OutLists.{among-granted, find-number, kept-of, out-there, wanted-of}
use Rattle.fsb_agent_run.proofs.OwedSteps.{owed-there, reaches-less}
use Rattle.fsb_agent_run.proofs.SlotStates.{in_sets-without, length-without, state-without}
use Rattle.fsb_agent_run.proofs.SnoopSteps.{granted-to-other, granted-view, lowered-view, outs-apart, requests-still}
use Rattle.fsb_agent_run.proofs.WonSteps.{other-snoop, won-before, won-now, won-still}

-- the snoop end of a symmetric agent's request: what its agent wanted, and how it is settled
pub record IsSettledAs (r : Run) (c : ℕ) (s : SnoopEnd) (claim : Claim) : Type 0 where
  pub request : Request
  pub want : want_of (past_of r) claim.agent s.first ≡ Some request
  pub line : request.line ≡ claim.line
  pub kind : s.kind ≡ Some request.kind
  pub fits : fits_kind request.kind s.outcome ≡ true
  pub first : claim.first ≡ s.first
  pub begun : begun_at (past_of r) s.first ≡ Some claim
  pub early : s.first < c
  pub uncancelled : is_at (cancelled_in (past_of r) c) s.first ≡ false
  pub unevicted : is_evicted (past_of r) claim.agent claim.line c ≡ false
  pub shared : Bool
  pub seen_dirty : s.outcome ≡ Handed → shared ≡ true
  pub granted : s.grant ≡ (if makes_grant request.kind s.outcome
      || (is_upgraded s.outcome && holds_line (past_of r) claim.agent claim.line c)
      then Some (record {
        first = s.first;
        agent = claim.agent;
        line = claim.line;
        owns = kind_owns (kind_asks request.kind);
        shared = shared;
      }) else None)

owns-by : (kind : Kind) (purpose : Purpose) → purpose_of kind ≡ Some purpose
    → kind_owns purpose ≡ kind_owns (kind_asks kind)
unfolding purpose_of
owns-by kind purpose h1 = grind arith

pub settled-as : (r : Run) (c : ℕ) (s : SnoopEnd) (claim : Claim) → Reaches r (c + 1)
    → snooped_at (past_of r) c ≡ Some s
    → s.claim ≡ Some claim → IsSettledAs r c s claim
settled-as r c s claim h there claims =
    let p = past_of r in
    let long = h.long in
    let out = snooped-outstanding r c s claim h there claims in
    let early = out.1 in
    let want = begun-want r s.first claim h.timely h.bounds (omega arith) out.0 in
    let shown = begun-shown r s.first claim h.timely h.bounds (omega arith) want in
    let tied = tied-snoop r c s there in
    let k = claimed-at r c tied.0 s claim h.timely h.bounds (snooped-by r c tied.0 s tied.1) claims in
    let decoded = k.decoded in
    let same : k.request ≡ want.request = cc in
    let settled = (clock-facts r claim.line c h.timely h.bounds (omega arith)).settles.settled s claim there
    claims refl in
    let fits = settled.fits in
    let own = fits.claimed in
    let who : claim ≡ record { first = s.first; agent = fits.agent; line = claim.line } = cc in
    let agent : claim.agent ≡ fits.agent = ap (λ (x : Claim). x.agent) who in
    let known = fits.known in
    let asks : s.kind ≡ Some want.request.kind = k.kind ∙ ap (λ (x : Request). Some x.kind) same in
    let kind : fits.kind ≡ want.request.kind = cc in
    let alone = uncontested r claim.line c s (writes-back-alone r h.timely h.bounds) there fits in
    let owns : fits.owns ≡ kind_owns (kind_asks want.request.kind) = grind (arith, owns-by) in
    let won : fits.won ≡ holds_line p claim.agent claim.line c = grind arith in
    record {
      request = want.request;
      want = want.want;
      line = want.line;
      kind = asks;
      fits = ap (λ x. fits_kind x s.outcome) (sym kind) ∙ fits.fits alone;
      first = k.first;
      begun = out.0;
      early = out.1;
      uncancelled = settled.uncancelled;
      unevicted = ap (λ a. is_evicted p a claim.line c) agent ∙ settled.unevicted;
      shared = fits.shared;
      seen_dirty = settled.seen_dirty;
      granted = fits.granted
          ∙ (λ i. if makes_grant (kind i) s.outcome || (is_upgraded s.outcome && won i)
          then Some (record {
            first = s.first;
            agent = sym agent i;
            line = claim.line;
            owns = owns i;
            shared = fits.shared;
          }) else None);
    }

-- the agent's own request is one of its view's
pub own-out : (r : Run) (a c n : ℕ) (s : SnoopEnd) (claim : Claim) (v : AgentView) → Reaches r (c + 1)
    → snooped_at (past_of r) c ≡ Some s → s.claim ≡ Some claim → claim.agent ≡ a
    → HasRequestsOf (past_of r) a n (owed_through (past_of r) a c) v → (k : IsSettledAs r c s claim)
    → (out : OwnRequest) × Among out v.outs × (out.number ≡ s.first) × (request_numbered s.first v.outs ≡ Some out)
    × (out.request ≡ k.request)
unfolding owed_through owed_sent is_uncancelled
own-out r a c n s claim v h there claims mine requests k =
    let p = past_of r in
    let long = h.long in
    let early : Reaches r c = reaches-less r c (c + 1) (omega arith) h in
    let out = snooped-outstanding r c s claim h there claims in
    let owing = owed-there r c s.first claim early out.0 out.1 out.2 in
    let first : owing.0.claim.first ≡ s.first = ap (λ (x : Claim). x.first) owing.2 ∙ k.first in
    let among : Among owing.0 (owed p a c) = subst (λ b. Among owing.0 (owed p b c)) mine owing.1 in
    let through : Among owing.0 (owed_through p a c) = filter-among (is_uncancelled p c) owing.0 (owed_sent p a c)
    (among-left owing.0 (owed p a c) _ among)
    (ap not (ap (is_at (cancelled_in p c)) first ∙ k.uncancelled)) in
    let found = out-there p a n (owed_through p a c) v owing.0 requests through in
    let number : found.0.number ≡ s.first = ap (λ (o : Owing). o.claim.first) found.2 ∙ first in
    let numbered = find-number p a found.0 v.outs (outs-apart r a c n v h requests) found.1 in
    let wanted = wanted-of p a n (owed_through p a c) v found.0 requests found.1 in
    let want = k.want in
    let mine_want : want_of p a s.first ≡ Some k.request = grind arith in
    let here : want_of p a s.first ≡ Some found.0.request = ap (want_of p a) (sym number) ∙ wanted in
    let request : found.0.request ≡ k.request = (let e = sym here ∙ mine_want in cc) in
    (found.0, found.1, number, subst (λ q. request_numbered q v.outs ≡ Some found.0) number numbered, request)

-- what the snoop end of a request says of the lines of its own agent
own-named : (p : Past) (a line c : ℕ) (s : SnoopEnd) (claim : Claim) → snooped_at p c ≡ Some s → s.claim ≡ Some claim
    → claim.agent ≡ a → is_named_by_other p a line c ≡ false
unfolding is_named_by_other is_claim_of_other is_some_and
own-named p a line c s claim there claims mine = rw (there, claims, eq-eqb claim.agent a mine) refl

own-taken : (p : Past) (a line c : ℕ) (s : SnoopEnd) (claim : Claim) → snooped_at p c ≡ Some s → s.claim ≡ Some claim
    → claim.agent ≡ a → is_taken_away p a line c ≡ false
unfolding is_taken_away is_snooped is_claim_of_other is_some_and
own-taken p a line c s claim there claims mine = rw (there, claims, eq-eqb claim.agent a mine) refl

own-written : (p : Past) (a line c : ℕ) (s : SnoopEnd) (claim : Claim) (kind : Kind) → snooped_at p c ≡ Some s
    → s.claim ≡ Some claim → s.kind ≡ Some kind → claim.agent ≡ a
    → is_written_back p a line c ≡ (nat_eq claim.line line && is_write_back_kind kind)
unfolding is_written_back is_snooped is_claim_of is_some_and
own-written p a line c s claim kind there claims is mine = rw (there, claims, is, eq-eqb claim.agent a mine) refl

never-both : (x y : Bool) → y ≡ false → ((x && y) || false) ≡ false
never-both x y h1 = grind arith

own-kept : (p : Past) (a line c : ℕ) (s : SnoopEnd) (claim : Claim) (kind : Kind) → snooped_at p c ≡ Some s
    → s.claim ≡ Some claim → s.kind ≡ Some kind → claim.agent ≡ a → is_write_back_kind kind ≡ false
    → (is_written_back p a line c || is_taken_away p a line c) ≡ false
own-kept p a line c s claim kind there claims is mine plain =
    (λ i. own-written p a line c s claim kind there claims is mine i
    || own-taken p a line c s claim there claims mine i)
    ∙ never-both (nat_eq claim.line line) (is_write_back_kind kind) plain

pub grant-of-snoop : (p : Past) (c : ℕ) (s : SnoopEnd) → snooped_at p c ≡ Some s → grant_at p c ≡ s.grant
unfolding grant_at
grant-of-snoop p c s there = ap (option_and_then (λ (x : SnoopEnd). x.grant)) there

-- the requests of the view where one is granted
pub own-won : (r : Run) (a c number : ℕ) (kept : Option (List ℕ)) (v : AgentView) (after : OwnRequest)
    → HasRequestsOf (past_of r) a c (owed_through (past_of r) a c) v
    → is_some kept ≡ is_won_below (past_of r) (c + 1) number
    → ((out : OwnRequest) → Among out v.outs → out.number ≢ number
    → is_won_below (past_of r) (c + 1) out.number ≡ is_won_below (past_of r) c out.number)
    → Among after (requests_granted number kept v.outs)
    → is_some after.kept ≡ is_won_below (past_of r) (c + 1) after.number
own-won r a c number kept v after requests won others there = grind (arith, among-granted, kept-of)

-- a request that gets its line
got-view : (r : Run) (a c : ℕ) (s : SnoopEnd) (claim : Claim) (grant : Grant) (out : OwnRequest) (shared : Bool)
    (v : AgentView) → Reaches r (c + 1) → 0 < r.plan.cache → snooped_at (past_of r) c ≡ Some s → s.claim ≡ Some claim
    → claim.agent ≡ a → (k : IsSettledAs r c s claim) → s.grant ≡ Some grant → grant.agent ≡ a
    → grant.line ≡ out.request.line → out.number ≡ s.first → is_upgraded s.outcome ≡ false
    → is_write_back_kind k.request.kind ≡ false → asks_line (kind_asks out.request.kind) ≡ true
    → granted (kind_asks out.request.kind) shared ≡ state_granted grant → IsViewBeforeSnoop (past_of r) a c v
    → IsViewAfterSnoop (past_of r) a c (granted_by v out shared)
got-view r a c s claim grant out shared v h some there claims mine k makes agent line number plain kept asks
    state view =
    let p = past_of r in
    let at : grant_at p c ≡ Some grant = grant-of-snoop p c s there ∙ makes in
    let still : (x : OwnRequest) → Among x v.outs → x.number ≢ out.number
    → is_won_below p (c + 1) x.number ≡ is_won_below p c x.number =
    λ x _ apart. won-still p c x.number (other-snoop p c x.number s there (λ e. apart (sym e ∙ sym number))) in
    let none : false ≡ is_won_below p (c + 1) out.number = grind (arith, won-now) in
    rw (asks, granted_by) (subst (λ l. IsViewAfterSnoop p a c (record v {
      lines = sets_filled v.lines l (granted (kind_asks out.request.kind) shared) no_bytes;
      buffers = with_fill v.buffers l out.number;
      outs = requests_granted out.number None v.outs;
    })) line
    (granted-view r a c out.number grant (granted (kind_asks out.request.kind) shared) no_bytes None v h some
    at agent state
    (λ l _. own-kept p a l c s claim k.request.kind there claims k.kind mine kept)
    (λ l. own-named p a l c s claim there claims mine)
    (λ x among. own-won r a c out.number None v x view.requests none still among) view))

-- a kind that gets its line with an outcome, and the state in which it gets it
pub record IsGetting (kind : Kind) (outcome : Outcome) : Type 0 where
  pub makes : makes_grant kind outcome ≡ true
  pub plain : is_upgraded outcome ≡ false
  pub kept : is_write_back_kind kind ≡ false
  asks : asks_line (kind_asks kind) ≡ true
  state : (shared : Bool) → granted (kind_asks kind) shared
      ≡ (if kind_owns (kind_asks kind) then Modified else (if shared then Shared else Exclusive))

pub getting-granted : (kind : Kind) → fits_kind kind Granted ≡ true → IsGetting kind Granted
unfolding fits_kind fits_getting fits_upgrade fits_write_back makes_grant is_got is_upgraded is_write_back_kind
getting-granted kind h1 = grind arith

pub getting-handed : (kind : Kind) → fits_kind kind Handed ≡ true → IsGetting kind Handed
unfolding fits_kind fits_getting fits_upgrade fits_write_back makes_grant is_got is_upgraded is_write_back_kind
getting-handed kind h1 = grind arith

-- a kind that gets nothing with an outcome, and asks for no write-back
pub record IsIdle (kind : Kind) (outcome : Outcome) : Type 0 where
  pub makes : makes_grant kind outcome ≡ false
  pub plain : is_upgraded outcome ≡ false
  pub kept : is_write_back_kind kind ≡ false

pub idle-retried : (kind : Kind) → fits_kind kind Retried ≡ true → IsIdle kind Retried
unfolding fits_kind fits_getting fits_upgrade fits_write_back makes_grant is_got is_upgraded is_write_back_kind
idle-retried kind h1 = grind arith

pub idle-deferred : (kind : Kind) → fits_kind kind Deferred ≡ true → IsIdle kind Deferred
unfolding fits_kind fits_getting fits_upgrade fits_write_back makes_grant is_got is_upgraded is_write_back_kind
idle-deferred kind h1 = grind arith

pub written-kind : (kind : Kind) → fits_kind kind Written ≡ true → kind ≡ kinds.WriteBack
unfolding fits_kind fits_getting fits_upgrade fits_write_back
written-kind kind h1 = grind arith

upgraded-kind : (kind : Kind) → fits_kind kind Upgraded ≡ true → kind ≡ kinds.Upgrade
unfolding fits_kind fits_getting fits_upgrade fits_write_back
upgraded-kind kind h1 = grind arith

pub never-fits : (kind : Kind) (outcome : Outcome) → (outcome ≡ Replied) ⊎ (outcome ≡ Failed)
    → fits_kind kind outcome ≡ true → ⊥
unfolding fits_kind fits_getting fits_upgrade fits_write_back
never-fits kind outcome h1 h2 = grind arith

-- the grant of such a snoop end
grant-by : (r : Run) (c : ℕ) (s : SnoopEnd) (claim : Claim) → IsSettledAs r c s claim → Grant
grant-by r c s claim k = record {
  first = s.first;
  agent = claim.agent;
  line = claim.line;
  owns = kind_owns (kind_asks k.request.kind);
  shared = k.shared;
}

state-by : (r : Run) (c : ℕ) (s : SnoopEnd) (claim : Claim) (k : IsSettledAs r c s claim)
    → state_granted (grant-by r c s claim k)
    ≡ (if kind_owns (kind_asks k.request.kind) then Modified else (if k.shared then Shared else Exclusive))
unfolding state_granted grant-by
state-by r c s claim k = refl

getting-view : (r : Run) (a c : ℕ) (s : SnoopEnd) (claim : Claim) (out : OwnRequest) (shared : Bool) (outcome : Outcome)
    (v : AgentView) → Reaches r (c + 1) → 0 < r.plan.cache → snooped_at (past_of r) c ≡ Some s → s.claim ≡ Some claim
    → claim.agent ≡ a → (k : IsSettledAs r c s claim) → s.outcome ≡ outcome → IsGetting k.request.kind outcome
    → out.request ≡ k.request → out.number ≡ s.first → shared ≡ k.shared → IsViewBeforeSnoop (past_of r) a c v
    → IsViewAfterSnoop (past_of r) a c (granted_by v out shared)
unfolding grant-by
getting-view r a c s claim out shared outcome v h some there claims mine k e g request number seen view =
    let grant = grant-by r c s claim k in
    let kind : out.request.kind ≡ k.request.kind = ap (λ (q : Request). q.kind) request in
    let makes : s.grant ≡ Some grant = grind arith in
    got-view r a c s claim grant out shared v h some there claims mine k makes mine
    (sym k.line ∙ sym (ap (λ (q : Request). q.line) request)) number (ap is_upgraded e ∙ g.plain) g.kept
    (ap (λ x. asks_line (kind_asks x)) kind ∙ g.asks)
    (ap (λ x. granted (kind_asks x) shared) kind ∙ g.state shared
    ∙ ap (λ b. if kind_owns (kind_asks k.request.kind) then Modified else (if b then Shared else Exclusive)) seen
    ∙ sym (state-by r c s claim k))
    view

pub getting-makes : (r : Run) (c : ℕ) (s : SnoopEnd) (claim : Claim) (k : IsSettledAs r c s claim) (outcome : Outcome)
    → s.outcome ≡ outcome → IsGetting k.request.kind outcome → (grant : Grant) × (s.grant ≡ Some grant)
unfolding grant-by
getting-makes r c s claim k outcome e g = grind arith

-- where nothing is made of it the view stays
idle-view : (r : Run) (a c : ℕ) (s : SnoopEnd) (claim : Claim) (v : AgentView) → Reaches r (c + 1)
    → snooped_at (past_of r) c ≡ Some s → s.claim ≡ Some claim → claim.agent ≡ a → (k : IsSettledAs r c s claim)
    → s.grant ≡ None → is_write_back_kind k.request.kind ≡ false → IsViewBeforeSnoop (past_of r) a c v
    → IsViewAfterSnoop (past_of r) a c v
idle-view r a c s claim v h there claims mine k none kept view =
    let p = past_of r in
    let at : grant_at p c ≡ None = grant-of-snoop p c s there ∙ none in
    let unwon : is_won_below p (c + 1) s.first ≡ false = grind (arith, won-now) in
    lowered-view r a c v v
    (λ line. granted-to-other p a line c (λ grant e. absurd (let no : ⊥ = cc in no)))
    (record {
      states = λ line.
          rw (
            own-kept p a line c s claim k.request.kind there claims k.kind mine kept,
            own-named p a line c s claim there claims mine,
          ) refl;
      fills = λ line. refl;
      in_sets = view.lines.in_sets;
      size = refl;
    }) refl
    (requests-still r a c v v refl (λ out among. elim (cases_Bool (nat_eq s.first out.number)) [
      | inl same ↦
          let is = eqb-true s.first out.number same in
          subst (λ q. is_won_below p (c + 1) q ≡ is_won_below p c q) is (unwon ∙ sym (won-before r c s h there))
      | inr apart ↦
          won-still p c out.number
          (other-snoop p c out.number s there
          (λ e. both_ways (nat_eq s.first out.number) apart (eq-eqb s.first out.number e)))
    ]) view.requests)
    view
  where
    nothing : (b : Bool) → (b && false) ≡ false
    nothing b = grind arith

-- a write-back drops its line
written-view : (r : Run) (a c : ℕ) (s : SnoopEnd) (claim : Claim) (out : OwnRequest) (v : AgentView) → Reaches r (c + 1)
    → snooped_at (past_of r) c ≡ Some s → s.claim ≡ Some claim → claim.agent ≡ a → (k : IsSettledAs r c s claim)
    → s.outcome ≡ Written → out.request ≡ k.request → IsViewBeforeSnoop (past_of r) a c v
    → IsViewAfterSnoop (past_of r) a c (written_by v out)
unfolding makes_grant is_upgraded is_write_back_kind
written-view r a c s claim out v h there claims mine k e request view =
    let p = past_of r in
    let kind : k.request.kind ≡ kinds.WriteBack = grind (arith, written-kind) in
    let none : s.grant ≡ None = grind arith in
    let at : grant_at p c ≡ None = grant-of-snoop p c s there ∙ none in
    let line : out.request.line ≡ claim.line = ap (λ (q : Request). q.line) request ∙ k.line in
    let plain : is_upgraded s.outcome ≡ false = ap is_upgraded e in
    let unwon : is_won_below p (c + 1) s.first ≡ false = won-now r c s h there ∙ ap (λ b. b && is_some s.grant) plain in
    let w : AgentView = written_by v out in
    lowered-view r a c v w
    (λ l. granted-to-other p a l c (λ grant f. absurd (let no : ⊥ = cc in no)))
    (record {
      states = λ l.
          let wb = own-written p a l c s claim k.request.kind there claims k.kind mine
          ∙ ap (λ x. nat_eq claim.line l && is_write_back_kind x) kind in
          let ta = own-taken p a l c s claim there claims mine in
          let nm = own-named p a l c s claim there claims mine in
          state-without v.lines out.request.line l
          ∙ (λ i. if l == line i then Invalid else line_state_by v l)
          ∙ ap (λ b. if b then Invalid else line_state_by v l) (nat_eq-sym l claim.line)
          ∙ whole (nat_eq claim.line l) (line_state_by v l)
          ∙ (λ i. if sym wb i || sym ta i then Invalid
          else (if sym nm i then state_read (line_state_by v l) else line_state_by v l));
      fills = λ l. refl;
      in_sets = in_sets-without v.lines out.request.line view.lines.in_sets;
      size = length-without v.lines out.request.line;
    }) refl
    (requests-still r a c v w refl (λ o among. elim (cases_Bool (nat_eq s.first o.number)) [
      | inl same ↦
          let is = eqb-true s.first o.number same in
          subst (λ q. is_won_below p (c + 1) q ≡ is_won_below p c q) is (unwon ∙ sym (won-before r c s h there))
      | inr apart ↦
          won-still p c o.number
          (other-snoop p c o.number s there
          (λ f. both_ways (nat_eq s.first o.number) apart (eq-eqb s.first o.number f)))
    ]) view.requests)
    view
  where
    whole : (b : Bool) (state : Mesi) → (if b then Invalid else state)
        ≡ (if (b && true) || false then Invalid else (if false then state_read state else state))
    whole b state = grind arith

-- an upgrade without data is won where the agent still holds the line
upgraded-view : (r : Run) (a c : ℕ) (s : SnoopEnd) (claim : Claim) (out : OwnRequest) (v : AgentView)
    → Reaches r (c + 1)
    → 0 < r.plan.cache → snooped_at (past_of r) c ≡ Some s → s.claim ≡ Some claim → claim.agent ≡ a
    → (k : IsSettledAs r c s claim) → s.outcome ≡ Upgraded → out.request ≡ k.request → out.number ≡ s.first
    → IsViewBeforeSnoop (past_of r) a c v → IsViewAfterSnoop (past_of r) a c (upgraded_by v out)
unfolding makes_grant is_got is_upgraded is_write_back_kind grant-by
upgraded-view r a c s claim out v h some there claims mine k e request number view =
    let p = past_of r in
    let kind : k.request.kind ≡ kinds.Upgrade = grind (arith, upgraded-kind) in
    let line : out.request.line ≡ claim.line = ap (λ (q : Request). q.line) request ∙ k.line in
    let grant = grant-by r c s claim k in
    let made : s.grant ≡ (if holds_line p claim.agent claim.line c then Some grant else None) = grind arith in
    let held : is_held (line_state_by v out.request.line) ≡ holds_line p claim.agent claim.line c = grind arith in
    elim (cases_Bool (holds_line p claim.agent claim.line c)) [
      | inr off ↦
          let lost : is_held (line_state_by v out.request.line) ≡ false = held ∙ off in
          rw (lost, upgraded_by)
          (idle-view r a c s claim v h there claims mine k (made ∙ ap (λ b. if b then Some grant else None) off)
          (ap is_write_back_kind kind) view)
      | inl on ↦
          let won : is_held (line_state_by v out.request.line) ≡ true = held ∙ on in
          let makes : s.grant ≡ Some grant = made ∙ ap (λ b. if b then Some grant else None) on in
          let at : grant_at p c ≡ Some grant = grant-of-snoop p c s there ∙ makes in
          let bytes = copies v.lines out.request.line in
          let now : is_won_below p (c + 1) out.number ≡ true = grind (arith, won-now) in
          let still : (x : OwnRequest) → Among x v.outs → x.number ≢ out.number
          → is_won_below p (c + 1) x.number ≡ is_won_below p c x.number =
          λ x _ apart. won-still p c x.number (other-snoop p c x.number s there (λ f. apart (sym f ∙ sym number))) in
          rw (won, upgraded_by)
          (subst (λ l. IsViewAfterSnoop p a c (record v {
            lines = sets_filled v.lines l Modified bytes;
            buffers = with_fill v.buffers l out.number;
            outs = requests_granted out.number (Some bytes) v.outs;
          })) (sym line)
          (granted-view r a c out.number grant Modified bytes (Some bytes) v h some at mine
          (sym (state-by r c s claim k ∙ ap (λ x. if kind_owns (kind_asks x) then Modified
          else (if k.shared then Shared else Exclusive)) kind))
          (λ l _. own-kept p a l c s claim k.request.kind there claims k.kind mine (ap is_write_back_kind kind))
          (λ l. own-named p a l c s claim there claims mine)
          (λ x among. own-won r a c out.number (Some bytes) v x view.requests (sym now) still among) view))
    ]
  where
    whole : (b : Bool) → (b && not false) ≡ b
    whole b = grind arith

-- no grant is made
pub unmade : (r : Run) (c : ℕ) (s : SnoopEnd) (claim : Claim) (k : IsSettledAs r c s claim) (outcome : Outcome)
    → s.outcome ≡ outcome → makes_grant k.request.kind outcome ≡ false → is_upgraded outcome ≡ false → s.grant ≡ None
unmade r c s claim k outcome e makes plain = grind arith

-- the grant says whether the line was seen to be shared
seen-as : (r : Run) (c : ℕ) (s : SnoopEnd) (claim : Claim) (k : IsSettledAs r c s claim) (shared : Bool)
    (outcome : Outcome)
    → ((grant : Grant) → s.grant ≡ Some grant → shared ≡ grant.shared) → s.outcome ≡ outcome
    → IsGetting k.request.kind outcome → shared ≡ k.shared
unfolding grant-by
seen-as r c s claim k shared outcome seen e g = grind arith

-- the snoop end of the agent's own request
pub own-claimed : (r : Run) (a c : ℕ) (s : SnoopEnd) (claim : Claim) (request : Request) (shared : Bool) (v : AgentView)
    → Reaches r (c + 1) → 0 < r.plan.cache → snooped_at (past_of r) c ≡ Some s → s.claim ≡ Some claim → claim.agent ≡ a
    → ((grant : Grant) → s.grant ≡ Some grant → shared ≡ grant.shared) → IsViewBeforeSnoop (past_of r) a c v
    → IsViewAfterSnoop (past_of r) a c (committed v s.first true request shared s.outcome)
own-claimed r a c s claim request shared v h some there claims mine seen view =
    let p = past_of r in
    let k = settled-as r c s claim h there claims in
    let out = own-out r a c c s claim v h there claims mine view.requests k in
    subst (IsViewAfterSnoop p a c)
    (sym (ap (λ o. option_map_or (λ x. own_settled v x shared s.outcome) o v) out.3))
    (by k out.0 out.2 out.4 s.outcome refl)
  where
    by : (k : IsSettledAs r c s claim) (out : OwnRequest) → out.number ≡ s.first → out.request ≡ k.request
        → (outcome : Outcome) → s.outcome ≡ outcome
        → IsViewAfterSnoop (past_of r) a c (own_settled v out shared outcome)
    by k out number same Granted e =
        let g = getting-granted k.request.kind (ap (fits_kind k.request.kind) (sym e) ∙ k.fits) in
        getting-view r a c s claim out shared Granted v h some there claims mine k e g same number
        (seen-as r c s claim k shared Granted seen e g) view
    by k out number same Handed e =
        let g = getting-handed k.request.kind (ap (fits_kind k.request.kind) (sym e) ∙ k.fits) in
        getting-view r a c s claim out true Handed v h some there claims mine k e g same number
        (sym (k.seen_dirty e)) view
    by k out number same Retried e =
        let i = idle-retried k.request.kind (ap (fits_kind k.request.kind) (sym e) ∙ k.fits) in
        idle-view r a c s claim v h there claims mine k (unmade r c s claim k Retried e i.makes i.plain) i.kept view
    by k out number same Deferred e =
        let i = idle-deferred k.request.kind (ap (fits_kind k.request.kind) (sym e) ∙ k.fits) in
        idle-view r a c s claim v h there claims mine k (unmade r c s claim k Deferred e i.makes i.plain) i.kept view
    by k out number same Written e = written-view r a c s claim out v h there claims mine k e same view
    by k out number same Replied e = absurd (never-fits k.request.kind s.outcome (inl e) k.fits)
    by k out number same Failed e = absurd (never-fits k.request.kind s.outcome (inr e) k.fits)
    by k out number same Upgraded e = upgraded-view r a c s claim out v h some there claims mine k e same number view
