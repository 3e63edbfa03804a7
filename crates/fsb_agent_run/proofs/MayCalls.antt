-- A view of an agent may see the snoop ends and ends of a timely run.
use Rattle.fsb_agent_run.proofs.Words
use Words.{ℕ, ◌+◌, ◌<◌, ◌≡◌, ◌≢◌, Bool, true, false, not, ◌||◌, Option, Some, None, length, nat_lt, refl, sym, ap, ◌∙◌}
use Words.{arith, eq-eqb, is_some_and, Mesi, is_modified, Outcome, Deferred, Written, Upgraded, Claim, Grant, Past}
use Words.{SnoopEnd, begun_at, grant_at, is_granted, snooped_at, is_dirty, Run, past_of, Timely, KeepsBounds}
use Words.{cancelled_in, clock-facts, OwnRequest, AgentView, line_state_by, may_arrive, may_end_upgrade, may_give_up}
use Words.{request_numbered, may_be_settled, may_commit, owed_count, IsSound, HasBytesOwed, is_awaited}
use Rattle.std.specs.Prelude.{is_some}
use Rattle.fsb_agent_run.proofs.AwaitedFills.{HasFillsOf}
use Rattle.fsb_agent_run.proofs.OwnEvents.{IsOwnEnd, IsOwnSnoopEnd}
use Rattle.fsb_agent_run.proofs.BufferCounts.{fill-counted}
use Rattle.fsb_agent_run.proofs.FewOwed.{owed-before}
use Rattle.fsb_agent_run.proofs.FillsTold.{fill_out}
use Rattle.fsb_agent_run.proofs.GivenBytes.{same-first}
use Rattle.fsb_agent_run.proofs.OwnEnds.{awaited-at-end, snooped-before, ungranted-unawaited, written-dirty}
use Rattle.fsb_agent_run.proofs.OwnLines.{open-unawaited, own-claim, own-grant, settled-unawaited}

pub granted-as : (p : Past) (a n c : ℕ) (v : AgentView) (out : OwnRequest) → IsSound v → HasFillsOf p a n c v
    → request_numbered out.number v.outs ≡ Some out → out.granted ≡ is_awaited p a out.request.line n c
granted-as p a n c v out sound fills found =
    sym (fill_out v out sound found)
    ∙ fill-counted out.request.line v.buffers.fills (is_awaited p a out.request.line n c) (fills.fills out.request.line)

few-owed : (r : Run) (a c : ℕ) (s : SnoopEnd) (v : AgentView) → Timely r → KeepsBounds r.plan → c < length r.trace
    → snooped_at (past_of r) c ≡ Some s → HasBytesOwed (past_of r) a c (c + 1) c v
    → nat_lt (owed_count v.buffers) 8 ≡ true
few-owed r a c s v h bounds l there owed = grind (arith, owed-before)

-- what an agent writes back it has Modified
settled-as : (r : Run) (a c : ℕ) (s : SnoopEnd) (out : OwnRequest) (state : Mesi) → Timely r → KeepsBounds r.plan
    → c < length r.trace → IsOwnSnoopEnd (past_of r) a c s out
    → is_modified state ≡ is_dirty (past_of r) a out.request.line c → may_be_settled s.outcome state ≡ true
settled-as r a c s out state h bounds l k dirty = by s.outcome refl
  where
    written : s.outcome ≡ Written → (o : Option Claim) → s.claim ≡ o → is_dirty (past_of r) a out.request.line c ≡ true
    written e None claims =
        let g = own-grant a out.request.line s claims k.settles in
        let replied = (clock-facts r out.request.line c h bounds l).settles.replied s g.0 k.there claims g.1 g.3 in
        absurd (let both = sym e ∙ replied.replied in let no : ⊥ = cc in no)
    written e (Some claim) claims =
        let own = own-claim a out.request.line s claim claims k.settles in
        written-dirty r a out.request.line c s claim h bounds l k.there claims own.0 own.1 e

    by : (outcome : Outcome) → s.outcome ≡ outcome → may_be_settled outcome state ≡ true
    by outcome h1 = grind (arith, written)

pub own-may : (r : Run) (a c : ℕ) (s : SnoopEnd) (out : OwnRequest) (v : AgentView) → Timely r → KeepsBounds r.plan
    → c < length r.trace → IsOwnSnoopEnd (past_of r) a c s out → IsSound v
    → request_numbered out.number v.outs ≡ Some out
    → is_modified (line_state_by v out.request.line) ≡ is_dirty (past_of r) a out.request.line c
    → HasFillsOf (past_of r) a c c v → HasBytesOwed (past_of r) a c (c + 1) c v
    → may_commit v out.number true s.outcome ≡ true
own-may r a c s out v h bounds l k sound found dirty fills owed =
    let few = few-owed r a c s v h bounds l k.there owed in
    let open_one : out.granted ≡ false =
    granted-as (past_of r) a c c v out sound fills found
    ∙ settled-unawaited r a out.request.line c s h bounds l k.there k.settles in
    let settles = settled-as r a c s out (line_state_by v out.request.line) h bounds l k dirty in
    rw (few, found, open_one, settles) refl

pub other-may : (r : Run) (a c number : ℕ) (s : SnoopEnd) (v : AgentView) → Timely r → KeepsBounds r.plan
    → c < length r.trace → snooped_at (past_of r) c ≡ Some s → HasBytesOwed (past_of r) a c (c + 1) c v
    → may_commit v number false s.outcome ≡ true
other-may r a c number s v h bounds l there owed = few-owed r a c s v h bounds l there owed

-- an own snoop end that makes a grant grants the line to the agent
settled-granted : (r : Run) (a line t : ℕ) (s : SnoopEnd) (grant : Grant) (out : OwnRequest) → Timely r
    → KeepsBounds r.plan
    → t < length r.trace → IsOwnSnoopEnd (past_of r) a t s out → s.grant ≡ Some grant
    → is_granted (past_of r) a out.request.line t ≡ true
unfolding is_granted grant_at is_some_and
settled-granted r a line t s grant out h bounds l k made = by s.claim refl
  where
    from : grant.agent ≡ a → grant.line ≡ out.request.line → is_granted (past_of r) a out.request.line t ≡ true
    from agent names = rw (k.there, made, eq-eqb grant.agent a agent, eq-eqb grant.line out.request.line names) refl

    by : (o : Option Claim) → s.claim ≡ o → is_granted (past_of r) a out.request.line t ≡ true
    by None claims =
        let g = own-grant a out.request.line s claims k.settles in
        let both : Some g.0 ≡ Some grant = sym g.1 ∙ made in
        let is : g.0 ≡ grant = cc in
        from (ap (λ (x : Grant). x.agent) (sym is) ∙ g.2) (ap (λ (x : Grant). x.line) (sym is) ∙ g.3)
    by (Some claim) claims =
        let own = own-claim a out.request.line s claim claims k.settles in
        let facts = clock-facts r claim.line t h bounds l in
        let fits = (facts.settles.settled s claim k.there claims refl).fits in
        let x : Grant =
        record { first = s.first; agent = fits.agent; line = claim.line; owns = fits.owns; shared = fits.shared } in
        let is : x ≡ grant = grind arith in
        from (ap (λ (y : Grant). y.agent) (sym is)
        ∙ sym (same-first (past_of r) claim.line t s claim claims fits).1 ∙ own.0)
        (ap (λ (y : Grant). y.line) (sym is) ∙ own.1)

granted-at-end : (r : Run) (a c : ℕ) (s : SnoopEnd) (grant : Grant) (out : OwnRequest) (v : AgentView) → Timely r
    → KeepsBounds r.plan → c < length r.trace → IsOwnEnd (past_of r) a c s out → s.grant ≡ Some grant → IsSound v
    → request_numbered out.number v.outs ≡ Some out → HasFillsOf (past_of r) a (c + 1) c v → out.granted ≡ true
granted-at-end r a c s grant out v h bounds l k made sound found fills =
    let gap = snooped-before r c k.at s h l k.snooped.there k.ends in
    granted-as (past_of r) a (c + 1) c v out sound fills found
    ∙ awaited-at-end r a out.request.line c k.at s h l k.snooped.there
    (settled-granted r a out.request.line k.at s grant out h bounds (omega arith) k.snooped made) k.ends

some-grant : (o : Option Grant) → is_some o ≡ true → (grant : Grant) × (o ≡ Some grant)
some-grant o h1 = grind arith

pub arrives-may : (r : Run) (a c : ℕ) (s : SnoopEnd) (out : OwnRequest) (v : AgentView) → Timely r → KeepsBounds r.plan
    → c < length r.trace → IsOwnEnd (past_of r) a c s out → is_some s.grant ≡ true → IsSound v
    → request_numbered out.number v.outs ≡ Some out → HasFillsOf (past_of r) a (c + 1) c v
    → may_arrive v out.number ≡ true
arrives-may r a c s out v h bounds l k some sound found fills =
    let g = some-grant s.grant some in
    let granted = granted-at-end r a c s g.0 out v h bounds l k g.1 sound found fills in
    rw found granted

ungranted-at-end : (r : Run) (a c : ℕ) (s : SnoopEnd) (out : OwnRequest) (v : AgentView) → Timely r
    → KeepsBounds r.plan → c < length r.trace → IsOwnEnd (past_of r) a c s out → s.grant ≡ None → s.outcome ≢ Deferred
    → IsSound v → request_numbered out.number v.outs ≡ Some out → HasFillsOf (past_of r) a (c + 1) c v
    → out.granted ≡ false
ungranted-at-end r a c s out v h bounds l k none plain sound found fills =
    granted-as (past_of r) a (c + 1) c v out sound fills found ∙ ungranted-unawaited r a c s out h bounds l k none plain

pub upgrade-may : (r : Run) (a c : ℕ) (s : SnoopEnd) (out : OwnRequest) (v : AgentView) → Timely r → KeepsBounds r.plan
    → c < length r.trace → IsOwnEnd (past_of r) a c s out → s.outcome ≡ Upgraded → IsSound v
    → request_numbered out.number v.outs ≡ Some out → HasFillsOf (past_of r) a (c + 1) c v
    → is_some out.kept ≡ is_some s.grant → may_end_upgrade v out.number ≡ true
upgrade-may r a c s out v h bounds l k upgraded sound found fills kept = rw found (by s.grant refl)
  where
    last : (b : Bool) → (not b || true) ≡ true
    last b = grind arith

    by : (o : Option Grant) → s.grant ≡ o → (not out.granted || is_some out.kept) ≡ true
    by None none =
        let open_one = ungranted-at-end r a c s out v h bounds l k none
        (λ e. let both = sym upgraded ∙ e in let no : ⊥ = cc in no) sound found fills in
        rw open_one refl
    by (Some grant) made = grind arith

pub given-up-may : (r : Run) (a c : ℕ) (s : SnoopEnd) (out : OwnRequest) (v : AgentView) → Timely r → KeepsBounds r.plan
    → c < length r.trace → IsOwnEnd (past_of r) a c s out → s.grant ≡ None → s.outcome ≢ Deferred → IsSound v
    → request_numbered out.number v.outs ≡ Some out → HasFillsOf (past_of r) a (c + 1) c v
    → may_give_up v out.number ≡ true
given-up-may r a c s out v h bounds l k none plain sound found fills =
    rw found (ap not (ungranted-at-end r a c s out v h bounds l k none plain sound found fills))

pub cancelled-may : (r : Run) (a c : ℕ) (claim : Claim) (out : OwnRequest) (v : AgentView) → Timely r
    → KeepsBounds r.plan
    → c < length r.trace → cancelled_in (past_of r) c ≡ Some claim.first → claim.agent ≡ a
    → claim.line ≡ out.request.line → IsSound v → begun_at (past_of r) claim.first ≡ Some claim
    → request_numbered out.number v.outs ≡ Some out → HasFillsOf (past_of r) a c c v → may_give_up v out.number ≡ true
cancelled-may r a c claim out v h bounds l cancels agent names sound begun found fills =
    let k = (clock-facts r out.request.line c h bounds l).begins.cancelled claim.first claim cancels begun names in
    let unawaited = open-unawaited r claim.agent out.request.line c k.0 h bounds (omega arith) k.1 in
    let open_one : out.granted ≡ false = grind (arith, granted-as) in
    rw found (ap not open_one)
