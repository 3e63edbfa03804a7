-- The snoop end of another agent's request, of a reply, and a clock without one, in an agent's view.
use Rattle.fsb_agent_run.proofs.Words
use Words.{ℕ, ◌+◌, ◌<◌, ◌≡◌, ◌≢◌, ◌⊎◌, Bool, true, false, not, ◌&&◌, ◌||◌, [], length, Option, Some, None, is_some}
use Words.{nat_eq, refl, sym, ap, subst, ◌∙◌, inl, inr, arith, if◌then◌else◌, ◌==◌, find, option_map_or, cases_Bool}
use Words.{eqb-true, false_from_ne_true, ne_eqb, CacheSets, sets_filled, states, is_at, is_some_and, is_at-some}
use Words.{nat_eq-sym, Kind, Request, Mesi, Exclusive, Invalid, Modified, Shared, after_snoop, asks_line, granted}
use Words.{is_held, Buffered, Claim, Grant, Owing, Past, SnoopEnd, grant_at, holds_line, is_claim_of, is_claim_of_other}
use Words.{is_granted, is_named_by_other, is_owning, is_snooped, is_taken_away, is_written_back, snooped_at}
use Words.{is_owner_request, is_upgraded, Run, past_of, owed, want_of, is_deferral, is_write_back_kind, Outcome}
use Words.{Replied, cancelled_in, purpose_of, fits_getting, fits_kind, fits_upgrade, fits_write_back, map-some}
use Words.{begun-shown, begun-want, cancels, clock-facts, deferred-held, events-may-happen, Reaches, state_granted}
use Words.{state_read, ServesOutstanding, replied-on, replied-outstanding, snoop-below, OwnRequest, AgentView, has_come}
use Words.{line_state_by, request_numbered, requests_granted, buffers_giving, committed, granted_by, is_giver}
use Words.{kind_asks, no_bytes, other_settled, own_settled, sets_lowered, state_snooped, with_fill, length-with_slot}
use Words.{number_asked, HasRequestsOf, fill_count, is_won_below, IsViewAfterSnoop, IsViewBeforeSnoop, is_uncancelled}
use Words.{owed_sent, owed_through}
use Rattle.fsb_encode.specs.declared.request.Kind.TheVariants as kinds
use Rattle.fsb_hazard.specs.Choice.{is_never_held_up}
use Rattle.fsb_line.specs.declared.purpose.Purpose.TheVariants as purposes
use Rattle.fsb_line.proofs.Interface.{modified_is_sole}
use Rattle.fsb_agent_run.proofs.Among.{Among, among-left, filter-among, found-among}
use Rattle.fsb_agent_run.proofs.FillCounts.{count_on, count-promised}
use Rattle.fsb_agent_run.proofs.OutLists.{find-number, out-there, wanted-of}
use Rattle.fsb_agent_run.proofs.OwedApart.{one-line, owed-apart}
use Rattle.fsb_agent_run.proofs.OwedSteps.{owed-there, reaches-less}
use Rattle.fsb_agent_run.proofs.OwnSnoops.{grant-of-snoop, own-won, settled-as}
use Rattle.fsb_agent_run.proofs.SlotStates.{InSets, in_sets-mapped, in_sets-without, state-shared, state-without}
use Rattle.fsb_agent_run.proofs.SnoopSteps.{granted-to-other, granted-view, lowered-view, number-other, outs-apart}
use Rattle.fsb_agent_run.proofs.SnoopSteps.{requests-still}
use Rattle.fsb_agent_run.proofs.WonSteps.{no-snoop, other-snoop, won-known, won-still}

-- what the snoop end of another agent's request says of the lines of an agent
other-named : (p : Past) (a line c : ℕ) (s : SnoopEnd) (claim : Claim) → snooped_at p c ≡ Some s → s.claim ≡ Some claim
    → claim.agent ≢ a → is_named_by_other p a line c ≡ nat_eq claim.line line
unfolding is_named_by_other is_claim_of_other is_some_and
other-named p a line c s claim there claims other = rw (there, claims, ne_eqb claim.agent a other) refl

other-taken : (p : Past) (a line c : ℕ) (s : SnoopEnd) (claim : Claim) (kind : Kind) → snooped_at p c ≡ Some s
    → s.claim ≡ Some claim → s.kind ≡ Some kind → claim.agent ≢ a
    → is_taken_away p a line c ≡ (nat_eq claim.line line && is_owning kind)
unfolding is_taken_away is_snooped is_claim_of_other is_some_and
other-taken p a line c s claim kind there claims is other = rw (there, claims, is, ne_eqb claim.agent a other) refl

other-written : (p : Past) (a line c : ℕ) (s : SnoopEnd) (claim : Claim) → snooped_at p c ≡ Some s
    → s.claim ≡ Some claim
    → claim.agent ≢ a → is_written_back p a line c ≡ false
unfolding is_written_back is_snooped is_claim_of is_some_and
other-written p a line c s claim there claims other = rw (there, claims, ne_eqb claim.agent a other) refl

-- what no snoop end, or one without a claim, says
unclaimed : (p : Past) (a line c : ℕ) (s : SnoopEnd) → snooped_at p c ≡ Some s → s.claim ≡ None
    → ((is_written_back p a line c || is_taken_away p a line c) ≡ false) × (is_named_by_other p a line c ≡ false)
unfolding is_written_back is_taken_away is_named_by_other is_snooped is_some_and
unclaimed p a line c s there none = (rw (there, none) refl, rw (there, none) refl)

unsnooped : (p : Past) (a line c : ℕ) → snooped_at p c ≡ None
    → ((is_written_back p a line c || is_taken_away p a line c) ≡ false) × (is_named_by_other p a line c ≡ false)
unfolding is_written_back is_taken_away is_named_by_other is_some_and
unsnooped p a line c none = (rw none refl, rw none refl)

-- a line that is lowered, and each other one
lowered-shared : (sets : CacheSets) (line other : ℕ) (state : Mesi) → state ≡ Shared → is_held (states sets line) ≡ true
    → states (sets_lowered sets line state) other ≡ (if other == line then Shared else states sets other)
lowered-shared sets line other state e held = rw e (state-shared sets line other held)

lowered-invalid : (sets : CacheSets) (line other : ℕ) (state : Mesi) → state ≡ Invalid
    → states (sets_lowered sets line state) other ≡ (if other == line then Invalid else states sets other)
lowered-invalid sets line other state e = rw e (state-without sets line other)

pub in_sets-lowered : (sets : CacheSets) (line : ℕ) (state : Mesi) → InSets sets → InSets (sets_lowered sets line state)
in_sets-lowered sets line state h1 = grind (arith, in_sets-without, in_sets-mapped)

pub length-lowered : (sets : CacheSets) (line : ℕ) (state : Mesi) → length (sets_lowered sets line state) ≡ length sets
length-lowered sets line state = grind (arith, length-with_slot)

-- a line that is lowered to what it is
pub lowered-same : (sets : CacheSets) (line other : ℕ) (state : Mesi) → states sets line ≡ state
    → states (sets_lowered sets line state) other ≡ states sets other
lowered-same sets line other state h1 = grind (arith, state-without, state-shared)

-- bytes that are owed or promised to another add no fill
fills-giving : (v : AgentView) (line number other : ℕ) (gives : Bool)
    → count_on other (elim gives as (λ x. Buffered) [ true ↦ buffers_giving v line number | false ↦ v.buffers ]).fills
    ≡ fill_count v other
fills-giving v line number other false = refl
fills-giving v line number other true = elim (cases_Bool (has_come v line)) [
  | inl come ↦ rw (come, buffers_giving) refl
  | inr away ↦ rw (away, buffers_giving) (count-promised other line number v.buffers.fills)
]

-- a write-back's line is held by nobody else
writes-alone : (r : Run) (a c : ℕ) (s : SnoopEnd) (claim : Claim) → Reaches r (c + 1)
    → snooped_at (past_of r) c ≡ Some s
    → s.claim ≡ Some claim → s.kind ≡ Some kinds.WriteBack → claim.agent ≢ a
    → holds_line (past_of r) a claim.line c ≡ false
unfolding purpose_of
writes-alone r a c s claim h there claims kind other =
    let p = past_of r in
    let long = h.long in
    let tied = (events-may-happen r claim.line c [] h.timely h.bounds (omega arith)).1 in
    let settled = (clock-facts r claim.line c h.timely h.bounds (omega arith)).settles.settled s claim there
    claims refl in
    let fits = settled.fits in
    let own = fits.claimed in
    let who : claim ≡ record { first = s.first; agent = fits.agent; line = claim.line } = cc in
    let agent : claim.agent ≡ fits.agent = ap (λ (x : Claim). x.agent) who in
    let known = fits.known in
    let is : fits.kind ≡ kinds.WriteBack = cc in
    let purpose = sym settled.known ∙ ap purpose_of is in
    let writes : settled.purpose ≡ purposes.WriteBack = (let e = purpose in cc) in
    let ask = tied.tied.opened fits.agent _ settled.opened in
    let suited = tied.ordered.suited fits.agent _ ask in
    let modified = rw writes at suited in
    let sole = modified_is_sole _ modified in
    let alone = tied.ordered.alone fits.agent sole a (λ e. other (agent ∙ sym e)) in
    sym (tied.tied.held a) ∙ alone

-- what a snoop end makes of another agent's state
abbrev told_by : Kind → Mesi → Mesi
told_by kind state = if is_owning kind then Invalid else state_read state

read-held : (state : Mesi) → is_held state ≡ true → state_read state ≡ Shared
unfolding state_read
read-held state h1 = grind arith

read-invalid : state_read Invalid ≡ Invalid
unfolding state_read
read-invalid = refl

-- the line of a request that is snooped, by its kind
snooped-line : (sets : CacheSets) (line other : ℕ) (kind : Kind) → is_write_back_kind kind ≡ false → kind ≢ kinds.Reply
    → states (sets_lowered sets line (after_snoop (states sets line) (kind_asks kind))) other
    ≡ (if other == line then told_by kind (states sets line) else states sets other)
unfolding is_owning is_write_back_kind
snooped-line sets line other kind h1 h2 =
    grind (arith, state-without, lowered-shared, read-held, lowered-invalid, read-invalid)

never-replied : (kind : Kind) → fits_kind kind Replied ≡ true → ⊥
unfolding fits_kind fits_getting fits_upgrade fits_write_back
never-replied kind h1 = grind arith

snooped-as : (state : Mesi) (kind : Kind) (outcome : Outcome) → fits_kind kind outcome ≡ true
    → state_snooped state kind outcome ≡ after_snoop state (kind_asks kind)
unfolding fits_kind
snooped-as state kind outcome h1 = grind (arith, never-replied)

no-reply-fits : (kind : Kind) (outcome : Outcome) → fits_kind kind outcome ≡ true → kind ≢ kinds.Reply
unfolding fits_kind
no-reply-fits kind outcome e same = let e' = rw same at e in cc

write-back : (kind : Kind) → is_write_back_kind kind ≡ true → kind ≡ kinds.WriteBack
unfolding is_write_back_kind
write-back kind h1 = grind arith

at-line : (l line : ℕ) (f : Mesi → Mesi) (state : ℕ → Mesi)
    → (if l == line then f (state line) else state l) ≡ (if l == line then f (state l) else state l)
at-line l line f state = grind arith

-- the snoop end of another agent's request
pub other-claimed : (r : Run) (a c number : ℕ) (s : SnoopEnd) (claim : Claim) (request : Request) (shared : Bool)
    (v : AgentView) → Reaches r (c + 1) → snooped_at (past_of r) c ≡ Some s → s.claim ≡ Some claim → claim.agent ≢ a
    → want_of (past_of r) claim.agent s.first ≡ Some request → IsViewBeforeSnoop (past_of r) a c v
    → IsViewAfterSnoop (past_of r) a c (committed v number false request shared s.outcome)
unfolding is_owning
other-claimed r a c number s claim request shared v h there claims other want view =
    let p = past_of r in
    let k = settled-as r c s claim h there claims in
    let wanted = k.want in
    let same : k.request ≡ request = cc in
    let line : request.line ≡ claim.line = ap (λ (q : Request). q.line) (sym same) ∙ k.line in
    let kind : s.kind ≡ Some request.kind = k.kind ∙ ap (λ (q : Request). Some q.kind) same in
    let fits : fits_kind request.kind s.outcome ≡ true = grind arith in
    let w : AgentView = other_settled v number request s.outcome in
    let st = line_state_by v request.line in
    lowered-view r a c v w
    (λ l. granted-to-other p a l c (λ grant e.
    let made = k.granted in
    let gives : s.grant ≡ Some grant = sym (grant-of-snoop p c s there) ∙ e in
    λ mine. other (ap (λ (g : Grant). g.agent) (made-by _ _ grant (sym made ∙ gives)) ∙ mine)))
    (record {
      states = λ l.
          let nm = other-named p a l c s claim there claims other in
          let ta = other-taken p a l c s claim request.kind there claims kind other in
          let wb = other-written p a l c s claim there claims other in
          ap (λ x. states (sets_lowered v.lines request.line x) l) (snooped-as st request.kind s.outcome fits)
          ∙ by-kind l line kind fits (cases_Bool (is_write_back_kind request.kind))
          ∙ (λ i. if sym wb i || sym ta i then Invalid
          else (if sym nm i then state_read (line_state_by v l) else line_state_by v l));
      fills = λ l. fills-giving v request.line number l (is_giver v request s.outcome);
      in_sets = in_sets-lowered v.lines request.line _ view.lines.in_sets;
      size = length-lowered v.lines request.line _;
    }) refl
    (requests-still r a c v w refl (λ out among.
    won-still p c out.number (other-snoop p c out.number s there
    (number-other r a c c s v out h there
    (λ x e. (let is : claim ≡ x = cc in λ mine. other (ap (λ (y : Claim). y.agent) is ∙ mine))) view.requests among)))
    view.requests)
    view
  where
    made-by : (b : Bool) (mine grant : Grant) → (if b then Some mine else None) ≡ Some grant → mine ≡ grant
    made-by b mine grant h1 = grind arith

    told : (x y : Bool) (state : Mesi) → (if x then (if y then Invalid else state_read state) else state)
        ≡ (if false || (x && y) then Invalid else (if x then state_read state else state))
    told x y state = grind arith

    by-kind : (l : ℕ) → request.line ≡ claim.line → s.kind ≡ Some request.kind → fits_kind request.kind s.outcome ≡ true
        → (is_write_back_kind request.kind ≡ true) ⊎ (is_write_back_kind request.kind ≡ false)
        → states (sets_lowered v.lines request.line
        (after_snoop (line_state_by v request.line) (kind_asks request.kind))) l
        ≡ (if false || (nat_eq claim.line l && is_owning request.kind) then Invalid
        else (if nat_eq claim.line l then state_read (line_state_by v l) else line_state_by v l))
    by-kind l line kind fits (inr plain) =
        snooped-line v.lines request.line l request.kind plain (no-reply-fits request.kind s.outcome fits)
        ∙ at-line l request.line (told_by request.kind) (λ x. line_state_by v x)
        ∙ ap (λ b. if b then told_by request.kind (line_state_by v l) else line_state_by v l)
        (nat_eq-sym l request.line ∙ ap (λ x. nat_eq x l) line)
        ∙ told (nat_eq claim.line l) (is_owning request.kind) (line_state_by v l)
    by-kind l line kind fits (inl writes) =
        let is = write-back request.kind writes in
        let alone = writes-alone r a c s claim h there claims (kind ∙ ap Some is) other in
        let none : line_state_by v request.line ≡ Invalid = grind arith in
        ap (λ x. states
        (sets_lowered v.lines request.line (after_snoop (line_state_by v request.line) (kind_asks x))) l) is
        ∙ lowered-same v.lines request.line l (line_state_by v request.line) refl
        ∙ (elim (cases_Bool (nat_eq claim.line l)) [
          | inr off ↦ rw off refl
          | inl on ↦
              let here : line_state_by v l ≡ Invalid = grind arith in
              rw (on, is) (here ∙ sym read-invalid ∙ ap state_read (sym here))
        ])

-- a view without a snoop end, or with one that grants it nothing and takes nothing
pub unclaimed-view : (r : Run) (a c : ℕ) (v w : AgentView) → Reaches r (c + 1)
    → ((line : ℕ) → is_granted (past_of r) a line c ≡ false)
    → ((line : ℕ) → ((is_written_back (past_of r) a line c || is_taken_away (past_of r) a line c) ≡ false)
    × (is_named_by_other (past_of r) a line c ≡ false))
    → ((out : OwnRequest) → Among out v.outs
    → is_won_below (past_of r) (c + 1) out.number ≡ is_won_below (past_of r) c out.number)
    → ((line : ℕ) → line_state_by w line ≡ line_state_by v line) → ((line : ℕ) → fill_count w line ≡ fill_count v line)
    → InSets w.lines → length w.lines ≡ length v.lines → w ≡ record v { lines = w.lines; buffers = w.buffers }
    → IsViewBeforeSnoop (past_of r) a c v → IsViewAfterSnoop (past_of r) a c w
unclaimed-view r a c v w h none still won states fills in_sets size same view =
    grind (arith, lowered-view, requests-still)

-- a clock without a snoop end, or with one that makes nothing of anybody's request
pub quiet-view : (r : Run) (a c : ℕ) (v : AgentView) → Reaches r (c + 1)
    → ((s : SnoopEnd) → snooped_at (past_of r) c ≡ Some s → (s.claim ≡ None) × (s.grant ≡ None))
    → IsViewBeforeSnoop (past_of r) a c v → IsViewAfterSnoop (past_of r) a c v
unfolding grant_at
quiet-view r a c v h quiet view = by (snooped_at (past_of r) c) refl
  where
    by : (o : Option SnoopEnd) → snooped_at (past_of r) c ≡ o → IsViewAfterSnoop (past_of r) a c v
    by None e =
        let p = past_of r in
        unclaimed-view r a c v v h
        (λ line. granted-to-other p a line c (λ grant f. absurd (let g = rw e at f in let no : ⊥ = cc in no)))
        (λ line. unsnooped p a line c e)
        (λ out _. won-still p c out.number (no-snoop p c out.number e))
        (λ line. refl) (λ line. refl) view.lines.in_sets refl refl view
    by (Some s) e =
        let p = past_of r in
        let k = quiet s e in
        unclaimed-view r a c v v h
        (λ line. granted-to-other p a line c (λ grant f.
        absurd (let g : s.grant ≡ Some grant = sym (grant-of-snoop p c s e) ∙ f in
        let none = k.1 in let no : ⊥ = cc in no)))
        (λ line. unclaimed p a line c s e k.0)
        (λ out among. won-still p c out.number (other-snoop p c out.number s e
        (number-other r a c c s v out h e (λ claim f. absurd (let none = k.0 in let no : ⊥ = cc in no))
        view.requests among)))
        (λ line. refl) (λ line. refl) view.lines.in_sets refl refl view

-- the snoop end of a reply to another agent
pub other-replied : (r : Run) (a c number : ℕ) (s : SnoopEnd) (grant : Grant) (request : Request) (shared : Bool)
    (v : AgentView) → Reaches r (c + 1) → snooped_at (past_of r) c ≡ Some s → s.claim ≡ None → s.grant ≡ Some grant
    → grant.agent ≢ a → IsViewBeforeSnoop (past_of r) a c v
    → IsViewAfterSnoop (past_of r) a c (committed v number false request shared s.outcome)
other-replied r a c number s grant request shared v h there none makes other view =
    let p = past_of r in
    let replied = (replied-on r c s grant h there none makes).replied in
    let w : AgentView = other_settled v number request Replied in
    subst (λ o. IsViewAfterSnoop p a c (committed v number false request shared o)) (sym replied)
    (unclaimed-view r a c v w h
    (λ line. granted-to-other p a line c (λ g f.
    let gives : s.grant ≡ Some g = sym (grant-of-snoop p c s there) ∙ f in
    let same : grant ≡ g = cc in
    λ mine. other (ap (λ (x : Grant). x.agent) same ∙ mine)))
    (λ line. unclaimed p a line c s there none)
    (λ out among. won-still p c out.number (other-snoop p c out.number s there
    (number-other r a c c s v out h there (λ claim f. absurd (let no : ⊥ = cc in no)) view.requests among)))
    (λ line. lowered-same v.lines request.line line (line_state_by v request.line) refl)
    (λ line. fills-giving v request.line number line (is_giver v request Replied))
    (in_sets-lowered v.lines request.line _ view.lines.in_sets)
    (length-lowered v.lines request.line _) refl view)

-- the request of the agent's that a reply serves
pub record IsServed (r : Run) (a c n number : ℕ) (grant : Grant) (v : AgentView) : Type 0 where
  pub serves : ServesOutstanding r c grant
  pub first : number ≡ serves.end.first
  pub out : OwnRequest
  pub among : Among out v.outs
  pub numbered : out.number ≡ number
  pub found : request_numbered number v.outs ≡ Some out
  pub line : out.request.line ≡ grant.line
  pub owns : grant.owns ≡ is_owning out.request.kind
  pub plain : is_never_held_up out.request.kind ≡ false

-- the request that agent a has outstanding on a line, by its number
pub asked-number : (p : Past) (a c line number : ℕ) → number_asked p a c line ≡ Some number
    → (owing : Owing) × Among owing (owed p a c) × (owing.claim.line ≡ line) × (owing.claim.first ≡ number)
unfolding number_asked
asked-number p a c line number e =
    let k = map-some (λ (owing : Owing). owing.claim.first)
    (find (λ owing. nat_eq owing.claim.line line) (owed p a c)) number e in
    let found = found-among (λ (owing : Owing). nat_eq owing.claim.line line) k.0 (owed p a c) k.1 in
    (k.0, found.0, eqb-true k.0.claim.line line found.1, k.2)

pub served-out : (r : Run) (a c n number : ℕ) (grant : Grant) (v : AgentView) → Reaches r (c + 1)
    → ServesOutstanding r c grant → grant.agent ≡ a → number_asked (past_of r) a c grant.line ≡ Some number
    → HasRequestsOf (past_of r) a n (owed_through (past_of r) a c) v → IsServed r a c n number grant v
unfolding owed_through owed_sent is_uncancelled is_owner_request is_some_and
served-out r a c n number grant v h serves mine asked requests =
    let p = past_of r in
    let long = h.long in
    let q : ℕ = serves.end.first in
    let before = serves.before in
    let early : Reaches r c = reaches-less r c (c + 1) (omega arith) h in
    let above = serves.snooped.above in
    let want = begun-want r q serves.claim h.timely h.bounds (omega arith) serves.begun in
    let shown = begun-shown r q serves.claim h.timely h.bounds (omega arith) want in
    let owing = owed-there r c q serves.claim early serves.begun serves.early serves.out in
    let agent : serves.claim.agent ≡ a = serves.agent ∙ mine in
    let among : Among owing.0 (owed p a c) = subst (λ b. Among owing.0 (owed p b c)) agent owing.1 in
    let other = asked-number p a c grant.line number asked in
    let line : owing.0.claim.line ≡ grant.line = ap (λ (x : Claim). x.line) owing.2 ∙ serves.line in
    let same : other.0 ≡ owing.0 = one-line p (owed p a c) other.0 owing.0 (owed-apart r a c early) other.1 among
    (other.2 ∙ sym line) in
    let first : owing.0.claim.first ≡ q = ap (λ (x : Claim). x.first) owing.2 ∙ want.first in
    let is : number ≡ q = sym other.3 ∙ ap (λ (o : Owing). o.claim.first) same ∙ first in
    let kept : is_at (cancelled_in p c) owing.0.claim.first ≡ false =
    false_from_ne_true (is_at (cancelled_in p c) owing.0.claim.first) (λ t.
    let at = cancels r c q (omega arith) (is_at-some (cancelled_in p c) owing.0.claim.first t ∙ ap Some first) in
    let late = at.0 in
    omega arith) in
    let through : Among owing.0 (owed_through p a c) = filter-among (is_uncancelled p c) owing.0 (owed_sent p a c)
    (among-left owing.0 (owed p a c) _ among) (ap not kept) in
    let found = out-there p a n (owed_through p a c) v owing.0 requests through in
    let numbered : found.0.number ≡ q = ap (λ (o : Owing). o.claim.first) found.2 ∙ first in
    let here = find-number p a found.0 v.outs (outs-apart r a c n v h requests) found.1 in
    let wanted = wanted-of p a n (owed_through p a c) v found.0 requests found.1 in
    let mine_want : want_of p a q ≡ Some want.request = grind arith in
    let told : want_of p a q ≡ Some found.0.request = ap (want_of p a) (sym numbered) ∙ wanted in
    let request : found.0.request ≡ want.request = (let e = sym told ∙ mine_want in cc) in
    record {
      serves = serves;
      first = is;
      out = found.0;
      among = found.1;
      numbered = numbered ∙ sym is;
      found = subst (λ m. request_numbered m v.outs ≡ Some found.0) (numbered ∙ sym is) here;
      line = ap (λ (o : Owing). o.claim.line) found.2 ∙ line;
      owns = serves.owns ∙ ap is_owner_request shown ∙ ap (λ (x : Request). is_owning x.kind) (sym request);
      plain = ap (λ (x : Request). is_never_held_up x.kind) request
          ∙ deferred-held r serves.clock serves.number serves.end want.request h.timely serves.snooped shown
          serves.deferred;
    }

deferred-plain : (outcome : Outcome) → is_deferral outcome ≡ true → is_upgraded outcome ≡ false
unfolding is_deferral is_upgraded
deferred-plain outcome h1 = grind arith

-- the state of a line that a reply grants
replied-state : (kind : Kind) (shared : Bool) → is_never_held_up kind ≡ false
    → (asks_line (kind_asks kind) ≡ true)
    × (granted (kind_asks kind) shared ≡ (if is_owning kind then Modified else (if shared then Shared else Exclusive)))
unfolding is_owning
replied-state kind shared h1 = grind arith

-- the snoop end of the reply to the agent's deferred request
pub own-replied : (r : Run) (a c number : ℕ) (s : SnoopEnd) (grant : Grant) (request : Request) (v : AgentView)
    → Reaches r (c + 1) → 0 < r.plan.cache → snooped_at (past_of r) c ≡ Some s → s.claim ≡ None → s.grant ≡ Some grant
    → grant.agent ≡ a → number_asked (past_of r) a c grant.line ≡ Some number → IsViewBeforeSnoop (past_of r) a c v
    → IsViewAfterSnoop (past_of r) a c (committed v number true request grant.shared s.outcome)
unfolding state_granted
own-replied r a c number s grant request v h some there none makes mine asked view =
    let p = past_of r in
    let long = h.long in
    let replied = (replied-on r c s grant h there none makes).replied in
    let k = served-out r a c c number grant v h (replied-outstanding r c s grant h there none makes) mine asked
    view.requests in
    let out : OwnRequest = k.out in
    let at : grant_at p c ≡ Some grant = grant-of-snoop p c s there ∙ makes in
    let state = replied-state out.request.kind grant.shared k.plain in
    let told : granted (kind_asks out.request.kind) grant.shared ≡ state_granted grant = grind arith in
    let before = k.serves.before in
    let known = snoop-below r c k.serves.clock k.serves.end h (omega arith) k.serves.snooped.tied.there in
    let unwon : is_won_below p (c + 1) out.number ≡ false =
    ap (is_won_below p (c + 1)) (k.numbered ∙ k.first) ∙ won-known p (c + 1) k.serves.end.first k.serves.end known
    ∙ ap (λ b. b && is_some k.serves.end.grant) (deferred-plain k.serves.end.outcome k.serves.deferred) in
    let still : (x : OwnRequest) → Among x v.outs → x.number ≢ out.number
    → is_won_below p (c + 1) x.number ≡ is_won_below p c x.number =
    λ x among _. won-still p c x.number (other-snoop p c x.number s there
    (number-other r a c c s v x h there (λ claim f. absurd (let no : ⊥ = cc in no)) view.requests among)) in
    subst (λ o. IsViewAfterSnoop p a c (committed v number true request grant.shared o)) (sym replied)
    (subst (IsViewAfterSnoop p a c)
    (sym (ap (λ o. option_map_or (λ x. own_settled v x grant.shared Replied) o v) k.found))
    (rw (state.0, granted_by) (subst (λ l. IsViewAfterSnoop p a c (record v {
      lines = sets_filled v.lines l (granted (kind_asks out.request.kind) grant.shared) no_bytes;
      buffers = with_fill v.buffers l out.number;
      outs = requests_granted out.number None v.outs;
    })) (sym k.line)
    (granted-view r a c out.number grant (granted (kind_asks out.request.kind) grant.shared) no_bytes None v h
    some at mine told
    (λ l _. (unclaimed p a l c s there none).0)
    (λ l. (unclaimed p a l c s there none).1)
    (λ x among. own-won r a c out.number None v x view.requests (sym unwon) still among) view))))
