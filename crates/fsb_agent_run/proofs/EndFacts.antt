-- What ends for an agent at a clock: which request of its is not outstanding any more, and what comes.
use Rattle.fsb_agent_run.proofs.Words
use Words.{ℕ, ◌+◌, ◌<◌, ◌≤◌, ◌≡◌, ◌⊎◌, Bool, true, false, not, ◌&&◌, ◌||◌, ◌++◌, length, Some, None, nat_eq, refl, sym}
use Words.{ap, subst, ◌∙◌, inl, inr, arith, if◌then◌else◌, filter, option_map, and_from, eq-eqb, eqb-true}
use Words.{false_from_ne_true, ne_eqb, or_cases, or_left, or_right, filter-append, is_at, is_some_and}
use Words.{first_where-found, is_at-from, is_at-some, Kind, Request, kind_owns, Claim, Grant, Owing, Past, SnoopEnd}
use Words.{begun_at, grant_at, is_end_at, is_granted, is_owning, snooped_at, is_last_clock, is_snoop_of, Run, past_of}
use Words.{owed, want_of, is_deferral, cancelled_in, snoop_end_below, answers-in-order, begun-want, cancels}
use Words.{ended-number, grant-first, one-ends, orderly-whole, same-both, snooped-by, tied-snoop, Reaches}
use Words.{cancelled-last, ending-serves, ends-last, last-outstanding, last-says, snooped-outstanding, OwnRequest}
use Words.{AgentView, request_numbered, kind_asks, number_asked, EndsFor, NothingEndsFor, number_claimed, number_left}
use Words.{number_replied, HasRequestsOf, IsComing, owing_by, owings_begun, is_uncancelled, owed_sent, owed_through}
use Rattle.fsb_agent_run.proofs.Among.{Among, among-found, among-left, filter-all, filter-among, filter-same}
use Rattle.fsb_agent_run.proofs.Among.{filter-two}
use Rattle.fsb_agent_run.proofs.OtherSnoops.{asked-number, served-out}
use Rattle.fsb_agent_run.proofs.OutLists.{find-number, out-there, wanted-of}
use Rattle.fsb_agent_run.proofs.OwedApart.{one-line, owed-apart}
use Rattle.fsb_agent_run.proofs.OwedSteps.{begun-is, owed-more, owed-there, owing-is, reaches-less, stays_out}
use Rattle.fsb_agent_run.proofs.OwnSnoops.{grant-of-snoop, settled-as}
use Rattle.fsb_agent_run.proofs.SnoopSteps.{outs-apart}

-- the snoop end of a request below a clock
pub below-says : (p : Past) (n q : ℕ) (s : SnoopEnd) → snoop_end_below p n q ≡ Some s
    → (t : ℕ) × (t < n) × (snooped_at p t ≡ Some s) × (s.first ≡ q)
unfolding snoop_end_below is_snoop_of is_some_and
below-says p n q s e = grind (arith, first_where-found)

-- one request ends at a clock
pub one-ended : (r : Run) (c q u : ℕ) → Reaches r (c + 1) → is_end_at (past_of r) c q ≡ true
    → is_end_at (past_of r) c u ≡ true → q ≡ u
one-ended r c q u h first second =
    let long = h.long in
    let i = ended-number r c q h.timely (omega arith) first in
    let j = ended-number r c u h.timely (omega arith) second in
    let same : i.0 ≡ j.0 = one-ends r.trace i.0 j.0 c (orderly-whole r c h.timely (omega arith)) i.1.end j.1.end in
    let here = i.1.first in
    let there = j.1.first in
    cc

-- the agent's own request leaves
pub record LeavesAsOwn (a number : ℕ) (s : SnoopEnd) : Type 0 where
  pub claim : Claim
  pub claims : s.claim ≡ Some claim
  pub agent : claim.agent ≡ a
  pub kept : is_deferral s.outcome ≡ false
  pub first : s.first ≡ number

-- or the one to which a reply ends
pub record LeavesAsReplied (p : Past) (a c number : ℕ) (s : SnoopEnd) : Type 0 where
  pub unclaimed : s.claim ≡ None
  pub grant : Grant
  pub grants : s.grant ≡ Some grant
  pub agent : grant.agent ≡ a
  pub asked : number_asked p a c grant.line ≡ Some number

pub left-says : (p : Past) (a c number : ℕ) (s : SnoopEnd) → number_left p a c s ≡ Some number
    → LeavesAsOwn a number s ⊎ LeavesAsReplied p a c number s
unfolding number_left number_claimed number_replied
left-says p a c number s e = grind arith

pub own-left : (p : Past) (a c : ℕ) (s : SnoopEnd) (claim : Claim) → s.claim ≡ Some claim → claim.agent ≡ a
    → is_deferral s.outcome ≡ false → number_left p a c s ≡ Some s.first
unfolding number_left number_claimed
own-left p a c s claim claims mine kept = rw (claims, eq-eqb claim.agent a mine, kept, number_left) refl

pub replied-left : (p : Past) (a c : ℕ) (s : SnoopEnd) (grant : Grant) → s.claim ≡ None → s.grant ≡ Some grant
    → grant.agent ≡ a → number_left p a c s ≡ number_asked p a c grant.line
unfolding number_left number_replied
replied-left p a c s grant none makes mine = rw (none, makes, eq-eqb grant.agent a mine, number_left) refl

-- an agent's request on a line has a number
pub asked-there : (p : Past) (a c line : ℕ) (owing : Owing) → Among owing (owed p a c) → owing.claim.line ≡ line
    → (number : ℕ) × (number_asked p a c line ≡ Some number)
unfolding number_asked
asked-there p a c line owing there on =
    let k = among-found (λ (o : Owing). nat_eq o.claim.line line) owing (owed p a c) there
    (eq-eqb owing.claim.line line on) in
    (k.0.claim.first, ap (option_map (λ (o : Owing). o.claim.first)) k.1)

-- the number that leaves is that of a request that the agent owes
pub record IsLast (r : Run) (a c number : ℕ) : Type 0 where
  pub claim : Claim
  pub begun : begun_at (past_of r) number ≡ Some claim
  pub agent : claim.agent ≡ a
  pub early : number + 4 ≤ c
  pub last : is_last_clock r.trace c number ≡ true
  pub owing : Owing
  pub among : Among owing (owed (past_of r) a c)
  pub owns : owing.claim ≡ claim
  pub first : owing.claim.first ≡ number

pub last-is : (r : Run) (a c q : ℕ) (claim : Claim) → Reaches r (c + 1) → begun_at (past_of r) q ≡ Some claim
    → claim.agent ≡ a
    → q + 4 ≤ c → is_last_clock r.trace c q ≡ true → IsLast r a c q
last-is r a c q claim h begun mine early last =
    let p = past_of r in
    let long = h.long in
    let out = last-outstanding r c q claim h begun (omega arith) last in
    let owing = owed-there r c q claim (reaches-less r c (c + 1) (omega arith) h) begun (omega arith) out in
    let want = begun-want r q claim h.timely h.bounds (omega arith) begun in
    record {
      claim = claim;
      begun = begun;
      agent = mine;
      early = early;
      last = last;
      owing = owing.0;
      among = subst (λ b. Among owing.0 (owed p b c)) mine owing.1;
      owns = owing.2;
      first = ap (λ (x : Claim). x.first) owing.2 ∙ want.first;
    }

pub left-last : (r : Run) (a c number : ℕ) (s : SnoopEnd) → Reaches r (c + 1) → EndsFor (past_of r) a c number s
    → IsLast r a c number
left-last r a c number s h ends =
    let p = past_of r in
    let long = h.long in
    let below = below-says p (c + 1) ends.first s ends.snooped in
    let low = below.1 in
    elim (left-says p a c number s ends.left) [
      | inl own ↦
          let at : Reaches r (below.0 + 1) = reaches-less r (below.0 + 1) (c + 1) (omega arith) h in
          let out = snooped-outstanding r below.0 s own.claim at below.2 own.claims in
          let tied = tied-snoop r below.0 s below.2 in
          let above = (snooped-by r below.0 tied.0 s tied.1).above in
          let last : is_last_clock r.trace c s.first ≡ true =
          ap (is_last_clock r.trace c) below.3 ∙ ends-last r c ends.first s h ends.ends ends.snooped
          ∙ ap not own.kept in
          subst (IsLast r a c) own.first (last-is r a c s.first own.claim h out.0 own.agent (omega arith) last)
      | inr reply ↦
          let k = ending-serves r c ends.first s reply.grant h ends.ends ends.snooped reply.unclaimed reply.grants in
          let serves = k.0 in
          let above = serves.snooped.above in
          let before = serves.before in
          let agent : serves.claim.agent ≡ a = serves.agent ∙ reply.agent in
          let last = last-is r a c serves.end.first serves.claim h serves.begun agent (omega arith) k.1 in
          let one = last.begun in
          let two = serves.begun in
          let claims : last.claim ≡ serves.claim = cc in
          let line : last.owing.claim.line ≡ reply.grant.line = grind arith in
          let other = asked-number p a c reply.grant.line number reply.asked in
          let same : other.0 ≡ last.owing =
          one-line p (owed p a c) other.0 last.owing (owed-apart r a c (reaches-less r c (c + 1) (omega arith) h))
          other.1 last.among (other.2 ∙ sym line) in
          let is : serves.end.first ≡ number = grind arith in
          subst (IsLast r a c) is last
    ]

-- which request of those that an agent owes has its last clock at c
last-by-left : (r : Run) (a c number : ℕ) (s : SnoopEnd) (owing : Owing) → Reaches r (c + 1)
    → EndsFor (past_of r) a c number s → Among owing (owed (past_of r) a c)
    → is_last_clock r.trace c owing.claim.first ≡ true
    → (is_at (cancelled_in (past_of r) c) owing.claim.first || nat_eq owing.claim.first number) ≡ true
last-by-left r a c number s owing h ends there last =
    let p = past_of r in
    let early = reaches-less r c (c + 1) (omega arith) h in
    let k = owing-is r a c owing early there in
    elim (last-says r c owing.claim.first owing.claim h k.claimed k.before last) [
      | inl cancelled ↦ or_left (is_at (cancelled_in p c) owing.claim.first) (nat_eq owing.claim.first number)
          (is_at-from (cancelled_in p c) owing.claim.first cancelled)
      | inr leaves ↦
          let one = one-ended r c leaves.first ends.first h leaves.ends ends.ends in
          let snooped = subst (λ q. snoop_end_below p (c + 1) q ≡ Some leaves.end) one leaves.snooped in
          let known = ends.snooped in
          let end : leaves.end ≡ s = cc in
          let first : owing.claim.first ≡ number = elim leaves.how [
            | inl own ↦
                let left = own-left p a c leaves.end owing.claim own.claimed k.agent own.kept in
                let both : Some leaves.end.first ≡ Some number = sym left ∙ ap (number_left p a c) end ∙ ends.left in
                sym own.first ∙ (let same : leaves.end.first ≡ number = cc in same)
            | inr reply ↦
                let left = replied-left p a c leaves.end reply.grant reply.unclaimed reply.grants (reply.agent
                ∙ k.agent) in
                let asked : number_asked p a c reply.grant.line ≡ Some number = grind arith in
                let other = asked-number p a c reply.grant.line number asked in
                let same : other.0 ≡ owing =
                one-line p (owed p a c) other.0 owing (owed-apart r a c early) other.1 there (other.2 ∙ reply.line) in
                sym (ap (λ (o : Owing). o.claim.first) same) ∙ other.3
          ] in
          or_right (is_at (cancelled_in p c) owing.claim.first) (nat_eq owing.claim.first number)
          (eq-eqb owing.claim.first number first)
    ]

left-by-last : (r : Run) (a c number : ℕ) (s : SnoopEnd) (owing : Owing) → Reaches r (c + 1)
    → EndsFor (past_of r) a c number s
    → (is_at (cancelled_in (past_of r) c) owing.claim.first || nat_eq owing.claim.first number) ≡ true
    → is_last_clock r.trace c owing.claim.first ≡ true
left-by-last r a c number s owing h ends e =
    let p = past_of r in
    elim (or_cases (is_at (cancelled_in p c) owing.claim.first) (nat_eq owing.claim.first number) e) [
      | inl t ↦ cancelled-last r c owing.claim.first h (is_at-some (cancelled_in p c) owing.claim.first t)
      | inr t ↦ ap (is_last_clock r.trace c) (eqb-true owing.claim.first number t)
          ∙ (left-last r a c number s h ends).last
    ]

-- what begins at c is neither cancelled there nor of a number below c
begun-uncancelled : (r : Run) (a c : ℕ) (owing : Owing) → Reaches r (c + 1) → Among owing (owings_begun (past_of r) a c)
    → is_uncancelled (past_of r) c owing ≡ true
unfolding is_uncancelled
begun-uncancelled r a c owing h there = grind (arith, begun-is, cancels, is_at-some)

negated : (x y z : Bool) → x ≡ (y || z) → not x ≡ (not y && not z)
negated x y z h1 = grind arith

-- the requests without the one that has ended
pub owed-left : (r : Run) (a c number : ℕ) (s : SnoopEnd) → Reaches r (c + 1) → EndsFor (past_of r) a c number s
    → owed (past_of r) a (c + 1)
    ≡ filter (λ owing. not (nat_eq owing.claim.first number)) (owed_through (past_of r) a c)
unfolding owed_through owed_sent is_uncancelled
owed-left r a c number s h ends =
    let p = past_of r in
    let f : Owing → Bool = λ owing. not (nat_eq owing.claim.first number) in
    let g : Owing → Bool = is_uncancelled p c in
    let both : Owing → Bool = λ owing. g owing && f owing in
    let last = left-last r a c number s h ends in
    let early = last.early in
    let before : filter (stays_out r c) (owed p a c) ≡ filter both (owed p a c) =
    filter-same (stays_out r c) both (owed p a c) (λ owing there.
    negated (is_last_clock r.trace c owing.claim.first) (is_at (cancelled_in p c) owing.claim.first)
    (nat_eq owing.claim.first number)
    (same-both (is_last_clock r.trace c owing.claim.first)
    (is_at (cancelled_in p c) owing.claim.first || nat_eq owing.claim.first number)
    (λ t. last-by-left r a c number s owing h ends there t) (λ t. left-by-last r a c number s owing h ends t))) in
    let fresh : filter both (owings_begun p a c) ≡ owings_begun p a c =
    filter-all both (owings_begun p a c) (λ owing there.
    let b = begun-is r a c owing h there in
    let now = b.2 in
    and_from (g owing) (f owing) (begun-uncancelled r a c owing h there)
    (ap not (ne_eqb owing.claim.first number (λ e. omega (arith, e))))) in
    owed-more r a c h ∙ (λ i. before i ++ sym fresh i) ∙ sym (filter-append both (owed p a c) (owings_begun p a c))
    ∙ sym (filter-two f g (owed p a c ++ owings_begun p a c))

-- where nothing ends for the agent
pub owed-kept : (r : Run) (a c : ℕ) → Reaches r (c + 1) → NothingEndsFor (past_of r) a c
    → owed (past_of r) a (c + 1) ≡ owed_through (past_of r) a c
unfolding owed_through owed_sent is_uncancelled
owed-kept r a c h nothing =
    let p = past_of r in
    let early = reaches-less r c (c + 1) (omega arith) h in
    let g : Owing → Bool = is_uncancelled p c in
    let before : filter (stays_out r c) (owed p a c) ≡ filter g (owed p a c) =
    filter-same (stays_out r c) g (owed p a c) (λ owing there.
    let k = owing-is r a c owing early there in
    ap not (same-both (is_last_clock r.trace c owing.claim.first) (is_at (cancelled_in p c) owing.claim.first)
    (λ t. elim (last-says r c owing.claim.first owing.claim h k.claimed k.before t) [
      | inl cancelled ↦ is_at-from (cancelled_in p c) owing.claim.first cancelled
      | inr leaves ↦
          let none = nothing.none leaves.first leaves.end leaves.ends leaves.snooped in
          elim leaves.how [
            | inl own ↦
                let left = own-left p a c leaves.end owing.claim own.claimed k.agent own.kept in
                absurd (let no : ⊥ = cc in no)
            | inr reply ↦
                let left = replied-left p a c leaves.end reply.grant reply.unclaimed reply.grants (reply.agent
                ∙ k.agent) in
                let asked = asked-there p a c reply.grant.line owing there (sym reply.line) in
                let number = asked.1 in
                absurd (let no : ⊥ = cc in no)
          ]
    ])
    (λ t. cancelled-last r c owing.claim.first h (is_at-some (cancelled_in p c) owing.claim.first t)))) in
    let fresh : filter g (owings_begun p a c) ≡ owings_begun p a c = grind (arith, filter-all, begun-uncancelled) in
    owed-more r a c h ∙ (λ i. before i ++ sym fresh i) ∙ sym (filter-append g (owed p a c) (owings_begun p a c))

-- what ends is one of the view's requests
pub record IsEnded (r : Run) (a c number : ℕ) (v : AgentView) : Type 0 where
  pub out : OwnRequest
  pub among : Among out v.outs
  pub numbered : out.number ≡ number
  pub found : request_numbered number v.outs ≡ Some out
  pub owing : Among (owing_by a out) (owed (past_of r) a c)

pub ended-out : (r : Run) (a c number : ℕ) (v : AgentView) → Reaches r (c + 1) → IsLast r a c number
    → HasRequestsOf (past_of r) a (c + 1) (owed_through (past_of r) a c) v → IsEnded r a c number v
unfolding owed_through owed_sent is_uncancelled
ended-out r a c number v h last requests =
    let p = past_of r in
    let long = h.long in
    let early = last.early in
    let kept : is_at (cancelled_in p c) last.owing.claim.first ≡ false =
    false_from_ne_true (is_at (cancelled_in p c) last.owing.claim.first) (λ t.
    let at = cancels r c number (omega arith) (is_at-some (cancelled_in p c) last.owing.claim.first t
    ∙ ap Some last.first) in
    let late = at.0 in
    omega arith) in
    let through : Among last.owing (owed_through p a c) = filter-among (is_uncancelled p c) last.owing (owed_sent p a c)
    (among-left last.owing (owed p a c) _ last.among) (ap not kept) in
    let found = out-there p a (c + 1) (owed_through p a c) v last.owing requests through in
    let numbered : found.0.number ≡ number = ap (λ (o : Owing). o.claim.first) found.2 ∙ last.first in
    record {
      out = found.0;
      among = found.1;
      numbered = numbered;
      found = subst (λ m. request_numbered m v.outs ≡ Some found.0) numbered
          (find-number p a found.0 v.outs (outs-apart r a c (c + 1) v h requests) found.1);
      owing = subst (λ o. Among o (owed p a c)) (sym found.2) last.among;
    }

owns-told : (kind : Kind) → is_owning kind ≡ kind_owns (kind_asks kind)
unfolding is_owning
owns-told kind = grind arith

pub made-by : (b : Bool) (mine grant : Grant) → (if b then Some mine else None) ≡ Some grant → mine ≡ grant
made-by b mine grant h1 = grind arith

-- the grant of a request that ends is to its agent, for its line, owned or not as it asks
pub record IsGrantOf (a : ℕ) (grant : Grant) (out : OwnRequest) : Type 0 where
  pub agent : grant.agent ≡ a
  pub line : grant.line ≡ out.request.line
  pub owns : grant.owns ≡ kind_owns (kind_asks out.request.kind)

pub ended-grant : (r : Run) (a c number : ℕ) (s : SnoopEnd) (grant : Grant) (v : AgentView) → Reaches r (c + 1)
    → EndsFor (past_of r) a c number s → s.grant ≡ Some grant
    → HasRequestsOf (past_of r) a (c + 1) (owed_through (past_of r) a c) v → (k : IsEnded r a c number v)
    → IsGrantOf a grant k.out
ended-grant r a c number s grant v h ends makes requests k =
    let p = past_of r in
    let below = below-says p (c + 1) ends.first s ends.snooped in
    let low = below.1 in
    elim (left-says p a c number s ends.left) [
      | inl own ↦
          let at : Reaches r (below.0 + 1) = reaches-less r (below.0 + 1) (c + 1) (omega arith) h in
          let settled = settled-as r below.0 s own.claim at below.2 own.claims in
          let made = made-by _ _ grant (sym settled.granted ∙ makes) in
          let wanted = wanted-of p a (c + 1) (owed_through p a c) v k.out requests k.among in
          let mine : want_of p a s.first ≡ Some settled.request = grind arith in
          let told : want_of p a s.first ≡ Some k.out.request = grind arith in
          let request : k.out.request ≡ settled.request = (let e = sym told ∙ mine in cc) in
          record {
            agent = sym (ap (λ (g : Grant). g.agent) made) ∙ own.agent;
            line = sym (ap (λ (g : Grant). g.line) made) ∙ sym settled.line
                ∙ sym (ap (λ (q : Request). q.line) request);
            owns = sym (ap (λ (g : Grant). g.owns) made)
                ∙ sym (ap (λ (q : Request). kind_owns (kind_asks q.kind)) request);
          }
      | inr reply ↦
          let granted = reply.grants in
          let same : reply.grant ≡ grant = cc in
          let serves =
          (ending-serves r c ends.first s reply.grant h ends.ends ends.snooped reply.unclaimed reply.grants).0 in
          let out = served-out r a c (c + 1) number reply.grant v h serves reply.agent reply.asked requests in
          let one = out.found in
          let two = k.found in
          let is : out.out ≡ k.out = cc in
          record {
            agent = sym (ap (λ (g : Grant). g.agent) same) ∙ reply.agent;
            line = sym (ap (λ (g : Grant). g.line) same) ∙ sym out.line
                ∙ ap (λ (o : OwnRequest). o.request.line) is;
            owns = sym (ap (λ (g : Grant). g.owns) same) ∙ out.owns ∙ owns-told out.out.request.kind
                ∙ ap (λ (o : OwnRequest). kind_owns (kind_asks o.request.kind)) is;
          }
    ]

-- a grant is made at one clock, and its first clock is that of its snoop end
pub grant-there : (p : Past) (t : ℕ) (grant : Grant) → grant_at p t ≡ Some grant
    → (s : SnoopEnd) × (snooped_at p t ≡ Some s) × (s.grant ≡ Some grant)
unfolding grant_at
grant-there p t grant e = grind arith

granted-there : (p : Past) (t : ℕ) (grant : Grant) → grant_at p t ≡ Some grant
    → is_granted p grant.agent grant.line t ≡ true
unfolding is_granted is_some_and
granted-there p t grant e = rw (e, eq-eqb grant.agent grant.agent refl) (eq-eqb grant.line grant.line refl)

pub first-of-grant : (r : Run) (t : ℕ) (s : SnoopEnd) (grant : Grant) → t < length r.trace
    → snooped_at (past_of r) t ≡ Some s
    → s.grant ≡ Some grant → grant.first ≡ s.first
first-of-grant r t s grant l there makes =
    let p = past_of r in
    grant-first r grant.agent grant.line t s grant l there makes
    (granted-there p t grant (grant-of-snoop p t s there ∙ makes))

-- its line comes
pub ended-comes : (r : Run) (a c number : ℕ) (s : SnoopEnd) (grant : Grant) (v : AgentView) → Reaches r (c + 1)
    → EndsFor (past_of r) a c number s → s.grant ≡ Some grant
    → HasRequestsOf (past_of r) a (c + 1) (owed_through (past_of r) a c) v → (k : IsEnded r a c number v)
    → IsComing (past_of r) a c k.out.request.line (kind_owns (kind_asks k.out.request.kind))
ended-comes r a c number s grant v h ends makes requests k =
    let p = past_of r in
    let long = h.long in
    let below = below-says p (c + 1) ends.first s ends.snooped in
    let low = below.1 in
    let own = ended-grant r a c number s grant v h ends makes requests k in
    let first = first-of-grant r below.0 s grant (omega arith) below.2 makes in
    record {
      at = below.0;
      grant = grant;
      before = omega arith;
      granted = grant-of-snoop p below.0 s below.2 ∙ makes;
      to = own.agent;
      of_line = own.line;
      owning = own.owns;
      ends = ap (is_end_at p c) (first ∙ below.3) ∙ ends.ends;
      only = λ t other l granted mine ending.
          let there = grant-there p t other granted in
          let again = first-of-grant r t there.0 other (omega arith) there.1 there.2 in
          let same : other.first ≡ ends.first = one-ended r c other.first ends.first h ending ends.ends in
          let snoop : there.0.first ≡ s.first = sym again ∙ same ∙ sym below.3 in
          (answers-in-order r h.timely).one_snoop t below.0 there.0 s there.1 below.2 snoop;
    }
