-- A line of which an agent has an open or deferred request is not awaited by it: at a snoop end of its own
-- request it awaits nothing on the line.
use Rattle.fsb_agent_run.proofs.Words
use Words.{ℕ, zero, suc, ◌<◌, ◌≤◌, ◌≡◌, Bool, true, false, ◌&&◌, ◌||◌, List, [], ◌∷◌, ◌++◌, Option, Some, None, length}
use Words.{nat_eq, refl, sym, ap, subst, ◌∙◌, inl, inr, arith, ◌==◌, option_map_or, and_parts, both_ways, cases_eq}
use Words.{eq-eqb, eqb-true, false_from_ne_true, or_left, or_right, is_some_and, Link, LineDeferral, MemoryLine}
use Words.{OpenRequest, unheld, is_linked, Claim, Grant, Past, SnoopEnd, is_claim_of, is_ended, is_granted, snooped_at}
use Words.{Run, past_of, Timely, KeepsBounds, some-and, awaited_by_grant, is_granted_by, IsOpen, chain_below}
use Words.{deferral_below, link_for, link_left, links_left, facts-keep-ties, may-below, awaits-grant, clock-facts}
use Words.{grant-first, granted-parts, is_awaited}
use Rattle.fsb_line.specs.LineRuns.{run}
use Rattle.fsb_coherent.specs.KeepsTie.{IsTiedTo}
use Rattle.fsb_coherent.specs.LineEvents.{events_below}
use Rattle.fsb_agent_run.proofs.OwnEvents.{is_settled_for}
use Rattle.fsb_agent_run.proofs.PromisesTold.{awaits-by}

-- the line of the machine at a clock, whatever its bytes
abbrev pub machine_at : Run → ℕ → ℕ → MemoryLine
machine_at r line n = run (unheld []) (events_below (past_of r) line n)

pub tied-at : (r : Run) (line n : ℕ) → Timely r → KeepsBounds r.plan → n ≤ length r.trace
    → IsTiedTo (past_of r) line n (machine_at r line n)
tied-at r line n h bounds l =
    (may-below (past_of r) line n []
    (λ c below. facts-keep-ties (past_of r) line c (clock-facts r line c h bounds (omega arith)))).1

linked-append : (a : ℕ) (xs ys : List Link) → is_linked a (xs ++ ys) ≡ (is_linked a xs || is_linked a ys)
linked-append a [] ys = refl
linked-append a (x ∷ xs) ys = ap (λ b. (x.agent == a) || b) (linked-append a xs ys)
    ∙ grouped (x.agent == a) (is_linked a xs) (is_linked a ys)
  where
    grouped : (x y z : Bool) → (x || (y || z)) ≡ ((x || y) || z)
    grouped x y z = grind arith

-- the link of a grant whose end is to come
linked-by : (p : Past) (a line c t : ℕ) (s : SnoopEnd) (grant : Grant) → snooped_at p t ≡ Some s → s.grant ≡ Some grant
    → grant.agent ≡ a → grant.line ≡ line → is_ended p c s.first ≡ false
    → is_linked a (option_map_or (link_left p line c t) (snooped_at p t) []) ≡ true
unfolding link_left link_for awaited_by_grant
linked-by p a line c t s grant there made agent names unended = grind (arith, awaits-grant)

linked-above : (p : Past) (a line c t n : ℕ) → t < n
    → is_linked a (option_map_or (link_left p line c t) (snooped_at p t) []) ≡ true
    → is_linked a (links_left p line c n) ≡ true
unfolding links_left
linked-above p a line c t zero l here = absurd (omega arith)
linked-above p a line c t (suc n) l here =
    let parts = linked-append a (links_left p line c n) (option_map_or (link_left p line c n) (snooped_at p n) []) in
    parts
    ∙ elim (cases_eq t n) [
      | inl same ↦ or_right (is_linked a (links_left p line c n)) _
          (subst (λ k. is_linked a (option_map_or (link_left p line c k) (snooped_at p k) []) ≡ true) same here)
      | inr apart ↦ or_left (is_linked a (links_left p line c n)) _ (linked-above p a line c t n (omega arith) here)
    ]

-- who awaits a line has a link of it
awaited-linked : (r : Run) (a line c : ℕ) → c ≤ length r.trace → is_awaited (past_of r) a line c c ≡ true
    → is_linked a (chain_below (past_of r) line c) ≡ true
unfolding chain_below
awaited-linked r a line c l e =
    let p : Past = past_of r in
    let k = awaits-by p a line c c e in
    let below : k.at < c = k.below in
    let g = granted-parts p a line k.at k.granted in
    let both : Some g.0 ≡ Some k.end = sym g.2 ∙ k.there in
    let same : g.0 ≡ k.end = cc in
    let made : Some g.1 ≡ Some k.grant = sym g.3 ∙ ap (λ (x : SnoopEnd). x.grant) same ∙ k.made in
    let is : g.1 ≡ k.grant = cc in
    let first = grant-first r a line k.at k.end k.grant (omega arith) k.there k.made k.granted in
    linked-above p a line c k.at c below
    (linked-by p a line c k.at k.end k.grant k.there k.made (ap (λ (x : Grant). x.agent) (sym is) ∙ g.4)
    (ap (λ (x : Grant). x.line) (sym is) ∙ g.5) (subst (λ q. is_ended p c q ≡ false) first k.unended))

-- so who has an open request of a line awaits nothing on it
pub open-unawaited : (r : Run) (a line n : ℕ) (request : OpenRequest) → Timely r → KeepsBounds r.plan
    → n ≤ length r.trace
    → IsOpen (past_of r) a line n request → is_awaited (past_of r) a line n n ≡ false
open-unawaited r a line n request h bounds l opened =
    let tied = tied-at r line n h bounds l in
    let asked = tied.tied.opened a request opened in
    let apart : is_linked a (machine_at r line n).chain ≡ false = tied.ordered.apart a request asked in
    false_from_ne_true (is_awaited (past_of r) a line n n) (λ e.
    both_ways (is_linked a (chain_below (past_of r) line n)) (ap (is_linked a) (sym tied.tied.chain) ∙ apart)
    (awaited-linked r a line n l e))

-- nor does who has a deferred one
pub deferred-unawaited : (r : Run) (line n : ℕ) (d : LineDeferral) → Timely r → KeepsBounds r.plan → n ≤ length r.trace
    → deferral_below (past_of r) line n ≡ Some d → is_awaited (past_of r) d.agent line n n ≡ false
deferred-unawaited r line n d h bounds l pending =
    let tied = tied-at r line n h bounds l in
    let apart : is_linked d.agent (machine_at r line n).chain ≡ false = grind arith in
    false_from_ne_true (is_awaited (past_of r) d.agent line n n) (λ e.
    both_ways (is_linked d.agent (chain_below (past_of r) line n)) (ap (is_linked d.agent) (sym tied.tied.chain)
    ∙ apart)
    (awaited-linked r d.agent line n l e))

-- whose claim an own snoop end has
pub own-claim : (a line : ℕ) (s : SnoopEnd) (claim : Claim) → s.claim ≡ Some claim → is_settled_for a line s ≡ true
    → (claim.agent ≡ a) × (claim.line ≡ line)
unfolding is_settled_for is_claim_of
own-claim a line s claim claims settles = grind arith

-- or, of a reply, whose grant
pub own-grant : (a line : ℕ) (s : SnoopEnd) → s.claim ≡ None → is_settled_for a line s ≡ true
    → (grant : Grant) × (s.grant ≡ Some grant) × (grant.agent ≡ a) × (grant.line ≡ line)
unfolding is_settled_for is_granted_by
own-grant a line s none settles = grind (arith, some-and)

-- the snoop end of an agent's request for a line, by its claim or by its grant
settled-by : (r : Run) (a line c : ℕ) (s : SnoopEnd) (o : Option Claim) → s.claim ≡ o → Timely r → KeepsBounds r.plan
    → c < length r.trace → snooped_at (past_of r) c ≡ Some s → is_settled_for a line s ≡ true
    → is_awaited (past_of r) a line c c ≡ false
unfolding is_settled_for is_claim_of is_granted_by
settled-by r a line c s (Some claim) claims h bounds l there settles =
    let e : (nat_eq claim.agent a && nat_eq claim.line line) ≡ true = rw claims at settles in
    let names = and_parts (nat_eq claim.agent a) (nat_eq claim.line line) e in
    let settled = (clock-facts r line c h bounds l).settles.settled s claim there claims
    (eqb-true claim.line line names.1) in
    let agent : settled.fits.agent ≡ a = grind arith in
    ap (λ b. is_awaited (past_of r) b line c c) (sym agent)
    ∙ open-unawaited r settled.fits.agent line c _ h bounds (omega arith) settled.opened
settled-by r a line c s None claims h bounds l there settles =
    let e : is_some_and s.grant (λ grant. nat_eq grant.agent a && nat_eq grant.line line) ≡ true = grind arith in
    let g = some-and s.grant (λ (grant : Grant). nat_eq grant.agent a && nat_eq grant.line line) e in
    let names = and_parts (nat_eq g.0.agent a) (nat_eq g.0.line line) g.2 in
    let replied = (clock-facts r line c h bounds l).settles.replied s g.0 there claims g.1
    (eqb-true g.0.line line names.1) in
    let agent : replied.deferral.agent ≡ a = sym replied.agent ∙ eqb-true g.0.agent a names.0 in
    ap (λ b. is_awaited (past_of r) b line c c) (sym agent)
    ∙ deferred-unawaited r line c replied.deferral h bounds (omega arith) replied.pending

pub settled-unawaited : (r : Run) (a line c : ℕ) (s : SnoopEnd) → Timely r → KeepsBounds r.plan → c < length r.trace
    → snooped_at (past_of r) c ≡ Some s → is_settled_for a line s ≡ true → is_awaited (past_of r) a line c c ≡ false
settled-unawaited r a line c s h bounds l there settles = settled-by r a line c s s.claim refl h bounds l there settles

-- whose request a grant settles
granted-by : (r : Run) (a line c : ℕ) (s : SnoopEnd) (grant : Grant) (o : Option Claim) → s.claim ≡ o → Timely r
    → KeepsBounds r.plan → c < length r.trace → snooped_at (past_of r) c ≡ Some s → s.grant ≡ Some grant
    → grant.agent ≡ a
    → grant.line ≡ line → is_settled_for a line s ≡ true
unfolding is_settled_for is_claim_of is_granted_by is_some_and
granted-by r a line c s grant (Some claim) claims h bounds l there made agent names =
    let facts = clock-facts r claim.line c h bounds l in
    let settled = facts.settles.settled s claim there claims refl in
    let fits = settled.fits in
    let same = facts.settles.elsewhere s claim grant there claims made in
    let x : Grant =
    record { first = s.first; agent = fits.agent; line = claim.line; owns = fits.owns; shared = fits.shared } in
    let is : x ≡ grant = grind arith in
    let whose : claim.agent ≡ a = grind arith in
    rw (claims, eq-eqb claim.agent a whose, eq-eqb claim.line line (sym same ∙ names)) refl
granted-by r a line c s grant None claims h bounds l there made agent names =
    rw (claims, made, eq-eqb grant.agent a agent, eq-eqb grant.line line names) refl

pub granted-settled : (r : Run) (a line c : ℕ) → Timely r → KeepsBounds r.plan → c < length r.trace
    → is_granted (past_of r) a line c ≡ true
    → (s : SnoopEnd) × (snooped_at (past_of r) c ≡ Some s) × (is_settled_for a line s ≡ true)
granted-settled r a line c h bounds l e = grind (arith, granted-parts, granted-by)
