-- At the end of its own request an agent awaits the line where the request was granted, and nothing on the line
-- where it was not; and at the snoop end of its write-back it is dirty on the line.
use Rattle.fsb_agent_run.proofs.Words
use Words.{ℕ, ◌+◌, ◌<◌, ◌≤◌, ◌≡◌, ◌≢◌, Bool, true, false, ◌&&◌, ◌||◌, if◌then◌else◌, List, [], ◌∷◌, Option, Some, None}
use Words.{length, nat_lt, refl, sym, ap, subst, ◌∙◌, inl, inr, arith, list_any, and_from, and_parts, both_ways}
use Words.{cases_eq, cases_lt, false_from_ne_true, or_left, or_right, or_cases, any_where, from_clock, last_where}
use Words.{is_at, is_some_and, any_where-found, any_where-none, any_where-off, is_at-some, Done, WriteBack, AERR}
use Words.{line_at, Purpose, LineDeferral, OpenRequest, is_modified, Outcome, Deferred, Written, is_deferral, Claim}
use Words.{Grant, Past, SnoopEnd, begun_at, grant_at, is_end_at, is_ended, is_exclusive, is_granted, latest_grant}
use Words.{snooped_at, is_dirty, is_hit, is_store_on, Run, past_of, Timely, is_asked_for, owed, last_where-found}
use Words.{last_where-from, tied-snoop, want_of-new, KeepsBounds, some-and, cancelled_in, purpose_of, IsOpen}
use Words.{deferral_at, deferral_below, deferred_to, defers_line, is_cancelled_below, is_dirty_below, is_dirty_through}
use Words.{is_snooped_below, is_stored_below, replies_line, dirty-by-hits, answers-in-order, begun-want, cancels}
use Words.{clock-facts, grant-first, granted-parts, live-at, own-owed, OwnRequest, is_awaited}
use Rattle.fsb_line.specs.declared.purpose.Purpose.TheVariants as purposes
use Rattle.fsb_agent_run.proofs.OwnEvents.{IsOwnEnd, is_settled_for}
use Rattle.fsb_agent_run.proofs.GivenBytes.{same-first, written-kind}
use Rattle.fsb_agent_run.proofs.OwnLines.{granted-settled, machine_at, own-claim, own-grant, settled-unawaited}
use Rattle.fsb_agent_run.proofs.OwnLines.{tied-at}
use Rattle.fsb_agent_run.proofs.PromisesTold.{awaits-by}

-- a request whose end is c has its snoop end two clocks before at least
pub snooped-before : (r : Run) (c t : ℕ) (s : SnoopEnd) → Timely r → c < length r.trace
    → snooped_at (past_of r) t ≡ Some s
    → is_end_at (past_of r) c s.first ≡ true → t + 2 ≤ c
snooped-before r c t s h l there ends =
    let order = answers-in-order r h in
    let k = order.responded c s.first l ends in
    let early : k.at ≤ c = k.before in
    let j = order.snooped k.at s.first (omega arith) k.there in
    let gap : j.at + 2 ≤ k.at = j.before in
    let same : j.at ≡ t = order.one_snoop j.at t j.end s j.there there j.first in
    omega arith

ended-once : (r : Run) (c n q : ℕ) → Timely r → c < length r.trace → n ≤ c → is_end_at (past_of r) c q ≡ true
    → is_ended (past_of r) n q ≡ false
unfolding is_ended
ended-once r c n q h l low ends =
    let order = answers-in-order r h in
    any_where-off (λ t. is_end_at (past_of r) t q) n (λ t below.
    false_from_ne_true (is_end_at (past_of r) t q) (λ e.
    let same : t ≡ c = order.one_end t c q (omega arith) l e ends in omega arith))

-- where a request has not ended, no later one has
later-unended : (r : Run) (c t u : ℕ) (s e : SnoopEnd) → Timely r → c < length r.trace
    → snooped_at (past_of r) t ≡ Some s
    → snooped_at (past_of r) u ≡ Some e → t < u → is_ended (past_of r) c s.first ≡ false
    → is_ended (past_of r) c e.first ≡ false
unfolding is_ended
later-unended r c t u s e h l there later less unended =
    let p : Past = past_of r in
    let order = answers-in-order r h in
    any_where-off (λ v. is_end_at p v e.first) c (λ v below.
    false_from_ne_true (is_end_at p v e.first) (λ ends.
    let k = order.responded v e.first (omega arith) ends in
    let early : k.at ≤ v = k.before in
    let earlier = order.in_turn t u k.at s e there later less (omega arith) k.there in
    let at = any_where-found (λ w. is_end_at p w s.first) k.at earlier in
    let low : at.0 < k.at = at.1 in
    both_ways (is_end_at p at.0 s.first) (any_where-none (λ w. is_end_at p w s.first) c unended at.0
    (omega arith)) at.2))

-- an agent awaits a line by its latest grant
awaited-from : (p : Past) (a line n c u : ℕ) (e : SnoopEnd) (grant : Grant)
    → last_where (is_granted p a line) n ≡ Some u → snooped_at p u ≡ Some e → e.grant ≡ Some grant
    → is_ended p c grant.first ≡ false → is_awaited p a line n c ≡ true
unfolding is_awaited latest_grant grant_at is_some_and
awaited-from p a line n c u e grant last there made unended = rw (last, there, made, unended) refl

-- an agent awaits the line of a grant at the clock of its end
pub awaited-at-end : (r : Run) (a line c t : ℕ) (s : SnoopEnd) → Timely r → c < length r.trace
    → snooped_at (past_of r) t ≡ Some s → is_granted (past_of r) a line t ≡ true
    → is_end_at (past_of r) c s.first ≡ true → is_awaited (past_of r) a line (c + 1) c ≡ true
awaited-at-end r a line c t s h l there granted ends =
    let p : Past = past_of r in
    let gap = snooped-before r c t s h l there ends in
    let order = answers-in-order r h in
    let last = last_where-from (is_granted p a line) (c + 1) t (omega arith) granted in
    let u : ℕ = last.0 in
    let late : t ≤ u = last.2 in
    let found = last_where-found (is_granted p a line) (c + 1) u last.1 in
    let below : u < c + 1 = found.0 in
    let g = granted-parts p a line u found.1 in
    let first = grant-first r a line u g.0 g.1 (omega arith) g.2 g.3 found.1 in
    let unended : is_ended p c g.0.first ≡ false =
    elim (cases_eq t u) [
      | inl same ↦
          let both : Some s ≡ Some g.0 = sym there ∙ ap (snooped_at p) same ∙ g.2 in
          let is : s ≡ g.0 = cc in
          ap (λ (x : SnoopEnd). is_ended p c x.first) (sym is) ∙ ended-once r c c s.first h l (omega arith) ends
      | inr apart ↦ later-unended r c t u s g.0 h l there g.2 (omega arith) (ended-once r c c s.first h l
          (omega arith) ends)
    ] in
    awaited-from p a line (c + 1) c u g.0 g.1 last.1 g.2 g.3 (ap (is_ended p c) first ∙ unended)

stored-more : (p : Past) (a line n q : ℕ) (log : List Done)
    → list_any (λ done. is_store_on a line done && is_ended p done.clock q && nat_lt done.clock n) log ≡ true
    → list_any (λ done. is_store_on a line done && is_ended p done.clock q && nat_lt done.clock (n + 1)) log ≡ true
stored-more p a line n q [] e = e
stored-more p a line n q (done ∷ log) e = grind (arith, stored-more p a line n q log)

-- who is dirty on a line below the hits of a clock is dirty with them
dirty-with-hits : (p : Past) (a line n : ℕ) → is_dirty_below p a line n ≡ true → is_dirty p a line n ≡ true
unfolding is_dirty_below is_dirty_through is_stored_below is_some_and
dirty-with-hits p a line n e =
    let test : Grant → Bool = λ grant.
    grant.owns || list_any
    (λ done. is_store_on a line done && is_ended p done.clock grant.first && nat_lt done.clock n) p.log in
    let more : Grant → Bool = λ grant.
    grant.owns || list_any
    (λ done. is_store_on a line done && is_ended p done.clock grant.first && nat_lt done.clock (n + 1)) p.log in
    let parts = and_parts (is_exclusive p a line n) (is_some_and (latest_grant p a line n) test) e in
    let through : is_dirty_through p a line n ≡ true =
    and_from (is_exclusive p a line n) (is_some_and (latest_grant p a line n) more) parts.0
    (some-more (latest_grant p a line n) test more (λ grant t. elim (or_cases grant.owns _ t) [
      | inl owns ↦ or_left grant.owns _ owns
      | inr stored ↦ or_right grant.owns _ (stored-more p a line n grant.first p.log stored)
    ]) parts.1) in
    dirty-by-hits p a line n ∙ either (is_hit p a n) through
  where
    some-more : (o : Option Grant) (f g : Grant → Bool) → ((x : Grant) → f x ≡ true → g x ≡ true)
        → is_some_and o f ≡ true → is_some_and o g ≡ true
    some-more o f g h1 h2 = grind arith

    either : (b : Bool) → is_dirty_through p a line n ≡ true
        → (if b then is_dirty_through p a line n else is_dirty_below p a line n) ≡ true
    either b h1 = grind arith

-- at the snoop end of its write-back an agent is dirty on the line
pub written-dirty : (r : Run) (a line c : ℕ) (s : SnoopEnd) (claim : Claim) → Timely r → KeepsBounds r.plan
    → c < length r.trace → snooped_at (past_of r) c ≡ Some s → s.claim ≡ Some claim → claim.agent ≡ a
    → claim.line ≡ line
    → s.outcome ≡ Written → is_dirty (past_of r) a line c ≡ true
unfolding purpose_of
written-dirty r a line c s claim h bounds l there claims agent names written =
    let settled = (clock-facts r line c h bounds l).settles.settled s claim there claims names in
    let fits = settled.fits in
    let kind : fits.kind ≡ WriteBack =
    written-kind fits.kind s.outcome written (fits.fits (λ k handed. let both = sym written
    ∙ handed in let no : ⊥ = cc in no)) in
    let known : Some purposes.WriteBack ≡ Some settled.purpose = (let e = rw kind at settled.known in e) in
    let purpose : settled.purpose ≡ purposes.WriteBack = cc in
    let tied = tied-at r line c h bounds (omega arith) in
    let request : OpenRequest = record { kind = settled.purpose; number = s.first } in
    let asked = tied.tied.opened fits.agent request settled.opened in
    let suits = tied.ordered.suited fits.agent request asked in
    let modified : is_modified ((machine_at r line c).state fits.agent) ≡ true = (let e = rw purpose at suits in e) in
    let whose : fits.agent ≡ a = sym (same-first (past_of r) line c s claim claims fits).1 ∙ agent in
    let below : is_dirty_below (past_of r) a line c ≡ true = grind arith in
    dirty-with-hits (past_of r) a line c below

-- an open request was open before, where it had begun
open-earlier : (p : Past) (a line n t : ℕ) (request : OpenRequest) → t ≤ n → request.number < t
    → IsOpen p a line n request
    → IsOpen p a line t request
unfolding is_cancelled_below is_snooped_below
open-earlier p a line n t request l begun k = record {
  before = begun;
  begun = k.begun;
  wanted = k.wanted;
  uncancelled = any_where-off (λ u. is_at (cancelled_in p u) request.number) t (λ u low.
      any_where-none (λ u. is_at (cancelled_in p u) request.number) n k.uncancelled u (omega arith));
  unsnooped = any_where-off _ t (λ u low. any_where-none _ n k.unsnooped u (omega arith));
}

-- the open request of an agent's own snoop end
own-open : (r : Run) (a line t : ℕ) (s : SnoopEnd) (claim : Claim) → Timely r → KeepsBounds r.plan → t < length r.trace
    → snooped_at (past_of r) t ≡ Some s → s.claim ≡ Some claim → claim.agent ≡ a → claim.line ≡ line
    → (kind : Purpose) × IsOpen (past_of r) a line t (record { kind = kind; number = s.first })
own-open r a line t s claim h bounds l there claims agent names =
    let settled = (clock-facts r line t h bounds l).settles.settled s claim there claims names in
    let whose : settled.fits.agent ≡ a = sym (same-first (past_of r) line t s claim claims settled.fits).1 ∙ agent in (
      settled.purpose,
      subst (λ b. IsOpen (past_of r) b line t
          (record { kind = settled.purpose; number = s.first })) whose settled.opened,
    )

live-uncancelled : (r : Run) (n t : ℕ) (s : SnoopEnd) → n ≤ length r.trace → snooped_at (past_of r) t ≡ Some s
    → is_cancelled_below (past_of r) n s.first ≡ false
unfolding is_cancelled_below
live-uncancelled r n t s l there =
    let tied = tied-snoop r t s there in
    let kept = (live-at r.trace tied.0 s.first tied.1.first).kept in
    any_where-off (λ u. is_at (cancelled_in (past_of r) u) s.first) n (λ u low.
    false_from_ne_true (is_at (cancelled_in (past_of r) u) s.first) (λ e.
    let k = cancels r u s.first (omega arith) (is_at-some (cancelled_in (past_of r) u) s.first e) in
    both_ways (line_at AERR r.trace (s.first + 3)) kept (subst (λ x. line_at AERR r.trace x ≡ true) k.0 k.1)))

-- a request whose first clock lies behind the snoop end of another on the line does not begin while that has no end
not-begun : (r : Run) (a line c t q : ℕ) (s : SnoopEnd) (claim : Claim) → Timely r → KeepsBounds r.plan
    → c < length r.trace
    → snooped_at (past_of r) t ≡ Some s → s.claim ≡ Some claim → claim.agent ≡ a → claim.line ≡ line
    → is_end_at (past_of r) c s.first ≡ true → t ≤ q → q ≤ c
    → begun_at (past_of r) q ≡ Some (record { first = q; agent = a; line = line }) → ⊥
not-begun r a line c t q s claim h bounds l there claims agent names ends late low begun =
    let p : Past = past_of r in
    let gap = snooped-before r c t s h l there ends in
    let mine = own-open r a line t s claim h bounds (omega arith) there claims agent names in
    let before : s.first < t = mine.1.before in
    let k = begun-want r q (record { first = q; agent = a; line = line }) h bounds (omega arith) begun in
    let free : is_asked_for (owed p a q) line ≡ false = grind (arith, want_of-new) in
    let taken = own-owed r q s.first (record { first = s.first; agent = a; line = line }) h bounds (omega arith)
    (omega arith)
    mine.1.begun (live-uncancelled r q t s (omega arith) there) (ended-once r c q s.first h l low ends) in
    both_ways (is_asked_for (owed p a q) line) free taken

-- no two requests of an agent on a line have their snoop ends before the first of them has its end
no-second : (r : Run) (a line c t u : ℕ) (s e : SnoopEnd) (claim other : Claim) → Timely r → KeepsBounds r.plan
    → c < length r.trace → snooped_at (past_of r) t ≡ Some s → s.claim ≡ Some claim → claim.agent ≡ a
    → claim.line ≡ line
    → is_end_at (past_of r) c s.first ≡ true → snooped_at (past_of r) u ≡ Some e → e.claim ≡ Some other
    → other.agent ≡ a
    → other.line ≡ line → t < u → u ≤ c → ⊥
no-second r a line c t u s e claim other h bounds l there claims agent names ends later others other_agent
    other_names less low =
    let p : Past = past_of r in
    let mine = own-open r a line t s claim h bounds (omega arith) there claims agent names in
    let second = own-open r a line u e other h bounds (omega arith) later others other_agent other_names in
    let second_below : e.first < u = second.1.before in
    elim (cases_lt e.first t) [
      | inl early ↦
          let request : OpenRequest = record { kind = mine.0; number = s.first } in
          let again : OpenRequest = record { kind = second.0; number = e.first } in
          let open_then = open-earlier p a line u t again (omega arith) early second.1 in
          let tied = tied-at r line t h bounds (omega arith) in
          let both : Some request ≡ Some again =
          sym (tied.tied.opened a request mine.1) ∙ tied.tied.opened a again open_then in
          let same : request ≡ again = cc in
          let first : s.first ≡ e.first = ap (λ (x : OpenRequest). x.number) same in
          let clock : t ≡ u = (answers-in-order r h).one_snoop t u s e there later first in
          omega arith
      | inr late ↦ not-begun r a line c t e.first s claim h bounds l there claims agent names ends late
          (omega arith) second.1.begun
    ]

-- what a deferral was made by
record DeferredAt (p : Past) (line n : ℕ) (d : LineDeferral) : Type 0 where
  at : ℕ
  last : last_where (defers_line p line) n ≡ Some at
  since : any_where (from_clock (at + 1) (replies_line p line)) n ≡ false
  made : deferral_at p line at ≡ Some d
  below : at < n
  end : SnoopEnd
  there : snooped_at p at ≡ Some end
  deferred : is_deferral end.outcome ≡ true
  claim : Claim
  claims : end.claim ≡ Some claim
  agent : claim.agent ≡ d.agent
  names : claim.line ≡ line

deferred-at : (p : Past) (line n : ℕ) (d : LineDeferral) → deferral_below p line n ≡ Some d → DeferredAt p line n d
unfolding deferral_below defers_line deferral_at deferred_to
deferred-at p line n d e = grind (arith, last_where-found, some-and)

last-cut : (test : ℕ → Bool) (n m t : ℕ) → m ≤ n → t < m → last_where test n ≡ Some t → last_where test m ≡ Some t
last-cut test n m t l low last =
    let found = last_where-found test n t last in
    let d = last_where-from test m t low found.1 in
    let at : ℕ = d.0 in
    let late : t ≤ at = d.2 in
    let there = last_where-found test m at d.1 in
    let below : at < m = there.0 in
    let e = last_where-from test n at (omega arith) there.1 in
    let both : Some t ≡ Some e.0 = sym last ∙ e.1 in
    let same : t ≡ e.0 = cc in
    let later : at ≤ e.0 = e.2 in
    let is : at ≡ t = omega arith in
    d.1 ∙ ap Some is

-- a deferral stands at each clock from it on
deferral-then : (p : Past) (line n m : ℕ) (d : LineDeferral) → m ≤ n → (k : DeferredAt p line n d) → k.at < m
    → deferral_below p line m ≡ Some d
unfolding deferral_below
deferral-then p line n m d l k low =
    let last = last-cut (defers_line p line) n m k.at l low k.last in
    let none : any_where (from_clock (k.at + 1) (replies_line p line)) m ≡ false =
    any_where-off (from_clock (k.at + 1) (replies_line p line)) m (λ u below.
    any_where-none (from_clock (k.at + 1) (replies_line p line)) n k.since u (omega arith)) in
    rw (last, deferral_below, none) k.made

deferral-is : (outcome : Outcome) → is_deferral outcome ≡ true → outcome ≡ Deferred
unfolding is_deferral
deferral-is outcome h1 = grind arith

-- behind the snoop end of a request that is neither granted nor deferred nothing of its line is granted to its
-- agent until it has its end
not-granted-later : (r : Run) (a line c t u : ℕ) (s : SnoopEnd) (claim : Claim) → Timely r → KeepsBounds r.plan
    → c < length r.trace → snooped_at (past_of r) t ≡ Some s → s.claim ≡ Some claim → claim.agent ≡ a
    → claim.line ≡ line
    → is_end_at (past_of r) c s.first ≡ true → s.outcome ≢ Deferred → t < u → u ≤ c
    → is_granted (past_of r) a line u ≡ true → ⊥
not-granted-later r a line c t u s claim h bounds l there claims agent names ends plain less low granted =
    let g = granted-settled r a line u h bounds (omega arith) granted in
    by g.0 g.1 g.2 g.0.claim refl
  where
    by : (e : SnoopEnd) → snooped_at (past_of r) u ≡ Some e → is_settled_for a line e ≡ true → (o : Option Claim)
        → e.claim ≡ o → ⊥
    by e later settles (Some other) others =
        let own = own-claim a line e other others settles in
        no-second r a line c t u s e claim other h bounds l there claims agent names ends later others own.0 own.1
        less low
    by e later settles None others =
        let p : Past = past_of r in
        let grant = own-grant a line e others settles in
        let replied = (clock-facts r line u h bounds
        (omega arith)).settles.replied e grant.0 later others grant.1 grant.3 in
        let d : LineDeferral = replied.deferral in
        let k = deferred-at p line u d replied.pending in
        let k_below : k.at < u = k.below in
        let whose : d.agent ≡ a = sym replied.agent ∙ grant.2 in
        elim (cases_lt t k.at) [
          | inl after ↦
              no-second r a line c t k.at s k.end claim k.claim h bounds l there claims agent names ends k.there
              k.claims
              (k.agent ∙ whose) k.names after (omega arith)
          | inr not_after ↦ elim (cases_eq t k.at) [
            | inl same ↦
                let both : Some s ≡ Some k.end = sym there ∙ ap (snooped_at p) same ∙ k.there in
                let is : s ≡ k.end = cc in
                plain (ap (λ (x : SnoopEnd). x.outcome) is ∙ deferral-is k.end.outcome k.deferred)
            | inr apart ↦
                let mine = own-open r a line t s claim h bounds (omega arith) there claims agent names in
                let tied = tied-at r line t h bounds (omega arith) in
                let pending = deferral-then p line u t d (omega arith) k (omega arith) in
                let none : (machine_at r line t).ask a ≡ None = grind arith in
                let both = sym none ∙ tied.tied.opened a (record { kind = mine.0; number = s.first }) mine.1 in
                (let no : ⊥ = cc in no)
          ]
        ]

unended-before : (p : Past) (m n q : ℕ) → m ≤ n → is_ended p n q ≡ false → is_ended p m q ≡ false
unfolding is_ended
unended-before p m n q low none =
    any_where-off (λ t. is_end_at p t q) m (λ t below. any_where-none (λ t. is_end_at p t q) n none t (omega arith))

-- so at its end its agent awaits nothing on the line
pub ungranted-unawaited : (r : Run) (a c : ℕ) (s : SnoopEnd) (out : OwnRequest) → Timely r → KeepsBounds r.plan
    → c < length r.trace → IsOwnEnd (past_of r) a c s out → s.grant ≡ None → s.outcome ≢ Deferred
    → is_awaited (past_of r) a out.request.line (c + 1) c ≡ false
ungranted-unawaited r a c s out h bounds l k none plain = by s.claim refl
  where
    by : (o : Option Claim) → s.claim ≡ o → is_awaited (past_of r) a out.request.line (c + 1) c ≡ false
    by None claims =
        let g = own-grant a out.request.line s claims k.snooped.settles in
        absurd (let both = sym none ∙ g.1 in let no : ⊥ = cc in no)
    by (Some claim) claims =
        let p : Past = past_of r in
        let line : ℕ = out.request.line in
        let own = own-claim a line s claim claims k.snooped.settles in
        let gap = snooped-before r c k.at s h l k.snooped.there k.ends in
        false_from_ne_true (is_awaited p a line (c + 1) c) (λ e.
        let w = awaits-by p a line (c + 1) c e in
        let w_below : w.at < c + 1 = w.below in
        elim (cases_lt k.at w.at) [
          | inl after ↦
              not-granted-later r a line c k.at w.at s claim h bounds l k.snooped.there claims own.0 own.1 k.ends
              plain after
              (omega arith) w.granted
          | inr not_after ↦ elim (cases_eq k.at w.at) [
            | inl same ↦
                let both : Some s ≡ Some w.end = sym k.snooped.there ∙ ap (snooped_at p) same ∙ w.there in
                let is : s ≡ w.end = cc in
                let made = sym none ∙ ap (λ (x : SnoopEnd). x.grant) is ∙ w.made in
                (let no : ⊥ = cc in no)
            | inr apart ↦
                let last = last-cut (is_granted p a line) (c + 1) k.at w.at (omega arith) (omega arith) w.last in
                let unended : is_ended p k.at w.grant.first ≡ false = grind (arith, unended-before) in
                both_ways (is_awaited p a line k.at k.at)
                (settled-unawaited r a line k.at s h bounds (omega arith) k.snooped.there k.snooped.settles)
                (awaited-from p a line k.at k.at w.at w.end w.grant last w.there w.made unended)
          ]
        ])
