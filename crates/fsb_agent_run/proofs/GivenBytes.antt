-- The requests whose bytes an agent gives in a timely run.
use Rattle.fsb_agent_run.proofs.Words
use Words.{ℕ, ◌+◌, ◌<◌, ◌≤◌, ◌≡◌, ◌≢◌, ◌⊎◌, Bool, true, false, ◌&&◌, ◌||◌, if◌then◌else◌, Some, None, length, nat_eq}
use Words.{refl, sym, ap, ◌∙◌, arith, eqb-true, false_from_ne_true, is_at, is_some_and, any_where-off}
use Words.{first_where-found, is_at-some, Kind, WriteBack, Outcome, Handed, Written, Claim, Grant, Past, SnoopEnd}
use Words.{begun_at, is_granted, snooped_at, is_dirty, is_got, is_upgraded, makes_grant, Run, past_of, past_to, Timely}
use Words.{KeepsBounds, some-and, owner_at, responded_in, IsSnoopOn, fits_getting, fits_kind, fits_upgrade}
use Words.{fits_write_back, giver_at, is_responded_below, answers-in-order, clock-facts, granted-parts, claim_given_at}
use Words.{claim_given_by, gives_claim, is_given_below}
use Rattle.fsb_coherent.specs.Facts.{IsSettledOn}

-- how an agent gives bytes by a snoop end: it hands its line over to another, being dirty on it, or writes it back
pub record GivesBy (p : Past) (a t : ℕ) (s : SnoopEnd) (claim : Claim) : Type 0 where
  pub way : ((s.outcome ≡ Handed) × (a ≢ claim.agent) × (is_dirty (past_to p t) a claim.line t ≡ true))
      ⊎ ((s.outcome ≡ Written) × (claim.agent ≡ a))

pub gives-by : (p : Past) (a t : ℕ) (s : SnoopEnd) (claim : Claim) → gives_claim p a t s claim ≡ true
    → GivesBy p a t s claim
unfolding gives_claim giver_at owner_at is_at is_some_and
gives-by p a t s claim e = grind (arith, first_where-found)

-- the snoop end by which an agent gives bytes
pub record GivesAt (p : Past) (a t : ℕ) (claim : Claim) : Type 0 where
  pub end : SnoopEnd
  pub there : snooped_at p t ≡ Some end
  pub claimed : end.claim ≡ Some claim
  pub gives : gives_claim p a t end claim ≡ true

pub gives-at : (p : Past) (a t : ℕ) (claim : Claim) → claim_given_at p a t ≡ Some claim → GivesAt p a t claim
unfolding claim_given_at claim_given_by
gives-at p a t claim e = grind arith

pub claim-given : (p : Past) (a t : ℕ) (s : SnoopEnd) (claim : Claim) → snooped_at p t ≡ Some s → s.claim ≡ Some claim
    → claim_given_at p a t ≡ (if gives_claim p a t s claim then Some claim else None)
unfolding claim_given_at claim_given_by
claim-given p a t s claim there claims = rw (there, claims) refl

pub none-snooped : (p : Past) (a t : ℕ) → snooped_at p t ≡ None → claim_given_at p a t ≡ None
unfolding claim_given_at
none-snooped p a t e = rw e refl

pub none-claimed : (p : Past) (a t : ℕ) (s : SnoopEnd) → snooped_at p t ≡ Some s → s.claim ≡ None
    → claim_given_at p a t ≡ None
unfolding claim_given_at claim_given_by
none-claimed p a t s there none = rw (there, none) refl

-- its request has the first clock of the claim, which began there, and the snoop end is settled as it must
pub record Given (r : Run) (a t : ℕ) (claim : Claim) : Type 0 where
  pub at : GivesAt (past_of r) a t claim
  pub first : claim.first ≡ at.end.first
  pub begun : begun_at (past_of r) claim.first ≡ Some claim
  pub settled : IsSettledOn (past_of r) claim.line t at.end

pub same-first : (p : Past) (line t : ℕ) (s : SnoopEnd) (claim : Claim) → s.claim ≡ Some claim
    → (k : IsSnoopOn p line t s)
    → (claim.first ≡ s.first) × (claim.agent ≡ k.agent)
same-first p line t s claim e k = grind arith

pub given : (r : Run) (a t : ℕ) (claim : Claim) → Timely r → KeepsBounds r.plan → t < length r.trace
    → claim_given_at (past_of r) a t ≡ Some claim → Given r a t claim
given r a t claim h bounds l e =
    let k = gives-at (past_of r) a t claim e in
    let facts = clock-facts r claim.line t h bounds l in
    let settled = facts.settles.settled k.end claim k.there k.claimed refl in
    let first = (same-first (past_of r) claim.line t k.end claim k.claimed settled.fits).0 in
    record {
      at = k;
      first = first;
      begun = ap (begun_at (past_of r)) first ∙ sym (facts.settles.claimed k.end k.there) ∙ k.claimed;
      settled = settled;
    }

-- what is written back is a write-back
pub written-kind : (kind : Kind) (outcome : Outcome) → outcome ≡ Written → fits_kind kind outcome ≡ true
    → kind ≡ WriteBack
unfolding fits_kind fits_getting fits_upgrade fits_write_back
written-kind kind outcome h1 h2 = grind arith

-- what is written back makes no grant
pub written-ungranted : (kind : Kind) (outcome : Outcome) (won : Bool) (grant : Grant) → outcome ≡ Written
    → fits_kind kind outcome ≡ true
    → (if makes_grant kind outcome || (is_upgraded outcome && won) then Some grant else None) ≡ None
unfolding fits_kind fits_getting fits_upgrade fits_write_back makes_grant is_got is_upgraded
written-ungranted kind outcome won grant h1 h2 = grind arith

-- an agent that gives bytes by a snoop end is granted no line there
pub given-ungranted : (r : Run) (a t line : ℕ) (claim : Claim) → Given r a t claim
    → is_granted (past_of r) a line t ≡ false
given-ungranted r a t line claim k = grind (arith, granted-parts, gives-by, written-ungranted)

-- a request has no response up to one clock behind its snoop end
pub unresponded : (r : Run) (t n : ℕ) (s : SnoopEnd) → Timely r → n ≤ length r.trace → n ≤ t + 2
    → snooped_at (past_of r) t ≡ Some s → is_responded_below (past_of r) n s.first ≡ false
unfolding is_responded_below
unresponded r t n s h l near there =
    let a = answers-in-order r h in
    any_where-off (λ u. is_at (responded_in (past_of r) u) s.first) n (λ u low.
    false_from_ne_true _ (λ e.
    let k = a.snooped u s.first (omega arith) (is_at-some (responded_in (past_of r) u) s.first e) in
    let same : k.at ≡ t = a.one_snoop k.at t k.end s k.there there k.first in
    let before : k.at + 2 ≤ u = k.before in
    omega arith))

-- a request is given by no snoop end below its own
pub not-given-before : (r : Run) (a c : ℕ) (s : SnoopEnd) → Timely r → KeepsBounds r.plan → c < length r.trace
    → snooped_at (past_of r) c ≡ Some s → is_given_below (past_of r) a c s.first ≡ false
unfolding is_given_below
not-given-before r a c s h bounds l there =
    let order = answers-in-order r h in
    any_where-off (λ t. is_some_and (claim_given_at (past_of r) a t) (λ claim. nat_eq claim.first s.first)) c (λ t low.
    false_from_ne_true _ (λ e.
    let g = some-and (claim_given_at (past_of r) a t) (λ (claim : Claim). nat_eq claim.first s.first) e in
    let k = given r a t g.0 h bounds (omega arith) g.1 in
    let first : k.at.end.first ≡ s.first = sym k.first ∙ eqb-true g.0.first s.first g.2 in
    let same : t ≡ c = order.one_snoop t c k.at.end s k.at.there there first in
    omega arith))
