-- An agent gives the bytes of the request that responds exactly where it is named as the giver of what is
-- awaited after the request's snoop end.
use Rattle.fsb_agent_run.proofs.Words
use Words.{ℕ, ◌+◌, ◌<◌, ◌≤◌, ◌≡◌, Bool, true, false, ◌&&◌, ◌||◌, if◌then◌else◌, Option, Some, None, length, nat_eq}
use Words.{refl, sym, ap, subst, ◌∙◌, arith, option_and_then, both_ways, eqb-true, false_from_ne_true, first_where}
use Words.{is_at, is_some_and, any_where-at, any_where-off, first_where-at, Kind, Outcome, Granted, Handed, Retried}
use Words.{Deferred, Written, Replied, Failed, Upgraded, Claim, Grant, Past, SnoopEnd, snooped_at, is_got, is_snoop_of}
use Words.{is_upgraded, makes_grant, Run, past_of, Timely, KeepsBounds, some-and, Awaited, awaited_by, awaited_by_claim}
use Words.{awaited_by_grant, is_written, responded_in, fits_kind, fits_write_back, giver_at, answers-in-order}
use Words.{awaits-grant, clock-facts, is-found, none-before, uncontested, writes-back-alone, giver_after_snoop}
use Words.{giver_of, claim_given_at, gives_claim, is_given_below}
use Rattle.fsb_agent_run.proofs.GivenBytes.{claim-given, given, none-claimed, same-first, written-ungranted}

-- after a snoop end by which nobody gives bytes nobody is named
unnamed : (p : Past) (t : ℕ) (s : SnoopEnd) → ((a line : ℕ) → giver_at p line t a s ≡ None)
    → giver_after_snoop p t s ≡ None
unfolding giver_after_snoop
unnamed p t s none = grind arith

awaits : (p : Past) (t : ℕ) (s : SnoopEnd) (awaited : Awaited) → awaited_by s ≡ Some awaited
    → giver_after_snoop p t s ≡ giver_at p awaited.line t awaited.agent s
unfolding giver_after_snoop
awaits p t s awaited e = rw e refl

handed-granted : (kind : Kind) (outcome : Outcome) (won : Bool) (grant : Grant) → outcome ≡ Handed
    → fits_kind kind outcome ≡ true
    → (if makes_grant kind outcome || (is_upgraded outcome && won) then Some grant else None) ≡ Some grant
unfolding fits_kind fits_write_back makes_grant is_got is_upgraded
handed-granted kind outcome won grant h1 h2 = grind arith

by-grant : (outcome : Outcome) (grant : Grant) → ((awaited_by_grant outcome grant).line ≡ grant.line)
    × ((awaited_by_grant outcome grant).agent ≡ grant.agent)
unfolding awaited_by_grant
by-grant outcome grant = (refl, refl)

by-claim : (claim : Claim)
    → ((awaited_by_claim claim).line ≡ claim.line) × ((awaited_by_claim claim).agent ≡ claim.agent)
unfolding awaited_by_claim
by-claim claim = (refl, refl)

by-write-back : (s : SnoopEnd) (claim : Claim) → s.grant ≡ None → s.outcome ≡ Written → s.claim ≡ Some claim
    → awaited_by s ≡ Some (awaited_by_claim claim)
unfolding awaited_by is_written
by-write-back s claim none e claims = rw (none, e, claims) refl

-- what is awaited after the snoop end of an agent's request names the giver of the claim
named-giver : (r : Run) (t : ℕ) (s : SnoopEnd) (claim : Claim) → Timely r → KeepsBounds r.plan → t < length r.trace
    → snooped_at (past_of r) t ≡ Some s → s.claim ≡ Some claim
    → giver_after_snoop (past_of r) t s ≡ giver_at (past_of r) claim.line t claim.agent s
unfolding giver_at
named-giver r t s claim h bounds l there claims = by s.outcome refl
  where
    nobody : ((a line : ℕ) → giver_at (past_of r) line t a s ≡ None)
        → giver_after_snoop (past_of r) t s ≡ giver_at (past_of r) claim.line t claim.agent s
    nobody none = unnamed (past_of r) t s none ∙ sym (none claim.agent claim.line)

    awaiting : (awaited : Awaited) → awaited_by s ≡ Some awaited → awaited.line ≡ claim.line
        → awaited.agent ≡ claim.agent
        → giver_after_snoop (past_of r) t s ≡ giver_at (past_of r) claim.line t claim.agent s
    awaiting awaited e names agent = grind (arith, awaits)

    by : (outcome : Outcome) → s.outcome ≡ outcome
        → giver_after_snoop (past_of r) t s ≡ giver_at (past_of r) claim.line t claim.agent s
    by Granted e = nobody (λ a line. rw e refl)
    by Handed e =
        let fits = ((clock-facts r claim.line t h bounds l).settles.settled s claim there claims refl).fits in
        let free = uncontested r claim.line t s (writes-back-alone r h bounds) there fits in
        let grant : Grant = record {
          first = s.first;
          agent = fits.agent;
          line = claim.line;
          owns = fits.owns;
          shared = fits.shared;
        } in
        let made = fits.granted ∙ handed-granted fits.kind s.outcome fits.won grant e (fits.fits free) in
        awaiting (awaited_by_grant s.outcome grant) (awaits-grant s grant made) (by-grant s.outcome grant).0
        ((by-grant s.outcome grant).1 ∙ sym (same-first (past_of r) claim.line t s claim claims fits).1)
    by Retried e = nobody (λ a line. rw e refl)
    by Deferred e = nobody (λ a line. rw e refl)
    by Written e =
        let fits = ((clock-facts r claim.line t h bounds l).settles.settled s claim there claims refl).fits in
        let grant : Grant = record {
          first = s.first;
          agent = fits.agent;
          line = claim.line;
          owns = fits.owns;
          shared = fits.shared;
        } in
        let none = fits.granted ∙ written-ungranted fits.kind s.outcome fits.won grant e
        (fits.fits (λ k handed. let both = sym e ∙ handed in let no : ⊥ = cc in no)) in
        awaiting (awaited_by_claim claim) (by-write-back s claim none e claims) (by-claim claim).0 (by-claim claim).1
    by Replied e = nobody (λ a line. rw e refl)
    by Failed e = nobody (λ a line. rw e refl)
    by Upgraded e = nobody (λ a line. rw e refl)

-- no reply has a giver
replied-giver : (r : Run) (t : ℕ) (s : SnoopEnd) → Timely r → KeepsBounds r.plan → t < length r.trace
    → snooped_at (past_of r) t ≡ Some s → s.claim ≡ None → giver_after_snoop (past_of r) t s ≡ None
unfolding giver_after_snoop awaited_by giver_at
replied-giver r t s h bounds l there none = by s.grant refl (is_written s.outcome) refl
  where
    by : (o : Option Grant) → s.grant ≡ o → (b : Bool) → is_written s.outcome ≡ b
        → giver_after_snoop (past_of r) t s ≡ None
    by (Some grant) made b f =
        let replied = (clock-facts r grant.line t h bounds l).settles.replied s grant there none made refl in
        rw (made, replied.replied) refl
    by None made true f = rw (made, f, none) refl
    by None made false f = rw (made, f) refl

-- the snoop end of the request that responds
record RespondsTo (r : Run) (c q : ℕ) : Type 0 where
  at : ℕ
  end : SnoopEnd
  there : snooped_at (past_of r) at ≡ Some end
  first : end.first ≡ q
  before : at + 2 ≤ c

responds-to : (r : Run) (c q : ℕ) → Timely r → c < length r.trace → responded_in (past_of r) c ≡ Some q
    → RespondsTo r c q
responds-to r c q h l e =
    let k = (answers-in-order r h).snooped c q l e in
    record { at = k.at; end = k.end; there = k.there; first = k.first; before = k.before }

giver-found : (r : Run) (c q : ℕ) → Timely r → (k : RespondsTo r c q)
    → giver_of (past_of r) c q ≡ giver_after_snoop (past_of r) k.at k.end
unfolding giver_of
giver-found r c q h k =
    let p : Past = past_of r in
    let before : k.at + 2 ≤ c = k.before in
    let test : ℕ → Bool = λ t. is_some_and (snooped_at p t) (is_snoop_of q) in
    let found : first_where test (c + 1) ≡ Some k.at =
    first_where-at test (c + 1) k.at (omega arith)
    (ap (λ x. is_some_and (snooped_at p k.at) (is_snoop_of x)) (sym k.first) ∙ is-found p k.at k.end k.there)
    (λ u low. ap (λ x. is_some_and (snooped_at p u) (is_snoop_of x)) (sym k.first)
    ∙ none-before p (length r.trace) k.at u k.end (answers-in-order r h) k.there low) in
    ap (option_and_then (λ t. option_and_then (giver_after_snoop p t) (snooped_at p t))) found
    ∙ ap (option_and_then (giver_after_snoop p k.at)) k.there

given-found : (r : Run) (a c q : ℕ) → Timely r → KeepsBounds r.plan → c < length r.trace → (k : RespondsTo r c q)
    → is_given_below (past_of r) a c q ≡ is_some_and (claim_given_at (past_of r) a k.at) (λ claim. nat_eq claim.first q)
unfolding is_given_below
given-found r a c q h bounds l k =
    by (is_some_and (claim_given_at (past_of r) a k.at) (λ claim. nat_eq claim.first q)) refl
  where
    by : (b : Bool) → is_some_and (claim_given_at (past_of r) a k.at) (λ claim. nat_eq claim.first q) ≡ b
        → is_given_below (past_of r) a c q
        ≡ is_some_and (claim_given_at (past_of r) a k.at) (λ claim. nat_eq claim.first q)
    by true e =
        let before : k.at + 2 ≤ c = k.before in
        any_where-at (λ t. is_some_and (claim_given_at (past_of r) a t) (λ claim. nat_eq claim.first q)) c k.at
        (omega arith) e
        ∙ sym e
    by false e =
        any_where-off (λ t. is_some_and (claim_given_at (past_of r) a t) (λ claim. nat_eq claim.first q)) c (λ u low.
        false_from_ne_true (is_some_and (claim_given_at (past_of r) a u) (λ claim. nat_eq claim.first q)) (λ t.
        let x = some-and (claim_given_at (past_of r) a u) (λ (claim : Claim). nat_eq claim.first q) t in
        let g = given r a u x.0 h bounds (omega arith) x.1 in
        let first : g.at.end.first ≡ k.end.first = sym g.first ∙ eqb-true x.0.first q x.2 ∙ sym k.first in
        let same : u ≡ k.at = (answers-in-order r h).one_snoop u k.at g.at.end k.end g.at.there k.there first in
        both_ways (is_some_and (claim_given_at (past_of r) a k.at) (λ claim. nat_eq claim.first q)) e
        (subst (λ y. is_some_and (claim_given_at (past_of r) a y) (λ claim. nat_eq claim.first q) ≡ true) same t)))
        ∙ sym e

given-there : (r : Run) (a c q : ℕ) → Timely r → KeepsBounds r.plan → c < length r.trace → (k : RespondsTo r c q)
    → (o : Option Claim) → k.end.claim ≡ o
    → is_some_and (claim_given_at (past_of r) a k.at) (λ claim. nat_eq claim.first q)
    ≡ is_at (giver_after_snoop (past_of r) k.at k.end) a
unfolding is_some_and is_at gives_claim
given-there r a c q h bounds l k None claims =
    let before : k.at + 2 ≤ c = k.before in
    rw (
      none-claimed (past_of r) a k.at k.end k.there claims,
      replied-giver r k.at k.end h bounds (omega arith) k.there claims,
    ) refl
given-there r a c q h bounds l k (Some claim) claims =
    let before : k.at + 2 ≤ c = k.before in
    let fits = ((clock-facts r claim.line k.at h bounds
    (omega arith)).settles.settled k.end claim k.there claims refl).fits in
    let first : nat_eq claim.first q ≡ true = grind arith in
    ap (λ o. is_some_and o (λ (x : Claim). nat_eq x.first q)) (claim-given
    (past_of r) a k.at k.end claim k.there claims)
    ∙ either (gives_claim (past_of r) a k.at k.end claim) first
    ∙ ap (λ o. is_at o a) (sym (named-giver r k.at k.end claim h bounds (omega arith) k.there claims))
  where
    either : (b : Bool) → nat_eq claim.first q ≡ true
        → is_some_and (if b then Some claim else None) (λ (x : Claim). nat_eq x.first q) ≡ b
    either b h1 = grind arith

pub given-named : (r : Run) (a c q : ℕ) → Timely r → KeepsBounds r.plan → c < length r.trace
    → responded_in (past_of r) c ≡ Some q → is_given_below (past_of r) a c q ≡ is_at (giver_of (past_of r) c q) a
given-named r a c q h bounds l e =
    let k = responds-to r c q h l e in
    given-found r a c q h bounds l k ∙ given-there r a c q h bounds l k k.end.claim refl
    ∙ ap (λ o. is_at o a) (sym (giver-found r c q h k))
