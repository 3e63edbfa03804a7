-- A clock without a snoop end on the line: the line of the machine behind it is that of before.
use Rattle.fsb_coherent.proofs.Words
use Words.{ℕ, ◌≡◌, Bool, false, not, ◌&&◌, ◌||◌, ◌++◌, if◌then◌else◌, nat_eq, [], Option, Some, None, refl, sym, ap}
use Words.{◌∙◌, append-nil, arith, and-true, and_right, eq-eqb, option_map_or, is_some_and, MemoryLine, OpenRequest}
use Words.{is_held, is_modified, is_sole, Claim, Grant, Past, SnoopEnd, grant_at, is_claim_of, is_claim_of_other}
use Words.{is_granted, is_named_by_other, is_snooped, is_sole_grant, is_taken_away, is_written_back, snooped_at}
use Words.{is_snoop_of, Awaited, awaited_by, awaited_by_claim, awaited_by_grant, SettlesInOrder, chain_below}
use Words.{deferral_at, deferral_below, defers_line, link_for, replies_line, IsOpenThrough, TiedThrough}
use Rattle.fsb_coherent.proofs.Behind.{TiedBehind, links_new}
use Rattle.fsb_coherent.proofs.FromThrough.{dirty-from, exclusive-from, holds-from, open-behind, open-through}
use Rattle.fsb_coherent.proofs.Steps.{deferral-more}

-- no snoop end at n is on the line: none grants it, takes it, names it, links to it, or is that of an open request for
-- it
pub record IsElsewhere (p : Past) (line n : ℕ) : Type 0 where
  pub granted : (a : ℕ) → is_granted p a line n ≡ false
  pub written : (a : ℕ) → is_written_back p a line n ≡ false
  pub taken : (a : ℕ) → is_taken_away p a line n ≡ false
  pub named : (a : ℕ) → is_named_by_other p a line n ≡ false
  pub links : links_new p line n ≡ []
  pub defers : defers_line p line n ≡ false
  pub replies : replies_line p line n ≡ false
  pub others : (a : ℕ) (request : OpenRequest) → IsOpenThrough p a line n request
      → is_some_and (snooped_at p n) (is_snoop_of request.number) ≡ false

still : (b : Bool) → (b && (not (false || false) && not false)) ≡ b
still b = grind arith

behind-elsewhere : (p : Past) (line n : ℕ) (x : MemoryLine) → IsElsewhere p line n → TiedThrough p line n x
    → TiedBehind p line n x
behind-elsewhere p line n x e h = record {
  held = λ a.
      sym (holds-from p line n x h a
      ∙ (λ i. e.granted a i || (is_held (x.state a) && not (e.written a i || e.taken a i)))
      ∙ and-true (is_held (x.state a)));
  sole = λ a.
      sym (exclusive-from p line n x h a
      ∙ (λ i. if e.granted a i then is_some_and (grant_at p n) is_sole_grant else (is_sole (x.state a) &&
      (not (e.written a i || e.taken a i) && not (e.named a i))))
      ∙ still (is_sole (x.state a)));
  modified = λ a.
      sym (dirty-from p line n x h a
      ∙ (λ i. if e.granted a i then is_some_and (grant_at p n)
      (λ grant. grant.owns) else (is_modified (x.state a) && (not (e.written a i || e.taken a i) && not (e.named a i))))
      ∙ still (is_modified (x.state a)));
  asked = λ a request f. let o = h.asked a request f in open-behind p a line n request o (e.others a request o);
  opened = λ a request o. h.opened a request (open-through p a line n request o).0;
  chain = h.chain ∙ sym (ap (λ ls. chain_below p line n ++ ls) e.links ∙ append-nil (chain_below p line n));
  deferral = h.deferral ∙ sym (deferral-more p line n
      ∙ (λ i. if e.defers i then deferral_at p line n else (if e.replies i then None else deferral_below p line n)));
  moved = h.moved;
}

-- there is no snoop end at n
elsewhere-none : (p : Past) (line n : ℕ) → snooped_at p n ≡ None → IsElsewhere p line n
unfolding is_granted grant_at is_written_back is_taken_away is_named_by_other defers_line replies_line is_some_and
elsewhere-none p line n e = grind arith

-- who is not for the line grants, claims and awaits none of it
claim-off : (a line : ℕ) (claim : Claim) → nat_eq claim.line line ≡ false → is_claim_of a line claim ≡ false
unfolding is_claim_of
claim-off a line claim e = and_right (nat_eq claim.agent a) (nat_eq claim.line line) e

other-off : (a line : ℕ) (claim : Claim) → nat_eq claim.line line ≡ false → is_claim_of_other a line claim ≡ false
unfolding is_claim_of_other
other-off a line claim e = and_right (not (nat_eq claim.agent a)) (nat_eq claim.line line) e

links-off : (p : Past) (line n : ℕ) (s : SnoopEnd) (o : Option Awaited)
    → ((awaited : Awaited) → o ≡ Some awaited → nat_eq awaited.line line ≡ false)
    → option_map_or (link_for p line n s) o [] ≡ []
unfolding link_for
links-off p line n s o h1 = grind arith

-- the grant, where there is one, is of another line
abbrev GrantsOff : ℕ → Option Grant → Type 0
GrantsOff line o = (grant : Grant) → o ≡ Some grant → nat_eq grant.line line ≡ false

grant-off : (a line : ℕ) (o : Option Grant) → GrantsOff line o
    → is_some_and o (λ grant. nat_eq grant.agent a && nat_eq grant.line line) ≡ false
unfolding is_some_and
grant-off a line o h1 = grind arith

grant-line-off : (line : ℕ) (o : Option Grant) → GrantsOff line o
    → is_some_and o (λ grant. nat_eq grant.line line) ≡ false
unfolding is_some_and
grant-line-off line o h1 = grind arith

grant-of : (p : Past) (n : ℕ) (s : SnoopEnd) → snooped_at p n ≡ Some s → grant_at p n ≡ s.grant
unfolding grant_at
grant-of p n s e = rw e refl

granted-off : (p : Past) (a line n : ℕ) (s : SnoopEnd) → snooped_at p n ≡ Some s → GrantsOff line s.grant
    → is_granted p a line n ≡ false
unfolding is_granted
granted-off p a line n s e h = grind (arith, grant-of, grant-off)

-- what a snoop end without a claim, or with the claim of another line, awaits on the line
awaits-claimed : (line : ℕ) (s : SnoopEnd) (claim : Claim) (o : Option Grant) → s.grant ≡ o → s.claim ≡ Some claim
    → nat_eq claim.line line ≡ false → GrantsOff line o
    → (awaited : Awaited) → awaited_by s ≡ Some awaited → nat_eq awaited.line line ≡ false
unfolding awaited_by awaited_by_claim awaited_by_grant
awaits-claimed line s claim o h1 h2 h3 h4 awaited h5 = grind arith

awaits-unclaimed : (line : ℕ) (s : SnoopEnd) (o : Option Grant) → s.grant ≡ o → s.claim ≡ None → GrantsOff line o
    → (awaited : Awaited) → awaited_by s ≡ Some awaited → nat_eq awaited.line line ≡ false
unfolding awaited_by awaited_by_grant
awaits-unclaimed line s o h1 h2 h3 awaited h4 = grind arith

-- the snoop end is not that of an open request for the line
pub not-its-own : (p : Past) (a line n : ℕ) (request : OpenRequest) (s : SnoopEnd) → SettlesInOrder p line n
    → snooped_at p n ≡ Some s
    → IsOpenThrough p a line n request → (s.claim ≡ Some (record { first = request.number; agent = a; line = line })
    → ⊥)
    → is_some_and (snooped_at p n) (is_snoop_of request.number) ≡ false
unfolding is_some_and is_snoop_of
not-its-own p a line n request s f e o other = grind arith

-- it is that of a request for another line
elsewhere-claimed : (p : Past) (line n : ℕ) (s : SnoopEnd) (claim : Claim) → SettlesInOrder p line n
    → snooped_at p n ≡ Some s → s.claim ≡ Some claim
    → nat_eq claim.line line ≡ false → IsElsewhere p line n
unfolding is_written_back is_taken_away is_named_by_other is_snooped defers_line replies_line is_some_and
elsewhere-claimed p line n s claim f e g off =
    grind (arith, granted-off, claim-off, other-off, links-off, awaits-claimed, and_right, not-its-own, eq-eqb)

-- it is that of a reply that does not grant the line
elsewhere-unclaimed : (p : Past) (line n : ℕ) (s : SnoopEnd) → SettlesInOrder p line n → snooped_at p n ≡ Some s
    → s.claim ≡ None
    → GrantsOff line s.grant → IsElsewhere p line n
unfolding is_written_back is_taken_away is_named_by_other is_snooped defers_line replies_line is_some_and
elsewhere-unclaimed p line n s f e g grants =
    grind (arith, granted-off, links-off, awaits-unclaimed, and_right, grant-line-off, not-its-own)

-- the line of the machine stays that of the run where there is no snoop end, and where it is on another line
pub behind-none : (p : Past) (line n : ℕ) (x : MemoryLine) → TiedThrough p line n x → snooped_at p n ≡ None
    → TiedBehind p line n x
behind-none p line n x h e = behind-elsewhere p line n x (elsewhere-none p line n e) h

pub behind-claimed : (p : Past) (line n : ℕ) (x : MemoryLine) (s : SnoopEnd) (claim : Claim) → TiedThrough p line n x
    → SettlesInOrder p line n
    → snooped_at p n ≡ Some s → s.claim ≡ Some claim → nat_eq claim.line line ≡ false → TiedBehind p line n x
behind-claimed p line n x s claim h f e g off =
    behind-elsewhere p line n x (elsewhere-claimed p line n s claim f e g off) h

pub behind-unclaimed : (p : Past) (line n : ℕ) (x : MemoryLine) (s : SnoopEnd) → TiedThrough p line n x
    → SettlesInOrder p line n
    → snooped_at p n ≡ Some s → s.claim ≡ None → ((grant : Grant) → s.grant ≡ Some grant
    → nat_eq grant.line line ≡ false) → TiedBehind p line n x
behind-unclaimed p line n x s h f e g off = behind-elsewhere p line n x (elsewhere-unclaimed p line n s f e g off) h
