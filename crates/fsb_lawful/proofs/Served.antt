-- A grant, as the whole trace shows it: the live request whose snoop end makes it, and the one that it serves.
use Rattle.fsb_lawful.proofs.Words
use Words.{ℕ, ◌+◌, ◌<◌, ◌≡◌, Bool, true, false, ◌&&◌, List, Option, Some, length, nat_eq, refl, sym, ap, subst, ◌∙◌}
use Words.{◌⊎◌, arith, option_and_then, and_parts, eqb-true, is_some_and, first_where-found, is_at-some, Outcome, Trace}
use Words.{reply_number_of, is_settled_deferred, is_reply, live_clock_of, live_request_of, snoop_end_of, AgreeTo-sym}
use Words.{snoop_end_of-stays, grant_at, is_granted, snooped_at, claim_at, gives_line, grant_for, grant_of, grant_to}
use Words.{is_answered_by, live_claim_of, moment_at, number_snooped_at, served_number, snoop_at, snoop_end_if_begun}
use Words.{turns_in, Claim, Grant, Past, SnoopEnd, Run, moments_below, past_of, past_with, run_to, IsSnoopOf, moment_of}
use Words.{number-says, snoop-tied, snooped-there}
use Rattle.fsb_lawful.proofs.Cuts.{run_to-agrees}

pub some-and : {A : Type 0} (o : Option A) (test : A → Bool) → is_some_and o test ≡ true
    → (x : A) × (o ≡ Some x) × (test x ≡ true)
unfolding is_some_and
some-and o test h1 = grind arith

pub and-then : {A B : Type 0} (f : A → Option B) (o : Option A) (y : B) → option_and_then f o ≡ Some y
    → (x : A) × (o ≡ Some x) × (f x ≡ Some y)
and-then f o y h1 = grind arith

-- live request i is no reply, and serves itself
pub record ServesItself (w : Trace) (i j : ℕ) : Type 0 where
  pub same : j ≡ i
  pub no_reply : is_reply (live_request_of w i) ≡ false

-- live request i is the reply to live request j, which was settled as Deferred
pub record ServesOther (w : Trace) (turns : List ℕ) (i j : ℕ) : Type 0 where
  pub before : j < i
  pub deferred : is_settled_deferred w turns j ≡ true
  pub reply : reply_number_of w j ≡ Some i

-- live request i serves live request j
abbrev pub Serves : Trace → List ℕ → ℕ → ℕ → Type 0
Serves w turns i j = ServesItself w i j ⊎ ServesOther w turns i j

answered-parts : (w : Trace) (turns : List ℕ) (i j : ℕ) → is_answered_by w turns i j ≡ true
    → (is_settled_deferred w turns j ≡ true) × (reply_number_of w j ≡ Some i)
unfolding is_answered_by
answered-parts w turns i j e = grind (arith, is_at-some)

serves-by : (w : Trace) (turns : List ℕ) (i j : ℕ) (b : Bool) → is_reply (live_request_of w i) ≡ b
    → served_number w turns i ≡ Some j → Serves w turns i j
unfolding served_number
serves-by w turns i j b h1 h2 = grind (arith, first_where-found, answered-parts)

given-by : (p : Past) (w : Trace) (i q s : ℕ) (outcome : Outcome) (grant : Grant) (b : Bool)
    → gives_line p w q s outcome ≡ b → grant_of p w i q s outcome ≡ Some grant
    → option_and_then (grant_for w q s) (served_number w (turns_in p.moments) i) ≡ Some grant
unfolding grant_of
given-by p w i q s outcome grant b h1 h2 = grind arith

-- what a grant takes from the claim that it serves
grant-claim : (w : Trace) (q s j : ℕ) (grant : Grant) → grant_for w q s j ≡ Some grant
    → (claim : Claim) × (live_claim_of w j ≡ Some claim) × (claim.agent ≡ grant.agent) × (claim.line ≡ grant.line)
    × (q ≡ grant.first)
unfolding grant_for grant_to
grant-claim w q s j grant e = grind arith

claim-there : (w : Trace) (j : ℕ) (claim : Claim) → live_claim_of w j ≡ Some claim
    → (q : ℕ) × (live_clock_of w j ≡ Some q) × (claim_at w q ≡ Some claim)
unfolding live_claim_of
claim-there w j claim e = and-then (claim_at w) (live_clock_of w j) claim e

-- each snoop end of a moment is that of a live request of the whole trace
snooped-number : (r : Run) (t : ℕ) (s : SnoopEnd) → t < length r.trace → snooped_at (past_of r) t ≡ Some s
    → (i : ℕ) × IsSnoopOf r i t s
unfolding moment_at snoop_at
snooped-number r t s l e =
    let u = (run_to r t).trace in
    let shown : (moment_of r t).snooped ≡ Some s = sym (snooped-there r t l) ∙ e in
    let begun = snoop_end_if_begun (past_with r (moments_below r t) t) (run_to r t).choices u t in
    let n = and-then begun (number_snooped_at u t) s shown in
    let back = AgreeTo-sym (t + 1) r.trace u (run_to-agrees r t l) in
    let end = snoop_end_of-stays (t + 1) u r.trace n.0 t back (omega arith) (number-says u n.0 t n.1) in
    let tied = snoop-tied r n.0 t end in
    let there = tied.1.there in
    let same : tied.0 ≡ s = cc in
    (n.0, subst (IsSnoopOf r n.0 t) same tied.1)

-- the line is granted to agent a at t, the snoop end of a live request; this one serves a request of a for the line
pub record IsGrantedBy (r : Run) (a line t : ℕ) : Type 0 where
  pub number : ℕ
  pub is_snoop : snoop_end_of r.trace number ≡ Some t
  pub grant : Grant
  pub granted : grant_at (past_of r) t ≡ Some grant
  pub is_first : live_clock_of r.trace number ≡ Some grant.first
  pub served : ℕ
  pub serves : Serves r.trace (turns_in (past_of r).moments) number served
  pub begun : ℕ
  pub is_begun : live_clock_of r.trace served ≡ Some begun
  pub claim : Claim
  pub claims : claim_at r.trace begun ≡ Some claim
  pub agent : claim.agent ≡ a
  pub names : claim.line ≡ line

pub granted-by : (r : Run) (a line t : ℕ) → t < length r.trace → is_granted (past_of r) a line t ≡ true
    → IsGrantedBy r a line t
unfolding is_granted grant_at
granted-by r a line t l e =
    let turns = turns_in (past_of r).moments in
    let g = some-and (grant_at (past_of r) t) (λ (grant : Grant). nat_eq grant.agent a && nat_eq grant.line line) e in
    let grant : Grant = g.0 in
    let names = and_parts (nat_eq grant.agent a) (nat_eq grant.line line) g.2 in
    let s = and-then (λ (s : SnoopEnd). s.grant) (snooped_at (past_of r) t) grant g.1 in
    let tied = snooped-number r t s.0 l s.1 in
    let i : ℕ = tied.0 in
    let q : ℕ = s.0.first in
    let gives = gives_line (past_of r) r.trace q t s.0.outcome in
    let given = given-by (past_of r) r.trace i q t s.0.outcome grant gives refl (sym tied.1.grant ∙ s.2) in
    let j = and-then (grant_for r.trace q t) (served_number r.trace turns i) grant given in
    let c = grant-claim r.trace q t j.0 grant j.2 in
    let b = claim-there r.trace j.0 c.0 c.1 in
    record {
      number = i;
      is_snoop = tied.1.reached;
      grant = grant;
      granted = g.1;
      is_first = tied.1.first ∙ ap Some c.4;
      served = j.0;
      serves = serves-by r.trace turns i j.0 (is_reply (live_request_of r.trace i)) refl j.1;
      begun = b.0;
      is_begun = b.1;
      claim = c.0;
      claims = b.2;
      agent = c.2 ∙ eqb-true grant.agent a names.0;
      names = c.3 ∙ eqb-true grant.line line names.1;
    }
