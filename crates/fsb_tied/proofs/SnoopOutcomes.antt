-- How a request of a symmetric agent is settled: its outcome fits its kind, and its grant is the one that both make.
use Rattle.fsb_tied.proofs.Words
use Words.{ℕ, ◌+◌, ◌<◌, ◌≤◌, ◌≡◌, ◌≢◌, Bool, true, false, not, ◌&&◌, nat_eq, Option, Some, None, is_some, refl, sym, ap}
use Words.{subst, ◌∙◌, arith, inl, inr, both_ways, cases_lt, false_from_ne_true, ne_eqb, any_where, first_where}
use Words.{is_some_and, any_where-found, any_where-none, first_where-none, Kind, Upgrade, Request, are_lawful_fields}
use Words.{is_lawful_request, Turn, Keep, is_defer, is_never_held_up, HIT, HITM, line_at, Trace, request_at, Outcome}
use Words.{Handed, outcome_by_kind, is_reply, is_reply_kind, live_clock_of-stays, live_request_of-at, request_at-agree}
use Words.{snoop_end_of-stays, holds_line, is_exclusive, is_owning, is_dirty, claim_at, gives_line, grant_to}
use Words.{is_owner_request, is_shared_at, wins_race, Claim, Past, SnoopEnd, Run, past_of, past_to, run_to}
use Words.{is_dirty_elsewhere, is_held_elsewhere, Timely, owner_at, IsUncontested, fits_getting, fits_kind}
use Words.{fits_upgrade, fits_write_back, outcome_by_turn, outcome_under, own_grant, grant-made, outcome-made, grant_if}
use Words.{TurnFits, run_to-agrees, turned-at}
use Rattle.fsb_tied.proofs.SnoopClaims.{IsClaimed, IsSnooped}
use Rattle.fsb_tied.proofs.SnoopTold.{IsTold, dirty-whole, told-at}

-- the outcome of a request fits its kind
fits-by : (handed : Bool) (turn : Turn) (request : Request) (kind : Kind) → request.kind ≡ kind
    → is_reply_kind kind ≡ false
    → (is_never_held_up kind ≡ true → turn ≡ Keep) → (kind ≡ Upgrade → is_defer turn ≡ false)
    → IsUncontested kind (outcome_under handed turn (Some request))
    → fits_kind kind (outcome_under handed turn (Some request)) ≡ true
unfolding is_reply_kind outcome_under outcome_by_turn outcome_by_kind fits_kind fits_getting fits_upgrade
    fits_write_back
fits-by handed turn request kind h1 h2 h3 h4 h5 = grind arith

-- an upgrade has no DEN#
upgrade-plain : (request : Request) (kind : Kind) → request.kind ≡ kind → kind ≡ Upgrade
    → is_lawful_request request ≡ true
    → request.den ≡ false
unfolding is_lawful_request are_lawful_fields
upgrade-plain request kind h1 h2 h3 = grind arith

undeferred : (turn : Turn) (den : Bool) → den ≡ false → (is_defer turn ≡ true → den ≡ true) → is_defer turn ≡ false
undeferred turn den plain has = false_from_ne_true (is_defer turn) (λ t. both_ways den plain (has t))

-- the turn is one that the request may have
pub turn-fits : (r : Run) (n i : ℕ) (s : SnoopEnd) (request : Request) → Timely r → IsSnooped r n i s
    → request_at r.trace s.first ≡ Some request → TurnFits s.turn request
turn-fits r n i s request h k e =
    let u = (run_to r n).trace in
    let above = k.above in
    let agree = run_to-agrees r n k.within in
    let reached = snoop_end_of-stays (n + 1) r.trace u i n agree (omega arith) k.tied.reached in
    let turned = turned-at r n i n h k.within reached in
    let clock = live_clock_of-stays (n + 1) r.trace u i s.first agree (omega arith) k.tied.first in
    let decoded = sym (request_at-agree (n + 1) r.trace u s.first agree (omega arith)) ∙ e in
    let asked = live_request_of-at u i s.first request clock decoded in
    let there = turned.there in
    let here = k.tied.there in
    let same : turned.end ≡ s = cc in
    subst (λ x. TurnFits x.turn request) same (turned.effective request asked)

-- the outcome that HITM#, the turn and the request make
pub outcome-shown : (r : Run) (n i : ℕ) (s : SnoopEnd) (request : Request) → IsSnooped r n i s
    → request_at r.trace s.first ≡ Some request
    → s.outcome ≡ outcome_under (line_at HITM r.trace n) s.turn (Some request)
outcome-shown r n i s request k e = grind (arith, outcome-made)

pub kind-fits : (r : Run) (n i : ℕ) (s : SnoopEnd) (claim : Claim) → Timely r → IsSnooped r n i s
    → (c : IsClaimed r s claim)
    → IsUncontested c.request.kind s.outcome → fits_kind c.request.kind s.outcome ≡ true
kind-fits r n i s claim h k c own =
    let kind = c.request.kind in
    let made = outcome-shown r n i s c.request k c.decoded in
    let fits = turn-fits r n i s c.request h k c.decoded in
    let as_made = fits-by (line_at HITM r.trace n) s.turn c.request kind refl c.plain fits.keeps
    (λ u. undeferred s.turn c.request.den (upgrade-plain c.request kind refl u c.lawful) fits.has_den) in
    subst (λ o. IsUncontested kind o → fits_kind kind o ≡ true) (sym made) as_made own

-- only HITM# hands a line over
handed-by : (handed : Bool) (turn : Turn) (request : Request) (kind : Kind) → request.kind ≡ kind
    → outcome_under handed turn (Some request) ≡ Handed → handed ≡ true
unfolding outcome_under outcome_by_turn outcome_by_kind
handed-by handed turn request kind h1 h2 = grind arith

pub handed-told : (r : Run) (n i : ℕ) (s : SnoopEnd) (request : Request) → IsSnooped r n i s
    → request_at r.trace s.first ≡ Some request → s.outcome ≡ Handed → line_at HITM r.trace n ≡ true
handed-told r n i s request k e f =
    handed-by (line_at HITM r.trace n) s.turn request request.kind refl (sym (outcome-shown r n i s request k e) ∙ f)

under-handed : (turn : Turn) (o : Option Request) (handed : Bool) → handed ≡ true → outcome_under handed turn o ≡ Handed
unfolding outcome_under
under-handed turn o handed e = rw e refl

-- where it is not handed over, there is no HITM#
pub unhanded-told : (r : Run) (n i : ℕ) (s : SnoopEnd) → IsSnooped r n i s → s.outcome ≢ Handed
    → line_at HITM r.trace n ≡ false
unhanded-told r n i s k other =
    let handed = line_at HITM r.trace n in
    false_from_ne_true handed
    (λ t. other (outcome-made r n s k.tied.there ∙ under-handed s.turn (request_at r.trace s.first) handed t))

-- the grant that kind and outcome make
grant-form : (p : Past) (w : Trace) (q n : ℕ) (outcome : Outcome) (claim : Claim) (request : Request)
    → request_at w q ≡ Some request → claim_at w q ≡ Some claim
    → own_grant p w q n outcome claim
    ≡ grant_if q claim.agent claim.line request.kind outcome (holds_line p claim.agent claim.line n)
    (is_owning request.kind) (is_shared_at w n)
unfolding own_grant gives_line wins_race grant_to is_owner_request is_some_and
grant-form p w q n outcome claim request e f = rw (e, f) refl

no-reply : (o : Option Request) (request : Request) → o ≡ Some request → is_reply_kind request.kind ≡ false
    → is_reply o ≡ false
unfolding is_reply is_some_and
no-reply o request e plain = rw e plain

found-any : (test : ℕ → Bool) (n : ℕ) (o : Option ℕ) → first_where test n ≡ o → any_where test n ≡ true
    → is_some (first_where test n) ≡ true
found-any test n (Some c) e any = ap is_some e
found-any test n None e any =
    let k = any_where-found test n any in absurd (both_ways (test k.0) (first_where-none test n e k.0 k.1) k.2)

-- where another agent is dirty on a line, it has an owner
owner-there : (p : Past) (a line n : ℕ) → is_dirty_elsewhere p a line n ≡ true → is_some (owner_at p a line n) ≡ true
unfolding is_dirty_elsewhere owner_at
owner-there p a line n e = grind (arith, found-any)

pub told-of : (r : Run) (n i : ℕ) (s : SnoopEnd) (claim : Claim) → Timely r → IsSnooped r n i s → IsClaimed r s claim
    → IsTold r claim.line n claim.agent
told-of r n i s claim h k c = grind (arith, told-at)

-- the snoop end of a symmetric agent's request is as it may be: its claim, its grant, and that a line has an owner
-- where it is handed over
pub snoop-claimed : (r : Run) (n i : ℕ) (s : SnoopEnd) (claim : Claim) → IsSnooped r n i s → IsClaimed r s claim
    → s.claim ≡ Some (record { first = s.first; agent = claim.agent; line = claim.line })
snoop-claimed r n i s claim k c = grind arith

pub snoop-granted : (r : Run) (n i : ℕ) (s : SnoopEnd) (claim : Claim) → IsSnooped r n i s → (c : IsClaimed r s claim)
    → s.grant
    ≡ grant_if s.first claim.agent claim.line c.request.kind s.outcome (holds_line (past_of r) claim.agent claim.line n)
    (is_owning c.request.kind) (is_shared_at r.trace n)
snoop-granted r n i s claim k c = grind (arith, grant-made, no-reply, grant-form)

pub snoop-owned : (r : Run) (n i : ℕ) (s : SnoopEnd) (claim : Claim) → Timely r → IsSnooped r n i s
    → IsClaimed r s claim
    → s.outcome ≡ Handed → is_some (owner_at (past_to (past_of r) n) claim.agent claim.line n) ≡ true
snoop-owned r n i s claim h k c e =
    owner-there (past_to (past_of r) n) claim.agent claim.line n
    (sym (told-of r n i s claim h k c).dirty ∙ handed-told r n i s c.request k c.decoded e)

-- who does not hold a line is not dirty on it
not-held : (p : Past) (b line n : ℕ) → holds_line p b line n ≡ false → is_dirty p b line n ≡ false
unfolding is_dirty is_exclusive
not-held p b line n e = rw e refl

other-clean : (p : Past) (a line n b : ℕ) → is_dirty_elsewhere p a line n ≡ false → b < 4 → b ≢ a
    → is_dirty p b line n ≡ false
unfolding is_dirty_elsewhere
other-clean p a line n b none few other =
    sym (ap (λ x. not x && is_dirty p b line n) (ne_eqb b a other))
    ∙ any_where-none (λ c. not (nat_eq c a) && is_dirty p c line n) 4 none b few

-- where it is not handed over, no other agent is dirty on its line; only agents below 4 hold it
pub snoop-clean : (r : Run) (n i : ℕ) (s : SnoopEnd) (claim : Claim) → Timely r → IsSnooped r n i s
    → IsClaimed r s claim
    → ((b : ℕ) → 4 ≤ b → holds_line (past_of r) b claim.line n ≡ false)
    → s.outcome ≢ Handed → (b : ℕ) → b ≢ claim.agent → is_dirty (past_of r) b claim.line n ≡ false
snoop-clean r n i s claim h k c few plain b other =
    let none = sym (told-of r n i s claim h k c).dirty ∙ unhanded-told r n i s k plain in
    elim (cases_lt b 4) [
      | inl less ↦
          sym (dirty-whole r n b claim.line h k.within)
          ∙ other-clean (past_to (past_of r) n) claim.agent claim.line n b none less other
      | inr more ↦ not-held (past_of r) b claim.line n (few b more)
    ]

shared-by : (w : Trace) (n : ℕ) (dirty held : Bool) → line_at HITM w n ≡ dirty → line_at HIT w n ≡ (not dirty && held)
    → dirty ≡ false → is_shared_at w n ≡ held
unfolding is_shared_at
shared-by w n dirty held h1 h2 h3 = grind arith

-- without HITM#, HIT# told whether another agent holds the line
pub snoop-seen : (r : Run) (n i : ℕ) (s : SnoopEnd) (claim : Claim) → Timely r → IsSnooped r n i s → IsClaimed r s claim
    → s.outcome ≢ Handed → is_shared_at r.trace n ≡ is_held_elsewhere (past_to (past_of r) n) claim.agent claim.line n
snoop-seen r n i s claim h k c plain =
    let told = told-of r n i s claim h k c in
    let p = past_to (past_of r) n in
    shared-by r.trace n (is_dirty_elsewhere p claim.agent claim.line n) (is_held_elsewhere p claim.agent claim.line n)
    told.dirty told.held (sym told.dirty ∙ unhanded-told r n i s k plain)

-- so did HIT# alone
pub hit-told : (r : Run) (n i : ℕ) (s : SnoopEnd) (claim : Claim) → Timely r → IsSnooped r n i s → IsClaimed r s claim
    → s.outcome ≢ Handed
    → line_at HIT r.trace n ≡ is_held_elsewhere (past_to (past_of r) n) claim.agent claim.line n
hit-told r n i s claim h k c plain =
    let told = told-of r n i s claim h k c in
    let clean = sym told.dirty ∙ unhanded-told r n i s k plain in
    told.held ∙ ap (λ b. not b && is_held_elsewhere (past_to (past_of r) n) claim.agent claim.line n) clean

-- and with HITM# it is shared
pub snoop-handed : (r : Run) (n i : ℕ) (s : SnoopEnd) (claim : Claim) → IsSnooped r n i s → IsClaimed r s claim
    → s.outcome ≡ Handed → is_shared_at r.trace n ≡ true
unfolding is_shared_at
snoop-handed r n i s claim k c e = grind (arith, handed-told)
