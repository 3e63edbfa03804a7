-- In a timely run the link of a snoop end carries data exactly where the end that is awaited after it brings data.
use Rattle.fsb_tied.proofs.Words
use Words.{ℕ, ◌≡◌, Bool, true, false, not, ◌&&◌, if◌then◌else◌, nat_eq, List, Option, Some, None, is_some, refl, sym}
use Words.{ap, ◌∙◌, arith, both_ways, option_and_then, option_map, is_some_and, any_where-found, first_where-none, Kind}
use Words.{Upgrade, Request, Turn, carries, HITM, line_at, Trace, request_at, Outcome, Handed, Written, does_move}
use Words.{outcome_by_kind, is_reply, is_reply_kind, live_clock_of, live_request_of, snoop_end_of-clock, snooped_at}
use Words.{is_dirty, claim_at, gives_line, grant_for, grant_of, is_upgraded, live_claim_of, served_number, wins_race}
use Words.{grant_to, is_owner_request, is_shared_at, Claim, Grant, Past, SnoopEnd, Run, past_of, past_to}
use Words.{is_dirty_elsewhere, Timely, tied-snoop, Awaited, awaited_by, awaited_by_claim, awaited_by_grant, is_written}
use Words.{owner_at, outcome_by_turn, outcome_under, own_grant, grant-made, outcome-made, turn-kept}
use Rattle.fsb_tied.proofs.Carrying.{ByGrant, ByWriteBack, Carries, Gives, by-write-back, settled-carries, written-is}
use Rattle.fsb_tied.proofs.Chains.{link_of}
use Rattle.fsb_tied.proofs.SnoopTold.{told-at}

pub granted-await : (s : SnoopEnd) (awaited : Awaited) (grant : Grant) → s.grant ≡ Some grant
    → awaited_by s ≡ Some awaited
    → ByGrant s awaited
unfolding awaited_by awaited_by_grant
granted-await s awaited grant e h = grind arith

written-parts : (s : SnoopEnd) (awaited : Awaited) (b : Bool) → is_written s.outcome ≡ b → (o : Option Claim)
    → s.claim ≡ o
    → (if b then option_map awaited_by_claim o else None) ≡ Some awaited → ByWriteBack s awaited
unfolding awaited_by_claim
written-parts s awaited b h1 o h2 h3 = grind (arith, written-is)

pub written-await : (s : SnoopEnd) (awaited : Awaited) → s.grant ≡ None → awaited_by s ≡ Some awaited
    → ByWriteBack s awaited
unfolding awaited_by
written-await s awaited e h =
    written-parts s awaited (is_written s.outcome) refl s.claim refl (let h' = rw (e, awaited_by) at h in h')

gives-made : (r : Run) (t : ℕ) (s : SnoopEnd) (grant : Grant) → snooped_at (past_of r) t ≡ Some s → s.grant ≡ Some grant
    → Gives (request_at r.trace s.first) s.turn s.outcome
unfolding gives_line is_some_and wins_race grant_of
gives-made r t s grant e f = grind (arith, tied-snoop, turn-kept)

-- a grant of a request that is no reply is to its own claim
own-parts : (p : Past) (w : Trace) (q t : ℕ) (outcome : Outcome) (claim : Claim) (grant : Grant) (b : Bool)
    → gives_line p w q t outcome ≡ b → Some grant ≡ own_grant p w q t outcome claim
    → (claim.agent ≡ grant.agent) × (claim.line ≡ grant.line)
unfolding own_grant grant_to
own-parts p w q t outcome claim grant b h1 h2 = grind arith

unclaimed : (w : Trace) (i q t : ℕ) → live_clock_of w i ≡ Some q → claim_at w q ≡ None → grant_for w q t i ≡ None
unfolding grant_for live_claim_of
unclaimed w i q t first none =
    let claim : option_and_then (claim_at w) (live_clock_of w i) ≡ None = ap (option_and_then (claim_at w)) first
    ∙ none in
    ap (option_map (grant_to q (is_owner_request (live_request_of w i)) (is_shared_at w t))) claim

itself : (w : Trace) (turns : List ℕ) (i q : ℕ) → live_clock_of w i ≡ Some q → is_reply (request_at w q) ≡ false
    → served_number w turns i ≡ Some i
unfolding served_number live_request_of
itself w turns i q first plain = rw (first, plain, served_number) refl

no-claim : (p : Past) (w : Trace) (i q t : ℕ) (outcome : Outcome) (grant : Grant) (b : Bool)
    → gives_line p w q t outcome ≡ b
    → live_clock_of w i ≡ Some q → claim_at w q ≡ None → is_reply (request_at w q) ≡ false
    → grant_of p w i q t outcome ≡ Some grant → ⊥
unfolding grant_of
no-claim p w i q t outcome grant b h1 h2 h3 h4 h5 = grind (arith, itself, unclaimed)

-- the claim of a request that is granted a line
pub record ClaimsGrant (s : SnoopEnd) (grant : Grant) : Type 0 where
  pub claim : Claim
  pub claimed : s.claim ≡ Some claim
  pub agent : claim.agent ≡ grant.agent
  pub names : claim.line ≡ grant.line

pub claims-grant : (r : Run) (t : ℕ) (s : SnoopEnd) (grant : Grant) (o : Option Claim) → s.claim ≡ o
    → snooped_at (past_of r) t ≡ Some s → s.grant ≡ Some grant → is_reply (request_at r.trace s.first) ≡ false
    → ClaimsGrant s grant
claims-grant r t s grant None c e f plain =
    let tied = tied-snoop r t s e in
    absurd (no-claim (past_of r) r.trace tied.0 s.first t s.outcome grant
    (gives_line (past_of r) r.trace s.first t s.outcome) refl tied.1.first (sym tied.1.claim ∙ c) plain
    (sym tied.1.grant ∙ f))
claims-grant r t s grant (Some claim) c e f plain =
    let own = own-parts (past_of r) r.trace s.first t s.outcome claim grant
    (gives_line (past_of r) r.trace s.first t s.outcome) refl (sym f ∙ grant-made r t s claim e c plain) in
    record { claim = claim; claimed = c; agent = own.0; names = own.1 }

request-plain : (o : Option Request) (kind : Kind) → option_map (λ (x : Request). x.kind) o ≡ Some kind
    → is_reply_kind kind ≡ false
    → is_reply o ≡ false
unfolding is_reply is_some_and
request-plain o kind h1 h2 = grind arith

with-hitm : (handed : Bool) (turn : Turn) (o : Option Request) → outcome_under handed turn o ≡ Handed → handed ≡ true
unfolding outcome_under outcome_by_turn outcome_by_kind
with-hitm handed turn o h1 = grind arith

found-owner : (p : Past) (a line c : ℕ) (o : Option ℕ) → owner_at p a line c ≡ o → is_dirty_elsewhere p a line c ≡ true
    → is_some o ≡ true
unfolding owner_at is_dirty_elsewhere
found-owner p a line c (Some b) e dirty = refl
found-owner p a line c None e dirty =
    let test : ℕ → Bool = λ b. not (nat_eq b a) && is_dirty p b line c in
    let k = any_where-found test 4 dirty in
    absurd (both_ways (test k.0) (first_where-none test 4 e k.0 k.1) k.2)

-- where a line is handed over for an upgrade it has an owner
owned : (r : Run) (t : ℕ) (s : SnoopEnd) (awaited : Awaited) → Timely r → snooped_at (past_of r) t ≡ Some s
    → ByGrant s awaited → s.outcome ≡ Handed → s.kind ≡ Some Upgrade
    → is_some (owner_at (past_to (past_of r) t) awaited.agent awaited.line t) ≡ true
unfolding is_reply_kind
owned r t s awaited h e b handed kind =
    let p : Past = past_to (past_of r) t in
    let tied = tied-snoop r t s e in
    let within = (snoop_end_of-clock r.trace tied.0 t tied.1.reached).within in
    let plain = request-plain (request_at r.trace s.first) Upgrade (sym tied.1.kind ∙ kind) refl in
    let c = claims-grant r t s b.grant s.claim refl e b.granted plain in
    let told = told-at r t s c.claim Upgrade h within e c.claimed kind refl in
    let hitm = with-hitm (line_at HITM r.trace t) s.turn (request_at r.trace s.first)
    (sym (outcome-made r t s e) ∙ handed) in
    let agent : c.claim.agent ≡ awaited.agent = c.agent ∙ b.agent in
    let line : c.claim.line ≡ awaited.line = c.names ∙ b.names in
    let dirty : is_dirty_elsewhere p awaited.agent awaited.line t ≡ true = sym
    (λ i. is_dirty_elsewhere p (agent i) (line i) t) ∙ sym told.dirty ∙ hitm in
    found-owner p awaited.agent awaited.line t (owner_at p awaited.agent awaited.line t) refl dirty

-- the link of a snoop end carries data exactly where data are awaited, and then data move
pub record CarriesAwaited (p : Past) (t : ℕ) (s : SnoopEnd) (awaited : Awaited) : Type 0 where
  pub fits : carries (link_of p awaited.line t s awaited) ≡ awaited.carries
  pub moves : awaited.carries ≡ true → does_move s.outcome ≡ true

carried-by : (p : Past) (t : ℕ) (s : SnoopEnd) (awaited : Awaited) → Carries p awaited.line t awaited.agent s
    → not (is_upgraded s.outcome) ≡ awaited.carries → CarriesAwaited p t s awaited
carried-by p t s awaited k e = record { fits = k.fits ∙ e; moves = λ f. k.moves (e ∙ f) }

not-upgraded : (s : SnoopEnd) → s.outcome ≡ Written → not (is_upgraded s.outcome) ≡ true
unfolding is_upgraded
not-upgraded s e = rw e refl

carries-by : (r : Run) (t : ℕ) (s : SnoopEnd) (awaited : Awaited) (o : Option Grant) → s.grant ≡ o → Timely r
    → snooped_at (past_of r) t ≡ Some s → awaited_by s ≡ Some awaited → CarriesAwaited (past_of r) t s awaited
carries-by r t s awaited None f h e k =
    let b = written-await s awaited f k in
    carried-by (past_of r) t s awaited (by-write-back (past_of r) awaited.line t awaited.agent s b.written)
    (not-upgraded s b.written ∙ b.carried)
carries-by r t s awaited (Some grant) f h e k =
    let b = granted-await s awaited grant f k in
    carried-by (past_of r) t s awaited
    (settled-carries (past_of r) awaited.line t awaited.agent s (line_at HITM r.trace t) s.turn
    (request_at r.trace s.first) (outcome-made r t s e) (tied-snoop r t s e).1.kind (gives-made r t s grant e f)
    (λ handed kind. owned r t s awaited h e b handed kind)) b.carried

pub carries-awaited : (r : Run) (t : ℕ) (s : SnoopEnd) (awaited : Awaited) → Timely r
    → snooped_at (past_of r) t ≡ Some s
    → awaited_by s ≡ Some awaited → CarriesAwaited (past_of r) t s awaited
carries-awaited r t s awaited h e k = carries-by r t s awaited s.grant refl h e k
