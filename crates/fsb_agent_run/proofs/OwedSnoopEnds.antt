-- What an agent owes after a snoop end of its own request, of another agent's, and after a clock without one.
use Rattle.fsb_agent_run.proofs.Words
use Words.{ℕ, ◌+◌, ◌<◌, ◌≡◌, ◌≢◌, ◌⊎◌, Bool, true, false, not, ◌&&◌, [], ◌∷◌, ◌++◌, Option, Some, None, length, nat_eq}
use Words.{refl, sym, ap, ◌∙◌, inl, inr, arith, and_parts, cases_Bool, eq-eqb, false_from_ne_true, copies, first_where}
use Words.{is_at, is_some_and, first_where-at, first_where-found, is_at-from, is_at-some, Kind, WriteBack, Request}
use Words.{asks_line, is_modified, promise_on, promised_to, Outcome, Granted, Handed, Retried, Deferred, Written}
use Words.{Replied, Failed, Upgraded, GoesOn, Claim, Grant, Past, SnoopEnd, snooped_at, is_dirty, Run, past_of, past_to}
use Words.{Timely, below_le, done_below, is_dirty-alike, KeepsBounds, owner_at, fits_kind, giver_at, clock-facts}
use Words.{one-dirty, uncontested, writes-back-alone, OwnRequest, AgentView, has_come, line_state_by, request_numbered}
use Words.{buffers_giving, committed, granted_by, is_giver, is_handed, kind_asks, other_settled, own_settled}
use Words.{upgraded_by, HasBytesOwed, claim_given_at, gives_claim, is_awaited, one_if}
use Rattle.fsb_agent_run.proofs.AwaitedFills.{HasFillsOf}
use Rattle.fsb_agent_run.proofs.OwnEvents.{IsOtherSnoopEnd, IsOwnSnoopEnd}
use Rattle.fsb_agent_run.proofs.FillCounts.{come-count, count_on}
use Rattle.fsb_agent_run.proofs.GivenBytes.{claim-given, gives-by, none-claimed, none-snooped, same-first}
use Rattle.fsb_agent_run.proofs.OwedSnoops.{SameDebts, filled-debts, gives-now, owed-on, promised-owed, pushed-owed}
use Rattle.fsb_agent_run.proofs.OwedSnoops.{quiet-owed, same-debts}
use Rattle.fsb_agent_run.proofs.OwnLines.{machine_at, own-claim, own-grant, settled-unawaited, tied-at}
use Rattle.fsb_agent_run.proofs.PromisesFree.{dirty-unpromised}

-- at a snoop end of its own an agent gives nothing, unless it writes a line back
own-ungiven : (p : Past) (a c : ℕ) (s : SnoopEnd) (out : OwnRequest) → IsOwnSnoopEnd p a c s out → s.outcome ≢ Written
    → claim_given_at p a c ≡ None
own-ungiven p a c s out k unwritten = by s.claim refl
  where
    by : (o : Option Claim) → s.claim ≡ o → claim_given_at p a c ≡ None
    by None e = none-claimed p a c s k.there e
    by (Some claim) e =
        let own = own-claim a out.request.line s claim e k.settles in
        let none : gives_claim p a c s claim ≡ false = grind (arith, gives-by) in
        claim-given p a c s claim k.there e ∙ rw none refl

-- what an agent writes back
record WritesBack (p : Past) (a c : ℕ) (s : SnoopEnd) (out : OwnRequest) : Type 0 where
  claim : Claim
  gives : claim_given_at p a c ≡ Some claim
  names : claim.line ≡ out.request.line
  first : claim.first ≡ out.number

writes-back : (r : Run) (a c : ℕ) (s : SnoopEnd) (out : OwnRequest) → Timely r → KeepsBounds r.plan → c < length r.trace
    → IsOwnSnoopEnd (past_of r) a c s out → s.outcome ≡ Written → WritesBack (past_of r) a c s out
unfolding gives_claim giver_at is_at is_some_and
writes-back r a c s out h bounds l k written = by s.claim refl
  where
    by : (o : Option Claim) → s.claim ≡ o → WritesBack (past_of r) a c s out
    by None e =
        let g = own-grant a out.request.line s e k.settles in
        let replied = (clock-facts r out.request.line c h bounds l).settles.replied s g.0 k.there e g.1 g.3 in
        absurd (let both = sym written ∙ replied.replied in let no : ⊥ = cc in no)
    by (Some claim) e =
        let own = own-claim a out.request.line s claim e k.settles in
        let settled = (clock-facts r claim.line c h bounds l).settles.settled s claim k.there e refl in
        let gives : gives_claim (past_of r) a c s claim ≡ true = rw written (eq-eqb claim.agent a own.0) in
        record {
          claim = claim;
          gives = claim-given (past_of r) a c s claim k.there e ∙ rw gives refl;
          names = own.1;
          first = (same-first (past_of r) claim.line c s claim e settled.fits).0 ∙ sym (k.number (rw e refl));
        }

pub granted-debts : (v : AgentView) (out : OwnRequest) (shared : Bool)
    → SameDebts v.buffers (granted_by v out shared).buffers
granted-debts v out shared = grind (arith, filled-debts)

upgraded-debts : (v : AgentView) (out : OwnRequest) → SameDebts v.buffers (upgraded_by v out).buffers
upgraded-debts v out = grind (arith, filled-debts)

pub own-owed-after : (r : Run) (a c : ℕ) (s : SnoopEnd) (out : OwnRequest) (v : AgentView) (request : Request)
    (shared : Bool) → Timely r → KeepsBounds r.plan → c < length r.trace → IsOwnSnoopEnd (past_of r) a c s out
    → request_numbered out.number v.outs ≡ Some out → HasBytesOwed (past_of r) a c (c + 1) c v
    → HasBytesOwed (past_of r) a (c + 1) (c + 1) c (committed v out.number true request shared s.outcome)
own-owed-after r a c s out v request shared h bounds l k found owed = rw found (by s.outcome refl)
  where
    quiet : (w : AgentView) → s.outcome ≢ Written → SameDebts v.buffers w.buffers
        → HasBytesOwed (past_of r) a (c + 1) (c + 1) c w
    quiet w unwritten debts =
        owed-on (past_of r) a c (c + 1) c (c + 1) (c + 1) c v w
        (quiet-owed r a c h bounds l (own-ungiven (past_of r) a c s out k unwritten)) debts owed

    by : (outcome : Outcome) → s.outcome ≡ outcome
        → HasBytesOwed (past_of r) a (c + 1) (c + 1) c (own_settled v out shared outcome)
    by Granted e = quiet _ (λ f. let both = sym e ∙ f in let no : ⊥ = cc in no) (granted-debts v out shared)
    by Handed e = quiet _ (λ f. let both = sym e ∙ f in let no : ⊥ = cc in no) (granted-debts v out true)
    by Retried e = quiet v (λ f. let both = sym e ∙ f in let no : ⊥ = cc in no) (same-debts v.buffers v.buffers refl)
    by Deferred e = quiet v (λ f. let both = sym e ∙ f in let no : ⊥ = cc in no) (same-debts v.buffers v.buffers refl)
    by Written e =
        let w = writes-back r a c s out h bounds l k e in
        let unawaited : is_awaited (past_of r) a w.claim.line c c ≡ false = grind (arith, settled-unawaited) in
        pushed-owed r a c w.claim (copies v.lines out.request.line) v (own_settled v out shared Written)
        (gives-now r a c w.claim h bounds l w.gives) unawaited
        (ap (λ n. record v.buffers {
          pushes = v.buffers.pushes ++ record {
            number = n;
            bytes = copies v.lines
                out.request.line;
          } ∷ [];
        }) (sym w.first))
        owed
    by Replied e = quiet _ (λ f. let both = sym e ∙ f in let no : ⊥ = cc in no) (granted-debts v out shared)
    by Failed e = quiet v (λ f. let both = sym e ∙ f in let no : ⊥ = cc in no) (same-debts v.buffers v.buffers refl)
    by Upgraded e = quiet _ (λ f. let both = sym e ∙ f in let no : ⊥ = cc in no) (upgraded-debts v out)

dirty-to : (p : Past) (n : ℕ) → GoesOn (n + 1) (past_to p n) p → (a line : ℕ)
    → is_dirty (past_to p n) a line n ≡ is_dirty p a line n
dirty-to p n h a line =
    let l : n < n + 1 = omega arith in
    let done = done_below (n + 1) (past_to p n) a n h.entries l h.at_end in
    is_dirty-alike (n + 1) (past_to p n) p a line n h (below_le n (n + 1) l) done

dirty-at : (r : Run) (line c : ℕ) → Timely r → KeepsBounds r.plan → c < length r.trace → (x : ℕ)
    → is_dirty (past_to (past_of r) c) x line c ≡ is_dirty (past_of r) x line c
dirty-at r line c h bounds l x = dirty-to (past_of r) c (clock-facts r line c h bounds l).goes_on x line

owner-found : (r : Run) (a b line c : ℕ) → Timely r → KeepsBounds r.plan → c < length r.trace → a < 4 → a ≢ b
    → is_dirty (past_of r) a line c ≡ true → is_at (owner_at (past_to (past_of r) c) b line c) a ≡ true
unfolding owner_at
owner-found r a b line c h bounds l few other on =
    let p : Past = past_of r in
    let test : ℕ → Bool = λ x. not (nat_eq x b) && is_dirty (past_to p c) x line c in
    let mine : test a ≡ true = grind (arith, dirty-at) in
    let alone : (x : ℕ) → x < a → test x ≡ false = λ x below. false_from_ne_true (test x) (λ t.
    let dirty = sym (dirty-at r line c h bounds l x) ∙ (and_parts (not (nat_eq x b)) (is_dirty
    (past_to p c) x line c) t).1 in
    let is : x ≡ a = one-dirty p line c x a (machine_at r line c) (tied-at r line c h bounds (omega arith)) dirty on in
    omega arith) in
    is_at-from (first_where test 4) a (first_where-at test 4 a few mine alone)

owner-none : (r : Run) (a b line c : ℕ) → Timely r → KeepsBounds r.plan → c < length r.trace
    → is_dirty (past_of r) a line c ≡ false → is_at (owner_at (past_to (past_of r) c) b line c) a ≡ false
unfolding owner_at
owner-none r a b line c h bounds l off = grind (arith, first_where-found, is_at-some, dirty-at)

-- the owner that hands a line over is the other agent that is dirty on it
pub owner-is : (r : Run) (a b line c : ℕ) → Timely r → KeepsBounds r.plan → c < length r.trace → a < 4 → a ≢ b
    → is_at (owner_at (past_to (past_of r) c) b line c) a ≡ is_dirty (past_of r) a line c
owner-is r a b line c h bounds l few other = grind (arith, owner-found, owner-none)

-- a request that is handed its line asks for it
handed-asks : (kind : Kind) (outcome : Outcome) → outcome ≡ Handed → (kind ≡ WriteBack → outcome ≢ Handed)
    → fits_kind kind outcome ≡ true → asks_line (kind_asks kind) ≡ true
unfolding fits_kind
handed-asks kind outcome h1 h2 h3 = grind arith

handed-or-not : (outcome : Outcome) → (outcome ≡ Handed) ⊎ (is_handed outcome ≡ false)
handed-or-not outcome = grind arith

-- a view gives the line exactly where the agent does
giver-same : (r : Run) (a c number : ℕ) (s : SnoopEnd) (claim : Claim) (v : AgentView) (request : Request) → Timely r
    → KeepsBounds r.plan → c < length r.trace → a < 4 → IsOtherSnoopEnd (past_of r) a c s number request
    → s.claim ≡ Some claim → is_modified (line_state_by v request.line) ≡ is_dirty (past_of r) a request.line c
    → is_giver v request s.outcome ≡ gives_claim (past_of r) a c s claim
unfolding gives_claim giver_at
giver-same r a c number s claim v request h bounds l few k e dirty =
    elim (handed-or-not s.outcome) [ inl handed ↦ when-handed handed | inr off ↦ otherwise off ]
  where
    when-handed : s.outcome ≡ Handed
        → is_giver v request s.outcome ≡ is_at (giver_at (past_of r) claim.line c claim.agent s) a
    when-handed handed =
        let p : Past = past_of r in
        let fits = ((clock-facts r claim.line c h bounds l).settles.settled s claim k.there e refl).fits in
        let free = uncontested r claim.line c s (writes-back-alone r h bounds) k.there fits in
        let known : Some fits.kind ≡ Some request.kind = sym fits.known ∙ k.kind claim e in
        let same : fits.kind ≡ request.kind = cc in
        let asks : asks_line (kind_asks request.kind) ≡ true = grind (arith, handed-asks) in
        let other : a ≢ claim.agent = λ is. k.other claim e (sym is) in
        let mine : is_giver v request s.outcome ≡ is_dirty p a request.line c = grind arith in
        mine ∙ ap (λ line. is_dirty p a line c) (k.line claim e)
        ∙ sym (rw handed (owner-is r a claim.agent claim.line c h bounds l few other))
      where
        whole : (x : Bool) → (x && true && true) ≡ x
        whole true = refl
        whole false = refl

    otherwise : is_handed s.outcome ≡ false
        → is_giver v request s.outcome ≡ is_at (giver_at (past_of r) claim.line c claim.agent s) a
    otherwise off = grind (arith, gives-by)

-- what an agent owes after the snoop end of a reply to another agent
pub replied-owed-after : (r : Run) (a c number : ℕ) (s : SnoopEnd) (grant : Grant) (v : AgentView) (request : Request)
    (shared : Bool) → Timely r → KeepsBounds r.plan → c < length r.trace → snooped_at (past_of r) c ≡ Some s
    → s.claim ≡ None → s.grant ≡ Some grant → HasBytesOwed (past_of r) a c (c + 1) c v
    → HasBytesOwed (past_of r) a (c + 1) (c + 1) c (committed v number false request shared s.outcome)
replied-owed-after r a c number s grant v request shared h bounds l there none made owed =
    let replied = (clock-facts r grant.line c h bounds l).settles.replied s grant there none made refl in
    let off : is_giver v request s.outcome ≡ false = grind arith in
    owed-on (past_of r) a c (c + 1) c (c + 1) (c + 1) c v (other_settled v number request s.outcome)
    (quiet-owed r a c h bounds l (none-claimed (past_of r) a c s there none))
    (same-debts v.buffers (other_settled v number request s.outcome).buffers (rw (off, other_settled) refl)) owed

-- what an agent owes after another agent's snoop end
pub other-owed-after : (r : Run) (a c number : ℕ) (s : SnoopEnd) (v : AgentView) (request : Request) (shared : Bool)
    → Timely r → KeepsBounds r.plan → c < length r.trace → a < 4 → IsOtherSnoopEnd (past_of r) a c s number request
    → is_modified (line_state_by v request.line) ≡ is_dirty (past_of r) a request.line c
    → HasFillsOf (past_of r) a c c v → HasBytesOwed (past_of r) a c (c + 1) c v
    → HasBytesOwed (past_of r) a (c + 1) (c + 1) c (committed v number false request shared s.outcome)
other-owed-after r a c number s v request shared h bounds l few k dirty fills owed = by s.claim refl
  where
    quiet : claim_given_at (past_of r) a c ≡ None → is_giver v request s.outcome ≡ false
        → HasBytesOwed (past_of r) a (c + 1) (c + 1) c (other_settled v number request s.outcome)
    quiet none off =
        owed-on (past_of r) a c (c + 1) c (c + 1) (c + 1) c v (other_settled v number request s.outcome)
        (quiet-owed r a c h bounds l none)
        (same-debts v.buffers (other_settled v number request s.outcome).buffers (rw (off, other_settled) refl)) owed

    gives : (claim : Claim) → s.claim ≡ Some claim → claim_given_at (past_of r) a c ≡ Some claim
        → is_giver v request s.outcome ≡ true
        → HasBytesOwed (past_of r) a (c + 1) (c + 1) c (other_settled v number request s.outcome)
    gives claim e given on =
        let line : request.line ≡ claim.line = k.line claim e in
        let fits = ((clock-facts r claim.line c h bounds l).settles.settled s claim k.there e refl).fits in
        let first : number ≡ claim.first = grind arith in
        let now = gives-now r a c claim h bounds l given in
        let modified : is_modified (line_state_by v request.line) ≡ true = grind arith in
        elim (cases_Bool (is_awaited (past_of r) a claim.line c c)) [
          | inr here ↦
              let come : has_come v request.line ≡ true =
              come-count request.line v.buffers.fills false
              (fills.fills request.line ∙ ap (λ x. one_if (is_awaited (past_of r) a x c c)) line ∙ ap one_if here) in
              pushed-owed r a c claim (copies v.lines request.line) v
              (other_settled v number request s.outcome) now here
              (rw (on, other_settled, come, buffers_giving)
              (ap (λ n. record v.buffers {
                pushes = v.buffers.pushes ++ record {
                  number = n;
                  bytes = copies v.lines
                      request.line;
                } ∷ [];
              }) first))
              owed
          | inl awaited ↦
              let one : count_on claim.line v.buffers.fills ≡ 1 = fills.fills claim.line ∙ ap one_if awaited in
              let coming : has_come v request.line ≡ false =
              come-count request.line v.buffers.fills true (ap (λ x. count_on x v.buffers.fills) line ∙ one) in
              let free : promise_on claim.line v.buffers.fills ≡ None =
              owed.promises claim.line
              ∙ dirty-unpromised r a claim.line c h bounds (omega arith)
              (ap (λ x. is_dirty (past_of r) a x c) (sym line) ∙ sym dirty ∙ modified) in
              promised-owed r a c claim v (other_settled v number request s.outcome) now awaited one free
              (rw (on, other_settled, coming, buffers_giving) (λ i. record v.buffers {
                fills = promised_to (line i)
                    (first i) v.buffers.fills;
              }))
              owed
        ]
      where
        and-first : (x y z : Bool) → (x && y && z) ≡ true → (x && y) ≡ true
        and-first true true z t = refl
        and-first true false z t = t
        and-first false y z t = t

    by : (o : Option Claim) → s.claim ≡ o
        → HasBytesOwed (past_of r) a (c + 1) (c + 1) c (other_settled v number request s.outcome)
    by None e =
        let g = k.replied e in
        replied-owed-after r a c number s g.0 v request shared h bounds l k.there e g.1 owed
    by (Some claim) e =
        let same = giver-same r a c number s claim v request h bounds l few k e dirty in
        elim (cases_Bool (gives_claim (past_of r) a c s claim)) [
          | inl on ↦ gives claim e (claim-given (past_of r) a c s claim k.there e ∙ rw on refl) (same ∙ on)
          | inr off ↦ quiet (claim-given (past_of r) a c s claim k.there e ∙ rw off refl) (same ∙ off)
        ]

-- and after a clock at which no request of anybody is settled
pub unsettled-owed-after : (r : Run) (a c : ℕ) (v : AgentView) → Timely r → KeepsBounds r.plan → c < length r.trace
    → ((s : SnoopEnd) → snooped_at (past_of r) c ≡ Some s → s.claim ≡ None)
    → HasBytesOwed (past_of r) a c (c + 1) c v → HasBytesOwed (past_of r) a (c + 1) (c + 1) c v
unsettled-owed-after r a c v h bounds l none owed =
    owed-on (past_of r) a c (c + 1) c (c + 1) (c + 1) c v v (quiet-owed r a c h bounds l (by (snooped_at
    (past_of r) c) refl))
    (same-debts v.buffers v.buffers refl) owed
  where
    by : (o : Option SnoopEnd) → snooped_at (past_of r) c ≡ o → claim_given_at (past_of r) a c ≡ None
    by o h1 = grind (arith, none-snooped, none-claimed)
