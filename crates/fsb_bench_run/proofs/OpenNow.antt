-- Which requests of others are open at a bench's clock: those of the queue that have no outcome.
use Rattle.fsb_bench_run.proofs.Words
use Words.{ℕ, zero, suc, ◌+◌, ◌/◌, ◌<◌, ◌≤◌, ◌≡◌, ◌&&◌, ◌||◌, Bool, true, false, not, is_none, is_some, nat_eq, List}
use Words.{[], ◌∷◌, Option, Some, None, length, map, refl, sym, ap, ◌∙◌, arith, filter, filter_map, list_any}
use Words.{option_and_then, option_map, eq-eqb, eqb-true, take_all, list_any-append, Done, any-from, any-there}
use Words.{some-there, all_where, is_some_and, nth_where-found, Request, Choice, and-then, get-there, rank_of}
use Words.{HoldsRequests, Entry, Reaches, owing_begun, begun-wanted, begun_at, is_claim_of_other, snooped_at, GrowsTo}
use Words.{agent_at, claim_at, is_snoop_of, is_snooped_in, is_unsnooped, moment_at, Claim, Moment, Owing, Past}
use Words.{SnoopEnd, Run, moments_below, past_of, past_to, run_to, would_begin, is_open_to_other, unsnooped_at}
use Words.{begun-told, below_le, done_below, moment-at, past-begins, snoop-tied, tied-snoop, want_of-alike, Trace}
use Words.{in_flight, is_live, line_of, live_clock_of, snoop_end_of, winner_at, Who, Symmetric, Priority}
use Words.{step_performed, is_of_other, is_open_of_other, BenchView, next_clock_of, IsBegunAt}
use Rattle.std.proofs.Common.{slice_get}
use Rattle.fsb_bench_run.proofs.LocksStay.{moments-old}
use Rattle.fsb_bench_run.proofs.RunWith.{run_with}
use Rattle.fsb_bench_run.proofs.SameBus.{same-performed}
use Rattle.fsb_bench_run.proofs.SnoopEntry.{held-here, outcome-none}
use Rattle.fsb_bench_run.proofs.StepWith.{IsStepWith}

-- what is listed of a queue's requests, entry by entry
any-over : (g : ℕ → Option Claim) (t : ℕ → Bool) (f : Claim → Bool) (h : Entry → Bool) (queue : List Entry)
    → ((k : ℕ) (e : Entry) → slice_get queue k ≡ Some e → (t e.clock && is_some_and (g e.clock) f) ≡ h e)
    → list_any f (filter_map g (filter t (map (λ (x : Entry). x.clock) queue))) ≡ list_any h queue
unfolding is_some_and
any-over g t f h [] each = refl
any-over g t f h (x ∷ queue) each =
    let here = each 0 x refl in
    let rest = any-over g t f h queue (λ k e at. each (suc k) e at) in
    grind arith
  where
    by : (o : Option Claim) → g x.clock ≡ o → is_some_and (g x.clock) f ≡ h x
        → list_any f (filter_map g (filter t (map (λ (x : Entry). x.clock) queue))) ≡ list_any h queue
        → list_any f (filter_map g (x.clock ∷ filter t (map (λ (x : Entry). x.clock) queue)))
        ≡ (h x || list_any h queue)
    by None e some rest =
        let off : false ≡ h x = sym (ap (λ o. is_some_and o f) e) ∙ some in
        rw e (rest ∙ (λ i. off i || list_any h queue))
    by (Some claim) e some rest =
        let one : f claim ≡ h x = sym (ap (λ o. is_some_and o f) e) ∙ some in
        rw e (λ i. one i || rest i)

-- two numbers of one clock are one
pub one-number : (w : Trace) (i j q : ℕ) → live_clock_of w i ≡ Some q → live_clock_of w j ≡ Some q → i ≡ j
unfolding live_clock_of
one-number w i j q e f =
    sym (nth_where-found (is_live w) i (length w) q e).2 ∙ (nth_where-found (is_live w) j (length w) q f).2

same-bools : (a b : Bool) → (a ≡ true → b ≡ true) → (b ≡ true → a ≡ true) → a ≡ b
same-bools a b h1 h2 = grind arith

some-of : {X : Type 0} (o : Option X) → is_some o ≡ true → (x : X) × (o ≡ Some x)
some-of o h1 = grind arith

-- the snoop end of a moment
at-place : (p : Past) (t : ℕ) (m : Moment) → slice_get p.moments t ≡ Some m → snooped_at p t ≡ m.snooped
unfolding snooped_at
at-place p t m e = ap (option_and_then (λ (m : Moment). m.snooped)) e

moment-there : (p : Past) (t : ℕ) (s : SnoopEnd) → snooped_at p t ≡ Some s
    → (m : Moment) × (slice_get p.moments t ≡ Some m) × (m.snooped ≡ Some s)
unfolding snooped_at
moment-there p t s e = and-then (λ (m : Moment). m.snooped) (slice_get p.moments t) s e

-- the request has its snoop end in the moments exactly where it has one in the trace
snooped-told : (r : Run) (i q : ℕ) → live_clock_of r.trace i ≡ Some q
    → is_snooped_in (past_of r).moments q ≡ is_some (snoop_end_of r.trace i)
unfolding is_snooped_in is_snoop_of is_some_and
snooped-told r i q first =
    let moments = (past_of r).moments in
    let test : Moment → Bool = λ moment. is_some_and moment.snooped (λ (s : SnoopEnd). nat_eq s.first q) in
    same-bools (list_any test moments) (is_some (snoop_end_of r.trace i)) (λ e.
    let m = any-there test moments e in
    let s = some-there m.entry.snooped (λ (s : SnoopEnd). nat_eq s.first q) m.passes in
    let at : snooped_at (past_of r) m.place ≡ Some s.0 = at-place (past_of r) m.place m.entry m.at ∙ s.1 in
    let tied = tied-snoop r m.place s.0 at in
    let clock : live_clock_of r.trace tied.0 ≡ Some q = tied.1.first ∙ ap Some (eqb-true s.0.first q s.2) in
    let same : tied.0 ≡ i = one-number r.trace tied.0 i q clock first in
    ap (λ o. is_some o) (sym (ap (snoop_end_of r.trace) same) ∙ tied.1.reached)) (λ e.
    let t = some-of (snoop_end_of r.trace i) e in
    let tied = snoop-tied r i t.0 t.1 in
    let moment = moment-there (past_of r) t.0 tied.0 tied.1.there in
    let clock : Some tied.0.first ≡ Some q = sym tied.1.first ∙ first in
    let same : tied.0.first ≡ q = cc in
    any-from test moments t.0 moment.0 moment.1
    (ap (λ o. is_some_and o (λ (s : SnoopEnd). nat_eq s.first q)) moment.2 ∙ eq-eqb tied.0.first q same))

none-is : {X : Type 0} (o : Option X) → not (is_some o) ≡ is_none o
none-is o = grind arith

-- a symmetric agent's request has a claim of the agent
claim-there : (w : Trace) (q b : ℕ) → q < length w → winner_at w q ≡ Some (Symmetric b)
    → (claim : Claim) × (claim_at w q ≡ Some claim) × (claim.agent ≡ b)
unfolding claim_at agent_at line_of
claim-there w q b l won =
    let x = get-there w q l in
    let claim : Claim = record { first = q; agent = b; line = x.0.addr.bits / 4 } in
    (claim, rw (won, x.1, claim_at, agent_at, line_of) refl, refl)

mapped : (o : Option Owing) (claim : Claim) → option_map (λ (owing : Owing). owing.claim) o ≡ Some claim
    → (owing : Owing) × (o ≡ Some owing) × (owing.claim ≡ claim)
mapped o claim h1 = grind arith

claim-line : (r : Run) (q b : ℕ) (request : Request) (claim : Claim) → Reaches r (q + 1)
    → IsBegunAt r q (Symmetric b) request → claim_at r.trace q ≡ Some claim → claim.line ≡ request.line
unfolding begun_at would_begin owing_begun
claim-line r q b request claim h k e =
    let p = past_of r in
    let long = h.long in
    let l : q < length r.trace = omega arith in
    let begun : begun_at p q ≡ Some claim = grind (arith, begun-told) in
    let owing = mapped (owing_begun p q) claim begun in
    let wanted = begun-wanted r q owing.0 h owing.1 in
    let agent : owing.0.claim.agent ≡ b = grind (arith, claim-there) in
    let g = past-begins r q h.timely l in
    let same = want_of-alike (q + 1) (past_to p q) p b q g (below_le q (q + 1) (omega arith))
    (done_below (q + 1) (past_to p q) b q g.entries (omega arith) g.at_end) in
    let one : Some wanted.0 ≡ Some request = grind arith in
    let equal : wanted.0 ≡ request = cc in
    ap (λ (c : Claim). c.line) (sym owing.2) ∙ wanted.3 ∙ ap (λ (x : Request). x.line) equal

no-claim : (w : Trace) (q : ℕ) → winner_at w q ≡ Some Priority → claim_at w q ≡ None
unfolding claim_at agent_at
no-claim w q e = rw (e, claim_at, agent_at) refl

-- whether the request of an entry is another agent's, for the line
other-told : (r : Run) (q a line : ℕ) (who : Who) (request : Request) → Reaches r (q + 1) → IsBegunAt r q who request
    → is_some_and (claim_at r.trace q) (is_claim_of_other a line)
    ≡ (is_of_other a who && nat_eq request.line line)
unfolding is_some_and is_claim_of_other
other-told r q a line who request h1 h2 = grind (arith, claim-there, claim-line, no-claim)

-- the open requests as the clock before left them
open-list : (r : Run) (c : ℕ) → suc c ≡ length r.trace → unsnooped_at (past_of r) (suc c)
    ≡ filter_map (claim_at r.trace)
    (filter (λ q. not (is_snooped_in (past_of r).moments q)) (in_flight r.trace (length r.trace)))
unfolding unsnooped_at past_of moment_at is_unsnooped run_to moments_below is_snooped_in
open-list r c e = grind (arith, take_all, list_any-append, moment-at)

empty-open : (r : Run) (a line : ℕ) (queue : List Entry) → 0 ≡ length r.trace
    → map (λ (x : Entry). x.clock) queue ≡ in_flight r.trace (length r.trace)
    → list_any (is_claim_of_other a line) (unsnooped_at (past_of r) 0) ≡ list_any (is_open_of_other a line) queue
unfolding unsnooped_at in_flight all_where
empty-open r a line [] size e = refl
empty-open r a line (x ∷ queue) size e = grind arith

open-at : (r : Run) (a line n : ℕ) (queue : List Entry) → n ≡ length r.trace → Reaches r (length r.trace)
    → HoldsRequests queue r → ((k : ℕ) (e : Entry) → slice_get queue k ≡ Some e → IsBegunAt r e.clock e.who e.request)
    → list_any (is_claim_of_other a line) (unsnooped_at (past_of r) n) ≡ list_any (is_open_of_other a line) queue
open-at r a line zero queue size h holds begun = empty-open r a line queue size holds.flight.clocks
open-at r a line (suc c) queue size h holds begun =
    let t : ℕ → Bool = λ q. not (is_snooped_in (past_of r).moments q) in
    ap (list_any (is_claim_of_other a line))
    (open-list r c size ∙ ap (λ qs. filter_map (claim_at r.trace) (filter t qs)) (sym holds.flight.clocks))
    ∙ any-over (claim_at r.trace) t (is_claim_of_other a line) (is_open_of_other a line) queue (λ k e at.
    let here = held-here r queue k e holds at in
    let within = here.within in
    let reaches : Reaches r (e.clock + 1) = record { timely = h.timely; bounds = h.bounds; long = omega arith } in
    let other = other-told r e.clock a line e.who e.request reaches (begun k e at) in
    let settled = ap not (snooped-told r (rank_of r.trace e) e.clock here.first)
    ∙ none-is (snoop_end_of r.trace (rank_of r.trace e)) ∙ sym (outcome-none r queue k e holds at) in
    (λ i. settled i && other i) ∙ swap (is_none e.outcome) (is_of_other a e.who) (nat_eq e.request.line line))
  where
    swap : (x y z : Bool) → (x && (y && z)) ≡ (y && z && x)
    swap x y z = grind arith

unsnooped-old : (r s : Run) (n : ℕ) → GrowsTo r s → n ≤ length r.trace
    → unsnooped_at (past_of s) n ≡ unsnooped_at (past_of r) n
unfolding unsnooped_at
unsnooped-old r s n h1 h2 = grind (arith, moments-old)

-- the open requests of others, by the queue
pub open-told : (v : BenchView) (hold : Bool) (choice : Choice) (entries : List Done) (a line : ℕ)
    → IsStepWith v hold choice entries
    → is_open_to_other (past_of (run_with v hold choice entries)) a (next_clock_of v) line
    ≡ list_any (is_open_of_other a line) (step_performed v).queue
unfolding is_open_to_other
open-told v hold choice entries a line b =
    let r = v.run in
    let n = next_clock_of v in
    let bench = b.bench in
    let reaches : Reaches r n = record { timely = bench.timely; bounds = bench.bounds; long = omega arith } in
    ap (list_any (is_claim_of_other a line)) (unsnooped-old r (run_with v hold choice entries) n b.grows (omega arith))
    ∙ open-at r a line n v.bus.queue refl reaches bench.requests bench.entries.begun
    ∙ ap (list_any (is_open_of_other a line)) (sym (same-performed v).queue)
