-- How a request is settled, and which grant it makes.
use Rattle.fsb_coherent.proofs.Words
use Words.{ℕ, ◌+◌, ◌<◌, ◌≡◌, Bool, true, false, List, Option, Some, None, length, slice_index, refl, sym, ap, ◌∙◌}
use Words.{arith, is_some_and, Turn, Outcome, settled_by, settled_outcome_of, is_reply, live_clock_of, live_request_of}
use Words.{snooped_at, claim_at, effective_choice, gives_line, grant_for, grant_of, live_claim_of, number_of_turn}
use Words.{served_number, snoop_end_with, turns_in, Claim, Past, SnoopEnd, Run, moments_below, past_of, run_to}
use Words.{moment-snooped, run_to-agrees, snoop_of, snooped-there, tied-snoop}
use Rattle.fsb_encode.specs.declared.request.Request.{Request}
use Rattle.fsb_hazard.specs.declared.choice.Choice.{Choice}
use Rattle.fsb_hazard.specs.declared.choice.Turn.TheVariants.{Keep}
use Rattle.fsb_script.specs.declared.plan.Window.{Window}
use Rattle.fsb_signal.specs.declared.lines.TheConstants.Lines.{HITM}
use Rattle.fsb_signal.specs.Samples.{line_at}
use Rattle.fsb_trace.specs.At.{Trace, request_at}
use Rattle.fsb_trace.specs.Snoop.{snoop_end_of}
use Rattle.fsb_trace.proofs.Interface.{request_at-agree, snoop_end_of-clock}
use Rattle.fsb_timely.specs.Tied.{IsSnoopOf}
use Rattle.fsb_coherent.specs.Settled.{is_always_kept, outcome_by_turn, outcome_under, own_grant}

-- the turn as a number says what the turn says
settled-form : (w : Trace) (turn : Turn) (i t : ℕ) (handed : Bool) → line_at HITM w t ≡ handed
    → settled_by w (number_of_turn turn) i t ≡ outcome_under handed turn (live_request_of w i)
unfolding settled_by outcome_under outcome_by_turn number_of_turn
settled-form w turn i t handed h1 = grind arith

live-request : (w : Trace) (i q : ℕ) → live_clock_of w i ≡ Some q → live_request_of w i ≡ request_at w q
unfolding live_request_of
live-request w i q e = rw e refl

live-claim : (w : Trace) (i q : ℕ) → live_clock_of w i ≡ Some q → live_claim_of w i ≡ claim_at w q
unfolding live_claim_of
live-claim w i q e = rw e refl

settled-says : (w : Trace) (turns : List ℕ) (i t : ℕ) (outcome : Outcome) → snoop_end_of w i ≡ Some t
    → settled_outcome_of w turns i ≡ Some outcome → settled_by w (slice_index turns i) i t ≡ outcome
unfolding settled_outcome_of
settled-says w turns i t outcome e f = grind arith

-- a snoop end has the outcome that HITM#, its turn and its request make
pub outcome-made : (r : Run) (t : ℕ) (s : SnoopEnd) → snooped_at (past_of r) t ≡ Some s
    → s.outcome ≡ outcome_under (line_at HITM r.trace t) s.turn (request_at r.trace s.first)
outcome-made r t s e =
    let tied = tied-snoop r t s e in
    let i : ℕ = tied.0 in
    let h : IsSnoopOf r i t s = tied.1 in
    sym (settled-says r.trace (turns_in (past_of r).moments) i t s.outcome h.reached h.outcome)
    ∙ ap (λ n. settled_by r.trace n i t) h.turn
    ∙ settled-form r.trace s.turn i t (line_at HITM r.trace t) refl
    ∙ ap (outcome_under (line_at HITM r.trace t) s.turn) (live-request r.trace i s.first h.first)

served-itself : (w : Trace) (turns : List ℕ) (i : ℕ) → is_reply (live_request_of w i) ≡ false
    → served_number w turns i ≡ Some i
unfolding served_number
served-itself w turns i e = rw (e, served_number) refl

grant-for : (w : Trace) (i q t : ℕ) (claim : Claim) → live_clock_of w i ≡ Some q → claim_at w q ≡ Some claim
    → (p : Past) (outcome : Outcome) → gives_line p w q t outcome ≡ true
    → grant_for w q t i ≡ own_grant p w q t outcome claim
unfolding grant_for own_grant
grant-for w i q t claim e f p outcome gives = rw (live-request w i q e, live-claim w i q e, f, gives) refl

no-grant : (w : Trace) (q t : ℕ) (claim : Claim) (p : Past) (outcome : Outcome)
    → gives_line p w q t outcome ≡ false → own_grant p w q t outcome claim ≡ None
unfolding own_grant
no-grant w q t claim p outcome gives = rw gives refl

grant-form : (p : Past) (w : Trace) (i q t : ℕ) (outcome : Outcome) (claim : Claim) → live_clock_of w i ≡ Some q
    → claim_at w q ≡ Some claim → is_reply (request_at w q) ≡ false
    → grant_of p w i q t outcome ≡ own_grant p w q t outcome claim
unfolding grant_of
grant-form p w i q t outcome claim e f not_reply = grind (arith, served-itself, live-request, grant-for, no-grant)

-- a request of a symmetric agent makes a grant to its own claim
pub grant-made : (r : Run) (t : ℕ) (s : SnoopEnd) (claim : Claim) → snooped_at (past_of r) t ≡ Some s
    → s.claim ≡ Some claim → is_reply (request_at r.trace s.first) ≡ false
    → s.grant ≡ own_grant (past_of r) r.trace s.first t s.outcome claim
grant-made r t s claim e f not_reply = grind (arith, tied-snoop, grant-form)

turn-form : (bridge : Option Window) (choices : List Choice) (w : Trace) (turns : List ℕ) (q t : ℕ)
    (o : Option Request) → request_at w q ≡ o → is_always_kept o ≡ true
    → (effective_choice bridge choices w turns q t).turn ≡ Keep
unfolding effective_choice is_always_kept is_some_and
turn-form bridge choices w turns q t o h1 h2 = grind arith

turn-of : (r : Run) (t i q : ℕ)
    → (snoop_of r t i q).turn
    ≡ (effective_choice r.plan.bridge (run_to r t).choices (run_to r t).trace (turns_in (moments_below r t))
    q t).turn
unfolding snoop_end_with
turn-of r t i q = refl

-- a write-back and a reply are neither retried nor put off
pub turn-kept : (r : Run) (t : ℕ) (s : SnoopEnd) → snooped_at (past_of r) t ≡ Some s
    → is_always_kept (request_at r.trace s.first) ≡ true → s.turn ≡ Keep
turn-kept r t s e kept =
    let tied = tied-snoop r t s e in
    let i : ℕ = tied.0 in
    let h : IsSnoopOf r i t s = tied.1 in
    let c = snoop_end_of-clock r.trace i t h.reached in
    let above = c.above in
    let within : t < length r.trace = c.within in
    let clock : c.clock ≡ s.first = (let e' = sym c.is_clock ∙ h.first in cc) in
    let there : Some s ≡ Some (snoop_of r t i s.first) = grind (arith, snooped-there, moment-snooped) in
    let same : s ≡ snoop_of r t i s.first = cc in
    let request = request_at-agree (t + 1) r.trace (run_to r t).trace s.first (run_to-agrees r t within)
    (omega arith) in
    ap (λ x. x.turn) same ∙ turn-of r t i s.first
    ∙ turn-form r.plan.bridge (run_to r t).choices (run_to r t).trace (turns_in (moments_below r t)) s.first t
    (request_at r.trace s.first) (sym request) kept
