-- The turn of a live request of a timely run: what is settled by it, DEFER#, and that the request may have it.
use Rattle.fsb_lawful.proofs.Words
use Words.{ℕ, ◌+◌, ◌<◌, ◌≤◌, ◌≡◌, true, not, List, Option, Some, length, slice_index, ap, ◌∙◌, arith, option_map}
use Words.{is_some_and, Request, Turn, Keep, is_never_held_up, is_defer, ADS, DEFER, line_at, Trace, request_at}
use Words.{settled_by, settled_outcome_of, live_clock_of, live_request_of, snoop_end_of, AgreeTo-sym}
use Words.{live_clock_of-stays, live_request_of-at, request_at-agree, snoop_end_of-clock, snoop_end_of-stays}
use Words.{snooped_at, effective_choice, number_of_turn, snoop_end_with, turns_in, Past, SnoopEnd, Run, run_to, past_of}
use Words.{is_keep, is_put_off, drives_defer, drives_hazards, holds_in, holds_at, Timely, settled_of, IsSnoopOf}
use Words.{moment-snooped, snoop_of, snoop-tied, snooped-there, WantsLawfully}
use Rattle.fsb_hazard.specs.declared.choice.Choice.{Choice}
use Rattle.fsb_script.specs.declared.plan.Window.{Window}
use Rattle.fsb_lawful.proofs.Begun.{begun-decoded}
use Rattle.fsb_lawful.proofs.Cuts.{run_to-agrees, snooped-to, line-to}
use Rattle.fsb_lawful.proofs.CutRuns.{cuts-agree, length-cut, past-cut, live-ads}

-- the turn is one that the request may have: one that is never held up is kept, and one that is put off has DEN#
pub record TurnFits (turn : Turn) (request : Request) : Type 0 where
  pub keeps : is_never_held_up request.kind ≡ true → turn ≡ Keep
  pub has_den : is_defer turn ≡ true → request.den ≡ true

-- the effective turn of a request that is decoded
chosen-fits : (bridge : Option Window) (choices : List Choice) (w : Trace) (turns : List ℕ) (q s : ℕ)
    (request : Request)
    → request_at w q ≡ Some request → TurnFits (effective_choice bridge choices w turns q s).turn request
unfolding effective_choice
chosen-fits bridge choices w turns q s request e = grind arith

-- the snoop end s of live request i in the run up to c: its turn and what is settled by it, and DEFER#
pub record Turned (r : Run) (c i s : ℕ) : Type 0 where
  pub end : SnoopEnd
  pub there : snooped_at (past_of r) s ≡ Some end
  pub settled : settled_of (run_to r c) (past_of (run_to r c)) i
      ≡ Some (settled_by (run_to r c).trace (number_of_turn end.turn) i s)
  pub number : slice_index (turns_in (past_of (run_to r c)).moments) i ≡ number_of_turn end.turn
  pub outcome : settled_of (run_to r c) (past_of (run_to r c)) i ≡ Some end.outcome
  pub defers : line_at DEFER (run_to r c).trace s ≡ not (is_keep end.turn)
  pub kind : (request : Request) → live_request_of (run_to r c).trace i ≡ Some request → end.kind ≡ Some request.kind
  pub effective : (request : Request) → live_request_of (run_to r c).trace i ≡ Some request → TurnFits end.turn request

defers-by : (r : Run) (p : Past) (s : ℕ) (end : SnoopEnd) → drives_hazards r p s ≡ true
    → snooped_at p s ≡ Some end → line_at DEFER r.trace s ≡ not (is_keep end.turn)
unfolding drives_hazards drives_defer is_put_off is_some_and
defers-by r p s end e there = grind arith

-- DEFER# at a snoop end
defers-at : (r : Run) (c s : ℕ) (end : SnoopEnd) → Timely r → s ≤ c → c < length r.trace
    → snooped_at (past_of r) s ≡ Some end → line_at DEFER (run_to r c).trace s ≡ not (is_keep end.turn)
unfolding holds_at holds_in
defers-at r c s end h l m there = grind (arith, line-to, defers-by, snooped-to)

settled-by : (v : Run) (i s : ℕ) (end : SnoopEnd) → IsSnoopOf v i s end
    → settled_of v (past_of v) i ≡ Some (settled_by v.trace (number_of_turn end.turn) i s)
unfolding settled_of settled_outcome_of
settled-by v i s end k = grind arith

-- the snoop end of the run up to c is that of the whole run
tied-there : (r : Run) (c i s : ℕ) (end : SnoopEnd) → s ≤ c → c < length r.trace
    → snoop_end_of (run_to r c).trace i ≡ Some s → snooped_at (past_of r) s ≡ Some end
    → IsSnoopOf (run_to r c) i s end
tied-there r c i s end l m e there = grind (arith, snoop-tied, past-cut, snooped-to)

-- a live request is the one at its first clock
request-there : (w : Trace) (i q : ℕ) (request : Request) → live_clock_of w i ≡ Some q
    → live_request_of w i ≡ Some request → request_at w q ≡ Some request
unfolding live_request_of
request-there w i q request f g = rw f at g

pub turned-at : (r : Run) (c i s : ℕ) → Timely r → c < length r.trace
    → snoop_end_of (run_to r c).trace i ≡ Some s → Turned r c i s
unfolding snoop_end_with settled_of
turned-at r c i s h l e =
    let v = (run_to r c).trace in
    let size = length-cut r c l in
    let k = snoop_end_of-clock v i s e in
    let q : ℕ = k.clock in
    let above = k.above in
    let within = k.within in
    let back = AgreeTo-sym (c + 1) r.trace v (run_to-agrees r c l) in
    let reached = snoop_end_of-stays (c + 1) v r.trace i s back (omega arith) e in
    let clock = live_clock_of-stays (c + 1) v r.trace i q back (omega arith) k.is_clock in
    let there = snooped-there r s (omega arith) ∙ moment-snooped r i s q reached clock in
    let tied = tied-there r c i s (snoop_of r s i q) (omega arith) l e there in
    let agree = cuts-agree r s c (omega arith) l in
    record {
      end = snoop_of r s i q;
      there = there;
      settled = settled-by (run_to r c) i s (snoop_of r s i q) tied;
      number = tied.turn;
      outcome = tied.outcome;
      defers = defers-at r c s (snoop_of r s i q) h (omega arith) l there;
      kind = λ request f. tied.kind ∙ ap (option_map (λ x. x.kind)) (request-there v i _ request tied.first f);
      effective = λ request f.
          chosen-fits r.plan.bridge _ (run_to r s).trace _ q s request
          (request_at-agree (s + 1) (run_to r s).trace v q agree (omega arith)
          ∙ request-there v i q request k.is_clock f);
    }

-- a request of a lawful run is decoded from its second clock on
pub decoded-at : (r : Run) (c q : ℕ) → Timely r → WantsLawfully r → q < c → c < length r.trace
    → line_at ADS (run_to r c).trace q ≡ true
    → (request : Request) × (request_at (run_to r c).trace q ≡ Some request)
decoded-at r c q h wants l m t = grind (arith, line-to, begun-decoded, request_at-agree, cuts-agree)

-- so is a live request whose snoop end is reached
pub decoded-live : (r : Run) (c i s : ℕ) → Timely r → WantsLawfully r → c < length r.trace
    → snoop_end_of (run_to r c).trace i ≡ Some s
    → (request : Request) × (live_request_of (run_to r c).trace i ≡ Some request)
decoded-live r c i s h wants l e =
    let v = (run_to r c).trace in
    let size = length-cut r c l in
    let k = snoop_end_of-clock v i s e in
    let q : ℕ = k.clock in
    let above = k.above in
    let within = k.within in
    let d = decoded-at r c q h wants (omega arith) l (live-ads v i q k.is_clock) in
    (d.0, live_request_of-at v i q d.0 k.is_clock d.1)
