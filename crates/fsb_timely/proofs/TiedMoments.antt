-- What the moments of a run say of a snoop end is what the whole trace says.
use Rattle.std.proofs.Common.{ℕ, zero, suc, ◌+◌, ◌<◌, ◌≤◌, ◌≡◌, [], ◌∷◌, ◌++◌, Option, Some, None, length}
use Rattle.std.proofs.Common.{slice_index, is_some, refl, sym, ap, subst, ◌∙◌, inl, inr, arith}
use Rattle.std.proofs.lemmas.Bool.{cases_lt}
use Rattle.std.proofs.lemmas.List.{length-append, get_or_append_left}
use Rattle.std.proofs.Math.Seq.{get_or-append_seam}
use Rattle.std.specs.Option.{option_map}
use Rattle.fsb_count.specs.Clocks.{count_where}
use Rattle.fsb_count.proofs.Interface.{count_where-passed, count_where-failed, count_where-mono}
use Rattle.fsb_trace.specs.Requests.{live_clock_of}
use Rattle.fsb_trace.specs.Snoop.{snoop_end_of}
use Rattle.fsb_trace.specs.Outcome.{settled_by, settled_outcome_of}
use Rattle.fsb_trace.proofs.Interface.{request_at-agree, AgreeTo-sym, snoop_end_of-clock, snoop_end_of-stays}
use Rattle.fsb_trace.proofs.Interface.{live_clock_of-stays, snoop_end_of-rises}
use Rattle.fsb_timely.specs.Moments.{number_of_turn, turns_in, number_snooped_at, snoop_end_with}
use Rattle.fsb_timely.specs.Past.{SnoopEnd}
use Rattle.fsb_timely.specs.Runs.{past_with, Run, run_to, moments_below, past_of}
use Rattle.fsb_timely.specs.Grants.{snooped_at}
use Rattle.fsb_timely.specs.Tied.{IsSnoopOf}
use Rattle.fsb_timely.proofs.TurnOrder.{turns_in-append, turns-snooped, turns-quiet}
use Rattle.std.proofs.lemmas.Option.{slice_get_past}
use Rattle.fsb_timely.proofs.Beginnings.{length-moments}
use Rattle.fsb_timely.proofs.TiedGrants.{grant_of-same}
use Rattle.fsb_timely.proofs.GoingOn.{Alike}
use Rattle.fsb_timely.proofs.Settled.{settled_by-agree, claim_at-agree}
use Rattle.fsb_timely.proofs.EndCount.{is_end_of_snoop, ends-below, is_end}
use Rattle.fsb_timely.proofs.Moments.{moment-at, moment_of, snoop_of, moment-snooped, moment-quiet, number-says}
use Rattle.fsb_timely.proofs.Moments.{snooped-there, run_to-agrees}

-- the turns so far are as many as the snoop ends so far
length-turns-more : (r : Run) (n : ℕ) → n < length r.trace → (o : Option ℕ) → number_snooped_at r.trace n ≡ o
    → length (turns_in (moments_below r n)) ≡ count_where (is_end_of_snoop r.trace) n
    → length (turns_in (moments_below r n ++ moment_of r n ∷ [])) ≡ count_where (is_end_of_snoop r.trace) (n + 1)
unfolding is_end_of_snoop
length-turns-more r n l None e h = grind (arith, turns-quiet, moment-quiet, count_where-failed)
length-turns-more r n l (Some i) e h =
    let end = number-says r.trace i n e in
    let c = snoop_end_of-clock r.trace i n end in
    let s = snoop_of r n i c.clock in
    ap length (turns-snooped (moments_below r n) (moment_of r n) s (moment-snooped r i n c.clock end c.is_clock))
    ∙ length-append (turns_in (moments_below r n)) (number_of_turn s.turn ∷ []) ∙ ap (λ k. k + 1) h
    ∙ sym (count_where-passed (is_end_of_snoop r.trace) n (ap is_some e))

length-turns : (r : Run) (n : ℕ) → n ≤ length r.trace
    → length (turns_in (moments_below r n)) ≡ count_where (is_end_of_snoop r.trace) n
unfolding moments_below turns_in count_where
length-turns r zero l = refl
length-turns r (suc n) l = grind (arith, length-turns-more, length-turns r n (omega arith))

-- the turn of a live request comes after those of the live requests before it
turn-new : (r : Run) (i t q : ℕ) → snoop_end_of r.trace i ≡ Some t → live_clock_of r.trace i ≡ Some q
    → slice_index (turns_in (moments_below r t ++ moment_of r t ∷ [])) i ≡ number_of_turn (snoop_of r t i q).turn
turn-new r i t q e f =
    let c = snoop_end_of-clock r.trace i t e in
    let within = c.within in
    let here : length (turns_in (moments_below r t)) ≡ i = length-turns r t (omega arith) ∙ ends-below r.trace i t e in
    ap (λ ts. slice_index ts i)
    (turns-snooped (moments_below r t) (moment_of r t) (snoop_of r t i q) (moment-snooped r i t q e f))
    ∙ ap (slice_index (turns_in (moments_below r t) ++ number_of_turn (snoop_of r t i q).turn ∷ [])) (sym here)
    ∙ get_or-append_seam (turns_in (moments_below r t)) (number_of_turn (snoop_of r t i q).turn) [] 0

-- and stays there
turn-old : (r : Run) (n i t : ℕ) → snoop_end_of r.trace i ≡ Some t → t < n → n ≤ length r.trace
    → slice_index (turns_in (moments_below r n ++ moment_of r n ∷ [])) i ≡ slice_index (turns_in (moments_below r n)) i
turn-old r n i t e l m =
    let count = length-turns r n m in
    let passed = count_where-passed (is_end_of_snoop r.trace) t (is_end r.trace i t e) in
    let at = ends-below r.trace i t e in
    grind (arith, count_where-mono, turns_in-append, get_or_append_left)

-- the turn of a live request is at its number
turn-there : (r : Run) (n i t q : ℕ) → snoop_end_of r.trace i ≡ Some t → live_clock_of r.trace i ≡ Some q
    → t < n → n ≤ length r.trace
    → slice_index (turns_in (moments_below r n)) i ≡ number_of_turn (snoop_of r t i q).turn
unfolding moments_below
turn-there r zero i t q e f l m = absurd (omega arith)
turn-there r (suc n) i t q e f l m = grind (arith, turn-old, turn-new, turn-there r n i t q e f)

-- the turn of an earlier live request is the same in the list so far and in the whole list
turns-alike : (r : Run) (i t : ℕ) → snoop_end_of r.trace i ≡ Some t → (j : ℕ) → j < i
    → slice_index (turns_in (moments_below r t)) j ≡ slice_index (turns_in (moments_below r (length r.trace))) j
turns-alike r i t e j l =
    let within = (snoop_end_of-clock r.trace i t e).within in
    let before = snoop_end_of-rises r.trace j i t l e in
    let u : ℕ = before.0 in
    let gap : u + 3 ≤ t = before.2 in
    let c = snoop_end_of-clock r.trace j u before.1 in
    turn-there r t j u c.clock before.1 c.is_clock (omega arith) (omega arith)
    ∙ sym (turn-there r (length r.trace) j u c.clock before.1 c.is_clock (omega arith) (omega arith))

-- the past below a clock is like that of the whole run up to there
past-alike : (r : Run) (t : ℕ) → t ≤ length r.trace → Alike t (past_with r (moments_below r t) t) (past_of r)
unfolding past_of
past-alike r t l = grind (arith, moment-at)

-- the snoop end of a live request of the whole trace is in the moment of its clock
pub snoop-tied : (r : Run) (i t : ℕ) → snoop_end_of r.trace i ≡ Some t → (s : SnoopEnd) × IsSnoopOf r i t s
unfolding snoop_end_with past_of settled_outcome_of
snoop-tied r i t e =
    let c = snoop_end_of-clock r.trace i t e in
    let above = c.above in
    let q : ℕ = c.clock in
    let v = (run_to r t).trace in
    let agree = run_to-agrees r t c.within in
    let s : SnoopEnd = snoop_of r t i q in
    let turn = turn-there r (length r.trace) i t q e c.is_clock c.within (omega arith) in
    let request = request_at-agree (t + 1) r.trace v q agree (omega arith) in
    let back = AgreeTo-sym (t + 1) r.trace v agree in
    let there = snoop_end_of-stays (t + 1) r.trace v i t agree (omega arith) e in
    let clock = live_clock_of-stays (t + 1) r.trace v i q agree (omega arith) c.is_clock in (
      s,
      record {
        there = snooped-there r t c.within ∙ moment-snooped r i t q e c.is_clock;
        reached = e;
        first = c.is_clock;
        claim = sym (claim_at-agree (t + 1) r.trace v q agree (omega arith));
        kind = ap (option_map (λ x. x.kind)) (sym request);
        turn = turn;
        outcome = ap (option_map (settled_by r.trace (slice_index (turns_in (moments_below r (length r.trace))) i) i)) e
            ∙ ap (λ k. Some (settled_by r.trace k i t)) turn
            ∙ ap Some (settled_by-agree (t + 1) r.trace v (number_of_turn s.turn) i t agree (omega arith) e);
        grant = grant_of-same (t + 1) (past_with r (moments_below r t) t) (past_of r) v r.trace i t q s.outcome
            (past-alike r t (omega arith)) (record {
              agree = back;
              below = omega arith;
              left = there;
              right = e;
            }) clock c.is_clock (omega arith) (λ j less. turns-alike r i t e j less);
      },
    )

told-by : (r : Run) (t : ℕ) (s : SnoopEnd) → t < length r.trace → (o : Option ℕ)
    → number_snooped_at r.trace t ≡ o → snooped_at (past_of r) t ≡ Some s → (i : ℕ) × IsSnoopOf r i t s
told-by r t s l None e h = grind (arith, snooped-there, moment-quiet)
told-by r t s l (Some i) e h =
    let tied = snoop-tied r i t (number-says r.trace i t e) in
    let same : tied.0 ≡ s = (let e' = sym tied.1.there ∙ h in cc) in
    (i, subst (IsSnoopOf r i t) same tied.1)

none-past : (r : Run) (t : ℕ) → length r.trace ≤ t → snooped_at (past_of r) t ≡ None
unfolding snooped_at past_of
none-past r t l = grind (arith, slice_get_past, length-moments)

-- and each snoop end of a moment is that of a live request of the whole trace
pub tied-snoop : (r : Run) (t : ℕ) (s : SnoopEnd) → snooped_at (past_of r) t ≡ Some s → (i : ℕ) × IsSnoopOf r i t s
tied-snoop r t s h =
    elim (cases_lt t (length r.trace)) [
      | inl l ↦ told-by r t s l (number_snooped_at r.trace t) refl h
      | inr l ↦ absurd (let x : ⊥ = (let e' = sym h ∙ none-past r t l in cc) in x)
    ]
