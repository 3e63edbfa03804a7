-- The hazard lines of a clock are as they must be.
use Rattle.fsb_bench_run.proofs.Words
use Words.{ℕ, ◌+◌, ◌-◌, ◌<◌, ◌≤◌, ◌≡◌, ◌&&◌, ◌||◌, Bool, true, false, not, Option, Some, None, List, [], ◌∷◌, ◌++◌}
use Words.{length, is_none, is_some, nat_eq, nat_le, refl, sym, ap, ◌∙◌, arith, inl, inr, subst, beq, find, slice_get}
use Words.{option_and_then, option_map_or, and_from, and_parts, both_ways, eqb-true, false_from_ne_true, le-leb}
use Words.{leb-true, any_where, is_some_and, slice_get-end, Bridged, deferral_of_id, is_covered, is_waited_for}
use Words.{Deferral, effective_turn, Done, Choice, stalls, is_snoop_due, is_live-ads, is_snoop_clock-more, one_more}
use Words.{has_snoop, rank_of, snooped_count, snoops_to, find-cases, find-off, find-place, Entry, ADS, AERR, BNR, DEFER}
use Words.{HIT, HITM, line_at, line_at-past, request_at, stalls_at, is_pending, is_cancelled, is_live, live_clock_of}
use Words.{live_count, live_number_of, is_every_second_from, is_snoop_clock, snoop_end_of, snoop_start_of, Who}
use Words.{Symmetric, Priority, line_at-agree, live_clock_of-number, snoop_end_of-clock, GrowsTo, choice_at}
use Words.{is_in_window, turns_in, SnoopEnd, Run, past_of, drives_aerr, drives_bnr, drives_defer, drives_hazards}
use Words.{drives_stalls, is_bnr_chosen, is_error_chosen, is_keep, is_put_off, is_stall_chosen, keeps_snoop_lines}
use Words.{Timely, holds_at, HoldsRequests, agree-grown, choice-same, entry-held, snoops-first, stall-drive}
use Words.{step_decided, step_drive, step_performed, step_sample, is_cancelled_by, snooped_entry, snooped_for}
use Words.{turn_counted, BenchView, BusView, next_clock_of, IsBegunAt, IsBenchOf}
use Rattle.fsb_bench_run.proofs.RunWith.{run_with}
use Rattle.fsb_bench_run.proofs.BegunRequests.{begun-request, request-grown}
use Rattle.fsb_bench_run.proofs.DeferralsTold.{DeferralsTold}
use Rattle.fsb_bench_run.proofs.DrivenLines.{aerr-driven, bnr-driven, defer-driven, defer_driven, hit-driven}
use Rattle.fsb_bench_run.proofs.DrivenLines.{hit_driven, hitm-driven, hitm_driven, line-with}
use Rattle.fsb_bench_run.proofs.ResponsesDriven.{all5, beq-from}
use Rattle.fsb_bench_run.proofs.SameBus.{same-performed}
use Rattle.fsb_bench_run.proofs.SnoopCases.{SnoopsHere, snoop-cases}
use Rattle.fsb_bench_run.proofs.SnoopDriven.{no-snoop, no-stall, snooped-shut, stalls-driven}
use Rattle.fsb_bench_run.proofs.SnoopEntry.{held-here, snoop-rank, spaced-here}
use Rattle.fsb_bench_run.proofs.ThisClock.{holds-now}
use Rattle.fsb_bench_run.proofs.TurnCounted.{begun-reply, end-turn, kept-turn, window-same}

-- BNR#
bnr-now : (v : BenchView) (hold : Bool) (choice : Choice) (entries : List Done) → Timely v.run
    → line_at BNR (run_with v hold choice entries).trace (next_clock_of v) ≡ is_bnr_chosen
    (run_with v hold choice entries) (next_clock_of v)
unfolding is_bnr_chosen
bnr-now v hold choice entries timely =
    let there = ap (slice_get (v.run.holds ++ hold ∷ [])) (sym timely.one_hold) ∙ slice_get-end v.run.holds hold in
    line-with v hold choice entries BNR
    ∙ bnr-driven (step_performed v) (next_clock_of v) v.run.plan.profile (step_decided v hold)
    ∙ sym (ap (λ o. option_map_or (λ (b : Bool). b) o false) there)

-- AERR#: an entry that began three clocks before, and is to be cancelled, is the request that began there
entry-error : (v : BenchView) (hold : Bool) (choice : Choice) (entries : List Done) (k : ℕ) (e : Entry)
    → GrowsTo v.run (run_with v hold choice entries) → HoldsRequests v.bus.queue v.run
    → slice_get v.bus.queue k ≡ Some e
    → is_cancelled_by (next_clock_of v) e ≡ true
    → is_error_chosen (run_with v hold choice entries) (next_clock_of v) ≡ true
unfolding is_error_chosen
entry-error v hold choice entries k e grows f at t =
    let r = v.run in
    let s = run_with v hold choice entries in
    let n = next_clock_of v in
    let a = and_parts e.choice.aerr (nat_eq (e.clock + 3) n) t in
    let place : e.clock + 3 ≡ n = eqb-true (e.clock + 3) n a.1 in
    let here = held-here r v.bus.queue k e f at in
    let back : n - 3 ≡ e.clock = omega arith in
    let ads = is_live-ads r.trace e.clock here.live in
    let line = ap (line_at ADS s.trace) back
    ∙ sym (line_at-agree ADS n r.trace s.trace e.clock (agree-grown r s grows) here.within) ∙ ads in
    let choice_is = f.entries.chosen k e at ∙ choice-same r s e.clock grows here.within ads in
    let error = ap (λ q. (choice_at s.choices s.trace q).aerr) back ∙ sym (ap (λ (c : Choice). c.aerr) choice_is)
    ∙ a.0 in
    and_from _ _ (and_from _ _ (le-leb 3 n (omega arith)) line) error

-- and the request that began there has an entry
error-entry : (v : BenchView) (hold : Bool) (choice : Choice) (entries : List Done)
    → GrowsTo v.run (run_with v hold choice entries) → HoldsRequests v.bus.queue v.run
    → is_error_chosen (run_with v hold choice entries) (next_clock_of v) ≡ true
    → (k : ℕ) × (e : Entry) × (slice_get v.bus.queue k ≡ Some e) × (is_cancelled_by (next_clock_of v) e ≡ true)
unfolding is_error_chosen is_live is_cancelled
error-entry v hold choice entries grows f t =
    let r = v.run in
    let s = run_with v hold choice entries in
    let n = next_clock_of v in
    let q : ℕ = n - 3 in
    let a = and_parts (nat_le 3 n && line_at ADS s.trace q) _ t in
    let b = and_parts (nat_le 3 n) (line_at ADS s.trace q) a.0 in
    let low : 3 ≤ n = leb-true 3 n b.0 in
    let ads = line_at-agree ADS n r.trace s.trace q (agree-grown r s grows) (omega arith) ∙ b.1 in
    let past = line_at-past AERR r.trace (q + 3) (omega arith) in
    let live : is_live r.trace q ≡ true = and_from _ _ ads (ap not past) in
    let i = live_number_of r.trace q in
    let clock = live_clock_of-number r.trace q (omega arith) live in
    let none = no-end i q (snoop_end_of r.trace i) refl clock (omega arith) in
    let k = entry-held r v.bus.queue i q f clock (snoops-first r i grows.timely none) in
    let same : q ≡ k.entry.clock = one q k.entry.clock (sym clock ∙ k.clock) in
    let choice_is = f.entries.chosen k.place k.entry k.at ∙ ap (choice_at r.choices r.trace) (sym same)
    ∙ choice-same r s q grows (omega arith) ads in
    grind arith
  where
    one : (a b : ℕ) → Some a ≡ Some b → a ≡ b
    one a b e = cc

    no-end : (i q : ℕ) (o : Option ℕ) → snoop_end_of v.run.trace i ≡ o → live_clock_of v.run.trace i ≡ Some q
        → length v.run.trace < q + 4 → snoop_end_of v.run.trace i ≡ None
    no-end i q None e c l = e
    no-end i q (Some t) e c l =
        let k = snoop_end_of-clock v.run.trace i t e in
        let above = k.above in
        let within = k.within in
        let same : k.clock ≡ q = one k.clock q (sym k.is_clock ∙ c) in absurd (omega arith)

aerr-now : (v : BenchView) (hold : Bool) (choice : Choice) (entries : List Done)
    → GrowsTo v.run (run_with v hold choice entries) → HoldsRequests v.bus.queue v.run
    → line_at AERR (run_with v hold choice entries).trace (next_clock_of v) ≡ is_error_chosen
    (run_with v hold choice entries) (next_clock_of v)
aerr-now v hold choice entries grows f =
    let s = run_with v hold choice entries in
    let n = next_clock_of v in
    let queue = v.bus.queue in
    let same = same-performed v in
    line-with v hold choice entries AERR ∙ aerr-driven (step_performed v) n v.run.plan.profile (step_decided v hold)
    ∙ ap (λ q. is_some (find (is_cancelled_by n) q)) same.queue
    ∙ elim (find-cases (is_cancelled_by n) queue) [
      | inl k ↦
          ap is_some (find-place (is_cancelled_by n) queue k.place k.item k.at k.passes k.before)
          ∙ sym (entry-error v hold choice entries k.place k.item grows f k.at k.passes)
      | inr g ↦
          ap is_some (find-off (is_cancelled_by n) queue g)
          ∙ sym (false_from_ne_true (is_error_chosen s n)
          (λ t. let k = error-entry v hold choice entries grows f t in both_ways _ (g k.0 k.1 k.2) k.3))
    ]

-- the stalls
stalls-now : (v : BenchView) (hold : Bool) (choice : Choice) (entries : List Done)
    → GrowsTo v.run (run_with v hold choice entries) → HoldsRequests v.bus.queue v.run
    → stalls_at (run_with v hold choice entries).trace (next_clock_of v)
    ≡ any_where (is_stall_chosen (run_with v hold choice entries) (next_clock_of v)) (live_count
    (run_with v hold choice entries).trace)
unfolding stalls_at stalls
stalls-now v hold choice entries grows f =
    let hit = line-with v hold choice entries HIT in
    let hitm = line-with v hold choice entries HITM in
    (λ i. hit i && hitm i) ∙ stalls-driven v hold
    ∙ stall-drive v.run (run_with v hold choice entries) v.bus.queue grows f

-- the request whose snoop ends is decoded
pub decoded-now : (v : BenchView) (hold : Bool) (choice : Choice) (entries : List Done) → IsBenchOf v
    → (grows : GrowsTo v.run (run_with v hold choice entries)) → (k : SnoopsHere v hold choice entries)
    → request_at (run_with v hold choice entries).trace k.now.entry.clock ≡ Some k.now.entry.request
decoded-now v hold choice entries b grows k =
    let r = v.run in
    let s = run_with v hold choice entries in
    let e = k.now.entry in
    let c = snoop_end_of-clock s.trace (rank_of s.trace e) (next_clock_of v) k.told.is_end.reached in
    let above = c.above in
    let first : c.clock ≡ e.clock = grind arith in
    request-grown r s e.clock grows (omega arith)
    ∙ begun-request r e.clock e.who e.request b.timely b.bounds (omega arith) (b.entries.begun k.now.place e k.now.at)
  where
    one : (x y : ℕ) → Some x ≡ Some y → x ≡ y
    one x y e = cc

-- the turn that counts is that of the moment
pub turn-now : (v : BenchView) (hold : Bool) (choice : Choice) (entries : List Done) → IsBenchOf v
    → DeferralsTold v (run_with v hold choice entries)
    → (grows : GrowsTo v.run (run_with v hold choice entries)) → (k : SnoopsHere v hold choice entries)
    → k.told.end.turn ≡ turn_counted (step_performed v) k.now.entry
turn-now v hold choice entries b told grows k =
    let r = v.run in
    let s = run_with v hold choice entries in
    let n = next_clock_of v in
    let e = k.now.entry in
    let same = same-performed v in
    let f = b.requests in
    let here = held-here r v.bus.queue k.now.place e f k.now.at in
    let ads = is_live-ads r.trace e.clock here.live in
    let line = e.request.line in
    let choice_is : choice_at s.choices s.trace e.clock ≡ e.choice =
    sym (f.entries.chosen k.now.place e k.now.at ∙ choice-same r s e.clock grows here.within ads) in
    let window = sym (window-same r.plan.bridge line)
    ∙ ap (λ w. is_covered w line) (sym (ap (λ (x : Bridged). x.window) same.bridge ∙ b.bridge.window)) in
    let pending = told.pending line ∙ ap (λ (x : Bridged). is_waited_for line x.waiting) (sym same.bridge) in
    end-turn r s e grows k.told (decoded-now v hold choice entries b grows k)
    ∙ (λ i. effective_turn (choice_is i).turn e.request (window i) (pending i))

reply-keeps : (bus : BusView) (y : Entry) (o : Option Deferral)
    → defer_driven (option_and_then (snooped_for bus y) o) ≡ false
unfolding is_keep
reply-keeps bus y o = grind arith

put-off-by : (v : BenchView) (hold : Bool) (choice : Choice) (entries : List Done) → IsBenchOf v
    → DeferralsTold v (run_with v hold choice entries)
    → (grows : GrowsTo v.run (run_with v hold choice entries)) → (k : SnoopsHere v hold choice entries) (who : Who)
    → k.now.entry.who ≡ who
    → defer_driven (snooped_entry (step_performed v) k.now.entry who) ≡ not (is_keep k.told.end.turn)
unfolding is_keep
put-off-by v hold choice entries b told grows k (Symmetric agent) e = ap (λ t. not (is_keep t)) (sym
    (turn-now v hold choice entries b told grows k))
put-off-by v hold choice entries b told grows k Priority e =
    let r = v.run in
    let s = run_with v hold choice entries in
    let y = k.now.entry in
    let begun = subst (λ w. IsBegunAt r y.clock w y.request) e (b.entries.begun k.now.place y k.now.at) in
    let kept = end-turn r s y grows k.told (decoded-now v hold choice entries b grows k)
    ∙ kept-turn (choice_at s.choices s.trace y.clock).turn y.request (is_in_window s.plan.bridge y.request.line)
    (is_pending s.trace (turns_in (past_of r).moments) y.request.line (next_clock_of v))
    (begun-reply r y.clock y.request begun) in
    reply-keeps (step_performed v) y (deferral_of_id y.request.did (step_performed v).bridge.waiting)
    ∙ sym (ap (λ t. not (is_keep t)) kept)

defer-now : (v : BenchView) (hold : Bool) (choice : Choice) (entries : List Done) → IsBenchOf v
    → DeferralsTold v (run_with v hold choice entries)
    → GrowsTo v.run (run_with v hold choice entries)
    → line_at DEFER (run_with v hold choice entries).trace (next_clock_of v) ≡ is_put_off (past_of
    (run_with v hold choice entries)) (next_clock_of v)
unfolding is_put_off is_some_and
defer-now v hold choice entries b told grows =
    let s = run_with v hold choice entries in
    let n = next_clock_of v in
    line-with v hold choice entries DEFER ∙ defer-driven (step_performed v) n v.run.plan.profile (step_decided v hold)
    ∙ elim (snoop-cases v hold choice entries grows b.requests) [
      | inr g ↦ ap defer_driven g.none ∙ sym (ap (λ o. is_some_and o (λ (x : SnoopEnd). not (is_keep x.turn))) g.quiet)
      | inl k ↦
          ap defer_driven k.decided ∙ put-off-by v hold choice entries b told grows k k.now.entry.who refl
          ∙ sym (ap (λ o. is_some_and o (λ (x : SnoopEnd). not (is_keep x.turn))) k.told.is_end.there)
    ]

-- a snoop clock of an entry is a snoop clock of the run
due-here : (r : Run) (e : Entry) → has_snoop r.trace e ≡ true
    → is_some_and (snoop_start_of r.trace (rank_of r.trace e)) (λ start. is_every_second_from start
    (length r.trace)) ≡ true
unfolding has_snoop
due-here r e t = (and_parts (is_none (snoop_end_of r.trace (rank_of r.trace e))) _ t).1

due-now : (r : Run) (e : Entry) → has_snoop r.trace e ≡ true
    → is_snoop_due r.trace (snooped_count r.trace) (length r.trace) ≡ true
unfolding is_snoop_due
due-now r e t =
    ap (λ i. is_some_and (snoop_start_of r.trace i) (λ start. is_every_second_from start (length r.trace)))
    (sym (snoop-rank r e t)) ∙ due-here r e t

-- snoop lines are at snoop clocks alone
pub lines-kept : (v : BenchView) (hold : Bool) (choice : Choice) (entries : List Done)
    → GrowsTo v.run (run_with v hold choice entries) → HoldsRequests v.bus.queue v.run
    → keeps_snoop_lines (run_with v hold choice entries) (next_clock_of v) ≡ true
unfolding keeps_snoop_lines
lines-kept v hold choice entries grows f =
    let r = v.run in
    let s = run_with v hold choice entries in
    let n = next_clock_of v in
    let queue = v.bus.queue in
    let x = step_sample v hold in
    let bus = step_performed v in
    let drive = step_drive v in
    let d = step_decided v hold in
    elim (find-cases (has_snoop r.trace) queue) [
      | inl k ↦
          let here = held-here r queue k.place k.item f k.at in
          let clock = is_snoop_clock-more r.trace x s.trace (snooped_count r.trace) (one_more r.trace x)
          (spaced-here r k.item grows.timely here) (snoops_to r.trace) ∙ due-now r k.item k.passes in
          ap (λ b. b || not (line_at HIT s.trace n || line_at HITM s.trace n)) clock
      | inr g ↦
          let none = snooped-shut bus drive
          (ap (λ b. drive.stall || b) (no-snoop r.trace queue g) ∙ or-true drive.stall) in
          let off = no-stall r.trace queue g in
          let hit = line-with v hold choice entries HIT ∙ hit-driven bus n r.plan.profile d
          ∙ (λ i. hit_driven (none i) (off i)) in
          let hitm = line-with v hold choice entries HITM ∙ hitm-driven bus n r.plan.profile d
          ∙ (λ i. hitm_driven (none i) (off i)) in
          ap (λ b. is_snoop_clock s.trace n || not b) (λ i. hit i || hitm i) ∙ or-true (is_snoop_clock s.trace n)
    ]
  where
    or-true : (b : Bool) → (b || true) ≡ true
    or-true b = grind arith

pub hazards-now : (v : BenchView) (hold : Bool) (choice : Choice) (entries : List Done) → IsBenchOf v
    → DeferralsTold v (run_with v hold choice entries)
    → GrowsTo v.run (run_with v hold choice entries)
    → drives_hazards (run_with v hold choice entries) (past_of (run_with v hold choice entries))
    (next_clock_of v) ≡ true
unfolding drives_hazards drives_bnr drives_aerr drives_stalls drives_defer
hazards-now v hold choice entries b told grows =
    let s = run_with v hold choice entries in
    let n = next_clock_of v in
    let f = b.requests in
    all5 (beq (line_at BNR s.trace n) (is_bnr_chosen s n)) (beq (line_at AERR s.trace n) (is_error_chosen s n))
    (beq (stalls_at s.trace n) (any_where (is_stall_chosen s n) (live_count s.trace)))
    (beq (line_at DEFER s.trace n) (is_put_off (past_of s) n)) (keeps_snoop_lines s n)
    (beq-from _ _ (bnr-now v hold choice entries b.timely)) (beq-from _ _ (aerr-now v hold choice entries grows f))
    (beq-from _ _ (stalls-now v hold choice entries grows f)) (beq-from _ _
    (defer-now v hold choice entries b told grows))
    (lines-kept v hold choice entries grows f)

-- the hazard lines at the clock
pub drives-hazards : (v : BenchView) (hold : Bool) (choice : Choice) (entries : List Done) → IsBenchOf v
    → DeferralsTold v (run_with v hold choice entries)
    → GrowsTo v.run (run_with v hold choice entries)
    → holds_at drives_hazards (run_with v hold choice entries) (next_clock_of v) ≡ true
drives-hazards v hold choice entries b told grows =
    holds-now drives_hazards v.run (run_with v hold choice entries) grows
    (hazards-now v hold choice entries b told grows)
