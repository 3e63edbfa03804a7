-- Hazard lines and snoop results: what is said of a clock of the run up to it is said of the whole run.
use Rattle.fsb_timely_laws.proofs.Words
use Words.{ℕ, ◌+◌, ◌*◌, ◌-◌, ◌<◌, ◌≤◌, ◌≡◌, Bool, true, false, not, ◌&&◌, ◌||◌, nat_eq, nat_le, Option, Some, None}
use Words.{length, refl, sym, ap, ◌∙◌, arith, beq, option_and_then, option_map_or, eqb-true, any_where, is_some_and}
use Words.{any_where-found, ADS, AERR, BNR, DEFER, HIT, HITM, line_at, live_count, line_at_snoop_end, snoop_end_of}
use Words.{snoop_start_of, is_stall_from, line_at_snoop_end-stays, live_below_count, live_clock_of-stays}
use Words.{stalls_at-agree, holds_line, is_in_time, GoesOn, is_dirty, choice_at, number_snooped_at, served_number}
use Words.{SnoopEnd, Run, past_of, run_to, drives_aerr, drives_bnr, drives_defer, drives_hazards, drives_stalls}
use Words.{has_right_result, has_snoop_result, is_bnr_chosen, is_dirty_elsewhere, is_dirty_for, is_error_chosen}
use Words.{is_held_elsewhere, is_held_for, is_keep, is_put_off, is_reply_end, is_stall_chosen, keeps_snoop_lines}
use Words.{live_choice, number_served_at, was_hit_before, going-alike, holds_line-same, number-says, some-and}
use Words.{IsSaidOfTheWhole}
use Rattle.fsb_timely_laws.proofs.Tests.{PassesIn, any-both}
use Rattle.fsb_timely_laws.proofs.Agreed.{snoop_clock-same, start-clock, start-stays}
use Rattle.fsb_timely_laws.proofs.Pairs.{Paired, Paired-sym, live_choice-paired, number-same, served-end, served-same, turns}
use Rattle.fsb_timely_laws.proofs.SameUpTo.{SameUpTo, dirty-on, goes-on, said, same-up-to}
use Rattle.fsb_timely_laws.proofs.StartParts.{agree-of, line-same}

-- a test that matters only where another one passes
and-both : (a b b' x y : Bool) → b ≡ b' → (b ≡ true → x ≡ y) → ((a && b) && x) ≡ ((a && b') && y)
and-both a true true x y e f = ap (λ z. (a && true) && z) (f refl)
and-both true false false x y e f = refl
and-both false false false x y e f = refl
and-both a true false x y e f = absurd (let no : ⊥ = cc in no)
and-both a false true x y e f = absurd (let no : ⊥ = cc in no)

error-same : (c : ℕ) (r s : Run) → SameUpTo c r s → is_error_chosen r c ≡ is_error_chosen s c
unfolding is_error_chosen
error-same c r s h =
    and-both (nat_le 3 c) (line_at ADS r.trace (c - 3)) (line_at ADS s.trace (c - 3))
    (choice_at r.choices r.trace (c - 3)).aerr (choice_at s.choices s.trace (c - 3)).aerr
    (line-same ADS c (c - 3) r s h (omega arith))
    (λ t. ap (λ choice. choice.aerr) (h.paired.same_choices (c - 3) (omega arith) t))

-- a request stalls at c where its first snoop clock is there
stalled-from : (stall c start : ℕ) → is_stall_from stall c start ≡ true → start ≤ c
unfolding is_stall_from
stalled-from stall c start e =
    let m = any_where-found (λ m. nat_eq c (start + 2 * m)) stall e in
    let at = eqb-true c (start + 2 * m.0) m.2 in omega arith

stall-passes : (c : ℕ) (r s : Run) → Paired c r s
    → PassesIn (is_stall_chosen r c) (is_stall_chosen s c) (live_count r.trace) (live_count s.trace)
unfolding is_stall_chosen is_some_and
stall-passes c r s p = record {
  passes = λ i k e.
      let u = r.trace in
      let v = s.trace in
      let x = some-and (snoop_start_of u i) (is_stall_from (live_choice r i).stall c) e in
      let start : ℕ = x.0 in
      let low = stalled-from (live_choice r i).stall c start x.2 in
      let there = start-stays (c + 1) u v i start p.traces (omega arith) x.1 in
      let q = start-clock u i start x.1 in
      let far : q.0 + 4 ≤ start = q.2 in
      let choice = live_choice-paired c r s i q.0 p q.1 (omega arith) in (
        live_below_count v i q.0 (live_clock_of-stays (c + 1) u v i q.0 p.traces (omega arith) q.1),
        ap (λ o. is_some_and o (is_stall_from (live_choice s i).stall c)) there
            ∙ sym (ap (λ y. is_stall_from y.stall c start) choice) ∙ x.2,
      );
}

stalls-same : (c : ℕ) (r s : Run) → Paired c r s
    → any_where (is_stall_chosen r c) (live_count r.trace) ≡ any_where (is_stall_chosen s c) (live_count s.trace)
stalls-same c r s p =
    any-both (is_stall_chosen r c) (is_stall_chosen s c) (live_count r.trace) (live_count s.trace)
    (stall-passes c r s p) (stall-passes c s r (Paired-sym c r s p))

hazards-same : (c : ℕ) (r s : Run) → SameUpTo c r s
    → drives_hazards r (past_of r) c ≡ drives_hazards s (past_of s) c
unfolding drives_hazards drives_bnr drives_aerr drives_stalls drives_defer keeps_snoop_lines is_bnr_chosen is_put_off
hazards-same c r s h =
    let u = r.trace in
    let v = s.trace in
    let bnr = line-same BNR c c r s h (omega arith) in
    let hold = sym h.holds in
    let aerr = line-same AERR c c r s h (omega arith) in
    let error = error-same c r s h in
    let stalls = stalls_at-agree (c + 1) u v c (agree-of c r s h) (omega arith) in
    let chosen = stalls-same c r s h.paired in
    let defer = line-same DEFER c c r s h (omega arith) in
    let end = h.paired.same_ends c (omega arith) in
    let clock = snoop_clock-same (c + 1) c u v (agree-of c r s h) (omega arith) in
    let hit = line-same HIT c c r s h (omega arith) in
    let hitm = line-same HITM c c r s h (omega arith) in
    λ i. beq (bnr i) (option_map_or (λ hold. hold) (hold i) false) && beq (aerr i) (error i)
    && beq (stalls i) (chosen i) && beq (defer i) (is_some_and (end i) (λ e. not (is_keep e.turn)))
    && (clock i || not (hit i || hitm i))

pub hazards-said : (r : Run) (c : ℕ) → c < length r.trace → IsSaidOfTheWhole drives_hazards r c
hazards-said r c l = said drives_hazards r c l (hazards-same c r (run_to r c) (same-up-to r c l))

-- HIT# at the snoop end of the request that is served
hit-served : (c i : ℕ) (r s : Run) (o : Option ℕ) → Paired c r s → snoop_end_of r.trace i ≡ Some c
    → served_number r.trace (turns r) i ≡ o
    → is_some_and o (line_at_snoop_end HIT r.trace) ≡ is_some_and o (line_at_snoop_end HIT s.trace)
unfolding is_some_and
hit-served c i r s None p e f = refl
hit-served c i r s (Some j) p e f =
    let k = served-end r.trace (turns r) i j c e f in
    let low = k.2 in
    line_at_snoop_end-stays HIT (c + 1) r.trace s.trace j k.0 p.traces (omega arith) k.1

hit-by : (c : ℕ) (r s : Run) (o : Option ℕ) → Paired c r s → number_snooped_at r.trace c ≡ o
    → is_some_and (option_and_then (served_number r.trace (turns r)) o) (line_at_snoop_end HIT r.trace)
    ≡ is_some_and (option_and_then (served_number s.trace (turns s)) o) (line_at_snoop_end HIT s.trace)
unfolding is_some_and
hit-by c r s None p e = refl
hit-by c r s (Some i) p e =
    let end = number-says r.trace i c e in
    hit-served c i r s (served_number r.trace (turns r) i) p end refl
    ∙ ap (λ o. is_some_and o (line_at_snoop_end HIT s.trace)) (served-same c r s i c p end (omega arith))

hit-same : (c : ℕ) (r s : Run) → Paired c r s → was_hit_before r (past_of r) c ≡ was_hit_before s (past_of s) c
unfolding was_hit_before number_served_at
hit-same c r s p =
    hit-by c r s (number_snooped_at r.trace c) p refl
    ∙ ap (λ o. is_some_and (option_and_then (served_number s.trace (turns s)) o) (line_at_snoop_end HIT s.trace))
    (number-same c r s p)

dirty-same : (c : ℕ) (r s : Run) (e : SnoopEnd) → GoesOn (c + 1) (past_of s) (past_of r)
    → is_dirty_for (past_of r) c e ≡ is_dirty_for (past_of s) c e
unfolding is_dirty_for is_dirty_elsewhere
dirty-same c r s e g =
    let dirty : (b line : ℕ) → is_dirty (past_of s) b line c ≡ is_dirty (past_of r) b line c =
    λ b line. dirty-on c (past_of s) (past_of r) b line g in
    sym (λ i. is_some_and e.claim (λ claim. any_where (λ b. not (nat_eq b claim.agent) && dirty b claim.line i) 4))

held-same : (c : ℕ) (r s : Run) (e : SnoopEnd) → GoesOn (c + 1) (past_of s) (past_of r)
    → is_held_for (past_of r) c e ≡ is_held_for (past_of s) c e
unfolding is_held_for is_held_elsewhere
held-same c r s e g =
    let alike = going-alike (c + 1) (past_of s) (past_of r) g in
    let held : (b line : ℕ) → holds_line (past_of s) b line c ≡ holds_line (past_of r) b line c =
    λ b line. holds_line-same (c + 1) (past_of s) (past_of r) b line c alike (omega arith) in
    sym (λ i. is_some_and e.claim (λ claim. any_where (λ b. not (nat_eq b claim.agent) && held b claim.line i) 4))

result-same : (c : ℕ) (r s : Run) (e : SnoopEnd) → SameUpTo c r s → GoesOn (c + 1) (past_of s) (past_of r)
    → has_right_result r (past_of r) c e ≡ has_right_result s (past_of s) c e
unfolding has_right_result
result-same c r s e h g =
    let hit = line-same HIT c c r s h (omega arith) in
    let hitm = line-same HITM c c r s h (omega arith) in
    let before = hit-same c r s h.paired in
    let dirty = dirty-same c r s e g in
    let held = held-same c r s e g in
    λ i. elim (is_reply_end e) [
      | true ↦ beq (hit i) (before i) && not (hitm i)
      | false ↦ beq (hitm i) (dirty i) && beq (hit i) (not (dirty i) && held i)
    ]

snoop-same : (c : ℕ) (r s : Run) → SameUpTo c r s → GoesOn (c + 1) (past_of s) (past_of r)
    → has_snoop_result r (past_of r) c ≡ has_snoop_result s (past_of s) c
unfolding has_snoop_result
snoop-same c r s h g =
    let end = h.paired.same_ends c (omega arith) in
    let result : (e : SnoopEnd) → has_right_result r (past_of r) c e ≡ has_right_result s (past_of s) c e =
    λ e. result-same c r s e h g in
    λ i. elim (end i) [ None ↦ true | Some e ↦ result e i ]

pub results-said : (r : Run) (c : ℕ) → is_in_time 0 (length r.trace) r.log ≡ true → c < length r.trace
    → IsSaidOfTheWhole has_snoop_result r c
results-said r c h l =
    said has_snoop_result r c l (snoop-same c r (run_to r c) (same-up-to r c l) (goes-on r c h l))
