-- A snoop is stalled exactly where a live request stalls.
use Rattle.fsb_phase_run.proofs.Words
use Words.{ℕ, zero, suc, ◌+◌, ◌*◌, ◌-◌, ◌/◌, ◌%◌, ◌<◌, ◌≤◌, ◌≡◌, Bool, true, false, not, ◌&&◌, nat_eq, nat_le, Option}
use Words.{Some, None, List, length, is_none, is_some, refl, sym, ap, ◌∙◌, arith, inl, inr, subst, slice_get}
use Words.{option_map, and_from, and_parts, both_ways, cases_Bool, eq-eqb, eqb-true, le-leb, leb-true, any_where}
use Words.{greater_of, is_some_and, any_where-at, any_where-found, any_where-off, first_where-found, Trace, stalls_at}
use Words.{AgreeTo, live_count, ends_snoop, is_every_second_from, snoop_end_from, snoop_end_if, snoop_end_of}
use Words.{snoop_start_of, start_after_clock, start_after_end, is_stall_from, AgreeTo-sym, live_below_count}
use Words.{live_clock_of-stays, snoop_end_of-clock, snoop_end_of-stays, snoop_start_of-after, stalls_at-agree}
use Words.{start_clock, Entry, has_snoop, is_stalled, rank_of, drive_of, find-cases, find-off, find-place, GrowsTo}
use Words.{Past, Run, run_to, drives_aerr, drives_bnr, drives_defer, drives_hazards, drives_stalls, is_stall_chosen}
use Words.{keeps_snoop_lines, live_choice, Timely, holds_at, holds_in, and5, live_choice-same, same-beq, HoldsRequests}
use Rattle.fsb_phase_run.proofs.Grown.{agree-back, agree-cut, agree-grown, choice-grown}
use Rattle.fsb_phase_run.proofs.HeldEntries.{EntryOf, entry-held, number-held}
use Rattle.fsb_phase_run.proofs.Unanswered.{snoops-first}

-- stalls and every second clock, by places
stall-place : (stall c start : ℕ) → is_stall_from stall c start ≡ true → (m : ℕ) × (m < stall) × (c ≡ start + 2 * m)
unfolding is_stall_from
stall-place stall c start e =
    let p = any_where-found (λ m. nat_eq c (start + 2 * m)) stall e in (p.0, p.1, eqb-true c (start + 2 * p.0) p.2)

stall-from : (stall c start m : ℕ) → m < stall → c ≡ start + 2 * m → is_stall_from stall c start ≡ true
unfolding is_stall_from
stall-from stall c start m l e =
    any_where-at (λ k. nat_eq c (start + 2 * k)) stall m l (eq-eqb c (start + 2 * m) e)

second-place : (start c : ℕ) → is_every_second_from start c ≡ true → (k : ℕ) × (c ≡ start + 2 * k)
unfolding is_every_second_from
second-place start c e =
    let p = and_parts (nat_le start c) (nat_eq ((c - start) % 2) 0) e in
    let low : start ≤ c = leb-true start c p.0 in
    let even : (c - start) % 2 ≡ 0 = eqb-true ((c - start) % 2) 0 p.1 in ((c - start) / 2, omega arith)

second-from : (start c k : ℕ) → c ≡ start + 2 * k → is_every_second_from start c ≡ true
unfolding is_every_second_from
second-from start c k e =
    let even : (c - start) % 2 ≡ 0 = omega (arith, e) in
    and_from _ _ (le-leb start c (omega (arith, e))) (eq-eqb ((c - start) % 2) 0 even)

-- the first snoop clock of a live request stays
start-stays : (n : ℕ) (w v : Trace) (i start : ℕ) → AgreeTo n w v → start ≤ n → snoop_start_of w i ≡ Some start
    → snoop_start_of v i ≡ Some start
unfolding snoop_start_of start_after_clock start_after_end
start-stays n w v zero start a l e =
    let p = start_clock w 0 start e in
    let low = p.2 in
    let same = live_clock_of-stays n w v 0 p.0 a (omega arith) p.1 ∙ sym p.1 in
    ap (option_map (λ q. q + 4)) same ∙ e
start-stays n w v (suc i) start a l e =
    let p = start_clock w (suc i) start e in
    let low = p.2 in
    let t = snoop_start_of-after w i start e in
    let late = t.2 in
    let same = live_clock_of-stays n w v (suc i) p.0 a (omega arith) p.1 ∙ sym p.1 in
    let before = snoop_end_of-stays n w v i t.0 a (omega arith) t.1 ∙ sym t.1 in
    (λ k. greater_of (option_map (λ q. q + 4) (same k)) (option_map (λ s. s + 3) (before k))) ∙ e

-- a snoop end is that of the snoop that starts
end-of-start : (w : Trace) (i start : ℕ) → snoop_start_of w i ≡ Some start → snoop_end_of w i ≡ snoop_end_from w start
unfolding snoop_end_of snoop_start_of snoop_end_if
end-of-start w zero start e = ap (snoop_end_if w) e
end-of-start w (suc i) start e = ap (snoop_end_if w) e

-- the next clock is one at which live request i stalls
pub record IsStalled (r : Run) (i : ℕ) : Type 0 where
  pub start : ℕ
  pub is_start : snoop_start_of r.trace i ≡ Some start
  pub number : ℕ
  pub few : number < (live_choice r i).stall
  pub place : length r.trace ≡ start + 2 * number

stalls-by : (v : Run) (p : Past) (c : ℕ) → drives_hazards v p c ≡ true
    → stalls_at v.trace c ≡ any_where (is_stall_chosen v c) (live_count v.trace)
unfolding drives_hazards drives_stalls
stalls-by v p c e =
    let a = and5 (drives_bnr v c) (drives_aerr v c) (drives_stalls v c) (drives_defer v p c)
    (keeps_snoop_lines v c) e in
    same-beq (stalls_at v.trace c) (any_where (is_stall_chosen v c) (live_count v.trace)) a.2

stalls-there : (r : Run) (c : ℕ) → Timely r → c < length r.trace
    → stalls_at (run_to r c).trace c ≡ any_where (is_stall_chosen (run_to r c) c) (live_count (run_to r c).trace)
unfolding holds_at holds_in
stalls-there r c h l = stalls-by (run_to r c) _ c (h.hazard_lines.at c l)

-- its snoop has not ended before
no-end : (r : Run) (i t : ℕ) (k : IsStalled r i) → Timely r → snoop_end_of r.trace i ≡ Some t → ⊥
unfolding snoop_end_from ends_snoop is_stall_chosen is_some_and
no-end r i t k h e =
    let c = snoop_end_of-clock r.trace i t e in
    let within = c.within in
    let v = run_to r t in
    let agree = agree-cut r t within in
    let back = AgreeTo-sym (t + 1) v.trace r.trace agree in
    let found = first_where-found (ends_snoop r.trace k.start) (length r.trace) t
    (sym (end-of-start r.trace i k.start k.is_start) ∙ e) in
    let ends = and_parts (is_every_second_from k.start t) (not (stalls_at r.trace t)) found.1 in
    let p = second-place k.start t ends.0 in
    let place = p.1 in
    let few = k.few in
    let last = k.place in
    let there = snoop_end_of-stays (t + 1) r.trace v.trace i t back (omega arith) e in
    let start = start-stays (t + 1) r.trace v.trace i k.start back (omega arith) k.is_start in
    let choice = live_choice-same r t i t within there in
    let stalls = stall-from (live_choice r i).stall t k.start p.0 (omega arith) place in
    let chosen : is_stall_chosen v t i ≡ true =
    ap (λ o. is_some_and o (is_stall_from (live_choice v i).stall t)) start
    ∙ ap (λ x. is_stall_from x.stall t k.start) choice ∙ stalls in
    let first = snoop_end_of-clock v.trace i t there in
    let now = stalls-there r t h within
    ∙ any_where-at (is_stall_chosen v t) (live_count v.trace) i
    (live_below_count v.trace i first.clock first.is_clock) chosen in
    let here : stalls_at r.trace t ≡ true = sym (stalls_at-agree (t + 1) v.trace r.trace t agree (omega arith)) ∙ now in
    let no : not true ≡ true = ap not (sym here) ∙ ends.1 in cc no

unended : (r : Run) (i : ℕ) (k : IsStalled r i) → Timely r → snoop_end_of r.trace i ≡ None
unended r i k h = by (snoop_end_of r.trace i) refl
  where
    by : (o : Option ℕ) → snoop_end_of r.trace i ≡ o → snoop_end_of r.trace i ≡ None
    by None e = e
    by (Some t) e = absurd (no-end r i t k h e)

some-is : (o : Option ℕ) (stall n : ℕ) → is_some_and o (is_stall_from stall n) ≡ true
    → (start : ℕ) × (o ≡ Some start) × (is_stall_from stall n start ≡ true)
unfolding is_some_and
some-is None stall n e = absurd (let no : ⊥ = cc in no)
some-is (Some start) stall n e = (start, refl, e)

stall-old : (r s : Run) (i : ℕ) → GrowsTo r s → is_stall_chosen s (length r.trace) i ≡ true → IsStalled r i
unfolding is_stall_chosen
stall-old r s i grows e =
    let n = length r.trace in
    let p = some-is (snoop_start_of s.trace i) (live_choice s i).stall n e in
    let m = stall-place (live_choice s i).stall n p.0 p.2 in
    let few = m.1 in
    let place = m.2 in
    let start = start-stays n s.trace r.trace i p.0 (agree-back r s grows) (omega arith) p.1 in
    let q = start_clock r.trace i p.0 start in
    let low = q.2 in
    let choice = choice-grown r s i q.0 grows (omega arith) q.1 in
    let enough = subst (λ c. m.0 < c.stall) (sym choice) few in
    record { start = p.0; is_start = start; number = m.0; few = enough; place = place }

stall-new : (r s : Run) (i : ℕ) (k : IsStalled r i) → GrowsTo r s
    → (i < live_count s.trace) × (is_stall_chosen s (length r.trace) i ≡ true)
unfolding is_stall_chosen is_some_and
stall-new r s i k grows =
    let n = length r.trace in
    let place = k.place in
    let q = start_clock r.trace i k.start k.is_start in
    let low = q.2 in
    let agree = agree-grown r s grows in
    let choice = choice-grown r s i q.0 grows (omega arith) q.1 in
    let start = start-stays n r.trace s.trace i k.start agree (omega arith) k.is_start in
    let clock = live_clock_of-stays n r.trace s.trace i q.0 agree (omega arith) q.1 in (
      live_below_count s.trace i q.0 clock,
      ap (λ o. is_some_and o (is_stall_from (live_choice s i).stall n)) start
          ∙ ap (λ x. is_stall_from x.stall n k.start) (sym choice)
          ∙ stall-from (live_choice r i).stall n k.start k.number k.few place,
    )

-- whether live request i stalls its snoop at the next clock
abbrev stall_at : Run → ℕ → ℕ → Bool
stall_at r i stall =
    (is_none (snoop_end_of r.trace i)
    && is_some_and (snoop_start_of r.trace i) (λ start. is_every_second_from start (length r.trace)))
    && is_some_and (snoop_start_of r.trace i) (is_stall_from stall (length r.trace))

entry-stalls : (r : Run) (e : Entry) → e.choice ≡ live_choice r (rank_of r.trace e) → is_stalled r.trace e ≡ true
    → IsStalled r (rank_of r.trace e)
unfolding is_stalled has_snoop is_some_and
entry-stalls r e choice t =
    let i = rank_of r.trace e in
    let stall = (live_choice r i).stall in
    let n = length r.trace in
    let here : stall_at r i stall ≡ true = subst (λ c. stall_at r i c.stall ≡ true) choice t in
    let a = and_parts _ _ here in
    let p = some-is (snoop_start_of r.trace i) stall n a.1 in
    let m = stall-place stall n p.0 p.2 in
    record { start = p.0; is_start = p.1; number = m.0; few = m.1; place = m.2 }

stalls-entry : (r : Run) (queue : List Entry) (i : ℕ) (k : EntryOf r queue i) (d : IsStalled r i)
    → snoop_end_of r.trace i ≡ None → is_stalled r.trace k.entry ≡ true
unfolding is_stalled has_snoop is_some_and
stalls-entry r queue i k d none =
    let stall = (live_choice r i).stall in
    let n = length r.trace in
    let second = ap (λ o. is_some_and o (λ start. is_every_second_from start n)) d.is_start
    ∙ second-from d.start n d.number d.place in
    let stalls = ap (λ o. is_some_and o (is_stall_from stall n)) d.is_start
    ∙ stall-from stall n d.start d.number d.few d.place in
    let here : stall_at r i stall ≡ true = and_from _ _ (and_from _ _ (ap is_none none) second) stalls in
    ap (λ c. stall_at r (rank_of r.trace k.entry) c.stall) k.choice ∙ ap (λ j. stall_at r j stall) k.rank ∙ here

none-stalls : (r s : Run) (queue : List Entry) (i : ℕ) → GrowsTo r s → HoldsRequests queue r
    → ((j : ℕ) (y : Entry) → slice_get queue j ≡ Some y → is_stalled r.trace y ≡ false)
    → is_stall_chosen s (length r.trace) i ≡ false
none-stalls r s queue i grows f g =
    elim (cases_Bool (is_stall_chosen s (length r.trace) i)) [
      | inr off ↦ off
      | inl t ↦
          let d = stall-old r s i grows t in
          let none = unended r i d grows.timely in
          let q = start_clock r.trace i d.start d.is_start in
          let k = entry-held r queue i q.0 f q.1 (snoops-first r i grows.timely none) in
          absurd (both_ways _ (g k.place k.entry k.at) (stalls-entry r queue i k d none))
    ]

pub stall-drive : (r s : Run) (queue : List Entry) → GrowsTo r s → HoldsRequests queue r
    → (drive_of r.trace queue).stall ≡ any_where (is_stall_chosen s (length r.trace)) (live_count s.trace)
unfolding drive_of
stall-drive r s queue grows f =
    let n = length r.trace in
    elim (find-cases (is_stalled r.trace) queue) [
      | inl k ↦
          let held = number-held r queue k.place k.item f k.at in
          let i = rank_of r.trace k.item in
          let new = stall-new r s i (entry-stalls r k.item held.1 k.passes) grows in
          ap is_some (find-place (is_stalled r.trace) queue k.place k.item k.at k.passes k.before)
          ∙ sym (any_where-at (is_stall_chosen s n) (live_count s.trace) i new.0 new.1)
      | inr g ↦
          ap is_some (find-off (is_stalled r.trace) queue g)
          ∙ sym (any_where-off (is_stall_chosen s n) (live_count s.trace) (λ i l. none-stalls r s queue i grows f g))
    ]
