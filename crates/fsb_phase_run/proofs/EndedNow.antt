-- The end that the phases tell is that of the moment of the new clock.
use Rattle.fsb_phase_run.proofs.Words
use Words.{ℕ, ◌≡◌, Bool, true, false, not, nat_eq, Some, None, List, [], length, refl, sym, ap, ◌∙◌, arith, inl, inr}
use Words.{subst, find, list_any, slice_get, option_map, option_map_or, and_from, and_parts, both_ways, cases_Bool}
use Words.{eq-eqb, eqb-true, count_where, nth_where, is_at, is_before, is_some_and, is_at-from, is_at-some}
use Words.{is_before-parts, nth_where-at, nth_where-found, ADS, line_at, Trace, is_live, live_clock_of, live_count}
use Words.{live_number_of, end_of, end_of-response, end_of-stays, live_below_count, live_clock_of-number}
use Words.{live_clock_of-stays, snoop_end_of-clock, snoop_end_of-stays, ads_before_end, has_answer, is_live-ads, Entry}
use Words.{rank_of, has_end_at, phased_at, find-cases, find-off, find-place, ended_requests, is_end_at, GrowsTo}
use Words.{moment_at, requests_ending_at, Run, past_of, requests_below, moment-at, run-ends, any-from, any-listed}
use Words.{one-ends, HoldsRequests}
use Rattle.fsb_laws.specs.Orderly.{Orderly}
use Rattle.fsb_phase_run.proofs.Grown.{agree-back, agree-grown, longer}
use Rattle.fsb_phase_run.proofs.HeldEntries.{EntryOf, entry-flying}
use Rattle.fsb_phase_run.proofs.SnoopedNow.{number-grown}

-- the ends that the moment of the new clock has are those of the longer trace
ended-shown : (r s : Run) (q : ℕ) → GrowsTo r s
    → is_end_at (past_of s) (length r.trace) q ≡ list_any (nat_eq q) (requests_ending_at s.trace (length r.trace))
unfolding is_end_at ended_requests past_of moment_at
ended-shown r s q grows =
    let n = length r.trace in
    let size = longer r s grows in
    ap (λ o. list_any (nat_eq q) (option_map_or (λ moment. moment.ended) o []))
    (moment-at s (length s.trace) n (omega arith))
    ∙ ap (λ v. list_any (nat_eq q) (requests_ending_at v.trace n)) (run-ends r s grows)

-- live request i, which begins at q, ends at n
record EndsNow (w : Trace) (n i q : ℕ) : Type 0 where
  end : end_of w i ≡ Some n
  first : live_clock_of w i ≡ Some q

ended-number : (w : Trace) (n q : ℕ) → list_any (nat_eq q) (requests_ending_at w n) ≡ true → (i : ℕ) × EndsNow w n i q
unfolding requests_ending_at
ended-number w n q e =
    let k = any-from (λ i. is_at (end_of w i) n) (live_clock_of w) (nat_eq q) (live_count w) e in (
      k.0,
      record {
        end = is_at-some (end_of w k.0) n k.1.there;
        first = k.1.gives ∙ ap (λ m. Some m) (sym (eqb-true q k.1.given k.1.passes));
      },
    )

number-ended : (w : Trace) (n i q : ℕ) → EndsNow w n i q → list_any (nat_eq q) (requests_ending_at w n) ≡ true
unfolding requests_ending_at
number-ended w n i q k =
    any-listed (λ j. is_at (end_of w j) n) (live_clock_of w) (nat_eq q) (live_count w) i
    (live_below_count w i q k.first)
    (record { there = is_at-from (end_of w i) n k.end; given = q; gives = k.first; passes = eq-eqb q q refl })

-- the entry of a request whose end is the new clock tells so
end-told : (r s : Run) (queue : List Entry) (i q : ℕ) (k : EntryOf r queue i) → live_clock_of r.trace i ≡ Some q
    → EndsNow s.trace (length r.trace) i q → has_end_at s.trace (length r.trace) k.entry ≡ true
unfolding has_end_at live_number_of live_clock_of
end-told r s queue i q k old d =
    let there = k.clock in
    let same : q ≡ k.entry.clock = cc in
    let m = nth_where-found (is_live s.trace) i (length s.trace) q d.first in
    let live = ap (is_live s.trace) (sym same) ∙ m.1 in
    let number : live_number_of s.trace k.entry.clock ≡ i = ap (count_where (is_live s.trace)) (sym same) ∙ m.2 in
    and_from _ _ live (is_at-from _ (length r.trace) (ap (end_of s.trace) number ∙ d.end))

-- and it has one
end-entry : (r s : Run) (queue : List Entry) (i q : ℕ) → GrowsTo r s → HoldsRequests queue r → Orderly s.trace
    → EndsNow s.trace (length r.trace) i q
    → (k : EntryOf r queue i) × (has_end_at s.trace (length r.trace) k.entry ≡ true)
end-entry r s queue i q grows f o d =
    let n = length r.trace in
    let p = end_of-response s.trace i n d.end in
    let a = has_answer s.trace p.0 i (o.timely i p.0 p.1) in
    let before = a.before in
    let c = snoop_end_of-clock s.trace i a.snoop a.is_snoop in
    let above = c.above in
    let clock = c.is_clock in
    let first = d.first in
    let begun : c.clock ≡ q = cc in
    let no_later = p.2 in
    let back = agree-back r s grows in
    let snoop = snoop_end_of-stays n s.trace r.trace i a.snoop back (omega arith) a.is_snoop in
    let old = live_clock_of-stays n s.trace r.trace i q back (omega arith) first in
    let flies : not (is_before (end_of r.trace i) n) ≡ true = elim (cases_Bool (is_before (end_of r.trace i) n)) [
      | inr off ↦ ap not off
      | inl t ↦
          let u = is_before-parts (end_of r.trace i) n t in
          let below = u.2 in
          let agree = agree-grown r s grows in
          let stays = end_of-stays n r.trace s.trace i a.snoop u.0 agree (omega arith) snoop below u.1 in
          let end = d.end in
          let same : u.0 ≡ n = cc in absurd (omega arith)
    ] in
    let k = entry-flying r queue i q f old flies in (k, end-told r s queue i q k old d)

-- what an entry tells whose request ends
entry-ends : (r s : Run) (queue : List Entry) (k : ℕ) (e : Entry) → GrowsTo r s → HoldsRequests queue r
    → slice_get queue k ≡ Some e → has_end_at s.trace (length r.trace) e ≡ true
    → EndsNow s.trace (length r.trace) (rank_of s.trace e) e.clock × (line_at ADS s.trace e.clock ≡ true)
unfolding has_end_at
entry-ends r s queue k e grows f at t =
    let size = longer r s grows in
    let a = and_parts (is_live s.trace e.clock) _ t in
    let within = (number-grown r s queue k e grows f at).0 in (
      record {
        end = is_at-some _ (length r.trace) a.1;
        first = live_clock_of-number s.trace e.clock (omega arith) a.0;
      },
      is_live-ads s.trace e.clock a.0,
    )

-- requests are known by their numbers
one-number : (w : Trace) (p q : ℕ) → line_at ADS w p ≡ true → line_at ADS w q ≡ true
    → requests_below w p ≡ requests_below w q → p ≡ q
unfolding requests_below
one-number w p q a b e =
    let first = nth_where-at (line_at ADS w) (length w) p (ads_before_end w p a) a in
    let second = nth_where-at (line_at ADS w) (length w) q (ads_before_end w q b) b in
    let same : Some p ≡ Some q = sym first ∙ ap (λ k. nth_where (line_at ADS w) k (length w)) e ∙ second in cc

none-at : (n : ℕ) → is_at None n ≡ false
unfolding is_at is_some_and
none-at n = refl

ended-by : (r s : Run) (queue : List Entry) (q : ℕ) (b : Bool) → GrowsTo r s → HoldsRequests queue r
    → Orderly s.trace → line_at ADS s.trace q ≡ true → is_end_at (past_of s) (length r.trace) q ≡ b
    → is_at (phased_at s.trace (length r.trace) queue).ended (requests_below s.trace q) ≡ b
unfolding phased_at
ended-by r s queue q true grows f o t e =
    let n = length r.trace in
    let d = ended-number s.trace n q (sym (ended-shown r s q grows) ∙ e) in
    let told = end-entry r s queue d.0 q grows f o d.1 in
    elim (find-cases (has_end_at s.trace n) queue) [
      | inl k ↦
          let c = entry-ends r s queue k.place k.item grows f k.at k.passes in
          let same = one-ends s.trace (rank_of s.trace k.item) d.0 n o c.0.end d.1.end in
          let one : Some k.item.clock ≡ Some q = sym c.0.first ∙ ap (live_clock_of s.trace) same ∙ d.1.first in
          let number = (number-grown r s queue k.place k.item grows f k.at).1 in
          is_at-from _ (requests_below s.trace q)
          (ap (option_map (λ e. e.number))
          (find-place (has_end_at s.trace n) queue k.place k.item k.at k.passes k.before)
          ∙ ap (λ m. Some m) number ∙ ap (option_map (requests_below s.trace)) one)
      | inr g ↦ absurd (both_ways _ (g told.0.place told.0.entry told.0.at) told.1)
    ]
ended-by r s queue q false grows f o t e =
    let n = length r.trace in
    elim (find-cases (has_end_at s.trace n) queue) [
      | inr g ↦
          ap (λ o. is_at (option_map (λ e. e.number) o) (requests_below s.trace q))
          (find-off (has_end_at s.trace n) queue g)
          ∙ none-at (requests_below s.trace q)
      | inl k ↦
          let found = find-place (has_end_at s.trace n) queue k.place k.item k.at k.passes k.before in
          let c = entry-ends r s queue k.place k.item grows f k.at k.passes in
          let number = (number-grown r s queue k.place k.item grows f k.at).1 in
          let ended = option_map (λ e. e.number) (find (has_end_at s.trace n) queue) in
          elim (cases_Bool (is_at ended (requests_below s.trace q))) [
            | inr off ↦ off
            | inl here ↦
                let same : Some k.item.number ≡ Some (requests_below s.trace q) =
                sym (ap (option_map (λ e. e.number)) found) ∙ is_at-some _ (requests_below s.trace q) here in
                let told_number : k.item.number ≡ requests_below s.trace q = cc in
                let one = one-number s.trace k.item.clock q c.1 t (sym number ∙ told_number) in
                let ends = subst (λ p. EndsNow s.trace n (rank_of s.trace k.item) p) one c.0 in
                let told = ended-shown r s q grows ∙ number-ended s.trace n (rank_of s.trace k.item) q ends in
                absurd (both_ways _ e told)
          ]
    ]

pub ended-now : (r s : Run) (queue : List Entry) (q : ℕ) → GrowsTo r s → HoldsRequests queue r → Orderly s.trace
    → line_at ADS s.trace q ≡ true
    → is_at (phased_at s.trace (length r.trace) queue).ended (requests_below s.trace q)
    ≡ is_end_at (past_of s) (length r.trace) q
ended-now r s queue q grows f o t = ended-by r s queue q (is_end_at (past_of s) (length r.trace) q) grows f o t refl
