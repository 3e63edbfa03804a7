-- The snoop end that the phases tell is that of the moment of the new clock.
use Rattle.fsb_phase_run.proofs.Words
use Words.{ℕ, ◌<◌, ◌≡◌, true, false, Option, Some, None, List, length, refl, sym, ap, ◌∙◌, arith, inl, inr, slice_get}
use Words.{option_map, and_from, and_parts, both_ways, count_where, count_where-same, is_at-from, is_at-some}
use Words.{nth_where-found, ADS, line_at, is_live, live_clock_of, live_number_of, snoop_end_of, line_at-agree}
use Words.{live_clock_of-number, live_clock_of-stays, snoop_end_of-clock, snoop_end_of-stays, Entry, rank_of}
use Words.{ends_snoop_at, phased_at, find-cases, find-off, find-place, snooped_at, GrowsTo, SnoopEnd, Run, past_of}
use Words.{requests_below, snoop-tied, tied-snoop, HoldsRequests}
use Rattle.fsb_phase_run.proofs.Grown.{agree-back, agree-grown, longer}
use Rattle.fsb_phase_run.proofs.HeldEntries.{EntryOf, entry-held, number-held}
use Rattle.fsb_phase_run.proofs.Unanswered.{snoops-first}

-- the number of an entry among all requests
pub number-grown : (r s : Run) (queue : List Entry) (k : ℕ) (e : Entry) → GrowsTo r s → HoldsRequests queue r
    → slice_get queue k ≡ Some e → (e.clock < length r.trace) × (e.number ≡ requests_below s.trace e.clock)
unfolding requests_below live_clock_of
number-grown r s queue k e grows f at =
    let n = length r.trace in
    let p = nth_where-found (is_live r.trace) (rank_of r.trace e) n e.clock (number-held r queue k e f at).0 in
    let within : e.clock < n = p.0 in (
      within,
      f.entries.numbered k e at
          ∙ count_where-same (line_at ADS r.trace) (line_at ADS s.trace) e.clock
          (record { same = λ d m. line_at-agree ADS n r.trace s.trace d (agree-grown r s grows) (omega arith) }),
    )

-- a request whose snoop end is the new clock has no snoop end before
no-snoop : (r s : Run) (i : ℕ) (o : Option ℕ) → GrowsTo r s → snoop_end_of s.trace i ≡ Some (length r.trace)
    → snoop_end_of r.trace i ≡ o → snoop_end_of r.trace i ≡ None
no-snoop r s i None grows e f = f
no-snoop r s i (Some t) grows e f =
    let n = length r.trace in
    let c = snoop_end_of-clock r.trace i t f in
    let within = c.within in
    let there = snoop_end_of-stays n r.trace s.trace i t (agree-grown r s grows) within f in
    let same : t ≡ n = cc in absurd (omega arith)

-- and its entry tells so
snoop-entry : (r s : Run) (queue : List Entry) (i : ℕ) → GrowsTo r s → HoldsRequests queue r
    → snoop_end_of s.trace i ≡ Some (length r.trace)
    → (k : EntryOf r queue i) × (ends_snoop_at s.trace (length r.trace) k.entry ≡ true)
unfolding ends_snoop_at live_number_of live_clock_of
snoop-entry r s queue i grows f e =
    let n = length r.trace in
    let size = longer r s grows in
    let c = snoop_end_of-clock s.trace i n e in
    let above = c.above in
    let q : ℕ = c.clock in
    let old = live_clock_of-stays n s.trace r.trace i q (agree-back r s grows) (omega arith) c.is_clock in
    let none = no-snoop r s i (snoop_end_of r.trace i) grows e refl in
    let k = entry-held r queue i q f old (snoops-first r i grows.timely none) in
    let clock = k.clock in
    let same : q ≡ k.entry.clock = cc in
    let p = nth_where-found (is_live s.trace) i (length s.trace) q c.is_clock in
    let live = ap (is_live s.trace) (sym same) ∙ p.1 in
    let number : live_number_of s.trace k.entry.clock ≡ i = ap (count_where (is_live s.trace)) (sym same) ∙ p.2 in
    (k, and_from _ _ live (is_at-from _ n (ap (snoop_end_of s.trace) number ∙ e)))

-- where no entry tells so, the moment has no snoop end
none-snooped : (r s : Run) (queue : List Entry) (o : Option SnoopEnd) → GrowsTo r s → HoldsRequests queue r
    → ((j : ℕ) (y : Entry) → slice_get queue j ≡ Some y → ends_snoop_at s.trace (length r.trace) y ≡ false)
    → snooped_at (past_of s) (length r.trace) ≡ o → o ≡ None
none-snooped r s queue None grows f g e = refl
none-snooped r s queue (Some end) grows f g e =
    let tied = tied-snoop s (length r.trace) end e in
    let k = snoop-entry r s queue tied.0 grows f tied.1.reached in
    absurd (both_ways _ (g k.0.place k.0.entry k.0.at) k.1)

-- what an entry tells whose snoop ends
entry-snooped : (r s : Run) (queue : List Entry) (k : ℕ) (e : Entry) → GrowsTo r s → HoldsRequests queue r
    → slice_get queue k ≡ Some e → ends_snoop_at s.trace (length r.trace) e ≡ true
    → Some e.number ≡ option_map (λ end. requests_below s.trace end.first) (snooped_at (past_of s) (length r.trace))
unfolding ends_snoop_at
entry-snooped r s queue k e grows f at t =
    let n = length r.trace in
    let size = longer r s grows in
    let a = and_parts (is_live s.trace e.clock) _ t in
    let i = live_number_of s.trace e.clock in
    let p = number-grown r s queue k e grows f at in
    let within = p.0 in
    let first = live_clock_of-number s.trace e.clock (omega arith) a.0 in
    let tied = snoop-tied s i n (is_at-some _ n a.1) in
    let one : Some e.clock ≡ Some tied.0.first = sym first ∙ tied.1.first in
    ap (λ m. Some m) p.1 ∙ ap (option_map (requests_below s.trace)) one
    ∙ sym (ap (option_map (λ end. requests_below s.trace end.first)) tied.1.there)

pub snooped-now : (r s : Run) (queue : List Entry) → GrowsTo r s → HoldsRequests queue r
    → (phased_at s.trace (length r.trace) queue).snooped
    ≡ option_map (λ end. requests_below s.trace end.first) (snooped_at (past_of s) (length r.trace))
unfolding phased_at
snooped-now r s queue grows f =
    let n = length r.trace in
    elim (find-cases (ends_snoop_at s.trace n) queue) [
      | inl k ↦
          ap (option_map (λ e. e.number))
          (find-place (ends_snoop_at s.trace n) queue k.place k.item k.at k.passes k.before)
          ∙ entry-snooped r s queue k.place k.item grows f k.at k.passes
      | inr g ↦
          ap (option_map (λ e. e.number)) (find-off (ends_snoop_at s.trace n) queue g)
          ∙ sym (ap (option_map (λ end. requests_below s.trace end.first))
          (none-snooped r s queue (snooped_at (past_of s) n) grows f g refl))
    ]
