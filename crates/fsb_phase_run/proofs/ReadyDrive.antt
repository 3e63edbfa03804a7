-- TRDY# is driven exactly where it is due.
use Rattle.fsb_phase_run.proofs.Words
use Words.{ℕ, ◌+◌, ◌<◌, ◌≡◌, Bool, true, false, ◌&&◌, Option, Some, None, List, length, is_none, is_some, refl, sym, ap}
use Words.{◌∙◌, arith, inl, inr, subst, slice_get, option_map, and_from, and_parts, both_ways, cases_Bool, any_where}
use Words.{is_at, any_where-at, any_where-off, is_at-from, is_at-some, response_clock_of, live_count, answer_from}
use Words.{takes, is_ready_from, live_below_count, snoop_end_of-clock, snoop_end_of-stays, Entry, has_ready, rank_of}
use Words.{drive_of, find-cases, find-off, find-place, GrowsTo, Run, live_choice, is_ready_due, run-ends, IsReadyDue}
use Words.{ready-answer, ready-now, ready-stays, HoldsRequests}
use Rattle.fsb_phase_run.proofs.Grown.{agree-back, agree-grown, live-same, longer}
use Rattle.fsb_phase_run.proofs.HeldEntries.{EntryOf, entry-held, number-held}
use Rattle.fsb_phase_run.proofs.Unanswered.{ready-first}

-- what is due at the new clock shows in the samples before it
ready-old : (r s : Run) (i : ℕ) → GrowsTo r s → is_ready_due s (length r.trace) i ≡ true
    → IsReadyDue r.trace (live_choice r i).trdy (length r.trace) i
ready-old r s i grows e =
    let n = length r.trace in
    let size = longer r s grows in
    let ends = run-ends r s grows in
    let wait = (live_choice s i).trdy in
    let cut = ready-now s n i (omega arith) (subst (λ v. is_ready_due v n i ≡ true) (sym ends) e) in
    let k : IsReadyDue s.trace wait n i = subst (λ v. IsReadyDue v.trace wait n i) ends cut in
    let a = ready-answer s.trace wait n i k in
    let before = a.before in
    let back = agree-back r s grows in
    let there = snoop_end_of-stays n s.trace r.trace i a.snoop back (omega arith) a.is_snoop in
    subst (λ choice. IsReadyDue r.trace choice.trdy n i) (sym (live-same r s i a.snoop grows there))
    (ready-stays n s.trace r.trace wait n i back (omega arith) k)

-- and what is due by the samples before it is due there
ready-new : (r s : Run) (i : ℕ) → GrowsTo r s → IsReadyDue r.trace (live_choice r i).trdy (length r.trace) i
    → (i < live_count s.trace) × (is_ready_due s (length r.trace) i ≡ true)
unfolding is_ready_due is_ready_from
ready-new r s i grows k =
    let n = length r.trace in
    let agree = agree-grown r s grows in
    let a = ready-answer r.trace (live_choice r i).trdy n i k in
    let before = a.before in
    let there = snoop_end_of-stays n r.trace s.trace i a.snoop agree (omega arith) a.is_snoop in
    let c = snoop_end_of-clock s.trace i a.snoop there in
    let wait = (live_choice s i).trdy in
    let now : IsReadyDue s.trace wait n i =
    subst (λ choice. IsReadyDue s.trace choice.trdy n i) (live-same r s i a.snoop grows a.is_snoop)
    (ready-stays n r.trace s.trace (live_choice r i).trdy n i agree (omega arith) k) in
    let at : option_map (λ f. f + wait) (answer_from s.trace i) ≡ Some n =
    ap (option_map (λ f. f + wait)) now.is_from ∙ ap (λ t. Some t) now.waits in
    (live_below_count s.trace i c.clock c.is_clock, and_from _ _ now.does_take (is_at-from _ n at))

mapped : (o : Option ℕ) (g : ℕ → ℕ) (t : ℕ) → option_map g o ≡ Some t → (y : ℕ) × (o ≡ Some y) × (g y ≡ t)
mapped None g t e = absurd (let no : ⊥ = cc in no)
mapped (Some y) g t e = (y, refl, cc)

-- whether live request i is to be ready at the next clock
abbrev ready_at : Run → ℕ → ℕ → Bool
ready_at r i wait =
    is_none (response_clock_of r.trace i) && takes r.trace i
    && is_ready_from (answer_from r.trace i) wait (length r.trace)

-- an entry that is to be ready is that of a request whose TRDY# is due
entry-due : (r : Run) (e : Entry) → e.choice ≡ live_choice r (rank_of r.trace e) → has_ready r.trace e ≡ true
    → IsReadyDue r.trace (live_choice r (rank_of r.trace e)).trdy (length r.trace) (rank_of r.trace e)
unfolding has_ready is_ready_from
entry-due r e choice t =
    let i = rank_of r.trace e in
    let wait = (live_choice r i).trdy in
    let a = and_parts _ _ t in
    let p = mapped (answer_from r.trace i) (λ f. f + wait) (length r.trace)
    (is_at-some _ (length r.trace)
    (subst (λ c. is_at (option_map (λ f. f + c.trdy) (answer_from r.trace i)) (length r.trace) ≡ true) choice a.1)) in
    record { does_take = (and_parts _ _ a.0).1; from = p.0; is_from = p.1; waits = p.2 }

due-entry : (r : Run) (queue : List Entry) (i : ℕ) (k : EntryOf r queue i) → response_clock_of r.trace i ≡ None
    → IsReadyDue r.trace (live_choice r i).trdy (length r.trace) i → has_ready r.trace k.entry ≡ true
unfolding has_ready is_ready_from
due-entry r queue i k none due =
    let wait = (live_choice r i).trdy in
    let at : option_map (λ f. f + wait) (answer_from r.trace i) ≡ Some (length r.trace) =
    ap (option_map (λ f. f + wait)) due.is_from ∙ ap (λ t. Some t) due.waits in
    let here : ready_at r i wait ≡ true =
    and_from _ _ (and_from _ _ (ap is_none none) due.does_take) (is_at-from _ (length r.trace) at) in
    ap (λ c. ready_at r (rank_of r.trace k.entry) c.trdy) k.choice ∙ ap (λ j. ready_at r j wait) k.rank ∙ here

pub ready-drive : (r s : Run) (queue : List Entry) → GrowsTo r s → HoldsRequests queue r
    → (drive_of r.trace queue).trdy ≡ any_where (is_ready_due s (length r.trace)) (live_count s.trace)
unfolding drive_of
ready-drive r s queue grows f =
    let n = length r.trace in
    elim (find-cases (has_ready r.trace) queue) [
      | inl k ↦
          let held = number-held r queue k.place k.item f k.at in
          let i = rank_of r.trace k.item in
          let due = ready-new r s i grows (entry-due r k.item held.1 k.passes) in
          ap is_some (find-place (has_ready r.trace) queue k.place k.item k.at k.passes k.before)
          ∙ sym (any_where-at (is_ready_due s n) (live_count s.trace) i due.0 due.1)
      | inr g ↦
          ap is_some (find-off (has_ready r.trace) queue g)
          ∙ sym (any_where-off (is_ready_due s n) (live_count s.trace) (λ i l. none-due r s queue i grows f g))
    ]
  where
    none-due : (r s : Run) (queue : List Entry) (i : ℕ) → GrowsTo r s → HoldsRequests queue r
        → ((j : ℕ) (y : Entry) → slice_get queue j ≡ Some y → has_ready r.trace y ≡ false)
        → is_ready_due s (length r.trace) i ≡ false
    none-due r s queue i grows f g =
        elim (cases_Bool (is_ready_due s (length r.trace) i)) [
          | inr off ↦ off
          | inl t ↦
              let due = ready-old r s i grows t in
              let a = ready-answer r.trace (live_choice r i).trdy (length r.trace) i due in
              let c = snoop_end_of-clock r.trace i a.snoop a.is_snoop in
              let none = ready-first r i grows.timely due in
              let k = entry-held r queue i c.clock f c.is_clock none in
              absurd (both_ways _ (g k.place k.entry k.at) (due-entry r queue i k none due))
        ]
