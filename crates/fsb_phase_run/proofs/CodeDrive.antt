-- The code of RS# that is driven is the one that is due.
use Rattle.fsb_phase_run.proofs.Words
use Words.{ℕ, ◌+◌, ◌<◌, ◌≡◌, Bool, true, false, ◌&&◌, Option, Some, None, List, length, is_none, refl, sym, ap, ◌∙◌}
use Words.{arith, inl, inr, subst, slice_get, option_and_then, option_map, option_map_or, and_from, and_parts}
use Words.{both_ways, cases_Bool, first_where-at, first_where-off, is_at-from, is_at-some, Trace, response_clock_of}
use Words.{response_code_of, live_count, answer_from, ready_clock_of, takes, snoop_end_of, is_response_from}
use Words.{live_below_count, snoop_end_of-clock, snoop_end_of-stays, Entry, has_response, rank_of, drive_of}
use Words.{settled_code, find-cases, find-off, find-place, snooped_at, GrowsTo, Run, past_of, live_choice, code_due}
use Words.{is_response_clock, number_responding, settled_of, run-ends, snoop-tied, Responding, responding-answer}
use Words.{responding-now, responding-stays, HoldsRequests}
use Rattle.fsb_phase_run.proofs.Grown.{agree-back, agree-grown, live-same, longer, snooped-same}
use Rattle.fsb_phase_run.proofs.HeldEntries.{EntryOf, entry-held, number-held}
use Rattle.fsb_phase_run.proofs.Unanswered.{one-responds, responds-first}

-- what is settled of a request is the same in two runs whose moments have the same snoop end of it
pub settled-from : (r s : Run) (i t : ℕ) → snoop_end_of r.trace i ≡ Some t → snoop_end_of s.trace i ≡ Some t
    → snooped_at (past_of r) t ≡ snooped_at (past_of s) t → settled_of r (past_of r) i ≡ settled_of s (past_of s) i
unfolding settled_of
settled-from r s i t e there same =
    let old = snoop-tied r i t e in
    let new = snoop-tied s i t there in
    let one : Some old.0 ≡ Some new.0 = sym old.1.there ∙ same ∙ new.1.there in
    old.1.outcome ∙ ap (option_map (λ x. x.outcome)) one ∙ sym new.1.outcome

-- it stays as the run grows
pub settled-same : (r s : Run) (i t : ℕ) → GrowsTo r s → snoop_end_of r.trace i ≡ Some t
    → settled_of r (past_of r) i ≡ settled_of s (past_of s) i
settled-same r s i t grows e =
    let c = snoop_end_of-clock r.trace i t e in
    let there = snoop_end_of-stays (length r.trace) r.trace s.trace i t (agree-grown r s grows) c.within e in
    settled-from r s i t e there (snooped-same r s t grows c.within)

-- what responds at the new clock shows in the samples before it
pub responds-old : (r s : Run) (i : ℕ) → GrowsTo r s → is_response_clock s (length r.trace) i ≡ true
    → Responding r.trace (live_choice r i).resp (length r.trace) i
responds-old r s i grows e =
    let n = length r.trace in
    let size = longer r s grows in
    let ends = run-ends r s grows in
    let wait = (live_choice s i).resp in
    let cut = responding-now s n i (omega arith) (subst (λ v. is_response_clock v n i ≡ true) (sym ends) e) in
    let k : Responding s.trace wait n i = subst (λ v. Responding v.trace wait n i) ends cut in
    let a = responding-answer s.trace wait n i k in
    let before = a.before in
    let back = agree-back r s grows in
    let there = snoop_end_of-stays n s.trace r.trace i a.snoop back (omega arith) a.is_snoop in
    subst (λ choice. Responding r.trace choice.resp n i) (sym (live-same r s i a.snoop grows there))
    (responding-stays n s.trace r.trace wait n i back (omega arith) k)

-- a request that responds does so at this clock, as a test
pub responds-by : (w : Trace) (wait n i : ℕ) → Responding w wait n i
    → is_response_from (takes w i) (answer_from w i) (ready_clock_of w i) wait n ≡ true
unfolding is_response_from
responds-by w wait n i (inl k) =
    let at : option_map (λ y. y + 2 + wait) (ready_clock_of w i) ≡ Some n =
    ap (option_map (λ y. y + 2 + wait)) k.is_ready ∙ ap (λ t. Some t) k.waits in
    rw k.does_take (is_at-from _ n at)
responds-by w wait n i (inr k) =
    let at : option_map (λ f. f + wait) (answer_from w i) ≡ Some n =
    ap (option_map (λ f. f + wait)) k.is_from ∙ ap (λ t. Some t) k.waits in
    rw k.takes_none (is_at-from _ n at)

-- and what responds by the samples before it responds there
pub responds-new : (r s : Run) (i : ℕ) → GrowsTo r s → Responding r.trace (live_choice r i).resp (length r.trace) i
    → (i < live_count s.trace) × (is_response_clock s (length r.trace) i ≡ true)
unfolding is_response_clock
responds-new r s i grows k =
    let n = length r.trace in
    let agree = agree-grown r s grows in
    let a = responding-answer r.trace (live_choice r i).resp n i k in
    let before = a.before in
    let there = snoop_end_of-stays n r.trace s.trace i a.snoop agree (omega arith) a.is_snoop in
    let c = snoop_end_of-clock s.trace i a.snoop there in
    let now = subst (λ choice. Responding s.trace choice.resp n i) (live-same r s i a.snoop grows a.is_snoop)
    (responding-stays n r.trace s.trace (live_choice r i).resp n i agree (omega arith) k) in
    (live_below_count s.trace i c.clock c.is_clock, responds-by s.trace (live_choice s i).resp n i now)

-- whether live request i is to respond at the next clock
abbrev response_at : Run → ℕ → ℕ → Bool
response_at r i wait =
    is_none (response_clock_of r.trace i)
    && is_response_from (takes r.trace i) (answer_from r.trace i) (ready_clock_of r.trace i) wait (length r.trace)

mapped : (o : Option ℕ) (g : ℕ → ℕ) (t : ℕ) → option_map g o ≡ Some t → (y : ℕ) × (o ≡ Some y) × (g y ≡ t)
mapped None g t e = absurd (let no : ⊥ = cc in no)
mapped (Some y) g t e = (y, refl, cc)

responding_by : (w : Trace) (wait t i : ℕ) (b : Bool) → takes w i ≡ b
    → is_response_from b (answer_from w i) (ready_clock_of w i) wait t ≡ true → Responding w wait t i
unfolding is_response_from
responding_by w wait t i true k e =
    let p = mapped (ready_clock_of w i) (λ y. y + 2 + wait) t (is_at-some _ t e) in
    inl (record { does_take = k; ready = p.0; is_ready = p.1; waits = p.2 })
responding_by w wait t i false k e =
    let p = mapped (answer_from w i) (λ f. f + wait) t (is_at-some _ t e) in
    inr (record { takes_none = k; from = p.0; is_from = p.1; waits = p.2 })

-- an entry that is to respond is that of a request whose response is due
pub entry-responds : (r : Run) (e : Entry) → e.choice ≡ live_choice r (rank_of r.trace e)
    → has_response r.trace e ≡ true
    → Responding r.trace (live_choice r (rank_of r.trace e)).resp (length r.trace) (rank_of r.trace e)
unfolding has_response
entry-responds r e choice t =
    let i = rank_of r.trace e in
    let here : response_at r i (live_choice r i).resp ≡ true = subst (λ c. response_at r i c.resp ≡ true) choice t in
    let a = and_parts _ _ here in
    responding_by r.trace (live_choice r i).resp (length r.trace) i (takes r.trace i) refl a.1

pub responds-entry : (r : Run) (queue : List Entry) (i : ℕ) (k : EntryOf r queue i) → response_clock_of r.trace i ≡ None
    → Responding r.trace (live_choice r i).resp (length r.trace) i → has_response r.trace k.entry ≡ true
unfolding has_response
responds-entry r queue i k none due =
    let wait = (live_choice r i).resp in
    let here : response_at r i wait ≡ true =
    and_from _ _ (ap is_none none) (responds-by r.trace wait (length r.trace) i due) in
    ap (λ c. response_at r (rank_of r.trace k.entry) c.resp) k.choice ∙ ap (λ j. response_at r j wait) k.rank ∙ here

-- no request responds where no entry is to
pub none-responds : (r s : Run) (queue : List Entry) (i : ℕ) → GrowsTo r s → HoldsRequests queue r
    → ((j : ℕ) (y : Entry) → slice_get queue j ≡ Some y → has_response r.trace y ≡ false)
    → is_response_clock s (length r.trace) i ≡ false
none-responds r s queue i grows f g =
    elim (cases_Bool (is_response_clock s (length r.trace) i)) [
      | inr off ↦ off
      | inl t ↦
          let due = responds-old r s i grows t in
          let a = responding-answer r.trace (live_choice r i).resp (length r.trace) i due in
          let c = snoop_end_of-clock r.trace i a.snoop a.is_snoop in
          let none = responds-first r i grows.timely due in
          let k = entry-held r queue i c.clock f c.is_clock none in
          absurd (both_ways _ (g k.place k.entry k.at) (responds-entry r queue i k none due))
    ]

-- the first live request that is to respond is the one that is
pub number-is : (r s : Run) (i : ℕ) → GrowsTo r s → Responding r.trace (live_choice r i).resp (length r.trace) i
    → number_responding s (length r.trace) ≡ Some i
unfolding number_responding
number-is r s i grows due =
    let n = length r.trace in
    let new = responds-new r s i grows due in
    first_where-at (is_response_clock s n) (live_count s.trace) i new.0 new.1 (λ j l. before j l)
  where
    before : (j : ℕ) → j < i → is_response_clock s (length r.trace) j ≡ false
    before j l = elim (cases_Bool (is_response_clock s (length r.trace) j)) [
      | inr off ↦ off
      | inl t ↦ absurd (one-responds r i j grows.timely l due (responds-old r s j grows t))
    ]

-- the outcome of an entry whose snoop end is reached
pub outcome-held : (r s : Run) (queue : List Entry) (k : ℕ) (e : Entry) (t : ℕ) → GrowsTo r s → HoldsRequests queue r
    → slice_get queue k ≡ Some e → snoop_end_of r.trace (rank_of r.trace e) ≡ Some t
    → e.outcome ≡ settled_of s (past_of s) (rank_of r.trace e)
unfolding settled_of
outcome-held r s queue k e t grows f at there =
    f.flight.settled k e at ∙ settled-same r s (rank_of r.trace e) t grows there

pub code-drive : (r s : Run) (queue : List Entry) → GrowsTo r s → HoldsRequests queue r
    → (drive_of r.trace queue).rs ≡ code_due s (past_of s) (length r.trace)
unfolding drive_of code_due settled_code number_responding
code-drive r s queue grows f =
    let n = length r.trace in
    let p = past_of s in
    elim (find-cases (has_response r.trace) queue) [
      | inl k ↦
          let held = number-held r queue k.place k.item f k.at in
          let i = rank_of r.trace k.item in
          let due = entry-responds r k.item held.1 k.passes in
          let a = responding-answer r.trace (live_choice r i).resp n i due in
          let outcome = outcome-held r s queue k.place k.item a.snoop grows f k.at a.is_snoop in
          ap (λ o. option_map_or settled_code o 0)
          (find-place (has_response r.trace) queue k.place k.item k.at k.passes k.before)
          ∙ ap (λ o. option_map_or response_code_of o 0) outcome
          ∙ ap (λ o. option_map_or response_code_of (option_and_then (settled_of s p) o) 0)
          (sym (number-is r s i grows due))
      | inr g ↦
          ap (λ o. option_map_or settled_code o 0) (find-off (has_response r.trace) queue g)
          ∙ ap (λ o. option_map_or response_code_of (option_and_then (settled_of s p) o) 0)
          (sym (first_where-off (is_response_clock s n) (live_count s.trace)
          (λ i l. none-responds r s queue i grows f g)))
    ]
