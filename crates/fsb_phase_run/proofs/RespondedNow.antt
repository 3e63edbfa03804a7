-- The response and the Retry that the moment of the new clock has are those of the entry that responds.
use Rattle.fsb_phase_run.proofs.Words
use Words.{ℕ, ◌≡◌, true, false, not, nat_eq, Some, None, List, length, sym, ap, ◌∙◌, arith, inl, inr, refl, slice_get}
use Words.{option_and_then, option_map, option_map_or, Retried, responds_at, response_code_at, response_code_of}
use Words.{live_clock_of-stays, snoop_end_of-clock, Entry, has_response, rank_of, drive_of, settled_code, find-cases}
use Words.{find-off, find-place, GrowsTo, moment_at, responded_at, retried_at, Run, past_of, moment-at, run-ends}
use Words.{responded-from, HoldsRequests}
use Rattle.fsb_coherent.specs.Awaits.{responded_in}
use Rattle.fsb_phase_run.specs.Responding.{responding_of, retried_of}
use Rattle.fsb_phase_run.proofs.CodeDrive.{code-drive, entry-responds}
use Rattle.fsb_phase_run.proofs.Grown.{agree-grown, longer}
use Rattle.fsb_phase_run.proofs.HeldEntries.{number-held}
use Rattle.fsb_phase_run.proofs.RespondsNow.{CodeShown, responds-shown, shown}

responded-shown : (r s : Run) → GrowsTo r s
    → responded_in (past_of s) (length r.trace) ≡ responded_at s.trace (length r.trace)
unfolding responded_in past_of moment_at
responded-shown r s grows =
    let n = length r.trace in
    let size = longer r s grows in
    ap (option_and_then (λ moment. moment.responded)) (moment-at s (length s.trace) n (omega arith))
    ∙ ap (λ v. responded_at v.trace n) (run-ends r s grows)

retried-shown : (r s : Run) → GrowsTo r s
    → option_and_then (λ moment. moment.retried) (slice_get (past_of s).moments (length r.trace))
    ≡ retried_at s.trace (length r.trace)
unfolding past_of moment_at
retried-shown r s grows =
    let n = length r.trace in
    let size = longer r s grows in
    ap (option_and_then (λ moment. moment.retried)) (moment-at s (length s.trace) n (omega arith))
    ∙ ap (λ v. retried_at v.trace n) (run-ends r s grows)

-- the entry that responds is the live request whose response is at the new clock
found-responds : (r s : Run) (queue : List Entry) (k : ℕ) (e : Entry) → GrowsTo r s → HoldsRequests queue r
    → CodeShown r s → slice_get queue k ≡ Some e → has_response r.trace e ≡ true
    → responded_at s.trace (length r.trace) ≡ Some e.clock
found-responds r s queue k e grows f code at t =
    let n = length r.trace in
    let held = number-held r queue k e f at in
    let i = rank_of r.trace e in
    let now = responds-shown r s i grows code (entry-responds r e held.1 t) in
    let a = shown r s i n grows code now in
    let c = snoop_end_of-clock r.trace i a.snoop a.is_snoop in
    let above = c.above in
    let within = c.within in
    let first = c.is_clock in
    let here = held.0 in
    let same : c.clock ≡ e.clock = cc in
    let there = live_clock_of-stays n r.trace s.trace i e.clock (agree-grown r s grows) (omega arith) here in
    responded-from s.trace i n e.clock now there

-- where none responds there is no response
silent : (r s : Run) → response_code_at s.trace (length r.trace) ≡ 0 → responded_at s.trace (length r.trace) ≡ None
unfolding responds_at responded_at
silent r s e =
    let off : responds_at s.trace (length r.trace) ≡ false = ap (λ k. not (nat_eq k 0)) e in rw (off, responded_at) refl

responded-is : (r s : Run) (queue : List Entry) → GrowsTo r s → HoldsRequests queue r → CodeShown r s
    → responded_at s.trace (length r.trace) ≡ responding_of r.trace queue
unfolding drive_of
responded-is r s queue grows f code =
    elim (find-cases (has_response r.trace) queue) [
      | inl k ↦
          found-responds r s queue k.place k.item grows f code k.at k.passes
          ∙ sym (ap (option_map (λ e. e.clock))
          (find-place (has_response r.trace) queue k.place k.item k.at k.passes k.before))
      | inr g ↦
          let none = find-off (has_response r.trace) queue g in
          silent r s (code ∙ sym (code-drive r s queue grows f) ∙ ap (λ o. option_map_or settled_code o 0) none)
          ∙ sym (ap (option_map (λ e. e.clock)) none)
    ]

pub responded-now : (r s : Run) (queue : List Entry) → GrowsTo r s → HoldsRequests queue r → CodeShown r s
    → responded_in (past_of s) (length r.trace) ≡ responding_of r.trace queue
responded-now r s queue grows f code = responded-shown r s grows ∙ responded-is r s queue grows f code

pub retried-now : (r s : Run) (queue : List Entry) → GrowsTo r s → HoldsRequests queue r → CodeShown r s
    → option_and_then (λ moment. moment.retried) (slice_get (past_of s).moments (length r.trace))
    ≡ retried_of r.trace queue
unfolding retried_at retried_of
retried-now r s queue grows f code =
    let rs = code ∙ sym (code-drive r s queue grows f) in
    let same = responded-is r s queue grows f code in
    let codes = ap (λ k. nat_eq k (response_code_of Retried)) rs in
    retried-shown r s grows ∙ (λ j. elim (codes j) [ true ↦ same j | false ↦ None ])
