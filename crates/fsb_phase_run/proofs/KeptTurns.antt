-- The turn of a write-back, and of a request without its snoop end: it is kept.
use Rattle.fsb_phase_run.proofs.Words
use Words.{ℕ, zero, suc, ◌+◌, ◌<◌, ◌≤◌, ◌≡◌, true, List, [], ◌∷◌, ◌++◌, Option, Some, None, length, slice_index, refl}
use Words.{sym, ap, subst, ◌∙◌, arith, inl, inr, cases_lt, get_or_past, length-append, is_never_held_up, Trace}
use Words.{request_at, is_write_back, is_write_back_kind, live_request_of, snoop_end_of, request_at-agree}
use Words.{snoop_end_of-clock, snoop_end_of-rises, effective_choice, number_of_turn, snoop_end_with, turns_in, SnoopEnd}
use Words.{Run, moments_below, past_of, run_to, moment-snooped, moment_of, snoop-tied, snoop_of, snooped-there}
use Words.{tied-snoop, turns-quiet, turns-snooped, run_to-agrees, some-and, live-request}
use Rattle.fsb_encode.specs.declared.request.Kind.{Kind}
use Rattle.fsb_encode.specs.declared.request.Kind.TheVariants.{Reply, Invalidate, Read, WriteBack, Upgrade}
use Rattle.fsb_encode.specs.declared.request.Request.{Request}
use Rattle.fsb_hazard.specs.declared.choice.Choice.{Choice}
use Rattle.fsb_hazard.specs.declared.choice.Turn.TheVariants.{Keep}
use Rattle.fsb_script.specs.declared.plan.Window.{Window}

-- the turns of the moments below n are fewer than the number of a live request that has no snoop end there
turns-short : (r : Run) (n i : ℕ) → n ≤ length r.trace → ((t : ℕ) → snoop_end_of r.trace i ≡ Some t → n ≤ t)
    → length (turns_in (moments_below r n)) ≤ i
unfolding moments_below turns_in
turns-short r zero i l late = omega arith
turns-short r (suc n) i l late = by (moment_of r n).snooped refl (λ j h. turns-short r n j (omega arith) h)
  where
    by : (o : Option SnoopEnd) → (moment_of r n).snooped ≡ o
        → ((j : ℕ) → ((t : ℕ) → snoop_end_of r.trace j ≡ Some t → n ≤ t) → length (turns_in (moments_below r n)) ≤ j)
        → length (turns_in (moments_below r n ++ moment_of r n ∷ [])) ≤ i
    by None e before =
        let short = before i (λ t snoop. let k = late t snoop in omega arith) in
        let same = ap length (turns-quiet (moments_below r n) (moment_of r n) e) in
        omega arith
    by (Some s) e before =
        let tied = tied-snoop r n s (snooped-there r n (omega arith) ∙ e) in
        let j : ℕ = tied.0 in
        let reached = tied.1.reached in
        let short = before j (λ t snoop. let same : t ≡ n = cc in omega arith) in
        let above : j < i = elim (cases_lt j i) [
          | inl less ↦ less
          | inr more ↦ elim (cases_lt i j) [
            | inl less ↦
                let rise = snoop_end_of-rises r.trace i j n less reached in
                let k = late rise.0 rise.1 in
                let gap = rise.2 in
                absurd (omega arith)
            | inr none ↦
                let one : j ≡ i = omega arith in
                let k = late n (subst (λ x. snoop_end_of r.trace x ≡ Some n) one reached) in
                absurd (omega arith)
          ]
        ] in
        let same = ap length (turns-snooped (moments_below r n) (moment_of r n) s e)
        ∙ length-append (turns_in (moments_below r n)) (number_of_turn s.turn ∷ []) in
        omega arith

held-kind : (kind : Kind) → is_write_back_kind kind ≡ true → is_never_held_up kind ≡ true
unfolding is_write_back_kind
held-kind Reply e = absurd (let no : ⊥ = cc in no)
held-kind Invalidate e = absurd (let no : ⊥ = cc in no)
held-kind Read e = absurd (let no : ⊥ = cc in no)
held-kind WriteBack e = refl
held-kind Upgrade e = absurd (let no : ⊥ = cc in no)

keep-form : (bridge : Option Window) (choices : List Choice) (w : Trace) (turns : List ℕ) (q t : ℕ) (request : Request)
    → request_at w q ≡ Some request → is_never_held_up request.kind ≡ true
    → (effective_choice bridge choices w turns q t).turn ≡ Keep
unfolding effective_choice
keep-form bridge choices w turns q t request e never = rw (e, effective_choice, never) refl

-- a write-back with its snoop end is kept
snooped-kept : (r : Run) (i t : ℕ) (request : Request) → snoop_end_of r.trace i ≡ Some t
    → live_request_of r.trace i ≡ Some request → is_never_held_up request.kind ≡ true
    → slice_index (turns_in (past_of r).moments) i ≡ 0
unfolding snoop_end_with number_of_turn
snooped-kept r i t request e asked never =
    let tied = snoop-tied r i t e in
    let s = tied.0 in
    let c = snoop_end_of-clock r.trace i t e in
    let above = c.above in
    let within = c.within in
    let first = tied.1.first in
    let clock = c.is_clock in
    let at : c.clock ≡ s.first = cc in
    let there : Some s ≡ Some (snoop_of r t i s.first) = sym tied.1.there ∙ snooped-there r t within
    ∙ moment-snooped r i t s.first e first in
    let same : s ≡ snoop_of r t i s.first = cc in
    let decoded =
    sym (request_at-agree (t + 1) r.trace (run_to r t).trace s.first (run_to-agrees r t within) (omega arith))
    ∙ sym (live-request r.trace i s.first first) ∙ asked in
    let kept = keep-form r.plan.bridge (run_to r t).choices (run_to r t).trace (turns_in (moments_below r t)) s.first t
    request decoded never in
    tied.1.turn ∙ ap (λ x. number_of_turn x.turn) same ∙ ap number_of_turn kept

-- so is one without
pub write-back-kept : (r : Run) (i : ℕ) → is_write_back (live_request_of r.trace i) ≡ true
    → slice_index (turns_in (past_of r).moments) i ≡ 0
unfolding is_write_back past_of
write-back-kept r i e = by (snoop_end_of r.trace i) refl
  where
    asked : (x : Request) × (live_request_of r.trace i ≡ Some x) × (is_write_back_kind x.kind ≡ true)
    asked = some-and (live_request_of r.trace i) (λ (x : Request). is_write_back_kind x.kind) e

    by : (o : Option ℕ) → snoop_end_of r.trace i ≡ o → slice_index (turns_in (past_of r).moments) i ≡ 0
    by None f =
        get_or_past (turns_in (moments_below r (length r.trace))) i 0
        (turns-short r (length r.trace) i (omega arith) (λ t g.
        let no : None ≡ Some t = sym f ∙ g in absurd (let wrong : ⊥ = cc in wrong)))
    by (Some t) f = snooped-kept r i t asked.0 f asked.1 (held-kind asked.0.kind asked.2)
