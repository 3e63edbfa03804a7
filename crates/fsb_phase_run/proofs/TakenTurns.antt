-- The turns of a run that grows are taken as the queue's step asks for it.
use Rattle.fsb_phase_run.proofs.Words
use Words.{ℕ, ◌<◌, ◌≡◌, Some, length, slice_index, sym, ap, ◌∙◌, option_map, settled_by, settled_outcome_of}
use Words.{snoop_end_of, snoop_end_of-stays, snooped_at, GrowsTo, number_of_turn, turns_in, SnoopEnd, Run, past_of}
use Words.{snoop-tied}
use Rattle.fsb_heads.specs.Heads.{snooped_count}
use Rattle.fsb_heads.proofs.Interface.{snoops_to}
use Rattle.fsb_phase_run.proofs.Grown.{agree-grown, snooped-same}

pub turn-same : (r s : Run) (i : ℕ) → GrowsTo r s → i < snooped_count r.trace
    → slice_index (turns_in (past_of s).moments) i ≡ slice_index (turns_in (past_of r).moments) i
turn-same r s i grows l =
    let e = (snoops_to r.trace).reached i l in
    let there = snoop_end_of-stays (length r.trace) r.trace s.trace i e.0 (agree-grown r s grows) e.2 e.1 in
    let old = snoop-tied r i e.0 e.1 in
    let new = snoop-tied s i e.0 there in
    let one : Some new.0 ≡ Some old.0 = sym new.1.there ∙ sym (snooped-same r s e.0 grows e.2) ∙ old.1.there in
    let same : new.0 ≡ old.0 = cc in
    new.1.turn ∙ ap (λ end. number_of_turn end.turn) same ∙ sym old.1.turn

pub outcome-settled : (r s : Run) (i : ℕ) (end : SnoopEnd) → snooped_at (past_of s) (length r.trace) ≡ Some end
    → snoop_end_of s.trace i ≡ Some (length r.trace)
    → end.outcome ≡ settled_by s.trace (slice_index (turns_in (past_of s).moments) i) i (length r.trace)
unfolding settled_outcome_of
outcome-settled r s i end e f =
    let tied = snoop-tied s i (length r.trace) f in
    let one : Some end ≡ Some tied.0 = sym e ∙ tied.1.there in
    let same : end ≡ tied.0 = cc in
    let turn = slice_index (turns_in (past_of s).moments) i in
    let settled : Some (settled_by s.trace turn i (length r.trace)) ≡ Some tied.0.outcome =
    sym (ap (option_map (settled_by s.trace turn i)) f) ∙ tied.1.outcome in
    let outcome : settled_by s.trace turn i (length r.trace) ≡ tied.0.outcome = cc in
    ap (λ x. x.outcome) same ∙ sym outcome
