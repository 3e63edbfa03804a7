-- The snoop end that a bench decides is the one that the moment of the clock has.
use Rattle.fsb_bench_run.proofs.Words
use Words.{◌≡◌, Bool, true, false, Option, Some, List, is_some, refl, ap, ◌∙◌, subst, arith, slice_get, option_and_then}
use Words.{option_map, Done, Bridged, deferral_of_id, IsThatOf, Deferral, outcome-made, Request, Choice, Turn, Keep}
use Words.{HITM, line_at, request_at, outcome_by_kind, is_reply_kind, Replied, Who, Symmetric, Priority, GrowsTo}
use Words.{choice_at, is_in_window, turns_in, past_of, number_served_at, is_pending, SnoopSettled, step_decided}
use Words.{step_performed, answer_besides, is_modified_answer, snoop_outcome, snooped_entry, snooped_for, snooping_of}
use Words.{snooped_reply, BenchView, next_clock_of, IsBegunAt, IsBenchOf}
use Rattle.fsb_coherent.specs.Settled.{outcome_by_turn, outcome_under}
use Rattle.fsb_encode.specs.declared.request.Kind.{Kind}
use Rattle.fsb_bench_run.proofs.DeferralsTold.{DeferralsTold}
use Rattle.fsb_bench_run.proofs.DrivenLines.{hitm_driven}
use Rattle.fsb_bench_run.proofs.HazardsDriven.{decoded-now, turn-now}
use Rattle.fsb_bench_run.proofs.RunWith.{run_with}
use Rattle.fsb_bench_run.proofs.SameBus.{same-performed}
use Rattle.fsb_bench_run.proofs.SnoopCases.{SnoopsHere}
use Rattle.fsb_bench_run.proofs.SnoopResult.{begun-reply-kind, deferral-started, hitm-now}
use Rattle.fsb_bench_run.proofs.TurnCounted.{begun-reply, end-turn, kept-turn}

-- what the bench decides of the snoop end: the entry, its turn and its outcome
pub record IsSnoopTold (v : BenchView) (hold : Bool) (choice : Choice) (entries : List Done)
    (k : SnoopsHere v hold choice entries) : Type 0 where
  pub snooped : SnoopSettled
  pub decided : (step_decided v hold).snooped ≡ Some snooped
  pub entry : snooped.entry ≡ k.now.entry
  pub turn : k.told.end.turn ≡ snooped.turn
  pub outcome : k.told.end.outcome ≡ snooped.outcome

settled-under : (handed : Bool) (turn : Turn) (request : Request)
    → outcome_under handed turn (Some request) ≡ snoop_outcome handed turn request
unfolding outcome_under outcome_by_turn
settled-under handed turn request = grind arith

reply-settled : (kind : Kind) (request : Request) → request.kind ≡ kind → is_reply_kind kind ≡ true
    → outcome_under false Keep (Some request) ≡ Replied
unfolding outcome_under outcome_by_turn outcome_by_kind is_reply_kind
reply-settled kind request h1 h2 = grind arith

-- the outcome of the snoop end
outcome-told : (v : BenchView) (hold : Bool) (choice : Choice) (entries : List Done) → IsBenchOf v
    → (grows : GrowsTo v.run (run_with v hold choice entries)) → (k : SnoopsHere v hold choice entries)
    → k.told.end.outcome
    ≡ outcome_under (line_at HITM (run_with v hold choice entries).trace (next_clock_of v)) k.told.end.turn
    (Some k.now.entry.request)
outcome-told v hold choice entries b grows k =
    let s = run_with v hold choice entries in
    let n = next_clock_of v in
    outcome-made s n k.told.end k.told.is_end.there
    ∙ ap (λ q. outcome_under (line_at HITM s.trace n) k.told.end.turn (request_at s.trace q)) k.told.first
    ∙ ap (outcome_under (line_at HITM s.trace n) k.told.end.turn) (decoded-now v hold choice entries b grows k)

some-there : {X : Type 0} (o : Option X) → is_some o ≡ true → (x : X) × (o ≡ Some x)
some-there o h1 = grind arith

snoop-by : (v : BenchView) (hold : Bool) (choice : Choice) (entries : List Done) → IsBenchOf v
    → DeferralsTold v (run_with v hold choice entries)
    → (grows : GrowsTo v.run (run_with v hold choice entries)) → (k : SnoopsHere v hold choice entries) (who : Who)
    → k.now.entry.who ≡ who → IsSnoopTold v hold choice entries k
snoop-by v hold choice entries b told grows k (Symmetric agent) e =
    let s = run_with v hold choice entries in
    let bus = step_performed v in
    let y = k.now.entry in
    let turn = turn-now v hold choice entries b told grows k in
    let handed = hitm-now v hold choice entries k (Symmetric agent) e in
    let answer = is_modified_answer (answer_besides agent y.request.line 0 bus.agents) in
    record {
      snooped = snooping_of bus agent y;
      decided = k.decided ∙ ap (snooped_entry bus y) e;
      entry = refl;
      turn = turn;
      outcome = outcome-told v hold choice entries b grows k
          ∙ (λ i. outcome_under (handed i) (turn i) (Some y.request))
          ∙ settled-under answer (snooping_of bus agent y).turn y.request;
    }
snoop-by v hold choice entries b told grows k Priority e =
    let r = v.run in
    let s = run_with v hold choice entries in
    let p = past_of s in
    let n = next_clock_of v in
    let bus = step_performed v in
    let y = k.now.entry in
    let did = y.request.did in
    let same = same-performed v in
    let begun = subst (λ w. IsBegunAt r y.clock w y.request) e (b.entries.begun k.now.place y k.now.at) in
    let kind = begun-reply-kind r y.clock y.request begun in
    let decoded = ap (request_at s.trace) k.told.first ∙ decoded-now v hold choice entries b grows k in
    let there = k.told.is_end.there in
    let some = some-there (deferral_of_id did v.bus.bridge.waiting)
    (told.taken k.told.end y.request there decoded kind) in
    let d : Deferral = some.0 in
    let that = told.deferral k.told.end y.request there decoded kind in
    let one = subst (λ o. IsThatOf s.trace o (number_served_at s p n)) some.1 that in
    let at = deferral-started v hold choice entries b grows k d one.0 one.1 one.2 in
    let list = ap (λ (x : Bridged). deferral_of_id did x.waiting) same.bridge ∙ some.1 in
    let started = ap (λ xs. slice_get xs d.number) same.started ∙ at.1 in
    let turn = end-turn r s y grows k.told (decoded-now v hold choice entries b grows k)
    ∙ kept-turn (choice_at s.choices s.trace y.clock).turn y.request (is_in_window s.plan.bridge y.request.line)
    (is_pending s.trace (turns_in (past_of r).moments) y.request.line n) (begun-reply r y.clock y.request begun) in
    let handed = hitm-now v hold choice entries k Priority e
    ∙ (λ i. hitm_driven (option_and_then (snooped_for bus y) (list i)) false)
    ∙ (λ i. hitm_driven (option_map (snooped_reply y d) (started i)) false) in
    record {
      snooped = snooped_reply y d at.0;
      decided = k.decided ∙ ap (snooped_entry bus y) e ∙ ap (option_and_then (snooped_for bus y)) list
          ∙ ap (option_map (snooped_reply y d)) started;
      entry = refl;
      turn = turn;
      outcome = outcome-told v hold choice entries b grows k
          ∙ (λ i. outcome_under (handed i) (turn i) (Some y.request))
          ∙ reply-settled y.request.kind y.request refl kind;
    }

pub snoop-told : (v : BenchView) (hold : Bool) (choice : Choice) (entries : List Done) → IsBenchOf v
    → DeferralsTold v (run_with v hold choice entries)
    → (grows : GrowsTo v.run (run_with v hold choice entries)) → (k : SnoopsHere v hold choice entries)
    → IsSnoopTold v hold choice entries k
snoop-told v hold choice entries b told grows k = grind (arith, snoop-by)
