-- The snoop end of a clock, as the bench decides it and as the moment of the run has it.
use Rattle.fsb_bench_run.proofs.Words
use Words.{◌≡◌, ◌&&◌, ◌||◌, Bool, true, false, not, None, List, is_none, ap, ◌∙◌, ◌⊎◌, inl, inr, arith, and_left}
use Words.{and_right, cases_Bool, Done, Choice, has_snoop, ends_snoop_at, find-cases, snooped_at, GrowsTo, past_of}
use Words.{HoldsRequests, step_decided, step_drive, step_performed, step_sample, first_open, snooped_entry, BenchView}
use Words.{next_clock_of}
use Rattle.fsb_bench_run.proofs.RunWith.{run_with}
use Rattle.fsb_bench_run.proofs.SameBus.{same-performed}
use Rattle.fsb_bench_run.proofs.SnoopDriven.{no-snoop, snooped-open, snooped-shut, some-snoop, stalls-driven}
use Rattle.fsb_bench_run.proofs.SnoopEntry.{IsSnoopedNow, SnoopsNow, ends-here, ends-told, no-end-told, snoops-now}

-- the clock is the snoop end of the oldest entry without one
pub record SnoopsHere (v : BenchView) (hold : Bool) (choice : Choice) (entries : List Done) : Type 0 where
  pub now : SnoopsNow v.run v.bus.queue
  pub calm : (step_drive v).stall ≡ false
  pub ends : ends_snoop_at (run_with v hold choice entries).trace (next_clock_of v) now.entry ≡ true
  pub told : IsSnoopedNow (run_with v hold choice entries) (next_clock_of v) now.entry
  pub decided : (step_decided v hold).snooped ≡ snooped_entry (step_performed v) now.entry now.entry.who

-- the clock is no snoop end
pub record SnoopsNone (v : BenchView) (hold : Bool) (choice : Choice) (entries : List Done) : Type 0 where
  pub none : (step_decided v hold).snooped ≡ None
  pub quiet : snooped_at (past_of (run_with v hold choice entries)) (next_clock_of v) ≡ None

pub snoop-cases : (v : BenchView) (hold : Bool) (choice : Choice) (entries : List Done)
    (grows : GrowsTo v.run (run_with v hold choice entries)) → HoldsRequests v.bus.queue v.run
    → SnoopsHere v hold choice entries ⊎ SnoopsNone v hold choice entries
snoop-cases v hold choice entries grows f =
    let r = v.run in
    let s = run_with v hold choice entries in
    let n = next_clock_of v in
    let queue = v.bus.queue in
    let x = step_sample v hold in
    let bus = step_performed v in
    let drive = step_drive v in
    let stall = stalls-driven v hold in
    elim (find-cases (has_snoop r.trace) queue) [
      | inr g ↦ inr (record {
        none = snooped-shut bus drive (ap (λ b. drive.stall || b) (no-snoop r.trace queue g) ∙ or-true drive.stall);
        quiet = no-end-told r s queue grows f
            (λ j y at. ends-here r queue x j y grows.timely f at ∙ and_left _ _ (g j y at));
      })
      | inl k ↦
          let now = snoops-now r queue f k in
          elim (cases_Bool drive.stall) [
            | inl t ↦ inr (record {
              none = snooped-shut bus drive (ap (λ b. b || is_none drive.snoop) t);
              quiet = no-end-told r s queue grows f
                  (λ j y at. ends-here r queue x j y grows.timely f at ∙ and_right _ _ (ap not (stall ∙ t)));
            })
            | inr calm ↦
                let ends = ends-here r queue x now.place now.entry grows.timely f now.at
                ∙ (λ i. now.snoops i && not ((stall ∙ calm) i)) in
                let same = same-performed v in
                inl (record {
                  now = now;
                  calm = calm;
                  ends = ends;
                  told = ends-told r s queue now.place now.entry grows f now.at ends;
                  decided = snooped-open bus drive now.entry calm (some-snoop r.trace queue now.entry now.search)
                      (ap first_open same.queue ∙ now.first);
                })
          ]
    ]
  where
    or-true : (b : Bool) → (b || true) ≡ true
    or-true b = grind arith
