-- A list that has the deferrals of a run, as a clock finds it and as it leaves it.
use Rattle.fsb_bridge_run.proofs.Words
use Words.{ℕ, ◌+◌, ◌≤◌, ◌≡◌, true, List, length, take, refl, subst, arith, length-take-le, AgreeTo, Trace, is_answered}
use Words.{live_count, AgreeTo-sym, Run, run_to, run_to-agrees, slice_get-take, Reaches, Waiting, StandsFor, waiting_at}
use Words.{waits, AreEntriesOf-IsEntryOf, IsEntryOf, Matched, after_cancellation, after_response, after_snoop_end}
use Words.{FindsDeferrals, ShowsDeferrals, turns_of}
use Rattle.fsb_bridge_run.proofs.Alike.{SameDeferrals, entry-kept, stands-kept, waiting_at-same}
use Rattle.fsb_bridge_run.proofs.ClockEntries.{IsAnsweredTo, answered-entries, cancelled-entries}
use Rattle.fsb_bridge_run.proofs.Listed.{Matched-into, all_where-pass}
use Rattle.fsb_bridge_run.proofs.SnoopEntries.{snoop-entries}
use Rattle.fsb_bridge_run.proofs.UnderWay.{answered-same}
use Rattle.fsb_bridge_run.proofs.Waiting.{waits-parts}

pub take-agrees : (w : Trace) (n : ℕ) → n ≤ length w → AgreeTo n w (take n w)
take-agrees w n l = grind (arith, length-take-le, slice_get-take)

-- with the same turns only the samples count
pub own-turns : (n : ℕ) (w v : Trace) (turns : List ℕ) → AgreeTo n w v → SameDeferrals n w v turns turns
own-turns n w v turns a = record { agree = a; same = λ i t e l. refl }

-- what a clock finds, by the samples up to it and by the whole trace
pub found-whole : (r : Run) (n : ℕ) (list : List Waiting) → Reaches r (n + 1) → FindsDeferrals list r n
    → StandsFor list r.trace (turns_of r) n
found-whole r n list h stands =
    let w = r.trace in
    let v = (run_to r n).trace in
    let long = h.long in
    let back = AgreeTo-sym (n + 1) w v (run_to-agrees r n (omega arith)) in
    stands-kept (n + 1) v w (turns_of r) (turns_of r) n list (own-turns (n + 1) v w (turns_of r) back) (omega arith)
    (λ i waiting.
    let a = waits-parts v (turns_of r) n i waiting in
    let below = a.below in
    answered-same (n + 1) v w n i a.snoop back a.is_snoop (omega arith) (omega arith)) stands

left-entry : (r : Run) (n i : ℕ) (e : Waiting) → Reaches r (n + 1) → waits r.trace (turns_of r) (n + 1) i ≡ true
    → IsAnsweredTo r n e i → IsEntryOf (run_to r n).trace (turns_of r) (n + 1) e i
left-entry r n i e h waiting entry =
    let w = r.trace in
    let v = (run_to r n).trace in
    let long = h.long in
    let whole : IsEntryOf w (turns_of r) (n + 1) (record e { begun = is_answered w (n + 1) i }) i = record {
      deferral = entry.deferral;
      line = entry.line;
      later = entry.later;
      answered = entry.answered_as;
      begun = refl;
    } in
    entry-kept (n + 1) w v (turns_of r) (turns_of r) (n + 1) (record e { begun = is_answered w (n + 1) i }) i e.begun
    (own-turns (n + 1) w v (turns_of r) (run_to-agrees r n (omega arith))) (omega arith) waiting whole entry.begun_as

-- and leaves it by its snoop end, its cancellation and its response
pub clock-leaves : (r : Run) (n : ℕ) (list : List Waiting) → Reaches r (n + 1) → FindsDeferrals list r n
    → ShowsDeferrals (after_response r n (after_cancellation r n (after_snoop_end r n list))) r (n + 1)
unfolding waiting_at run_to
clock-leaves r n list h finds =
    let w = r.trace in
    let v = (run_to r n).trace in
    let turns = turns_of r in
    let long = h.long in
    let left = after_response r n (after_cancellation r n (after_snoop_end r n list)) in
    let whole = found-whole r n list h finds in
    let snooped = snoop-entries r n list h whole in
    let cancelled = cancelled-entries r n (after_snoop_end r n list) h snooped in
    let answered = answered-entries r n (after_cancellation r n (after_snoop_end r n list)) h cancelled in
    let entries = Matched-into (IsAnsweredTo r n) (IsEntryOf v turns (n + 1)) (waits w turns (n + 1)) left
    (waiting_at w turns (n + 1)) (all_where-pass (waits w turns (n + 1)) (live_count w))
    (λ e i waiting entry. left-entry r n i e h waiting entry) answered in
    let same = waiting_at-same (n + 1) w v turns turns (n + 1) (own-turns (n + 1) w v turns
    (run_to-agrees r n (omega arith))) (omega arith) in
    AreEntriesOf-IsEntryOf (waiting_at v turns (n + 1)) left v turns (n + 1)
    (subst (Matched (IsEntryOf v turns (n + 1)) left) same entries)
