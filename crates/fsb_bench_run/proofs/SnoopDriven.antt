-- What a bench decides of the snoop end of a clock.
use Rattle.fsb_bench_run.proofs.Words
use Words.{ℕ, ◌≡◌, ◌||◌, Bool, true, false, Some, None, List, is_some, is_none, refl, ap, arith, option_map, find}
use Words.{slice_get, and_left, stalls, has_snoop, is_stalled, drive_of, Drive, find-off, Entry, Trace, step_decided}
use Words.{step_drive, step_performed, step_sample, first_open, snooping_by, snooped_entry, BenchView, BusView}
use Words.{next_clock_of}
use Rattle.fsb_bench_run.proofs.DrivenLines.{hit-driven, hitm-driven}

pub stalls-driven : (v : BenchView) (hold : Bool) → stalls (step_sample v hold) ≡ (step_drive v).stall
unfolding stalls
stalls-driven v hold =
    let bus = step_performed v in
    let d = step_decided v hold in
    let profile = v.run.plan.profile in
    let hit = hit-driven bus (next_clock_of v) profile d in
    let hitm = hitm-driven bus (next_clock_of v) profile d in
    grind arith

-- where no entry has a snoop clock no stall is driven
pub no-stall : (h : Trace) (queue : List Entry)
    → ((j : ℕ) (y : Entry) → slice_get queue j ≡ Some y → has_snoop h y ≡ false) → (drive_of h queue).stall ≡ false
unfolding drive_of is_stalled
no-stall h queue g = ap is_some (find-off (is_stalled h) queue (λ j y at. and_left _ _ (g j y at)))

pub no-snoop : (h : Trace) (queue : List Entry)
    → ((j : ℕ) (y : Entry) → slice_get queue j ≡ Some y → has_snoop h y ≡ false)
    → is_none (drive_of h queue).snoop ≡ true
unfolding drive_of
no-snoop h queue g = ap (λ o. is_none (option_map (λ (e : Entry). e.number) o)) (find-off (has_snoop h) queue g)

pub some-snoop : (h : Trace) (queue : List Entry) (e : Entry) → find (has_snoop h) queue ≡ Some e
    → is_none (drive_of h queue).snoop ≡ false
unfolding drive_of
some-snoop h queue e found = ap (λ o. is_none (option_map (λ (e : Entry). e.number) o)) found

-- what is decided where a snoop ends, and where none does
pub snooped-open : (bus : BusView) (drive : Drive) (e : Entry) → drive.stall ≡ false → is_none drive.snoop ≡ false
    → first_open bus.queue ≡ Some e → snooping_by bus drive ≡ snooped_entry bus e e.who
snooped-open bus drive e calm some first = rw (calm, some, first) refl

pub snooped-shut : (bus : BusView) (drive : Drive) → (drive.stall || is_none drive.snoop) ≡ true
    → snooping_by bus drive ≡ None
snooped-shut bus drive shut = rw shut refl
