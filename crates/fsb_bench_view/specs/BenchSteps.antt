-- A clock of a bench, step by step.
use Rattle.std.specs.Prelude.{ℕ, ◌-◌, ◌&&◌, Bool, false, nat_le, List, [], ◌∷◌, ◌++◌, Option, slice_get}
use Rattle.std.specs.Option.{option_map, option_map_or}
use Rattle.fsb_access.specs.declared.log.Done.{Done}
use Rattle.fsb_flight.specs.GoesOn.{goes_on}
use Rattle.fsb_flight.specs.Steps.{begun_list}
use Rattle.fsb_hazard.specs.declared.choice.Choice.{Choice}
use Rattle.fsb_phase.specs.Drive.{drive_of, phased_at}
use Rattle.fsb_phase.specs.declared.drive.Drive.{Drive}
use Rattle.fsb_phase.specs.declared.drive.Phased.{Phased}
use Rattle.fsb_queue.specs.declared.entry.Entry.{Entry}
use Rattle.fsb_signal.specs.declared.sample.Sample.{Sample}
use Rattle.fsb_timely.specs.Runs.{Run}
use Rattle.fsb_trace.specs.Winner.{winner_at}
use Rattle.fsb_trace.specs.declared.outcome.Outcome.{Outcome}
use Rattle.fsb_trace.specs.declared.outcome.Outcome.TheVariants.{Failed}
use Rattle.fsb_bench_view.specs.declared.decided.Decided.{Decided}
use Rattle.fsb_bench_view.specs.declared.decided.Ending.{Ending}
use Rattle.fsb_bench_view.specs.BusViews.{BenchView, BusView, next_clock_of}
use Rattle.fsb_bench_view.specs.BytesFetched.{bus_fetched, bytes_source}
use Rattle.fsb_bench_view.specs.BusDecisions.{bus_decided}
use Rattle.fsb_bench_view.specs.BusEvents.{bus_heard, bus_performed, entry_started, heard_answer, heard_cancel, heard_ending, heard_entries, heard_snoop, heard_start}
use Rattle.fsb_bench_view.specs.BusLocking.{MayRelease, bus_locked, retried_by}
use Rattle.fsb_bench_view.specs.BusSample.{sample_by}
use Rattle.fsb_bench_view.specs.ToldAgents.{hit_entries}

-- what the phases drive at the clock
abbrev pub step_drive : BenchView → Drive
step_drive v = drive_of v.run.trace v.bus.queue

-- the bus with the bytes that move
abbrev pub step_fetched : BenchView → BusView
step_fetched v = bus_fetched v.bus (bytes_source v.bus (step_drive v))

-- the bus after the hits
abbrev pub step_performed : BenchView → BusView
step_performed v = bus_performed (step_fetched v) (next_clock_of v)

-- BNR# was asked for two clocks before
abbrev pub was_held_at : List Bool → ℕ → Bool
was_held_at holds clock = nat_le 2 clock && option_map_or (λ hold. hold) (slice_get holds (clock - 2)) false

-- what is decided, where BNR# is asked for or not
abbrev pub step_decided : BenchView → Bool → Decided
step_decided v hold =
    bus_decided (step_performed v) (winner_at v.run.trace (next_clock_of v)) (next_clock_of v) (step_drive v) hold
    (was_held_at v.run.holds (next_clock_of v))

-- the sample
abbrev pub step_sample : BenchView → Bool → Sample
step_sample v hold = sample_by (step_performed v) (next_clock_of v) v.run.plan.profile (step_decided v hold)

-- what the phases tell of the clock
abbrev pub step_phased : BenchView → Bool → Phased
step_phased v hold = phased_at (v.run.trace ++ step_sample v hold ∷ []) (next_clock_of v) v.bus.queue

-- the bus after what begins, if something does
abbrev pub step_started : BenchView → Bool → BusView
step_started v hold = heard_start (step_performed v) (next_clock_of v) (step_decided v hold)

-- the bus after what is cancelled, if something is
abbrev pub step_cancelled : BenchView → Bool → BusView
step_cancelled v hold = heard_cancel (step_performed v) (next_clock_of v) (step_decided v hold)

-- the bus after the snoop end, if there is one
abbrev pub step_snooped : BenchView → Bool → BusView
step_snooped v hold = heard_snoop (step_performed v) (next_clock_of v) (step_decided v hold)

-- the bus after the response Deferred, if there is one
abbrev pub step_answered : BenchView → Bool → BusView
step_answered v hold = heard_answer (step_performed v) (next_clock_of v) (step_decided v hold)

-- the end of a request, if there is one
abbrev pub step_ending : BenchView → Bool → Option Ending
step_ending v hold = heard_ending (step_performed v) (next_clock_of v) (step_decided v hold) (step_phased v hold)

-- the bus after it
abbrev pub step_ended : BenchView → Bool → BusView
step_ended v hold = bus_heard (step_performed v) (next_clock_of v) (step_decided v hold) (step_phased v hold)

-- the entries of the clock: those of the hits, and those of what the end completes
abbrev pub step_entries : BenchView → Bool → List Done
step_entries v hold =
    hit_entries (next_clock_of v) (step_fetched v).agents
    ++ heard_entries (step_performed v) (next_clock_of v) (step_decided v hold) (step_phased v hold)

-- what may be a release
abbrev pub step_releases : BenchView → Bool → MayRelease
step_releases v hold = record {
  entries = step_entries v hold;
  retried = retried_by v.bus (step_drive v);
  cancelled = (step_decided v hold).cancelled;
}

-- the bus after the lock has taken the clock
abbrev pub step_locked : BenchView → Bool → BusView
step_locked v hold =
    bus_locked v.run.plan.scripts (step_ended v hold) (step_decided v hold).starting (step_releases v hold)

-- the settled outcome of the request whose snoop ends, if one does
abbrev pub outcome_snooped : Decided → Outcome
outcome_snooped decided = option_map_or (λ snooped. snooped.outcome) decided.snooped Failed

-- the entry of the request that begins, if one does, for which this was chosen
abbrev pub step_begun : BenchView → Bool → Choice → Option Entry
step_begun v hold choice =
    option_map (λ starting. entry_started (step_performed v) (next_clock_of v) starting choice) (step_decided v hold).starting

-- the requests in flight after the clock
abbrev pub step_queue : BenchView → Bool → Choice → List Entry
step_queue v hold choice =
    goes_on v.run.trace (step_sample v hold) (outcome_snooped (step_decided v hold)) v.bus.queue
    ++ begun_list (step_begun v hold choice)

-- the run with one more clock: a choice is added where a request begins
abbrev pub step_run : BenchView → Bool → Choice → Run
step_run v hold choice = record {
  plan = v.run.plan;
  choices = v.run.choices ++ option_map_or (λ starting. choice ∷ []) (step_decided v hold).starting [];
  holds = v.run.holds ++ hold ∷ [];
  trace = v.run.trace ++ step_sample v hold ∷ [];
  log = v.run.log ++ step_entries v hold;
}

-- the bench after a clock, where BNR# is asked for or not, and this is chosen for the request that begins, if one does
abbrev pub bench_stepped : BenchView → Bool → Choice → BenchView
bench_stepped v hold choice = record {
  bus = record (step_locked v hold) { queue = step_queue v hold choice };
  run = step_run v hold choice;
}
