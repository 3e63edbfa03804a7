-- The bench after a clock, put together.
use Rattle.std.proofs.Common.{◌≡◌, ◌≤◌, ℕ, Bool, List, [], ◌∷◌, ◌++◌, length, Option, Some, None, arith, refl, ap, ◌∙◌}
use Rattle.std.proofs.Common.{append_assoc}
use Rattle.std.specs.Option.{option_map, option_map_or}
use Rattle.fsb_access.specs.declared.item.Item.{Item}
use Rattle.fsb_access.specs.declared.log.Done.{Done}
use Rattle.fsb_flight.specs.GoesOn.{goes_on}
use Rattle.fsb_flight.specs.Steps.{begun_list}
use Rattle.fsb_hazard.specs.declared.choice.Choice.{Choice}
use Rattle.fsb_phase.specs.declared.drive.Drive.{Drive}
use Rattle.fsb_phase.specs.declared.drive.Phased.{Phased}
use Rattle.fsb_phase.specs.declared.phases.Phases.{Phases}
use Rattle.fsb_queue.specs.declared.entry.Entry.{Entry}
use Rattle.fsb_signal.specs.declared.sample.Sample.{Sample}
use Rattle.fsb_trace.specs.declared.outcome.Outcome.{Outcome}
use Rattle.fsb_bench_view.specs.BenchSteps.{bench_stepped, outcome_snooped, step_decided, step_drive, step_entries}
use Rattle.fsb_bench_view.specs.BenchSteps.{step_releases}
use Rattle.fsb_bench_view.specs.BusEvents.{bus_heard, entry_started, heard_entries}
use Rattle.fsb_bench_view.specs.BusLocking.{MayRelease, bus_locked, retried_by}
use Rattle.fsb_bench_view.specs.BusViews.{BenchView, BusView}
use Rattle.fsb_bench_view.specs.ToldAgents.{hit_entries}
use Rattle.fsb_bench_view.specs.declared.beginning.Starting.{Starting}
use Rattle.fsb_bench_view.specs.declared.decided.Decided.{Decided}
use Rattle.fsb_core.specs.BareBenches.{fetched_by}
use Rattle.fsb_core.proofs.Clocks.{IsDecided, IsSampled}

-- the entries of the clock
pub entries-are :
    (v : BenchView) (hold : Bool) (clock : ℕ) (p : BusView) (decided : Decided) (drive : Drive) (sample : Sample)
    (phased : Phased) (after : Phases)
    → IsDecided v hold clock p decided → IsSampled v hold sample phased after → drive ≡ step_drive v
    → hit_entries clock (fetched_by v.bus drive).agents ++ heard_entries p clock decided phased ≡ step_entries v hold
entries-are v hold clock p decided drive sample phased after at took driven =
    rw (at.performed, at.clock_is, at.decided_is, took.phased_is, driven) refl

-- the log after the clock
pub log-is :
    (v : BenchView) (hold : Bool) (clock : ℕ) (p : BusView) (decided : Decided) (drive : Drive) (sample : Sample)
    (phased : Phased) (after : Phases)
    (hits log : List Done)
    → IsDecided v hold clock p decided → IsSampled v hold sample phased after → drive ≡ step_drive v
    → hits ≡ v.run.log ++ hit_entries clock (fetched_by v.bus drive).agents
    → log ≡ hits ++ heard_entries p clock decided phased
    → log ≡ v.run.log ++ step_entries v hold
log-is v hold clock p decided drive sample phased after hits log at took driven hit heard =
    heard
    ∙ ap (λ l. l ++ heard_entries p clock decided phased) hit
    ∙ append_assoc v.run.log (hit_entries clock (fetched_by v.bus drive).agents) (heard_entries p clock decided phased)
    ∙ ap (λ l. v.run.log ++ l) (entries-are v hold clock p decided drive sample phased after at took driven)

pub stepped-is :
    (v : BenchView) (hold : Bool) (choice : Choice) (clock : ℕ) (p heard locked : BusView) (decided : Decided)
    (sample : Sample) (phased : Phased)
    (after : Phases) (released : MayRelease) (outcome : Outcome) (begun : Option Entry) (queue : List Entry)
    (scripts : List (List Item)) (choices : List Choice) (holds : List Bool) (trace : List Sample) (log : List Done)
    → IsDecided v hold clock p decided → IsSampled v hold sample phased after
    → scripts ≡ v.run.plan.scripts
    → heard ≡ bus_heard p clock decided phased
    → locked ≡ bus_locked scripts heard decided.starting released
    → released ≡ step_releases v hold
    → outcome ≡ outcome_snooped decided
    → begun ≡ option_map (λ first. entry_started p clock first choice) decided.starting
    → queue ≡ goes_on v.run.trace sample outcome v.bus.queue ++ begun_list begun
    → choices ≡ v.run.choices ++ option_map_or (λ first. choice ∷ []) decided.starting []
    → holds ≡ v.run.holds ++ hold ∷ []
    → trace ≡ v.run.trace ++ sample ∷ []
    → log ≡ v.run.log ++ step_entries v hold
    → record {
      bus = record locked { queue = queue };
      run = record { plan = v.run.plan; choices = choices; holds = holds; trace = trace; log = log };
    } ≡ bench_stepped v hold choice
stepped-is v hold choice clock p heard locked decided sample phased after released outcome begun queue scripts
    choices holds trace log at took e0 e1 e2 e3 e4 e5 e6 e7 e8 e9 e10 =
    rw (
      e10,
      e9,
      e8,
      e7,
      e6,
      e2,
      e0,
      e3,
      e1,
      e5,
      e4,
      took.phased_is,
      took.sample_is,
      at.decided_is,
      at.performed,
      at.clock_is,
    ) refl

pub one-choice : (choice : Choice) (starting : Option Starting)
    → length (option_map_or (λ first. choice ∷ []) starting []) ≤ 1
one-choice choice None = omega arith
one-choice choice (Some s) = omega arith

-- what may be a release
pub released-are :
    (v : BenchView) (hold : Bool) (entries : List Done) (retried cancelled : Option Entry)
    → entries ≡ step_entries v hold → retried ≡ retried_by v.bus (step_drive v)
    → cancelled ≡ (step_decided v hold).cancelled
    → record { entries = entries; retried = retried; cancelled = cancelled } ≡ step_releases v hold
released-are v hold entries retried cancelled e1 e2 e3 = rw (e1, e2, e3) refl
