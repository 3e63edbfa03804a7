-- The bus lock, clock by clock.
use Rattle.std.specs.Prelude.{ℕ, ◌==◌, ◌&&◌, ◌||◌, Bool, true, false, not, List, [], ◌∷◌, Option, slice_get}
use Rattle.std.specs.List.{list_any}
use Rattle.std.specs.Option.{option_map_or}
use Rattle.fsb_access.specs.ScriptOrder.{script_of}
use Rattle.fsb_access.specs.declared.item.Item.{Item}
use Rattle.fsb_access.specs.declared.log.Done.{Done}
use Rattle.fsb_count.specs.Options.{is_some_and}
use Rattle.fsb_phase.specs.declared.drive.Drive.{Drive}
use Rattle.fsb_queue.specs.declared.entry.Entry.{Entry}
use Rattle.fsb_timely.specs.Scripts.{is_locked}
use Rattle.fsb_trace.specs.declared.outcome.Outcome.{Outcome}
use Rattle.fsb_trace.specs.declared.outcome.Outcome.TheVariants.{Granted, Handed, Retried, Deferred, Written, Replied, Failed, Upgraded}
use Rattle.fsb_trace.specs.declared.who.Who.{Who}
use Rattle.fsb_trace.specs.declared.who.Who.TheVariants.{Symmetric, Priority}
use Rattle.fsb_bench_view.specs.declared.beginning.Started.{Started}
use Rattle.fsb_bench_view.specs.declared.beginning.Starting.{Starting}
use Rattle.fsb_bench_view.specs.BusViews.{BusView}
use Rattle.fsb_bench_view.specs.BusEvents.{responding_with}

-- the request is the agent's
abbrev pub is_of : ℕ → Who → Bool
is_of agent (Symmetric other) = other == agent
is_of agent Priority = false

-- the outcome is Retried
abbrev pub is_retry : Outcome → Bool
is_retry Granted = false
is_retry Handed = false
is_retry Retried = true
is_retry Deferred = false
is_retry Written = false
is_retry Replied = false
is_retry Failed = false
is_retry Upgraded = false

-- the request whose response Retry the clock is
abbrev pub retried_by : BusView → Drive → Option Entry
retried_by bus drive = responding_with is_retry bus drive

-- the request of this number is a locked one
abbrev pub is_locked_start : List Started → ℕ → Bool
is_locked_start started number = option_map_or (λ start. start.locked) (slice_get started number) false

-- the request is a locked one of the agent
abbrev pub is_locked_of : List Started → ℕ → Entry → Bool
is_locked_of started agent entry = is_of agent entry.who && is_locked_start started entry.number

-- the entry is of a locked item of the agent
abbrev pub completes_lock : List (List Item) → ℕ → Done → Bool
completes_lock scripts agent done =
    (done.agent == agent) && is_some_and (slice_get (script_of scripts agent) done.item) is_locked

-- what a clock brings that may be a release: the entries of the log, the request that is retried, and the one that is
-- cancelled
pub record MayRelease : Type 0 where
  pub entries : List Done
  pub retried : Option Entry
  pub cancelled : Option Entry

-- the agent makes a release: it completes a locked item, or a locked request of it is retried or cancelled
abbrev pub is_released : List (List Item) → List Started → MayRelease → ℕ → Bool
is_released scripts started may agent =
    list_any (completes_lock scripts agent) may.entries
    || (is_some_and may.retried (is_locked_of started agent) || is_some_and may.cancelled (is_locked_of started agent))

-- the agent begins a locked request
abbrev pub is_locking : Option Starting → ℕ → Bool
is_locking starting agent = is_some_and starting (λ s. is_of agent s.who && s.locked)

-- of an agent: whether it keeps the bus locked
abbrev pub keeps_in : List Bool → ℕ → Bool
keeps_in kept agent = option_map_or (λ keeps. keeps) (slice_get kept agent) false

-- the agent keeps the bus locked after the clock: it did or begins a locked request there, and makes no release
abbrev pub keeps_after : List (List Item) → BusView → Option Starting → MayRelease → ℕ → Bool
keeps_after scripts bus starting may agent =
    (keeps_in bus.kept agent || is_locking starting agent) && not (is_released scripts bus.started may agent)

-- the bus after the lock has taken the clock
abbrev pub bus_locked : List (List Item) → BusView → Option Starting → MayRelease → BusView
bus_locked scripts bus starting may = record bus {
  kept =
      keeps_after scripts bus starting may 0 ∷ (keeps_after scripts bus starting may 1
      ∷ (keeps_after scripts bus starting may 2 ∷ (keeps_after scripts bus starting may 3 ∷ [])));
}
