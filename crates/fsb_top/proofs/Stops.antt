-- What stopped a call, out of what stopped the reading of its file.
use Rattle.std.proofs.Common.{◌≡◌, ◌++◌, ℕ, IsTrue, List, Option, Some, Err, ap, inl, inr, refl, subst, sym}
use Rattle.std.proofs.Common.{◌∙◌}
use Rattle.std.proofs.lemmas.List.{append-nil}
use Rattle.fsb_io.specs.Faults.{Rose}
use Rattle.fsb_io.specs.declared.source.Source.{Ghosts}
use Rattle.fsb_show.specs.ShownDump.{IsBegun, IsToldAs}
use Rattle.fsb_show.specs.declared.stop.ShowStop.{ShowStop}
use Rattle.fsb_show.specs.declared.stop.ShowStop.TheVariants as shows
use Rattle.fsb_watch.specs.Watched.{HasBegun, IsBegunOrStays, IsReadAs}
use Rattle.fsb_watch.specs.declared.stop.DumpStop.{DumpStop}
use Rattle.fsb_watch.specs.declared.stop.DumpStop.TheVariants as dumps
use Rattle.fsb_script.specs.Drafts.{FirstBad}
use Rattle.fsb_script.specs.declared.fault.ScriptFault.{ScriptFault}
use Rattle.fsb_top.specs.FileRead.{HasReadAll, HasReadAtMost, HasReadPast, IsStopped, bench_file, dump_in_pieces}
use Rattle.fsb_top.specs.FileRead.{whole_dump}
use Rattle.fsb_top.specs.declared.read.Refusal.{Refusal}
use Rattle.fsb_top.specs.declared.read.Refusal.TheVariants as refusals
use Rattle.fsb_top.specs.StopStatus.{dump_status, refusal_status, show_status}
use Rattle.fsb_top.specs.declared.status.Status.{Status}

module _ {S : Type 0} (source : Ghosts S) (name : List ℕ) (was now : S) where
  -- a dump that was read in pieces
  by_pieces : {X : Type 0} (is_as : X → List ℕ → Type 0) (stop : DumpStop)
      → (IsTrue source.tells → IsReadAs is_as (Err stop) (source.holds was) (source.left now))
      → (IsTrue source.tells → HasBegun {X = X} (Err stop) → source.begun_as now ≡ Some name)
      → (IsTrue source.tells → stop ≡ dumps.ReadFault
      → IsBegunOrStays name (source.begun_as was) (source.begun_as now) (source.left was) (source.left now))
      → (stop ≡ dumps.ReadFault → Rose (source.faults was) (source.faults now))
      → IsStopped source dump_in_pieces name was now (dump_status stop)
  by_pieces is_as (dumps.Bad fault) read named begun rose = (
    tt,
    λ tells.
        let it = read tells in
        (record { named = named tells tt; short = it.0.short; all = it.0.all }, it.1),
  )
  by_pieces is_as dumps.ReadFault read named begun rose = (rose refl, λ tells. begun tells refl)
  by_pieces is_as dumps.TooLong read named begun rose = λ tells.
      elim (read tells) [
        | inl past ↦ inl (record { named = named tells tt; long = past.long; rest = past.rest })
        | inr both ↦ inr (record { named = named tells tt; short = both.0.short; all = both.0.all }, both.1)
      ]
  by_pieces is_as dumps.Memory read named begun rose = λ tells.
      record { named = named tells tt; taken = read tells }

  pub stopped_pieces : {X : Type 0} (is_as : X → List ℕ → Type 0) (stop : DumpStop) (status : Status)
      → status ≡ dump_status stop
      → (IsTrue source.tells → IsReadAs is_as (Err stop) (source.holds was) (source.left now))
      → (IsTrue source.tells → HasBegun {X = X} (Err stop) → source.begun_as now ≡ Some name)
      → (IsTrue source.tells → stop ≡ dumps.ReadFault
      → IsBegunOrStays name (source.begun_as was) (source.begun_as now) (source.left was) (source.left now))
      → (stop ≡ dumps.ReadFault → Rose (source.faults was) (source.faults now))
      → IsStopped source dump_in_pieces name was now status
  stopped_pieces is_as stop status e read named begun rose =
      subst (λ (s : Status). IsStopped source dump_in_pieces name was now s) (sym e)
      (by_pieces is_as stop read named begun rose)

  -- a dump that is kept whole
  by_whole : {X : Type 0} (is_as : X → List ℕ → Type 0) (stop : ShowStop)
      → (IsTrue source.tells → IsToldAs is_as (Err stop) (source.holds was) (source.left now))
      → (IsTrue source.tells → IsBegun {X = X} (Err stop) → source.begun_as now ≡ Some name)
      → (IsTrue source.tells → stop ≡ shows.ReadFault
      → IsBegunOrStays name (source.begun_as was) (source.begun_as now) (source.left was) (source.left now))
      → (stop ≡ shows.ReadFault → Rose (source.faults was) (source.faults now))
      → IsStopped source whole_dump name was now (show_status stop)
  by_whole is_as (shows.Bad fault) read named begun rose = (
    tt,
    λ tells.
        let it = read tells in
        (record { named = named tells tt; short = it.0.short; all = it.0.all }, it.1),
  )
  by_whole is_as shows.ReadFault read named begun rose = (rose refl, λ tells. begun tells refl)
  by_whole is_as shows.TooLong read named begun rose = λ tells.
      elim (read tells) [
        | inl past ↦ inl (record { named = named tells tt; long = past.long; rest = past.rest })
        | inr both ↦ inr (record { named = named tells tt; short = both.0.short; all = both.0.all }, both.1)
      ]
  by_whole is_as shows.Memory read named begun rose = λ tells.
      record { named = named tells tt; taken = read tells }

  pub stopped_whole : {X : Type 0} (is_as : X → List ℕ → Type 0) (stop : ShowStop) (status : Status)
      → status ≡ show_status stop
      → (IsTrue source.tells → IsToldAs is_as (Err stop) (source.holds was) (source.left now))
      → (IsTrue source.tells → IsBegun {X = X} (Err stop) → source.begun_as now ≡ Some name)
      → (IsTrue source.tells → stop ≡ shows.ReadFault
      → IsBegunOrStays name (source.begun_as was) (source.begun_as now) (source.left was) (source.left now))
      → (stop ≡ shows.ReadFault → Rose (source.faults was) (source.faults now))
      → IsStopped source whole_dump name was now status
  stopped_whole is_as stop status e read named begun rose =
      subst (λ (s : Status). IsStopped source whole_dump name was now s) (sym e)
      (by_whole is_as stop read named begun rose)

module _ {S : Type 0} (source : Ghosts S) (name : List ℕ) (was now : S) where
  -- what the reading of a bench file says of a refusal
  pub record HasRefused (refusal : Refusal) : Type 0 where
    pub bad : IsTrue source.tells → (fault : ScriptFault) → refusal ≡ refusals.Bad fault
        → FirstBad (source.holds was) fault
    pub bad_whole : IsTrue source.tells → (fault : ScriptFault) → refusal ≡ refusals.Bad fault
        → HasReadAll bench_file name (source.holds was) (source.left now) (source.begun_as now)
    pub long_read : IsTrue source.tells → refusal ≡ refusals.TooLong
        → HasReadPast 4194304 name (source.holds was) (source.left now) (source.begun_as now)
    pub memory_read : IsTrue source.tells → refusal ≡ refusals.Memory
        → HasReadAtMost 4194304 name (source.holds was) (source.left now) (source.begun_as now)
    pub not_read : IsTrue source.tells → refusal ≡ refusals.ReadFault
        → IsBegunOrStays name (source.begun_as was) (source.begun_as now) (source.left was) (source.left now)
    pub read_fault : refusal ≡ refusals.ReadFault → Rose (source.faults was) (source.faults now)

  by_refusal : (refusal : Refusal) → HasRefused refusal
      → IsStopped source bench_file name was now (refusal_status refusal)
  by_refusal (refusals.Bad fault) h = (refl, λ tells. (h.bad_whole tells fault refl, h.bad tells fault refl))
  by_refusal refusals.ReadFault h = (h.read_fault refl, λ tells. h.not_read tells refl)
  by_refusal refusals.TooLong h = λ tells. inl (h.long_read tells refl)
  by_refusal refusals.Memory h = λ tells. h.memory_read tells refl

  pub stopped_bench : (refusal : Refusal) (status : Status) → status ≡ refusal_status refusal → HasRefused refusal
      → IsStopped source bench_file name was now status
  stopped_bench refusal status e h =
      subst (λ (s : Status). IsStopped source bench_file name was now s) (sym e) (by_refusal refusal h)

-- a bench file that was read whole was read to at most the limit
pub read_within : (held name left : List ℕ) (begun_as : Option (List ℕ)) → HasReadAll bench_file name held left begun_as
    → HasReadAtMost 4194304 name held left begun_as
read_within held name left begun_as read = record {
  named = read.named;
  taken = record {
    taken = held;
    whole = sym (append-nil held) ∙ ap (λ xs. held ++ xs) (sym read.all);
    within = read.short;
  };
}
