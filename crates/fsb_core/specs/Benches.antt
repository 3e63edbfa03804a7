-- A bench as its contracts see it: its view, and the hazard objects that stand on it.
use Rattle.std.specs.Prelude.{ℕ, nat_lt, vec_capacity, if◌then◌else◌, List, length, Option, None, slice_get}
use Rattle.std.specs.Option.{option_map}
use Rattle.std.specs.declared.alloc.Global.{Global}
use Rattle.std.specs.declared.dyn_box.DynBox.{DynBox}
use Rattle.fsb_cache.specs.Sets.{CacheSets}
use Rattle.fsb_memory.specs.Controller.{LineMap}
use Rattle.fsb_bench_view.specs.BusViews.{BenchView}
use Rattle.fsb_core.specs.declared.bench.Bench.{Bench}
use Rattle.fsb_core.specs.BareBenches.{bare_view}

-- the bench as a record: its bus, and the run so far
abbrev pub bench_view : {X : Type 0} {F : X → Type 0} → Bench X F → BenchView
bench_view bench = bare_view bench.bare

-- the memory of a bench, as a map of lines
abbrev pub mapped_lines : {X : Type 0} {F : X → Type 0} → Bench X F → LineMap
mapped_lines bench = bench.bare.bus.memory

-- the hazard objects that stand on a bench, in order
abbrev pub objects_of : {X : Type 0} {F : X → Type 0} → Bench X F → List (DynBox X Global F)
objects_of bench = bench.hazards.items

-- how many hazard objects can stand on a bench before it needs more memory for them
abbrev pub object_room : {X : Type 0} {F : X → Type 0} → Bench X F → ℕ
object_room bench = vec_capacity bench.hazards

-- the cache of the agent of this number; there is none where the plan has no such agent
abbrev pub cache_of : BenchView → ℕ → Option CacheSets
cache_of v agent =
    if nat_lt agent (length v.run.plan.scripts)
    then option_map (λ a. a.lines) (slice_get v.bus.agents agent)
    else None
