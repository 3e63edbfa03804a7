-- The row of a run: out of the reading of its bench file, and out of the playing of its plan.
use Rattle.std.proofs.Common.{◌≡◌, ◌≢◌, ◌++◌, ℕ, IsTrue, List, Option, Some, None, ap, false, inl, inr, is_some, refl, subst}
use Rattle.std.proofs.Common.{sym, true}
use Rattle.fsb_bench_view.specs.BusViews.{BenchView}
use Rattle.fsb_bench_view.specs.FirstBench.{first_bench}
use Rattle.fsb_hazard.specs.Told.{Told}
use Rattle.fsb_io.specs.Appends.{AppendsPart}
use Rattle.fsb_io.specs.Faults.{Rose}
use Rattle.fsb_io.specs.declared.sink.Sink.{Ghosts as SinkGhosts}
use Rattle.fsb_io.specs.declared.source.Source.{Ghosts as SourceGhosts}
use Rattle.fsb_play.specs.Printed.{run_dump, run_log, run_summary}
use Rattle.fsb_play.specs.RunOf.{IsRunOf}
use Rattle.fsb_play.specs.Writing.{HasDump, HasDumpPart}
use Rattle.fsb_play.specs.declared.playing.Played.{Played}
use Rattle.fsb_play.specs.declared.playing.Played.TheVariants as plays
use Rattle.fsb_script.specs.Made.{made_plan}
use Rattle.fsb_script.specs.Plans.{PlanView}
use Rattle.fsb_timely.specs.Runs.{Run}
use Rattle.fsb_top.proofs.Stops.{read_within}
use Rattle.fsb_top.specs.BenchEnds.{HasRunOf, IsLogged, IsPlanOf}
use Rattle.fsb_top.specs.CallEnds.{DumpCall, GenEnds, PlanEnds, RunEnds, dump_call}
use Rattle.fsb_top.specs.FileRead.{IsStopped, bench_file}
use Rattle.fsb_top.specs.StopStatus.{played_status}
use Rattle.fsb_top.specs.declared.status.Status.{Status}

-- what a bench that was played says of its call
pub record HasPlayed {O D : Type 0} (out : SinkGhosts O) (dump : SinkGhosts D) (before after : O) (first last : D)
    (text dumped : List ℕ) (name : Option (List ℕ)) (played : Played)
    : Type 0 where
  pub write_fault : played ≡ plays.WriteFault → Rose (out.faults before) (out.faults after)
  pub dump_fault : played ≡ plays.DumpFault → Rose (dump.faults first) (dump.faults last)
  pub has_name : played ≡ plays.DumpFault → IsTrue (is_some name)
  pub printed : IsTrue out.tells → played ≢ plays.WriteFault → out.holds after ≡ out.holds before ++ text
  pub part : IsTrue out.tells → AppendsPart text (out.holds before) (out.holds after)
  pub not_begun : played ≡ plays.WriteFault → last ≡ first
  pub no_dump : name ≡ None → last ≡ first
  pub whole : IsTrue dump.tells → played ≡ plays.Done → HasDump dumped name (dump.holds last) (dump.begun_as last)
  pub dump_part : IsTrue dump.tells → played ≡ plays.DumpFault
      → HasDumpPart dumped name (dump.holds first) (dump.begun_as first) (dump.holds last) (dump.begun_as last)

named : (name : Option (List ℕ)) → IsTrue (is_some name) → name ≢ None
named (Some name) some e = cc
named None some e = let no : false ≡ true = some in let never : ⊥ = cc in never

module _ {O D : Type 0} (out : SinkGhosts O) (dump : SinkGhosts D) (before after : O) (first last : D)
    (told : List (Option Told)) (plan : PlanView) (text : Run → List ℕ) (name : Option (List ℕ)) (run : Run)
    (is_run : IsRunOf told plan run) where
  played_as : (played : Played)
      → HasPlayed out dump before after first last (text run) (run_dump run) name played
      → PlanEnds out (dump_call dump first last) before after told plan text name (played_status played)
  played_as plays.Done h = (
    h.no_dump,
    inr (
      tt,
      record {
        run = run;
        is_run = is_run;
        leaves = (λ tells. h.printed tells (λ e. cc), λ tells. h.whole tells refl);
      },
    ),
  )
  played_as plays.WriteFault h = (
    h.no_dump,
    inr (
      (h.write_fault refl, h.not_begun refl),
      record {
        run = run;
        is_run = is_run;
        leaves = (λ tells. h.part tells, λ tells. tt);
      },
    ),
  )
  played_as plays.DumpFault h = (
    h.no_dump,
    inr (
      (h.dump_fault refl, named name (h.has_name refl)),
      record {
        run = run;
        is_run = is_run;
        leaves = (λ tells. h.printed tells (λ e. cc), λ tells. h.dump_part tells refl);
      },
    ),
  )

-- a bench was made of the plan, and played
pub plan_played : {O D : Type 0} (out : SinkGhosts O) (dump : SinkGhosts D) (before after : O) (first last : D)
    (told made : List (Option Told)) (plan : PlanView) (text : Run → List ℕ) (name : Option (List ℕ))
    (fresh stale : BenchView) (played : Played) (status : Status) → status ≡ played_status played
    → fresh ≡ first_bench plan → made ≡ told → IsRunOf made fresh.run.plan stale.run
    → HasPlayed out dump before after first last (text stale.run) (run_dump stale.run) name played
    → PlanEnds out (dump_call dump first last) before after told plan text name status
plan_played out dump before after first last told made plan text name fresh stale played status e is_first same is_run h =
    let of_plan : fresh.run.plan ≡ plan = ap (λ (v : BenchView). v.run.plan) is_first in
    let run_of =
    subst (λ (p : PlanView). IsRunOf told p stale.run) of_plan
    (subst (λ (t : List (Option Told)). IsRunOf t fresh.run.plan stale.run) same is_run) in
    subst (λ (s : Status). PlanEnds out (dump_call dump first last) before after told plan text name s) (sym e)
    (played_as out dump before after first last told plan text name stale.run run_of played h)

-- the plan of a bench file was run
pub run_row : {S O : Type 0} (source : SourceGhosts S) (out : SinkGhosts O) (dump : DumpCall) (was now : S)
    (before after : O) (told : PlanView → List (Option Told)) (bench : List ℕ) (name : Option (List ℕ)) (plan : PlanView)
    (status : Status)
    → (IsTrue source.tells → IsPlanOf bench (source.holds was) (source.left now) (source.begun_as now) plan)
    → PlanEnds out dump before after (told plan) plan run_log name status
    → RunEnds source out dump was now before after told bench name status
run_row source out dump was now before after told bench name plan status is_plan (unnamed, inl lacks) = (
  unnamed,
  inl (
    subst (λ (s : Status). IsStopped source bench_file bench was now s) (sym lacks.0)
        (λ tells. read_within (source.holds was) bench (source.left now) (source.begun_as now) (is_plan tells).read),
    (lacks.1, lacks.2),
  ),
)
run_row source out dump was now before after told bench name plan status is_plan (unnamed, inr played) =
    (unnamed, inr (played.0, record { plan = plan; is_plan = is_plan; ran = played.1 }))

-- the plan that is made from a seed was run
pub gen_row : {O : Type 0} (out : SinkGhosts O) (dump : DumpCall) (before after : O)
    (told : PlanView → List (Option Told)) (seed agents items : ℕ) (plan : PlanView) (status : Status)
    → plan ≡ made_plan seed agents items
    → PlanEnds out dump before after (told plan) plan (run_summary seed agents items) None status
    → GenEnds out dump before after told seed agents items status
gen_row out dump before after told seed agents items plan status made (unnamed, inl lacks) =
    (unnamed refl, inl (lacks.0, lacks.1))
gen_row out dump before after told seed agents items plan status made (unnamed, inr played) = (
  unnamed refl,
  inr (
    played.0,
    subst (λ (p : PlanView). HasRunOf (told p) p (λ r. IsTrue out.tells
        → IsLogged status (run_summary seed agents items r) (out.holds before) (out.holds after))) made
        (record {
          run = played.1.run;
          is_run = played.1.is_run;
          leaves = played.1.leaves.0;
        }),
  ),
)
