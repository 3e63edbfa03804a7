-- What is too long for a command, and what is enough for it.
use Rattle.std.proofs.Common.{◌≤◌, ◌<◌, ◌-◌, ◌^◌, ◌⊎◌, ℕ, List, Option, length}
use Rattle.fsb_command.specs.Form.{audit, check, find, gen, run, show, wave}
use Rattle.fsb_script.specs.Drafts.{BenchText}
use Rattle.fsb_script.specs.Plans.{PlanView}
use Rattle.fsb_show.specs.ShownDump.{IsLongDump}
use Rattle.fsb_signal.specs.declared.marks.Marks.{Marks}
use Rattle.fsb_signal.specs.declared.sample.Sample.{Sample}
use Rattle.fsb_trigger.specs.TriggerSteps.{StepView}
use Rattle.fsb_watch.specs.Watched.{HasManySamples}
use Rattle.vcd_grammar.specs.Reading.{Reads}
use Rattle.fsb_top.specs.BenchEnds.{IsTooLong}
use Rattle.fsb_top.specs.Complete.{IsDumpWithin, IsReadable}

-- what is too long has more bytes or samples than its command reads; a plan that is made is never too long
pub too_long : (name held : List ℕ) (dump : Option (List ℕ)) (steps : List StepView) (from to seed agents items : ℕ)
    → (IsTooLong (run name dump) held → 4194304 < length held)
    × (IsTooLong (check name) held → (2 ^ 40 < length held) ⊎ HasManySamples held)
    × (IsTooLong (audit name) held → (2 ^ 40 < length held) ⊎ HasManySamples held)
    × (IsTooLong (show name) held → (268435456 < length held) ⊎ IsLongDump held)
    × (IsTooLong (find name steps) held → (2 ^ 40 < length held) ⊎ HasManySamples held)
    × (IsTooLong (wave name from to) held → (2 ^ 40 < length held) ⊎ HasManySamples held)
    × ¬ IsTooLong (gen seed agents items) held
too_long name held dump steps from to seed agents items = (λ h. h, λ h. h, λ h. h, λ h. h, λ h. h, λ h. h, λ h. h)

-- a bench file within the limit is enough for a run
pub bench_file_is_enough : (name held : List ℕ) (dump : Option (List ℕ)) (plan : PlanView) → BenchText held plan
    → length held ≤ 4194304 → IsReadable (run name dump) held
bench_file_is_enough name held dump plan is_bench short = record { short = short; plan = plan; is_bench = is_bench }

-- a dump within the limits is enough for what reads it in pieces
pub dump_is_enough : (name held : List ℕ) (steps : List StepView) (from to : ℕ) (marks : Marks) (trace : List Sample)
    → Reads held marks trace → length held ≤ 2 ^ 40 → length trace ≤ 2 ^ 32 - 1
    → IsReadable (check name) held × IsReadable (audit name) held × IsReadable (find name steps) held
    × IsReadable (wave name from to) held
dump_is_enough name held steps from to marks trace reads short few =
    let readable : IsDumpWithin (2 ^ 40) (2 ^ 32 - 1) held =
    record { short = short; marks = marks; trace = trace; reads = reads; few = few } in
    (readable, readable, readable, readable)

-- one within the limits of a table for a table
pub short_dump_is_enough : (name held : List ℕ) (marks : Marks) (trace : List Sample) → Reads held marks trace
    → length held ≤ 268435456 → length trace ≤ 200000 → IsReadable (show name) held
short_dump_is_enough name held marks trace reads short few =
    record { short = short; marks = marks; trace = trace; reads = reads; few = few }
