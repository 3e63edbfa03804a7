use Rattle.std.proofs.Common.{◌≡◌, ℕ, take}
use Rattle.fsb_bench_view.specs.FirstBench.{is_named_line}
use Rattle.fsb_bus.specs.ListedLines.{is_listed}
use Rattle.fsb_bus.proofs.made.memory_of.Given as goal

-- the lines are those that the scripts before the place name
abbrev pub invariant-loop-script : goal.invariant-loop-script
invariant-loop-script l = (line : ℕ)
    → is_listed l.lines.items line ≡ is_named_line (take l.script-index l.script-items) line
