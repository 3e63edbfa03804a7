-- A clock of a run that keeps the tie between the run and the machine.
use Rattle.std.specs.Prelude.{ℕ, ◌+◌}
use Rattle.fsb_line.specs.Coherence.{Ordered, Valued}
use Rattle.fsb_line.specs.Line.{MemoryLine}
use Rattle.fsb_line.specs.LineRuns.{MayRun, run}
use Rattle.fsb_timely.specs.Past.{Past}
use Rattle.fsb_coherent.specs.LineEvents.{events_at}
use Rattle.fsb_coherent.specs.Relation.{Tied}

-- clock n keeps the tie of the line: the events of the clock may happen to every line of the machine that is in order
-- and is that of the run at n, and after them it is that of the run at n + 1
pub record KeepsTie (p : Past) (line n : ℕ) : Type 0 where
  pub may : (x : MemoryLine) → Ordered x → Valued x → Tied p line n x → MayRun x (events_at p line n)
  pub tied : (x : MemoryLine) → Ordered x → Valued x → Tied p line n x → Tied p line (n + 1) (run x (events_at p line n))

-- the line of the machine is in order, has its bytes where they belong, and is that of the run at n
pub record IsTiedTo (p : Past) (line n : ℕ) (x : MemoryLine) : Type 0 where
  pub ordered : Ordered x
  pub valued : Valued x
  pub tied : Tied p line n x
