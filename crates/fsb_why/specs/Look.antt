-- What is kept of a trace for its last clock.
use Rattle.std.specs.Prelude.{◌≡◌, ℕ, ◌+◌, ◌-◌, nat_le, if◌then◌else◌, Option, Some, None, length, slice_get}
use Rattle.fsb_count.specs.Clocks.{last_where}
use Rattle.fsb_signal.specs.declared.lines.TheConstants.Lines.{ADS}
use Rattle.fsb_signal.specs.declared.marks.Marks.{Marks}
use Rattle.fsb_signal.specs.declared.sample.Sample.{Sample}
use Rattle.fsb_signal.specs.Samples.{line_at}
use Rattle.fsb_trace.specs.At.{Trace}
use Rattle.fsb_trace.specs.Winner.{winner_at, last_agent}
use Rattle.fsb_arbiter.specs.Arbiter.{Stands as ArbiterStands}
use Rattle.fsb_why.specs.declared.look.Look.{Look}
use Rattle.fsb_why.specs.declared.why.Why.{Why}

-- the sample that lies d clocks before c, if there is such a clock
unfoldable pub sample_back : Trace → ℕ → ℕ → Option Sample
sample_back v c d = if nat_le d c then slice_get v (c - d) else None

-- the trace ends with the clock of the look, which has what that clock and the three before it show
pub record Shows (look : Look) (m : Marks) (v : Trace) : Type 0 where
  pub marked : look.marks ≡ m
  pub size : length v ≡ look.clock + 1
  pub here : slice_get v look.clock ≡ Some look.sample
  pub one : look.one ≡ sample_back v look.clock 1
  pub two : look.two ≡ sample_back v look.clock 2
  pub three : look.three ≡ sample_back v look.clock 3
  pub winner : look.winner ≡ winner_at v look.clock
  pub before : look.winner_before ≡ winner_at v (look.clock - 1)
  pub last : look.last ≡ last_agent v look.clock
  pub request : look.request ≡ last_where (line_at ADS v) look.clock

-- what is said of the last clock of a trace: nothing before the first
abbrev pub SaysLast : Option Look → Marks → Trace → Type 0
SaysLast None m h = length h ≡ 0
SaysLast (Some look) m h = Shows look m h

-- the machine was made with these marks and fed these samples
pub record Stands (why : Why) (m : Marks) (h : Trace) : Type 0 where
  pub marked : why.marks ≡ m
  pub arbiter : ArbiterStands why.arbiter h
  pub last : SaysLast why.look m h
