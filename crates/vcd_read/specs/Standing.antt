-- What a reader stands for.
use Rattle.std.specs.Prelude.{◌≡◌, ℕ, ◌≤◌, Bool, true, is_some, List, length, Option, None, Some, Result, Ok, Err}
use Rattle.fsb_signal.specs.declared.marks.Marks.{Marks}
use Rattle.vcd_grammar.specs.Tokens.{tokens_so_far, open_run}
use Rattle.vcd_grammar.specs.Reading.{samples_so_far, fault_so_far, marks_so_far}
use Rattle.vcd_read.specs.declared.reader.Reader.{Reader}
use Rattle.vcd_read.specs.declared.scan.Scan.{Scan}
use Rattle.vcd_read.specs.declared.stop.VcdStop.{VcdStop}
use Rattle.vcd_read.specs.declared.stop.VcdStop.TheVariants as stops
use Rattle.vcd_read.specs.Taking.{taken, untaken, take_tokens}

-- what the reader has refused with, if it has
abbrev pub refusal_of : Reader → Option VcdStop
refusal_of r = r.refused

-- the most samples that the reader gives
abbrev pub limit_of : Reader → ℕ
limit_of r = r.limit

-- the marks that the reader tells, if it does
abbrev pub marks_told : Reader → Option Marks
marks_told r = r.marks

-- the scan has taken the tokens that count in these bytes, and keeps the run behind them
pub record Scanned (s : Scan) (fed : List ℕ) : Type 0 where
  pub machine : taken s.machine ≡ take_tokens untaken (tokens_so_far fed)
  pub at : s.at ≡ length fed
  pub run : s.run.bytes.items ≡ open_run fed

-- a reader that was fed these bytes and has refused nothing: the tokens that count show no fault, and no more samples than
-- its limit were decided
pub record Works (r : Reader) (fed : List ℕ) : Type 0 where
  pub scanned : Scanned r.scan fed
  pub faultless : fault_so_far fed ≡ None
  pub few : length (samples_so_far fed) ≤ r.limit

-- what the reader tells are the marks of all that it was fed: no `finish` was asked, and memory was not wanting
abbrev pub is_followed : Reader → Bool
is_followed r = r.followed

-- a scan that was fed these bytes, with a fault in them
pub record Behind (s : Scan) (fed : List ℕ) : Type 0 where
  pub scanned : Scanned s fed
  pub faulty : is_some s.machine.fault ≡ true

-- where a piece was refused, and memory was not wanting, the marks come later only behind a fault
abbrev pub GoesOn : Result Unit VcdStop → Option Marks → Scan → List ℕ → Type 0
GoesOn (Ok x) marks s fed = Unit {0}
GoesOn (Err stops.Memory) marks s fed = Unit {0}
GoesOn (Err stops.TooLong) marks s fed = marks ≡ None → Behind s fed
GoesOn (Err (stops.Bad fault)) marks s fed = marks ≡ None → Behind s fed

-- the reader stands for the bytes that it was fed; once it has refused and its marks stay, for any
pub record Stands (r : Reader) (fed : List ℕ) : Type 0 where
  pub works : refusal_of r ≡ None → Works r fed
  pub followed : refusal_of r ≡ None → is_followed r ≡ true
  pub marked : is_followed r ≡ true → marks_told r ≡ marks_so_far fed
  pub behind : (stop : VcdStop) → refusal_of r ≡ Some stop → is_followed r ≡ true → marks_told r ≡ None
      → Behind r.scan fed
