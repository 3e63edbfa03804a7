-- What is read of a dump that is shown.
use Rattle.std.specs.Prelude.{◌≡◌, ◌≤◌, ◌<◌, ◌+◌, ◌⊎◌, ℕ, List, [], None, length, drop, Result, Ok, Err, Vec}
use Rattle.fsb_io.specs.Takes.{TakesAtMost}
use Rattle.fsb_signal.specs.declared.marks.Marks.{Marks}
use Rattle.fsb_signal.specs.declared.sample.Sample.{Sample}
use Rattle.vcd_grammar.specs.Reading.{Reads, FirstFault, first_fault, samples_of}
use Rattle.fsb_show.specs.declared.stop.ShowStop.{ShowStop}
use Rattle.fsb_show.specs.declared.stop.ShowStop.TheVariants as stops

-- a text of at most 268,435,456 bytes was read to its end
pub record IsReadToEnd (text left : List ℕ) : Type 0 where
  pub short : length text ≤ 268435456
  pub all : left ≡ []

-- a text of more than 268,435,456 bytes was read to one byte past them
pub record IsReadPastLimit (text left : List ℕ) : Type 0 where
  pub long : 268435456 < length text
  pub rest : left ≡ drop (268435456 + 1) text

-- the text is the dump of a trace of more than 200,000 samples
pub record IsLongDump (text : List ℕ) : Type 0 where
  pub readable : first_fault text ≡ None
  pub many : 200000 < length (samples_of text)

-- what was read of a text, and that it is as the answer says; what is left after a fault of the source is not known
abbrev pub IsToldAs : {X : Type 0} → (X → List ℕ → Type 0) → Result X ShowStop → List ℕ → List ℕ → Type 0
IsToldAs is_as (Ok answer) text left = IsReadToEnd text left × is_as answer text
IsToldAs is_as (Err (stops.Bad fault)) text left = IsReadToEnd text left × FirstFault text fault
IsToldAs is_as (Err stops.TooLong) text left = IsReadPastLimit text left ⊎ (IsReadToEnd text left × IsLongDump text)
IsToldAs is_as (Err stops.ReadFault) text left = Unit {0}
IsToldAs is_as (Err stops.Memory) text left = TakesAtMost (268435456 + 1) text left

-- a call that was not stopped by its source
abbrev pub IsBegun : {X : Type 0} → Result X ShowStop → Type 0
IsBegun (Ok answer) = Unit {0}
IsBegun (Err (stops.Bad fault)) = Unit {0}
IsBegun (Err stops.TooLong) = Unit {0}
IsBegun (Err stops.ReadFault) = ⊥
IsBegun (Err stops.Memory) = Unit {0}

-- the text is the dump of this trace, with these marks
abbrev pub IsTrace : {A : Type 0} → Marks × Vec Sample A → List ℕ → Type 0
IsTrace told text = Reads text told.0 told.1.items
