-- What is read of a dump.
use Rattle.std.specs.Prelude.{◌≡◌, ◌≤◌, ◌<◌, ◌-◌, ◌^◌, ◌⊎◌, ◌+◌, ℕ, List, [], Option, Some, None, length, drop, Result, Ok, Err}
use Rattle.fsb_io.specs.Takes.{TakesAtMost}
use Rattle.fsb_signal.specs.declared.marks.Marks.{Marks}
use Rattle.fsb_signal.specs.declared.sample.Sample.{Sample}
use Rattle.vcd_grammar.specs.declared.fault.VcdFault.{VcdFault}
use Rattle.vcd_grammar.specs.Reading.{Reads, FirstFault, first_fault, samples_of, samples_before_end}
use Rattle.fsb_watch.specs.declared.stop.DumpStop.{DumpStop}
use Rattle.fsb_watch.specs.declared.stop.DumpStop.TheVariants as stops

-- the text is the dump of a trace with these marks, which has so many clocks and was seen
pub record IsSeen (seen : Marks → List Sample → Type 0) (clocks : ℕ) (text : List ℕ) : Type 0 where
  pub marks : Marks
  pub trace : List Sample
  pub reads : Reads text marks trace
  pub clocks_are : clocks ≡ length trace
  pub few : length trace ≤ 2 ^ 32 - 1
  pub seen_all : seen marks trace

-- the text is no dump, this is its first fault, and at most 2^32 - 1 samples are decided before it
pub record IsBad (text : List ℕ) (fault : VcdFault) : Type 0 where
  pub first : FirstFault text fault
  pub few : length (samples_before_end text) ≤ 2 ^ 32 - 1

-- more than 2^32 - 1 samples are decided before the first fault of the text, or by all of it where it has none
abbrev pub HasManySamples : List ℕ → Type 0
HasManySamples text =
    (2 ^ 32 - 1 < length (samples_before_end text)) ⊎ ((first_fault text ≡ None) × (2 ^ 32 - 1 < length (samples_of text)))

-- a text of at most 2^40 bytes was read to its end
pub record IsReadWhole (text left : List ℕ) : Type 0 where
  pub short : length text ≤ 2 ^ 40
  pub all : left ≡ []

-- a text of more than 2^40 bytes was read to one byte past them
pub record IsReadPast (text left : List ℕ) : Type 0 where
  pub long : 2 ^ 40 < length text
  pub rest : left ≡ drop (2 ^ 40 + 1) text

-- what was read of a text, and that it is as the answer says; what is left after a fault of the source is not known
abbrev pub IsReadAs : {X : Type 0} → (X → List ℕ → Type 0) → Result X DumpStop → List ℕ → List ℕ → Type 0
IsReadAs is_as (Ok answer) text left = IsReadWhole text left × is_as answer text
IsReadAs is_as (Err (stops.Bad fault)) text left = IsReadWhole text left × IsBad text fault
IsReadAs is_as (Err stops.TooLong) text left = IsReadPast text left ⊎ (IsReadWhole text left × HasManySamples text)
IsReadAs is_as (Err stops.ReadFault) text left = Unit {0}
IsReadAs is_as (Err stops.Memory) text left = TakesAtMost (2 ^ 40 + 1) text left

-- a call that was not stopped by its source
abbrev pub HasBegun : {X : Type 0} → Result X DumpStop → Type 0
HasBegun (Ok answer) = Unit {0}
HasBegun (Err (stops.Bad fault)) = Unit {0}
HasBegun (Err stops.TooLong) = Unit {0}
HasBegun (Err stops.ReadFault) = ⊥
HasBegun (Err stops.Memory) = Unit {0}

-- the source was begun under the name, or it could not be begun, and neither its name nor what is left of it changed
abbrev pub IsBegunOrStays : List ℕ → Option (List ℕ) → Option (List ℕ) → List ℕ → List ℕ → Type 0
IsBegunOrStays name was_begun_as begun_as left_before left =
    (begun_as ≡ Some name) ⊎ ((begun_as ≡ was_begun_as) × (left ≡ left_before))
