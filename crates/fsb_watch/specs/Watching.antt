-- What was taken of a dump, and shown.
use Rattle.std.specs.Prelude.{◌≡◌, ◌≤◌, ◌-◌, ◌+◌, ◌^◌, ℕ, Bool, IsTrue, ◌++◌, List, [], Option, Some, None, is_some, length, Result, Ok, Err}
use Rattle.fsb_signal.specs.declared.marks.Marks.{Marks}
use Rattle.fsb_signal.specs.declared.sample.Sample.{Sample}
use Rattle.vcd_grammar.specs.Reading.{marks_so_far, samples_so_far}
use Rattle.vcd_read.specs.Standing.{Stands, refusal_of, limit_of, marks_told}
use Rattle.vcd_read.specs.Answers.{stop_so_far}
use Rattle.fsb_watch.specs.declared.pieces.Pieces.{Pieces}
use Rattle.fsb_watch.specs.declared.stop.DumpStop.{DumpStop}
use Rattle.fsb_watch.specs.declared.stop.DumpStop.TheVariants as stops
use Rattle.fsb_watch.specs.Watched.{IsSeen, IsBad, HasManySamples}

-- a watcher that was told the marks has seen the samples; until they are told there are none, and it is as it was
abbrev pub IsShown : {W : Type 0} → (W → W → Marks → List Sample → Type 0) → W → W → Option Marks → List Sample → Type 0
IsShown seen first now None h = (now ≡ first) × (h ≡ [])
IsShown seen first now (Some marks) h = seen first now marks h

-- marks that were told stay
abbrev pub MarksStay : Option Marks → Option Marks → Type 0
MarksStay before now = (m : Marks) → before ≡ Some m → now ≡ Some m

-- the samples of the last piece go on from those that were shown, and there are none before the marks
pub record CanShow {W : Type 0} (seen : W → W → Marks → List Sample → Type 0) (first now : W) (p : Pieces) (before : Option Marks) (h : List Sample) : Type 0 where
  pub shown : IsShown seen first now before h
  pub told : p.told ≡ is_some before
  pub count : p.shown ≡ length h
  pub stays : MarksStay before (marks_told p.reader)
  pub none : marks_told p.reader ≡ None → p.samples.items ≡ []
  pub few : length h + length p.samples.items ≤ 2 ^ 32 - 1

-- the samples of the last piece were shown behind those before, and the marks told
pub record HasShown {W : Type 0} (seen : W → W → Marks → List Sample → Type 0) (first now : W) (before after : Pieces) (h : List Sample) : Type 0 where
  pub shown : IsShown seen first now (marks_told before.reader) (h ++ before.samples.items)
  pub told : after.told ≡ is_some (marks_told before.reader)
  pub count : after.shown ≡ length (h ++ before.samples.items)

-- these bytes were parsed: the reader has refused what they refuse with, and without a refusal so many samples were shown as
-- they decide
pub record Parsed (p : Pieces) (fed : List ℕ) : Type 0 where
  pub reader : Stands p.reader fed
  pub limit : limit_of p.reader ≡ 2 ^ 32 - 1
  pub refused : refusal_of p.reader ≡ stop_so_far (2 ^ 32 - 1) fed
  pub told : refusal_of p.reader ≡ None → p.told ≡ is_some (marks_so_far fed)
  pub count : refusal_of p.reader ≡ None → p.shown ≡ length (samples_so_far fed)

-- these bytes were taken: they were parsed, and without a refusal the watcher has seen the samples that they decide
pub record Stood {W : Type 0} (seen : W → W → Marks → List Sample → Type 0) (first now : W) (p : Pieces) (fed : List ℕ) : Type 0 where
  pub parsed : Parsed p fed
  pub shown : refusal_of p.reader ≡ None → IsShown seen first now (marks_so_far fed) (samples_so_far fed)

-- what a whole text is seen to be, or why it is not
abbrev pub Ends : (Marks → List Sample → Type 0) → Result ℕ DumpStop → List ℕ → Type 0
Ends seen (Ok clocks) text = IsSeen seen clocks text
Ends seen (Err (stops.Bad fault)) text = IsBad text fault
Ends seen (Err stops.TooLong) text = HasManySamples text
Ends seen (Err stops.Memory) text = Unit {0}
Ends seen (Err stops.ReadFault) text = ⊥

-- one read of a source, behind whose bytes this stands
pub record HasTaken (stood : List ℕ → Type 0) (fed left_before left_now : List ℕ) (count : ℕ) (tells : Bool) : Type 0 where
  pub bytes : List ℕ
  pub size : length bytes ≡ count
  pub stands : stood (fed ++ bytes)
  pub read : IsTrue tells → left_before ≡ bytes ++ left_now

-- a stop that comes of reading, and says nothing of the text
abbrev pub IsStopOfReading : DumpStop → Type 0
IsStopOfReading stops.ReadFault = Unit {0}
IsStopOfReading stops.Memory = Unit {0}
IsStopOfReading (stops.Bad fault) = ⊥
IsStopOfReading stops.TooLong = ⊥
