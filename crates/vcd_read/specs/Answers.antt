-- What reading answers, and what it appends.
use Rattle.std.specs.Prelude.{◌≡◌, ℕ, nat_lt, Bool, true, false, not, ◌&&◌, ◌||◌, ◌==◌, List, ◌++◌, length, take, Option, Some, None, Result, Ok, Err, if◌then◌else◌}
use Rattle.fsb_signal.specs.declared.marks.Marks.{Marks}
use Rattle.fsb_signal.specs.declared.sample.Sample.{Sample}
use Rattle.vcd_grammar.specs.declared.fault.VcdFault.{VcdFault}
use Rattle.vcd_grammar.specs.Reading.{first_fault, samples_of, samples_before_end, fault_so_far, samples_so_far}
use Rattle.vcd_read.specs.declared.stop.VcdStop.{VcdStop}
use Rattle.vcd_read.specs.declared.stop.VcdStop.TheVariants as stops

-- a fault refuses; without one there is this answer
abbrev pub fault_or : Option VcdFault → Option VcdStop → Option VcdStop
fault_or None stop = stop
fault_or (Some fault) stop = Some (stops.Bad fault)

-- more samples than the limit refuse; otherwise there is this answer
abbrev pub long_or : ℕ → List Sample → Option VcdStop → Option VcdStop
long_or limit samples stop = if nat_lt limit (length samples) then Some stops.TooLong else stop

-- what the first bytes of a text refuse with, if they do: more samples than the limit are decided before any fault, or
-- the tokens that count show a fault
unfoldable pub stop_so_far : ℕ → List ℕ → Option VcdStop
stop_so_far limit fed = long_or limit (samples_so_far fed) (fault_or (fault_so_far fed) None)

-- what a whole text refuses with in a reader: more samples than the limit are decided before any fault; its first fault;
-- or one more sample than the limit at its end
unfoldable pub stop_at_end : ℕ → List ℕ → Option VcdStop
stop_at_end limit text =
    long_or limit (samples_before_end text) (fault_or (first_fault text) (long_or limit (samples_of text) None))

-- what a whole text refuses with that is read at once: its first fault, or more samples than the limit
unfoldable pub stop_of_dump : ℕ → List ℕ → Option VcdStop
stop_of_dump limit text = fault_or (first_fault text) (long_or limit (samples_of text) None)

-- what was answered is this refusal, or Ok where there is none; want of memory may come at any time
abbrev pub Answers : {X : Type 0} → Result X VcdStop → Option VcdStop → Type 0
Answers (Ok x) stop = stop ≡ None
Answers (Err stops.Memory) stop = Unit {0}
Answers (Err e) stop = stop ≡ Some e

-- the refusal that was answered, if one was
abbrev pub refusal_in : {X : Type 0} → Result X VcdStop → Option VcdStop
refusal_in (Ok x) = None
refusal_in (Err e) = Some e

-- what was appended goes on from the samples `before` to all of `after`
pub record AppendsUpTo (before after old new : List Sample) : Type 0 where
  pub added : List Sample
  pub appended : new ≡ old ++ added
  pub complete : before ++ added ≡ after

-- what was appended goes on from the samples `before` to a first part of `after`
pub record AppendsSome (before after old new : List Sample) : Type 0 where
  pub added : List Sample
  pub rest : List Sample
  pub appended : new ≡ old ++ added
  pub partial : (before ++ added) ++ rest ≡ after

-- what a piece appended: the samples that it decides, at most up to the limit; for want of memory a first part of them
abbrev pub AppendsBy : Result Unit VcdStop → List Sample → List Sample → List Sample → List Sample → Type 0
AppendsBy (Err stops.Memory) before after old new = AppendsSome before after old new
AppendsBy _ before after old new = AppendsUpTo before after old new

-- what the end of a text appended: all samples, where it is Ok; those that a greater time has decided, at most up to the
-- limit, where it refuses; for want of memory a first part of all up to the limit
abbrev pub AppendsAtEnd : Result Unit VcdStop → ℕ → List Sample → List Sample → List Sample → List Sample → List Sample → Type 0
AppendsAtEnd (Ok x) limit before decided all old new = AppendsUpTo before all old new
AppendsAtEnd (Err stops.Memory) limit before decided all old new = AppendsSome before (take limit all) old new
AppendsAtEnd (Err e) limit before decided all old new = AppendsUpTo before (take limit decided) old new

-- memory was wanting
abbrev pub is_memory : VcdStop → Bool
is_memory stops.Memory = true
is_memory (stops.Bad fault) = false
is_memory stops.TooLong = false

-- the marks go on behind a piece, and stay once memory was wanting
abbrev pub still_followed : Option VcdStop → Bool → Result Unit VcdStop → Bool
still_followed (Some stop) followed answer = followed
still_followed None followed (Ok x) = true
still_followed None followed (Err stop) = not (is_memory stop)

-- what is told of the marks behind a piece: those of all that was fed; for want of memory those that were told before it
abbrev pub TellsMarks : Result Unit VcdStop → Option Marks → Option Marks → Option Marks → Type 0
TellsMarks (Err stops.Memory) fed old new = new ≡ old
TellsMarks _ fed old new = new ≡ fed

-- the answer that gives a refusal, or Ok where there is none
abbrev pub result_of : Option VcdStop → Result Unit VcdStop
result_of None = Ok tt
result_of (Some stop) = Err stop

-- what a whole text refuses with in a reader, by the count of samples that were decided, the first fault, and whether the end
-- decides one more
unfoldable pub end_stop : ℕ → ℕ → Option VcdFault → Bool → Option VcdStop
end_stop limit decided fault more =
    if nat_lt limit decided then Some stops.TooLong
    else fault_or fault (if more && (decided == limit) then Some stops.TooLong else None)

-- the same, where a fault comes before too many samples
unfoldable pub dump_stop : ℕ → ℕ → Option VcdFault → Bool → Option VcdStop
dump_stop limit decided fault more =
    fault_or fault (if nat_lt limit decided || (more && (decided == limit)) then Some stops.TooLong else None)
