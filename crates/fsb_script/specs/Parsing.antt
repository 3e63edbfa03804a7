-- Reading from left to right, where the first cause is the answer.
use Rattle.std.specs.Prelude.{◌≡◌, ℕ, Result, Ok, Err, Bool, if◌then◌else◌, IsTrue, is_ok}
use Rattle.fsb_script.specs.declared.fault.Cause.{Cause}
use Rattle.fsb_script.specs.declared.fault.LineStop.{LineStop}
use Rattle.fsb_script.specs.declared.fault.LineStop.TheVariants as stops
use Rattle.fsb_script.specs.declared.fault.ScriptFault.{ScriptFault}
use Rattle.fsb_script.specs.declared.fault.ScriptStop.{ScriptStop}
use Rattle.fsb_script.specs.declared.fault.ScriptStop.TheVariants as ends

-- a step after a step: the first failure is the answer
infixl 10 ◌>>=◌
abbrev pub ◌>>=◌ : {A B E : Type 0} → Result A E → (A → Result B E) → Result B E
(Ok x) >>= f = f x
(Err e) >>= f = Err e

-- the value, where the test holds; else this cause
abbrev pub require : {A E : Type 0} → Bool → E → A → Result A E
require test cause x = if test then Ok x else Err cause

-- what a reader answered, seen by view, is what is defined
abbrev pub ReadsAs : {X Y E : Type 0} → (X → Y) → Result X E → Result Y E → Type 0
ReadsAs view (Ok x) read = read ≡ Ok (view x)
ReadsAs view (Err e) read = read ≡ Err e

-- the same, for a line whose reading may lack memory, which comes only where the line can be taken
abbrev pub LineFails : {Y : Type 0} → LineStop → Result Y Cause → Type 0
LineFails stops.Memory read = IsTrue (is_ok read)
LineFails (stops.Bad cause) read = read ≡ Err cause

-- what a line's reading answered, seen by view, is what is defined; memory may be wanting at any line that can be taken
abbrev pub LineGives : {X Y : Type 0} → (X → Y) → Result X LineStop → Result Y Cause → Type 0
LineGives view (Ok x) read = read ≡ Ok (view x)
LineGives view (Err e) read = LineFails e read

-- why a text is not read, where the line of this number was not taken
abbrev pub stop_at : ℕ → LineStop → ScriptStop
stop_at number stops.Memory = ends.Memory
stop_at number (stops.Bad cause) = ends.Bad (record { line = number; cause = cause })

-- the same, for a whole text
abbrev pub Fails : {Y : Type 0} → ScriptStop → Result Y ScriptFault → Type 0
Fails ends.Memory read = Unit {0}
Fails (ends.Bad fault) read = read ≡ Err fault

-- what a text's reading answered, seen by view, is what is defined; want of memory may come at any time
abbrev pub Gives : {X Y : Type 0} → (X → Y) → Result X ScriptStop → Result Y ScriptFault → Type 0
Gives view (Ok x) read = read ≡ Ok (view x)
Gives view (Err e) read = Fails e read
