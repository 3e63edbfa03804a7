-- What one read, one write and one storing of the adapters over real files do.
use Rattle.std.specs.Prelude.{◌≡◌, ℕ, List, Option, None, Some, Result, IsErr}
use Rattle.std.specs.Io.KnownBytes.{ReadConsumes, WriteAppends}
use Rattle.fsb_io.specs.declared.place.Destination.{Destination}
use Rattle.fsb_io.specs.declared.place.Destination.TheVariants.{Nowhere, Output, File}

-- a read consumed of the file that was begun what it gave, and nothing where it failed; where none was begun, it failed
abbrev pub ReadsFrom : {F E : Type 0} → (F → Option (List ℕ)) → Option F → Option F → Result ℕ E → List ℕ → Type 0
ReadsFrom remaining None new result buf = IsErr result × (new ≡ None)
ReadsFrom remaining (Some old) new result buf = (file : _) × (new ≡ Some file)
    × ReadConsumes (remaining old) (remaining file) result buf

-- a write appended what it took where the dump goes, and nowhere else, and nothing where it failed; where the dump was not
-- begun, it failed
abbrev pub WritesTo : {O F E : Type 0} → (O → Option (List ℕ)) → (F → Option (List ℕ)) → O → O → Destination F → Destination F
    → Result ℕ E → List ℕ → Type 0
WritesTo shows holds output now Nowhere new result piece = IsErr result × (now ≡ output) × (new ≡ Nowhere)
WritesTo shows holds output now Output new result piece = WriteAppends (shows output) (shows now) result piece × (new ≡ Output)
WritesTo shows holds output now (File old) new result piece = (now ≡ output) × ((file : _) × (new ≡ File file)
    × WriteAppends (holds old) (holds file) result piece)

-- a file was opened for the dump
abbrev pub IsFileOpen : {F : Type 0} → Destination F → Type 0
IsFileOpen Nowhere = ⊥
IsFileOpen Output = ⊥
IsFileOpen (File file) = Unit {0}
