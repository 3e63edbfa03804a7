-- The samples whose text reads back.
use Rattle.std.specs.Prelude.{◌≡◌, ℕ, ◌<◌, ◌≤◌, ◌^◌, Bool, false, List, All, length}
use Rattle.fsb_signal.specs.declared.marks.Marks.{Marks}
use Rattle.fsb_signal.specs.declared.sample.Sample.{Sample}
use Rattle.fsb_signal.specs.DumpText.{value_of}
use Rattle.scope_write.specs.Text.{unknown_of, is_there, is_written}

-- no line that is not written is asserted or unknown
abbrev pub IsSilent : List Bool → Sample → Type 0
IsSilent there s =
    (number : ℕ) → number < 22 → is_written there number ≡ false
    → (value_of s number ≡ 0) × (unknown_of s number ≡ 0)

-- the data word has 64 lines, as that of every sample in a program
pub record Has64Lines (s : Sample) : Type 0 where
  pub bits : s.dbus.bits < 2 ^ 64
  pub unknown : s.dbus.unknown < 2 ^ 64

-- samples that are silent where nothing is written
pub record AreShown (there : List Bool) (w : List Sample) : Type 0 where
  pub silent : All (IsSilent there) w
  pub within : All Has64Lines w
  pub few : length w ≤ 10 ^ 18

-- the marks of the lines that are there
abbrev pub marks_there : List Bool → Marks
marks_there there = record { ap = is_there there 20; rp = is_there there 21 }
