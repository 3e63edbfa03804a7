-- The traces whose dumps read back.
use Rattle.std.specs.Prelude.{◌≡◌, ℕ, ◌<◌, ◌≤◌, ◌^◌, ◌⊎◌, List, All, IsTrue, length}
use Rattle.std.specs.List.{list_all}
use Rattle.fsb_signal.specs.declared.sample.Sample.{Sample}
use Rattle.fsb_signal.specs.Samples.{is_known_trace}
use Rattle.fsb_signal.specs.Parity.{has_no_parity}

-- in profile 1 or 2, at most 200,000 samples, of which no bit is unknown and which assert no parity line in profile 1; their
-- data words have 64 lines, as those of every sample in a program
pub record IsWritten (p : ℕ) (w : List Sample) : Type 0 where
  pub profile : (p ≡ 1) ⊎ (p ≡ 2)
  pub known : IsTrue (is_known_trace w)
  pub parity : p ≡ 1 → IsTrue (list_all has_no_parity w)
  pub within : All (λ s. s.dbus.bits < 2 ^ 64) w
  pub few : length w ≤ 200000
