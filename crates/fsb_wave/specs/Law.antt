-- Two traces whose waves are the same text.
use Rattle.std.specs.Prelude.{◌≡◌, ◌<◌, ◌≤◌, ◌^◌, ℕ, Bool, false, List, Some, IsTrue, length, slice_get}
use Rattle.std.specs.Option.{option_map_or}
use Rattle.fsb_signal.specs.declared.lines.Lines.{Lines}
use Rattle.fsb_signal.specs.declared.sample.Sample.{Sample}
use Rattle.fsb_signal.specs.declared.sample.Word.{Word}
use Rattle.fsb_signal.specs.Samples.{has_unknown, is_known_word}
use Rattle.fsb_wave.specs.WaveText.{wave_text}

-- the line is unknown at clock c; past the end nothing is
unfoldable pub is_unknown_at : Lines → List Sample → ℕ → Bool
is_unknown_at line w c = option_map_or (λ s. has_unknown s line) (slice_get w c) false

-- the waves of two traces over one range are the same text
pub record EqualWaves (v w : List Sample) (from to : ℕ) : Type 0 where
  pub short_v : length v < 2 ^ 64
  pub short_w : length w < 2 ^ 64
  pub same : wave_text v from to ≡ wave_text w from to

-- at clock c of the range these are the samples of the two
pub record EqualWavesAt (v w : List Sample) (from to c : ℕ) (s t : Sample) : Type 0 where
  pub waves : EqualWaves v w from to
  pub low : from ≤ c
  pub high : c ≤ to
  pub first : slice_get v c ≡ Some s
  pub second : slice_get w c ≡ Some t

-- both words are known and the same, or neither is known
pub record AreShownAlike (a b : Word) : Type 0 where
  pub known : is_known_word a ≡ is_known_word b
  pub bits : IsTrue (is_known_word a) → a.bits ≡ b.bits
