-- Texts of a dump in a report.
use Rattle.std.specs.Prelude.{◌≡◌, ℕ, List}
use Rattle.std.specs.Str.{IsUtf8}
use Rattle.serde_json.specs.Data.{Data, string}

-- a text; that of these bytes, where they are UTF-8
pub record IsTextOf (bytes : List ℕ) (d : Data) : Type 0 where
  pub text : List ℕ
  pub is : d ≡ string text
  pub same : IsUtf8 bytes → text ≡ bytes
