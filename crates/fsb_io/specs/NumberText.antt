-- Numbers as text. Decimals are std's `decimal`.
use Rattle.std.specs.Prelude.{ℕ, List, false}
use Rattle.std.specs.Fmt.{digits}

-- the shortest hexadecimal text of a number, in lower case: no leading zeros, and `0` for 0
abbrev pub hexadecimal : ℕ → List ℕ
hexadecimal n = digits 16 false n
