-- What a sample takes of the values of the lines, as numbers.
use Rattle.std.specs.Prelude.{ℕ, ◌+◌, ◌*◌, ◌%◌, Bool, ◌==◌, if◌then◌else◌, List, [], ◌∷◌, slice_get}
use Rattle.std.specs.Int.RustNames.{bit_and, bit_xor}
use Rattle.std.specs.Option.{option_map_or}
use Rattle.vcd_grammar.specs.declared.level.Level.{Level}
use Rattle.vcd_grammar.specs.Digits.{is_unknown}

-- the digit 0, which is asserted
abbrev pub is_low : ℕ → Bool
is_low b = b == 48

-- the number with a 1 for each digit that passes, behind the digits that made n
abbrev pub bits_from : (ℕ → Bool) → ℕ → List ℕ → ℕ
bits_from test n [] = n
bits_from test n (b ∷ bs) = bits_from test (2 * n + (if test b then 1 else 0)) bs

-- what the digits of a value say: 0 is asserted, x unknown, 1 and z neither
unfoldable pub level_of : List ℕ → Level
level_of digits = record { asserted = bits_from is_low 0 digits; unknown = bits_from is_unknown 0 digits }

-- what the signal of a number asserts
abbrev pub asserted_at : List Level → ℕ → ℕ
asserted_at levels number = option_map_or (λ (l : Level). l.asserted) (slice_get levels number) 0

-- what is unknown of the signal of a number
abbrev pub unknown_at : List Level → ℕ → ℕ
unknown_at levels number = option_map_or (λ (l : Level). l.unknown) (slice_get levels number) 0

-- the control lines as one number, from what each signal has
unfoldable pub control_of : (ℕ → ℕ) → ℕ
control_of bit =
    (bit 1 % 2 + 2 * (bit 2 % 2) + 4 * (bit 3 % 2) + 8 * (bit 4 % 2) + 16 * (bit 5 % 2) + 32 * (bit 6 % 2)
    + 64 * (bit 7 % 2) + 128 * (bit 8 % 2))
    + (256 * (bit 11 % 2) + 512 * (bit 12 % 2) + 1024 * (bit 13 % 2) + 2048 * (bit 14 % 2) + 4096 * (bit 15 % 8)
    + 32768 * (bit 16 % 2) + 65536 * (bit 17 % 2) + 131072 * (bit 18 % 2))
    + (262144 * (bit 20 % 4) + 1048576 * (bit 21 % 2))

-- the bits of a number that are not among others
unfoldable pub bits_without : ℕ → ℕ → ℕ
bits_without bits others = bit_xor bits (bit_and bits others)
