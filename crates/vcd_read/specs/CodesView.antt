-- The declared codes, as the reader's map has them.
use Rattle.std.specs.Prelude.{◌≡◌, ℕ, ◌≤◌, ◌<◌, ◌+◌, ◌*◌, ◌/◌, ◌%◌, ◌^◌, Bool, true, false, nat_le, nat_lt, List, [], ◌∷◌, ◌++◌, Option, Some, None, unwrap_or, slice_get, slice_set, slice_index, map, length, ◌==◌, if◌then◌else◌, Vec, suc, zero}
use Rattle.std.specs.List.{list_all}
use Rattle.std.specs.Option.{option_map_or}
use Rattle.std.specs.Map.{lookup}
use Rattle.std.specs.BTreeMap.{is_at}
use Rattle.std.specs.Ordering.{nat_cmp}
use Rattle.std.specs.Cmp.Lexicographic.{slice_cmp}
use Rattle.vcd_grammar.specs.Codes.{Code, lines_of}

-- a code as a number: its first byte is the lowest, and a 1 stands behind its last
abbrev pub packed : List ℕ → ℕ
packed [] = 1
packed (b ∷ bs) = b + 256 * packed bs

-- the bytes of such a number, of which there are so many at most
abbrev pub unpacked : ℕ → ℕ → List ℕ
unpacked zero key = []
unpacked (suc n) key = if key == 1 then [] else (key % 256) ∷ unpacked n (key / 256)

-- the key of a long code
abbrev pub key_at : {A : Type 0} → List (Vec ℕ A × ℕ) → List ℕ → Option ℕ
key_at long code = lookup (is_at (λ v. slice_cmp nat_cmp code v.items)) long

-- the long code that has a key
abbrev pub word_at : {A : Type 0} → List (Vec ℕ A × ℕ) → ℕ → Option (List ℕ)
word_at [] key = None
word_at (e ∷ es) key = if e.1 == key then Some e.0.items else word_at es key

-- the key of a code in a map: the number of a code of seven bytes at most, and the one that another has among the long ones
abbrev pub key_of : {A : Type 0} → List (Vec ℕ A × ℕ) → List ℕ → Option ℕ
key_of long code = if nat_le (length code) 7 then Some (packed code) else key_at long code

-- the code that a key stands for
abbrev pub coded_by : {A : Type 0} → List (Vec ℕ A × ℕ) → ℕ → List ℕ
coded_by long key = if nat_lt key (2 ^ 63) then unpacked 7 key else unwrap_or (word_at long key) []

-- a number is the key of the code that it stands for
abbrev pub is_key : {A : Type 0} → List (Vec ℕ A × ℕ) → ℕ → Bool
is_key long key = option_map_or (λ k. k == key) (key_of long (coded_by long key)) false

-- the codes of a map's entries, by what says which lines stand for a value
abbrev pub codes_of : {A V : Type 0} → List (Vec ℕ A × ℕ) → (V → List ℕ) → List (ℕ × V) → List Code
codes_of long lines entries = map (λ e. record { code = coded_by long e.0; lines = lines e.1 }) entries

-- the lines at a place among the groups: there are none at 0, and those of the first group at 1
abbrev pub lines_at : {A : Type 0} → List (Vec ℕ A) → ℕ → List ℕ
lines_at groups zero = []
lines_at groups (suc place) = option_map_or (λ v. v.items) (slice_get groups place) []

-- groups stay where they are
pub record KeepsGroups {A : Type 0} (old new : List (Vec ℕ A)) : Type 0 where
  pub added : List (Vec ℕ A)
  pub appended : new ≡ old ++ added

-- each key of a map is one
abbrev pub are_keys : {A V : Type 0} → List (Vec ℕ A × ℕ) → List (ℕ × V) → Bool
are_keys long entries = list_all (λ e. is_key long e.0) entries

-- a table of the codes of one byte tells a line only where the code has that line alone
pub record Agree (single : List (Option ℕ)) (codes : List Code) : Type 0 where
  pub tells : (byte number : ℕ) → slice_get single byte ≡ Some (Some number) → lines_of codes (byte ∷ []) ≡ Some (number ∷ [])

-- each long code has a key of its own, and these are 2^63 and what follows
pub record LongKept {A : Type 0} (long : List (Vec ℕ A × ℕ)) : Type 0 where
  pub told : (code : List ℕ) (key : ℕ) → key_at long code ≡ Some key → word_at long key ≡ Some code
  pub within : (key : ℕ) (word : List ℕ) → word_at long key ≡ Some word → (2 ^ 63 ≤ key) × (key < 2 ^ 63 + length long)

-- each value of a map is the place of a group, or 0
abbrev pub are_places : {A : Type 0} → List (Vec ℕ A) → List (ℕ × ℕ) → Bool
are_places groups entries = list_all (λ e. nat_le e.1 (length groups)) entries

-- what the tables of the declared codes keep: the one of the codes of one byte tells what is so, each key is one, and
-- each value is a place
pub record CodesKept {A : Type 0} (single : List (Option ℕ)) (long : List (Vec ℕ A × ℕ)) (groups : List (Vec ℕ A))
    (entries : List (ℕ × ℕ)) : Type 0 where
  pub agree : Agree single (codes_of long (lines_at groups) entries)
  pub keys : are_keys long entries ≡ true
  pub apart : LongKept long
  pub places : are_places groups entries ≡ true

-- long codes keep their keys
pub record KeepsLong {A : Type 0} (old new : List (Vec ℕ A × ℕ)) : Type 0 where
  pub keys : (code : List ℕ) (key : ℕ) → key_at old code ≡ Some key → key_at new code ≡ Some key
  pub words : (key : ℕ) (word : List ℕ) → word_at old key ≡ Some word → word_at new key ≡ Some word

-- the lines, and none where the code was not declared
abbrev pub lines_or_none : Option (List ℕ) → List ℕ
lines_or_none None = []
lines_or_none (Some lines) = lines

-- the line, where there is exactly one
abbrev pub only_of : List ℕ → Option ℕ
only_of (number ∷ []) = Some number
only_of _ = None

-- the table of the codes of one byte, where such a code has got this line
abbrev pub with_single : List (Option ℕ) → List ℕ → Option ℕ → List (Option ℕ)
with_single single code only = if length code == 1 then slice_set single (slice_index code 0) only else single
