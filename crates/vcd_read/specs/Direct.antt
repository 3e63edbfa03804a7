-- Tokens that are taken at once.
use Rattle.std.specs.Prelude.{◌≡◌, ◌<◌, ◌≤◌, ◌+◌, ◌^◌, ℕ, true, false, None, Some, List, [], ◌∷◌, ◌++◌, length, take, slice_index}
use Rattle.std.specs.List.{list_all}
use Rattle.vcd_grammar.specs.Tokens.{is_white}
use Rattle.vcd_grammar.specs.Digits.{is_digit, number_from, is_value_digit}
use Rattle.vcd_grammar.specs.Codes.{Code, lines_of}
use Rattle.vcd_grammar.specs.Words.{value_word, Stamp}
use Rattle.vcd_grammar.specs.Judging.{Values}
use Rattle.fsb_signal.specs.DumpText.{width_of}
use Rattle.vcd_grammar.specs.Digits.{extended}
use Rattle.vcd_grammar.specs.Levels.{level_of}
use Rattle.vcd_read.specs.Lanes.{is_binary}
use Rattle.vcd_read.specs.declared.direct.DirectScalar.{DirectScalar}
use Rattle.vcd_read.specs.declared.direct.DirectVector.{DirectVector}
use Rattle.vcd_read.specs.Scanning.{Reading, is_dark}

-- no token is begun, and the next one stands between values, with no fault before it
pub record AwaitsToken (r : Reading) : Type 0 where
  pub empty : length r.run ≡ 0
  pub sound : r.taken.known.fault ≡ None
  pub values : r.taken.known.mode ≡ Values

-- the text begins with so many decimal digits, 15 at most, which are this number, and goes on
pub record BeginsWithNumber (text : List ℕ) (len number : ℕ) : Type 0 where
  pub within : len < length text
  pub few : len ≤ 15
  pub digits : list_all is_digit (take len text) ≡ true
  pub value : number_from 0 (take len text) ≡ number
  pub fits : number < 2 ^ 64

-- the bytes begin with a digit, the code of one line alone, which is one byte, and white space
pub record BeginsWithScalar (codes : List Code) (bytes : List ℕ) (s : DirectScalar) : Type 0 where
  pub white : ℕ
  pub begins : take 3 bytes ≡ s.digit ∷ s.code ∷ white ∷ []
  pub enough : 3 ≤ length bytes
  pub digit : is_value_digit s.digit ≡ true
  pub code : is_white s.code ≡ false
  pub behind : is_white white ≡ true
  pub line : lines_of codes (s.code ∷ []) ≡ Some (s.number ∷ [])

-- the bytes begin with a stamp of this time, which has so many bytes, and white space
pub record BeginsWithStamp (bytes : List ℕ) (len time : ℕ) : Type 0 where
  pub within : len < length bytes
  pub some : 0 < len
  pub short : len ≤ 16
  pub dark : list_all is_dark (take len bytes) ≡ true
  pub white : is_white (slice_index bytes len) ≡ true
  pub says : value_word (take len bytes) ≡ Stamp time

-- the bytes begin with a vector of digits 0 and 1, which says this level of one line alone, not the clock's, whose code
-- is one byte; white space stands behind either
pub record BeginsWithVector (codes : List Code) (bytes : List ℕ) (v : DirectVector) : Type 0 where
  pub digits : List ℕ
  pub white : ℕ
  pub last : ℕ
  pub begins : take (v.count + 4) bytes ≡ (98 ∷ digits ++ white ∷ []) ++ v.code ∷ last ∷ []
  pub enough : v.count + 4 ≤ length bytes
  pub long : length digits ≡ v.count
  pub some : 0 < v.count
  pub few : v.count ≤ 64
  pub binary : list_all is_binary digits ≡ true
  pub code : is_white v.code ≡ false
  pub between : is_white white ≡ true
  pub behind : is_white last ≡ true
  pub line : lines_of codes (v.code ∷ []) ≡ Some (v.number ∷ [])
  pub other : 0 < v.number
  pub known : v.number < 22
  pub fits : v.count ≤ width_of v.number
  pub level : v.level ≡ level_of (extended (width_of v.number) digits)
