-- What each line of a bench file says, behind its first word.
use Rattle.std.specs.Prelude.{ℕ, ◌+◌, ◌*◌, ◌%◌, ◌^◌, List, [], ◌∷◌, ◌++◌, length, drop, slice_index, Result, Ok, Err, Bool, ◌&&◌, nat_lt, nat_le, ◌==◌, if◌then◌else◌, codes}
use Rattle.std.specs.Str.{bytes_eq}
use Rattle.fsb_access.specs.declared.access.Access.{Access}
use Rattle.fsb_access.specs.declared.access.Access.TheVariants.{Load, Store}
use Rattle.fsb_access.specs.declared.access.Operand.{Operand}
use Rattle.fsb_access.specs.declared.access.Operand.TheVariants.{Literal, LastPlus}
use Rattle.fsb_access.specs.declared.access.Setting.{Setting}
use Rattle.fsb_access.specs.Access.{is_size, fits}
use Rattle.fsb_hazard.specs.declared.line.HazardLine.{HazardLine}
use Rattle.fsb_hazard.specs.declared.line.HazardLine.TheVariants.{Stall, Trdy, Resp, Gap, Retry, Defer, Aerr, Bnr}
use Rattle.fsb_script.specs.declared.fault.Cause.{Cause}
use Rattle.fsb_script.specs.declared.fault.Cause.TheVariants.{Word, Number, Range, Align, Outside}
use Rattle.fsb_script.specs.declared.plan.Window.{Window}
use Rattle.fsb_script.specs.Parsing.{◌>>=◌, require}
use Rattle.fsb_script.specs.TextWords.{next_word, line_ended, decimal_word, hex_word, decimal_within, address, hex_digit, hex_of}

-- what follows a first word that has to be this one
unfoldable pub keyword : List ℕ → List ℕ → Result (List ℕ) Cause
keyword name line = do
  w ← next_word line
  require (bytes_eq w.0 name) Word w.1

-- the next word as the size of an access
unfoldable pub size_at : List ℕ → Result (ℕ × List ℕ) Cause
size_at line = do
  n ← decimal_word line
  require (is_size n.0) Range n

-- an address that is a multiple of the access's size
unfoldable pub aligned_at : ℕ → List ℕ → Result (ℕ × List ℕ) Cause
aligned_at size line = do
  a ← address line
  require (a.0 % size == 0) Align a

-- `SIZE ADDRESS` of a load
unfoldable pub load_of : List ℕ → Result Access Cause
load_of line = do
  size ← size_at line
  a ← aligned_at size.0 size.1
  line_ended (Load size.0 a.0) a.1

-- whether a value adds to the last loaded value: it begins with `r+`
abbrev pub is_added : List ℕ → Bool
is_added word = nat_le 2 (length word) && ((slice_index word 0 == 114) && (slice_index word 1 == 43))

-- a literal or an added number, below what the size holds
unfoldable pub literal_of : ℕ → List ℕ → Result ℕ Cause
literal_of size word = do
  n ← hex_of word
  require (fits size n) Range n

-- a word as the value of a store: a literal, or `r+` and what is added
unfoldable pub operand_of : ℕ → List ℕ → Result Operand Cause
operand_of size word =
    if is_added word then literal_of size (drop 2 word) >>= (λ n. Ok (LastPlus n))
    else literal_of size word >>= (λ n. Ok (Literal n))

-- `SIZE ADDRESS VALUE` of a store
unfoldable pub store_of : List ℕ → Result Access Cause
store_of line = do
  size ← size_at line
  a ← aligned_at size.0 size.1
  w ← next_word a.1
  value ← operand_of size.0 w.0
  line_ended (Store size.0 a.0 value) w.1

-- the clocks of an idle item
unfoldable pub idle_of : List ℕ → Result ℕ Cause
idle_of line = do
  n ← decimal_within 1 200000 line
  line_ended n.0 n.1

-- the number of a profile
unfoldable pub profile_of : List ℕ → Result ℕ Cause
profile_of line = do
  n ← decimal_within 1 2 line
  line_ended n.0 n.1

-- `BASE SIZE` of the bridge
unfoldable pub window_of : List ℕ → Result Window Cause
window_of line = do
  base ← address line
  from ← require (base.0 % 32 == 0) Align base
  size ← hex_word from.1
  inside ← require (nat_le size.0 (2 ^ 36)) Outside size
  whole ← require (nat_lt 0 inside.0 && (inside.0 % 32 == 0)) Align inside
  last ← require (nat_le (from.0 + whole.0) (2 ^ 36)) Outside whole
  line_ended (record { base = from.0; size = last.0 }) last.1

-- two hexadecimal digits a byte, the first byte first
abbrev pub bytes_from : List ℕ → List ℕ → Result (List ℕ) Cause
bytes_from so_far [] = Ok so_far
bytes_from so_far (high ∷ []) = Err Number
bytes_from so_far (high ∷ low ∷ digits) = hex_digit high >>= (λ h. hex_digit low >>= (λ l. bytes_from (so_far ++ (h * 16 + l) ∷ []) digits))

-- 2 to 128 hexadecimal digits, an even count
unfoldable pub bytes_of : List ℕ → Result (List ℕ) Cause
bytes_of word = if nat_le 2 (length word) && (nat_le (length word) 128 && (length word % 2 == 0)) then bytes_from [] word else Err Number

-- `ADDRESS BYTES` of memory
unfoldable pub memory_of : List ℕ → Result (ℕ × List ℕ) Cause
memory_of line = do
  a ← address line
  w ← next_word a.1
  bytes ← bytes_of w.0
  inside ← require (nat_le (a.0 + length bytes) (2 ^ 36)) Outside bytes
  line_ended (a.0, inside) w.1

-- bytes from an address on, one setting each
abbrev pub settings_at : ℕ → List ℕ → List Setting
settings_at addr [] = []
settings_at addr (b ∷ bs) = record { addr = addr; byte = b } ∷ settings_at (addr + 1) bs

-- the number of an agent, which has to be the next one
unfoldable pub agent_of : ℕ → List ℕ → Result ℕ Cause
agent_of next line = do
  n ← decimal_word line
  m ← require (n.0 == next) Word n
  line_ended m.0 m.1

-- the clocks that a hazard adds, or its number of stalls
unfoldable pub count_of : List ℕ → Result ℕ Cause
count_of line = do
  n ← decimal_within 1 255 line
  line_ended n.0 n.1

-- how many clocks later a deferred request is answered
unfoldable pub delay_of : List ℕ → Result ℕ Cause
delay_of line = do
  n ← decimal_within 0 65535 line
  line_ended n.0 n.1

-- the hazard of a word, for request k
unfoldable pub turn_of : ℕ → List ℕ → List ℕ → Result HazardLine Cause
turn_of k word line =
    if bytes_eq word (codes "stall") then count_of line >>= (λ n. Ok (Stall k n))
    else (if bytes_eq word (codes "trdy") then count_of line >>= (λ n. Ok (Trdy k n))
    else (if bytes_eq word (codes "resp") then count_of line >>= (λ n. Ok (Resp k n))
    else (if bytes_eq word (codes "data") then count_of line >>= (λ n. Ok (Gap k n))
    else (if bytes_eq word (codes "retry") then line_ended (Retry k) line
    else (if bytes_eq word (codes "defer") then delay_of line >>= (λ n. Ok (Defer k n))
    else (if bytes_eq word (codes "aerr") then line_ended (Aerr k) line
    else Err Word))))))

-- `REQUEST HAZARD ..` of a transaction
unfoldable pub transaction_of : List ℕ → Result HazardLine Cause
transaction_of line = do
  k ← decimal_within 0 199999 line
  w ← next_word k.1
  turn_of k.0 w.0 w.1

-- `FROM TO`, the clocks in which new requests are held back
unfoldable pub block_of : List ℕ → Result HazardLine Cause
block_of line = do
  from ← decimal_within 0 199999 line
  to ← decimal_within 0 199999 from.1
  last ← require (nat_le from.0 to.0) Range to
  line_ended (Bnr from.0 last.0) last.1
