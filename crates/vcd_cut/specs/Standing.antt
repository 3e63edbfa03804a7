-- What a cutter stands for.
use Rattle.std.specs.Prelude.{◌≡◌, ◌<◌, ◌≤◌, ℕ, true, count_by, List, ◌++◌, length, take, slice_index}
use Rattle.std.specs.List.{list_all}
use Rattle.vcd_grammar.specs.Tokens.{is_white, longest, open_run}
use Rattle.vcd_way.specs.Pieces.{line_number}
use Rattle.vcd_cut.specs.declared.cutter.Cutter.{Cutter}
use Rattle.vcd_cut.specs.Cutting.{is_break, is_dark}

-- the cutter has read these bytes, the first ones of a text
pub record Stands (c : Cutter) (fed : List ℕ) : Type 0 where
  pub at : c.at ≡ length fed
  pub breaks : c.breaks ≡ count_by is_break fed
  pub run : c.run.bytes.items ≡ open_run fed

-- the line is that of the byte at this place in a text that begins so, however it goes on
abbrev pub IsOnLine : List ℕ → ℕ → ℕ → Type 0
IsOnLine text place line = (more : List ℕ) → line ≡ line_number (text ++ more) place

-- no run stands open
pub record IsIdle (c : Cutter) : Type 0 where
  pub none : length c.run.bytes.items ≡ 0

-- the bytes begin with a word of this length that is not too long, and white space stands behind it
pub record BeginsWithWord (bytes : List ℕ) (len : ℕ) : Type 0 where
  pub some : 0 < len
  pub short : len ≤ longest
  pub within : len < length bytes
  pub dark : list_all is_dark (take len bytes) ≡ true
  pub white : is_white (slice_index bytes len) ≡ true
