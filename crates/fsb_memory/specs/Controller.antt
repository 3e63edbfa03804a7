-- Memory by lines, as a contract sees it.
use Rattle.std.specs.Prelude.{ℕ, ◌*◌, ◌/◌, ◌%◌, Bool, ◌||◌, ◌==◌, if◌then◌else◌, List, [], ◌∷◌, unwrap_or, is_some, replicate, slice_set}
use Rattle.std.specs.List.{list_any, fold, prefix_len}
use Rattle.std.specs.Map.{lookup}
use Rattle.fsb_access.specs.ByteMemory.{bytes_at, start_memory}
use Rattle.fsb_access.specs.declared.access.Setting.{Setting}

-- a map of lines: each line that was named, with its bytes
abbrev pub LineMap : Type 0
LineMap = List (ℕ × List ℕ)

-- whether the map has the line
abbrev pub is_mapped : LineMap → ℕ → Bool
is_mapped lines line = is_some (lookup (λ other. line == other) lines)

-- the 32 bytes of a line: zeros where the map does not have it
abbrev pub line_in : LineMap → ℕ → List ℕ
line_in lines line = unwrap_or (lookup (λ other. line == other) lines) (replicate 32 0)

-- the bytes of a line that the settings make: later settings win, and all other bytes are 0
abbrev pub start_bytes : List Setting → ℕ → List ℕ
start_bytes settings line = bytes_at (start_memory settings) (line * 32) 32

-- whether the setting is of a byte of the line
abbrev pub is_in_line : ℕ → Setting → Bool
is_in_line line setting = setting.addr / 32 == line

-- whether the line is named, by a setting of one of its bytes or in the list
abbrev pub is_line_named : List Setting → List ℕ → ℕ → Bool
is_line_named settings lines line = list_any (is_in_line line) settings || list_any (λ other. other == line) lines

-- the line of the first setting
abbrev pub first_line : List Setting → ℕ
first_line [] = 0
first_line (setting ∷ settings) = setting.addr / 32

-- how many settings, from the first one on, are of one line
abbrev pub count_in_first_line : List Setting → ℕ
count_in_first_line settings = prefix_len (is_in_line (first_line settings)) settings

-- the bytes of a line after a setting, which counts where it is in the line
abbrev pub set_byte : ℕ → List ℕ → Setting → List ℕ
set_byte line bytes setting = if is_in_line line setting then slice_set bytes (setting.addr % 32) setting.byte else bytes

-- the bytes of a line after settings, one after the other
abbrev pub set_bytes : ℕ → List ℕ → List Setting → List ℕ
set_bytes line bytes settings = fold (set_byte line) bytes settings
