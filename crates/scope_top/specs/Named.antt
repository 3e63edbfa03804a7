-- What a file of `--lines` says.
use Rattle.std.specs.Prelude.{ℕ, ◌+◌, ◌-◌, Bool, true, nat_eq, if◌then◌else◌, List, [], ◌∷◌, ◌++◌, length, take, drop, Option, Some, None}
use Rattle.std.specs.Option.{option_map}
use Rattle.std.specs.Char.{is_ascii_whitespace}
use Rattle.std.specs.List.{prefix_len, suffix_len}
use Rattle.scope_wiring.specs.Texts.{Said, said}
use Rattle.scope_top.specs.declared.named.LineFault.{LineFault}

-- the lines of a text, of which the first has begun with these bytes: each but the last ends with a line feed
abbrev pub lines_behind : List ℕ → List ℕ → List (List ℕ)
lines_behind open_line [] = open_line ∷ []
lines_behind open_line (b ∷ text) =
    if nat_eq b 10 then open_line ∷ lines_behind [] text else lines_behind (open_line ++ b ∷ []) text

-- the text without white space before it
abbrev pub begun_black : List ℕ → List ℕ
begun_black text = drop (prefix_len is_ascii_whitespace text) text

-- the text without white space before and behind it
abbrev pub trimmed : List ℕ → List ℕ
trimmed text = let t = begun_black text in take (length t - suffix_len is_ascii_whitespace t) t

-- the word says nothing: it is empty or begins with `#`
abbrev pub is_note : List ℕ → Bool
is_note [] = true
is_note (b ∷ word) = nat_eq b 35

-- what a word says, if it can be read: nothing where it is a note, and else what stands behind `--line`
unfoldable pub said_in_word : List ℕ → Option (List Said)
said_in_word word = if is_note word then Some [] else option_map (λ s. s ∷ []) (said word)

-- what a line says, if it can be read
unfoldable pub said_in_line : List ℕ → Option (List Said)
said_in_line line = said_in_word (trimmed line)

-- what was read of lines: all that they say, or what those say before the first that cannot be read, and its number
pub record Read : Type 0 where
  pub options : List Said
  pub unread : Option ℕ

-- the same, where this is said before it
unfoldable pub said_before : List Said → Read → Read
said_before more r = record { options = more ++ r.options; unread = r.unread }

-- a line is read if it says something, and then the others are
abbrev pub read_on : Option (List Said) → ℕ → Read → Read
read_on None number others = record { options = []; unread = Some number }
read_on (Some options) number others = said_before options others

-- what is read of lines, of which the first has this number
abbrev pub read_lines : ℕ → List (List ℕ) → Read
read_lines number [] = record { options = []; unread = None }
read_lines number (line ∷ lines) = read_on (said_in_line line) number (read_lines (number + 1) lines)

-- what is read of a text, behind these bytes of a line with this number
unfoldable pub read_behind : ℕ → List ℕ → List ℕ → Read
read_behind number open_line text = read_lines number (lines_behind open_line text)

-- what is read of a text
unfoldable pub read_of : List ℕ → Read
read_of text = read_behind 1 [] text

-- the number of a faulty line
abbrev pub number_of : LineFault → ℕ
number_of fault = fault.number
