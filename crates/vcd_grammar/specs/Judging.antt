-- Each token, judged in the place where it stands: it is read past, is a fault, declares, changes lines, or ends a block.
use Rattle.std.specs.Prelude.{ℕ, ◌+◌, Bool, true, false, not, ◌&&◌, ◌||◌, ◌==◌, nat_lt, if◌then◌else◌, List, [], ◌∷◌, ◌++◌, length, Option, Some, None, is_some}
use Rattle.std.specs.List.{list_any}
use Rattle.fsb_signal.specs.Table.{TableEntry, table, signal_number}
use Rattle.fsb_signal.specs.DumpText.{width_of}
use Rattle.fsb_signal.specs.declared.marks.Marks.{Marks}
use Rattle.vcd_grammar.specs.declared.fault.VcdFault.{VcdFault}
use Rattle.vcd_grammar.specs.declared.fault.VcdCause.{VcdCause}
use Rattle.vcd_grammar.specs.declared.fault.VcdCause.TheVariants as causes
use Rattle.vcd_grammar.specs.Tokens.{Token, is_long}
use Rattle.vcd_grammar.specs.Digits.{width_in}
use Rattle.vcd_grammar.specs.Words.{HeaderWord, Declares, Finishes, Ends, Opens, Bare, header_word, ValueWord, Stamp, Scalar, Vector, Foreign, Mark, Section, Wrong, value_word, is_end, is_foreign_type, name_in, is_code_word}
use Rattle.vcd_grammar.specs.Codes.{Code, with_code, lines_of}
use Rattle.vcd_grammar.specs.Blocks.{BlockEvent, Later, Changed}

-- what the tokens behind a `$var` at a place have said so far: how many they are, whether the type is that of a line, the
-- width where it is one, the code, and the number of the line that has the name
pub record Draft : Type 0 where
  pub place : ℕ
  pub count : ℕ
  pub is_line : Bool
  pub width : Option ℕ
  pub code : List ℕ
  pub line : Option ℕ

-- where the next token stands
pub data Mode : Type 0 where
  -- between the sections of the header
  Header : Mode
  -- in the declaration of a variable
  Variable : Draft → Mode
  -- in a section of the header that is read past
  Skipped : Mode
  -- behind the `$enddefinitions` at this place, before its `$end`
  Closing : ℕ → Mode
  -- between values
  Values : Mode
  -- behind a vector at this place: its code is next
  Pending : ℕ → List ℕ → Mode
  -- behind a real number or a string: its code is next
  Beside : Mode
  -- in a section behind the header, which is read past
  Passed : Mode

-- what is known behind some tokens: the first fault; where the next token stands; the lines and the codes that were
-- declared; the last time
pub record Known : Type 0 where
  pub fault : Option VcdFault
  pub mode : Mode
  pub lines : List ℕ
  pub codes : List Code
  pub time : Option ℕ

-- before the first token
abbrev pub nothing : Known
nothing = record { fault = None; mode = Header; lines = []; codes = []; time = None }

-- what a token does: what is known behind it, and what happens to the lines
pub record TokenTurn : Type 0 where
  pub known : Known
  pub events : List BlockEvent

-- a token that is read past
abbrev pub stays : Known → TokenTurn
stays k = record { known = k; events = [] }

-- a token behind which the next one stands elsewhere
abbrev pub goes_to : Known → Mode → TokenTurn
goes_to k mode = record { known = record k { mode = mode }; events = [] }

-- a fault
abbrev pub fails : Known → ℕ → VcdCause → TokenTurn
fails k place cause = record { known = record k { fault = Some (record { place = place; cause = cause }) }; events = [] }

-- a token that is too long is a fault before any other look at it
abbrev pub unless_long : Known → Token → TokenTurn → TokenTurn
unless_long k t turn = if is_long t.word then fails k t.place causes.Token else turn

-- before the first token behind a `$var`
abbrev pub draft_at : ℕ → Draft
draft_at place = record { place = place; count = 0; is_line = false; width = None; code = []; line = None }

-- a further token of a declaration: type, width, code, reference, and others that say nothing
unfoldable pub drafted : Draft → List ℕ → Draft
drafted d word =
    if d.count == 0 then record d { count = 1; is_line = not (is_foreign_type word) }
    else (if d.count == 1 then record d { count = 2; width = width_in word }
    else (if d.count == 2 then record d { count = 3; code = word }
    else (if d.count == 3 then record d { count = 4; line = signal_number (name_in word) } else d)))

-- the line was declared
abbrev pub is_declared : List ℕ → ℕ → Bool
is_declared lines number = list_any (λ n. n == number) lines

-- a variable of this code that is no line
abbrev pub other_declared : Known → List ℕ → TokenTurn
other_declared k code = goes_to (record k { codes = with_code k.codes code [] }) Header

-- a line of this code, which is unknown until it gets a value
abbrev pub line_declared : Known → List ℕ → ℕ → TokenTurn
line_declared k code number = record {
  known = record k { mode = Header; lines = k.lines ++ number ∷ []; codes = with_code k.codes code (number ∷ []) };
  events = Changed (record { lines = number ∷ []; digits = 120 ∷ [] }) ∷ [];
}

-- a declaration that is a fault at its `$end`, behind which it is over
abbrev pub undeclared : Known → Draft → VcdCause → TokenTurn
undeclared k d cause = fails (record k { mode = Header }) d.place cause

-- a variable of a line's name is that line, where its type allows it and no earlier variable is; it must have the line's width
abbrev pub named : Known → Draft → ℕ → Option ℕ → TokenTurn
named k d width None = other_declared k d.code
named k d width (Some number) =
    if not d.is_line || is_declared k.lines number then other_declared k d.code
    else (if width == width_of number then line_declared k d.code number else undeclared k d causes.Width)

-- a declaration at its `$end`: it has four tokens at least, its width is a number, and its code is one
abbrev pub with_width : Known → Draft → Option ℕ → TokenTurn
with_width k d None = undeclared k d causes.Header
with_width k d (Some width) =
    if (d.count == 4) && is_code_word d.code then named k d width d.line else undeclared k d causes.Header

-- a declaration at its `$end`
unfoldable pub declared : Known → Draft → TokenTurn
declared k d = with_width k d d.width

-- the first line of the table, from a number on, that must be declared and is not
abbrev pub missing_from : List ℕ → ℕ → List TableEntry → Option ℕ
missing_from lines number [] = None
missing_from lines number (e ∷ es) =
    if e.needed && not (is_declared lines number) then Some number else missing_from lines (number + 1) es

-- the end of the header whose `$enddefinitions` stands at a place
abbrev pub closed_with : Known → ℕ → Option ℕ → TokenTurn
closed_with k place None = goes_to k Values
closed_with k place (Some number) = fails (record k { mode = Values }) place (causes.Missing number)

-- the end of the header
unfoldable pub closed : Known → ℕ → TokenTurn
closed k place = closed_with k place (missing_from k.lines 0 table)

-- a token between the sections of the header
abbrev pub header_turn : Known → ℕ → HeaderWord → TokenTurn
header_turn k place Declares = goes_to k (Variable (draft_at place))
header_turn k place Finishes = goes_to k (Closing place)
header_turn k place Ends = stays k
header_turn k place Opens = goes_to k Skipped
header_turn k place Bare = fails k place causes.Header

-- a greater time, which ends the block
abbrev pub later : Known → ℕ → TokenTurn
later k time = record { known = record k { time = Some time }; events = Later ∷ [] }

-- a time stamp, behind the last one: the first and each greater one ends the block, an equal one goes on with it
abbrev pub stamped : Known → ℕ → ℕ → Option ℕ → TokenTurn
stamped k place time None = later k time
stamped k place time (Some last) =
    if nat_lt time last then fails k place causes.TimeBack else (if nat_lt last time then later k time else stays k)

-- a scalar change, whose code has these lines
abbrev pub scalar_turn : Known → ℕ → ℕ → Option (List ℕ) → TokenTurn
scalar_turn k place digit None = fails k place causes.Code
scalar_turn k place digit (Some lines) =
    record { known = k; events = Changed (record { lines = lines; digits = digit ∷ [] }) ∷ [] }

-- a token between values
abbrev pub value_turn : Known → ℕ → ValueWord → TokenTurn
value_turn k place (Stamp time) = stamped k place time k.time
value_turn k place (Scalar digit code) = scalar_turn k place digit (lines_of k.codes code)
value_turn k place (Vector digits) = goes_to k (Pending place digits)
value_turn k place Foreign = goes_to k Beside
value_turn k place Mark = stays k
value_turn k place Section = goes_to k Passed
value_turn k place Wrong = fails k place causes.Token

-- some of the lines has fewer digits than this value
abbrev pub is_too_wide : List ℕ → List ℕ → Bool
is_too_wide digits lines = list_any (λ number. nat_lt (width_of number) (length digits)) lines

-- the code at a place, behind a vector at another, where the code has these lines
abbrev pub vector_turn : Known → ℕ → ℕ → List ℕ → Option (List ℕ) → TokenTurn
vector_turn k place from digits None = fails k place causes.Code
vector_turn k place from digits (Some lines) =
    if is_too_wide digits lines then fails k from causes.Width
    else record { known = record k { mode = Values }; events = Changed (record { lines = lines; digits = digits }) ∷ [] }

-- the code behind a real number or a string, whose value is read past
abbrev pub beside_turn : Known → ℕ → Option (List ℕ) → TokenTurn
beside_turn k place None = fails k place causes.Code
beside_turn k place (Some lines) = goes_to k Values

-- a token, by where it stands
abbrev pub turn_in : Mode → Known → Token → TokenTurn
turn_in Header k t = unless_long k t (header_turn k t.place (header_word t.word))
turn_in (Variable d) k t =
    unless_long k t (if is_end t.word then declared k d else goes_to k (Variable (drafted d t.word)))
turn_in Skipped k t = if is_end t.word then goes_to k Header else stays k
turn_in (Closing place) k t = if is_end t.word then closed k place else stays k
turn_in Values k t = unless_long k t (value_turn k t.place (value_word t.word))
turn_in (Pending from digits) k t = unless_long k t (vector_turn k t.place from digits (lines_of k.codes t.word))
turn_in Beside k t = unless_long k t (beside_turn k t.place (lines_of k.codes t.word))
turn_in Passed k t = if is_end t.word then goes_to k Values else stays k

-- where the next token stands behind a word between the sections of a header with a fault
abbrev pub mode_behind_word : ℕ → HeaderWord → Mode
mode_behind_word place Declares = Skipped
mode_behind_word place Finishes = Closing place
mode_behind_word place Ends = Header
mode_behind_word place Opens = Skipped
mode_behind_word place Bare = Header

-- where the next token stands behind one that follows a fault: the sections of the header go on to the `$end` of its
-- `$enddefinitions`
abbrev pub mode_behind : Mode → Token → Mode
mode_behind Header t = if is_long t.word then Header else mode_behind_word t.place (header_word t.word)
mode_behind (Variable d) t = if is_end t.word then Header else Variable d
mode_behind Skipped t = if is_end t.word then Header else Skipped
mode_behind (Closing place) t = if is_end t.word then Values else Closing place
mode_behind Values t = Values
mode_behind (Pending from digits) t = Pending from digits
mode_behind Beside t = Beside
mode_behind Passed t = Passed

-- what a token does: behind the first fault it declares nothing and changes nothing, and only the header goes on
unfoldable pub turn : Known → Token → TokenTurn
turn k t = if is_some k.fault then goes_to k (mode_behind k.mode t) else turn_in k.mode k t

-- what is known behind tokens
abbrev pub behind : Known → List Token → Known
behind k [] = k
behind k (t ∷ ts) = behind (turn k t).known ts

-- what happens to the lines in tokens
abbrev pub events_in : Known → List Token → List BlockEvent
events_in k [] = []
events_in k (t ∷ ts) = (turn k t).events ++ events_in (turn k t).known ts

-- the header is over: its `$enddefinitions` has its `$end`
abbrev pub is_past_header : Mode → Bool
is_past_header Values = true
is_past_header (Pending from digits) = true
is_past_header Beside = true
is_past_header Passed = true
is_past_header _ = false

-- the marks of a header that declares these lines: which of the two parity lines, the last of the table, are among them
abbrev pub marks_of_lines : List ℕ → Marks
marks_of_lines lines = record { ap = is_declared lines 20; rp = is_declared lines 21 }

-- the marks, where the header is over
abbrev pub known_marks : Known → Option Marks
known_marks k = if is_past_header k.mode then Some (marks_of_lines k.lines) else None
