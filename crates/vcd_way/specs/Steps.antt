-- Each token, judged in the place where it stands, in any way to read a dump.
use Rattle.std.specs.Prelude.{ℕ, ◌-◌, Bool, true, false, not, ◌&&◌, ◌||◌, ◌==◌, nat_lt, nat_le, if◌then◌else◌, List, [], ◌∷◌, ◌++◌, length, take, map, codes, Option, Some, None, is_some}
use Rattle.std.specs.List.{list_all, list_any}
use Rattle.vcd_grammar.specs.declared.fault.VcdFault.{VcdFault}
use Rattle.vcd_grammar.specs.declared.fault.VcdCause.{VcdCause}
use Rattle.vcd_grammar.specs.declared.fault.VcdCause.TheVariants as causes
use Rattle.vcd_grammar.specs.Tokens.{Token, longest, is_long}
use Rattle.vcd_grammar.specs.Digits.{is_number, time_in}
use Rattle.vcd_grammar.specs.Words.{HeaderWord, Declares, Finishes, Ends, Opens, Bare, header_word, is_dollar}
use Rattle.vcd_grammar.specs.Words.{ValueWord, Stamp, Scalar, Vector, Foreign, Mark, Section, Wrong, stamp_word, scalar_word}
use Rattle.vcd_grammar.specs.Words.{same, is_end, is_read_past}
use Rattle.vcd_way.specs.Declarations.{DumpSection, Declaration, declaration_of, with_word, word_of_section}
use Rattle.vcd_way.specs.declared.tap.Tap.{Tap}
use Rattle.vcd_way.specs.Ways.{Kept, Keeps, Refuses, ValueRules, Way}
use Rattle.vcd_way.specs.Pieces.{Off, On, Happening, Comes, Gets, Switches}
use Rattle.vcd_way.specs.Events.{whole}

-- where the next token stands
pub data Spot : Type 0 where
  -- before the first `$`
  AtPreface : Spot
  -- between the sections of the header
  AtHeader : Spot
  -- in one of them
  InSection : DumpSection → Spot
  -- between values
  AtValues : Spot
  -- after a vector of these digits at this place: its code is next
  AtCode : ℕ → List ℕ → Spot
  -- after a real number or a string at this place: its code is next
  AtOtherCode : ℕ → Spot
  -- in a section after the header
  InRemark : DumpSection → Spot

-- what is known after some tokens: the first fault; where the next token stands; the scopes that
-- are open, the outermost first; what the way keeps of the header; the last time; whether
-- the dump has stopped for a time; and the sections that were read past
pub record DumpState (W : Type 0) : Type 0 where
  pub fault : Option VcdFault
  pub spot : Spot
  pub path : List (List ℕ)
  pub header : W
  pub time : Option ℕ
  pub is_off : Bool
  pub remarks : List DumpSection

-- before the first token
abbrev pub first_state : {W : Type 0} → Way W → DumpState W
first_state way = record {
  fault = None;
  spot = if way.rules.skips_preface then AtPreface else AtHeader;
  path = [];
  header = way.start;
  time = None;
  is_off = false;
  remarks = [];
}

-- what a token does: what is known after it, and what happens to the lines
pub record Step (W : Type 0) : Type 0 where
  pub state : DumpState W
  pub happenings : List Happening

-- a token that is read past
abbrev pub reads_past : {W : Type 0} → DumpState W → Step W
reads_past s = record { state = s; happenings = [] }

-- a token after which the next one stands elsewhere
abbrev pub moves_to : {W : Type 0} → DumpState W → Spot → Step W
moves_to s spot = record { state = record s { spot = spot }; happenings = [] }

-- a fault
abbrev pub breaks : {W : Type 0} → DumpState W → ℕ → VcdCause → Step W
breaks s place cause =
    record { state = record s { fault = Some (record { place = place; cause = cause }) }; happenings = [] }

-- a token that is too long is a fault before any other look at it
abbrev pub if_short : {W : Type 0} → DumpState W → Token → Step W → Step W
if_short s t step = if is_long t.word then breaks s t.place causes.Token else step

-- ---- the header

-- a section that opens with this token
abbrev pub section_at : Token → DumpSection
section_at t = record { place = t.place; keyword = t.word; words = [] }

-- a token between the sections
abbrev pub header_step : {W : Type 0} → DumpState W → Token → HeaderWord → Step W
header_step s t Declares = moves_to s (InSection (section_at t))
header_step s t Finishes = moves_to s (InSection (section_at t))
header_step s t Ends = moves_to s AtHeader
header_step s t Opens = moves_to s (InSection (section_at t))
header_step s t Bare = breaks s t.place causes.Header

-- these lines are unknown until they get a value
abbrev pub unknown_from_here : List ℕ → List Happening
unknown_from_here [] = []
unknown_from_here (number ∷ lines) =
    Gets (record { taps = map whole (number ∷ lines); digits = 120 ∷ [] }) ∷ []

-- what the way makes of a section that opened at a place
abbrev pub kept_step : {W : Type 0} → DumpState W → ℕ → Kept W → Step W
kept_step s place (Keeps header lines) =
    record { state = record s { header = header }; happenings = unknown_from_here lines }
kept_step s place (Refuses cause) = breaks s place cause

-- a declaration that opened at a place
abbrev pub declared_step : {W : Type 0} → Way W → DumpState W → ℕ → Option Declaration → Step W
declared_step way s place None = breaks s place causes.Header
declared_step way s place (Some declaration) = kept_step s place (way.declares s.header declaration)

-- the scopes that are open after a section: `$scope` opens one inside them, `$upscope` closes the
-- innermost
abbrev pub path_after : List (List ℕ) → DumpSection → List (List ℕ)
path_after path section =
    if same (codes "$scope") section.keyword then path ++ word_of_section section 1 ∷ []
    else (if same (codes "$upscope") section.keyword then take (length path - 1) path else path)

-- a section that declares nothing, at its `$end`
abbrev pub section_kept : {W : Type 0} → DumpState W → DumpSection → DumpState W
section_kept s section =
    record s { path = path_after s.path section; remarks = s.remarks ++ section ∷ [] }

-- a section at its `$end`
abbrev pub section_end : {W : Type 0} → Way W → DumpState W → DumpSection → HeaderWord → Step W
section_end way s section Declares =
    declared_step way (record s { spot = AtHeader }) section.place
    (declaration_of way.rules.widest s.path section)
section_end way s section Finishes =
    kept_step (record s { spot = AtValues }) section.place (way.closes s.header)
section_end way s section _ = moves_to (section_kept s section) AtHeader

-- a section declares a variable
abbrev pub is_declaring : HeaderWord → Bool
is_declaring Declares = true
is_declaring _ = false

-- a token in a section: its `$end`, or one more word; one that is too long is a fault in a
-- declaration alone
abbrev pub section_step : {W : Type 0} → Way W → DumpState W → DumpSection → Token → Step W
section_step way s section t =
    if is_long t.word && is_declaring (header_word section.keyword) then breaks s t.place causes.Token
    else (if is_end t.word then section_end way s section (header_word section.keyword)
    else moves_to s (InSection (with_word section t.word)))

-- ---- the values

-- a byte is a digit
abbrev pub is_digit_by : ValueRules → ℕ → Bool
is_digit_by m b = is_some (m.digit b)

-- a digit before others, where every byte is a digit
abbrev pub one_more : Option ℕ → Option (List ℕ) → Option (List ℕ)
one_more None rest = None
one_more (Some digit) None = None
one_more (Some digit) (Some rest) = Some (digit ∷ rest)

-- the digits that bytes mean, where each of them is one
abbrev pub digits_by : ValueRules → List ℕ → Option (List ℕ)
digits_by m [] = Some []
digits_by m (b ∷ bs) = one_more (m.digit b) (digits_by m bs)

-- one digit or more; of a variable that is no line it may be none
abbrev pub vector_by : ValueRules → List ℕ → ValueWord
vector_by m [] = if m.takes_any then Vector [] else Wrong
vector_by m (b ∷ bs) = if m.takes_any || list_all (is_digit_by m) (b ∷ bs) then Vector (b ∷ bs) else Wrong

-- what a token says between the values: `#` begins a time stamp, a digit a scalar change, `b` a
-- vector, `r` and `s` a real number and a string; any other token with `$` opens a section
unfoldable pub value_word_by : ValueRules → List ℕ → ValueWord
value_word_by m [] = Wrong
value_word_by m (b ∷ bs) =
    if b == 35 then stamp_word (time_in bs)
    else (if is_digit_by m b then scalar_word b bs
    else (if (b == 98) || (b == 66) then vector_by m bs
    else (if ((b == 114) || (b == 82)) || ((b == 115) || (b == 83)) then Foreign
    else (if b == 36 then (if is_read_past (b ∷ bs) then Mark else Section)
    else (if m.takes_any then scalar_word b bs else Wrong)))))

-- a greater time, which ends the block
abbrev pub comes : {W : Type 0} → DumpState W → ℕ → ℕ → Step W
comes s place time = record {
  state = record s { time = Some time };
  happenings = Comes (record { time = time; place = place }) ∷ [];
}

-- a time stamp, after the last one: the first and each greater one ends the block, an equal one
-- goes on with it
abbrev pub stamp_step : {W : Type 0} → DumpState W → ℕ → ℕ → Option ℕ → Step W
stamp_step s place time None = comes s place time
stamp_step s place time (Some last) =
    if nat_lt time last then breaks s place causes.TimeBack
    else (if nat_lt last time then comes s place time else reads_past s)

-- a value for some taps: bytes that are no digits are a fault, unless no line has the code
abbrev pub given : {W : Type 0} → DumpState W → ℕ → List Tap → Option (List ℕ) → Step W
given s place taps (Some digits) = record {
  state = record s { spot = AtValues };
  happenings = Gets (record { taps = taps; digits = digits }) ∷ [];
}
given s place [] None = moves_to s AtValues
given s place (tap ∷ taps) None = breaks s place causes.Token

-- a scalar change, whose code stands for these taps
abbrev pub scalar_step : {W : Type 0} → Way W → DumpState W → ℕ → ℕ → Option (List Tap) → Step W
scalar_step way s place digit None = breaks s place causes.Code
scalar_step way s place digit (Some taps) = given s place taps (digits_by way.rules (digit ∷ []))

-- one of the variables has fewer bits than the value has digits
abbrev pub is_too_wide_for : List Tap → List ℕ → Bool
is_too_wide_for taps digits = list_any (λ (tap : Tap). nat_lt tap.width (length digits)) taps

-- a vector without digits, or one of which only the first are known
abbrev pub is_unreadable : List ℕ → Bool
is_unreadable digits = (length digits == 0) || nat_le longest (length digits)

-- the digits of a vector; one that is let pass may have none
abbrev pub vector_digits : ValueRules → List ℕ → Option (List ℕ)
vector_digits m digits = if m.takes_any && is_unreadable digits then None else digits_by m digits

-- the code at a place, after a vector at another, where the code stands for these taps
abbrev pub vector_step : {W : Type 0} → Way W → DumpState W → ℕ → ℕ → List ℕ → Option (List Tap) → Step W
vector_step way s place from digits None = breaks s place causes.Code
vector_step way s place from digits (Some taps) =
    if is_too_wide_for taps digits then breaks s from causes.Width
    else given s from taps (vector_digits way.rules digits)

-- the code after a real number or a string, whose value is read past
abbrev pub other_step : {W : Type 0} → DumpState W → ℕ → Option (List Tap) → Step W
other_step s place None = breaks s place causes.Code
other_step s place (Some taps) = moves_to s AtValues

-- the dump stops for a time
abbrev pub stops : {W : Type 0} → Way W → DumpState W → Step W
stops way s =
    let lines = way.lines s.header in
    record { state = record s { is_off = true }; happenings = Switches Off lines ∷ [] }

-- the dump goes on
abbrev pub resumes : {W : Type 0} → Way W → DumpState W → Step W
resumes way s =
    let lines = way.lines s.header in
    record { state = record s { is_off = false }; happenings = Switches On lines ∷ [] }

-- a word after which changes stand, or the end of them: `$dumpoff` may begin a hole, and `$dumpon`
-- ends it
abbrev pub mark_step : {W : Type 0} → Way W → DumpState W → List ℕ → Step W
mark_step way s word =
    if way.rules.tells_holes && same (codes "$dumpoff") word then stops way s
    else (if way.rules.tells_holes && (s.is_off && same (codes "$dumpon") word) then resumes way s
    else reads_past s)

-- a token between values
abbrev pub value_step : {W : Type 0} → Way W → DumpState W → Token → ValueWord → Step W
value_step way s t (Stamp time) = stamp_step s t.place time s.time
value_step way s t (Scalar digit code) = scalar_step way s t.place digit (way.taps s.header code)
value_step way s t (Vector digits) = moves_to s (AtCode t.place digits)
value_step way s t Foreign = moves_to s (AtOtherCode t.place)
value_step way s t Mark = mark_step way s t.word
value_step way s t Section = moves_to s (InRemark (section_at t))
value_step way s t Wrong = breaks s t.place causes.Token

-- a value that may be too long for a token where any is let pass: a vector, a real number, a string
abbrev pub may_be_long : ValueWord → Bool
may_be_long (Vector digits) = true
may_be_long Foreign = true
may_be_long _ = false

-- a token between values that says this; a value that may be too long counts by its first bytes
abbrev pub word_step : {W : Type 0} → Way W → DumpState W → Token → ValueWord → Step W
word_step way s t w =
    let is_let_pass = way.rules.takes_any && may_be_long w in
    if not is_let_pass && is_long t.word then breaks s t.place causes.Token else value_step way s t w

-- a token in a section after the header
abbrev pub remark_step : {W : Type 0} → DumpState W → DumpSection → Token → Step W
remark_step s section t =
    if is_end t.word then moves_to (record s { remarks = s.remarks ++ section ∷ [] }) AtValues
    else moves_to s (InRemark (with_word section t.word))

-- ---- tokens

-- a token, by where it stands
abbrev pub step_at : {W : Type 0} → Way W → Spot → DumpState W → Token → Step W
step_at way AtPreface s t =
    if is_dollar t.word then if_short s t (header_step s t (header_word t.word)) else reads_past s
step_at way AtHeader s t = if_short s t (header_step s t (header_word t.word))
step_at way (InSection section) s t = section_step way s section t
step_at way AtValues s t = word_step way s t (value_word_by way.rules t.word)
step_at way (AtCode from digits) s t =
    if_short s t (vector_step way s t.place from digits (way.taps s.header t.word))
step_at way (AtOtherCode from) s t = if_short s t (other_step s t.place (way.taps s.header t.word))
step_at way (InRemark section) s t = remark_step s section t

-- what a token does: after the first fault nothing
unfoldable pub step : {W : Type 0} → Way W → DumpState W → Token → Step W
step way s t = if is_some s.fault then reads_past s else step_at way s.spot s t

-- what is known after tokens
abbrev pub state_after : {W : Type 0} → Way W → DumpState W → List Token → DumpState W
state_after way s [] = s
state_after way s (t ∷ ts) = state_after way (step way s t).state ts

-- what happens to the lines in tokens
abbrev pub happenings_in : {W : Type 0} → Way W → DumpState W → List Token → List Happening
happenings_in way s [] = []
happenings_in way s (t ∷ ts) = (step way s t).happenings ++ happenings_in way (step way s t).state ts

-- the header is over
abbrev pub is_past_header_at : Spot → Bool
is_past_header_at AtPreface = false
is_past_header_at AtHeader = false
is_past_header_at (InSection section) = false
is_past_header_at _ = true

-- the place where the section or the value begins that stands open
abbrev pub open_from : Spot → Option ℕ
open_from (InSection section) = Some section.place
open_from (AtCode place digits) = Some place
open_from (AtOtherCode place) = Some place
open_from (InRemark section) = Some section.place
open_from _ = None

-- a word that elsewhere is a time stamp
abbrev pub is_like_stamp : List ℕ → Bool
is_like_stamp [] = false
is_like_stamp (b ∷ bs) = (b == 35) && is_number bs

-- an open section holds what looks like a time stamp: its `$end` may be missing since long ago
abbrev pub hides_stamp : Spot → Bool
hides_stamp (InRemark section) = list_any is_like_stamp section.words
hides_stamp _ = false
