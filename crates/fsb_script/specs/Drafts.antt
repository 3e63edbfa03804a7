-- A bench file line by line: where the reading stands, and what each line adds.
use Rattle.std.specs.Prelude.{◌≡◌, ℕ, ◌+◌, List, [], ◌∷◌, ◌++◌, length, Option, Some, None, Result, Ok, Err, Bool, false, nat_lt, ◌==◌, if◌then◌else◌, codes}
use Rattle.std.specs.Str.{bytes_eq}
use Rattle.fsb_access.specs.declared.access.Access.{Access}
use Rattle.fsb_access.specs.declared.access.Setting.{Setting}
use Rattle.fsb_access.specs.declared.item.Item.{Item}
use Rattle.fsb_access.specs.declared.item.Item.TheVariants.{One, Locked, Idle}
use Rattle.fsb_hazard.specs.declared.line.HazardLine.{HazardLine}
use Rattle.fsb_script.specs.declared.fault.Cause.{Cause}
use Rattle.fsb_script.specs.declared.fault.Cause.TheVariants.{FirstLine, Word, Range, Missing, LockSize, LockConflict}
use Rattle.fsb_script.specs.declared.fault.ScriptFault.{ScriptFault}
use Rattle.fsb_script.specs.declared.place.Place.{Place}
use Rattle.fsb_script.specs.declared.place.Place.TheVariants as places
use Rattle.fsb_script.specs.declared.plan.Window.{Window}
use Rattle.fsb_script.specs.Parsing.{◌>>=◌, require}
use Rattle.fsb_script.specs.TextWords.{text_lines, skip_blanks, is_empty, is_silent, next_word, line_ended, decimal_word, decimal_within}
use Rattle.fsb_script.specs.Statements.{keyword, load_of, store_of, idle_of, profile_of, window_of, memory_of, settings_at, agent_of, transaction_of, block_of}
use Rattle.fsb_script.specs.Bounds.{is_cache, is_lock_size, is_lock_apart}
use Rattle.fsb_script.specs.Plans.{PlanView}

-- what the lines so far have said, and which lines may stand next
pub record Progress : Type 0 where
  pub place : Place
  pub agents : ℕ
  pub clocks : ℕ
  pub cache : ℕ
  pub ahead : ℕ
  pub profile : ℕ
  pub bridge : Option Window
  pub mem : List Setting
  pub scripts : List (List Item)
  pub script : List Item
  pub group : List Access
  pub hazards : List HazardLine

-- before the first line
abbrev pub beginning : Progress
beginning = record {
  place = places.First;
  agents = 1;
  clocks = 0;
  cache = 1;
  ahead = 1;
  profile = 1;
  bridge = None;
  mem = [];
  scripts = [];
  script = [];
  group = [];
  hazards = [];
}

-- ---- the lines with a fixed place

-- the words of the first line, and what follows them
unfoldable pub heading_of : List ℕ → Result (List ℕ) Cause
heading_of line = do
  rest ← keyword (codes "p6bench") line
  keyword (codes "1") rest

-- the heading was read, and no word follows it
abbrev pub ends_heading : Result (List ℕ) Cause → Bool
ends_heading (Ok rest) = is_empty (skip_blanks rest)
ends_heading (Err cause) = false

-- `p6bench 1`
unfoldable pub first_line : Progress → List ℕ → Result Progress Cause
first_line d line = require (ends_heading (heading_of line)) FirstLine (record d { place = places.Agents })

-- `agents N`
unfoldable pub agents_line : Progress → List ℕ → Result Progress Cause
agents_line d line = do
  rest ← keyword (codes "agents") line
  n ← decimal_within 1 4 rest
  agents ← line_ended n.0 n.1
  Ok (record d { agents = agents; place = places.Clocks })

-- `clocks N`
unfoldable pub clocks_line : Progress → List ℕ → Result Progress Cause
clocks_line d line = do
  rest ← keyword (codes "clocks") line
  n ← decimal_within 0 200000 rest
  clocks ← line_ended n.0 n.1
  Ok (record d { clocks = clocks; place = places.Cache })

-- `cache N`
unfoldable pub cache_line : Progress → List ℕ → Result Progress Cause
cache_line d line = do
  rest ← keyword (codes "cache") line
  n ← decimal_word rest
  m ← require (is_cache n.0) Range n
  cache ← line_ended m.0 m.1
  Ok (record d { cache = cache; place = places.Ahead })

-- `ahead N`
unfoldable pub ahead_line : Progress → List ℕ → Result Progress Cause
ahead_line d line = do
  rest ← keyword (codes "ahead") line
  n ← decimal_within 1 4 rest
  ahead ← line_ended n.0 n.1
  Ok (record d { ahead = ahead; place = places.Profile })

-- ---- the profile, the bridge, memory, and the beginning of a script

-- `profile N`
unfoldable pub profile_line : Progress → List ℕ → Result Progress Cause
profile_line d line = do
  profile ← profile_of line
  Ok (record d { profile = profile; place = places.Bridge })

-- `bridge BASE SIZE`
unfoldable pub bridge_line : Progress → List ℕ → Result Progress Cause
bridge_line d line = do
  bridge ← window_of line
  Ok (record d { bridge = Some bridge; place = places.Memory })

-- `mem ADDRESS BYTES`
unfoldable pub mem_line : Progress → List ℕ → Result Progress Cause
mem_line d line = do
  m ← memory_of line
  Ok (record d { mem = d.mem ++ settings_at m.0 m.1; place = places.Memory })

-- `agent NUMBER`, the next one
unfoldable pub agent_line : Progress → List ℕ → Result Progress Cause
agent_line d line = do
  n ← agent_of (length d.scripts) line
  Ok (record d { place = places.Items })

-- ---- a script

-- room for one item more
abbrev pub room : Progress → Result Progress Cause
room d = require (nat_lt (length d.script) 4096) Range d

-- one item more
unfoldable pub add_item : Progress → Item → Result Progress Cause
add_item d item = Ok (record d { script = d.script ++ item ∷ [] })

-- `ld SIZE ADDRESS`, an item by itself
unfoldable pub load_item : Progress → List ℕ → Result Progress Cause
load_item d line = do
  e ← room d
  access ← load_of line
  add_item d (One access)

-- `st SIZE ADDRESS VALUE`, an item by itself
unfoldable pub store_item : Progress → List ℕ → Result Progress Cause
store_item d line = do
  e ← room d
  access ← store_of line
  add_item d (One access)

-- `idle CLOCKS`
unfoldable pub idle_item : Progress → List ℕ → Result Progress Cause
idle_item d line = do
  e ← room d
  clocks ← idle_of line
  add_item d (Idle clocks)

-- a locked item begins
unfoldable pub lock_item : Progress → List ℕ → Result Progress Cause
lock_item d line = do
  e ← room d
  f ← line_ended d line
  Ok (record d { group = []; place = places.Locked })

-- where the lines go on behind a script
abbrev pub place_behind : ℕ → ℕ → Place
place_behind scripts agents = if scripts == agents then places.Hazards else places.Agent

-- a script ends
unfoldable pub end_line : Progress → List ℕ → Result Progress Cause
end_line d line = do
  e ← line_ended d line
  Ok (record d {
    scripts = d.scripts ++ d.script ∷ [];
    script = [];
    place = place_behind (length (d.scripts ++ d.script ∷ [])) d.agents;
  })

-- a line between `agent` and `end`
unfoldable pub item_line : Progress → List ℕ → List ℕ → Result Progress Cause
item_line d word line =
    if bytes_eq word (codes "ld") then load_item d line
    else (if bytes_eq word (codes "st") then store_item d line
    else (if bytes_eq word (codes "idle") then idle_item d line
    else (if bytes_eq word (codes "lock") then lock_item d line
    else (if bytes_eq word (codes "end") then end_line d line
    else Err Word))))

-- an access of a locked item
unfoldable pub locked_access : Progress → Access → Result Progress Cause
locked_access d access = Ok (record d { group = d.group ++ access ∷ [] })

-- a locked item ends
unfoldable pub unlock_line : Progress → List ℕ → Result Progress Cause
unlock_line d line = do
  e ← line_ended d line
  few ← require (is_lock_size d.group) LockSize d
  apart ← require (is_lock_apart d.cache d.group) LockConflict d
  Ok (record d { script = d.script ++ Locked d.group ∷ []; group = []; place = places.Items })

-- a line between `lock` and `unlock`
unfoldable pub locked_line : Progress → List ℕ → List ℕ → Result Progress Cause
locked_line d word line =
    if bytes_eq word (codes "ld") then load_of line >>= (λ access. locked_access d access)
    else (if bytes_eq word (codes "st") then store_of line >>= (λ access. locked_access d access)
    else (if bytes_eq word (codes "unlock") then unlock_line d line
    else Err Word))

-- ---- hazards

-- room for one hazard line more
abbrev pub hazard_room : Progress → Result Progress Cause
hazard_room d = require (nat_lt (length d.hazards) 4096) Range d

-- one more hazard line
unfoldable pub add_hazard : Progress → HazardLine → Result Progress Cause
add_hazard d line = Ok (record d { hazards = d.hazards ++ line ∷ [] })

-- `tx REQUEST HAZARD ..`
unfoldable pub transaction_line : Progress → List ℕ → Result Progress Cause
transaction_line d line = do
  e ← hazard_room d
  hazard ← transaction_of line
  add_hazard d hazard

-- `bnr FROM TO`
unfoldable pub block_line : Progress → List ℕ → Result Progress Cause
block_line d line = do
  e ← hazard_room d
  hazard ← block_of line
  add_hazard d hazard

-- a line behind the last script
unfoldable pub hazard_line : Progress → List ℕ → List ℕ → Result Progress Cause
hazard_line d word line =
    if bytes_eq word (codes "tx") then transaction_line d line
    else (if bytes_eq word (codes "bnr") then block_line d line
    else Err Word)

-- ---- every line

-- a line behind `bridge`: a setting, or the first agent
unfoldable pub memory_line : Progress → List ℕ → List ℕ → Result Progress Cause
memory_line d word line =
    if bytes_eq word (codes "mem") then mem_line d line
    else (if bytes_eq word (codes "agent") then agent_line d line
    else Err Word)

-- a line behind `profile`: the bridge, a setting, or the first agent
unfoldable pub body_line : Progress → List ℕ → List ℕ → Result Progress Cause
body_line d word line =
    if bytes_eq word (codes "bridge") then bridge_line d line
    else memory_line d word line

-- a line behind `ahead`: the profile, the bridge, a setting, or the first agent
unfoldable pub front_line : Progress → List ℕ → List ℕ → Result Progress Cause
front_line d word line =
    if bytes_eq word (codes "profile") then profile_line d line
    else body_line d word line

-- a line between two scripts: the next agent
unfoldable pub next_agent_line : Progress → List ℕ → List ℕ → Result Progress Cause
next_agent_line d word line = if bytes_eq word (codes "agent") then agent_line d line else Err Word

-- a line by its first word, where more than one may stand
abbrev pub line_by_word : Place → Progress → List ℕ → List ℕ → Result Progress Cause
line_by_word places.Profile d word line = front_line d word line
line_by_word places.Bridge d word line = body_line d word line
line_by_word places.Memory d word line = memory_line d word line
line_by_word places.Agent d word line = next_agent_line d word line
line_by_word places.Items d word line = item_line d word line
line_by_word places.Locked d word line = locked_line d word line
line_by_word _ d word line = hazard_line d word line

-- a line whose first word says which of those that may stand there it is
unfoldable pub choice_line : Progress → List ℕ → Result Progress Cause
choice_line d line = do
  w ← next_word line
  line_by_word d.place d w.0 w.1

-- a line that has words and is no comment
abbrev pub placed_line : Place → Progress → List ℕ → Result Progress Cause
placed_line places.First d line = first_line d line
placed_line places.Agents d line = agents_line d line
placed_line places.Clocks d line = clocks_line d line
placed_line places.Cache d line = cache_line d line
placed_line places.Ahead d line = ahead_line d line
placed_line _ d line = choice_line d line

-- whether a line is read past there: none is before the second line
abbrev pub is_past : Place → List ℕ → Bool
is_past places.First line = false
is_past _ line = is_silent line

-- what a line adds
unfoldable pub after_line : Progress → List ℕ → Result Progress Cause
after_line d line = if is_past d.place line then Ok d else placed_line d.place d line

-- ---- the whole text

-- the plan, once the last script has ended
abbrev pub plan_so_far : Progress → PlanView
plan_so_far d = record { scripts = d.scripts; clocks = d.clocks; cache = d.cache; ahead = d.ahead; profile = d.profile; bridge = d.bridge; mem = d.mem; hazards = d.hazards }

-- the answer at the end of the file: the plan where the last script has ended, FirstLine where there was no line, else
-- Missing
abbrev pub end_at : ℕ → Progress → Place → Result PlanView ScriptFault
end_at number d places.First = Err (record { line = number; cause = FirstLine })
end_at number d places.Hazards = Ok (plan_so_far d)
end_at number d _ = Err (record { line = number; cause = Missing })

-- the end of the text, where the next line would have this number
unfoldable pub plan_at_end : ℕ → Progress → Result PlanView ScriptFault
plan_at_end number d = end_at number d d.place

-- the same answer, with the number of its line where it is a fault
abbrev pub on_line : ℕ → Result Progress Cause → Result Progress ScriptFault
on_line number (Ok d) = Ok d
on_line number (Err cause) = Err (record { line = number; cause = cause })

-- the lines that are left, of which the first has this number
abbrev pub plan_from : ℕ → Progress → List (List ℕ) → Result PlanView ScriptFault
plan_from number d [] = plan_at_end number d
plan_from number d (line ∷ lines) = on_line number (after_line d line) >>= (λ e. plan_from (number + 1) e lines)

-- the plan of a bench file, or its first bad line and that line's first cause from left to right
unfoldable pub said_plan : List ℕ → Result PlanView ScriptFault
said_plan text = plan_from 1 beginning (text_lines text)

-- the text is a bench file that says this plan
abbrev pub BenchText : List ℕ → PlanView → Type 0
BenchText text plan = said_plan text ≡ Ok plan

-- the text is no bench file, and this is its first bad line with that line's first cause
abbrev pub FirstBad : List ℕ → ScriptFault → Type 0
FirstBad text fault = said_plan text ≡ Err fault
