-- The canonical text of a plan.
use Rattle.std.specs.Prelude.{ℕ, ◌+◌, ◌/◌, ◌%◌, List, [], ◌∷◌, ◌++◌, length, Option, Some, None, codes, nat_lt, ◌==◌, if◌then◌else◌}
use Rattle.std.specs.Fmt.{decimal}
use Rattle.fsb_access.specs.declared.access.Access.{Access}
use Rattle.fsb_access.specs.declared.access.Access.TheVariants.{Load, Store}
use Rattle.fsb_access.specs.declared.access.Operand.{Operand}
use Rattle.fsb_access.specs.declared.access.Operand.TheVariants.{Literal, LastPlus}
use Rattle.fsb_access.specs.declared.access.Setting.{Setting}
use Rattle.fsb_access.specs.declared.item.Item.{Item}
use Rattle.fsb_access.specs.declared.item.Item.TheVariants.{One, Locked, Idle}
use Rattle.fsb_hazard.specs.declared.line.HazardLine.{HazardLine}
use Rattle.fsb_hazard.specs.declared.line.HazardLine.TheVariants.{Stall, Trdy, Resp, Gap, Retry, Defer, Aerr, Bnr}
use Rattle.fsb_io.specs.NumberText.{hexadecimal}
use Rattle.fsb_script.specs.declared.plan.Window.{Window}
use Rattle.fsb_script.specs.Plans.{PlanView}

-- a line feed
abbrev pub feed : List ℕ
feed = 10 ∷ []

-- one space
abbrev pub space : List ℕ
space = 32 ∷ []

-- the five lines of the head
unfoldable pub head_text : ℕ → ℕ → ℕ → ℕ → List ℕ
head_text agents clocks cache ahead =
    codes "p6bench 1" ++ feed
    ++ codes "agents " ++ decimal agents ++ feed
    ++ codes "clocks " ++ decimal clocks ++ feed
    ++ codes "cache " ++ decimal cache ++ feed
    ++ codes "ahead " ++ decimal ahead ++ feed

-- the line of profile 2; a text without it says profile 1
abbrev pub profile_text : ℕ → List ℕ
profile_text profile = if profile == 2 then codes "profile 2" ++ feed else []

-- the bridge's line
unfoldable pub window_text : Window → List ℕ
window_text window = codes "bridge " ++ hexadecimal window.base ++ space ++ hexadecimal window.size ++ feed

-- the line of the bridge, where there is one
abbrev pub bridge_text : Option Window → List ℕ
bridge_text None = []
bridge_text (Some window) = window_text window

-- a digit below 16, in lower case
abbrev pub digit_text : ℕ → ℕ
digit_text digit = if nat_lt digit 10 then 48 + digit else 87 + digit

-- one byte of memory, which always has two digits
unfoldable pub setting_text : Setting → List ℕ
setting_text setting = codes "mem " ++ hexadecimal setting.addr ++ space ++ digit_text (setting.byte / 16) ∷ [] ++ digit_text (setting.byte % 16) ∷ [] ++ feed

-- the lines of the settings, one each
abbrev pub settings_text : List Setting → List ℕ
settings_text [] = []
settings_text (setting ∷ settings) = setting_text setting ++ settings_text settings

-- the value of a store, with `r+` before what is added
abbrev pub operand_text : Operand → List ℕ
operand_text (Literal number) = hexadecimal number
operand_text (LastPlus number) = codes "r+" ++ hexadecimal number

-- a load or a store
unfoldable pub access_text : Access → List ℕ
access_text (Load size addr) = codes "ld " ++ decimal size ++ space ++ hexadecimal addr ++ feed
access_text (Store size addr value) = codes "st " ++ decimal size ++ space ++ hexadecimal addr ++ space ++ operand_text value ++ feed

-- the lines of the accesses of a locked item
abbrev pub accesses_text : List Access → List ℕ
accesses_text [] = []
accesses_text (access ∷ accesses) = access_text access ++ accesses_text accesses

-- the line of an idle item
unfoldable pub idle_text : ℕ → List ℕ
idle_text clocks = codes "idle " ++ decimal clocks ++ feed

-- an item, of one line but for a locked one
unfoldable pub item_text : Item → List ℕ
item_text (One access) = access_text access
item_text (Locked accesses) = (codes "lock" ++ feed) ++ accesses_text accesses ++ (codes "unlock" ++ feed)
item_text (Idle clocks) = idle_text clocks

-- the lines of items, in order
abbrev pub items_text : List Item → List ℕ
items_text [] = []
items_text (item ∷ items) = item_text item ++ items_text items

-- the line that begins an agent's script
unfoldable pub agent_text : ℕ → List ℕ
agent_text number = codes "agent " ++ decimal number ++ feed

-- the script of an agent
unfoldable pub script_text : ℕ → List Item → List ℕ
script_text number items = agent_text number ++ items_text items ++ (codes "end" ++ feed)

-- the scripts from an agent on
abbrev pub scripts_text : ℕ → List (List Item) → List ℕ
scripts_text number [] = []
scripts_text number (items ∷ scripts) = script_text number items ++ scripts_text (number + 1) scripts

-- a hazard of a request, with a count behind its word
abbrev pub turn_text : ℕ → List ℕ → List ℕ
turn_text k word = codes "tx " ++ decimal k ++ word

-- the line of a hazard, with its number where it has one
unfoldable pub hazard_text : HazardLine → List ℕ
hazard_text (Stall k n) = turn_text k (codes " stall ") ++ decimal n ++ feed
hazard_text (Trdy k n) = turn_text k (codes " trdy ") ++ decimal n ++ feed
hazard_text (Resp k n) = turn_text k (codes " resp ") ++ decimal n ++ feed
hazard_text (Gap k n) = turn_text k (codes " data ") ++ decimal n ++ feed
hazard_text (Retry k) = turn_text k (codes " retry") ++ feed
hazard_text (Defer k later) = turn_text k (codes " defer ") ++ decimal later ++ feed
hazard_text (Aerr k) = turn_text k (codes " aerr") ++ feed
hazard_text (Bnr from to) = codes "bnr " ++ decimal from ++ space ++ decimal to ++ feed

-- the lines of the hazards, in order
abbrev pub hazards_text : List HazardLine → List ℕ
hazards_text [] = []
hazards_text (line ∷ lines) = hazard_text line ++ hazards_text lines

-- the canonical text: no lines to be read past, one space between words, no leading zeros but in bytes of memory,
-- lower case, one line for each byte of memory, and a line feed behind each line
unfoldable pub bench_text : PlanView → List ℕ
bench_text plan =
    head_text (length plan.scripts) plan.clocks plan.cache plan.ahead
    ++ profile_text plan.profile
    ++ bridge_text plan.bridge
    ++ settings_text plan.mem
    ++ scripts_text 0 plan.scripts
    ++ hazards_text plan.hazards
