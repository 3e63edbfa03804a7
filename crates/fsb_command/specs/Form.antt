-- What the words of a command line ask for.
use Rattle.std.specs.Prelude.{◌≤◌, ℕ, Bool, true, false, not, ◌&&◌, ◌==◌, nat_le, Option, None, Some, IfSome, option_map, List, [], ◌∷◌, length, codes, if◌then◌else◌}
use Rattle.std.specs.List.{list_all}
use Rattle.std.specs.Str.{bytes_eq}
use Rattle.fsb_trigger.specs.Grammar.{trigger_of}
use Rattle.fsb_trigger.specs.TriggerSteps.{StepView}
use Rattle.fsb_command.specs.Number.{agents_named, items_named, seed_named}
use Rattle.fsb_command.specs.Range.{range_of}

-- what is asked of a dump
pub data Asked : Type 0 where
  -- its first broken rule, its first foul transfer, or its table
  to_check : Asked
  to_audit : Asked
  to_show : Asked
  -- where these steps match
  to_find : (steps : List StepView) → Asked
  -- the wave of the clocks from `from` to `to`
  to_wave : (from to : ℕ) → Asked

-- what a command line asks for
pub data Form : Type 0 where
  -- a run of a bench file, with the dump written where it has a name
  run : (bench : List ℕ) (dump : Option (List ℕ)) → Form
  -- a look at a dump
  ask : (dump : List ℕ) (asked : Asked) → Form
  -- a run of the plan that is made from a seed, for so many agents with so many items each
  gen : (seed agents items : ℕ) → Form

-- ---- the commands that look at a dump

-- the check of a dump, its audit, or its table
abbrev pub check : List ℕ → Form
check dump = ask dump to_check

abbrev pub audit : List ℕ → Form
audit dump = ask dump to_audit

abbrev pub show : List ℕ → Form
show dump = ask dump to_show

-- the search of a dump for a trigger of these steps
abbrev pub find : List ℕ → List StepView → Form
find dump steps = ask dump (to_find steps)

-- the wave of a dump over the clocks from `from` to `to`
abbrev pub wave : List ℕ → ℕ → ℕ → Form
wave dump from to = ask dump (to_wave from to)

-- what stands behind the verb of such a command: the name of a dump, and maybe a trigger or two clocks
pub data Arguments : Type 0 where
  dump_alone : Arguments
  dump_and_trigger : Arguments
  dump_and_clocks : Arguments

-- a verb that looks at a dump: its name, its arguments, and what the words behind the dump's name ask
pub record Verb : Type 0 where
  pub name : List ℕ
  pub arguments : Arguments
  pub asked : List (List ℕ) → Option Asked

-- what no more words ask
abbrev pub just : Asked → List (List ℕ) → Option Asked
just asked [] = Some asked
just asked _ = None

-- what a trigger asks
abbrev pub find_of : List (List ℕ) → Option Asked
find_of (trigger ∷ []) = option_map to_find (trigger_of trigger)
find_of _ = None

-- what the first and the last clock ask
abbrev pub wave_of : List (List ℕ) → Option Asked
wave_of (from ∷ to ∷ []) = option_map (λ range. to_wave range.0 range.1) (range_of from to)
wave_of _ = None

-- the verbs that look at a dump
abbrev pub looks : List Verb
looks = record { name = codes "check"; arguments = dump_alone; asked = just to_check }
    ∷ record { name = codes "audit"; arguments = dump_alone; asked = just to_audit }
    ∷ record { name = codes "show"; arguments = dump_alone; asked = just to_show }
    ∷ record { name = codes "find"; arguments = dump_and_trigger; asked = find_of }
    ∷ record { name = codes "wave"; arguments = dump_and_clocks; asked = wave_of }
    ∷ []

-- so many words stand behind the dump's name
abbrev pub fits : Arguments → List (List ℕ) → Bool
fits dump_alone [] = true
fits dump_and_trigger (trigger ∷ []) = true
fits dump_and_clocks (from ∷ to ∷ []) = true
fits _ _ = false

-- what follows such a verb: the name of a dump, and the words behind it
abbrev pub look_of : Arguments → (List (List ℕ) → Option Asked) → List (List ℕ) → Option Form
look_of arguments asked [] = None
look_of arguments asked (dump ∷ words) =
    if fits arguments words then option_map (ask dump) (asked words) else None

-- the form of the first of these verbs that has the name
abbrev pub look_behind : List Verb → List ℕ → List (List ℕ) → Option Form
look_behind [] name words = None
look_behind (verb ∷ verbs) name words =
    if bytes_eq name verb.name then look_of verb.arguments verb.asked words
    else look_behind verbs name words

-- ---- the others

-- a word that may stand in a command line: 1 to 4,096 bytes, of which the first is no dash
abbrev pub is_word : List ℕ → Bool
is_word [] = false
is_word (b ∷ bs) = not (b == 45) && nat_le (length (b ∷ bs)) 4096

-- what follows `run`: the name of a bench file, and maybe that of a dump
abbrev pub run_of : List (List ℕ) → Option Form
run_of (bench ∷ []) = Some (run bench None)
run_of (bench ∷ dump ∷ []) = Some (run bench (Some dump))
run_of _ = None

-- the plan of these numbers, where each is there
abbrev pub plan_named : Option ℕ → Option ℕ → Option ℕ → Option Form
plan_named (Some seed) (Some agents) (Some items) = Some (gen seed agents items)
plan_named _ _ _ = None

-- what follows `gen`: the seed, the number of agents and that of items
abbrev pub gen_of : List (List ℕ) → Option Form
gen_of (seed ∷ agents ∷ items ∷ []) =
    plan_named (seed_named seed) (agents_named agents) (items_named items)
gen_of _ = None

-- the form of a verb and the words behind it
unfoldable pub form_behind : List ℕ → List (List ℕ) → Option Form
form_behind verb words =
    if bytes_eq verb (codes "run") then run_of words
    else (if bytes_eq verb (codes "gen") then gen_of words else look_behind looks verb words)

-- the form of words of which each may stand in a command line
abbrev pub form_of_all : List (List ℕ) → Option Form
form_of_all [] = None
form_of_all (verb ∷ words) = form_behind verb words

-- the form that the words have, None where they have none
unfoldable pub form_of : List (List ℕ) → Option Form
form_of words = if list_all is_word words then form_of_all words else None

-- a form that only reads a dump
abbrev pub looks_only : Form → Bool
looks_only (run bench dump) = false
looks_only (ask dump asked) = true
looks_only (gen seed agents items) = false

-- names have at most 4,096 bytes; a plan is made for 1 to 4 agents with 1 to 4,096 items each
abbrev pub KeepsLimits : Form → Type 0
KeepsLimits (run bench dump) = (length bench ≤ 4096) × IfSome dump (λ name. length name ≤ 4096)
KeepsLimits (ask dump asked) = length dump ≤ 4096
KeepsLimits (gen seed agents items) =
    (1 ≤ agents) × (agents ≤ 4) × (1 ≤ items) × (items ≤ 4096)
