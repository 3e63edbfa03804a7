-- The command line as `clap` is told of it.
use Rattle.std.specs.Prelude.{◌≡◌, ℕ, true, false, Option, None, Some, List, [], ◌∷◌, map, codes}
use Rattle.clap.specs.Words.{App, Rule, Shape, fault_of, new_rule, subcommand_of, subcommand_rows_of}
use Rattle.clap.specs.Simple.{new_shape}
use Rattle.clap.specs.declared.parser.matches.ArgMatches.{ArgMatches}
use Rattle.fsb_command.specs.declared.usage.LookVerb.{LookVerb}
use Rattle.fsb_command.specs.Form.{Arguments, Verb, dump_alone, dump_and_trigger, dump_and_clocks, looks}

-- an argument that has to be there
abbrev pub needed : List ℕ → Rule
needed id = record (new_rule id) { required = true }

-- a verb and the arguments behind it
abbrev pub verb : List ℕ → List Rule → Shape
verb name rules = record (new_shape name) { rules = rules }

-- a verb whose arguments all have to be there
abbrev pub verb_of : List ℕ → List (List ℕ) → Shape
verb_of name ids = verb name (map needed ids)

-- the names of the arguments behind the dump
abbrev pub ids_behind : Arguments → List (List ℕ)
ids_behind dump_alone = []
ids_behind dump_and_trigger = codes "trigger" ∷ []
ids_behind dump_and_clocks = codes "from" ∷ codes "to" ∷ []

-- a verb that looks at a dump
abbrev pub look_verb : Verb → Shape
look_verb look = verb_of look.name (codes "dump" ∷ ids_behind look.arguments)

-- the same, as the code has it
abbrev pub verb_told : LookVerb → Shape
verb_told look = verb_of look.name.now (map (λ id. id.now) look.ids.now)

-- the program with its verbs
unfoldable pub usage : App
usage = record {
  top = record (new_shape (codes "p6bench")) {
    is_leaf = false;
    no_binary_name = true;
    disable_help_flag = true;
    disable_help_subcommand = true;
    subcommand_required = true;
  };
  subs = verb (codes "run") (needed (codes "bench") ∷ new_rule (codes "dump") ∷ [])
      ∷ verb_of (codes "gen") (codes "seed" ∷ codes "agents" ∷ codes "items" ∷ [])
      ∷ map look_verb looks;
}

-- `clap` refuses exactly the words in which the usage has a fault, and finds in others what it has
abbrev pub IsFound : List (List ℕ) → Option ArgMatches → Type 0
IsFound words None = fault_of usage words ≡ [] → ⊥
IsFound words (Some matches) = (fault_of usage words ≡ [])
    × (subcommand_rows_of matches ≡ subcommand_of usage words)
