-- The form of what `clap` found in the words.
use Rattle.std.specs.Prelude.{ℕ, Option, None, Some, option_map, option_and_then, List, [], ◌∷◌, codes, if◌then◌else◌}
use Rattle.std.specs.Str.{bytes_eq}
use Rattle.clap.specs.Words.{Row, first_of}
use Rattle.fsb_command.specs.Form.{Arguments, dump_alone, dump_and_trigger, dump_and_clocks}
use Rattle.fsb_command.specs.Form.{Asked, Form, Verb, ask, run, looks, plan_named}
use Rattle.fsb_command.specs.Number.{agents_named, items_named, seed_named}

-- the words that were found for the arguments behind the dump
abbrev pub words_found : Arguments → (List ℕ → Option (List ℕ)) → Option (List (List ℕ))
words_found dump_alone word = Some []
words_found dump_and_trigger word = option_map (λ trigger. trigger ∷ []) (word (codes "trigger"))
words_found dump_and_clocks word =
    option_and_then (λ from. option_map (λ to. from ∷ to ∷ []) (word (codes "to"))) (word (codes "from"))

-- what the words that were found ask, by the first of these verbs that has the name
abbrev pub asked_found : List Verb → List ℕ → (List ℕ → Option (List ℕ)) → Option Asked
asked_found [] name word = None
asked_found (verb ∷ verbs) name word =
    if bytes_eq name verb.name then option_and_then verb.asked (words_found verb.arguments word)
    else asked_found verbs name word

-- the form of a verb and of the words that were found for its arguments, by their names
unfoldable pub form_found : List ℕ → (List ℕ → Option (List ℕ)) → Option Form
form_found verb word =
    if bytes_eq verb (codes "run")
    then option_map (λ bench. run bench (word (codes "dump"))) (word (codes "bench"))
    else (if bytes_eq verb (codes "gen")
    then plan_named (option_and_then seed_named (word (codes "seed")))
    (option_and_then agents_named (word (codes "agents")))
    (option_and_then items_named (word (codes "items")))
    else option_and_then (λ dump. option_map (ask dump) (asked_found looks verb word))
    (word (codes "dump")))

-- the same, of the rows that a parse has
abbrev pub form_in : List ℕ × List Row → Option Form
form_in found = form_found found.0 (λ id. first_of id found.1)
