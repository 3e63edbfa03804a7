-- What `clap` finds in the plain words behind a verb, by how many they are.
use Rattle.std.proofs.Common.{◌≡◌, ◌∙◌, true, false, List, [], ◌∷◌, None, Some, codes, refl, ap, ap₂}
use Rattle.clap.specs.Walk.{Held, Row, Rule, Text, Walk, finished, nothing_held, rows_after, settled, walk, walk_from}
use Rattle.clap.specs.Walk.{walked}
use Rattle.clap.specs.Simple.{Shape, filled_from, new_rule, new_shape}
use Rattle.clap.specs.Kinds.{Kinds, or_else}
use Rattle.clap.specs.Faults.{check_fault, defaults_fault, level_fault, settle_fault, walk_fault}
use Rattle.clap.specs.declared.builder.value_parser.Reading.TheVariants as reading
use Rattle.clap.specs.declared.parser.matches.ValueSource.TheVariants.{CommandLine}
use Rattle.clap.specs.declared.error.kind.ErrorKind.{ErrorKind}
use Rattle.clap.specs.declared.error.kind.ErrorKind.TheVariants as kind
use Rattle.fsb_command.specs.Usage.{needed}
use Rattle.fsb_command.proofs.Turns.{IsPlain, fault_at, placed, turned}

-- a verb with its arguments, as the parse has it
abbrev pub leaf : Text → List Rule → Shape
leaf name rules = record (new_shape name) {
  rules = filled_from 1 rules;
  no_binary_name = true;
  disable_help_flag = true;
  disable_help_subcommand = true;
  is_built = true;
}

-- what is left of the faults of a verb once its words are walked
abbrev end_fault : Shape → Held → Kinds
end_fault s h = or_else (settle_fault s.rules s.args_override_self h)
    (or_else (defaults_fault (settled s.rules h).rows s.rules)
    (check_fault s (finished s.rules h) false))

-- the faults of the words behind a verb
abbrev pub fault_behind : Shape → List Text → Kinds
fault_behind s words = level_fault s [] nothing_held words false []

-- the faults of the words, by those of the walk and by its end
pub ended : (s : Shape) (words : List Text) (turns : Kinds) (end : Walk)
    → walk_fault s [] (walk_from nothing_held) words ≡ turns
    → walk s.rules [] nothing_held words ≡ end → fault_behind s words ≡ or_else turns (end_fault s end.held)
ended s words turns end faults walk_is = ap₂ (λ (f : Kinds) (w : Walk). or_else f (end_fault s w.held)) faults walk_is

-- a fault of the walk is one of the words
pub past : (s : Shape) (words : List Text) (k : ErrorKind) (ks : Kinds)
    → walk_fault s [] (walk_from nothing_held) words ≡ k ∷ ks → fault_behind s words ≡ k ∷ ks
past s words k ks faults = ap (λ f. or_else f (end_fault s (walk s.rules [] nothing_held words).held)) faults

-- what is found for an argument
abbrev pub found : Text → Text → Row
found id word = record {
  id = id;
  values = word ∷ [];
  count = None;
  source = Some CommandLine;
  reading = reading.AsWritten;
}

-- a word is lacking, or is one too many
abbrev pub lacking : Kinds
lacking = kind.MissingRequiredArgument ∷ []

abbrev pub stray : Kinds
stray = kind.UnknownArgument ∷ []

-- ---- a verb with the name of a dump behind it

module _ (name : Text) where
  abbrev pub look : Shape
  look = leaf name (needed (codes "dump") ∷ [])

  pub look_of_none : fault_behind look [] ≡ lacking
  unfolding walk_fault defaults_fault
  look_of_none = refl

  module _ (a : Text) (is_a : IsPlain a) where
    abbrev look_1 : Walk
    look_1 = placed look.rules nothing_held 1 a

    look_walk : walk look.rules [] nothing_held (a ∷ []) ≡ look_1
    look_walk = turned look.rules nothing_held 1 a is_a

    pub look_of_one : fault_behind look (a ∷ []) ≡ []
    unfolding walk_fault defaults_fault
    look_of_one = ended look (a ∷ []) [] look_1 (fault_at look nothing_held 1 a [] is_a) look_walk

    pub look_rows : rows_after look.rules [] (a ∷ []) ≡ found (codes "dump") a ∷ []
    look_rows = ap (λ w. finished look.rules w.held) look_walk

    module _ (b : Text) (is_b : IsPlain b) where
      pub look_of_more : (rest : List Text) → fault_behind look (a ∷ b ∷ rest) ≡ stray
      unfolding walk_fault
      look_of_more rest = past look (a ∷ b ∷ rest) _ _
          (fault_at look nothing_held 1 a (b ∷ rest) is_a ∙ fault_at look look_1.held 2 b rest is_b)

-- ---- a bench file, and maybe a dump

module _ (name : Text) where
  abbrev pub pair : Shape
  pair = leaf name (needed (codes "bench") ∷ new_rule (codes "dump") ∷ [])

  pub pair_of_none : fault_behind pair [] ≡ lacking
  unfolding walk_fault defaults_fault
  pair_of_none = refl

  module _ (a : Text) (is_a : IsPlain a) where
    abbrev pair_1 : Walk
    pair_1 = placed pair.rules nothing_held 1 a

    pair_walk : walk pair.rules [] nothing_held (a ∷ []) ≡ pair_1
    pair_walk = turned pair.rules nothing_held 1 a is_a

    pub pair_of_one : fault_behind pair (a ∷ []) ≡ []
    unfolding walk_fault defaults_fault
    pair_of_one = ended pair (a ∷ []) [] pair_1 (fault_at pair nothing_held 1 a [] is_a) pair_walk

    pub pair_rows_of_one : rows_after pair.rules [] (a ∷ []) ≡ found (codes "bench") a ∷ []
    pair_rows_of_one = ap (λ w. finished pair.rules w.held) pair_walk

    module _ (b : Text) (is_b : IsPlain b) where
      abbrev pair_2 : Walk
      pair_2 = placed pair.rules pair_1.held 2 b

      pair_walks : walk pair.rules [] nothing_held (a ∷ b ∷ []) ≡ pair_2
      pair_walks = ap (λ w. walked pair.rules [] w b) pair_walk ∙ turned pair.rules pair_1.held 2 b is_b

      pair_turns : (rest : List Text) → walk_fault pair [] (walk_from nothing_held)
          (a ∷ b ∷ rest) ≡ walk_fault pair [] pair_2 rest
      pair_turns rest = fault_at pair nothing_held 1 a (b ∷ rest) is_a ∙ fault_at pair pair_1.held 2 b rest is_b

      pub pair_of_two : fault_behind pair (a ∷ b ∷ []) ≡ []
      unfolding walk_fault defaults_fault
      pair_of_two = ended pair (a ∷ b ∷ []) [] pair_2 (pair_turns []) pair_walks

      pub pair_rows : rows_after pair.rules [] (a ∷ b ∷ []) ≡ found (codes "bench") a ∷ found (codes "dump") b ∷ []
      pair_rows = ap (λ w. finished pair.rules w.held) pair_walks

      module _ (c : Text) (is_c : IsPlain c) where
        pub pair_of_more : (rest : List Text) → fault_behind pair (a ∷ b ∷ c ∷ rest) ≡ stray
        pair_of_more rest = past pair (a ∷ b ∷ c ∷ rest) _ _
            (pair_turns (c ∷ rest) ∙ fault_at pair pair_2.held 3 c rest is_c)

-- ---- a dump and a trigger

module _ (name : Text) where
  abbrev pub search : Shape
  search = leaf name (needed (codes "dump") ∷ needed (codes "trigger") ∷ [])

  pub search_of_none : fault_behind search [] ≡ lacking
  unfolding walk_fault defaults_fault
  search_of_none = refl

  module _ (a : Text) (is_a : IsPlain a) where
    abbrev search_1 : Walk
    search_1 = placed search.rules nothing_held 1 a

    search_walk : walk search.rules [] nothing_held (a ∷ []) ≡ search_1
    search_walk = turned search.rules nothing_held 1 a is_a

    pub search_of_one : fault_behind search (a ∷ []) ≡ lacking
    unfolding walk_fault defaults_fault
    search_of_one = ended search (a ∷ []) [] search_1 (fault_at search nothing_held 1 a [] is_a) search_walk

    module _ (b : Text) (is_b : IsPlain b) where
      abbrev search_2 : Walk
      search_2 = placed search.rules search_1.held 2 b

      search_walks : walk search.rules [] nothing_held (a ∷ b ∷ []) ≡ search_2
      search_walks = ap (λ w. walked search.rules [] w b) search_walk ∙ turned search.rules search_1.held 2 b is_b

      search_turns : (rest : List Text) → walk_fault search [] (walk_from nothing_held)
          (a ∷ b ∷ rest) ≡ walk_fault search [] search_2 rest
      search_turns rest = fault_at search nothing_held 1 a (b ∷ rest) is_a ∙ fault_at search search_1.held 2 b rest is_b

      pub search_of_two : fault_behind search (a ∷ b ∷ []) ≡ []
      unfolding walk_fault defaults_fault
      search_of_two = ended search (a ∷ b ∷ []) [] search_2 (search_turns []) search_walks

      pub search_rows : rows_after search.rules [] (a ∷ b ∷ []) ≡ found (codes "dump") a ∷ found
          (codes "trigger") b ∷ []
      search_rows = ap (λ w. finished search.rules w.held) search_walks

      module _ (c : Text) (is_c : IsPlain c) where
        pub search_of_more : (rest : List Text) → fault_behind search (a ∷ b ∷ c ∷ rest) ≡ stray
        search_of_more rest = past search (a ∷ b ∷ c ∷ rest) _ _
            (search_turns (c ∷ rest) ∙ fault_at search search_2.held 3 c rest is_c)
