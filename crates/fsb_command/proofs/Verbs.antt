-- A verb enters the arguments behind it.
use Rattle.std.proofs.Common.{◌≡◌, ◌∙◌, ◌⊎◌, ◌&&◌, Bool, true, false, List, [], ◌∷◌, map, Option, None, Some, codes, refl}
use Rattle.std.proofs.Common.{sym, ap, ap₂, is_some, inl, inr, ⊎_elim, true≢false}
use Rattle.std.specs.Prelude.{option_and_then}
use Rattle.std.proofs.lemmas.Bool.{cases_Bool}
use Rattle.std.proofs.lemmas.Slice.Eq.{bytes_eq-Decides}
use Rattle.std.specs.List.{find, fold}
use Rattle.std.specs.Option.{option_map, option_map_or}
use Rattle.std.specs.Str.{bytes_eq}
use Rattle.clap.specs.Walk.{Text, Walk, answers_to, finished, nothing_held, rows_after, settled, walk, walk_from}
use Rattle.clap.specs.Walk.{Names, idle, subcommand_met, walked}
use Rattle.clap.specs.Simple.{App, Shape, built, entered, is_simple, label_of, names_of, rows_at, subcommand_of}
use Rattle.clap.specs.Kinds.{Kinds, or_else}
use Rattle.clap.specs.Faults.{check_fault, defaults_fault, entered_fault, fault_of, is_simple_and_free, level_fault}
use Rattle.clap.specs.Faults.{settle_fault, turn_fault, walk_fault}
use Rattle.clap.proofs.FaultLemmas.{stopped_fault}
use Rattle.clap.proofs.WalkLemmas.{find-map, walk_stopped}
use Rattle.fsb_command.specs.Form.{Arguments, Verb, look_behind, look_of, looks}
use Rattle.fsb_command.specs.Found.{asked_found, words_found}
use Rattle.fsb_command.specs.Usage.{ids_behind, needed, usage}
use Rattle.clap.specs.declared.error.kind.ErrorKind.TheVariants as kind
use Rattle.fsb_command.proofs.Turns.{IsPlain}
use Rattle.fsb_command.proofs.Leaves.{fault_behind, leaf, pair}
use Rattle.fsb_command.proofs.LongLeaves.{made}

-- the usage has nothing whose matches are not said
pub usage_is_simple : is_simple usage ≡ true
unfolding usage
usage_is_simple = refl

pub usage_is_free : is_simple_and_free usage ≡ true
unfolding usage
usage_is_free = refl

-- the usage as the parse has it
abbrev parsed : App
parsed = built usage

-- the faults of words, by those of the walk over the verb and by where it ends
abbrev fault_by : Kinds → Walk → Kinds
fault_by turns end =
    or_else turns (or_else (entered_fault parsed end.stopped)
    (or_else (settle_fault parsed.top.rules parsed.top.args_override_self end.held)
    (or_else (defaults_fault (settled parsed.top.rules end.held).rows parsed.top.rules)
    (check_fault parsed.top (finished parsed.top.rules end.held) (is_some (entered parsed end.stopped))))))

-- where the walk ends that a verb stops
abbrev stopped_at : Text → List Text → Walk
stopped_at name words = record (walk_from nothing_held) { stopped = Some (name, words) }

all_is : (words : List Text) → fault_of usage words ≡ fault_by
    (walk_fault parsed.top (names_of parsed) (walk_from nothing_held) words)
    (walk parsed.top.rules (names_of parsed) nothing_held words)
unfolding usage
all_is words = refl

-- the verb stops the walk over the program's words, and has these arguments
pub record Enters (name : Text) (s : Shape) : Type 0 where
  pub passes : turn_fault parsed.top (names_of parsed) (walk_from nothing_held) name ≡ []
  pub stops : walked parsed.top.rules (names_of parsed) (walk_from nothing_held) name ≡ stopped_at name []
  pub is_found : find (λ s. answers_to name (label_of s)) parsed.subs ≡ Some s

module _ (name : Text) (s : Shape) (enters : Enters name s) (words : List Text) where
  walk_ends : walk parsed.top.rules (names_of parsed) nothing_held (name ∷ words) ≡ stopped_at name words
  walk_ends =
      ap (λ w. fold (walked parsed.top.rules (names_of parsed)) w words) enters.stops
      ∙ sym (walk_stopped parsed.top.rules (names_of parsed) (walk_from nothing_held) name [] words)

  walk_passes : walk_fault parsed.top (names_of parsed) (walk_from nothing_held) (name ∷ words) ≡ []
  unfolding walk_fault
  walk_passes =
      ap₂ (λ (f : Kinds) (w : Walk). or_else f
      (walk_fault parsed.top (names_of parsed) w words)) enters.passes enters.stops
      ∙ stopped_fault parsed.top (names_of parsed) (walk_from nothing_held) (name, []) words

  entered_by : (o : Option Shape) → o ≡ Some s
      → option_map_or (λ s. level_fault s [] nothing_held words false []) o [] ≡ fault_behind s words
  entered_by o e = ap (λ o. option_map_or (λ s. level_fault s [] nothing_held words false []) o []) e

  -- the faults of the words are those behind the verb
  pub fault_is : fault_of usage (name ∷ words) ≡ or_else (fault_behind s words) []
  unfolding usage defaults_fault
  fault_is =
      all_is (name ∷ words) ∙ ap₂ fault_by walk_passes walk_ends
      ∙ ap₂ (λ f has. or_else f (check_fault parsed.top [] has)) (entered_by _ enters.is_found)
      (ap is_some (ap (option_map (λ s. rows_at s words)) enters.is_found))

  -- what is found is what is found behind the verb
  pub rows_are : subcommand_of usage (name ∷ words) ≡ Some (s.name, rows_after s.rules [] words)
  unfolding usage
  rows_are = ap (λ w. entered parsed w.stopped) walk_ends ∙ ap (option_map (λ s. rows_at s words)) enters.is_found

-- a test that holds together with none does not hold
no_both : (b : Bool) → b && false ≡ false
no_both true = refl
no_both false = refl

-- a word that names a verb is no fault of its level, and stops the walk
module _ (top : Shape) (names : Names) (name : Text) (no_help : top.disable_help_subcommand ≡ true)
    (met : subcommand_met names idle name ≡ Some name) where
  passed_by : turn_fault top names (walk_from nothing_held) name ≡ []
  passed_by = rw (met, no_help, no_both (bytes_eq name (codes "help"))) refl

  stopped_by : walked top.rules names (walk_from nothing_held) name ≡ stopped_at name []
  unfolding walked
  stopped_by = rw met refl

-- a word that names none, and is no flag, goes to no argument
strayed_by : (top : Shape) (names : Names) (word : Text) → top.rules ≡ [] → top.is_leaf ≡ false
    → subcommand_met names idle word ≡ None → IsPlain word
    → turn_fault top names (walk_from nothing_held) word ≡ kind.UnknownArgument ∷ kind.InvalidSubcommand ∷ []
strayed_by top names word no_rules no_leaf met plain =
    rw (met, no_rules, no_leaf, plain.0, plain.1, plain.2) refl

-- a word that finds a verb enters its arguments
module _ (name : Text) (s : Shape) (is_found : find (λ s. answers_to name (label_of s)) parsed.subs ≡ Some s)
    (named : s.name ≡ name) where
  met : subcommand_met (names_of parsed) idle name ≡ Some name
  met = ap (option_map (λ p. p.0)) (sym (find-map (answers_to name) label_of parsed.subs)
      ∙ ap (option_map label_of) is_found) ∙ ap (λ n. Some n) named

  pub enters : Enters name s
  unfolding usage
  enters = record {
    passes = passed_by parsed.top (names_of parsed) name refl met;
    stops = stopped_by parsed.top (names_of parsed) name refl met;
    is_found = is_found;
  }

pub run_enters : Enters (codes "run") (pair (codes "run"))
unfolding usage
run_enters = enters (codes "run") (pair (codes "run")) refl refl

pub gen_enters : Enters (codes "gen") (made (codes "gen"))
unfolding usage
gen_enters = enters (codes "gen") (made (codes "gen")) refl refl

-- ---- the verbs that look at a dump

-- such a verb, as the parse has it
abbrev pub look_leaf : Text → Arguments → Shape
look_leaf name arguments = leaf name (map needed (codes "dump" ∷ ids_behind arguments))

abbrev pub leaf_of : Verb → Shape
leaf_of verb = look_leaf verb.name verb.arguments

-- the word is the name of this verb, which is the first of these that has it
pub record Meets (verbs : List Verb) (word : Text) (verb : Verb) : Type 0 where
  pub named : verb.name ≡ word
  pub is_found : find (λ s. answers_to word (label_of s)) (map leaf_of verbs) ≡ Some (leaf_of verb)
  pub behind : (words : List Text) → look_behind verbs word words ≡ look_of verb.arguments verb.asked words
  pub asked : (given : Text → Option Text) → asked_found verbs word given ≡ option_and_then verb.asked
      (words_found verb.arguments given)

-- the word is the name of none of these verbs
pub record Misses (verbs : List Verb) (word : Text) : Type 0 where
  pub not_found : find (λ s. answers_to word (label_of s)) (map leaf_of verbs) ≡ None
  pub behind : (words : List Text) → look_behind verbs word words ≡ None

-- texts that differ differ in either order
pub differ : (name word : Text) → bytes_eq name word ≡ false → bytes_eq word name ≡ false
differ name word e = ⊎_elim
    (λ t. absurd (true≢false (sym ((bytes_eq-Decides name word).1 (sym ((bytes_eq-Decides word name).0 t))) ∙ e)))
    (λ f. f) (cases_Bool (bytes_eq word name))

module _ (verb : Verb) (verbs : List Verb) (word : Text) where
  here : bytes_eq verb.name word ≡ true → Meets (verb ∷ verbs) word verb
  here t =
      let same : verb.name ≡ word = (bytes_eq-Decides verb.name word).0 t in
      let back : bytes_eq word verb.name ≡ true = (bytes_eq-Decides word verb.name).1 (sym same) in
      record {
        named = same;
        is_found = rw t refl;
        behind = λ words. rw back refl;
        asked = λ given. rw back refl;
      }

  there : (other : Verb) → bytes_eq verb.name word ≡ false → Meets verbs word other → Meets (verb ∷ verbs) word other
  there other f m =
      let back = differ verb.name word f in
      record {
        named = m.named;
        is_found = rw f m.is_found;
        behind = λ words. rw back (m.behind words);
        asked = λ given. rw back (m.asked given);
      }

  not_here : bytes_eq verb.name word ≡ false → Misses verbs word → Misses (verb ∷ verbs) word
  not_here f m =
      let back = differ verb.name word f in
      record { not_found = rw f m.not_found; behind = λ words. rw back (m.behind words) }

-- a word is the name of one of these verbs, or of none
pub met_or_missed : (verbs : List Verb) (word : Text) → ((verb : Verb) × Meets verbs word verb) ⊎ Misses verbs word
met_or_missed [] word = inr (record { not_found = refl; behind = λ words. refl })
met_or_missed (verb ∷ verbs) word =
    elim (cases_Bool (bytes_eq verb.name word)) [
      | inl t ↦ inl (verb, here verb verbs word t)
      | inr f ↦ elim (met_or_missed verbs word) [
        | inl m ↦ inl (m.0, there verb verbs word m.0 f m.1)
        | inr m ↦ inr (not_here verb verbs word f m)
      ]
    ]

-- the word is neither of the two verbs that look at no dump
abbrev pub IsNoRun : Text → Type 0
IsNoRun word = (bytes_eq (codes "run") word ≡ false) × (bytes_eq (codes "gen") word ≡ false)

-- the name of such a verb enters its arguments
pub look_enters : (word : Text) → IsNoRun word → (verb : Verb) → Meets looks word verb → Enters word (leaf_of verb)
unfolding usage
look_enters word none verb m = enters word (leaf_of verb) (rw (none.0, none.1) m.is_found) m.named

-- another word has no argument to go to
pub other_fault_is : (word : Text) (words : List Text) → IsNoRun word → Misses looks word → IsPlain word
    → fault_of usage (word ∷ words) ≡ kind.UnknownArgument ∷ kind.InvalidSubcommand ∷ []
unfolding usage walk_fault
other_fault_is word words none misses plain =
    let unknown : find (λ s. answers_to word (label_of s)) parsed.subs ≡ None = rw (none.0, none.1) misses.not_found in
    let met : subcommand_met (names_of parsed) idle word ≡ None =
    ap (option_map (λ p. p.0)) (sym (find-map (answers_to word) label_of parsed.subs)
    ∙ ap (option_map label_of) unknown) in
    let turn = strayed_by parsed.top (names_of parsed) word refl refl met plain in
    let end = walk parsed.top.rules (names_of parsed) nothing_held (word ∷ words) in
    all_is (word ∷ words) ∙ ap (λ f. fault_by
    (or_else f (walk_fault parsed.top (names_of parsed)
    (walked parsed.top.rules (names_of parsed) (walk_from nothing_held) word) words)) end) turn
