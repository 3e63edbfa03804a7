-- What `clap` finds in words that may stand in a command line is the form that they have.
use Rattle.std.proofs.Common.{◌≡◌, ◌∙◌, ◌⊎◌, ℕ, Bool, true, false, List, [], ◌∷◌, Option, None, Some, codes, refl, sym}
use Rattle.std.proofs.Common.{ap, subst, inl, inr, ⊎_elim, true≢false}
use Rattle.std.specs.Prelude.{cond, option_and_then, option_map}
use Rattle.std.specs.List.{list_all}
use Rattle.std.specs.Str.{bytes_eq}
use Rattle.std.proofs.lemmas.Bool.{cases_Bool}
use Rattle.std.proofs.lemmas.Slice.Eq.{bytes_eq-Decides}
use Rattle.clap.specs.Walk.{Row, Text, rows_after}
use Rattle.clap.specs.Simple.{Shape, subcommand_of}
use Rattle.clap.specs.Kinds.{Kinds, or_else}
use Rattle.clap.specs.Faults.{defaults_fault, fault_of, walk_fault}
use Rattle.clap.specs.declared.error.kind.ErrorKind.{ErrorKind}
use Rattle.clap.specs.declared.error.kind.ErrorKind.TheVariants as kind
use Rattle.clap.proofs.WalkLemmas.{both}
use Rattle.fsb_command.specs.Form.{Arguments, Asked, Form, Verb, dump_alone, dump_and_clocks, dump_and_trigger}
use Rattle.fsb_command.specs.Form.{form_behind, form_of, form_of_all, is_word, ask, look_behind, look_of, looks}
use Rattle.fsb_command.specs.Found.{asked_found, form_found, form_in, words_found}
use Rattle.fsb_command.specs.Usage.{usage}
use Rattle.fsb_command.proofs.Turns.{IsPlain, plain_word}
use Rattle.fsb_command.proofs.Leaves.{fault_behind, found, look_of_more, look_of_none, look_of_one, look_rows}
use Rattle.fsb_command.proofs.Leaves.{pair_of_more, pair_of_none, pair_of_one, pair_of_two, pair_rows, pair_rows_of_one}
use Rattle.fsb_command.proofs.Leaves.{search_of_more, search_of_none, search_of_one, search_of_two, search_rows}
use Rattle.fsb_command.proofs.LongLeaves.{drawn_of_more, drawn_of_none, drawn_of_one, drawn_of_three, drawn_of_two}
use Rattle.fsb_command.proofs.LongLeaves.{drawn_rows, made_of_more, made_of_none, made_of_one, made_of_three}
use Rattle.fsb_command.proofs.LongLeaves.{made_of_two, made_rows}
use Rattle.fsb_command.proofs.Verbs.{Enters, IsNoRun, Meets, Misses, differ, fault_is, gen_enters, look_enters}
use Rattle.fsb_command.proofs.Verbs.{look_leaf, met_or_missed, other_fault_is, rows_are, run_enters}

-- the usage has no fault in the words, and what is found in them is the form; or it has one, and they have no form
abbrev pub ReadsAs : List Text → Option Form → Type 0
ReadsAs words form = ((fault_of usage words ≡ []) × (option_and_then form_in (subcommand_of usage words) ≡ form))
    ⊎ ((k : ErrorKind) × (ks : Kinds) × (fault_of usage words ≡ k ∷ ks) × (form ≡ None))

module _ (name : Text) (s : Shape) (enters : Enters name s) (words : List Text) (form : Option Form) where
  read_as : (rows : List Row) → fault_behind s words ≡ [] → rows_after s.rules [] words ≡ rows
      → form_in (s.name, rows) ≡ form → ReadsAs (name ∷ words) form
  read_as rows no_fault rows_is is_form = inl (
    fault_is name s enters words ∙ ap (λ f. or_else f []) no_fault,
    ap (option_and_then form_in) (rows_are name s enters words ∙ ap (λ r. Some (s.name, r)) rows_is) ∙ is_form,
  )

  refused_as : (k : ErrorKind) (ks : Kinds) → fault_behind s words ≡ k ∷ ks → form ≡ None → ReadsAs (name ∷ words) form
  refused_as k ks fault none = inr (k, ks, fault_is name s enters words ∙ ap (λ f. or_else f []) fault, none)

-- each of the words is plain
abbrev ArePlain : List Text → Type 0
ArePlain [] = Unit {0}
ArePlain (word ∷ words) = IsPlain word × ArePlain words

are_plain : (words : List Text) → list_all is_word words ≡ true → ArePlain words
are_plain [] e = tt
are_plain (word ∷ words) e = (plain_word word (both _ _ e).0, are_plain words (both _ _ e).1)

run_reads : (words : List Text) → ArePlain words → ReadsAs (codes "run" ∷ words) (form_behind (codes "run") words)
unfolding form_behind form_found
run_reads [] p = refused_as _ _ run_enters [] _ _ _ (pair_of_none (codes "run")) refl
run_reads (a ∷ []) p = read_as _ _ run_enters (a ∷ []) _ _ (pair_of_one (codes "run") a p.0)
    (pair_rows_of_one (codes "run") a p.0) refl
run_reads (a ∷ b ∷ []) p = read_as _ _ run_enters (a ∷ b ∷ []) _ _ (pair_of_two (codes "run") a p.0 b p.1.0)
    (pair_rows (codes "run") a p.0 b p.1.0) refl
run_reads (a ∷ b ∷ c ∷ rest) p = refused_as _ _ run_enters (a ∷ b ∷ c ∷ rest) _ _ _
    (pair_of_more (codes "run") a p.0 b p.1.0 c p.1.1.0 rest) refl

-- the words behind a verb that looks at a dump, by its arguments
look_reads : (name : Text) (arguments : Arguments) (asked : List Text → Option Asked)
    → Enters name (look_leaf name arguments)
    → ((given : Text → Option Text) → form_found name given ≡ option_and_then
    (λ dump. option_map (ask dump) (option_and_then asked (words_found arguments given))) (given (codes "dump")))
    → (words : List Text) → ArePlain words → ReadsAs (name ∷ words) (look_of arguments asked words)
look_reads name dump_alone asked enters is_form [] p = refused_as _ _ enters [] _ _ _ (look_of_none name) refl
look_reads name dump_alone asked enters is_form (a ∷ []) p =
    read_as _ _ enters (a ∷ []) _ _ (look_of_one name a p.0) (look_rows name a p.0) (is_form _)
look_reads name dump_alone asked enters is_form (a ∷ b ∷ rest) p =
    refused_as _ _ enters (a ∷ b ∷ rest) _ _ _ (look_of_more name a p.0 b p.1.0 rest) refl
look_reads name dump_and_trigger asked enters is_form [] p = refused_as _ _ enters [] _ _ _ (search_of_none name) refl
look_reads name dump_and_trigger asked enters is_form (a ∷ []) p =
    refused_as _ _ enters (a ∷ []) _ _ _ (search_of_one name a p.0) refl
look_reads name dump_and_trigger asked enters is_form (a ∷ b ∷ []) p =
    read_as _ _ enters (a ∷ b ∷ []) _ _ (search_of_two name a p.0 b p.1.0) (search_rows name a p.0 b p.1.0) (is_form _)
look_reads name dump_and_trigger asked enters is_form (a ∷ b ∷ c ∷ rest) p =
    refused_as _ _ enters (a ∷ b ∷ c ∷ rest) _ _ _ (search_of_more name a p.0 b p.1.0 c p.1.1.0 rest) refl
look_reads name dump_and_clocks asked enters is_form [] p = refused_as _ _ enters [] _ _ _ (drawn_of_none name) refl
look_reads name dump_and_clocks asked enters is_form (a ∷ []) p =
    refused_as _ _ enters (a ∷ []) _ _ _ (drawn_of_one name a p.0) refl
look_reads name dump_and_clocks asked enters is_form (a ∷ b ∷ []) p =
    refused_as _ _ enters (a ∷ b ∷ []) _ _ _ (drawn_of_two name a p.0 b p.1.0) refl
look_reads name dump_and_clocks asked enters is_form (a ∷ b ∷ c ∷ []) p =
    read_as _ _ enters (a ∷ b ∷ c ∷ []) _ _ (drawn_of_three name a p.0 b p.1.0 c p.1.1.0)
    (drawn_rows name a p.0 b p.1.0 c p.1.1.0) (is_form _)
look_reads name dump_and_clocks asked enters is_form (a ∷ b ∷ c ∷ d ∷ rest) p =
    refused_as _ _ enters (a ∷ b ∷ c ∷ d ∷ rest) _ _ _
    (drawn_of_more name a p.0 b p.1.0 c p.1.1.0 d p.1.1.1.0 rest) refl

gen_reads : (words : List Text) → ArePlain words → ReadsAs (codes "gen" ∷ words) (form_behind (codes "gen") words)
unfolding form_behind form_found
gen_reads [] p = refused_as _ _ gen_enters [] _ _ _ (made_of_none (codes "gen")) refl
gen_reads (a ∷ []) p = refused_as _ _ gen_enters (a ∷ []) _ _ _ (made_of_one (codes "gen") a p.0) refl
gen_reads (a ∷ b ∷ []) p = refused_as _ _ gen_enters (a ∷ b ∷ []) _ _ _ (made_of_two (codes "gen") a p.0 b p.1.0) refl
gen_reads (a ∷ b ∷ c ∷ []) p =
    read_as _ _ gen_enters (a ∷ b ∷ c ∷ []) _ _ (made_of_three (codes "gen") a p.0 b p.1.0 c p.1.1.0)
    (made_rows (codes "gen") a p.0 b p.1.0 c p.1.1.0) refl
gen_reads (a ∷ b ∷ c ∷ d ∷ rest) p =
    refused_as _ _ gen_enters (a ∷ b ∷ c ∷ d ∷ rest) _ _ _
    (made_of_more (codes "gen") a p.0 b p.1.0 c p.1.1.0 d p.1.1.1.0 rest) refl

-- what holds of a verb holds of the word that is it; else the word is another
by_verb : (P : Text → Type 0) (name word : Text) → P name → (bytes_eq name word ≡ false → P word) → P word
by_verb P name word here other =
    ⊎_elim (λ t. subst P ((bytes_eq-Decides name word).0 t) here) other (cases_Bool (bytes_eq name word))

-- a word that is neither `run` nor `gen`: its form is that of the verbs that look at a dump
module _ (word : Text) (none : IsNoRun word) where
  behind_looks : (words : List Text) → form_behind word words ≡ look_behind looks word words
  unfolding form_behind
  behind_looks words = rw (differ (codes "run") word none.0, differ (codes "gen") word none.1) refl

  found_looks : (given : Text → Option Text) → form_found word given ≡ option_and_then
      (λ dump. option_map (ask dump) (asked_found looks word given)) (given (codes "dump"))
  unfolding form_found
  found_looks given = rw (differ (codes "run") word none.0, differ (codes "gen") word none.1) refl

  one_reads : (verb : Verb) → Meets looks word verb → (words : List Text) → ArePlain words
      → ReadsAs (word ∷ words) (form_behind word words)
  one_reads verb m words plain =
      subst (ReadsAs (word ∷ words)) (sym (behind_looks words ∙ m.behind words))
      (look_reads word verb.arguments verb.asked
      (subst (λ (n : Text). Enters word (look_leaf n verb.arguments)) m.named (look_enters word none verb m))
      (λ given. found_looks given ∙ ap (λ (o : Option Asked).
      option_and_then (λ dump. option_map (ask dump) o) (given (codes "dump"))) (m.asked given))
      words plain)

  other_reads : Misses looks word → IsPlain word → (words : List Text) → ReadsAs (word ∷ words) (form_behind word words)
  other_reads m plain words = inr (
    kind.UnknownArgument,
    kind.InvalidSubcommand ∷ [],
    other_fault_is word words none m plain,
    behind_looks words ∙ m.behind words,
  )

  look_or_other_reads : IsPlain word → (words : List Text) → ArePlain words
      → ReadsAs (word ∷ words) (form_behind word words)
  look_or_other_reads plain words are =
      elim (met_or_missed looks word) [
        | inl m ↦ one_reads m.0 m.1 words are
        | inr m ↦ other_reads m plain words
      ]

verb_reads : (word : Text) (words : List Text) → IsPlain word → ArePlain words
    → ReadsAs (word ∷ words) (form_behind word words)
verb_reads word words plain rest =
    let P : Text → Type 0 = λ w. ReadsAs (w ∷ words) (form_behind w words) in
    by_verb P (codes "run") word (run_reads words rest) (λ r.
    by_verb P (codes "gen") word (gen_reads words rest) (λ g.
    look_or_other_reads word (r, g) plain words rest))

none_read : ReadsAs [] None
unfolding usage walk_fault defaults_fault
none_read = inr (kind.MissingSubcommand, [], refl, refl)

all_read : (words : List Text) → list_all is_word words ≡ true → ReadsAs words (form_of_all words)
all_read [] e = none_read
all_read (word ∷ words) e = verb_reads word words (plain_word word (both _ _ e).0) (are_plain words (both _ _ e).1)

-- words that may stand in a command line read as the form that they have
pub words_read : (words : List Text) → list_all is_word words ≡ true → ReadsAs words (form_of words)
unfolding form_of
words_read words e = subst (ReadsAs words) (sym (ap (λ b. cond b (form_of_all words) None) e)) (all_read words e)

-- words of which one may not stand in a command line have no form
pub no_form : (words : List Text) → list_all is_word words ≡ false → form_of words ≡ None
unfolding form_of
no_form words e = ap (λ b. cond b (form_of_all words) None) e

abbrev is_kind : Kinds → Bool
is_kind [] = false
is_kind (k ∷ ks) = true

-- what `clap` finds in words is their form
pub found_is_form : (words : List Text) (form : Option Form) (rows : Option (Text × List Row)) → ReadsAs words form
    → fault_of usage words ≡ [] → rows ≡ subcommand_of usage words
    → option_and_then form_in rows ≡ form
found_is_form words form rows (inl read) none is = ap (option_and_then form_in) is ∙ read.1
found_is_form words form rows (inr refused) none is = absurd (some_kind (sym refused.2 ∙ none))
  where
    some_kind : {k : ErrorKind} {ks : Kinds} → ◌≡◌ {A = Kinds} (k ∷ ks) [] → ⊥
    some_kind e = true≢false (ap (λ (x : Kinds). is_kind x) e)

-- words that it refuses have no form
pub refused_is_none : (words : List Text) (form : Option Form) → ReadsAs words form → (fault_of usage words ≡ [] → ⊥)
    → form ≡ None
refused_is_none words form (inl read) fault = absurd (fault read.0)
refused_is_none words form (inr refused) fault = refused.3
