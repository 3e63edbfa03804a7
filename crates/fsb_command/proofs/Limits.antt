-- What the words of a form keep to.
use Rattle.std.proofs.Common.{◌≡◌, ◌≤◌, ◌&&◌, ℕ, Bool, true, false, not, ◌==◌, cond, List, [], ◌∷◌, codes, length, Option}
use Rattle.std.proofs.Common.{None, Some, refl, sym, subst, arith, true≢false}
use Rattle.std.specs.Prelude.{nat_le, IfSome, option_and_then, option_map}
use Rattle.std.specs.List.{list_all}
use Rattle.std.specs.Str.{bytes_eq}
use Rattle.std.proofs.lemmas.Bool.Decides.{nat_tests}
use Rattle.clap.proofs.WalkLemmas.{both}
use Rattle.fsb_command.specs.Form.{Arguments, Asked, Form, KeepsLimits, Verb, fits, form_behind, form_of}
use Rattle.fsb_command.specs.Form.{form_of_all, gen_of, is_word, ask, look_behind, look_of, looks, plan_named, run_of}
use Rattle.fsb_command.specs.Number.{agents_named, items_named, seed_named, up_to}
use Rattle.fsb_command.specs.Command.{IsCommand, form_meant}
use Rattle.fsb_command.specs.declared.command.Command.{Command}

abbrev Kept : Option Form → Type 0
Kept form = IfSome form KeepsLimits

abbrev AreWords : List (List ℕ) → Type 0
AreWords words = list_all is_word words ≡ true

short : (word : List ℕ) → is_word word ≡ true → length word ≤ 4096
short [] e = absurd (true≢false (sym e))
short (b ∷ bs) e =
    let few : nat_le (length (b ∷ bs)) 4096 ≡ true = (both (not (b == 45)) (nat_le (length (b ∷ bs)) 4096) e).1 in
    grind (arith, nat_tests)

run_keeps : (words : List (List ℕ)) → AreWords words → Kept (run_of words)
run_keeps [] e = tt
run_keeps (a ∷ []) e = (short a (both _ _ e).0, tt)
run_keeps (a ∷ b ∷ []) e = (short a (both _ _ e).0, short b (both _ _ (both _ _ e).1).0)
run_keeps (a ∷ b ∷ c ∷ rest) e = tt

asked_keeps : (dump : List ℕ) → length dump ≤ 4096 → (asked : Option Asked) → Kept (option_map (ask dump) asked)
asked_keeps dump few None = tt
asked_keeps dump few (Some asked) = few

look_keeps : (arguments : Arguments) (asked : List (List ℕ) → Option Asked) (words : List (List ℕ)) → AreWords words
    → Kept (look_of arguments asked words)
look_keeps arguments asked [] e = tt
look_keeps arguments asked (dump ∷ words) e = go (fits arguments words)
  where
    go : (b : Bool) → Kept (cond b (option_map (ask dump) (asked words)) None)
    go true = asked_keeps dump (short dump (both _ _ e).0) (asked words)
    go false = tt

-- a number from 1 to the most
abbrev IsUpTo : ℕ → ℕ → Type 0
IsUpTo most n = (1 ≤ n) × (n ≤ most)

up_to_keeps : (most : ℕ) (o : Option ℕ) → IfSome (option_and_then (up_to most) o) (IsUpTo most)
unfolding up_to
up_to_keeps most None = tt
up_to_keeps most (Some n) = go (nat_le 1 n) (nat_le n most) (λ e. grind (arith, nat_tests))
    (λ e. grind (arith, nat_tests))
  where
    go : (a b : Bool) → (a ≡ true → 1 ≤ n) → (b ≡ true → n ≤ most) → IfSome (cond (a && b) (Some n) None) (IsUpTo most)
    go true true low high = (low refl, high refl)
    go true false low high = tt
    go false b low high = tt

plan_keeps : (seed agents items : Option ℕ) → IfSome agents (IsUpTo 4) → IfSome items (IsUpTo 4096)
    → Kept (plan_named seed agents items)
plan_keeps None agents items a i = tt
plan_keeps (Some s) None items a i = tt
plan_keeps (Some s) (Some n) None a i = tt
plan_keeps (Some s) (Some n) (Some m) a i = (a.0, a.1, i.0, i.1)

gen_keeps : (words : List (List ℕ)) → Kept (gen_of words)
unfolding agents_named items_named
gen_keeps [] = tt
gen_keeps (a ∷ []) = tt
gen_keeps (a ∷ b ∷ []) = tt
gen_keeps (a ∷ b ∷ c ∷ []) = plan_keeps (seed_named a) (agents_named b) (items_named c) (up_to_keeps 4 _)
    (up_to_keeps 4096 _)
gen_keeps (a ∷ b ∷ c ∷ d ∷ rest) = tt

-- what holds of two forms holds of the one that is chosen
module _ (P : Option Form → Type 0) where
  of_cond : (b : Bool) (x y : Option Form) → P x → P y → P (cond b x y)
  of_cond true x y p q = p
  of_cond false x y p q = q

looks_keep : (verbs : List Verb) (name : List ℕ) (words : List (List ℕ)) → AreWords words
    → Kept (look_behind verbs name words)
looks_keep [] name words e = tt
looks_keep (verb ∷ verbs) name words e =
    of_cond Kept (bytes_eq name verb.name) (look_of verb.arguments verb.asked words) (look_behind verbs name words)
    (look_keeps verb.arguments verb.asked words e) (looks_keep verbs name words e)

behind_keeps : (verb : List ℕ) (words : List (List ℕ)) → AreWords words → Kept (form_behind verb words)
unfolding form_behind
behind_keeps verb words e =
    let looked : Kept (look_behind looks verb words) = looks_keep looks verb words e in
    of_cond Kept (bytes_eq verb (codes "run")) (run_of words)
    (cond (bytes_eq verb (codes "gen")) (gen_of words) (look_behind looks verb words)) (run_keeps words e)
    (of_cond Kept (bytes_eq verb (codes "gen")) (gen_of words) (look_behind looks verb words) (gen_keeps words) looked)

all_keep : (words : List (List ℕ)) → AreWords words → Kept (form_of_all words)
all_keep [] e = tt
all_keep (verb ∷ words) e = behind_keeps verb words (both _ _ e).1

-- a form keeps the limits
form_keeps : (words : List (List ℕ)) → Kept (form_of words)
unfolding form_of
form_keeps words = go (list_all is_word words) (λ e. all_keep words e)
  where
    go : (b : Bool) → (b ≡ true → Kept (form_of_all words)) → Kept (cond b (form_of_all words) None)
    go true keeps = keeps refl
    go false keeps = tt

-- and so does the command that it is
pub command_keeps : (words : List (List ℕ)) (command : Option Command) → IsCommand (form_of words) command
    → IfSome command (λ c. KeepsLimits (form_meant c))
command_keeps words None is = tt
command_keeps words (Some c) is = subst Kept is (form_keeps words)
