-- One word behind a verb, where it is no flag.
use Rattle.std.proofs.Common.{◌≡◌, ◌==◌, ℕ, Bool, true, false, not, List, [], ◌∷◌, None, refl, sym, ap, ap₂, true≢false}
use Rattle.std.specs.Str.{bytes_eq}
use Rattle.clap.specs.Lexer.{long_of, short_of}
use Rattle.clap.specs.Walk.{Held, Rule, Text, Walk, arg_by_index, idle, to_positional, value, walked}
use Rattle.clap.specs.Simple.{Shape}
use Rattle.clap.specs.Kinds.{or_else}
use Rattle.clap.specs.Faults.{step_fault, turn_fault, walk_fault}
use Rattle.clap.proofs.WalkLemmas.{both}
use Rattle.fsb_command.specs.Form.{is_word}

-- a word that is no flag, and not `--`
abbrev pub IsPlain : Text → Type 0
IsPlain word = (long_of word ≡ None) × (short_of word ≡ None) × (bytes_eq word (45 ∷ 45 ∷ []) ≡ false)

is_not : (b : Bool) → not b ≡ true → b ≡ false
is_not true e = sym e
is_not false e = refl

-- a word that may stand in a command line is plain
pub plain_word : (word : Text) → is_word word ≡ true → IsPlain word
plain_word [] e = absurd (true≢false (sym e))
plain_word (b ∷ bs) e =
    let no_dash : (b == 45) ≡ false = is_not _ (both _ _ e).0 in
    (rw no_dash refl, rw no_dash refl, rw no_dash refl)

-- a walk between two words of which none waits for a value
abbrev pub at : Held → ℕ → Walk
at h position = record {
  held = h;
  waiting = idle;
  position = position;
  is_trailing = false;
  stopped = None;
}

-- the walk after a word that goes to the positional of its place
abbrev pub placed : List Rule → Held → ℕ → Text → Walk
placed c h position word = to_positional c (arg_by_index c position) word (at h position) h

pub turned : (c : List Rule) (h : Held) (position : ℕ) (word : Text) → IsPlain word
    → walked c [] (at h position) word ≡ placed c h position word
unfolding walked
turned c h position word plain = rw (plain.0, plain.1, plain.2) refl

turn_is : (s : Shape) (h : Held) (position : ℕ) (word : Text) → IsPlain word
    → turn_fault s [] (at h position) word ≡ step_fault s position h value
turn_is s h position word plain = rw (plain.0, plain.1, plain.2) refl

-- the faults of a walk from a plain word on
pub fault_at : (s : Shape) (h : Held) (position : ℕ) (word : Text) (rest : List Text) → IsPlain word
    → walk_fault s [] (at h position) (word ∷ rest) ≡ or_else (step_fault s position h value)
    (walk_fault s [] (placed s.rules h position word) rest)
unfolding walk_fault
fault_at s h position word rest plain =
    ap₂ or_else (turn_is s h position word plain)
    (ap (λ w. walk_fault s [] w rest) (turned s.rules h position word plain))
