-- Data that move come from memory or are put there, and not both.
use Rattle.std.proofs.Common.{ℕ, ◌≡◌, true, false, Option, Some, None, refl}
use Rattle.std.proofs.lemmas.Bool.{both_ways}
use Rattle.fsb_count.specs.Options.{is_some_and}
use Rattle.fsb_trace.specs.At.{Trace}
use Rattle.fsb_trace.specs.declared.outcome.Outcome.{Outcome}
use Rattle.fsb_trace.specs.declared.outcome.Outcome.TheVariants.{Granted, Handed, Written, Replied}
use Rattle.fsb_trace.specs.Outcome.{does_move, does_take, moves_data, outcome_of}
use Rattle.fsb_audit.specs.MovedChunks.{does_come_from_memory}
use Rattle.fsb_clean.proofs.Follows.{gets_data, puts_data}

take-moves : (o : Outcome) → does_take o ≡ true → does_move o ≡ true
unfolding does_take does_move
take-moves Handed e = refl
take-moves Written e = refl
take-moves _ e = absurd (let no : ⊥ = cc in no)

-- data that are put into memory move
pub puts-moves : (w : Trace) (i : ℕ) → puts_data w i ≡ true → moves_data w i ≡ true
unfolding puts_data moves_data is_some_and
puts-moves w i e = by-outcome (outcome_of w i) e
  where
    by-outcome : (o : Option Outcome) → is_some_and o does_take ≡ true → is_some_and o does_move ≡ true
    by-outcome None f = absurd (let no : ⊥ = cc in no)
    by-outcome (Some o) f = take-moves o f

move-ways : (o : Outcome) → does_move o ≡ true → does_come_from_memory o ≡ false → does_take o ≡ true
unfolding does_take does_move does_come_from_memory
move-ways Handed e f = refl
move-ways Written e f = refl
move-ways _ e f = absurd (let no : ⊥ = cc in no)

-- data that move and do not come from memory are put there
pub puts-else : (w : Trace) (i : ℕ) → moves_data w i ≡ true → gets_data w i ≡ false → puts_data w i ≡ true
unfolding puts_data moves_data gets_data is_some_and
puts-else w i e f = by-outcome (outcome_of w i) e f
  where
    by-outcome : (o : Option Outcome) → is_some_and o does_move ≡ true → is_some_and o does_come_from_memory ≡ false
        → is_some_and o does_take ≡ true
    by-outcome None g k = absurd (let no : ⊥ = cc in no)
    by-outcome (Some o) g k = move-ways o g k

-- data that come from memory move, and are not put there
pub got-moves : (o : Outcome) → does_come_from_memory o ≡ true → (does_move o ≡ true) × (does_take o ≡ false)
unfolding does_come_from_memory does_move does_take
got-moves Granted e = (refl, refl)
got-moves Replied e = (refl, refl)
got-moves _ e = absurd (let no : ⊥ = cc in no)

pub puts-only : (w : Trace) (i : ℕ) → puts_data w i ≡ true → gets_data w i ≡ true → ⊥
unfolding puts_data gets_data is_some_and
puts-only w i e f = by-outcome (outcome_of w i) e f
  where
    by-outcome : (o : Option Outcome) → is_some_and o does_take ≡ true → is_some_and o does_come_from_memory ≡ true
        → ⊥
    by-outcome None g k = cc
    by-outcome (Some o) g k = both_ways (does_take o) (got-moves o k).1 g

-- whether data come from memory, or are put there, by the outcome that is told
pub got-told : (w : Trace) (i : ℕ) (o : Outcome) → outcome_of w i ≡ Some o → gets_data w i ≡ does_come_from_memory o
unfolding gets_data is_some_and
got-told w i o e = rw e refl

pub put-told : (w : Trace) (i : ℕ) (o : Outcome) → outcome_of w i ≡ Some o → puts_data w i ≡ does_take o
unfolding puts_data is_some_and
put-told w i o e = rw e refl
