-- Which number a name of the signal table has.
use Rattle.std.proofs.Common.{◌≡◌, ◌≢◌, ◌≤◌, ℕ, Bool, true, false, Some, None, option_map, slice_get, All, nat_eq}
use Rattle.std.proofs.Common.{get_or, length, sym, ap, refl, arith, cond, List}
use Rattle.std.specs.Cmp.Lexicographic.{pointwise, same_text, other_text}
use Rattle.std.specs.List.{position_or_len}
use Rattle.std.proofs.lemmas.Bool.{ltb-false}
use Rattle.std.proofs.lemmas.Option.{slice_get-get_or}
use Rattle.std.proofs.lemmas.List.Quantifiers.{position-Some}
use Rattle.std.proofs.lemmas.List.Sums.{fails_before_first}
use Rattle.fsb_signal.specs.Table.{TableEntry, table, needed, signal_number}

-- the entry's name is this one
abbrev is_named : List ℕ → TableEntry → Bool
is_named name e = pointwise nat_eq e.name name

-- the entry that has a name's number has that name
pub signal_number-found : (name : List ℕ) (n : ℕ) → Some n ≡ signal_number name
    → option_map (λ e. e.name) (slice_get table n) ≡ Some name
unfolding signal_number
signal_number-found name n h =
    let d = needed name 1 in
    let at = position-Some (is_named name) table n d (sym h) in
    let same : (get_or table n d).name ≡ name = same_text _ _ (sym at.1) in
    rw (slice_get-get_or table n d at.0) (ap Some same)

-- a name with a number is the name of some entry
pub signal_number-some : (name : List ℕ) (n : ℕ) → Some n ≡ signal_number name → All (λ e. e.name ≢ name) table → ⊥
unfolding signal_number
signal_number-some name n h none =
    let d = needed name 1 in
    let at = position-Some (is_named name) table n d (sym h) in
    none n d at.0 (same_text _ _ (sym at.1))

-- a choice that came out empty was not taken
not_taken : (b : Bool) (n : ℕ) → None ≡ cond b (Some n) None → b ≡ false
not_taken true n h = cc h
not_taken false n h = refl

-- no entry has a name without a number
pub signal_number-none : (name : List ℕ) → None ≡ signal_number name → All (λ e. e.name ≢ name) table
unfolding signal_number
signal_number-none name h k d within same =
    let q = is_named name in
    let past : length table ≤ position_or_len q table = ltb-false _ _ (not_taken _ _ h) in
    let other = fails_before_first q table k d (omega (arith, past, within)) in
    other_text _ _ (sym other) same
