-- The words computed on small tests, with values worked out by hand.
use Rattle.std.proofs.Common.{ℕ, ◌%◌, ◌≡◌, Bool, true, false, nat_eq, Some, None, [], ◌∷◌, refl}
use Rattle.fsb_count.specs.Clocks.{first_where, last_where, any_where, count_where, all_where, nth_where, from_clock}
use Rattle.fsb_count.specs.Clocks.{holds_since}
use Rattle.fsb_count.specs.Options.{is_some_and, is_before, is_at, greater_of}

-- clocks 2, 5, 8 and so on pass
abbrev third : ℕ → Bool
third c = nat_eq (c % 3) 2

-- one clock passes
abbrev only : ℕ → ℕ → Bool
only n c = nat_eq c n

pub clocks_that_pass :
    (first_where third 9 ≡ Some 2)
    × (first_where third 2 ≡ None)
    × (last_where third 9 ≡ Some 8)
    × (last_where third 8 ≡ Some 5)
    × (last_where third 2 ≡ None)
    × (any_where third 3 ≡ true)
    × (any_where third 4 ≡ true)
    × (any_where third 2 ≡ false)
    × (count_where third 8 ≡ 2)
    × (count_where third 9 ≡ 3)
    × (all_where third 9 ≡ 2 ∷ 5 ∷ 8 ∷ [])
    × (nth_where third 0 9 ≡ Some 2)
    × (nth_where third 2 9 ≡ Some 8)
    × (nth_where third 2 8 ≡ None)
    × (all_where (from_clock 5 third) 9 ≡ 5 ∷ 8 ∷ [])
    × (all_where (from_clock 6 third) 9 ≡ 8 ∷ [])
unfolding first_where last_where any_where count_where all_where nth_where from_clock
clocks_that_pass = (refl, refl, refl, refl, refl, refl, refl, refl, refl, refl, refl, refl, refl, refl, refl, refl)

-- gained at 2, 5 and 8, and lost at 4: a loss counts behind the last gain alone
pub held_since_a_gain :
    (holds_since third (only 4) 2 ≡ false)
    × (holds_since third (only 4) 3 ≡ true)
    × (holds_since third (only 4) 4 ≡ true)
    × (holds_since third (only 4) 5 ≡ false)
    × (holds_since third (only 4) 6 ≡ true)
    × (holds_since third (only 2) 3 ≡ true)
    × (holds_since third (only 3) 3 ≡ true)
    × (holds_since third (only 3) 4 ≡ false)
    × (holds_since (only 9) (only 4) 4 ≡ false)
unfolding last_where any_where from_clock holds_since
held_since_a_gain = (refl, refl, refl, refl, refl, refl, refl, refl, refl)

pub numbers_that_are_reached :
    (is_before (Some 3) 3 ≡ false)
    × (is_before (Some 3) 4 ≡ true)
    × (is_before None 4 ≡ false)
    × (is_at (Some 3) 3 ≡ true)
    × (is_at (Some 3) 4 ≡ false)
    × (is_at (Some 3) 2 ≡ false)
    × (is_at None 0 ≡ false)
    × (greater_of (Some 3) (Some 5) ≡ Some 5)
    × (greater_of (Some 5) (Some 3) ≡ Some 5)
    × (greater_of (Some 5) None ≡ None)
    × (greater_of None (Some 5) ≡ None)
unfolding is_some_and is_before is_at greater_of
numbers_that_are_reached = (refl, refl, refl, refl, refl, refl, refl, refl, refl, refl, refl)
