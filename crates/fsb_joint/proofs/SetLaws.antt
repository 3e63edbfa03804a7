-- What a set is after its bits were chosen.
use Rattle.std.proofs.Common.{ℕ, ◌+◌, ◌*◌, ◌%◌, ◌^◌, ◌<◌, ◌≡◌, Bool, true, false, ◌&&◌, ◌||◌, not, nat_eq, nat_lt, List}
use Rattle.std.proofs.Common.{[], ◌∷◌, map, refl, sym, ap, ◌∙◌}
use Rattle.std.proofs.Common.{arith, inl, inr}
use Rattle.std.specs.Int.RustNames.{bit_or}
use Rattle.std.specs.List.{filter, list_all, list_any}
use Rattle.std.proofs.lemmas.Bool.{cases_eq}
use Rattle.std.proofs.lemmas.Bool.Decides.{nat_tests}
use Rattle.fsb_count.specs.Clocks.{all_where, any_where, each_where}
use Rattle.fsb_count.proofs.Interface.{any_where-more, each_where-at, nat_lt-more}
use Rattle.fsb_owners.specs.Joint.{Joint, agents, alone, every_joint, has_other_owner, is_after_drops, is_after_stores}
use Rattle.fsb_owners.specs.Joint.{reached_by, sharing, unheld}
use Rattle.fsb_owners.specs.Rules.{is_none_left}
use Rattle.fsb_joint.specs.declared.steps.Step.TheVariants.{Drops, Stores}
use Rattle.fsb_joint.specs.declared.steps.Test.TheVariants.{Unowned}
use Rattle.fsb_joint.specs.Sets.{has_bit, joint_at, joints_in}
use Rattle.fsb_joint.specs.Steps.{leads, passes}
use Rattle.fsb_joint.proofs.Bits.{has_bit-or, has_bit-set, has_bit-zero}
use Rattle.fsb_joint.proofs.Where.{all-left, all_where-same, any-where, filter-where, none-where}

-- below k the mask has the bits that pass, and no other
abbrev pub IsKept : (ℕ → Bool) → ℕ → ℕ → Type 0
IsKept t mask k = (n : ℕ) → n < 24 → has_bit mask n ≡ (nat_lt n k && t n)

none_below : (n : ℕ) (t : Bool) → false ≡ (nat_lt n 0 && t)
none_below n t = grind (arith, nat_tests)

pub kept-init : (t : ℕ → Bool) → IsKept t 0 0
kept-init t n l = has_bit-zero n ∙ none_below n (t n)

kept_bit : (b : Bool) (n k : ℕ) (t : ℕ → Bool) → t k ≡ true
    → ((nat_lt n k && t n) || nat_eq n k) ≡ ((nat_lt n k || nat_eq n k) && t n)
kept_bit b n k t e =
    elim (cases_eq n k) [
      | inl s ↦ rw (s, e) (grind (arith, nat_tests))
      | inr o ↦ grind (arith, nat_tests)
    ]

pub kept-yes : (t : ℕ → Bool) (mask k : ℕ) → k < 24 → t k ≡ true → IsKept t mask k
    → IsKept t (bit_or mask (1 * 2 ^ k % 2 ^ 32)) (k + 1)
kept-yes t mask k lk e h n l =
    has_bit-set mask k n lk ∙ rw (h n l, nat_lt-more n k) (kept_bit true n k t e)

kept_none : (n k : ℕ) (t : ℕ → Bool) → t k ≡ false → (nat_lt n k && t n) ≡ ((nat_lt n k || nat_eq n k) && t n)
kept_none n k t e =
    elim (cases_eq n k) [
      | inl s ↦ rw (s, e) (grind (arith, nat_tests))
      | inr o ↦ grind (arith, nat_tests)
    ]

pub kept-no : (t : ℕ → Bool) (mask k : ℕ) → t k ≡ false → IsKept t mask k → IsKept t mask (k + 1)
kept-no t mask k e h n l = h n l ∙ rw (nat_lt-more n k) (kept_none n k t e)

all_below : (n : ℕ) (t : Bool) → n < 24 → (nat_lt n 24 && t) ≡ t
all_below n t l = grind (arith, nat_tests)

pub kept-bits : (t : ℕ → Bool) (mask k : ℕ) → k ≡ 24 → IsKept t mask k → (n : ℕ) → n < 24 → has_bit mask n ≡ t n
kept-bits t mask k e h n l = h n l ∙ rw e (all_below n (t n) l)

-- bits by a test: those of the joint states that pass
pub joints-filter : (p : Joint → Bool) (r s : ℕ)
    → ((n : ℕ) → n < 24 → has_bit r n ≡ (has_bit s n && p (joint_at n))) → joints_in r ≡ filter p (joints_in s)
unfolding joints_in
joints-filter p r s h =
    ap (map joint_at) (all_where-same (has_bit r) (λ n. has_bit s n && p (joint_at n)) 24 (record { same = h }))
    ∙ sym (filter-where joint_at p (has_bit s) 24)

pub every_joints : joints_in 16777215 ≡ every_joint
unfolding joints_in has_bit joint_at every_joint sharing alone all_where unheld
every_joints = refl

every_computed : each_where (has_bit 16777215) 24 ≡ true
unfolding each_where has_bit
every_computed = refl

pub every_bits : (n : ℕ) → n < 24 → has_bit 16777215 n ≡ true
every_bits n l = each_where-at (has_bit 16777215) 24 every_computed n l

pub unheld_joints : joints_in 1 ≡ unheld ∷ []
unfolding joints_in has_bit joint_at every_joint sharing alone all_where unheld
unheld_joints = refl

in_set : (step : Joint → Joint → Bool) (s m : ℕ)
    → list_any (λ from. step from (joint_at m)) (joints_in s)
    ≡ any_where (λ n. has_bit s n && step (joint_at n) (joint_at m)) 24
unfolding joints_in
in_set step s m = any-where joint_at (λ from. step from (joint_at m)) (has_bit s) 24

-- the bits of a step: those of the joint states to which it leads from one of the set
pub joints-reached : (step : Joint → Joint → Bool) (r s : ℕ)
    → ((m : ℕ) → m < 24 → has_bit r m ≡ any_where (λ n. has_bit s n && step (joint_at n) (joint_at m)) 24)
    → joints_in r ≡ reached_by step (joints_in s)
unfolding reached_by
joints-reached step r s h =
    joints-filter (λ to. list_any (λ from. step from to) (joints_in s)) r 16777215
    (λ m l. h m l ∙ sym (in_set step s m) ∙ rw (every_bits m l) refl)
    ∙ ap (filter (λ to. list_any (λ from. step from to) (joints_in s))) every_joints

-- what the numbers below k lead to
abbrev pub IsReached : (ℕ → Bool) → (ℕ → ℕ → Bool) → ℕ → ℕ → Type 0
IsReached t q mask k = (m : ℕ) → m < 24 → has_bit mask m ≡ any_where (λ n. t n && q n m) k

pub reached-init : (t : ℕ → Bool) (q : ℕ → ℕ → Bool) → IsReached t q 0 0
unfolding any_where
reached-init t q m l = has_bit-zero m

pub reached-yes : (t : ℕ → Bool) (q : ℕ → ℕ → Bool) (mask row k : ℕ) → t k ≡ true
    → ((m : ℕ) → m < 24 → has_bit row m ≡ q k m) → IsReached t q mask k → IsReached t q (bit_or mask row) (k + 1)
reached-yes t q mask row k e r h m l =
    has_bit-or mask row m ∙ rw (h m l, r m l, any_where-more (λ n. t n && q n m) k, e) refl

or_false : (b : Bool) → b ≡ (b || false)
or_false true = refl
or_false false = refl

pub reached-no : (t : ℕ → Bool) (q : ℕ → ℕ → Bool) (mask k : ℕ) → t k ≡ false → IsReached t q mask k
    → IsReached t q mask (k + 1)
reached-no t q mask k e h m l =
    h m l ∙ rw (any_where-more (λ n. t n && q n m) k, e) (or_false (any_where (λ n. t n && q n m) k))

pub reached-bits : (t : ℕ → Bool) (q : ℕ → ℕ → Bool) (mask k : ℕ) → k ≡ 24 → IsReached t q mask k
    → (m : ℕ) → m < 24 → has_bit mask m ≡ any_where (λ n. t n && q n m) 24
reached-bits t q mask k e h m l = h m l ∙ rw e refl

pub both : (a b : Bool) → a ≡ true → b ≡ true → (a && b) ≡ true
both a b e f = rw (e, f) refl

pub first_off : (a b : Bool) → a ≡ false → (a && b) ≡ false
first_off a b e = rw e refl

pub second_off : (a b : Bool) → b ≡ false → (a && b) ≡ false
second_off true b e = e
second_off false b e = refl

-- no bit is 1
pub none-bits : (s : ℕ) → is_none_left (joints_in s) ≡ not (any_where (has_bit s) 24)
unfolding joints_in
none-bits s = none-where joint_at (has_bit s) 24

pub unowned : (a : ℕ) (set : List Joint) → is_none_left (filter (passes (Unowned a)) set) ≡ list_all (has_other_owner a) set
unfolding passes
unowned a set = all-left (has_other_owner a) set

pub stores-for : (ready : List Bool) (is_ready : ℕ → Bool) (set : List Joint) → ready ≡ map is_ready agents
    → reached_by (leads (Stores ready)) set ≡ reached_by (is_after_stores is_ready) set
unfolding leads is_after_stores
stores-for ready is_ready set e = rw e refl

pub drops-for : (may : List Bool) (may_drop : ℕ → Bool) (set : List Joint) → may ≡ map may_drop agents
    → reached_by (leads (Drops may)) set ≡ reached_by (is_after_drops may_drop) set
unfolding leads is_after_drops
drops-for may may_drop set e = rw e refl
