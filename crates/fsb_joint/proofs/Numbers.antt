-- What the number of a joint state says of its agents.
use Rattle.std.proofs.Common.{ℕ, ◌/◌, ◌%◌, ◌*◌, ◌^◌, ◌<◌, ◌≡◌, Bool, true, ◌&&◌, not, nat_eq, nat_lt, nat_le, cond, refl, sym}
use Rattle.fsb_count.specs.Clocks.{all_where, each_where}
use Rattle.fsb_line.specs.declared.state.Mesi.{Mesi}
use Rattle.fsb_line.specs.declared.state.Mesi.TheVariants.{Exclusive, Invalid, Modified, Shared}
use Rattle.fsb_owners.specs.Joint.{alone, every_joint, has_other_holder, has_other_owner, is_same_state, sharing}
use Rattle.fsb_owners.specs.Joint.{state_at, unheld}
use Rattle.fsb_joint.specs.Sets.{joint_at}
use Rattle.fsb_joint.proofs.Where.{at_each, is_same, same}

-- the state by the number
abbrev pub state_by : ℕ → ℕ → Mesi
state_by n a =
    cond (nat_lt n 16) (cond (nat_eq (n / 2 ^ a % 2) 1) Shared Invalid)
    (cond (nat_eq (n % 4) a) (cond (nat_lt n 20) Exclusive Modified) Invalid)

pub same_states-eq : (s r : Mesi) → is_same_state s r ≡ true → s ≡ r
unfolding is_same_state
same_states-eq Invalid Invalid e = refl
same_states-eq Shared Shared e = refl
same_states-eq Exclusive Exclusive e = refl
same_states-eq Modified Modified e = refl
same_states-eq Invalid Shared e = absurd (cc)
same_states-eq Invalid Exclusive e = absurd (cc)
same_states-eq Invalid Modified e = absurd (cc)
same_states-eq Shared Invalid e = absurd (cc)
same_states-eq Shared Exclusive e = absurd (cc)
same_states-eq Shared Modified e = absurd (cc)
same_states-eq Exclusive Invalid e = absurd (cc)
same_states-eq Exclusive Shared e = absurd (cc)
same_states-eq Exclusive Modified e = absurd (cc)
same_states-eq Modified Invalid e = absurd (cc)
same_states-eq Modified Shared e = absurd (cc)
same_states-eq Modified Exclusive e = absurd (cc)

pub same_state-self : (s : Mesi) → is_same_state s s ≡ true
unfolding is_same_state
same_state-self Invalid = refl
same_state-self Shared = refl
same_state-self Exclusive = refl
same_state-self Modified = refl

states_computed : each_where (λ n. each_where (λ a. is_same_state (state_by n a) (state_at (joint_at n) a)) 4) 24 ≡ true
unfolding each_where is_same_state state_at joint_at every_joint sharing alone all_where unheld
states_computed = refl

pub state-number : (n a : ℕ) → n < 24 → a < 4 → state_at (joint_at n) a ≡ state_by n a
state-number n a ln la =
    sym (same_states-eq (state_by n a) (state_at (joint_at n) a)
    (at_each (λ n a. is_same_state (state_by n a) (state_at (joint_at n) a)) 24 4 states_computed n a ln la))

owners_computed : each_where (λ n. each_where (λ a. is_same (nat_le 20 n && not (nat_eq (n % 4) a)) (has_other_owner a (joint_at n))) 4) 24 ≡ true
unfolding each_where has_other_owner state_at joint_at every_joint sharing alone all_where unheld
owners_computed = refl

pub owner-number : (n a : ℕ) → n < 24 → a < 4 → has_other_owner a (joint_at n) ≡ (nat_le 20 n && not (nat_eq (n % 4) a))
owner-number n a ln la =
    sym (same (nat_le 20 n && not (nat_eq (n % 4) a)) (has_other_owner a (joint_at n))
    (at_each (λ n a. is_same (nat_le 20 n && not (nat_eq (n % 4) a)) (has_other_owner a (joint_at n))) 24 4 owners_computed n a ln la))

abbrev holder_by : ℕ → ℕ → Bool
holder_by n a = cond (nat_lt n 16) (not (nat_eq n 0) && not (nat_eq n (1 * 2 ^ a % 256))) (not (nat_eq (n % 4) a))

holders_computed : each_where (λ n. each_where (λ a. is_same (holder_by n a) (has_other_holder a (joint_at n))) 4) 24 ≡ true
unfolding each_where has_other_holder state_at joint_at every_joint sharing alone all_where unheld
holders_computed = refl

pub holder-number : (n a : ℕ) → n < 24 → a < 4 → has_other_holder a (joint_at n) ≡ holder_by n a
holder-number n a ln la =
    sym (same (holder_by n a) (has_other_holder a (joint_at n))
    (at_each (λ n a. is_same (holder_by n a) (has_other_holder a (joint_at n))) 24 4 holders_computed n a ln la))

pub ruleset numbers = (state-number, owner-number, holder-number)

pub ruleset same_states = (same_states-eq, same_state-self)
