-- The joint states with one writer are the 24 of a coherent line.
use Rattle.std.proofs.Common.{ℕ, ◌<◌, ◌≡◌, ◌≢◌, Bool, true, false, ◌||◌, not, nat_eq, [], ◌∷◌, length}
use Rattle.std.proofs.Common.{refl, sym, subst, arith}
use Rattle.std.specs.List.{Contains, list_all, list_any}
use Rattle.std.specs.Prelude.{slice_index_or}
use Rattle.std.proofs.lemmas.Bool.{both_ways, eq-eqb, eqb-true, ne_eqb}
use Rattle.std.proofs.lemmas.List.Elements.{All-cons, All-contains, All-contains_itself, All-nil}
use Rattle.std.proofs.lemmas.List.Folds.{list_any_at}
use Rattle.std.proofs.lemmas.List.Sums.{AllPass-from_list_all}
use Rattle.fsb_count.specs.Clocks.{all_where}
use Rattle.fsb_line.specs.declared.state.Mesi.{Mesi}
use Rattle.fsb_line.specs.States.{is_held, is_sole}
use Rattle.fsb_owners.specs.Joint.{Joint, agents, alone, every_joint, is_same_joint, is_same_state, sharing, state_at, unheld}
use Rattle.fsb_owner_laws.specs.Losses.{AreCoherent}
use Rattle.fsb_owner_laws.proofs.Members.{below_four}
use Rattle.fsb_owner_laws.proofs.Quiet.{any_found, four, implied, of_states, of_states-at, same_joints}
use Rattle.fsb_courses.specs.Courses.{HasOneWriter}

-- a test of all four agents, and of one of them
pub each_agent : (p : ℕ → Bool) → ((a : ℕ) → a < 4 → p a ≡ true) → list_all p agents ≡ true
each_agent p h = rw (h 0 (omega arith), h 1 (omega arith), h 2 (omega arith), h 3 (omega arith)) refl

pub at_agent : (p : ℕ → Bool) → list_all p agents ≡ true → (a : ℕ) → a < 4 → p a ≡ true
at_agent p e =
    let k = four (p 0) (p 1) (p 2) (p 3) e in below_four (λ a. p a ≡ true) k.0 k.1 k.2 k.3

pub any_agent : (p : ℕ → Bool) (a : ℕ) → a < 4 → p a ≡ true → list_any p agents ≡ true
any_agent p =
    below_four (λ a. p a ≡ true → list_any p agents ≡ true)
    (λ e. list_any_at p agents 0 0 (omega arith) e) (λ e. list_any_at p agents 1 0 (omega arith) e)
    (λ e. list_any_at p agents 2 0 (omega arith) e) (λ e. list_any_at p agents 3 0 (omega arith) e)

-- what holds of each of the 24
pub of_every : (p : Joint → Bool) → list_all p every_joint ≡ true → (x : Joint) → Contains every_joint x → p x ≡ true
of_every p e x c = All-contains (λ y. p y ≡ true) every_joint x (AllPass-from_list_all p every_joint e) c

-- one writer, as a test
abbrev does_not_write : Joint → ℕ → ℕ → Bool
does_not_write x a b = nat_eq a b || (not (is_sole (state_at x a)) || not (is_held (state_at x b)))

abbrev has_one_writer : Joint → Bool
has_one_writer x = list_all (λ a. list_all (λ b. does_not_write x a b) agents) agents

not_alone : (same sole held : Bool) → (same ≡ false → sole ≡ true → held ≡ false) → (same || (not sole || not held)) ≡ true
not_alone true sole held h = refl
not_alone false false held h = refl
not_alone false true held h = rw (h refl refl) refl

alone_there : (same sole held : Bool) → (same || (not sole || not held)) ≡ true → same ≡ false → sole ≡ true → held ≡ false
alone_there true sole held e f t = absurd (let no : ⊥ = cc in no)
alone_there false false held e f t = absurd (let no : ⊥ = cc in no)
alone_there false true true e f t = absurd (let no : ⊥ = cc in no)
alone_there false true false e f t = refl

apart : (a b : ℕ) → nat_eq a b ≡ false → a ≢ b
apart a b f e = both_ways (nat_eq a b) f (eq-eqb a b e)

writes_alone : (x : Joint) → HasOneWriter x → has_one_writer x ≡ true
writes_alone x h =
    each_agent (λ a. list_all (λ b. does_not_write x a b) agents) (λ a l.
    each_agent (λ b. does_not_write x a b) (λ b m.
    not_alone (nat_eq a b) (is_sole (state_at x a)) (is_held (state_at x b)) (λ f t. h.alone a b l m (apart a b f) t)))

-- the test of each list of four states
abbrev is_one_of_all : Joint → Bool
is_one_of_all x = not (has_one_writer x) || list_any (is_same_joint x) every_joint

all_computed : of_states (λ s. of_states (λ t. of_states (λ u. of_states (λ w. is_one_of_all (s ∷ t ∷ u ∷ w ∷ []))))) ≡ true
unfolding of_states is_same_joint is_same_state state_at every_joint sharing alone all_where unheld
all_computed = refl

four_states : (s t u w : Mesi) → HasOneWriter (s ∷ t ∷ u ∷ w ∷ []) → Contains every_joint (s ∷ t ∷ u ∷ w ∷ [])
four_states s t u w h =
    let x : Joint = s ∷ t ∷ u ∷ w ∷ [] in
    let found = any_found (is_same_joint x) every_joint
    (implied (has_one_writer x) (list_any (is_same_joint x) every_joint)
    (of_states-at (λ w. is_one_of_all (s ∷ t ∷ u ∷ w ∷ [])) w
    (of_states-at (λ u. of_states (λ w. is_one_of_all (s ∷ t ∷ u ∷ w ∷ []))) u
    (of_states-at (λ t. of_states (λ u. of_states (λ w. is_one_of_all (s ∷ t ∷ u ∷ w ∷ [])))) t
    (of_states-at (λ s. of_states (λ t. of_states (λ u. of_states (λ w. is_one_of_all (s ∷ t ∷ u ∷ w ∷ []))))) s all_computed))))
    (writes_alone x h)) in
    subst (λ y. Contains every_joint y) (sym (same_joints x found.0 found.2)) found.1

pub from_writer : (x : Joint) → HasOneWriter x → Contains every_joint x
from_writer [] h = absurd (let e = h.four in omega (arith, e))
from_writer (s ∷ []) h = absurd (let e = h.four in omega (arith, e))
from_writer (s ∷ t ∷ []) h = absurd (let e = h.four in omega (arith, e))
from_writer (s ∷ t ∷ u ∷ []) h = absurd (let e = h.four in omega (arith, e))
from_writer (s ∷ t ∷ u ∷ w ∷ []) h = four_states s t u w h
from_writer (s ∷ t ∷ u ∷ w ∷ z ∷ x) h = absurd (let e = h.four in omega (arith, e))

-- and the other way round
every_alone : list_all (λ x. has_one_writer x) every_joint ≡ true
unfolding state_at every_joint sharing alone all_where unheld
every_alone = refl

every_four : list_all (λ x. nat_eq (length x) 4) every_joint ≡ true
unfolding every_joint sharing alone all_where unheld
every_four = refl

pub to_writer : (x : Joint) → Contains every_joint x → HasOneWriter x
to_writer x c = record {
  four = eqb-true (length x) 4 (of_every (λ x. nat_eq (length x) 4) every_four x c);
  alone = λ a b l m n t.
      alone_there (nat_eq a b) (is_sole (state_at x a)) (is_held (state_at x b))
      (at_agent (λ b. does_not_write x a b)
      (at_agent (λ a. list_all (λ b. does_not_write x a b) agents) (of_every (λ x. has_one_writer x) every_alone x c) a l) b m)
      (ne_eqb a b n) t;
}

-- the joint states with which a trace may begin
pub unknown_coherent : AreCoherent every_joint
unknown_coherent = All-contains_itself every_joint

first_unheld : (d : Joint) → slice_index_or every_joint 0 d ≡ unheld
unfolding every_joint unheld all_where
first_unheld d = refl

some_joint : 0 < length every_joint
unfolding every_joint all_where
some_joint = omega arith

pub empty_coherent : AreCoherent (unheld ∷ [])
empty_coherent =
    All-cons (Contains every_joint) unheld [] (0, some_joint, first_unheld unheld) (All-nil (Contains every_joint))
