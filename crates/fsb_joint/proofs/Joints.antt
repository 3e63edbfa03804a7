-- What a step says of two joint states, agent by agent.
use Rattle.std.proofs.Common.{ℕ, ◌+◌, ◌<◌, ◌≡◌, Bool, true, false, ◌&&◌, ◌||◌, nat_eq, List, [], ◌∷◌, length, map}
use Rattle.std.proofs.Common.{refl, sym, ap, ◌∙◌, arith}
use Rattle.std.specs.Cmp.Lexicographic.{pointwise}
use Rattle.std.proofs.lemmas.Bool.Decides.{nat_tests}
use Rattle.fsb_count.specs.Clocks.{all_where, each_where}
use Rattle.fsb_line.specs.declared.state.Mesi.TheVariants.{Exclusive, Modified}
use Rattle.fsb_line.specs.States.{state_after}
use Rattle.fsb_owners.specs.Joint.{Joint, agents, alone, every_joint, is_after_drops, is_after_snoop_end, is_after_stores}
use Rattle.fsb_owners.specs.Joint.{is_kept_or_dropped, is_same_joint, is_same_state, sharing, state_at, unheld}
use Rattle.fsb_joint.specs.declared.steps.End.{End}
use Rattle.fsb_joint.specs.declared.steps.Step.TheVariants.{Drops, Ends, Stores}
use Rattle.fsb_joint.specs.Sets.{joint_at}
use Rattle.fsb_joint.specs.Steps.{answer_for, leads}
use Rattle.fsb_joint.proofs.Where.{at_each, is_same, same}

-- a list of four states is that of its agents
four : (joint : Joint) → length joint ≡ 4 → joint ≡ map (state_at joint) agents
unfolding state_at
four [] e = absurd (omega (arith, e))
four (a ∷ []) e = absurd (omega (arith, e))
four (a ∷ b ∷ []) e = absurd (omega (arith, e))
four (a ∷ b ∷ c ∷ []) e = absurd (omega (arith, e))
four (a ∷ b ∷ c ∷ d ∷ []) e = refl
four (a ∷ b ∷ c ∷ d ∷ f ∷ rest) e = absurd (omega (arith, e))

length_of : ℕ → ℕ → Bool
length_of n m = nat_eq (length (joint_at n)) 4

lengths_computed : each_where (λ n. each_where (length_of n) 1) 24 ≡ true
unfolding each_where length_of joint_at every_joint sharing alone all_where unheld
lengths_computed = refl

length-joint : (n : ℕ) → n < 24 → length (joint_at n) ≡ 4
unfolding length_of
length-joint n l =
    let e : nat_eq (length (joint_at n)) 4 ≡ true = at_each length_of 24 1 lengths_computed n 0 l (omega arith) in
    grind (arith, nat_tests)

pub joint-agents : (n : ℕ) → n < 24 → joint_at n ≡ map (state_at (joint_at n)) agents
joint-agents n l = four (joint_at n) (length-joint n l)

abbrev settled_at : End → Joint → Joint → ℕ → Bool
settled_at end from to a =
    is_same_state (state_at to a) (state_after (state_at from a) (nat_eq a end.asker) end.kind end.settled end.shared)

last : (a b c d : Bool) → (a && (b && (c && (d && true)))) ≡ (a && b && c && d)
last true true true true = refl
last true true true false = refl
last true true false d = refl
last true false c d = refl
last false b c d = refl

pub ends : (end : End) (from to : ℕ) → from < 24 → to < 24 → leads (Ends end) (joint_at from) (joint_at to)
    ≡ (settled_at end (joint_at from) (joint_at to) 0 && settled_at end (joint_at from) (joint_at to) 1
    && settled_at end (joint_at from) (joint_at to) 2 && settled_at end (joint_at from) (joint_at to) 3)
unfolding leads is_after_snoop_end is_same_joint
ends end from to lf lt =
    ap (λ j. pointwise is_same_state j (map (λ a. state_after (state_at (joint_at from) a) (nat_eq a end.asker) end.kind end.settled end.shared) agents))
    (joint-agents to lt)
    ∙ last (settled_at end (joint_at from) (joint_at to) 0) (settled_at end (joint_at from) (joint_at to) 1)
    (settled_at end (joint_at from) (joint_at to) 2) (settled_at end (joint_at from) (joint_at to) 3)

abbrev kept_at : List Bool → Joint → Joint → ℕ → Bool
kept_at may from to a = is_kept_or_dropped (answer_for may a) (state_at from a) (state_at to a)

pub drops : (may : List Bool) (from to : ℕ) → from < 24 → to < 24 → leads (Drops may) (joint_at from) (joint_at to)
    ≡ (kept_at may (joint_at from) (joint_at to) 0 && kept_at may (joint_at from) (joint_at to) 1
    && kept_at may (joint_at from) (joint_at to) 2 && kept_at may (joint_at from) (joint_at to) 3)
unfolding leads is_after_drops
drops may from to lf lt =
    last (kept_at may (joint_at from) (joint_at to) 0) (kept_at may (joint_at from) (joint_at to) 1)
    (kept_at may (joint_at from) (joint_at to) 2) (kept_at may (joint_at from) (joint_at to) 3)

same_by : ℕ → ℕ → Bool
same_by n m = is_same (nat_eq n m) (is_same_joint (joint_at n) (joint_at m))

joints_computed : each_where (λ n. each_where (same_by n) 24) 24 ≡ true
unfolding each_where same_by is_same_joint is_same_state joint_at every_joint sharing alone all_where unheld
joints_computed = refl

-- two joint states are the same where their numbers are
pub same-joints : (n m : ℕ) → n < 24 → m < 24 → is_same_joint (joint_at n) (joint_at m) ≡ nat_eq n m
unfolding same_by
same-joints n m ln lm =
    sym (same (nat_eq n m) (is_same_joint (joint_at n) (joint_at m))
    (at_each same_by 24 24 joints_computed n m ln lm))

alone_numbers :
    (alone Exclusive 0 ≡ joint_at 16) × (alone Modified 0 ≡ joint_at 20)
    × (alone Exclusive 1 ≡ joint_at 17) × (alone Modified 1 ≡ joint_at 21)
    × (alone Exclusive 2 ≡ joint_at 18) × (alone Modified 2 ≡ joint_at 22)
    × (alone Exclusive 3 ≡ joint_at 19) × (alone Modified 3 ≡ joint_at 23)
unfolding joint_at every_joint sharing alone all_where unheld
alone_numbers = (refl, refl, refl, refl, refl, refl, refl, refl)

-- an agent that is ready has stored: the numbers of the two joint states say so
abbrev pub stored_by : Bool → ℕ → ℕ → ℕ → Bool
stored_by ready a from to = ready && nat_eq from (16 + a) && nat_eq to (20 + a)

stored_at : (ready : Bool) (from to a : ℕ) → from < 24 → to < 24 → a < 4
    → (ready && is_same_joint (joint_at from) (joint_at (16 + a)) && is_same_joint (joint_at to) (joint_at (20 + a)))
    ≡ stored_by ready a from to
stored_at ready from to a lf lt la =
    rw (same-joints from (16 + a) lf (omega (arith, la)), same-joints to (20 + a) lt (omega (arith, la))) refl

any_of : (a b c d e : Bool) → (a || (b || (c || (d || (e || false))))) ≡ (a || b || c || d || e)
any_of true b c d e = refl
any_of false true c d e = refl
any_of false false true d e = refl
any_of false false false true e = refl
any_of false false false false true = refl
any_of false false false false false = refl

pub stores : (ready : List Bool) (from to : ℕ) → from < 24 → to < 24 → leads (Stores ready) (joint_at from) (joint_at to)
    ≡ (nat_eq from to || stored_by (answer_for ready 0) 0 from to || stored_by (answer_for ready 1) 1 from to
    || stored_by (answer_for ready 2) 2 from to || stored_by (answer_for ready 3) 3 from to)
unfolding leads is_after_stores
stores ready from to lf lt =
    let n = alone_numbers in
    rw (
      n.0,
      n.1,
      n.2,
      n.3,
      n.4,
      n.5,
      n.6,
      n.7,
      same-joints from to lf lt,
      stored_at (answer_for ready 0) from to 0 lf lt (omega arith),
      stored_at (answer_for ready 1) from to 1 lf lt (omega arith),
      stored_at (answer_for ready 2) from to 2 lf lt (omega arith),
      stored_at (answer_for ready 3) from to 3 lf lt (omega arith),
    )
    (any_of (nat_eq from to) (stored_by (answer_for ready 0) 0 from to) (stored_by (answer_for ready 1) 1 from to)
    (stored_by (answer_for ready 2) 2 from to) (stored_by (answer_for ready 3) 3 from to))
