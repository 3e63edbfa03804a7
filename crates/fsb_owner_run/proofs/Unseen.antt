-- What nobody sees, agent by agent: a store into an Exclusive copy that is ready, and the drop of a clean one.
use Rattle.std.proofs.Common.{ℕ, zero, suc, ◌+◌, ◌<◌, ◌≤◌, ◌≡◌, Bool, true, false, ◌&&◌, ◌||◌, not, List}
use Rattle.std.proofs.Common.{refl, sym, ap, subst, ◌∙◌, arith, inl, inr, ◌⊎◌}
use Rattle.std.specs.List.{Contains, list_all, list_any}
use Rattle.std.proofs.lemmas.Bool.{and_from, and_parts, cases_Bool, cases_lt, or_right}
use Rattle.std.proofs.lemmas.List.Elements.{All-contains}
use Rattle.std.proofs.lemmas.List.Sums.{AllPass-from_list_all}
use Rattle.fsb_count.specs.Clocks.{all_where, each_where}
use Rattle.fsb_count.proofs.Interface.{each_where-at}
use Rattle.fsb_line.specs.declared.state.Mesi.{Mesi}
use Rattle.fsb_line.specs.declared.state.Mesi.TheVariants.{Exclusive, Invalid, Modified, Shared}
use Rattle.fsb_line.specs.States.{is_modified}
use Rattle.fsb_trace.specs.At.{Trace}
use Rattle.fsb_owners.specs.Joint.{Joint, agents, alone, every_joint, is_after_drops, is_after_stores, is_kept_or_dropped}
use Rattle.fsb_owners.specs.Joint.{is_same_joint, is_same_state, reached_by, sharing, state_at, unheld}
use Rattle.fsb_owners.specs.Possible.{after_unseen}
use Rattle.fsb_owners.specs.Shown.{is_coming, may_drop_at}
use Rattle.fsb_owner_laws.proofs.Members.{below_four}
use Rattle.fsb_owner_laws.proofs.StepLosses.{drops_stay, stores_stay}
use Rattle.fsb_owner_run.proofs.Sets.{at_agent, joint_of, reached_in}
use Rattle.fsb_owner_run.proofs.States.{implied}

-- the agent has stored into an Exclusive copy that is ready
abbrev pub is_stored : Bool → Mesi → Mesi → Bool
is_stored ready from to = ready && (is_same_state from Exclusive && is_same_state to Modified)

-- from one state to the next without anything that is seen
abbrev pub is_moved : Bool → Bool → Mesi → Mesi → Bool
is_moved ready may from to = is_stored ready from to || is_kept_or_dropped may from to

pub moved-same : (ready may : Bool) (s : Mesi) → is_moved ready may s s ≡ true
unfolding is_same_state is_kept_or_dropped
moved-same ready may Invalid = grind arith
moved-same ready may Shared = grind arith
moved-same ready may Exclusive = grind arith
moved-same ready may Modified = grind arith

pub moved-drop : (ready may : Bool) (s : Mesi) → may ≡ true → is_modified s ≡ false → is_moved ready may s Invalid ≡ true
unfolding is_same_state is_kept_or_dropped
moved-drop ready may Invalid e f = grind arith
moved-drop ready may Shared e f = grind arith
moved-drop ready may Exclusive e f = grind arith
moved-drop ready may Modified e f = absurd (let no : ⊥ = cc in no)

pub moved-store : (ready may : Bool) → ready ≡ true → is_moved ready may Exclusive Modified ≡ true
unfolding is_same_state is_kept_or_dropped
moved-store ready may e = rw e refl

-- a state that a store turns into another was Exclusive before, or is kept
pub moved-on : (ready may : Bool) (from to : Mesi) → is_moved ready may from Exclusive ≡ true → ready ≡ true
    → is_moved ready may from Modified ≡ true
unfolding is_same_state is_kept_or_dropped
moved-on ready may Invalid to e f = absurd (let no : ⊥ = grind arith in no)
moved-on ready may Shared to e f = absurd (let no : ⊥ = grind arith in no)
moved-on ready may Exclusive to e f = rw f refl
moved-on ready may Modified to e f = absurd (let no : ⊥ = grind arith in no)

-- who has a line for itself has it alone
alone_in : Mesi → ℕ → Bool
alone_in s a = list_all (λ z. not (is_same_state (state_at z a) s) || is_same_joint z (alone s a)) every_joint

exclusive_computed : each_where (alone_in Exclusive) 4 ≡ true
unfolding each_where alone_in is_same_joint is_same_state state_at every_joint sharing alone all_where unheld
exclusive_computed = refl

modified_computed : each_where (alone_in Modified) 4 ≡ true
unfolding each_where alone_in is_same_joint is_same_state state_at every_joint sharing alone all_where unheld
modified_computed = refl

alone-by : (s : Mesi) (a : ℕ) (f : ℕ → Mesi) → a < 4 → alone_in s a ≡ true → Contains every_joint (joint_of f)
    → is_same_state (f a) s ≡ true → is_same_joint (joint_of f) (alone s a) ≡ true
unfolding alone_in
alone-by s a f l e c t =
    implied (is_same_state (state_at (joint_of f) a) s) (is_same_joint (joint_of f) (alone s a))
    (All-contains (λ z. (not (is_same_state (state_at z a) s) || is_same_joint z (alone s a)) ≡ true) every_joint (joint_of f)
    (AllPass-from_list_all (λ z. not (is_same_state (state_at z a) s) || is_same_joint z (alone s a)) every_joint e) c)
    (ap (λ x. is_same_state x s) (at_agent f a l) ∙ t)

among : (test : ℕ → Bool) (a : ℕ) → a < 4 → test a ≡ true → list_any test agents ≡ true
among test =
    below_four (λ a. test a ≡ true → list_any test agents ≡ true)
    (λ t. rw t refl)
    (λ t. or_right (test 0) (test 1 || (test 2 || (test 3 || false))) (rw t refl))
    (λ t. or_right (test 0) (test 1 || (test 2 || (test 3 || false)))
    (or_right (test 1) (test 2 || (test 3 || false)) (rw t refl)))
    (λ t. or_right (test 0) (test 1 || (test 2 || (test 3 || false)))
    (or_right (test 1) (test 2 || (test 3 || false)) (or_right (test 2) (test 3 || false) (rw t refl))))

-- one agent has stored
store-step : (ready : ℕ → Bool) (f g : ℕ → Mesi) (a : ℕ) → a < 4 → Contains every_joint (joint_of f)
    → Contains every_joint (joint_of g) → is_stored (ready a) (f a) (g a) ≡ true
    → is_after_stores ready (joint_of f) (joint_of g) ≡ true
unfolding is_after_stores
store-step ready f g a l cf cg e =
    let p = and_parts (ready a) (is_same_state (f a) Exclusive && is_same_state (g a) Modified) e in
    let s = and_parts (is_same_state (f a) Exclusive) (is_same_state (g a) Modified) p.1 in
    let from = alone-by Exclusive a f l (each_where-at (alone_in Exclusive) 4 exclusive_computed a l) cf s.0 in
    let to = alone-by Modified a g l (each_where-at (alone_in Modified) 4 modified_computed a l) cg s.1 in
    or_right (is_same_joint (joint_of f) (joint_of g)) _
    (among (λ b. ready b && is_same_joint (joint_of f) (alone Exclusive b) && is_same_joint (joint_of g) (alone Modified b))
    a l (and_from _ _ (and_from _ _ p.0 from) to))

drop-step : (may : ℕ → Bool) (f g : ℕ → Mesi) → ((a : ℕ) → a < 4 → is_kept_or_dropped (may a) (f a) (g a) ≡ true)
    → is_after_drops may (joint_of f) (joint_of g) ≡ true
unfolding is_after_drops state_at
drop-step may f g h =
    rw (h 0 (omega arith), h 1 (omega arith), h 2 (omega arith), h 3 (omega arith)) refl

-- some agent has stored, or none has
Stored : (ℕ → Bool) → (ℕ → Mesi) → (ℕ → Mesi) → Type 0
Stored ready f g = (a : ℕ) × (a < 4) × (is_stored (ready a) (f a) (g a) ≡ true)

some-stored : (ready may : ℕ → Bool) (f g : ℕ → Mesi) → ((a : ℕ) → a < 4 → is_moved (ready a) (may a) (f a) (g a) ≡ true)
    → (n : ℕ) → n ≤ 4
    → Stored ready f g ⊎ ((a : ℕ) → a < n → is_kept_or_dropped (may a) (f a) (g a) ≡ true)
unfolding Stored
some-stored ready may f g h zero l = inr (λ a below. absurd (omega (arith, below)))
some-stored ready may f g h (suc n) l =
    elim (some-stored ready may f g h n (omega arith)) [
      | inl found ↦ inl found
      | inr before ↦ elim (cases_Bool (is_stored (ready n) (f n) (g n))) [
        | inl t ↦ inl (n, omega arith, t)
        | inr none ↦
            let here = rest-of (is_stored (ready n) (f n) (g n)) (is_kept_or_dropped (may n) (f n) (g n)) none
            (h n (omega arith)) in
            inr (λ a below. elim (cases_lt a n) [
              | inl less ↦ before a less
              | inr more ↦
                  let same : a ≡ n = omega (arith, below) in
                  subst (λ b. is_kept_or_dropped (may b) (f b) (g b) ≡ true) (sym same) here
            ])
      ]
    ]
  where
    rest-of : (a b : Bool) → a ≡ false → (a || b) ≡ true → b ≡ true
    rest-of a b h1 h2 = grind arith

-- so the next joint state is reached
pub unseen-reaches : (v : Trace) (line n : ℕ) (set : List Joint) (f g : ℕ → Mesi) → Contains every_joint (joint_of f)
    → Contains every_joint (joint_of g)
    → ((a : ℕ) → a < 4 → is_moved (not (is_coming v line a (n + 1))) (may_drop_at v line n a) (f a) (g a) ≡ true)
    → Contains set (joint_of f) → Contains (after_unseen v line n set) (joint_of g)
unfolding after_unseen Stored
unseen-reaches v line n set f g cf cg h c =
    let ready = λ (a : ℕ). not (is_coming v line a (n + 1)) in
    let may = may_drop_at v line n in
    let stores = reached_by (is_after_stores ready) set in
    elim (some-stored ready may f g h 4 (omega arith)) [
      | inl found ↦
          reached_in (is_after_drops may) stores (joint_of g) (joint_of g) cg
          (reached_in (is_after_stores ready) set (joint_of f) (joint_of g) cg c
          (store-step ready f g found.0 found.1 cf cg found.2))
          (drops_stay may (joint_of g) cg)
      | inr none ↦
          reached_in (is_after_drops may) stores (joint_of f) (joint_of g) cg
          (reached_in (is_after_stores ready) set (joint_of f) (joint_of f) cf c (stores_stay ready (joint_of f) cf))
          (drop-step may f g none)
    ]
