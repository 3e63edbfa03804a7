-- The joint state of a line in a run: the state at each agent, at the sample of a clock.
use Rattle.std.proofs.Common.{ℕ, ◌≤◌, ◌≡◌, Bool, true, false, ◌&&◌, ◌||◌, not}
use Rattle.std.proofs.Common.{[], ◌∷◌, length, refl, sym, subst, ◌∙◌, arith}
use Rattle.std.specs.List.{Contains, list_any}
use Rattle.std.proofs.lemmas.Bool.{and_from, and_parts, false_from_ne_true}
use Rattle.fsb_count.specs.Clocks.{all_where}
use Rattle.fsb_line.specs.declared.state.Mesi.{Mesi}
use Rattle.fsb_line.specs.declared.state.Mesi.TheVariants.{Exclusive, Invalid, Modified, Shared}
use Rattle.fsb_line.specs.States.{is_held, is_modified, is_sole}
use Rattle.fsb_timely.specs.Past.{Past}
use Rattle.fsb_timely.specs.Grants.{holds_line, is_exclusive}
use Rattle.fsb_timely.specs.Hits.{is_dirty, line_state_of}
use Rattle.fsb_timely.specs.Runs.{Run, past_of}
use Rattle.fsb_timely.specs.Timely.{Timely}
use Rattle.fsb_timely.proofs.Interface.{holds_line-says}
use Rattle.fsb_lawful.specs.Beginning.{KeepsBounds}
use Rattle.fsb_tied.proofs.Interface.{alone-in-run, dirty-held}
use Rattle.fsb_owners.specs.Joint.{Joint, alone, every_joint, is_same_joint, is_same_state, sharing, unheld}
use Rattle.fsb_owner_laws.proofs.Quiet.{any_found, same_joints}
use Rattle.fsb_owner_run.proofs.Sets.{joint_of}

-- a state, by whether its agent holds the line, has it for itself, and is dirty on it
abbrev told : Bool → Bool → Bool → Mesi
told held own dirty =
    elim held [
      | false ↦ Invalid
      | true ↦ elim own [ false ↦ Shared | true ↦ elim dirty [ true ↦ Modified | false ↦ Exclusive ] ]
    ]

told-held : (held own dirty : Bool) → is_held (told held own dirty) ≡ held
told-held true true true = refl
told-held true true false = refl
told-held true false dirty = refl
told-held false own dirty = refl

told-sole : (held own dirty : Bool) → (own ≡ true → held ≡ true) → is_sole (told held own dirty) ≡ own
told-sole true true true h = refl
told-sole true true false h = refl
told-sole true false dirty h = refl
told-sole false false dirty h = refl
told-sole false true dirty h = absurd (let e = h refl in let no : ⊥ = cc in no)

told-modified : (held own dirty : Bool) → (dirty ≡ true → held ≡ true) → (dirty ≡ true → own ≡ true)
    → is_modified (told held own dirty) ≡ dirty
told-modified true true true h g = refl
told-modified true true false h g = refl
told-modified true false false h g = refl
told-modified true false true h g = absurd (let e = g refl in let no : ⊥ = cc in no)
told-modified false own false h g = refl
told-modified false own true h g = absurd (let e = h refl in let no : ⊥ = cc in no)

pub exclusive-held : (p : Past) (a line n : ℕ) → is_exclusive p a line n ≡ true → holds_line p a line n ≡ true
unfolding is_exclusive
exclusive-held p a line n e = (and_parts (holds_line p a line n) _ (and_parts _ _ e).0).0

pub dirty-own : (p : Past) (a line n : ℕ) → is_dirty p a line n ≡ true → is_exclusive p a line n ≡ true
unfolding is_dirty
dirty-own p a line n e = (and_parts (is_exclusive p a line n) _ e).0

pub state-held : (p : Past) (a line n : ℕ) → is_held (line_state_of p a line n) ≡ holds_line p a line n
unfolding line_state_of
state-held p a line n = told-held (holds_line p a line n) (is_exclusive p a line n) (is_dirty p a line n)

pub state-sole : (p : Past) (a line n : ℕ) → is_sole (line_state_of p a line n) ≡ is_exclusive p a line n
unfolding line_state_of
state-sole p a line n =
    told-sole (holds_line p a line n) (is_exclusive p a line n) (is_dirty p a line n) (exclusive-held p a line n)

pub state-modified : (p : Past) (a line n : ℕ) → is_modified (line_state_of p a line n) ≡ is_dirty p a line n
unfolding line_state_of
state-modified p a line n =
    told-modified (holds_line p a line n) (is_exclusive p a line n) (is_dirty p a line n) (dirty-held p a line n)
    (dirty-own p a line n)

pub not-held : (s : Mesi) → is_held s ≡ false → s ≡ Invalid
not-held Invalid e = refl
not-held Shared e = absurd (let no : ⊥ = cc in no)
not-held Exclusive e = absurd (let no : ⊥ = cc in no)
not-held Modified e = absurd (let no : ⊥ = cc in no)

-- a test of a state, at all four
abbrev of_states : (Mesi → Bool) → Bool
of_states test = test Invalid && test Shared && test Exclusive && test Modified

of_states-at : (test : Mesi → Bool) (s : Mesi) → of_states test ≡ true → test s ≡ true
of_states-at test s e =
    let a = and_parts (test Invalid && test Shared && test Exclusive) (test Modified) e in
    let b = and_parts (test Invalid && test Shared) (test Exclusive) a.0 in
    let c = and_parts (test Invalid) (test Shared) b.0 in
    elim s as (λ s. test s ≡ true) [ Invalid ↦ c.0 | Shared ↦ c.1 | Exclusive ↦ b.1 | Modified ↦ a.1 ]

-- two agents with these states are apart: where one of them has the line for itself the other does not hold it
abbrev are_apart : Mesi → Mesi → Bool
are_apart s t = (not (is_sole s) || not (is_held t)) && (not (is_sole t) || not (is_held s))

abbrev all_apart : Mesi → Mesi → Mesi → Mesi → Bool
all_apart s t u w =
    are_apart s t && are_apart s u && are_apart s w && are_apart t u && are_apart t w && are_apart u w

is_there : Mesi → Mesi → Mesi → Mesi → Bool
is_there s t u w = not (all_apart s t u w) || list_any (is_same_joint (s ∷ t ∷ u ∷ w ∷ [])) every_joint

all_there : of_states (λ s. of_states (λ t. of_states (λ u. of_states (λ w. is_there s t u w)))) ≡ true
unfolding is_there is_same_joint is_same_state every_joint sharing alone all_where unheld
all_there = refl

there-at : (s t u w : Mesi) → is_there s t u w ≡ true
there-at s t u w =
    of_states-at (λ w. is_there s t u w) w
    (of_states-at (λ u. of_states (λ w. is_there s t u w)) u
    (of_states-at (λ t. of_states (λ u. of_states (λ w. is_there s t u w))) t
    (of_states-at (λ s. of_states (λ t. of_states (λ u. of_states (λ w. is_there s t u w)))) s all_there)))

apart-by : (s t : Mesi) → (is_sole s ≡ true → is_held t ≡ false) → (is_sole t ≡ true → is_held s ≡ false)
    → are_apart s t ≡ true
apart-by s t f g = and_from _ _ (one-way (is_sole s) (is_held t) f) (one-way (is_sole t) (is_held s) g)
  where
    one-way : (b c : Bool) → (b ≡ true → c ≡ false) → (not b || not c) ≡ true
    one-way true c h = rw (h refl) refl
    one-way false c h = refl

pub implied : (a b : Bool) → (not a || b) ≡ true → a ≡ true → b ≡ true
implied a b e t = let h = rw t at e in h

-- where who has the line for itself is its only holder, the joint state is one of a coherent line
pub coherent-joint : (f : ℕ → Mesi)
    → ((a b : ℕ) → (a ≡ b → ⊥) → is_sole (f a) ≡ true → is_held (f b) ≡ false) → Contains every_joint (joint_of f)
unfolding is_there
coherent-joint f h =
    let pair = λ (a b : ℕ) (d : a ≡ b → ⊥). apart-by (f a) (f b) (h a b d) (h b a (λ e. d (sym e))) in
    let apart : all_apart (f 0) (f 1) (f 2) (f 3) ≡ true =
    and_from _ _ (and_from _ _ (and_from _ _ (and_from _ _ (and_from _ _
    (pair 0 1 (λ e. let e' = e in omega (arith, e'))) (pair 0 2 (λ e. let e' = e in omega (arith, e'))))
    (pair 0 3 (λ e. let e' = e in omega (arith, e')))) (pair 1 2 (λ e. let e' = e in omega (arith, e'))))
    (pair 1 3 (λ e. let e' = e in omega (arith, e')))) (pair 2 3 (λ e. let e' = e in omega (arith, e'))) in
    let found = any_found (is_same_joint (joint_of f)) every_joint
    (implied (all_apart (f 0) (f 1) (f 2) (f 3)) (list_any (is_same_joint (joint_of f)) every_joint)
    (there-at (f 0) (f 1) (f 2) (f 3)) apart) in
    subst (λ y. Contains every_joint y) (sym (same_joints (joint_of f) found.0 found.2)) found.1

-- the joint state of a line at the sample of n
abbrev pub joint_at : Past → ℕ → ℕ → Joint
joint_at p line n = joint_of (λ a. line_state_of p a line n)

pub run-coherent : (r : Run) (line n : ℕ) → Timely r → KeepsBounds r.plan → n ≤ length r.trace
    → Contains every_joint (joint_at (past_of r) line n)
run-coherent r line n h bounds l =
    let p = past_of r in
    coherent-joint (λ a. line_state_of p a line n) (λ a b apart sole.
    state-held p b line n
    ∙ alone-in-run r a b line n h bounds l (sym (state-sole p a line n) ∙ sole) (λ e. apart (sym e)))

first-held : (p : Past) (a line : ℕ) → holds_line p a line 0 ≡ false
first-held p a line =
    false_from_ne_true _ (λ t. let below = (holds_line-says p a line 0 t).before in omega (arith, below))

-- at first nobody holds it
pub first-joint : (p : Past) (line : ℕ) → joint_at p line 0 ≡ unheld
unfolding unheld sharing
first-joint p line =
    let none = λ (a : ℕ). not-held (line_state_of p a line 0) (state-held p a line 0 ∙ first-held p a line) in
    λ i. none 0 i ∷ none 1 i ∷ none 2 i ∷ none 3 i ∷ []
