-- Stores and drops that nobody sees: the sets of joint states go on by them as each agent may move.
use Rattle.std.proofs.Common.{ℕ, ◌+◌, ◌<◌, ◌≡◌, Bool, true, false, ◌&&◌, ◌||◌, not, nat_eq, List, ◌⊎◌, if◌then◌else◌}
use Rattle.std.proofs.Common.{refl, sym, ap, ◌∙◌, arith, inl, inr}
use Rattle.std.specs.List.{Contains, list_all, list_any}
use Rattle.std.proofs.lemmas.Bool.{and_from, and_parts, both_ways, cases_Bool, eqb-true, not-true, not_from_false, or_cases}
use Rattle.std.proofs.lemmas.Bool.{or_left, or_right}
use Rattle.fsb_count.specs.Clocks.{all_where, each_where}
use Rattle.fsb_count.proofs.Interface.{each_where-at}
use Rattle.fsb_line.specs.declared.state.Mesi.{Mesi}
use Rattle.fsb_line.specs.declared.state.Mesi.TheVariants.{Exclusive, Invalid, Modified}
use Rattle.fsb_line.specs.States.{is_modified}
use Rattle.fsb_trace.specs.At.{Trace}
use Rattle.fsb_owners.specs.Joint.{Joint, agents, alone, every_joint, is_after_drops, is_after_stores, is_kept_or_dropped}
use Rattle.fsb_owners.specs.Joint.{is_same_joint, is_same_state, reached_by, sharing, state_at, unheld}
use Rattle.fsb_owners.specs.Possible.{after_unseen}
use Rattle.fsb_owners.specs.Shown.{is_coming, may_drop_at}
use Rattle.fsb_owner_laws.proofs.Members.{at_agents, below_four}
use Rattle.fsb_owner_laws.proofs.Quiet.{IsStore, drop_each, implied, kept, same_states, store_parts}
use Rattle.fsb_owner_laws.proofs.StepLosses.{same_state, stores_stay}
use Rattle.fsb_courses.specs.Courses.{MayMove}
use Rattle.fsb_courses.proofs.Sets.{reached_in, reached_out}
use Rattle.fsb_courses.proofs.Writers.{any_agent, each_agent, of_every}

-- words of one state

same_from : (s t : Mesi) → s ≡ t → is_same_state s t ≡ true
same_from s t e = ap (is_same_state s) (sym e) ∙ same_state s

kept_out : (may : Bool) (s t : Mesi) → is_kept_or_dropped may s t ≡ true
    → (s ≡ t) ⊎ ((may ≡ true) × (is_modified s ≡ false) × (t ≡ Invalid))
unfolding is_kept_or_dropped
kept_out may s t e =
    elim (or_cases (is_same_state s t) (may && not (is_modified s) && is_same_state Invalid t) e) [
      | inl same ↦ inl (same_states s t same)
      | inr f ↦
          let p = and_parts (may && not (is_modified s)) (is_same_state Invalid t) f in
          let q = and_parts may (not (is_modified s)) p.0 in
          inr (q.0, not-true (is_modified s) q.1, sym (same_states Invalid t p.1))
    ]

kept_same : (may : Bool) (s t : Mesi) → s ≡ t → is_kept_or_dropped may s t ≡ true
unfolding is_kept_or_dropped
kept_same may s t e = or_left (is_same_state s t) (may && not (is_modified s) && is_same_state Invalid t) (same_from s t e)

kept_drop : (may : Bool) (s t : Mesi) → may ≡ true → is_modified s ≡ false → t ≡ Invalid → is_kept_or_dropped may s t ≡ true
unfolding is_kept_or_dropped
kept_drop may s t m f e =
    or_right (is_same_state s t) (may && not (is_modified s) && is_same_state Invalid t)
    (and_from (may && not (is_modified s)) (is_same_state Invalid t)
    (and_from may (not (is_modified s)) m (not_from_false (is_modified s) f)) (same_from Invalid t (sym e)))

alone_at : (s : Mesi) (a b : ℕ) → b < 4 → state_at (alone s a) b ≡ (if nat_eq b a then s else Invalid)
unfolding alone
alone_at s a b l = at_agents (λ d. if nat_eq d a then s else Invalid) b l

-- each agent moves so
abbrev pub AllMove : Trace → ℕ → ℕ → Joint → Joint → Type 0
AllMove v line c x y = (b : ℕ) → b < 4 → MayMove v line c b (state_at x b) (state_at y b)

-- a store, then drops

drop_move : (v : Trace) (line c b : ℕ) (s t : Mesi) → is_kept_or_dropped (may_drop_at v line c b) s t ≡ true
    → MayMove v line c b s t
drop_move v line c b s t e =
    elim (kept_out (may_drop_at v line c b) s t e) [
      | inl same ↦ inl same
      | inr p ↦ inr (inr (record { clean = p.1; idle = p.0; gone = p.2 }))
    ]

store_here : (v : Trace) (line c b : ℕ) (s t u : Mesi) → not (is_coming v line b (c + 1)) ≡ true → s ≡ Exclusive → t ≡ Modified
    → is_kept_or_dropped (may_drop_at v line c b) t u ≡ true → MayMove v line c b s u
store_here v line c b s t u r e m k =
    elim (kept_out (may_drop_at v line c b) t u k) [
      | inl same ↦ inr (inl (record { exclusive = e; ready = not-true (is_coming v line b (c + 1)) r; modified = sym same ∙ m }))
      | inr p ↦ absurd (both_ways (is_modified t) p.1 (ap is_modified m))
    ]

store_elsewhere : (v : Trace) (line c b : ℕ) (s t u : Mesi) → s ≡ Invalid → t ≡ Invalid
    → is_kept_or_dropped (may_drop_at v line c b) t u ≡ true → MayMove v line c b s u
store_elsewhere v line c b s t u e m k =
    elim (kept_out (may_drop_at v line c b) t u k) [ inl same ↦ inl (e ∙ sym m ∙ same) | inr p ↦ inl (e ∙ sym p.2) ]

chosen : (b : Bool) (s : Mesi) → b ≡ true → (if b then s else Invalid) ≡ s
chosen b s e = rw e refl

other : (b : Bool) (s : Mesi) → b ≡ false → (if b then s else Invalid) ≡ Invalid
other b s e = rw e refl

store_move : (v : Trace) (line c : ℕ) (x z y : Joint) (a b : ℕ) → IsStore (λ a. not (is_coming v line a (c + 1))) x z a → b < 4
    → is_kept_or_dropped (may_drop_at v line c b) (state_at z b) (state_at y b) ≡ true
    → MayMove v line c b (state_at x b) (state_at y b)
store_move v line c x z y a b s l k =
    let there : state_at x b ≡ (if nat_eq b a then Exclusive else Invalid) =
    ap (λ j. state_at j b) s.from ∙ alone_at Exclusive a b l in
    let after : state_at z b ≡ (if nat_eq b a then Modified else Invalid) =
    ap (λ j. state_at j b) s.to ∙ alone_at Modified a b l in
    elim (cases_Bool (nat_eq b a)) [
      | inl t ↦ store_here v line c b (state_at x b) (state_at z b) (state_at y b)
          (ap (λ d. not (is_coming v line d (c + 1))) (eqb-true b a t) ∙ s.may)
          (there ∙ chosen (nat_eq b a) Exclusive t) (after ∙ chosen (nat_eq b a) Modified t) k
      | inr f ↦ store_elsewhere v line c b (state_at x b) (state_at z b) (state_at y b)
          (there ∙ other (nat_eq b a) Exclusive f) (after ∙ other (nat_eq b a) Modified f) k
    ]

moves_from : (v : Trace) (line c : ℕ) (x z y : Joint) → is_after_stores (λ a. not (is_coming v line a (c + 1))) x z ≡ true
    → is_after_drops (may_drop_at v line c) z y ≡ true → AllMove v line c x y
moves_from v line c x z y s d b l =
    let k = each_where-at (kept (may_drop_at v line c) z y) 4 (drop_each (may_drop_at v line c) z y d) b l in
    elim (store_parts (λ a. not (is_coming v line a (c + 1))) x z s) [
      | inl same ↦ drop_move v line c b (state_at x b) (state_at y b)
          (ap (λ t. is_kept_or_dropped (may_drop_at v line c b) t (state_at y b)) (ap (λ j. state_at j b) same) ∙ k)
      | inr p ↦ store_move v line c x z y p.0 b p.1 l k
    ]

-- where a joint state came from
pub record IsMovedOn (v : Trace) (line c : ℕ) (set : List Joint) (to : Joint) : Type 0 where
  pub from : Joint
  pub within : Contains set from
  pub moves : AllMove v line c from to
  pub coherent : Contains every_joint to

pub unseen_out : (v : Trace) (line c : ℕ) (set : List Joint) (y : Joint) → Contains (after_unseen v line c set) y
    → IsMovedOn v line c set y
unfolding after_unseen
unseen_out v line c set y h =
    let d = reached_out (is_after_drops (may_drop_at v line c)) (reached_by (is_after_stores (λ a. not (is_coming v line a (c + 1)))) set) y h in
    let s = reached_out (is_after_stores (λ a. not (is_coming v line a (c + 1)))) set d.from d.within in
    record {
      from = s.from;
      within = s.within;
      moves = moves_from v line c s.from d.from y s.stepped d.stepped;
      coherent = d.coherent;
    }

-- the other way round: who stores has the line alone

is_alone_with : Mesi → ℕ → Bool
is_alone_with s a = list_all (λ z. not (is_same_state (state_at z a) s) || is_same_joint z (alone s a)) every_joint

exclusive_computed : each_where (is_alone_with Exclusive) 4 ≡ true
unfolding each_where is_alone_with is_same_joint is_same_state state_at every_joint sharing alone all_where unheld
exclusive_computed = refl

modified_computed : each_where (is_alone_with Modified) 4 ≡ true
unfolding each_where is_alone_with is_same_joint is_same_state state_at every_joint sharing alone all_where unheld
modified_computed = refl

alone_with : (s : Mesi) (z : Joint) (a : ℕ) → each_where (is_alone_with s) 4 ≡ true → a < 4 → Contains every_joint z
    → is_same_state (state_at z a) s ≡ true → is_same_joint z (alone s a) ≡ true
unfolding is_alone_with
alone_with s z a e l c t =
    implied (is_same_state (state_at z a) s) (is_same_joint z (alone s a))
    (of_every (λ z. not (is_same_state (state_at z a) s) || is_same_joint z (alone s a)) (each_where-at (is_alone_with s) 4 e a l) z c) t

-- an agent that has stored, if there is one
abbrev has_stored : Joint → Joint → ℕ → Bool
has_stored x y b = is_same_state (state_at x b) Exclusive && is_same_state (state_at y b) Modified

abbrev IsFound : (ℕ → Bool) → Type 0
IsFound p = (b : ℕ) × (b < 4) × (p b ≡ true)

found_one : (p : ℕ → Bool) → IsFound p ⊎ ((b : ℕ) → b < 4 → p b ≡ false)
found_one p =
    elim (cases_Bool (p 0)) [
      | inl t ↦ inl (0, omega arith, t)
      | inr e ↦ elim (cases_Bool (p 1)) [
        | inl t ↦ inl (1, omega arith, t)
        | inr f ↦ elim (cases_Bool (p 2)) [
          | inl t ↦ inl (2, omega arith, t)
          | inr g ↦ elim (cases_Bool (p 3)) [
            | inl t ↦ inl (3, omega arith, t)
            | inr h ↦ inr (below_four (λ b. p b ≡ false) e f g h)
          ]
        ]
      ]
    ]

ready_of : (v : Trace) (line c b : ℕ) (s t : Mesi) → MayMove v line c b s t → s ≡ Exclusive → t ≡ Modified
    → not (is_coming v line b (c + 1)) ≡ true
ready_of v line c b s t m e f =
    elim m [
      | inl same ↦ absurd (let bad : Exclusive ≡ Modified = sym e ∙ same ∙ f in let no : ⊥ = cc in no)
      | inr k ↦ elim k [
        | inl stored ↦ not_from_false (is_coming v line b (c + 1)) stored.ready
        | inr dropped ↦ absurd (let bad : Modified ≡ Invalid = sym f ∙ dropped.gone in let no : ⊥ = cc in no)
      ]
    ]

stored_by : (ready : ℕ → Bool) (x y : Joint) (a : ℕ) → a < 4 → ready a ≡ true → is_same_joint x (alone Exclusive a) ≡ true
    → is_same_joint y (alone Modified a) ≡ true → is_after_stores ready x y ≡ true
unfolding is_after_stores
stored_by ready x y a l r e f =
    or_right (is_same_joint x y) (list_any (λ a. ready a && is_same_joint x (alone Exclusive a) && is_same_joint y (alone Modified a)) agents)
    (any_agent (λ a. ready a && is_same_joint x (alone Exclusive a) && is_same_joint y (alone Modified a)) a l
    (and_from (ready a && is_same_joint x (alone Exclusive a)) (is_same_joint y (alone Modified a))
    (and_from (ready a) (is_same_joint x (alone Exclusive a)) r e) f))

kept_of : (v : Trace) (line c b : ℕ) (s t : Mesi) → MayMove v line c b s t
    → (is_same_state s Exclusive && is_same_state t Modified) ≡ false → is_kept_or_dropped (may_drop_at v line c b) s t ≡ true
kept_of v line c b s t m n =
    elim m [
      | inl same ↦ kept_same (may_drop_at v line c b) s t same
      | inr k ↦ elim k [
        | inl stored ↦ absurd (both_ways (is_same_state s Exclusive && is_same_state t Modified) n
            (and_from (is_same_state s Exclusive) (is_same_state t Modified) (same_from s Exclusive stored.exclusive)
            (same_from t Modified stored.modified)))
        | inr dropped ↦ kept_drop (may_drop_at v line c b) s t dropped.idle dropped.clean dropped.gone
      ]
    ]

drops_of : (v : Trace) (line c : ℕ) (x y : Joint) → AllMove v line c x y → ((b : ℕ) → b < 4 → has_stored x y b ≡ false)
    → is_after_drops (may_drop_at v line c) x y ≡ true
unfolding is_after_drops
drops_of v line c x y m n =
    each_agent (λ a. is_kept_or_dropped (may_drop_at v line c a) (state_at x a) (state_at y a))
    (λ b l. kept_of v line c b (state_at x b) (state_at y b) (m b l) (n b l))

drops_same : (may : ℕ → Bool) (y : Joint) → is_after_drops may y y ≡ true
unfolding is_after_drops
drops_same may y =
    each_agent (λ a. is_kept_or_dropped (may a) (state_at y a) (state_at y a))
    (λ b l. kept_same (may b) (state_at y b) (state_at y b) refl)

pub unseen_in : (v : Trace) (line c : ℕ) (set : List Joint) (x y : Joint) → Contains set x → Contains every_joint x
    → Contains every_joint y → AllMove v line c x y → Contains (after_unseen v line c set) y
unfolding after_unseen
unseen_in v line c set x y h cx cy m =
    let ready = λ (a : ℕ). not (is_coming v line a (c + 1)) in
    let may = may_drop_at v line c in
    elim (found_one (has_stored x y)) [
      | inl f ↦
          let p = and_parts (is_same_state (state_at x f.0) Exclusive) (is_same_state (state_at y f.0) Modified) f.2 in
          let r = ready_of v line c f.0 (state_at x f.0) (state_at y f.0) (m f.0 f.1) (same_states (state_at x f.0) Exclusive p.0)
          (same_states (state_at y f.0) Modified p.1) in
          reached_in (is_after_drops may) (reached_by (is_after_stores ready) set) y y
          (reached_in (is_after_stores ready) set x y h cy
          (stored_by ready x y f.0 f.1 r (alone_with Exclusive x f.0 exclusive_computed f.1 cx p.0)
          (alone_with Modified y f.0 modified_computed f.1 cy p.1)))
          cy (drops_same may y)
      | inr n ↦
          reached_in (is_after_drops may) (reached_by (is_after_stores ready) set) x y
          (reached_in (is_after_stores ready) set x x h cx (stores_stay ready x cx)) cy (drops_of v line c x y m n)
    ]
