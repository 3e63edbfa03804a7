-- A line of which nothing is shown keeps its joint states: stores and drops that happened already add none.
use Rattle.std.proofs.Common.{ℕ, suc, ◌+◌, ◌<◌, ◌≡◌, Bool, true, false, ◌&&◌, ◌||◌, not, List, [], ◌∷◌, Option, Some, None}
use Rattle.std.proofs.Common.{refl, sym, ap, ◌∙◌, arith, inl, inr, ◌⊎◌, if◌then◌else◌}
use Rattle.std.specs.List.{Contains, filter, list_all, list_any}
use Rattle.std.specs.Cmp.Lexicographic.{pointwise}
use Rattle.std.proofs.lemmas.Bool.{and_parts, both_ways, cases_Bool}
use Rattle.std.proofs.lemmas.List.Elements.{All-contains}
use Rattle.std.proofs.lemmas.List.Folds.{list_any_at}
use Rattle.std.proofs.lemmas.List.Sums.{AllPass-from_list_all}
use Rattle.fsb_count.specs.Clocks.{all_where, each_where}
use Rattle.fsb_count.proofs.Interface.{each_where-at}
use Rattle.fsb_line.specs.declared.purpose.Purpose.{Purpose}
use Rattle.fsb_line.specs.declared.state.Mesi.{Mesi}
use Rattle.fsb_line.specs.declared.state.Mesi.TheVariants.{Exclusive, Invalid, Modified, Shared}
use Rattle.fsb_trace.specs.At.{Trace}
use Rattle.fsb_owners.specs.Joint.{Joint, alone, every_joint, is_after_drops, is_after_stores, is_kept_or_dropped}
use Rattle.fsb_owners.specs.Joint.{is_same_joint, is_same_state, reached_by, sharing, state_at, unheld}
use Rattle.fsb_owners.specs.Possible.{after_answer, after_begin, after_clock, after_snoop_end, after_unseen}
use Rattle.fsb_owners.specs.Possible.{at_snoop_end, by_request, left_by, made_by}
use Rattle.fsb_owners.specs.Shown.{is_coming, is_for_line, may_drop_at, names, snooped_at}
use Rattle.fsb_owner_laws.proofs.AgreePossible.{drops-same, stores-same}
use Rattle.fsb_owner_laws.proofs.AgreeWords.{same_answers}
use Rattle.fsb_owner_laws.proofs.Losses.{any_filter}
use Rattle.fsb_owner_laws.proofs.StepLosses.{drops_stay, same_joint, stores_stay}

or_left : (a b : Bool) → a ≡ false → (a || b) ≡ b
or_left a b f = rw f refl

pub any_found : (p : Joint → Bool) (xs : List Joint) → list_any p xs ≡ true → (x : Joint) × (Contains xs x) × (p x ≡ true)
any_found p [] e = absurd (let no : ⊥ = cc in no)
any_found p (x ∷ xs) e =
    elim (cases_Bool (p x)) [
      | inl t ↦ (x, (0, omega arith, refl), t)
      | inr f ↦ let r = any_found p xs (sym (or_left (p x) (list_any p xs) f) ∙ e) in
          (r.0, (suc r.1.0, (let l = r.1.1 in omega (arith, l)), r.1.2), r.2)
    ]

pub any_at : (p : Joint → Bool) (xs : List Joint) (x : Joint) → Contains xs x → p x ≡ true → list_any p xs ≡ true
any_at p xs x c t = list_any_at p xs c.0 x c.1 (ap p c.2 ∙ t)

filter_alike : (p q : Joint → Bool) (xs : List Joint) → ((x : Joint) → Contains xs x → p x ≡ q x) → filter p xs ≡ filter q xs
filter_alike p q [] h = refl
filter_alike p q (x ∷ xs) h =
    rw (
      h x (0, omega arith, refl),
      filter_alike p q xs (λ y c. h y (suc c.0, (let l = c.1 in omega (arith, l)), c.2)),
    ) refl

-- a set that the step does not leave keeps its joint states
pub closed : (step : Joint → Joint → Bool) (p : Joint → Bool) → ((x : Joint) → Contains every_joint x → step x x ≡ true)
    → ((x y : Joint) → Contains every_joint x → Contains every_joint y → p x ≡ true → step x y ≡ true → p y ≡ true)
    → reached_by step (filter p every_joint) ≡ filter p every_joint
unfolding reached_by
closed step p r h =
    filter_alike (λ to. list_any (λ from. step from to) (filter p every_joint)) p every_joint
    (λ y c. same_answers (list_any (λ from. step from y) (filter p every_joint)) (p y)
    (λ t. let f = any_found (λ x. p x && step x y) every_joint (sym (any_filter p (λ from. step from y) every_joint) ∙ t) in
    let both = and_parts (p f.0) (step f.0 y) f.2 in h f.0 y f.1 c both.0 both.1)
    (λ t. any_filter p (λ from. step from y) every_joint
    ∙ any_at (λ x. p x && step x y) every_joint y c (rw (t, r y c) refl)))

-- a test of a state, at all four
unfoldable pub of_states : (Mesi → Bool) → Bool
of_states test = test Invalid && test Shared && test Exclusive && test Modified

pub of_states-at : (test : Mesi → Bool) (s : Mesi) → of_states test ≡ true → test s ≡ true
unfolding of_states
of_states-at test s e =
    let a = and_parts (test Invalid && test Shared && test Exclusive) (test Modified) e in
    let b = and_parts (test Invalid && test Shared) (test Exclusive) a.0 in
    let c = and_parts (test Invalid) (test Shared) b.0 in
    elim s as (λ s. test s ≡ true) [ Invalid ↦ c.0 | Shared ↦ c.1 | Exclusive ↦ b.1 | Modified ↦ a.1 ]

-- where both are, the third is
follows : Bool → Bool → Bool → Bool
follows a b c = not a || not b || c

follows-at : (a b c : Bool) → follows a b c ≡ true → a ≡ true → b ≡ true → c ≡ true
unfolding follows
follows-at a b c e f g = let h = rw (f, g) at e in h

drop_twice : (may : Bool) → of_states (λ s. of_states (λ t. of_states (λ u.
    follows (is_kept_or_dropped may s t) (is_kept_or_dropped may t u) (is_kept_or_dropped may s u)))) ≡ true
unfolding of_states follows is_kept_or_dropped is_same_state
drop_twice true = refl
drop_twice false = refl

dropped_on : (may : Bool) (s t u : Mesi) → is_kept_or_dropped may s t ≡ true → is_kept_or_dropped may t u ≡ true
    → is_kept_or_dropped may s u ≡ true
dropped_on may s t u =
    follows-at (is_kept_or_dropped may s t) (is_kept_or_dropped may t u) (is_kept_or_dropped may s u)
    (of_states-at (λ u. follows (is_kept_or_dropped may s t) (is_kept_or_dropped may t u) (is_kept_or_dropped may s u)) u
    (of_states-at (λ t. of_states (λ u. follows (is_kept_or_dropped may s t) (is_kept_or_dropped may t u) (is_kept_or_dropped may s u))) t
    (of_states-at (λ s. of_states (λ t. of_states (λ u. follows (is_kept_or_dropped may s t) (is_kept_or_dropped may t u) (is_kept_or_dropped may s u)))) s
    (drop_twice may))))

-- the four parts of a drop
abbrev pub kept : (ℕ → Bool) → Joint → Joint → ℕ → Bool
kept may x y a = is_kept_or_dropped (may a) (state_at x a) (state_at y a)

pub four : (a b c d : Bool) → (a && (b && (c && (d && true)))) ≡ true → (a ≡ true) × (b ≡ true) × (c ≡ true) × (d ≡ true)
four true true true true e = (refl, refl, refl, refl)
four true true true false e = absurd (cc)
four true true false d e = absurd (cc)
four true false c d e = absurd (cc)
four false b c d e = absurd (cc)

drop_parts : (may : ℕ → Bool) (x y : Joint) → is_after_drops may x y ≡ true
    → (kept may x y 0 ≡ true) × (kept may x y 1 ≡ true) × (kept may x y 2 ≡ true) × (kept may x y 3 ≡ true)
unfolding is_after_drops
drop_parts may x y e = four (kept may x y 0) (kept may x y 1) (kept may x y 2) (kept may x y 3) e

pub drops_on : (may : ℕ → Bool) (x y z : Joint) → is_after_drops may x y ≡ true → is_after_drops may y z ≡ true
    → is_after_drops may x z ≡ true
unfolding is_after_drops
drops_on may x y z e f =
    let p = drop_parts may x y e in
    let r = drop_parts may y z f in
    rw (
      dropped_on (may 0) (state_at x 0) (state_at y 0) (state_at z 0) p.0 r.0,
      dropped_on (may 1) (state_at x 1) (state_at y 1) (state_at z 1) p.1 r.1,
      dropped_on (may 2) (state_at x 2) (state_at y 2) (state_at z 2) p.2 r.2,
      dropped_on (may 3) (state_at x 3) (state_at y 3) (state_at z 3) p.3 r.3,
    ) refl

pub same_states : (s t : Mesi) → is_same_state s t ≡ true → s ≡ t
unfolding is_same_state
same_states Invalid Invalid e = refl
same_states Shared Shared e = refl
same_states Exclusive Exclusive e = refl
same_states Modified Modified e = refl
same_states Invalid Shared e = absurd (cc)
same_states Invalid Exclusive e = absurd (cc)
same_states Invalid Modified e = absurd (cc)
same_states Shared Invalid e = absurd (cc)
same_states Shared Exclusive e = absurd (cc)
same_states Shared Modified e = absurd (cc)
same_states Exclusive Invalid e = absurd (cc)
same_states Exclusive Shared e = absurd (cc)
same_states Exclusive Modified e = absurd (cc)
same_states Modified Invalid e = absurd (cc)
same_states Modified Shared e = absurd (cc)
same_states Modified Exclusive e = absurd (cc)

same_lists : (x y : Joint) → pointwise is_same_state x y ≡ true → x ≡ y
same_lists [] [] e = refl
same_lists [] (t ∷ y) e = absurd (cc)
same_lists (s ∷ x) [] e = absurd (cc)
same_lists (s ∷ x) (t ∷ y) e =
    let p = and_parts (is_same_state s t) (pointwise is_same_state x y) e in
    rw (same_states s t p.0, same_lists x y p.1) refl

pub same_joints : (x y : Joint) → is_same_joint x y ≡ true → x ≡ y
unfolding is_same_joint
same_joints x y e = same_lists x y e

-- a store: nothing changed, or an agent that is ready had the line Exclusive and has it Modified
pub record IsStore (ready : ℕ → Bool) (x y : Joint) (a : ℕ) : Type 0 where
  pub agent : a < 4
  pub may : ready a ≡ true
  pub from : x ≡ alone Exclusive a
  pub to : y ≡ alone Modified a

abbrev stores_at : (ℕ → Bool) → Joint → Joint → ℕ → Bool
stores_at ready x y a = ready a && is_same_joint x (alone Exclusive a) && is_same_joint y (alone Modified a)

store_at : (ready : ℕ → Bool) (x y : Joint) (a : ℕ) → a < 4 → stores_at ready x y a ≡ true → IsStore ready x y a
store_at ready x y a l e =
    let p = and_parts (ready a && is_same_joint x (alone Exclusive a)) (is_same_joint y (alone Modified a)) e in
    let r = and_parts (ready a) (is_same_joint x (alone Exclusive a)) p.0 in
    record {
      agent = l;
      may = r.0;
      from = same_joints x (alone Exclusive a) r.1;
      to = same_joints y (alone Modified a) p.1;
    }

either_of : (a b : Bool) → (a || b) ≡ true → (a ≡ true) ⊎ (b ≡ true)
either_of true b e = inl refl
either_of false b e = inr e

pub store_parts : (ready : ℕ → Bool) (x y : Joint) → is_after_stores ready x y ≡ true
    → (x ≡ y) ⊎ ((a : ℕ) × IsStore ready x y a)
unfolding is_after_stores
store_parts ready x y e =
    elim (either_of (is_same_joint x y) (stores_at ready x y 0 || (stores_at ready x y 1 || (stores_at ready x y 2 || (stores_at ready x y 3 || false)))) e) [
      | inl s ↦ inl (same_joints x y s)
      | inr f ↦ elim (either_of (stores_at ready x y 0) (stores_at ready x y 1 || (stores_at ready x y 2 || (stores_at ready x y 3 || false))) f) [
        | inl s ↦ inr (0, store_at ready x y 0 (omega arith) s)
        | inr g ↦ elim (either_of (stores_at ready x y 1) (stores_at ready x y 2 || (stores_at ready x y 3 || false)) g) [
          | inl s ↦ inr (1, store_at ready x y 1 (omega arith) s)
          | inr h ↦ elim (either_of (stores_at ready x y 2) (stores_at ready x y 3 || false) h) [
            | inl s ↦ inr (2, store_at ready x y 2 (omega arith) s)
            | inr k ↦ elim (either_of (stores_at ready x y 3) false k) [
              | inl s ↦ inr (3, store_at ready x y 3 (omega arith) s)
              | inr n ↦ absurd (let no : ⊥ = cc in no)
            ]
          ]
        ]
      ]
    ]

pub drop_each : (may : ℕ → Bool) (x y : Joint) → is_after_drops may x y ≡ true → each_where (kept may x y) 4 ≡ true
unfolding each_where
drop_each may x y e = let p = drop_parts may x y e in rw (p.0, p.1, p.2, p.3) refl

pub kept_exclusive : (may : Bool) (s : Mesi) → is_kept_or_dropped may s Exclusive ≡ true → is_same_state s Exclusive ≡ true
unfolding is_kept_or_dropped is_same_state
kept_exclusive may Exclusive e = refl
kept_exclusive true Invalid e = e
kept_exclusive false Invalid e = e
kept_exclusive true Shared e = e
kept_exclusive false Shared e = e
kept_exclusive true Modified e = e
kept_exclusive false Modified e = e

-- who has the line Exclusive has it alone
exclusive_alone : ℕ → Bool
exclusive_alone a = list_all (λ z. not (is_same_state (state_at z a) Exclusive) || is_same_joint z (alone Exclusive a)) every_joint

alone_computed : each_where exclusive_alone 4 ≡ true
unfolding each_where exclusive_alone is_same_joint is_same_state state_at every_joint sharing alone all_where unheld
alone_computed = refl

pub held_there : each_where (λ a. is_same_state (state_at (alone Exclusive a) a) Exclusive) 4 ≡ true
unfolding each_where is_same_state state_at alone
held_there = refl

pub implied : (a b : Bool) → (not a || b) ≡ true → a ≡ true → b ≡ true
implied a b e t = let h = rw t at e in h

-- only a line that was Exclusive at the agent is Exclusive there after drops
pub only_exclusive : (may : ℕ → Bool) (z : Joint) (a : ℕ) → a < 4 → Contains every_joint z
    → is_after_drops may z (alone Exclusive a) ≡ true → z ≡ alone Exclusive a
unfolding exclusive_alone
only_exclusive may z a l c e =
    let k = each_where-at (kept may z (alone Exclusive a)) 4 (drop_each may z (alone Exclusive a) e) a l in
    let there : state_at (alone Exclusive a) a ≡ Exclusive =
    same_states (state_at (alone Exclusive a) a) Exclusive
    (each_where-at (λ a. is_same_state (state_at (alone Exclusive a) a) Exclusive) 4 held_there a l) in
    let same = kept_exclusive (may a) (state_at z a) (ap (is_kept_or_dropped (may a) (state_at z a)) (sym there) ∙ k) in
    same_joints z (alone Exclusive a)
    (implied (is_same_state (state_at z a) Exclusive) (is_same_joint z (alone Exclusive a))
    (All-contains (λ z. (not (is_same_state (state_at z a) Exclusive) || is_same_joint z (alone Exclusive a)) ≡ true) every_joint z
    (AllPass-from_list_all (λ z. not (is_same_state (state_at z a) Exclusive) || is_same_joint z (alone Exclusive a)) every_joint
    (each_where-at exclusive_alone 4 alone_computed a l)) c) same)

differ : ℕ → ℕ → Bool
differ a b = not (is_same_joint (alone Exclusive a) (alone Modified b))

differ_computed : each_where (λ a. each_where (differ a) 4) 4 ≡ true
unfolding each_where differ is_same_joint is_same_state alone
differ_computed = refl

not_both : (z : Joint) (a b : ℕ) → a < 4 → b < 4 → Contains every_joint z → z ≡ alone Exclusive a → z ≡ alone Modified b → ⊥
unfolding differ
not_both z a b la lb c e f =
    let d = each_where-at (differ a) 4 (each_where-at (λ a. each_where (differ a) 4) 4 differ_computed a la) b lb in
    let s : is_same_joint (alone Exclusive a) (alone Modified b) ≡ true =
    ap (λ x. is_same_joint x (alone Modified b)) (sym e) ∙ ap (is_same_joint z) (sym f) ∙ same_joint z c in
    both_ways (not (is_same_joint (alone Exclusive a) (alone Modified b))) (ap not s) d

-- the joint states that stores leave, and those that drops leave behind them
abbrev after_store : (ℕ → Bool) → List Joint → Joint → Bool
after_store ready set z = list_any (λ t. is_after_stores ready t z) set

abbrev after_drop : (ℕ → Bool) → (ℕ → Bool) → List Joint → Joint → Bool
after_drop ready may set y = list_any (λ z. is_after_drops may z y) (filter (after_store ready set) every_joint)

record IsLeft (ready may : ℕ → Bool) (set : List Joint) (y : Joint) : Type 0 where
  pub before : Joint
  pub coherent : Contains every_joint before
  pub stored : after_store ready set before ≡ true
  pub dropped : is_after_drops may before y ≡ true

left_parts : (ready may : ℕ → Bool) (set : List Joint) (y : Joint) → after_drop ready may set y ≡ true → IsLeft ready may set y
left_parts ready may set y e =
    let f = any_found (λ z. after_store ready set z && is_after_drops may z y) every_joint
    (sym (any_filter (after_store ready set) (λ z. is_after_drops may z y) every_joint) ∙ e) in
    let p = and_parts (after_store ready set f.0) (is_after_drops may f.0 y) f.2 in
    record { before = f.0; coherent = f.1; stored = p.0; dropped = p.1 }

left_from : (ready may : ℕ → Bool) (set : List Joint) (y : Joint) → IsLeft ready may set y → after_drop ready may set y ≡ true
left_from ready may set y h =
    any_filter (after_store ready set) (λ z. is_after_drops may z y) every_joint
    ∙ any_at (λ z. after_store ready set z && is_after_drops may z y) every_joint h.before h.coherent (rw (h.stored, h.dropped) refl)

drops_closed : (ready may : ℕ → Bool) (set : List Joint) (x y : Joint) → Contains every_joint x → Contains every_joint y
    → after_drop ready may set x ≡ true → is_after_drops may x y ≡ true → after_drop ready may set y ≡ true
drops_closed ready may set x y cx cy e d =
    let h = left_parts ready may set x e in
    left_from ready may set y (record {
      before = h.before;
      coherent = h.coherent;
      stored = h.stored;
      dropped = drops_on may h.before x y h.dropped d;
    })

-- before a store from Exclusive the line was Exclusive there in the set itself
stored_before : (ready : ℕ → Bool) (set : List Joint) (z : Joint) (a : ℕ) → a < 4 → Contains every_joint z → z ≡ alone Exclusive a
    → after_store ready set z ≡ true → Contains set z
stored_before ready set z a l c e s =
    let t = any_found (λ t. is_after_stores ready t z) set s in
    elim (store_parts ready t.0 z t.2) [
      | inl same ↦ rw same at t.1
      | inr k ↦ let b = k.1 in absurd (not_both z a k.0 l b.agent c e b.to)
    ]

store_closed_by : (ready may : ℕ → Bool) (set : List Joint) (x y : Joint) (a : ℕ) → Contains every_joint y → IsStore ready x y a
    → is_after_stores ready x y ≡ true → IsLeft ready may set x → IsLeft ready may set y
store_closed_by ready may set x y a cy k s h =
    let z : h.before ≡ alone Exclusive a =
    only_exclusive may h.before a k.agent h.coherent (ap (is_after_drops may h.before) (sym k.from) ∙ h.dropped) in
    let there : Contains set h.before = stored_before ready set h.before a k.agent h.coherent z h.stored in
    let step : is_after_stores ready h.before y ≡ true = ap (λ t. is_after_stores ready t y) (z ∙ sym k.from) ∙ s in
    record {
      before = y;
      coherent = cy;
      stored = any_at (λ t. is_after_stores ready t y) set h.before there step;
      dropped = drops_stay may y cy;
    }

stores_closed : (ready may : ℕ → Bool) (set : List Joint) (x y : Joint) → Contains every_joint x → Contains every_joint y
    → after_drop ready may set x ≡ true → is_after_stores ready x y ≡ true → after_drop ready may set y ≡ true
stores_closed ready may set x y cx cy e s =
    elim (store_parts ready x y s) [
      | inl same ↦ rw same at e
      | inr k ↦ left_from ready may set y (store_closed_by ready may set x y k.0 cy k.1 s (left_parts ready may set x e))
    ]

as_filter : (ready may : ℕ → Bool) (set : List Joint)
    → reached_by (is_after_drops may) (reached_by (is_after_stores ready) set) ≡ filter (after_drop ready may set) every_joint
unfolding reached_by
as_filter ready may set = refl

-- stores and drops by the same agents once more add none
unseen_twice : (ready may : ℕ → Bool) (set : List Joint)
    → reached_by (is_after_drops may) (reached_by (is_after_stores ready) (reached_by (is_after_drops may) (reached_by (is_after_stores ready) set)))
    ≡ reached_by (is_after_drops may) (reached_by (is_after_stores ready) set)
unseen_twice ready may set =
    ap (λ c. reached_by (is_after_drops may) (reached_by (is_after_stores ready) c)) (as_filter ready may set)
    ∙ ap (reached_by (is_after_drops may))
    (closed (is_after_stores ready) (after_drop ready may set) (stores_stay ready) (stores_closed ready may set))
    ∙ closed (is_after_drops may) (after_drop ready may set) (drops_stay may) (drops_closed ready may set)
    ∙ sym (as_filter ready may set)

pub unseen_quiet : (v : Trace) (line b c : ℕ) (set : List Joint)
    → ((a : ℕ) → is_coming v line a (c + 1) ≡ is_coming v line a (b + 1))
    → ((a : ℕ) → may_drop_at v line c a ≡ may_drop_at v line b a)
    → after_unseen v line c (after_unseen v line b set) ≡ after_unseen v line b set
unfolding after_unseen
unseen_quiet v line b c set h m =
    let ready = λ (a : ℕ). not (is_coming v line a (b + 1)) in
    let may = may_drop_at v line b in
    let once = reached_by (is_after_drops may) (reached_by (is_after_stores ready) set) in
    drops-same (may_drop_at v line c) may (reached_by (is_after_stores (λ a. not (is_coming v line a (c + 1)))) once) m
    ∙ ap (reached_by (is_after_drops may))
    (stores-same (λ a. not (is_coming v line a (c + 1))) ready once (λ a. ap not (h a)))
    ∙ unseen_twice ready may set

-- a snoop end for another line changes nothing
no_end : (v : Trace) (line : ℕ) (f : ℕ → ℕ → Purpose → List Joint → List Joint) (set : List Joint) (o : Option ℕ)
    → ((j : ℕ) → o ≡ Some j → is_for_line v line j ≡ false)
    → elim o [ None ↦ set | Some j ↦ if is_for_line v line j then by_request v j (f j) set else set ] ≡ set
no_end v line f set None h = refl
no_end v line f set (Some j) h = rw (h j refl) refl

at_no_end : (v : Trace) (line c : ℕ) (f : ℕ → ℕ → Purpose → List Joint → List Joint) (set : List Joint)
    → ((j : ℕ) → snooped_at v c ≡ Some j → is_for_line v line j ≡ false) → at_snoop_end v line c f set ≡ set
unfolding at_snoop_end
at_no_end v line c f set h = no_end v line f set (snooped_at v c) h

pub clock_quiet : (v : Trace) (line c : ℕ) (set : List Joint) → names v line c ≡ false
    → ((j : ℕ) → snooped_at v c ≡ Some j → is_for_line v line j ≡ false)
    → after_clock v line c set ≡ after_unseen v line c set
unfolding after_clock after_begin after_answer after_snoop_end
clock_quiet v line c set n h =
    rw (n, at_no_end v line c (left_by v c) set h, at_no_end v line c (made_by v c) set h) refl
