-- A line that nobody names keeps the joint states that it may have at first.
use Rattle.std.proofs.Common.{ℕ, zero, suc, ◌+◌, ◌<◌, ◌≡◌, Bool, true, false, ◌&&◌, ◌||◌, not, length, List, [], ◌∷◌, Some}
use Rattle.std.proofs.Common.{refl, sym, ap, ◌∙◌, arith, inl, inr}
use Rattle.std.specs.List.{Contains, filter, list_all}
use Rattle.std.proofs.lemmas.List.Elements.{All-contains}
use Rattle.std.proofs.lemmas.List.Sums.{AllPass-from_list_all}
use Rattle.std.proofs.lemmas.Bool.{both_ways, false_from_ne_true}
use Rattle.fsb_count.specs.Clocks.{all_where, each_where}
use Rattle.fsb_count.specs.Options.{is_some_and}
use Rattle.fsb_count.proofs.Interface.{each_where-at}
use Rattle.fsb_line.specs.declared.state.Mesi.{Mesi}
use Rattle.fsb_line.specs.declared.state.Mesi.TheVariants.{Exclusive, Invalid, Modified, Shared}
use Rattle.fsb_trace.specs.At.{Trace}
use Rattle.fsb_trace.proofs.Interface.{snoop_end_of-clock}
use Rattle.fsb_laws.specs.Orderly.{Orderly}
use Rattle.fsb_owners.specs.Joint.{Joint, alone, every_joint, is_after_drops, is_after_stores, is_kept_or_dropped}
use Rattle.fsb_owners.specs.Joint.{is_same_joint, is_same_state, reached_by, sharing, state_at, unheld}
use Rattle.fsb_owners.specs.Possible.{after_clock, after_unseen, possible}
use Rattle.fsb_owners.specs.Shown.{is_coming, is_for_line, may_drop_at, names, origin_clock_of, snooped_at}
use Rattle.fsb_owner_laws.proofs.AgreeEnders.{origin_parts, snooped_found}
use Rattle.fsb_owner_laws.proofs.AgreePossible.{some_and}
use Rattle.fsb_owner_laws.proofs.AgreeWords.{itself}
use Rattle.fsb_owner_laws.proofs.Quiet.{clock_quiet, closed, drop_each, kept, same_joints, same_states, store_parts}
use Rattle.fsb_owner_laws.proofs.StepLosses.{drops_stay, stores_stay}

-- stores and drops by anybody leave the set as it is
abbrev IsSettled : List Joint → Type 0
IsSettled first = (ready may : ℕ → Bool) → reached_by (is_after_drops may) (reached_by (is_after_stores ready) first) ≡ first

-- nobody holds the line in it
abbrev is_unheld : Joint → Bool
is_unheld x = is_same_joint x unheld

only_unheld : filter is_unheld every_joint ≡ unheld ∷ []
unfolding is_same_joint is_same_state every_joint sharing alone all_where unheld
only_unheld = refl

not_exclusive : each_where (λ a. not (is_unheld (alone Exclusive a))) 4 ≡ true
unfolding each_where is_same_joint is_same_state sharing alone unheld
not_exclusive = refl

unheld_stored : (ready : ℕ → Bool) (x y : Joint) → Contains every_joint x → Contains every_joint y → is_unheld x ≡ true
    → is_after_stores ready x y ≡ true → is_unheld y ≡ true
unheld_stored ready x y cx cy u s =
    elim (store_parts ready x y s) [
      | inl same ↦ rw same at u
      | inr k ↦ absurd (both_ways (not (is_unheld x)) (ap not u)
          (ap (λ j. not (is_unheld j)) k.1.from ∙ each_where-at (λ a. not (is_unheld (alone Exclusive a))) 4 not_exclusive k.0 k.1.agent))
    ]

none_dropped : (may : Bool) (t : Mesi) → is_kept_or_dropped may Invalid t ≡ true → is_same_state t Invalid ≡ true
unfolding is_kept_or_dropped is_same_state
none_dropped may Invalid e = refl
none_dropped true Shared e = absurd (cc)
none_dropped false Shared e = absurd (cc)
none_dropped true Exclusive e = absurd (cc)
none_dropped false Exclusive e = absurd (cc)
none_dropped true Modified e = absurd (cc)
none_dropped false Modified e = absurd (cc)

unheld_states : each_where (λ a. is_same_state (state_at unheld a) Invalid) 4 ≡ true
unfolding each_where is_same_state state_at sharing unheld
unheld_states = refl

-- a joint state of a coherent line in which each agent has nothing
nothing : Joint → Bool
nothing x = is_same_state (state_at x 0) Invalid && is_same_state (state_at x 1) Invalid && is_same_state (state_at x 2) Invalid
    && is_same_state (state_at x 3) Invalid

nothing_computed : list_all (λ x. not (nothing x) || is_unheld x) every_joint ≡ true
unfolding nothing is_same_joint is_same_state state_at every_joint sharing alone all_where unheld
nothing_computed = refl

implied : (a b : Bool) → (not a || b) ≡ true → a ≡ true → b ≡ true
implied a b e t = let h = rw t at e in h

nothing_unheld : (y : Joint) → Contains every_joint y → nothing y ≡ true → is_unheld y ≡ true
nothing_unheld y c t =
    implied (nothing y) (is_unheld y)
    (All-contains (λ x. (not (nothing x) || is_unheld x) ≡ true) every_joint y
    (AllPass-from_list_all (λ x. not (nothing x) || is_unheld x) every_joint nothing_computed) c) t

agent_dropped : (may : ℕ → Bool) (y : Joint) (a : ℕ) → a < 4 → is_after_drops may unheld y ≡ true
    → is_same_state (state_at y a) Invalid ≡ true
agent_dropped may y a l e =
    none_dropped (may a) (state_at y a)
    (ap (λ s. is_kept_or_dropped (may a) s (state_at y a))
    (sym (same_states (state_at unheld a) Invalid (each_where-at (λ a. is_same_state (state_at unheld a) Invalid) 4 unheld_states a l)))
    ∙ each_where-at (kept may unheld y) 4 (drop_each may unheld y e) a l)

unheld_dropped : (may : ℕ → Bool) (x y : Joint) → Contains every_joint x → Contains every_joint y → is_unheld x ≡ true
    → is_after_drops may x y ≡ true → is_unheld y ≡ true
unfolding nothing
unheld_dropped may x y cx cy u d =
    let e : is_after_drops may unheld y ≡ true = ap (λ j. is_after_drops may j y) (sym (same_joints x unheld u)) ∙ d in
    nothing_unheld y cy
    (rw (
      agent_dropped may y 0 (omega arith) e,
      agent_dropped may y 1 (omega arith) e,
      agent_dropped may y 2 (omega arith) e,
      agent_dropped may y 3 (omega arith) e,
    ) refl)

pub unheld_settled : IsSettled (unheld ∷ [])
unheld_settled ready may =
    ap (λ s. reached_by (is_after_drops may) (reached_by (is_after_stores ready) s)) (sym only_unheld)
    ∙ ap (reached_by (is_after_drops may)) (closed (is_after_stores ready) is_unheld (stores_stay ready) (unheld_stored ready))
    ∙ closed (is_after_drops may) is_unheld (drops_stay may) (unheld_dropped may) ∙ only_unheld

all_there : filter (λ x. true) every_joint ≡ every_joint
unfolding every_joint sharing alone all_where unheld
all_there = refl

pub every_settled : IsSettled every_joint
every_settled ready may =
    ap (λ s. reached_by (is_after_drops may) (reached_by (is_after_stores ready) s)) (sym all_there)
    ∙ ap (reached_by (is_after_drops may)) (closed (is_after_stores ready) (λ x. true) (stores_stay ready) (λ x y c d p s. refl))
    ∙ closed (is_after_drops may) (λ x. true) (drops_stay may) (λ x y c d p s. refl) ∙ all_there

-- no snoop end before c is for a line that nobody named before c
not_for : (v : Trace) (line b j : ℕ) → Orderly v → ((q : ℕ) → q < b → names v line q ≡ false) → snooped_at v b ≡ Some j
    → is_for_line v line j ≡ false
unfolding is_for_line
not_for v line b j o h s =
    false_from_ne_true (is_some_and (origin_clock_of v j) (names v line)) (λ t.
    let e = snooped_found v b j s in
    let f = some_and (origin_clock_of v j) (names v line) t in
    let p = origin_parts (length v) v v j b f.0 (itself v o) e (snoop_end_of-clock v j b e).within f.1 in
    both_ways (names v line f.0) (h f.0 (let l = p.0 in omega (arith, l))) f.2)

unseen_settled : (first : List Joint) (v : Trace) (line b : ℕ) → IsSettled first → after_unseen v line b first ≡ first
unfolding after_unseen
unseen_settled first v line b h = h (λ a. not (is_coming v line a (b + 1))) (may_drop_at v line b)

pub untouched : (first : List Joint) (v : Trace) (line c : ℕ) → IsSettled first → Orderly v
    → ((q : ℕ) → q < c → names v line q ≡ false) → possible first v line c ≡ first
unfolding possible
untouched first v line zero h o n = refl
untouched first v line (suc b) h o n =
    ap (after_clock v line b) (untouched first v line b h o (λ q l. n q (omega (arith, l))))
    ∙ clock_quiet v line b first (n b (omega arith)) (λ j s. not_for v line b j o (λ q l. n q (omega (arith, l))) s)
    ∙ unseen_settled first v line b h
