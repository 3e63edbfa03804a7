-- Lines of one cache set, and the victim among them.
use Rattle.fsb_tied.proofs.Words
use Words.{ℕ, zero, suc, ◌+◌, ◌<◌, ◌≤◌, ◌≡◌, Bool, true, false, not, ◌&&◌, List, [], ◌∷◌, Option, Some, None, nat_eq}
use Words.{refl, sym, subst, inl, inr, arith, filter, filter_map, list_any, range_with_len, and_from, and_parts}
use Words.{both_ways, cases_Bool, cases_lt, eq-eqb, eqb-true, false_from_ne_true, or_left, Owing, Past, holds_line}
use Words.{is_exclusive, is_granted, is_rival, line_granted_at, lines_granted, set_of, is_dirty, is_asked_for}
use Words.{is_same_set, least_of, victim_of, holds_line-says, some-and}

-- who has a line for itself, or is dirty on it, holds it
pub exclusive-held : (p : Past) (a line c : ℕ) → is_exclusive p a line c ≡ true → holds_line p a line c ≡ true
unfolding is_exclusive
exclusive-held p a line c e = (and_parts _ _ (and_parts _ _ e).0).0

pub dirty-held : (p : Past) (a line c : ℕ) → is_dirty p a line c ≡ true → holds_line p a line c ≡ true
unfolding is_dirty
dirty-held p a line c e = exclusive-held p a line c (and_parts _ _ e).0

-- lines of one cache set
pub same-set : (p : Past) (x y z : ℕ) → is_same_set p x y ≡ true → is_same_set p x z ≡ true → is_same_set p y z ≡ true
unfolding is_same_set
same-set p x y z e f = grind arith

pub same-set-sym : (p : Past) (x y : ℕ) → is_same_set p x y ≡ true → is_same_set p y x ≡ true
unfolding is_same_set
same-set-sym p x y e = eq-eqb (set_of p y) (set_of p x) (sym (eqb-true (set_of p x) (set_of p y) e))

pub rival-set : (p : Past) (x y : ℕ) → is_rival p x y ≡ true → is_same_set p x y ≡ true
unfolding is_rival is_same_set
rival-set p x y e = (and_parts (nat_eq (set_of p x) (set_of p y)) (not (nat_eq x y)) e).0

pub rival-other : (p : Past) (x y : ℕ) → is_rival p x y ≡ true → x ≡ y → ⊥
unfolding is_rival
rival-other p x y e same = grind arith

pub rival-sym : (p : Past) (x y : ℕ) → is_rival p x y ≡ true → is_rival p y x ≡ true
unfolding is_rival is_same_set
rival-sym p x y e = grind arith

-- no request is for a line of a set of which none is
pub not-asked : (p : Past) (line other : ℕ) (owings : List Owing)
    → list_any (λ owing. is_same_set p line owing.claim.line) owings ≡ false → is_same_set p line other ≡ true
    → is_asked_for owings other ≡ false
unfolding is_asked_for
not-asked p line other [] e s = refl
not-asked p line other (owing ∷ owings) e s = grind (arith, not-asked p line other owings)

-- where there is no least of those that pass, none passes
least-there : (n : ℕ) (ns : List ℕ) (o : Option ℕ) → least_of ns ≡ o → least_of (n ∷ ns) ≡ None → ⊥
unfolding least_of
least-there n ns o h1 h2 = grind arith

none-passes : (test : ℕ → Bool) (ns : List ℕ) → least_of (filter test ns) ≡ None → list_any test ns ≡ false
none-passes test [] e = refl
none-passes test (n ∷ ns) e =
    elim (cases_Bool (test n)) [
      | inl t ↦
          absurd (least-there n (filter test ns) (least_of (filter test ns)) refl (let e' = rw t at e in e'))
      | inr f ↦ rw f (none-passes test ns (let e' = rw f at e in e'))
    ]

-- what is found among those that are given for a stretch of clocks
some-there : (g : ℕ → Option ℕ) (test : ℕ → Bool) (xs : List ℕ) (n : ℕ) (o : Option ℕ) → g n ≡ o
    → list_any test (filter_map g xs) ≡ true → list_any test (filter_map g (n ∷ xs)) ≡ true
some-there g test xs n o h1 h2 = grind arith

any-between : (g : ℕ → Option ℕ) (test : ℕ → Bool) (first size k line : ℕ) → first ≤ k → k < first + size
    → g k ≡ Some line → test line ≡ true → list_any test (filter_map g (range_with_len first size)) ≡ true
any-between g test first zero k line l m e t = absurd (omega arith)
any-between g test first (suc size) k line l m e t =
    elim (cases_lt first k) [
      | inl less ↦
          some-there g test (range_with_len (first + 1) size) first (g first) refl
          (any-between g test (first + 1) size k line (omega arith) (omega arith) e t)
      | inr more ↦
          let same : k ≡ first = omega arith in
          let here : g first ≡ Some line = subst (λ n. g n ≡ Some line) same e in
          rw here (or_left _ _ t)
    ]

granted-line : (p : Past) (a line t : ℕ) → is_granted p a line t ≡ true → line_granted_at p a t ≡ Some line
unfolding is_granted line_granted_at
granted-line p a line t e = grind (arith, some-and)

-- a line that an agent holds is among those that were granted to it
held-listed : (p : Past) (a line c : ℕ) (test : ℕ → Bool) → holds_line p a line c ≡ true → test line ≡ true
    → list_any test (lines_granted p a c) ≡ true
unfolding lines_granted
held-listed p a line c test e t =
    let since = holds_line-says p a line c e in
    let below = since.before in
    any-between (line_granted_at p a) test 0 c since.at line (omega arith) (omega arith)
    (granted-line p a line since.at since.granted) t

-- without a victim no rival of the line is dirty
pub no-victim : (p : Past) (a c line : ℕ) → victim_of p a c line ≡ None → (other : ℕ) → is_rival p line other ≡ true
    → is_dirty p a other c ≡ false
unfolding victim_of
no-victim p a c line e other rival =
    let test : ℕ → Bool = λ other. is_rival p other line && is_dirty p a other c in
    let none = none-passes test (lines_granted p a c) e in
    false_from_ne_true _ (λ t.
    let passes = and_from _ _ (rival-sym p line other rival) t in
    both_ways (list_any test (lines_granted p a c)) none
    (held-listed p a other c test (dirty-held p a other c t) passes))

none-least : (m : ℕ) → least_of [] ≡ Some m → ⊥
unfolding least_of
none-least m e = cc

least-more : (test : ℕ → Bool) (n m : ℕ) (ns : List ℕ) (o : Option ℕ) → least_of ns ≡ o
    → ((k : ℕ) → least_of ns ≡ Some k → test k ≡ true) → test n ≡ true → least_of (n ∷ ns) ≡ Some m → test m ≡ true
unfolding least_of
least-more test n m ns o h1 h2 h3 h4 = grind arith

-- the least of those that pass passes
least-passes : (test : ℕ → Bool) (ns : List ℕ) (m : ℕ) → least_of (filter test ns) ≡ Some m → test m ≡ true
least-passes test [] m e = absurd (none-least m e)
least-passes test (n ∷ ns) m e =
    elim (cases_Bool (test n)) [
      | inl t ↦
          least-more test n m (filter test ns) (least_of (filter test ns)) refl (least-passes test ns) t
          (let e' = rw t at e in e')
      | inr f ↦ least-passes test ns m (let e' = rw f at e in e')
    ]

-- a victim is a dirty rival of the line
pub a-victim : (p : Past) (a c line victim : ℕ) → victim_of p a c line ≡ Some victim
    → (is_rival p victim line ≡ true) × (is_dirty p a victim c ≡ true)
unfolding victim_of
a-victim p a c line victim e = grind (arith, least-passes)
