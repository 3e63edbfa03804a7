-- The outstanding requests of an agent are apart from each other, and few.
use Rattle.fsb_agent_run.proofs.Words
use Words.{ℕ, zero, suc, ◌+◌, ◌≤◌, ◌≡◌, ◌⊎◌, Bool, true, false, List, [], ◌∷◌, ◌++◌, Some, length, nat_eq, refl, sym}
use Words.{ap, subst, ◌∙◌, inl, inr, add-one, append-nil, arith, length-append, filter, list_all, and_from, and_parts}
use Words.{both_ways, cases_Bool, eq-eqb, eqb-true, false_from_ne_true, ne_eqb, count_by-le-length, length-filter}
use Words.{Owing, Past, set_of, Run, past_of, is_asked_for, is_id_used, is_same_set, owed, want-few, begun-apart}
use Words.{Reaches, listed, owing_begun, begun-wanted, owing-claim, are_owings_apart, is_owing_apart, owings_begun}
use Words.{owed_sent}
use Rattle.fsb_agent_run.proofs.Among.{Among, all-among, among-all, among-any, among-filter}
use Rattle.fsb_agent_run.proofs.OwedSteps.{none-owed, owed-more, owing-is, reaches-less, stays_out}

-- requests that are apart stay so when some have gone
pub apart-filter : (p : Past) (f : Owing → Bool) (xs : List Owing) → are_owings_apart p xs ≡ true
    → are_owings_apart p (filter f xs) ≡ true
unfolding are_owings_apart
apart-filter p f [] h = refl
apart-filter p f (x ∷ xs) h =
    let parts = and_parts (list_all (is_owing_apart p x) xs) (are_owings_apart p xs) h in
    let rest = apart-filter p f xs parts.1 in
    elim (cases_Bool (f x)) [
      | inr n ↦ rw n rest
      | inl t ↦
          rw t
          (and_from (list_all (is_owing_apart p x) (filter f xs)) (are_owings_apart p (filter f xs))
          (among-all (is_owing_apart p x) (filter f xs)
          (λ y k. all-among (is_owing_apart p x) y xs parts.0 (among-filter f y xs k).0)) rest)
    ]

-- and when one more comes that is apart from each
apart-push : (p : Past) (xs : List Owing) (y : Owing) → are_owings_apart p xs ≡ true
    → ((x : Owing) → Among x xs → is_owing_apart p x y ≡ true) → are_owings_apart p (xs ++ y ∷ []) ≡ true
unfolding are_owings_apart
apart-push p [] y h each = refl
apart-push p (x ∷ xs) y h each =
    let parts = and_parts (list_all (is_owing_apart p x) xs) (are_owings_apart p xs) h in
    and_from (list_all (is_owing_apart p x) (xs ++ y ∷ [])) (are_owings_apart p (xs ++ y ∷ []))
    (all-push (is_owing_apart p x) xs y parts.0 (each x (inl refl)))
    (apart-push p xs y parts.1 (λ z k. each z (inr k)))
  where
    all-push : (f : Owing → Bool) (zs : List Owing) (z : Owing) → list_all f zs ≡ true → f z ≡ true
        → list_all f (zs ++ z ∷ []) ≡ true
    all-push f [] z a b = and_from (f z) true b refl
    all-push f (u ∷ zs) z a b = grind (arith, all-push f zs z)

same-set-flip : (p : Past) (x y : ℕ) → is_same_set p x y ≡ true → is_same_set p y x ≡ true
unfolding is_same_set
same-set-flip p x y e = eq-eqb (set_of p y) (set_of p x) (sym (eqb-true (set_of p x) (set_of p y) e))

-- the request that begins is apart from those that its agent owes
begun-apart-from : (r : Run) (a n : ℕ) (y x : Owing) → Reaches r (n + 1) → owing_begun (past_of r) n ≡ Some y
    → y.claim.agent ≡ a → Among x (owed (past_of r) a n) → is_owing_apart (past_of r) x y ≡ true
unfolding is_owing_apart is_asked_for is_id_used past_of
begun-apart-from r a n y x h begun mine there =
    let p = past_of r in
    let long = h.long in
    let b = begun-wanted r n y h begun in
    let k = owing-is r a n x (reaches-less r n (n + 1) (omega arith) h) there in
    let below = k.before in
    let at = b.4 in
    let claimed = owing-claim p n y begun in
    let here : Among x (owed p y.claim.agent n) = subst (λ c. Among x (owed p c n)) (sym mine) there in
    let firsts : nat_eq x.claim.first y.claim.first ≡ false = ne_eqb _ _ (λ e. omega (arith, e)) in
    let few = want-few p y.claim.agent n b.0 h.bounds.few_ahead b.1 in
    let ids : nat_eq x.did y.did ≡ false = grind (arith, among-any) in
    let sets : is_same_set p x.claim.line y.claim.line ≡ false =
    false_from_ne_true (is_same_set p x.claim.line y.claim.line) (λ e.
    both_ways (is_asked_for (owed p y.claim.agent n) x.claim.line)
    (begun-apart r n y.claim h.timely h.bounds (omega arith) claimed x.claim.line
    (same-set-flip p x.claim.line y.claim.line e))
    (among-any (λ o. nat_eq o.claim.line x.claim.line) x (owed p y.claim.agent n) here
    (eq-eqb x.claim.line x.claim.line refl))) in
    rw (firsts, ids, sets) refl

begun-list : (p : Past) (a n : ℕ) → (owings_begun p a n ≡ [])
    ⊎ ((y : Owing) × (owings_begun p a n ≡ y ∷ []) × (owing_begun p n ≡ Some y) × (y.claim.agent ≡ a))
unfolding owings_begun listed
begun-list p a n = grind arith

-- with the one that begins they are apart where they were so before
apart-begun : (r : Run) (a n : ℕ) (f : Owing → Bool) → Reaches r (n + 1)
    → are_owings_apart (past_of r) (owed (past_of r) a n) ≡ true
    → are_owings_apart (past_of r) (filter f (owed (past_of r) a n) ++ owings_begun (past_of r) a n) ≡ true
apart-begun r a n f h apart =
    grind (arith, apart-filter, begun-list, append-nil, apart-push, begun-apart-from, among-filter)

pub owed-apart : (r : Run) (a n : ℕ) → Reaches r n → are_owings_apart (past_of r) (owed (past_of r) a n) ≡ true
unfolding are_owings_apart
owed-apart r a zero h = ap (are_owings_apart (past_of r)) (none-owed (past_of r) a)
owed-apart r a (suc n) h =
    let p = past_of r in
    let long = h.long in
    let more : Reaches r (n + 1) = record { timely = h.timely; bounds = h.bounds; long = omega arith } in
    let before = owed-apart r a n (reaches-less r n (n + 1) (omega arith) more) in
    ap (are_owings_apart p) (sym (ap (owed p a) (add-one n)) ∙ owed-more r a n more)
    ∙ apart-begun r a n (stays_out r n) more before

pub sent-apart : (r : Run) (a n : ℕ) → Reaches r (n + 1)
    → are_owings_apart (past_of r) (owed_sent (past_of r) a n) ≡ true
unfolding owed_sent
sent-apart r a n h = grind (arith, owed-apart, begun-list, append-nil, apart-push, begun-apart-from)

-- no more are owed than the plan says
few-more : (r : Run) (a n : ℕ) → Reaches r (n + 1) → length (owed (past_of r) a n) ≤ r.plan.ahead
    → length (filter (stays_out r n) (owed (past_of r) a n) ++ owings_begun (past_of r) a n) ≤ r.plan.ahead
unfolding past_of
few-more r a n h few =
    let p = past_of r in
    let xs = owed p a n in
    let kept : length (filter (stays_out r n) xs) ≤ length xs =
    omega (arith, length-filter (stays_out r n) xs, count_by-le-length (stays_out r n) xs) in
    elim (begun-list p a n) [
      | inl none ↦ rw (none, append-nil (filter (stays_out r n) xs)) (omega arith)
      | inr one ↦
          let y : Owing = one.0 in
          let b = begun-wanted r n y h one.2 in
          let short = (want-few p y.claim.agent n b.0 h.bounds.few_ahead b.1).0 in
          let size : length (owed p y.claim.agent n) ≡ length xs = ap (λ c. length (owed p c n)) one.3 in
          rw (one.1) (omega (arith, length-append (filter (stays_out r n) xs) (y ∷ []), short, size, kept))
    ]

pub owed-few : (r : Run) (a n : ℕ) → Reaches r n → length (owed (past_of r) a n) ≤ r.plan.ahead
owed-few r a zero h = omega (arith, ap {B = ℕ} length (none-owed (past_of r) a))
owed-few r a (suc n) h =
    let p = past_of r in
    let long = h.long in
    let more : Reaches r (n + 1) = record { timely = h.timely; bounds = h.bounds; long = omega arith } in
    let before = owed-few r a n (reaches-less r n (n + 1) (omega arith) more) in
    let list = few-more r a n more before in
    subst (λ xs. length xs ≤ r.plan.ahead) (sym (sym (ap (owed p a) (add-one n)) ∙ owed-more r a n more)) list

apart-firsts : (p : Past) (u v : Owing) → is_owing_apart p u v ≡ true → u.claim.first ≡ v.claim.first → ⊥
unfolding is_owing_apart
apart-firsts p u v t f = let t' = rw (eq-eqb u.claim.first v.claim.first f) at t in cc

apart-lines : (p : Past) (u v : Owing) → is_owing_apart p u v ≡ true → u.claim.line ≡ v.claim.line → ⊥
unfolding is_owing_apart is_same_set
apart-lines p u v t f = grind arith

-- of requests that are apart one alone has a first clock, or a line
pub one-first : (p : Past) (xs : List Owing) (x y : Owing) → are_owings_apart p xs ≡ true → Among x xs → Among y xs
    → x.claim.first ≡ y.claim.first → x ≡ y
unfolding are_owings_apart
one-first p [] x y h a b e = absurd a
one-first p (z ∷ xs) x y h (inl a) (inl b) e = sym a ∙ b
one-first p (z ∷ xs) x y h (inl a) (inr b) e =
    let parts = and_parts (list_all (is_owing_apart p z) xs) (are_owings_apart p xs) h in
    absurd (apart-firsts p z y (all-among (is_owing_apart p z) y xs parts.0 b)
    (ap (λ (o : Owing). o.claim.first) a ∙ e))
one-first p (z ∷ xs) x y h (inr a) (inl b) e =
    let parts = and_parts (list_all (is_owing_apart p z) xs) (are_owings_apart p xs) h in
    absurd (apart-firsts p z x (all-among (is_owing_apart p z) x xs parts.0 a)
    (ap (λ (o : Owing). o.claim.first) b ∙ sym e))
one-first p (z ∷ xs) x y h (inr a) (inr b) e =
    one-first p xs x y (and_parts (list_all (is_owing_apart p z) xs) (are_owings_apart p xs) h).1 a b e

pub one-line : (p : Past) (xs : List Owing) (x y : Owing) → are_owings_apart p xs ≡ true → Among x xs → Among y xs
    → x.claim.line ≡ y.claim.line → x ≡ y
unfolding are_owings_apart
one-line p [] x y h a b e = absurd a
one-line p (z ∷ xs) x y h (inl a) (inl b) e = sym a ∙ b
one-line p (z ∷ xs) x y h (inl a) (inr b) e =
    let parts = and_parts (list_all (is_owing_apart p z) xs) (are_owings_apart p xs) h in
    absurd (apart-lines p z y (all-among (is_owing_apart p z) y xs parts.0 b) (ap (λ (o : Owing). o.claim.line) a ∙ e))
one-line p (z ∷ xs) x y h (inr a) (inl b) e =
    let parts = and_parts (list_all (is_owing_apart p z) xs) (are_owings_apart p xs) h in
    absurd (apart-lines p z x (all-among (is_owing_apart p z) x xs parts.0 a)
    (ap (λ (o : Owing). o.claim.line) b ∙ sym e))
one-line p (z ∷ xs) x y h (inr a) (inr b) e =
    one-line p xs x y (and_parts (list_all (is_owing_apart p z) xs) (are_owings_apart p xs) h).1 a b e
