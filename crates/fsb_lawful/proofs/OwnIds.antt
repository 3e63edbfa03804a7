-- What an agent wants has an ID of its own, and is no reply.
use Rattle.fsb_lawful.proofs.Words
use Words.{ℕ, zero, suc, ◌+◌, ◌*◌, ◌/◌, ◌<◌, ◌≤◌, ◌≡◌, Bool, true, false, not, ◌||◌, List, [], ◌∷◌, Option, Some, None}
use Words.{length, nat_eq, nat_le, refl, subst, ap, ◌∙◌, arith, inl, inr, if◌then◌else◌, add-one, find, list_any}
use Words.{option_map, cases_Bool, leb-false, or_parts, count_where, first_where, first_where-found, first_where-none}
use Words.{Request, is_reply_kind, Owing, Past, Need, is_idling, window, needs_from, owed, is_missing, victim_of, id_of}
use Words.{is_id_used, free_id, kind_needed, request_of_kind, write_back_of, want_for, want_of}

-- how many pass one of two tests
pub count-or : (p q : ℕ → Bool) (k : ℕ) → count_where (λ n. p n || q n) k ≤ count_where p k + count_where q k
unfolding count_where
count-or p q zero = omega arith
count-or p q (suc k) = let before = count-or p q k in step (p k) (q k) before
  where
    step : (a b : Bool) → count_where (λ n. p n || q n) k ≤ count_where p k + count_where q k
        → count_where (λ n. p n || q n) k + (if a || b then 1 else 0) ≤ (count_where p k + (if a then 1 else 0))
        + (count_where q k + (if b then 1 else 0))
    step a b h1 = grind arith

count-zero : (p : ℕ → Bool) (k : ℕ) → ((n : ℕ) → n < k → p n ≡ false) → count_where p k ≡ 0
unfolding count_where
count-zero p zero h = refl
count-zero p (suc k) h = rw (h k (omega arith), count-zero p k (λ n l. h n (omega arith))) refl

count-all : (p : ℕ → Bool) (k : ℕ) → ((n : ℕ) → n < k → p n ≡ true) → count_where p k ≡ k
unfolding count_where
count-all p zero h = refl
count-all p (suc k) h = rw (h k (omega arith), count-all p k (λ n l. h n (omega arith))) (add-one k)

-- a place is one number at most
pub count-one-place : (a k : ℕ) → count_where (λ n. nat_eq n a) k ≤ 1
unfolding count_where
count-one-place a zero = omega arith
count-one-place a (suc k) = grind (arith, count-zero, count-one-place a k)

other-number : (did a k n : ℕ) → nat_eq did (id_of a k) ≡ true → n < k → (b : Bool) → nat_eq did (id_of a n) ≡ b
    → nat_eq did (id_of a n) ≡ false
unfolding id_of
other-number did a k n h1 h2 b h3 = grind arith

-- an ID is that of one number at most
count-one : (did a k : ℕ) → count_where (λ n. nat_eq did (id_of a n)) k ≤ 1
unfolding count_where
count-one did a zero = omega arith
count-one did a (suc k) =
    elim (cases_Bool (nat_eq did (id_of a k))) [
      | inl t ↦
          let none = count-zero (λ n. nat_eq did (id_of a n)) k
          (λ n l. other-number did a k n t l (nat_eq did (id_of a n)) refl) in
          rw t (omega arith)
      | inr f ↦ let before = count-one did a k in rw f (omega arith)
    ]

-- so these requests use no more IDs than there are of them
used-few : (a : ℕ) (owings : List Owing) (k : ℕ) → count_where (λ n. is_id_used owings (id_of a n)) k ≤ length owings
unfolding is_id_used
used-few a [] k = let none = count-zero (λ n. false) k (λ n l. refl) in omega arith
used-few a (owing ∷ owings) k =
    let both = count-or (λ n. nat_eq owing.did (id_of a n)) (λ n. list_any (λ o. nat_eq o.did (id_of a n)) owings) k in
    let one = count-one owing.did a k in
    let rest = used-few a owings k in omega arith

used-there : (b : Bool) → not b ≡ false → b ≡ true
used-there true e = refl
used-there false e = absurd (let no : ⊥ = cc in no)

-- the free ID is one of the agent's
free-own : (a : ℕ) (owings : List Owing) (o : Option ℕ) → length owings < 16
    → first_where (λ n. not (is_id_used owings (id_of a n))) (length owings + 1) ≡ o → free_id a owings / 16 ≡ a
unfolding free_id id_of
free-own a owings None l e =
    let all = count-all (λ n. is_id_used owings (id_of a n)) (length owings + 1)
    (λ n m. used-there (is_id_used owings (id_of a n))
    (first_where-none (λ k. not (is_id_used owings (id_of a k))) (length owings + 1) e n m)) in
    let few = used-few a owings (length owings + 1) in absurd (omega arith)
free-own a owings (Some n) l e =
    let h = first_where-found (λ k. not (is_id_used owings (id_of a k))) (length owings + 1) n e in
    rw (e, free_id) (number a n (omega (arith, h.0)))
  where
    number : (a n : ℕ) → n < 16 → (a * 16 + n) / 16 ≡ a
    number a n l = omega arith

-- a want: no reply, with the free ID
pub record IsWant (p : Past) (a c : ℕ) (request : Request) : Type 0 where
  pub no_reply : is_reply_kind request.kind ≡ false
  pub own : request.did ≡ free_id a (owed p a c)

want_for-is : (p : Past) (a c : ℕ) (need : Need) (o : Option ℕ) → victim_of p a c need.line ≡ o
    → IsWant p a c (want_for p a c (owed p a c) need)
unfolding want_for write_back_of request_of_kind kind_needed is_reply_kind
want_for-is p a c need o h1 = grind arith

want_if-is : (p : Past) (a c : ℕ) (request : Request) (o : Option Need)
    → option_map (want_for p a c (owed p a c)) o ≡ Some request → IsWant p a c request
want_if-is p a c request None f = absurd (let no : ⊥ = cc in no)
want_if-is p a c request (Some need) f =
    let same : want_for p a c (owed p a c) need ≡ request = cc in
    subst (IsWant p a c) same (want_for-is p a c need (victim_of p a c need.line) refl)

-- and none of the outstanding requests has it
free-unused : (a : ℕ) (owings : List Owing) (o : Option ℕ) → length owings < 16
    → first_where (λ n. not (is_id_used owings (id_of a n))) (length owings + 1) ≡ o
    → is_id_used owings (free_id a owings) ≡ false
unfolding free_id
free-unused a owings None l e =
    let all = count-all (λ n. is_id_used owings (id_of a n)) (length owings + 1)
    (λ n m. used-there (is_id_used owings (id_of a n))
    (first_where-none (λ k. not (is_id_used owings (id_of a k))) (length owings + 1) e n m)) in
    let few = used-few a owings (length owings + 1) in absurd (omega arith)
free-unused a owings (Some n) l e =
    let h = first_where-found (λ k. not (is_id_used owings (id_of a k))) (length owings + 1) n e in
    rw (e, free_id) (unused (is_id_used owings (id_of a n)) h.1)
  where
    unused : (b : Bool) → not b ≡ true → b ≡ false
    unused b h1 = grind arith

want_by : (p : Past) (a c : ℕ) (request : Request) (b : Bool)
    → (is_idling p a c || nat_le p.plan.ahead (length (owed p a c))) ≡ b → want_of p a c ≡ Some request
    → (length (owed p a c) < p.plan.ahead) × IsWant p a c request
unfolding want_of
want_by p a c request true t e = absurd (let h : ⊥ = (let e' = rw (t, want_of) at e in cc) in h)
want_by p a c request false f e =
    let parts = or_parts (is_idling p a c) (nat_le p.plan.ahead (length (owed p a c))) f in (
      leb-false p.plan.ahead (length (owed p a c)) parts.1,
      want_if-is p a c request (find (is_missing p a c (owed p a c)) (needs_from [] (window p a c)))
          (let e' = rw (f, want_of) at e in e'),
    )

-- an agent's want is no reply, and has an ID of the agent
pub want-own : (p : Past) (a c : ℕ) (request : Request) → p.plan.ahead ≤ 4 → want_of p a c ≡ Some request
    → (is_reply_kind request.kind ≡ false) × (request.did / 16 ≡ a)
want-own p a c request few e =
    let h = want_by p a c request (is_idling p a c || nat_le p.plan.ahead (length (owed p a c))) refl e in
    let is = h.1 in
    let short = h.0 in (
      is.no_reply,
      ap (λ d. d / 16) is.own
          ∙ free-own a (owed p a c) (first_where (λ n. not (is_id_used (owed p a c) (id_of a n)))
          (length (owed p a c) + 1)) (omega arith) refl,
    )

-- an agent that wants something has fewer requests outstanding than it may, and none of them has the want's ID
pub want-few : (p : Past) (a c : ℕ) (request : Request) → p.plan.ahead ≤ 4 → want_of p a c ≡ Some request
    → (length (owed p a c) < p.plan.ahead) × (request.did ≡ free_id a (owed p a c))
    × (is_id_used (owed p a c) request.did ≡ false)
want-few p a c request few e =
    let h = want_by p a c request (is_idling p a c || nat_le p.plan.ahead (length (owed p a c))) refl e in
    let is = h.1 in
    let short = h.0 in
    let unused = free-unused a (owed p a c)
    (first_where (λ n. not (is_id_used (owed p a c) (id_of a n))) (length (owed p a c) + 1)) (omega arith) refl in
    (short, is.own, ap (is_id_used (owed p a c)) is.own ∙ unused)
