-- What makes an agent dirty on a line: its latest grant, and its stores since.
use Rattle.fsb_coherent.proofs.Words
use Words.{ℕ, ◌+◌, ◌≤◌, ◌≡◌, ◌==◌, Bool, true, false, not, ◌&&◌, ◌||◌, nat_eq, nat_lt, List, [], ◌∷◌, slice_get, Option}
use Words.{Some, None, refl, sym, ap, ◌∙◌, arith, and_parts, both_ways, eq-eqb, eqb-true, false_from_ne_true, or_from}
use Words.{filter, list_any, is_some_and, any_where-at, any_where-found, nat_lt-more, Done, accessed_line, Link}
use Words.{is_linked, Claim, Grant, Past, SnoopEnd, ended_requests, grant_at, holds_line, is_end_at, is_ended}
use Words.{is_exclusive, is_granted, is_lost, is_named_by_other, is_ready, is_sole_grant, latest_grant, snooped_at}
use Words.{is_counted, is_dirty, is_hit, is_store_on, is_stored_since, is_load, is_exclusive-more, latest_grant-more}
use Words.{Awaited, awaited_at, ClockFacts, SettlesInOrder, entries_on, is_awaited_for, is_of_other_line, chain_below}
use Words.{is_stored_below}
use Rattle.fsb_coherent.proofs.Behind.{is_dirty_behind}
use Rattle.fsb_coherent.proofs.Entries.{any-from, any-kept, any-there}
use Rattle.fsb_coherent.proofs.OtherSteps.{is_store_by}

-- what makes an agent dirty: it has the line for itself, and its latest grant owns, or it has stored since
pub record IsDirtyBy (p : Past) (a line n : ℕ) (stored : ℕ → Bool) : Type 0 where
  pub exclusive : is_exclusive p a line n ≡ true
  pub grant : Grant
  pub latest : latest_grant p a line n ≡ Some grant
  pub owns : (grant.owns || stored grant.first) ≡ true

pub some-there : {X : Type 0} (o : Option X) (test : X → Bool) → is_some_and o test ≡ true
    → (x : X) × (o ≡ Some x) × (test x ≡ true)
unfolding is_some_and
some-there o test h1 = grind arith

pub dirty-parts : (p : Past) (a line n : ℕ) (stored : ℕ → Bool)
    → (is_exclusive p a line n && is_some_and (latest_grant p a line n) (λ grant. grant.owns || stored grant.first))
    ≡ true
    → IsDirtyBy p a line n stored
dirty-parts p a line n stored e = grind (arith, some-there)

pub dirty-from-parts : (p : Past) (a line n : ℕ) (stored : ℕ → Bool) → IsDirtyBy p a line n stored
    → (is_exclusive p a line n && is_some_and (latest_grant p a line n) (λ grant. grant.owns || stored grant.first))
    ≡ true
unfolding is_some_and
dirty-from-parts p a line n stored h = rw (h.exclusive, h.latest) h.owns

-- an end stays
pub ended-later : (p : Past) (c m q : ℕ) → c ≤ m → is_ended p c q ≡ true → is_ended p m q ≡ true
unfolding is_ended
ended-later p c m q l e =
    let found = any_where-found (λ t. is_end_at p t q) c e in
    let below = found.1 in
    any_where-at (λ t. is_end_at p t q) m found.0 (omega arith) found.2

-- a grant of the line at n is of the request whose snoop end is n
granted-first : (p : Past) (line n : ℕ) (s : SnoopEnd) (grant : Grant) (o : Option Claim) → SettlesInOrder p line n
    → snooped_at p n ≡ Some s → s.grant ≡ Some grant
    → grant.line ≡ line → s.claim ≡ o → grant.first ≡ s.first
granted-first p line n s grant None h e g l c = (h.replied s grant e c g l).first
granted-first p line n s grant (Some claim) h e g l c =
    let settled = h.settled s claim e c (sym (h.elsewhere s claim grant e c g) ∙ l) in
    let mine : Grant = record {
      first = s.first;
      agent = settled.fits.agent;
      line = line;
      owns = settled.fits.owns;
      shared = settled.fits.shared;
    } in
    let same : mine ≡ grant = grind arith in
    sym (ap (λ (r : Grant). r.first) same)

-- where the line is granted to the agent at n, this is the grant; its request has no end up to n
pub record IsGrantedNow (p : Past) (a line n : ℕ) : Type 0 where
  pub grant : Grant
  pub there : grant_at p n ≡ Some grant
  pub unended : is_ended p (n + 1) grant.first ≡ false

pub granted-now : (p : Past) (a line n : ℕ) → ClockFacts p line n → is_granted p a line n ≡ true
    → IsGrantedNow p a line n
unfolding is_granted grant_at
granted-now p a line n h e =
    let there = some-there (grant_at p n) (λ grant. nat_eq grant.agent a && nat_eq grant.line line) e in
    let grant : Grant = there.0 in
    let on : grant.line ≡ line = grind arith in
    from-snoop (snooped_at p n) refl grant there.1 on
  where
    from-snoop : (o : Option SnoopEnd) → snooped_at p n ≡ o → (grant : Grant) → grant_at p n ≡ Some grant
        → grant.line ≡ line → IsGrantedNow p a line n
    from-snoop None f grant g on = grind arith
    from-snoop (Some s) f grant g on =
        let here : grant_at p n ≡ s.grant = rw f refl in
        let first = granted-first p line n s grant s.claim h.settles f (sym here ∙ g) on refl in
        record { grant = grant; there = g; unended = ap (is_ended p (n + 1)) first ∙ h.ends.newest s f }

-- no end on the line comes at n for an agent that has it ready
pub unbrought : (p : Past) (a line n : ℕ) → ClockFacts p line n → holds_line p a line n ≡ true
    → is_ready p a line n ≡ true → (qs : List ℕ) → ended_requests p n ≡ qs
    → list_any (λ q. is_some_and (awaited_at p n q) (is_awaited_for a line)) qs ≡ false
unfolding is_awaited_for
unbrought p a line n h holds ready [] e = refl
unbrought p a line n h holds ready (q ∷ r ∷ qs) e = absurd (h.ends.few q r qs e)
unbrought p a line n h holds ready (q ∷ []) e =
    or_from (is_some_and (awaited_at p n q) (is_awaited_for a line)) false
    (false_from_ne_true (is_some_and (awaited_at p n q) (is_awaited_for a line)) (λ t. brought t)) refl
  where
    brought : is_some_and (awaited_at p n q) (is_awaited_for a line) ≡ true → ⊥
    brought t =
        let there = some-there (awaited_at p n q) (is_awaited_for a line) t in
        let awaited : Awaited = there.0 in
        let parts = and_parts (nat_eq awaited.line line) (nat_eq awaited.agent a) there.2 in
        let oldest = h.ends.oldest q awaited e there.1 (eqb-true awaited.line line parts.0) in
        let link : Link = oldest.0 in
        let of_a : (link.agent == a) ≡ true = eq-eqb link.agent a (oldest.2 ∙ eqb-true awaited.agent a parts.1) in
        let linked : is_linked a (chain_below p line n) ≡ true = grind arith in
        both_ways (is_linked a (chain_below p line n)) (h.accesses.unlinked a holds ready) linked

-- the entries of n on the line that come with the end of another line
abbrev pub others_of : Past → ℕ → ℕ → List Done
others_of p line n = filter (is_of_other_line p line n) (entries_on p line n)

-- the entry is one of n on the line
abbrev pub is_on : ℕ → ℕ → Done → Bool
is_on line n done = nat_eq done.clock n && nat_eq (accessed_line done.access) line

pub other-stores : (p : Past) (a line n : ℕ)
    → list_any (is_store_by a) (others_of p line n) ≡ list_any
    (λ done. is_on line n done && (is_of_other_line p line n done && is_store_by a done)) p.log
unfolding entries_on
other-stores p a line n = grind (arith, any-kept)

-- an entry of agent a on the line that is a store, with its clock
pub record IsStore (a line : ℕ) (done : Done) : Type 0 where
  pub agent : done.agent ≡ a
  pub stores : is_load done.access ≡ false
  pub on : nat_eq (accessed_line done.access) line ≡ true

store-parts : (a line : ℕ) (done : Done) → is_store_on a line done ≡ true → IsStore a line done
unfolding is_store_on
store-parts a line done e = grind arith

store-from : (a line : ℕ) (done : Done) → IsStore a line done → is_store_on a line done ≡ true
unfolding is_store_on
store-from a line done h = grind arith

-- a store with its clock below n + 1, above the end of the request that begins at q
pub record IsStoredAt (p : Past) (a line n q : ℕ) : Type 0 where
  pub done : Done
  pub place : ℕ
  pub at : slice_get p.log place ≡ Some done
  pub store : IsStore a line done
  pub ended : is_ended p done.clock q ≡ true
  pub below : (nat_lt done.clock n || nat_eq done.clock n) ≡ true

pub stored-parts : (p : Past) (a line n q : ℕ) → is_stored_below p a line (n + 1) q ≡ true → IsStoredAt p a line n q
unfolding is_stored_below
stored-parts p a line n q e =
    let there = any-there (λ done. is_store_on a line done && is_ended p done.clock q && nat_lt done.clock
    (n + 1)) p.log e in
    let done : Done = there.entry in
    let outer = and_parts (is_store_on a line done && is_ended p done.clock q)
    (nat_lt done.clock (n + 1)) there.passes in
    let inner = and_parts (is_store_on a line done) (is_ended p done.clock q) outer.0 in
    record {
      done = done;
      place = there.place;
      at = there.at;
      store = store-parts a line done inner.0;
      ended = inner.1;
      below = sym (nat_lt-more done.clock n) ∙ outer.1;
    }

pub stored-from : (p : Past) (a line n q : ℕ) → IsStoredAt p a line n q → is_stored_below p a line (n + 1) q ≡ true
unfolding is_stored_below
stored-from p a line n q h = grind (arith, any-from, store-from)

-- one that counts at n
pub since-from : (p : Past) (a line n q : ℕ) (h : IsStoredAt p a line n q) → is_counted p a n h.done ≡ true
    → is_stored_since p a line n q ≡ true
unfolding is_stored_since
since-from p a line n q h c = grind (arith, any-from, store-from)

counted-below : (lt eq hit : Bool) → (lt || (eq && hit)) ≡ true → (lt || eq) ≡ true
counted-below lt eq hit h1 = grind arith

pub since-parts : (p : Past) (a line n q : ℕ) → is_stored_since p a line n q ≡ true → IsStoredAt p a line n q
unfolding is_stored_since is_counted
since-parts p a line n q e =
    let counts : Done → Bool = λ done. is_store_on a line done && is_ended p done.clock q && is_counted p a n done in
    let there = any-there counts p.log e in
    let done : Done = there.entry in
    let outer = and_parts (is_store_on a line done && is_ended p done.clock q) (is_counted p a n done) there.passes in
    let inner = and_parts (is_store_on a line done) (is_ended p done.clock q) outer.0 in
    record {
      done = done;
      place = there.place;
      at = there.at;
      store = store-parts a line done inner.0;
      ended = inner.1;
      below = counted-below (nat_lt done.clock n) (nat_eq done.clock n) (is_hit p a n) outer.1;
    }

pub latest-granted : (p : Past) (a line n : ℕ) → is_granted p a line n ≡ true
    → latest_grant p a line (n + 1) ≡ grant_at p n
latest-granted p a line n t = grind (arith, latest_grant-more)

pub latest-kept : (p : Past) (a line n : ℕ) → is_granted p a line n ≡ false
    → latest_grant p a line (n + 1) ≡ latest_grant p a line n
latest-kept p a line n f = grind (arith, latest_grant-more)

pub exclusive-granted : (p : Past) (a line n : ℕ) → is_granted p a line n ≡ true
    → is_exclusive p a line (n + 1) ≡ is_some_and (grant_at p n) is_sole_grant
exclusive-granted p a line n t = grind (arith, is_exclusive-more)

pub exclusive-kept : (p : Past) (a line n : ℕ) → is_granted p a line n ≡ false
    → is_exclusive p a line (n + 1) ≡ (is_exclusive p a line n &&
    (not (is_lost p a line n) && not (is_named_by_other p a line n)))
exclusive-kept p a line n f = grind (arith, is_exclusive-more)

pub behind-granted : (p : Past) (a line n : ℕ) → is_granted p a line n ≡ true
    → is_dirty_behind p a line n ≡ is_some_and (grant_at p n) (λ grant. grant.owns)
behind-granted p a line n t = grind arith

pub behind-kept : (p : Past) (a line n : ℕ) → is_granted p a line n ≡ false
    → is_dirty_behind p a line n ≡ (is_dirty p a line n &&
    (not (is_lost p a line n) && not (is_named_by_other p a line n)))
behind-kept p a line n f = grind arith
