-- Who is dirty on a line one clock on: who was so behind the snoop end, and who stored into it with the end of another
-- line.
use Rattle.fsb_coherent.proofs.Words
use Words.{ℕ, ◌+◌, ◌<◌, ◌≡◌, Bool, true, false, not, ◌&&◌, ◌||◌, nat_eq, nat_lt, slice_get, Some, sym, ap, subst, ◌∙◌}
use Words.{inl, inr, arith, and_from, and_parts, both_ways, cases_Bool, eq-eqb, eqb-true, ltb-true, not-true}
use Words.{not_from_false, or_cases, or_left, or_right, list_all, list_any, is_some_and, nat_lt-more, Done, Grant, Past}
use Words.{grant_at, has_arrived, holds_line, is_ended, is_exclusive, is_granted, is_lost, is_named_by_other}
use Words.{is_sole_grant, latest_grant, is_counted, is_dirty, is_hit, is_stored_since, is_load, ClockFacts}
use Words.{is_served_other, entries_on, is_brought_to, is_of_other_line, is_dirty_below, is_stored_below}
use Rattle.fsb_coherent.proofs.Behind.{is_dirty_behind}
use Rattle.fsb_coherent.proofs.DirtyParts.{IsDirtyBy, IsStoredAt, behind-granted, behind-kept, dirty-from-parts}
use Rattle.fsb_coherent.proofs.DirtyParts.{dirty-parts, ended-later, exclusive-granted, exclusive-kept, granted-now}
use Rattle.fsb_coherent.proofs.DirtyParts.{is_on, latest-granted, latest-kept, other-stores, others_of, since-from}
use Rattle.fsb_coherent.proofs.DirtyParts.{since-parts, some-there, stored-from, stored-parts, unbrought}
use Rattle.fsb_coherent.proofs.Entries.{all-at, all-kept, all-of-kept, any-from, any-there}
use Rattle.fsb_coherent.proofs.OtherSteps.{IsServed, alone-behind, is_served_behind, is_store_by, served-parts}

-- what is asked of every agent: dirty behind the snoop end, or a store with the end of another line
abbrev is_dirtied : Past → ℕ → ℕ → ℕ → Bool
is_dirtied p a line n = is_dirty_behind p a line n || list_any (is_store_by a) (others_of p line n)

dirty-here : (p : Past) (a line n : ℕ) → IsDirtyBy p a line n (is_stored_since p a line n) → is_dirty p a line n ≡ true
unfolding is_dirty
dirty-here p a line n h = dirty-from-parts p a line n (is_stored_since p a line n) h

exclusive-holds : (p : Past) (a line n : ℕ) → is_exclusive p a line n ≡ true → holds_line p a line n ≡ true
unfolding is_exclusive
exclusive-holds p a line n e = (and_parts (holds_line p a line n) _ (and_parts _ _ e).0).0

-- dirty by a grant at n: the grant owns, since no store comes above its end yet
by-grant : (p : Past) (a line n : ℕ) → ClockFacts p line n → is_granted p a line n ≡ true
    → IsDirtyBy p a line (n + 1) (is_stored_below p a line (n + 1))
    → is_dirty_behind p a line n ≡ true
unfolding is_some_and
by-grant p a line n h t d =
    let now = granted-now p a line n h t in
    let same : d.grant ≡ now.grant = (let k = sym d.latest ∙ latest-granted p a line n t ∙ now.there in cc) in
    elim (or_cases d.grant.owns (is_stored_below p a line (n + 1) d.grant.first) d.owns) [
      | inl owns ↦ behind-granted p a line n t ∙ rw now.there (ap (λ (g : Grant). g.owns) (sym same) ∙ owns)
      | inr stored ↦
          let s = stored-parts p a line n d.grant.first stored in
          let below : s.done.clock < n + 1 = ltb-true s.done.clock (n + 1) (nat_lt-more s.done.clock n ∙ s.below) in
          let ended = ended-later p s.done.clock (n + 1) d.grant.first (omega arith) s.ended in
          absurd (both_ways (is_ended p (n + 1) d.grant.first)
          (ap (λ (g : Grant). is_ended p (n + 1) g.first) same ∙ now.unended) ended)
    ]

-- a store of n that is no hit, above the end of the latest grant, comes with the end of another line
by-other : (p : Past) (a line n : ℕ) (grant : Grant) → ClockFacts p line n → is_exclusive p a line n ≡ true
    → latest_grant p a line n ≡ Some grant
    → (s : IsStoredAt p a line n grant.first) → nat_eq s.done.clock n ≡ true → is_hit p a n ≡ false
    → list_any (is_store_by a) (others_of p line n) ≡ true
unfolding is_of_other_line has_arrived is_some_and is_brought_to
by-other p a line n grant h ex latest s clock miss =
    grind (arith, eqb-true, unbrought, exclusive-holds, not_from_false, and_from, eq-eqb, other-stores, any-from)

-- dirty by what was before: a store since the latest grant counts at n, or comes with the end of another line
by-before : (p : Past) (a line n : ℕ) → ClockFacts p line n → is_granted p a line n ≡ false
    → IsDirtyBy p a line (n + 1) (is_stored_below p a line (n + 1))
    → is_dirtied p a line n ≡ true
unfolding is_counted
by-before p a line n h f d =
    let parts = and_parts (is_exclusive p a line n) (not (is_lost p a line n) && not (is_named_by_other p a line n))
    (sym (exclusive-kept p a line n f) ∙ d.exclusive) in
    let latest : latest_grant p a line n ≡ Some d.grant = sym (latest-kept p a line n f) ∙ d.latest in
    let behind : (d.grant.owns || is_stored_since p a line n d.grant.first) ≡ true → is_dirtied p a line n ≡ true =
    grind (arith, dirty-here) in
    elim (or_cases d.grant.owns (is_stored_below p a line (n + 1) d.grant.first) d.owns) [
      | inl owns ↦ behind (or_left d.grant.owns (is_stored_since p a line n d.grant.first) owns)
      | inr stored ↦
          let s = stored-parts p a line n d.grant.first stored in
          let counts : is_counted p a n s.done ≡ true → is_dirtied p a line n ≡ true =
          grind (arith, or_right, since-from) in
          elim (or_cases (nat_lt s.done.clock n) (nat_eq s.done.clock n) s.below) [
            | inl before ↦ counts (or_left (nat_lt s.done.clock n) (nat_eq s.done.clock n && is_hit p a n) before)
            | inr now ↦ elim (cases_Bool (is_hit p a n)) [
              | inl hit ↦ counts (or_right (nat_lt s.done.clock n) (nat_eq s.done.clock n && is_hit p a n)
                  (and_from (nat_eq s.done.clock n) (is_hit p a n) now hit))
              | inr miss ↦
                  or_right (is_dirty_behind p a line n) (list_any (is_store_by a) (others_of p line n))
                  (by-other p a line n d.grant h parts.0 latest s now miss)
            ]
          ]
    ]

-- who is dirty one clock on was so behind the snoop end, or stored with the end of another line
dirty-then : (p : Past) (a line n : ℕ) → ClockFacts p line n → is_dirty_below p a line (n + 1) ≡ true
    → is_dirtied p a line n ≡ true
unfolding is_dirty_below
dirty-then p a line n h e = grind (arith, dirty-parts, or_left, by-grant, by-before)

-- a grant at n that owns dirties its agent
then-granted : (p : Past) (a line n : ℕ) → is_granted p a line n ≡ true
    → is_some_and (grant_at p n) (λ grant. grant.owns) ≡ true
    → IsDirtyBy p a line (n + 1) (is_stored_below p a line (n + 1))
unfolding is_some_and is_sole_grant
then-granted p a line n t e = grind (arith, some-there, exclusive-granted, latest-granted)

-- who was dirty, did not lose the line and was not named by another, is dirty
then-kept : (p : Past) (a line n : ℕ) → is_granted p a line n ≡ false
    → (is_dirty p a line n && (not (is_lost p a line n) && not (is_named_by_other p a line n))) ≡ true
    → IsDirtyBy p a line (n + 1) (is_stored_below p a line (n + 1))
unfolding is_dirty
then-kept p a line n f e =
    let parts = and_parts (is_dirty p a line n) (not (is_lost p a line n) && not (is_named_by_other p a line n)) e in
    let d = dirty-parts p a line n (is_stored_since p a line n) parts.0 in
    record {
      exclusive = exclusive-kept p a line n f ∙ and_from (is_exclusive p a line n)
          (not (is_lost p a line n) && not (is_named_by_other p a line n)) d.exclusive parts.1;
      grant = d.grant;
      latest = latest-kept p a line n f ∙ d.latest;
      owns = elim (or_cases d.grant.owns (is_stored_since p a line n d.grant.first) d.owns) [
        | inl owns ↦ or_left d.grant.owns (is_stored_below p a line (n + 1) d.grant.first) owns
        | inr stored ↦
            or_right d.grant.owns (is_stored_below p a line (n + 1) d.grant.first)
            (stored-from p a line n d.grant.first (since-parts p a line n d.grant.first stored))
      ];
    }

-- the entries of n that come with the end of another line are served
pub others-served : (p : Past) (line n : ℕ) → ClockFacts p line n
    → list_all (is_served_behind p line n) (others_of p line n) ≡ true
unfolding is_served_other
others-served p line n h = grind (arith, all-kept)

served-at : (p : Past) (line n place : ℕ) (done : Done) → ClockFacts p line n → slice_get p.log place ≡ Some done
    → is_on line n done ≡ true
    → is_of_other_line p line n done ≡ true → is_served_behind p line n done ≡ true
unfolding is_served_other entries_on
served-at p line n place done h at on other =
    let all = all-of-kept (is_on line n) (is_served_other p line n) p.log h.accesses.others in
    let here = all-at (λ d. not (is_on line n d) || is_served_other p line n d) p.log place done all at in
    let served : is_served_other p line n done ≡ true = grind arith in
    sym (ap (λ b. not b || is_served_behind p line n done) other) ∙ served

-- a store of n dirties its agent where the line is served behind the snoop end
store-dirties : (p : Past) (line n place : ℕ) (done : Done) (grant : Grant) → slice_get p.log place ≡ Some done
    → IsServed p line n done → is_load done.access ≡ false
    → is_on line n done ≡ true → latest_grant p done.agent line (n + 1) ≡ Some grant → is_ended p n grant.first ≡ true
    → IsDirtyBy p done.agent line (n + 1) (is_stored_below p done.agent line (n + 1))
store-dirties p line n place done grant at served stores on latest ended =
    grind (arith, and_parts, eqb-true, or_right, alone-behind, stored-from)

-- a store that comes with the end of another line dirties its agent
then-stored : (p : Past) (a line n : ℕ) → ClockFacts p line n → list_any (is_store_by a) (others_of p line n) ≡ true
    → IsDirtyBy p a line (n + 1) (is_stored_below p a line (n + 1))
unfolding has_arrived
then-stored p a line n h e =
    let there = any-there (λ d. is_on line n d && (is_of_other_line p line n d && is_store_by a d)) p.log
    (sym (other-stores p a line n) ∙ e) in
    let done : Done = there.entry in
    let parts = and_parts (is_on line n done) (is_of_other_line p line n done && is_store_by a done) there.passes in
    let other = and_parts (is_of_other_line p line n done) (is_store_by a done) parts.1 in
    let store = and_parts (nat_eq done.agent a) (not (is_load done.access)) other.1 in
    let served = served-parts p line n done (served-at p line n there.place done h there.at parts.0 other.0) in
    let latest = some-there (latest_grant p done.agent line (n + 1))
    (λ grant. is_ended p n grant.first) served.arrived in
    subst (λ b. IsDirtyBy p b line (n + 1) (is_stored_below p b line (n + 1))) (eqb-true done.agent a store.0)
    (store-dirties p line n there.place done latest.0 there.at served
    (not-true (is_load done.access) store.1) parts.0 latest.1 latest.2)

then-dirty : (p : Past) (a line n : ℕ) → ClockFacts p line n → is_dirtied p a line n ≡ true
    → is_dirty_below p a line (n + 1) ≡ true
unfolding is_dirty_below
then-dirty p a line n h e =
    dirty-from-parts p a line (n + 1) (is_stored_below p a line (n + 1))
    (elim (or_cases (is_dirty_behind p a line n) (list_any (is_store_by a) (others_of p line n)) e) [
      | inr stored ↦ then-stored p a line n h stored
      | inl behind ↦ elim (cases_Bool (is_granted p a line n)) [
        | inl t ↦ then-granted p a line n t (sym (behind-granted p a line n t) ∙ behind)
        | inr f ↦ then-kept p a line n f (sym (behind-kept p a line n f) ∙ behind)
      ]
    ])

-- who is dirty one clock on
pub dirty-after : (p : Past) (a line n : ℕ) → ClockFacts p line n
    → is_dirty_below p a line (n + 1) ≡ (is_dirty_behind p a line n || list_any (is_store_by a) (others_of p line n))
dirty-after p a line n h = grind (arith, dirty-then, then-dirty)
