-- An agent that has a line ready awaits no link of it.
use Rattle.fsb_tied.proofs.Words
use Words.{ℕ, zero, suc, ◌<◌, ◌≤◌, ◌≡◌, true, false, ◌||◌, List, [], ◌∷◌, ◌++◌, Option, Some, None, length, refl, sym}
use Words.{ap, subst, ◌∙◌, arith, inl, inr, both_ways, cases_lt, eq-eqb, or_left, or_right, option_and_then}
use Words.{option_map_or, last_where, is_some_and, WriteBack, Link, is_linked, outcome_by_kind, is_write_back_kind}
use Words.{grant_at, has_arrived, holds_line, is_claim_of, is_ended, is_evicted, is_granted, is_lost, is_ready}
use Words.{is_snooped, is_taken_away, is_written_back, latest_grant, snooped_at, Grant, Past, SnoopEnd, Run, past_of}
use Words.{Timely, holds_line-says, last_where-found, last_where-from, tied-snoop, some-and, Awaited, awaited_by}
use Words.{chain_below, link_for, link_left, links_left, outcome_by_turn, outcome_under, outcome-made}
use Rattle.fsb_tied.proofs.AnswersInOrder.{answers-in-order}
use Rattle.fsb_tied.proofs.Carrying.{ByGrant, ByWriteBack}
use Rattle.fsb_tied.proofs.CarryingRuns.{granted-await, written-await}
use Rattle.fsb_tied.proofs.Chains.{links_at}
use Rattle.fsb_tied.proofs.InTurn.{ended-in-turn, ended-later}
use Rattle.fsb_tied.proofs.ServedAccesses.{grant-first, granted-parts}

-- who writes a line back loses it
written-lost : (r : Run) (a line t : ℕ) (s : SnoopEnd) (awaited : Awaited) → snooped_at (past_of r) t ≡ Some s
    → ByWriteBack s awaited
    → awaited.agent ≡ a → awaited.line ≡ line → is_lost (past_of r) a line t ≡ true
unfolding is_lost is_written_back is_snooped is_claim_of is_some_and is_write_back_kind outcome_under
    outcome_by_turn outcome_by_kind
written-lost r a line t s awaited e b agent names =
    let p : Past = past_of r in
    let tied = tied-snoop r t s e in
    let made = sym (outcome-made r t s e) ∙ b.written in
    let kind : s.kind ≡ Some WriteBack = grind arith in
    or_left (is_evicted p a line t || is_some_and (snooped_at p t)
    (is_snooped (is_claim_of a line) is_write_back_kind)) (is_taken_away p a line t)
    (or_right (is_evicted p a line t)
    (is_some_and (snooped_at p t) (is_snooped (is_claim_of a line) is_write_back_kind))
    (rw (
      e,
      b.claimed,
      kind,
      eq-eqb b.claim.agent a (b.agent ∙ agent),
      eq-eqb b.claim.line line
          (b.names ∙ names),
    ) refl))

-- the latest grant of a line that is ready, whose request has ended
record IsReady (p : Past) (a line m : ℕ) : Type 0 where
  at : ℕ
  last : last_where (is_granted p a line) m ≡ Some at
  end : SnoopEnd
  grant : Grant
  there : snooped_at p at ≡ Some end
  made : end.grant ≡ Some grant
  granted : is_granted p a line at ≡ true
  below : at < m
  ended : is_ended p m grant.first ≡ true

same-grant : (p : Past) (t : ℕ) (s : SnoopEnd) (grant : Grant) → snooped_at p t ≡ Some s → grant_at p t ≡ Some grant
    → s.grant ≡ Some grant
unfolding grant_at
same-grant p t s grant e f = sym (ap (option_and_then (λ (x : SnoopEnd). x.grant)) e) ∙ f

-- none of its links is the agent's
record HasReady (r : Run) (a line m : ℕ) : Type 0 where
  timely : Timely r
  within : m ≤ length r.trace
  holds : holds_line (past_of r) a line m ≡ true
  ready : IsReady (past_of r) a line m

-- a snoop end before that of the latest grant, or that one, has ended
earlier-done : (r : Run) (a line m t : ℕ) (s : SnoopEnd) → (k : HasReady r a line m) → snooped_at (past_of r) t ≡ Some s
    → t ≤ k.ready.at → is_ended (past_of r) m s.first ≡ true
earlier-done r a line m t s k e l =
    let p : Past = past_of r in
    let g = k.ready in
    let low = g.below in
    let within = k.within in
    let first : g.grant.first ≡ g.end.first = grant-first r a line g.at g.end g.grant
    (omega arith) g.there g.made g.granted in
    let ended : is_ended p m g.end.first ≡ true = subst (λ q. is_ended p m q ≡ true) first g.ended in
    elim (cases_lt t g.at) [
      | inl less ↦
          ended-in-turn p (length r.trace) m t g.at s g.end (answers-in-order r k.timely) within e g.there less ended
      | inr more ↦
          let at : t ≡ g.at = omega arith in
          let both : Some s ≡ Some g.end = sym e ∙ ap (snooped_at p) at ∙ g.there in
          let same : s ≡ g.end = cc in
          subst (λ (x : SnoopEnd). is_ended p m x.first ≡ true) (sym same) ended
    ]

by-grant : (r : Run) (a line m t : ℕ) (s : SnoopEnd) (awaited : Awaited) → HasReady r a line m
    → snooped_at (past_of r) t ≡ Some s
    → t < m → ByGrant s awaited → awaited.agent ≡ a → awaited.line ≡ line → is_ended (past_of r) m s.first ≡ true
unfolding is_granted grant_at is_some_and
by-grant r a line m t s awaited k e l b agent names =
    let p : Past = past_of r in
    let granted : is_granted p a line t ≡ true = grind arith in
    let from = last_where-from (is_granted p a line) m t l granted in
    let both : Some from.0 ≡ Some k.ready.at = sym from.1 ∙ k.ready.last in
    let same : from.0 ≡ k.ready.at = cc in
    let low : t ≤ from.0 = from.2 in
    earlier-done r a line m t s k e (omega arith)

by-write-back : (r : Run) (a line m t : ℕ) (s : SnoopEnd) (awaited : Awaited) → HasReady r a line m
    → snooped_at (past_of r) t ≡ Some s
    → t < m → ByWriteBack s awaited → awaited.agent ≡ a → awaited.line ≡ line → is_ended (past_of r) m s.first ≡ true
by-write-back r a line m t s awaited k e l b agent names =
    let p : Past = past_of r in
    elim (cases_lt k.ready.at t) [
      | inr more ↦ earlier-done r a line m t s k e more
      | inl less ↦
          let since = holds_line-says p a line m k.holds in
          let from = last_where-from (is_granted p a line) m since.at since.before since.granted in
          let both : Some from.0 ≡ Some k.ready.at = sym from.1 ∙ k.ready.last in
          let same : from.0 ≡ k.ready.at = cc in
          let low : since.at ≤ from.0 = from.2 in
          absurd (both_ways (is_lost p a line t) (since.kept t (omega arith) l)
          (written-lost r a line t s awaited e b agent names))
    ]

awaited-done : (r : Run) (a line m t : ℕ) (s : SnoopEnd) (awaited : Awaited) (o : Option Grant) → s.grant ≡ o
    → HasReady r a line m
    → snooped_at (past_of r) t ≡ Some s → t < m → awaited_by s ≡ Some awaited → awaited.agent ≡ a → awaited.line ≡ line
    → is_ended (past_of r) m s.first ≡ true
awaited-done r a line m t s awaited None f k e l g agent names =
    by-write-back r a line m t s awaited k e l (written-await s awaited f g) agent names
awaited-done r a line m t s awaited (Some grant) f k e l g agent names =
    by-grant r a line m t s awaited k e l (granted-await s awaited grant f g) agent names

linked-append : (a : ℕ) (xs ys : List Link) → is_linked a xs ≡ false → is_linked a ys ≡ false
    → is_linked a (xs ++ ys) ≡ false
linked-append a [] ys e f = f
linked-append a (x ∷ xs) ys e f = grind (arith, linked-append a xs ys)

unlinked-all : (p : Past) (a line m b : ℕ) → ((t : ℕ) → t < b → is_linked a (links_at p line m t) ≡ false)
    → is_linked a (links_left p line m b) ≡ false
unfolding links_left
unlinked-all p a line m zero none = refl
unlinked-all p a line m (suc b) none = grind (arith, linked-append, unlinked-all p a line m b)

unlinked-at : (r : Run) (a line m t : ℕ) (o : Option SnoopEnd) → HasReady r a line m → t < m
    → snooped_at (past_of r) t ≡ o
    → is_linked a (option_map_or (link_left (past_of r) line m t) o []) ≡ false
unfolding link_left link_for
unlinked-at r a line m t o h1 h2 h3 = grind (arith, awaited-done)

-- who holds a line that is ready for it awaits no link of it
pub unlinked : (r : Run) (a line m : ℕ) → Timely r → m ≤ length r.trace → holds_line (past_of r) a line m ≡ true
    → is_ready (past_of r) a line m ≡ true → is_linked a (chain_below (past_of r) line m) ≡ false
unfolding chain_below has_arrived latest_grant
unlinked r a line m h l holds ready =
    grind (arith, some-and, last_where-found, granted-parts, same-grant, unlinked-all, unlinked-at)

-- so it does where its latest grant ended before
pub arrived-ready : (p : Past) (a line m c : ℕ) → c ≤ m → has_arrived p a line m c ≡ true → is_ready p a line m ≡ true
unfolding has_arrived is_some_and
arrived-ready p a line m c l e = grind (arith, ended-later)
