-- An agent that awaits an end on a line has asked for the line.
use Rattle.fsb_tied.proofs.Words
use Words.{ℕ, zero, suc, ◌+◌, ◌<◌, ◌≤◌, ◌≡◌, ◌==◌, Bool, true, false, ◌||◌, List, [], ◌∷◌, ◌++◌, Option, Some, None}
use Words.{length, nat_eq, refl, sym, ap, subst, ◌∙◌, inl, inr, arith, option_and_then, option_map_or, both_ways}
use Words.{is_some_and, Link, is_linked, live_clock_of, AgreeTo-sym, live_clock_of-stays, snoop_end_of-rises, grant_at}
use Words.{is_ended, is_granted, snooped_at, claim_at, turns_in, Claim, Grant, Past, SnoopEnd, Run, past_of, run_to}
use Words.{Timely, is_asked_for, owed, snoop-tied, KeepsBounds, IsGrantedBy, Serves, ServesOther, granted-by}
use Words.{run_to-agrees, Awaited, awaited_by, awaited_by_claim, awaited_by_grant, is_written, chain_below, link_for}
use Words.{link_left, links_left}
use Rattle.fsb_tied.proofs.ReplyGrants.{settled-there}
use Rattle.fsb_tied.proofs.Awaiting.{awaits-grant}
use Rattle.fsb_tied.proofs.Ended.{end-below, ends-at, snooped-there}
use Rattle.fsb_tied.proofs.PendingLines.{IsPutOff}
use Rattle.fsb_tied.proofs.SnoopClaims.{snooped-by}
use Rattle.fsb_tied.proofs.PutOff.{HasNoReplyEnd, put-off-owed, snooped-owed}
use Rattle.fsb_tied.proofs.Slots.{asks-as}

-- what a link says: its snoop end, which has no end so far, and whose end is awaited after it
pub record IsLinkedAt (p : Past) (a line n t : ℕ) : Type 0 where
  pub at : ℕ
  pub below : at < t
  pub end : SnoopEnd
  pub there : snooped_at p at ≡ Some end
  pub unended : is_ended p n end.first ≡ false
  pub awaited : Awaited
  pub awaits : awaited_by end ≡ Some awaited
  pub agent : awaited.agent ≡ a
  pub names : awaited.line ≡ line

linked-append : (a : ℕ) (xs ys : List Link) → is_linked a (xs ++ ys) ≡ (is_linked a xs || is_linked a ys)
linked-append a [] ys = refl
linked-append a (x ∷ xs) ys = by-first (x.agent == a) (is_linked a xs) (is_linked a (xs ++ ys)) (linked-append a xs ys)
  where
    by-first : (b c d : Bool) → d ≡ (c || is_linked a ys) → (b || d) ≡ ((b || c) || is_linked a ys)
    by-first b c d h1 = grind arith

linked-for : (p : Past) (a line t : ℕ) (s : SnoopEnd) (awaited : Awaited) (b : Bool) → nat_eq awaited.line line ≡ b
    → is_linked a (link_for p line t s awaited) ≡ true → (awaited.agent ≡ a) × (awaited.line ≡ line)
unfolding link_for
linked-for p a line t s awaited b h1 h2 = grind arith

linked-left : (p : Past) (a line n t : ℕ) (s : SnoopEnd) (b : Bool) (o : Option Awaited) → snooped_at p t ≡ Some s
    → is_ended p n s.first ≡ b → awaited_by s ≡ o → is_linked a (link_left p line n t s) ≡ true
    → IsLinkedAt p a line n (suc t)
unfolding link_left
linked-left p a line n t s true o there e f g = grind arith
linked-left p a line n t s false None there e f g =
    absurd (let no : ⊥ = (let g' = rw (e, link_left, f) at g in cc) in no)
linked-left p a line n t s false (Some awaited) there e f g =
    let k = linked-for p a line t s awaited (nat_eq awaited.line line) refl
    (let g' = rw (e, link_left, f) at g in g') in
    record {
      at = t;
      below = omega arith;
      end = s;
      there = there;
      unended = e;
      awaited = awaited;
      awaits = f;
      agent = k.0;
      names = k.1;
    }

linked-snoop : (p : Past) (a line n t : ℕ) (o : Option SnoopEnd) → snooped_at p t ≡ o
    → is_linked a (option_map_or (link_left p line n t) o []) ≡ true → IsLinkedAt p a line n (suc t)
linked-snoop p a line n t None e f = absurd (let no : ⊥ = cc in no)
linked-snoop p a line n t (Some s) e f = linked-left p a line n t s (is_ended p n s.first) (awaited_by s) e refl refl f

pub linked-at : (p : Past) (a line n t : ℕ) → is_linked a (links_left p line n t) ≡ true → IsLinkedAt p a line n t
unfolding links_left
linked-at p a line n zero e = absurd (let no : ⊥ = cc in no)
linked-at p a line n (suc t) e = grind (arith, linked-append, linked-snoop, linked-at p a line n t)

granted-there : (p : Past) (t : ℕ) (s : SnoopEnd) (grant : Grant) → snooped_at p t ≡ Some s → s.grant ≡ Some grant
    → grant_at p t ≡ Some grant
unfolding grant_at
granted-there p t s grant there e = ap (option_and_then (λ s. s.grant)) there ∙ e

is-granted : (p : Past) (t : ℕ) (grant : Grant) → grant_at p t ≡ Some grant
    → is_granted p grant.agent grant.line t ≡ true
unfolding is_granted is_some_and
is-granted p t grant e = grind arith

-- what is granted by a reply: while the reply has no end, the request that it serves is owed
reply-owed : (r : Run) (n u : ℕ) (s : SnoopEnd) (grant : Grant) → Timely r → KeepsBounds r.plan → n ≤ length r.trace
    → u < n → is_ended (past_of r) n s.first ≡ false → (g : IsGrantedBy r grant.agent grant.line u)
    → live_clock_of r.trace g.number ≡ Some s.first
    → ServesOther r.trace (turns_in (past_of r).moments) g.number g.served
    → is_asked_for (owed (past_of r) grant.agent n) grant.line ≡ true
reply-owed r zero u s grant h bounds l below unended g first k = absurd (omega arith)
reply-owed r (suc e) u s grant h bounds l below unended g first k =
    let w = r.trace in
    let v = (run_to r e).trace in
    let before = snoop_end_of-rises w g.served g.number u k.before g.is_snoop in
    let t : ℕ = before.0 in
    let gap = before.2 in
    let end = snoop-tied r g.served t before.1 in
    let one = end.1.first in
    let two = g.is_begun in
    let same : end.0.first ≡ g.begun = cc in
    let claims = end.1.claim ∙ ap (claim_at w) same ∙ g.claims in
    let snooped = snooped-by r t g.served end.0 end.1 in
    let d : IsPutOff r grant.line t g.served = record {
      end = end.0;
      snooped = snooped;
      deferred = sym (settled-there r g.served t end.0 snooped) ∙ k.deferred;
      claim = g.claim;
      claims = claims;
      names = g.names;
    } in
    let none : HasNoReplyEnd r g.served e = λ i x reply ends low.
    let also = k.reply in
    let number : i ≡ g.number = cc in
    let at = ends-at r e i x h (omega arith) ends in
    let early = at.early in
    let back = AgreeTo-sym (e + 1) w v (run_to-agrees r e (omega arith)) in
    let whole = live_clock_of-stays (e + 1) v w i at.clock back (omega arith) at.is_clock in
    let there = subst (λ m. live_clock_of w m ≡ Some at.clock) number whole in
    let clock : at.clock ≡ s.first = cc in
    both_ways (is_ended (past_of r) (suc e) s.first) unended
    (end-below r e i x s.first h (omega arith) ends low (at.is_clock ∙ ap Some clock)) in
    ap (λ b. is_asked_for (owed (past_of r) b (suc e)) grant.line) (sym g.agent)
    ∙ put-off-owed r grant.line t g.served e h bounds (omega arith) (omega arith) d none

grant-by : (r : Run) (n u : ℕ) (s : SnoopEnd) (grant : Grant) → Timely r → KeepsBounds r.plan → n ≤ length r.trace
    → u < n → snooped_at (past_of r) u ≡ Some s → is_ended (past_of r) n s.first ≡ false
    → (g : IsGrantedBy r grant.agent grant.line u) → live_clock_of r.trace g.number ≡ Some s.first
    → s.claim ≡ claim_at r.trace s.first → Serves r.trace (turns_in (past_of r).moments) g.number g.served
    → is_asked_for (owed (past_of r) grant.agent n) grant.line ≡ true
grant-by r n u s grant h bounds l below there unended g first claims (inr k) =
    reply-owed r n u s grant h bounds l below unended g first k
grant-by r n u s grant h bounds l below there unended g first claims (inl k) = grind (arith, snooped-owed)

-- what is granted, and has no end so far, is owed
grant-owed : (r : Run) (n u : ℕ) (s : SnoopEnd) (grant : Grant) → Timely r → KeepsBounds r.plan → n ≤ length r.trace
    → u < n → snooped_at (past_of r) u ≡ Some s → s.grant ≡ Some grant → is_ended (past_of r) n s.first ≡ false
    → is_asked_for (owed (past_of r) grant.agent n) grant.line ≡ true
grant-owed r n u s grant h bounds l below there granted unended =
    let p = past_of r in
    let g = granted-by r grant.agent grant.line u (omega arith)
    (is-granted p u grant (granted-there p u s grant there granted)) in
    let k = snooped-there r g.number u g.grant.first g.is_snoop g.is_first in
    let at = k.1.there in
    let same : k.0 ≡ s = cc in
    grant-by r n u s grant h bounds l below there unended g (k.1.first ∙ ap (λ x. Some x.first) same)
    (sym (ap (λ x. x.claim) same) ∙ k.1.claim ∙ ap (λ x. claim_at r.trace x.first) same) g.serves

awaited-claim : (s : SnoopEnd) (awaited : Awaited) (b : Bool) → s.grant ≡ None → is_written s.outcome ≡ b
    → awaited_by s ≡ Some awaited
    → (claim : Claim) × (s.claim ≡ Some claim) × (awaited_by_claim claim ≡ awaited)
unfolding awaited_by
awaited-claim s awaited b h1 h2 h3 = grind arith

link-by : (r : Run) (a line n : ℕ) (k : IsLinkedAt (past_of r) a line n n) (o : Option Grant) → Timely r
    → KeepsBounds r.plan → n ≤ length r.trace → k.end.grant ≡ o → is_asked_for (owed (past_of r) a n) line ≡ true
unfolding awaited_by_grant awaited_by_claim
link-by r a line n k (Some grant) h bounds l e =
    let p = past_of r in
    let one = awaits-grant k.end grant e in
    let two = k.awaits in
    let same : awaited_by_grant k.end.outcome grant ≡ k.awaited = cc in
    let agent : grant.agent ≡ a = ap (λ x. x.agent) same ∙ k.agent in
    let names : grant.line ≡ line = ap (λ x. x.line) same ∙ k.names in
    ap (λ b. is_asked_for (owed p b n) line) (sym agent) ∙ ap (is_asked_for (owed p grant.agent n)) (sym names)
    ∙ grant-owed r n k.at k.end grant h bounds l k.below k.there e k.unended
link-by r a line n k None h bounds l e =
    let c = awaited-claim k.end k.awaited (is_written k.end.outcome) e refl k.awaits in
    let agent : c.0.agent ≡ a = ap (λ x. x.agent) c.2 ∙ k.agent in
    let names : c.0.line ≡ line = ap (λ x. x.line) c.2 ∙ k.names in
    asks-as r a line n c.0 agent names (snooped-owed r n k.at k.end c.0 h bounds l k.below k.there c.1 k.unended)

-- an agent that awaits an end on the line has asked for it
pub link-owed : (r : Run) (a line n : ℕ) → Timely r → KeepsBounds r.plan → n ≤ length r.trace
    → is_linked a (chain_below (past_of r) line n) ≡ true → is_asked_for (owed (past_of r) a n) line ≡ true
unfolding chain_below
link-owed r a line n h bounds l e =
    let k = linked-at (past_of r) a line n n e in link-by r a line n k k.end.grant h bounds l refl
