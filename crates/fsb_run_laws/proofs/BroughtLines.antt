-- A line that is brought is one that the request whose end it is was granted; a reply serves what was Deferred.
use Rattle.fsb_run_laws.proofs.Words
use Words.{ℕ, ◌+◌, ◌<◌, ◌≤◌, ◌≡◌, Bool, true, not, ◌&&◌, ◌||◌, Some, None, length, nat_eq, refl, ap, ◌∙◌, arith}
use Words.{list_any, option_and_then, and_from, and_parts, eq-eqb, first_where, is_some_and, any_where-at}
use Words.{any_where-found, first_where-at, first_where-found, brings_at, is_brought, ended_requests, grant_at}
use Words.{is_end_at, is_granted, snooped_at, grant_to, is_snoop_of, Grant, Past, SnoopEnd, past_of, Run, Need}
use Words.{snoop_end_below, IsRepliedOn, any-from, any-there, and-then, some-and, answers-in-order, any-of, clock-facts}
use Words.{grant-first, granted-parts, is-found, none-before, reply-end-at, Reaches}
use Rattle.fsb_run_laws.specs.Brought.{brings, is_bringing, ServesDeferred}

-- a snoop end is the one of its request
pub snoop-below : (r : Run) (n t : ℕ) (s : SnoopEnd) → Reaches r (n + 1) → t ≤ n → snooped_at (past_of r) t ≡ Some s
    → snoop_end_below (past_of r) (n + 1) s.first ≡ Some s
unfolding snoop_end_below
snoop-below r n t s h l e =
    let p = past_of r in
    let test : ℕ → Bool = λ k. is_some_and (snooped_at p k) (is_snoop_of s.first) in
    let first : first_where test (n + 1) ≡ Some t = first_where-at test (n + 1) t (omega arith) (is-found p t s e)
    (λ k low. none-before p (length r.trace) t k s (answers-in-order r h.timely) e low) in
    ap (option_and_then (snooped_at p)) first ∙ e

then-brought : (r : Run) (a n : ℕ) (need : Need) → Reaches r (n + 1)
    → list_any (brings (past_of r) a n need) (ended_requests (past_of r) n) ≡ true
    → is_brought (past_of r) a n need ≡ true
unfolding is_brought brings_at brings is_end_at grant_at is_some_and is_bringing is_granted snoop_end_below is_snoop_of
then-brought r a n need h e =
    let p : Past = past_of r in
    let long = h.long in
    let k = any-there (brings p a n need) (ended_requests p n) e in
    let q : ℕ = k.entry in
    let listed = any-from (nat_eq q) (ended_requests p n) k.place q k.at (eq-eqb q q refl) in
    let g = some-and (option_and_then (λ (x : SnoopEnd). x.grant) (snoop_end_below p (n + 1) q))
    (is_bringing a need) k.passes in
    let grant : Grant = g.0 in
    let s = and-then (λ (x : SnoopEnd). x.grant) (snoop_end_below p (n + 1) q) grant g.1 in
    let test : ℕ → Bool = λ k. is_some_and (snooped_at p k) (is_snoop_of q) in
    let t = and-then (snooped_at p) (first_where test (n + 1)) s.0 s.1 in
    let found = first_where-found test (n + 1) t.0 t.1 in
    let low : t.0 < n + 1 = found.0 in
    let there : snooped_at p t.0 ≡ Some s.0 = t.2 in
    let own : s.0.first ≡ q = grind arith in
    let parts = and_parts (nat_eq grant.agent a && nat_eq grant.line need.line) (grant.owns || not need.alone) g.2 in
    let at : grant_at p t.0 ≡ Some grant = ap (option_and_then (λ (x : SnoopEnd). x.grant)) there ∙ s.2 in
    let granted : is_granted p a need.line t.0 ≡ true = grind arith in
    let first = grant-first r a need.line t.0 s.0 grant (omega arith) there s.2 granted ∙ own in
    let ends : is_end_at p n grant.first ≡ true = grind arith in
    let brought : is_some_and (grant_at p t.0) (λ x. is_end_at p n x.first && (x.owns || not need.alone)) ≡ true =
    grind arith in
    any_where-at (brings_at p a n need) (n + 1) t.0 low
    (and_from (is_granted p a need.line t.0)
    (is_some_and (grant_at p t.0) (λ x. is_end_at p n x.first && (x.owns || not need.alone))) granted brought)

pub brought-told : (r : Run) (a n : ℕ) (need : Need) → Reaches r (n + 1)
    → is_brought (past_of r) a n need ≡ list_any (brings (past_of r) a n need) (ended_requests (past_of r) n)
unfolding is_brought brings_at brings is_end_at grant_at is_some_and is_bringing
brought-told r a n need h =
    grind (arith, any_where-found, granted-parts, grant-first, snoop-below, any-of, then-brought)

-- a reply's grant is for the deferral of its line
pub replied-on : (r : Run) (n : ℕ) (s : SnoopEnd) (grant : Grant) → Reaches r (n + 1)
    → snooped_at (past_of r) n ≡ Some s → s.claim ≡ None → s.grant ≡ Some grant
    → IsRepliedOn (past_of r) grant.line n s grant
replied-on r n s grant h there none made =
    let long = h.long in
    (clock-facts r grant.line n h.timely h.bounds (omega arith)).settles.replied s grant there none made refl

-- and it serves the request that was Deferred
pub serves-deferred : (r : Run) (n : ℕ) (s : SnoopEnd) (grant : Grant) → snooped_at (past_of r) n ≡ Some s
    → s.claim ≡ None → s.grant ≡ Some grant → ServesDeferred r n grant
unfolding grant_to
serves-deferred r n s grant there none made =
    let k = reply-end-at r grant.line n s grant there none made refl in
    grind arith
