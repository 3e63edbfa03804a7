-- Which requests stay outstanding at a clock, by its moment alone.
use Rattle.fsb_run_laws.proofs.Words
use Words.{ℕ, ◌+◌, ◌<◌, ◌≤◌, ◌≡◌, Bool, true, false, not, ◌&&◌, ◌||◌, ◌++◌, Option, Some, None, nat_eq, refl, sym, ap}
use Words.{subst, ◌∙◌, inl, inr, arith, filter, list_any, and_from, both_ways, eq-eqb, or_cases, or_left, or_right}
use Words.{is_at, is_some_and, is_at-from, is_at-some, is_before-from, is_before-parts, Trace, is_dropped, is_finished}
use Words.{is_outstanding, outstanding, is_deferral, begun_at, ended_requests, is_end_at, set_of, is_last_clock, Claim}
use Words.{Grant, Owing, Past, SnoopEnd, past_of, Run, is_asked_for, is_same_set, outstanding_at, owed, IsListed}
use Words.{any-kept, any-listed, map-some, some-and, cancelled_in, snoop_end_below, any-in, any-of, begun-apart}
use Words.{claimed, clock-facts, same-both, Reaches, ends_claim, ends_for, listed, owing_begun, stays_owed}
use Rattle.fsb_run_laws.proofs.LastTold.{cancelled-last, ends-last, ends-with}
use Rattle.fsb_run_laws.proofs.LeftRequests.{LeftByOwn, LeftByReply, ending-serves, last-says}
use Rattle.fsb_run_laws.proofs.Lists.{filter-alike}
use Rattle.fsb_run_laws.proofs.OwedRequests.{owed-step, owed-told, owing-claim}

-- what is outstanding was so at each clock since it began
out-earlier : (w : Trace) (n m q : ℕ) → q < m → m ≤ n → is_outstanding w n q ≡ true → is_outstanding w m q ≡ true
unfolding is_outstanding is_dropped is_finished
out-earlier w n m q low high out = grind (arith, is_before-parts, is_before-from)

out-below : (w : Trace) (n q : ℕ) → is_outstanding w n q ≡ true → q < n
unfolding is_outstanding
out-below w n q out = grind arith

owing-there : (p : Past) (q : ℕ) (claim : Claim) → begun_at p q ≡ Some claim
    → (owing : Owing) × (owing_begun p q ≡ Some owing) × (owing.claim ≡ claim)
unfolding begun_at owing_begun
owing-there p q claim e = map-some (λ (owing : Owing). owing.claim) (owing_begun p q) claim e

-- its agent has asked for its line
out-asked : (r : Run) (n q : ℕ) (claim : Claim) → Reaches r n → begun_at (past_of r) q ≡ Some claim
    → is_outstanding r.trace n q ≡ true → is_asked_for (owed (past_of r) claim.agent n) claim.line ≡ true
unfolding is_asked_for owed outstanding
out-asked r n q claim h begun out =
    let p = past_of r in
    let t : ℕ → Bool = is_outstanding r.trace n in
    let k = owing-there p q claim begun in
    let f : Owing → Bool = λ owing. nat_eq owing.claim.agent claim.agent in
    let g : Owing → Bool = λ owing. nat_eq owing.claim.line claim.line in
    let there : IsListed t (owing_begun p) (λ owing. f owing && g owing) q = record {
      there = out;
      given = k.0;
      gives = k.1;
      passes = and_from _ _ (eq-eqb k.0.claim.agent claim.agent (ap (λ x. x.agent) k.2))
          (eq-eqb k.0.claim.line claim.line (ap (λ x. x.line) k.2));
    } in
    let any = any-listed t (owing_begun p) (λ owing. f owing && g owing) n q (out-below r.trace n q out) there in
    ap (λ xs. list_any g (filter f xs)) (owed-told r n h) ∙ any-kept f g _ any

own-set : (p : Past) (x y : ℕ) → x ≡ y → is_same_set p x y ≡ true
unfolding is_same_set
own-set p x y e = eq-eqb (set_of p x) (set_of p y) (ap (set_of p) e)

-- so it has one request for a line that is outstanding
two-requests : (r : Run) (n p q : ℕ) (one other : Claim) → Reaches r n → begun_at (past_of r) p ≡ Some one
    → begun_at (past_of r) q ≡ Some other → is_outstanding r.trace n p ≡ true → is_outstanding r.trace n q ≡ true
    → one.agent ≡ other.agent → one.line ≡ other.line → p < q → ⊥
two-requests r n p q one other h first second out also agent line less =
    let long = h.long in
    let below = out-below r.trace n q also in
    let early : Reaches r q = record { timely = h.timely; bounds = h.bounds; long = omega arith } in
    let asked = out-asked r q p one early first (out-earlier r.trace n q p less (omega arith) out) in
    let apart = begun-apart r q other h.timely h.bounds (omega arith) second one.line
    (own-set (past_of r) other.line one.line (sym line)) in
    both_ways (is_asked_for (owed (past_of r) other.agent q) one.line) apart
    (ap (λ a. is_asked_for (owed (past_of r) a q) one.line) (sym agent) ∙ asked)

one-request : (r : Run) (n p q : ℕ) (one other : Claim) → Reaches r n → begun_at (past_of r) p ≡ Some one
    → begun_at (past_of r) q ≡ Some other → is_outstanding r.trace n p ≡ true → is_outstanding r.trace n q ≡ true
    → one.agent ≡ other.agent → one.line ≡ other.line → p ≡ q
one-request r n p q one other h first second out also agent line = grind (arith, two-requests)

by-own : (claim : Claim) (s : SnoopEnd) → LeftByOwn s claim → ends_claim claim s ≡ true
unfolding ends_claim
by-own claim s k = grind arith

by-reply : (claim : Claim) (s : SnoopEnd) → LeftByReply s claim → ends_claim claim s ≡ true
unfolding ends_claim is_some_and
by-reply claim s k = grind arith

-- the end of a request with this snoop end is that of the claim, by its own claim or by its grant
claim-parts : (claim own : Claim) (s : SnoopEnd) → s.claim ≡ Some own → ends_claim claim s ≡ true
    → (own.first ≡ claim.first) × (is_deferral s.outcome ≡ false)
unfolding ends_claim
claim-parts claim own s e ends = grind arith

grant-parts : (claim : Claim) (s : SnoopEnd) → s.claim ≡ None → ends_claim claim s ≡ true
    → (grant : Grant) × (s.grant ≡ Some grant) × (grant.agent ≡ claim.agent) × (grant.line ≡ claim.line)
unfolding ends_claim
grant-parts claim s e ends = grind (arith, some-and)

-- a request is outstanding for the last time exactly where the moment says so
last-told : (r : Run) (n q : ℕ) (claim : Claim) → Reaches r (n + 1) → begun_at (past_of r) q ≡ Some claim
    → claim.first ≡ q → is_outstanding r.trace n q ≡ true
    → not (is_last_clock r.trace n q) ≡ stays_owed (past_of r) n claim
unfolding stays_owed ends_for is_end_at is_some_and
last-told r n q claim h begun first out =
    ap not (same-both (is_last_clock w n q) (cancelled || ended) there back)
  where
    w : Trace
    w = r.trace

    p : Past
    p = past_of r

    cancelled : Bool
    cancelled = is_at (cancelled_in p n) claim.first

    ended : Bool
    ended = list_any (ends_for p n claim) (ended_requests p n)

    there : is_last_clock w n q ≡ true → (cancelled || ended) ≡ true
    there last =
        elim (last-says r n q claim h begun (out-below w n q out) last) [
          | inl error ↦
              or_left cancelled ended (is_at-from (cancelled_in p n) claim.first (error ∙ ap Some (sym first)))
          | inr k ↦
              or_right cancelled ended (any-of (ends_for p n claim) k.first (ended_requests p n) k.ends
              (ap (λ o. is_some_and o (ends_claim claim)) k.snooped
              ∙ elim k.how [ inl own ↦ by-own claim k.end own | inr reply ↦ by-reply claim k.end reply ]))
        ]

    by-claim : (x : ℕ) (s : SnoopEnd) → is_end_at p n x ≡ true → snoop_end_below p (n + 1) x ≡ Some s
        → ends_claim claim s ≡ true → (o : Option Claim) → s.claim ≡ o → is_last_clock w n q ≡ true
    by-claim x s end below ends (Some own) e =
        let parts = claim-parts claim own s e ends in
        let k = ends-with r n x s h end below in
        let one = k.first in
        let two = k.snooped.tied.first in
        let at : s.first ≡ x = cc in
        let mine = (claimed w s.first own (sym k.snooped.tied.claim ∙ e)).0 in
        let same : x ≡ q = sym at ∙ sym mine ∙ parts.0 ∙ first in
        subst (λ y. is_last_clock w n y ≡ true) same (ends-last r n x s h end below ∙ ap not parts.1)
    by-claim x s end below ends None e =
        let g = grant-parts claim s e ends in
        let k = ending-serves r n x s g.0 h end below e g.1 in
        let long = h.long in
        let short : Reaches r n = record { timely = h.timely; bounds = h.bounds; long = omega arith } in
        let same = one-request r n k.0.end.first q k.0.claim claim short k.0.begun begun k.0.out out
        (k.0.agent ∙ g.2) (k.0.line ∙ g.3) in
        subst (λ y. is_last_clock w n y ≡ true) same k.1

    back : (cancelled || ended) ≡ true → is_last_clock w n q ≡ true
    back e =
        elim (or_cases cancelled ended e) [
          | inl t ↦
              subst (λ y. is_last_clock w n y ≡ true) first
              (cancelled-last r n claim.first h (is_at-some (cancelled_in p n) claim.first t))
          | inr t ↦
              let k = any-in (ends_for p n claim) (ended_requests p n) t in
              let s = some-and (snoop_end_below p (n + 1) k.0) (ends_claim claim) k.2 in
              by-claim k.0 s.0 k.1 s.1 s.2 s.0.claim refl
        ]

-- so the outstanding requests one clock on are told by the moment
pub owed-stays : (r : Run) (n : ℕ) → Reaches r (n + 1) → outstanding_at (past_of r) (n + 1)
    ≡ filter (λ owing. stays_owed (past_of r) n owing.claim) (outstanding_at (past_of r) n)
    ++ listed (owing_begun (past_of r) n)
unfolding outstanding
owed-stays r n h =
    let p = past_of r in
    let w = r.trace in
    let long = h.long in
    let short : Reaches r n = record { timely = h.timely; bounds = h.bounds; long = omega arith } in
    let told = owed-told r n short in
    let f : Owing → Bool = λ owing. not (is_last_clock w n owing.claim.first) in
    let g : Owing → Bool = λ owing. stays_owed p n owing.claim in
    let alike = filter-alike f g (is_outstanding w n) (owing_begun p) n (λ q owing less out begun.
    let claim = owing-claim p q owing begun in
    let first = (clock-facts r 0 q h.timely h.bounds (omega arith)).begins.first owing.claim claim in
    ap (λ k. not (is_last_clock w n k)) first ∙ last-told r n q owing.claim h claim first out) in
    owed-step r n h
    ∙ ap (λ xs. xs ++ listed (owing_begun p n)) (ap (filter f) told ∙ alike ∙ ap (filter g) (sym told))
