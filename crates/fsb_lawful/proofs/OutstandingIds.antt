-- Where a symmetric agent's request begins, its ID is not taken, and few of its requests are outstanding.
use Rattle.fsb_lawful.proofs.Words
use Words.{ℕ, zero, suc, ◌+◌, ◌/◌, ◌<◌, ◌≤◌, ◌≡◌, Bool, true, false, ◌&&◌, List, [], ◌∷◌, Option, Some, length, nat_eq}
use Words.{refl, sym, ap, subst, ◌∙◌, arith, add-one, filter, filter_map, and_from, and_parts, eqb-true, eq-eqb}
use Words.{all_where, count_where, is_some_and, Request, ADS, line_at, Who, Symmetric, Trace, request_at, AgreeTo}
use Words.{is_outstanding, outstanding, have_same_id, is_reply, is_reply_kind, line_of, is_id_taken_by}
use Words.{is_outstanding_of_winner, winner_at, is_agent, is_same_agent, request_at-agree, winner_at-agree, BeginsAfter}
use Words.{same_outstanding, agent_at, begun_with, claim_at, moment_at, owing_at, owing_for, Claim, Owing, Past, Run}
use Words.{moments_below, past_of, past_to, past_with, run_to, reply_to, request_begun, would_begin, Timely, free_id}
use Words.{is_id_used, outstanding_at, owed, want_of, moment-at, moment_of, WantsLawfully}
use Rattle.std.proofs.Common.{slice_get}
use Rattle.fsb_lawful.proofs.Begun.{begun-decoded}
use Rattle.fsb_lawful.proofs.Cuts.{line-to, moments-to}
use Rattle.fsb_lawful.proofs.CutRuns.{cuts-agree, length-cut}
use Rattle.fsb_lawful.proofs.Identity.{begun-winner}
use Rattle.fsb_lawful.proofs.Listed.{IsListed, any-kept, any-listed, few-listed}
use Rattle.fsb_lawful.proofs.OrderlyRuns.{orderly-at}
use Rattle.fsb_lawful.proofs.OwnIds.{want-few, want-own}

pub get-there : {X : Type 0} (xs : List X) (k : ℕ) → k < length xs → (x : X) × (slice_get xs k ≡ Some x)
get-there [] k l = absurd (omega arith)
get-there (x ∷ xs) zero l = (x, refl)
get-there (x ∷ xs) (suc k) l = get-there xs k (omega arith)

-- the claim of a symmetric winner
claim-of : (w : Trace) (q a : ℕ) → q < length w → winner_at w q ≡ Some (Symmetric a)
    → (claim : Claim) × (claim_at w q ≡ Some claim) × (claim.agent ≡ a)
unfolding claim_at agent_at line_of
claim-of w q a l e =
    let s = get-there w q l in
    (record { first = q; agent = a; line = s.0.addr.bits / 4 }, rw (claim_at, agent_at, e, line_of, s.1) refl, refl)

-- what an agent owes, by the moments below a clock
owed-same : (r : Run) (q a : ℕ) → q < length r.trace
    → owed (past_with r (moments_below r q) q) a q ≡ owed (past_to (past_of r) q) a q
unfolding owed outstanding_at past_of
owed-same r q a h1 = grind (arith, moment-at, moments-to)

-- the request of a symmetric agent that begins at q, as its agent knows it
pub record KnownOwing (r : Run) (q a : ℕ) (request : Request) : Type 0 where
  pub owing : Owing
  pub begun : (moment_of r q).begun ≡ Some owing
  pub agent : owing.claim.agent ≡ a
  pub did : owing.did ≡ request.did

begun-owing : (r : Run) (q a : ℕ) (request : Request) → r.plan.ahead ≤ 4 → q < length r.trace
    → line_at ADS (run_to r q).trace q ≡ true → winner_at (run_to r q).trace q ≡ Some (Symmetric a)
    → want_of (past_to (past_of r) q) a q ≡ Some request
    → KnownOwing r q a request
unfolding moment_at begun_with owing_for past_to past_of
begun-owing r q a request few l t w e =
    let size = length-cut r q l in
    let c = claim-of (run_to r q).trace q a (omega arith) w in
    let p : Past = past_with r (moments_below r q) q in
    let want = want-few (past_to (past_of r) q) a q request few e in
    record {
      owing = record { claim = c.0; did = free_id c.0.agent (owed p c.0.agent q) };
      begun = rw (t, begun_with, c.1) refl;
      agent = c.2;
      did = ap (λ b. free_id b (owed p b q)) c.2 ∙ ap (free_id a) (owed-same r q a l) ∙ sym want.1;
    }

-- what is outstanding at a clock, as the clock before left it
outstanding-is : (r : Run) (e : ℕ) → suc e < length r.trace
    → outstanding_at (past_to (past_of r) (suc e)) (suc e)
    ≡ filter_map (owing_at (past_with r (moments_below r e) e) (run_to r e).trace e)
    (outstanding (run_to r e).trace (e + 1))
unfolding outstanding_at past_of moment_at
outstanding-is r e l = grind (arith, moments-to, moment-at)

-- a request that is outstanding where another one begins, at the clock after e
pub record IsKnown (r : Run) (e p : ℕ) : Type 0 where
  pub request : Request
  pub decoded : request_at (run_to r (suc (suc e))).trace p ≡ Some request
  pub agent : ℕ
  pub winner : winner_at (run_to r (suc (suc e))).trace p ≡ Some (Symmetric agent)
  pub owing : Owing
  pub gives : owing_at (past_with r (moments_below r e) e) (run_to r e).trace e p ≡ Some owing
  pub owner : owing.claim.agent ≡ agent
  pub did : owing.did ≡ request.did
  pub own : request.did / 16 ≡ agent
  pub there : is_outstanding (run_to r e).trace (e + 1) p ≡ true

gives-by : (r : Run) (e p : ℕ) (owing : Owing) → p < e → (moment_of r p).begun ≡ Some owing
    → owing_at (past_with r (moments_below r e) e) (run_to r e).trace e p ≡ Some owing
unfolding owing_at
gives-by r e p owing l b = grind (arith, moment-at)

reply-is : (x : Request) → is_reply (Some (reply_to x)) ≡ true
unfolding is_reply is_reply_kind is_some_and reply_to
reply-is x = refl

-- a request that is no reply is a symmetric agent's want
pub wanted-by : (r : Run) (p : ℕ) (who : Who) (request : Request)
    → would_begin (run_to r p) (past_to (past_of r) p) p who ≡ Some request → is_reply (Some request) ≡ false
    → (a : ℕ) × (who ≡ Symmetric a) × (want_of (past_to (past_of r) p) a p ≡ Some request)
unfolding would_begin
wanted-by r p who request h1 h2 = grind (arith, reply-is)

outstanding-parts : (w : Trace) (c p : ℕ) → is_outstanding w c p ≡ true
    → (line_at ADS w p ≡ true) × (p < c) × (is_reply (request_at w p) ≡ false)
unfolding is_outstanding
outstanding-parts w c p e = grind arith

pub begins-after : (r : Run) (e c : ℕ) → Timely r → suc e ≤ c → c < length r.trace
    → line_at ADS (run_to r c).trace (suc e) ≡ true → BeginsAfter (run_to r e).trace (run_to r c).trace
begins-after r e c h k l t =
    let size = length-cut r e (omega arith) in
    let same : length (run_to r e).trace ≡ suc e = omega arith in
    record {
      agree = subst (λ n. AgreeTo n (run_to r e).trace (run_to r c).trace) (sym size)
          (cuts-agree r e c (omega arith) l);
      asks = subst (λ n. line_at ADS (run_to r c).trace n ≡ true) (sym same) t;
      before = orderly-at r e h (omega arith);
      after = orderly-at r c h l;
    }

-- each of them is known to its agent, with its ID
is-known : (r : Run) (e p : ℕ) → Timely r → WantsLawfully r → r.plan.ahead ≤ 4 → suc (suc e) < length r.trace
    → line_at ADS (run_to r (suc (suc e))).trace (suc e) ≡ true
    → is_outstanding (run_to r (suc (suc e))).trace (suc e) p ≡ true
    → IsKnown r e p
unfolding request_begun past_to past_of
is-known r e p h wants few l t out =
    let c : ℕ = suc (suc e) in
    let v = (run_to r c).trace in
    let parts = outstanding-parts v (suc e) p out in
    let apart = (orderly-at r c h l).spaced.apart p (suc e) parts.1 parts.0 t in
    let here = line-to ADS r p c (omega arith) l ∙ parts.0 in
    let b = begun-decoded r p h (omega arith) here in
    let decoded =
    sym (request_at-agree (suc p + 1) (run_to r (suc p)).trace v p (cuts-agree r (suc p) c (omega arith) l)
    (omega arith)) ∙ b.2 (wants.lawful p b.0 b.1) in
    let won = begun-winner (would_begin (run_to r p) (past_to (past_of r) p) p) (winner_at (run_to r p).trace p)
    b.0 b.1 in
    let want = wanted-by r p won.0 b.0 won.2 (sym (ap is_reply decoded) ∙ parts.2) in
    let winner = won.1 ∙ ap Some want.1 in
    let k = begun-owing r p want.0 b.0 few (omega arith) here winner want.2 in
    let after = begins-after r e c h (omega arith) l t in
    let size : length (run_to r e).trace ≡ e + 1 = length-cut r e (omega arith) in
    let same = subst (λ n. is_outstanding v n p ≡ is_outstanding (run_to r e).trace n p) size
    (same_outstanding (run_to r e).trace v p after (omega arith)) in
    record {
      request = b.0;
      decoded = decoded;
      agent = want.0;
      winner = sym (winner_at-agree (p + 1) (run_to r p).trace v p (cuts-agree r p c (omega arith) l)
          (omega arith)) ∙ winner;
      owing = k.owing;
      gives = gives-by r e p k.owing (omega arith) k.begun;
      owner = k.agent;
      did = k.did;
      own = (want-own (past_to (past_of r) p) want.0 p b.0 few want.2).1;
      there = sym same ∙ rw (add-one e) out;
    }

same-id : (a b : Option Request) (x y : Request) → a ≡ Some x → b ≡ Some y → have_same_id a b ≡ true → x.did ≡ y.did
unfolding have_same_id is_some_and
same-id a b x y e f h = eqb-true x.did y.did (rw (e, f) at h)

-- a symmetric agent's request that begins at the clock after e
pub record IsWanted (r : Run) (e a : ℕ) (request : Request) : Type 0 where
  pub decoded : request_at (run_to r (suc (suc e))).trace (suc e) ≡ Some request
  pub winner : winner_at (run_to r (suc (suc e))).trace (suc e) ≡ Some (Symmetric a)
  pub want : want_of (past_to (past_of r) (suc e)) a (suc e) ≡ Some request

-- its ID is not taken
pub id-free : (r : Run) (e a p : ℕ) (request : Request) → Timely r → WantsLawfully r → r.plan.ahead ≤ 4
    → suc (suc e) < length r.trace → line_at ADS (run_to r (suc (suc e))).trace (suc e) ≡ true
    → IsWanted r e a request
    → p < suc e → is_id_taken_by (run_to r (suc (suc e))).trace (suc e) p ≡ true → ⊥
unfolding is_id_taken_by is_id_used owed outstanding past_to past_of
id-free r e a p request h wants few l t k below taken =
    let v = (run_to r (suc (suc e))).trace in
    let a' = and_parts (is_outstanding v (suc e) p) (have_same_id (request_at v p) (request_at v (suc e))) taken in
    let n = is-known r e p h wants few l t a'.0 in
    let did : n.request.did ≡ request.did = grind (arith, same-id) in
    let own = (want-own (past_to (past_of r) (suc e)) a (suc e) request few k.want).1 in
    let owner : n.owing.claim.agent ≡ a = n.owner ∙ sym n.own ∙ ap (λ d. d / 16) did ∙ own in
    let listed : IsListed (is_outstanding (run_to r e).trace (e + 1))
    (owing_at (past_with r (moments_below r e) e) (run_to r e).trace e)
    (λ owing. nat_eq owing.claim.agent a && nat_eq owing.did request.did) p = record {
      there = n.there;
      given = n.owing;
      gives = n.gives;
      passes = and_from _ _ (eq-eqb n.owing.claim.agent a owner) (eq-eqb n.owing.did request.did (n.did ∙ did));
    } in
    let any = any-listed (is_outstanding (run_to r e).trace (e + 1))
    (owing_at (past_with r (moments_below r e) e) (run_to r e).trace e)
    (λ owing. nat_eq owing.claim.agent a && nat_eq owing.did request.did) (e + 1) p (omega arith) listed in
    let there = any-kept (λ owing. nat_eq owing.claim.agent a) (λ owing. nat_eq owing.did request.did) _ any in
    let used : is_id_used (owed (past_to (past_of r) (suc e)) a (suc e)) request.did ≡ true =
    grind (arith, outstanding-is, there) in
    let no : false ≡ true = sym (want-few (past_to (past_of r) (suc e)) a (suc e) request few k.want).2 ∙ used in cc no

is-agent : (o : Option Who) (a b : ℕ) → is_some_and (Some (Symmetric a)) (is_agent o) ≡ true
    → o ≡ Some (Symmetric b) → b ≡ a
unfolding is_some_and is_agent is_same_agent
is-agent o a b h e = let h' = rw e at h in sym (eqb-true a b h')

-- few requests of its agent are outstanding
pub few-outstanding : (r : Run) (e a : ℕ) (request : Request) → Timely r → WantsLawfully r → r.plan.ahead ≤ 4
    → suc (suc e) < length r.trace → line_at ADS (run_to r (suc (suc e))).trace (suc e) ≡ true
    → IsWanted r e a request
    → count_where (is_outstanding_of_winner (run_to r (suc (suc e))).trace (suc e)) (suc e) < 4
unfolding is_outstanding_of_winner owed outstanding past_to past_of
few-outstanding r e a request h wants few l t k =
    let v = (run_to r (suc (suc e))).trace in
    let g = owing_at (past_with r (moments_below r e) e) (run_to r e).trace e in
    let f : Owing → Bool = λ owing. nat_eq owing.claim.agent a in
    let counted = few-listed (is_outstanding_of_winner v (suc e)) (is_outstanding (run_to r e).trace (e + 1)) g
    f (suc e) (λ p below some.
    let a' = and_parts (is_outstanding v (suc e) p) _ some in
    let n = is-known r e p h wants few l t a'.0 in
    let owner : n.agent ≡ a = grind (arith, is-agent) in
    record {
      there = n.there;
      given = n.owing;
      gives = n.gives;
      passes = eq-eqb n.owing.claim.agent a (n.owner ∙ owner);
    }) in
    let short = (want-few (past_to (past_of r) (suc e)) a (suc e) request few k.want).0 in
    let same : length (owed (past_to (past_of r) (suc e)) a (suc e)) ≡ length (filter f (filter_map g (all_where
    (is_outstanding (run_to r e).trace (e + 1)) (suc e)))) = grind (arith, outstanding-is) in
    omega arith
