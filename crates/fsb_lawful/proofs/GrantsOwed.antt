-- What an agent is granted, and what is brought to it, is for one of its outstanding requests.
use Rattle.fsb_lawful.proofs.Words
use Words.{ℕ, zero, suc, ◌+◌, ◌<◌, ◌≤◌, ◌≡◌, Bool, true, false, not, ◌&&◌, ◌||◌, Option, Some, None, length, nat_eq}
use Words.{refl, sym, ap, subst, ◌∙◌, arith, inl, inr, filter, list_any, option_and_then, option_map, and_from}
use Words.{and_parts, cases_Bool, eq-eqb, false_from_ne_true, AgreeBelow, is_before, is_some_and, any_where-found}
use Words.{count_where-same, first_where-carried, is_at-some, is_before-parts, nth_where-found, nth_where-one, Kind}
use Words.{Request, Turn, Keep, is_never_held_up, ADS, HITM, line_at, Trace, request_at, responds_at, AgreeTo}
use Words.{is_live_reply_to, is_outstanding, is_reply_to, last_clock_of, outstanding, reply_clock_of, reply_end_of}
use Words.{reply_number_of, is_deferral, is_deferred, is_settled_deferred, outcome_by_kind, response_clock_of}
use Words.{settled_by, have_same_id, is_live, is_reply, is_reply_kind, line_of, live_clock_of, live_number_of}
use Words.{live_request_of, end_of, snoop_end_of, AgreeTo-sym, end_of-response, is_live-agree, line_at-agree}
use Words.{live_clock_of-number, live_clock_of-stays, live_request_of-stays, request_at-agree, response_clock_of-stays}
use Words.{snoop_end_of-clock, snoop_end_of-rises, snoop_end_of-stays, winner_at-agree, deferred_response}
use Words.{end_after_clock, end_of-kept, is_outstanding-end, last_clock_of-deferred, last_clock_of-plain, live_of_reply}
use Words.{brings_at, is_brought, ended_requests, grant_at, is_end_at, is_granted, agent_at, begun_with, claim_at}
use Words.{moment_at, number_of_turn, owing_at, owing_for, requests_ending_at, turns_in, Claim, Grant, Owing, Past, Run}
use Words.{moments_below, past_of, past_with, run_to, Need, Timely, settled_of, free_id, is_asked_for, owed, moment-at}
use Words.{moment_of, snoop-tied}
use Rattle.fsb_lawful.specs.Owed.{GrantsAreOwed}
use Rattle.fsb_lawful.proofs.Cuts.{run_to-agrees}
use Rattle.fsb_lawful.proofs.CutRuns.{length-cut, live-ads}
use Rattle.fsb_lawful.proofs.Listed.{IsListed, any-from, any-kept, any-listed}
use Rattle.fsb_lawful.proofs.OrderlyRuns.{orderly-at}
use Rattle.fsb_lawful.proofs.OwesLess.{map-some, one-more, outstanding-of, owing-then}
use Rattle.fsb_lawful.proofs.ResponseCodes.{told-as-settled}
use Rattle.fsb_lawful.proofs.Served.{IsGrantedBy, Serves, and-then, granted-by, some-and}
use Rattle.fsb_lawful.proofs.Turns.{turned-at}

agent-agree : (n : ℕ) (w v : Trace) (q : ℕ) → AgreeTo n w v → q < n → agent_at w q ≡ agent_at v q
unfolding agent_at
agent-agree n w v q a l = grind (arith, winner_at-agree)

line-agree : (n : ℕ) (w v : Trace) (q : ℕ) → AgreeTo n w v → q < n → line_of w q ≡ line_of v q
unfolding line_of
line-agree n w v q a l = grind (arith, winner_at-agree)

-- who claims what shows at the first clock
claim-agree : (n : ℕ) (w v : Trace) (q : ℕ) → AgreeTo n w v → q < n → claim_at w q ≡ claim_at v q
unfolding claim_at
claim-agree n w v q a l = grind (arith, agent-agree, line-agree)

-- the request of a claim, as its agent knows it
begun-claim : (r : Run) (q : ℕ) (claim : Claim) → q < length r.trace → line_at ADS r.trace q ≡ true
    → claim_at r.trace q ≡ Some claim
    → (owing : Owing) × ((moment_of r q).begun ≡ Some owing) × (owing.claim ≡ claim)
unfolding moment_at begun_with owing_for
begun-claim r q claim l t e =
    let u = (run_to r q).trace in
    let agree = run_to-agrees r q l in
    let ads = sym (line_at-agree ADS (q + 1) r.trace u q agree (omega arith)) ∙ t in
    let same = sym (claim-agree (q + 1) r.trace u q agree (omega arith)) ∙ e in
    let p : Past = past_with r (moments_below r q) q in
    (record { claim = claim; did = free_id claim.agent (owed p claim.agent q) }, rw (ads, begun_with, same) refl, refl)

-- live request j, which begins at q, has begun early enough below e, is no reply, and is not finished
record IsUnfinished (r : Run) (e j q : ℕ) : Type 0 where
  pub early : q + 3 < e + 1
  pub no_reply : is_reply (request_at (run_to r e).trace q) ≡ false
  pub unfinished : is_before (last_clock_of (run_to r e).trace j) (length (run_to r e).trace) ≡ false

-- it is outstanding
unfinished-outstanding : (r : Run) (e j q : ℕ) → e < length r.trace → live_clock_of r.trace j ≡ Some q
    → IsUnfinished r e j q → is_outstanding (run_to r e).trace (e + 1) q ≡ true
unfolding live_clock_of live_number_of
unfinished-outstanding r e j q l clock k =
    let v = (run_to r e).trace in
    let size : length v ≡ e + 1 = length-cut r e l in
    let early = k.early in
    let there = live_clock_of-stays (e + 1) r.trace v j q (run_to-agrees r e l) early clock in
    let p = nth_where-found (is_live v) j (length v) q there in
    let unfinished = subst (λ i. is_before (last_clock_of v i) (length v) ≡ false) (sym p.2) k.unfinished in
    subst (λ n. is_outstanding v n q ≡ true) size
    (is_outstanding-end v q p.0 ∙ and_from _ _ (and_from _ _ p.1 (ap not k.no_reply)) (ap not unfinished))

-- a claim whose request is not finished is one that its agent owes
owed-line : (r : Run) (e j q : ℕ) (claim : Claim) → suc e < length r.trace → live_clock_of r.trace j ≡ Some q
    → claim_at r.trace q ≡ Some claim → IsUnfinished r e j q
    → is_asked_for (owed (past_of r) claim.agent (suc e)) claim.line ≡ true
unfolding is_asked_for owed outstanding
owed-line r e j q claim l clock claims k =
    let v = (run_to r e).trace in
    let early = k.early in
    let give = owing_at (past_with r (moments_below r e) e) v e in
    let begun = begun-claim r q claim (omega arith) (live-ads r.trace j q clock) claims in
    let t : ℕ → Bool = is_outstanding v (e + 1) in
    let f : Owing → Bool = λ owing. nat_eq owing.claim.agent claim.agent in
    let g : Owing → Bool = λ owing. nat_eq owing.claim.line claim.line in
    let same = begun.2 in
    let listed : IsListed t give (λ owing. f owing && g owing) q = record {
      there = unfinished-outstanding r e j q (omega arith) clock k;
      given = begun.0;
      gives = owing-then r e q (omega arith) ∙ begun.1;
      passes = and_from _ _ (eq-eqb begun.0.claim.agent claim.agent (ap (λ x. x.agent) same))
          (eq-eqb begun.0.claim.line claim.line (ap (λ x. x.line) same));
    } in
    let any = any-listed t give (λ owing. f owing && g owing) (e + 1) q (omega arith) listed in
    ap (λ xs. list_any g (filter f xs)) (outstanding-of r e (omega arith)) ∙ any-kept f g _ any

-- a response shows that the snoop ended
snooped-so-far : (r : Run) (e i t : ℕ) → Timely r → e < length r.trace → response_clock_of (run_to r e).trace i ≡ Some t
    → (s : ℕ) × (s < e + 1) × (snoop_end_of r.trace i ≡ Some s)
snooped-so-far r e i t h l f =
    let v = (run_to r e).trace in
    let size = length-cut r e l in
    let told = told-as-settled r e i t h l f in
    let s : ℕ = told.snoop in
    let within = (snoop_end_of-clock v i s told.is_snoop).within in
    let below : s < e + 1 = omega arith in
    let back = AgreeTo-sym (e + 1) r.trace v (run_to-agrees r e l) in
    (s, below, snoop_end_of-stays (e + 1) v r.trace i s back below told.is_snoop)

-- live request i has no end so far
abbrev pub HasNoEnd : Run → ℕ → ℕ → Type 0
HasNoEnd r e i = (x : ℕ) → end_of (run_to r e).trace i ≡ Some x → x < e + 1 → ⊥

response-within : (w : Trace) (i t : ℕ) → response_clock_of w i ≡ Some t → t < length w
unfolding response_clock_of
response-within w i t e = (nth_where-found (responds_at w) i (length w) t e).0

-- such a request is not finished
unfinished-itself : (r : Run) (e i : ℕ) → e < length r.trace → HasNoEnd r e i
    → is_before (last_clock_of (run_to r e).trace i) (length (run_to r e).trace) ≡ false
unfinished-itself r e i l none =
    grind (
      arith,
      length-cut,
      false_from_ne_true,
      is_before-parts,
      deferred_response,
      response-within,
      last_clock_of-plain,
    )

by-request : (o : Option Request) → is_deferral (outcome_by_kind o) ≡ false
unfolding outcome_by_kind is_deferral
by-request o = grind arith

-- what is kept is not put off
kept : (w : Trace) (i s : ℕ) (b : Bool) → line_at HITM w s ≡ b
    → is_deferral (settled_by w (number_of_turn Keep) i s) ≡ false
unfolding settled_by number_of_turn is_deferral
kept w i s b h1 = grind (arith, by-request)

reply-held : (kind : Kind) → is_reply_kind kind ≡ true → is_never_held_up kind ≡ true
unfolding is_reply_kind
reply-held kind h1 = grind arith

-- a request that was settled as Deferred, in the run up to e
record IsPutOff (r : Run) (e j : ℕ) : Type 0 where
  pub snoop : ℕ
  pub below : snoop < e + 1
  pub is_snoop : snoop_end_of (run_to r e).trace j ≡ Some snoop
  pub settled : is_some_and (settled_of (run_to r e) (past_of (run_to r e)) j) is_deferral ≡ true
  pub no_reply : is_reply (live_request_of (run_to r e).trace j) ≡ false

never-reply : (w : Trace) (j s : ℕ) (turn : Turn) (o : Option Request) → live_request_of w j ≡ o
    → is_deferral (settled_by w (number_of_turn turn) j s) ≡ true
    → ((request : Request) → live_request_of w j ≡ Some request → is_never_held_up request.kind ≡ true → turn ≡ Keep)
    → is_reply o ≡ false
unfolding is_reply is_some_and
never-reply w j s turn None e settled held = refl
never-reply w j s turn (Some request) e settled held =
    false_from_ne_true _ (λ t.
    let keep = held request e (reply-held request.kind t) in
    let not_so = kept w j s (line_at HITM w s) refl in
    let so = ap (λ k. is_deferral (settled_by w (number_of_turn k) j s)) (sym keep) ∙ settled in
    let no : false ≡ true = sym not_so ∙ so in
    cc no)

put-off : (r : Run) (e i j t : ℕ) → Timely r → e < length r.trace → t ≤ suc e
    → snoop_end_of r.trace i ≡ Some t → j < i → is_settled_deferred r.trace (turns_in (past_of r).moments) j ≡ true
    → IsPutOff r e j
unfolding is_settled_deferred is_some_and
put-off r e i j t h l low snoop less deferred =
    let v = (run_to r e).trace in
    let before = snoop_end_of-rises r.trace j i t less snoop in
    let s : ℕ = before.0 in
    let gap : s + 3 ≤ t = before.2 in
    let there = snoop_end_of-stays (e + 1) r.trace v j s (run_to-agrees r e l) (omega arith) before.1 in
    let turned = turned-at r e j s h l there in
    let tied = snoop-tied r j s before.1 in
    let one = turned.there in
    let two = tied.1.there in
    let same : tied.0 ≡ turned.end = cc in
    let told : is_deferral tied.0.outcome ≡ true = grind arith in
    let settled = ap (λ o. is_some_and o is_deferral) turned.outcome
    ∙ ap (λ x. is_deferral x.outcome) (sym same) ∙ told in
    record {
      snoop = s;
      below = omega arith;
      is_snoop = there;
      settled = settled;
      no_reply = never-reply v j s turned.end.turn (live_request_of v j) refl
          (sym (ap (λ o. is_some_and o is_deferral) turned.settled) ∙ settled)
          (λ request f g. (turned.effective request f).keeps g);
    }

-- what is a live reply shows three clocks after its first clock
same-reply : (n : ℕ) (w v : Trace) (j s t c : ℕ) → AgreeTo n w v → s < n → snoop_end_of w j ≡ Some s → t < n
    → response_clock_of w j ≡ Some t → c + 3 < n → is_live_reply_to w j c ≡ is_live_reply_to v j c
unfolding is_live_reply_to is_reply_to
same-reply n w v j s t c a low e below f l =
    let live = is_live-agree n w v c a l in
    let ads = line_at-agree ADS n w v c a (omega arith) in
    let request = request_at-agree n w v c a (omega arith) in
    let asked = live_request_of-stays n w v j s a low e in
    let response = f ∙ sym (response_clock_of-stays n w v j t a below f) in
    λ k. live k && (ads k && is_reply (request k) && have_same_id (request k) (asked k) && is_before (response k) c)

-- a reply that has ended is the reply in the whole trace, too
reply-whole : (r : Run) (e j i s t x : ℕ) → Timely r → e < length r.trace → s < e + 1
    → snoop_end_of (run_to r e).trace j ≡ Some s → response_clock_of (run_to r e).trace j ≡ Some t
    → reply_number_of (run_to r e).trace j ≡ Some i → end_of (run_to r e).trace i ≡ Some x → x < e + 1
    → reply_number_of r.trace j ≡ Some i
unfolding reply_number_of reply_clock_of live_number_of
reply-whole r e j i s t x h l low snoop response reply end below =
    let v = (run_to r e).trace in
    let size : length v ≡ e + 1 = length-cut r e l in
    let a = AgreeTo-sym (e + 1) r.trace v (run_to-agrees r e l) in
    let m = response-within v j t response in
    let q = map-some (live_number_of v) (reply_clock_of v j) i reply in
    let live = live_of_reply v j q.0 q.1 in
    let first = live_clock_of-number v q.0 live.1 live.0 in
    let k = end_after_clock v i x (orderly-at r e h l) end in
    let there : live_clock_of v i ≡ Some q.0 = subst (λ n. live_clock_of v n ≡ Some q.0) q.2 first in
    let clock : k.0 ≡ q.0 = (let f = k.1 in cc) in
    let early : k.0 + 6 ≤ x = k.2 in
    let near : q.0 + 3 < e + 1 = omega arith in
    let replies : AgreeBelow (q.0 + 1) (is_live_reply_to v j) (is_live_reply_to r.trace j) = record {
      same = λ c n. same-reply (e + 1) v r.trace j s t c a low snoop (omega arith) response (omega arith);
    } in
    let lives : AgreeBelow q.0 (is_live v) (is_live r.trace) = record {
      same = λ c n. is_live-agree (e + 1) v r.trace c a (omega arith);
    } in
    let whole = first_where-carried (is_live_reply_to v j) (is_live_reply_to r.trace j) (length v) (length r.trace) q.0
    replies (omega arith) q.1 in
    let number = count_where-same (is_live v) (is_live r.trace) q.0 lives in
    ap (option_map (live_number_of r.trace)) whole ∙ ap Some (sym number ∙ q.2)

-- while its reply has no end, a request that was put off is not finished
unfinished-other : (r : Run) (e i j : ℕ) → Timely r → e < length r.trace → IsPutOff r e j
    → reply_number_of r.trace j ≡ Some i → HasNoEnd r e i
    → is_before (last_clock_of (run_to r e).trace j) (length (run_to r e).trace) ≡ false
unfolding reply_end_of is_deferred
unfinished-other r e i j h l k reply none =
    let v = (run_to r e).trace in
    let size : length v ≡ e + 1 = length-cut r e l in
    false_from_ne_true _ (λ t.
    let x = is_before-parts (last_clock_of v j) (length v) t in
    let below = x.2 in
    elim (cases_Bool (is_deferred v j)) [
      | inl put_off ↦
          let p = deferred_response v j put_off in
          let y = and-then (end_of v) (reply_number_of v j) x.0 (sym (last_clock_of-deferred v j put_off) ∙ x.1) in
          let whole = reply-whole r e j y.0 k.snoop p.0 x.0 h l k.below k.is_snoop p.1 y.1 y.2 (omega arith) in
          let same : y.0 ≡ i = cc in
          none x.0 (subst (λ n. end_of v n ≡ Some x.0) same y.2) (omega arith)
      | inr plain ↦
          let p = end_of-response v j x.0 (sym (last_clock_of-plain v j plain) ∙ x.1) in
          let told = told-as-settled r e j p.0 h l p.1 in
          let no : false ≡ true = sym plain ∙ ap (λ o. is_some_and o is_deferral) told.outcome ∙ k.settled in
          cc no
    ])

early-itself : (r : Run) (e i t q : ℕ) → e < length r.trace → t ≤ suc e → snoop_end_of r.trace i ≡ Some t
    → live_clock_of r.trace i ≡ Some q → q + 3 < e + 1
early-itself r e i t q l low snoop clock =
    let c = snoop_end_of-clock r.trace i t snoop in
    let f = c.is_clock in
    let above = c.above in
    let same : c.clock ≡ q = cc in omega arith

-- the request that is served is not finished while the one that serves it has no end
unfinished-served : (r : Run) (e i j t q : ℕ) → Timely r → e < length r.trace → t ≤ suc e
    → snoop_end_of r.trace i ≡ Some t → Serves r.trace (turns_in (past_of r).moments) i j
    → live_clock_of r.trace j ≡ Some q → HasNoEnd r e i
    → IsUnfinished r e j q
unfolding live_request_of
unfinished-served r e i j t q h l low snoop (inl k) clock none =
    let v = (run_to r e).trace in
    let same = k.same in
    let first : live_clock_of r.trace i ≡ Some q = subst (λ n. live_clock_of r.trace n ≡ Some q) same clock in
    let early = early-itself r e i t q l low snoop first in
    let request = request_at-agree (e + 1) r.trace v q (run_to-agrees r e l) (omega arith) in
    record {
      early = early;
      no_reply = ap is_reply (sym request)
          ∙ sym (ap (λ o. is_reply (option_and_then (request_at r.trace) o)) first) ∙ k.no_reply;
      unfinished = subst (λ n. is_before (last_clock_of v n) (length v) ≡ false) (sym same)
          (unfinished-itself r e i l none);
    }
unfinished-served r e i j t q h l low snoop (inr k) clock none =
    let v = (run_to r e).trace in
    let p = put-off r e i j t h l low snoop k.before k.deferred in
    let before = snoop_end_of-rises r.trace j i t k.before snoop in
    let gap = before.2 in
    let early = early-itself r e j before.0 q l (omega arith) before.1 clock in
    let there = live_clock_of-stays (e + 1) r.trace v j q (run_to-agrees r e l) early clock in
    record {
      early = early;
      no_reply = sym (ap (λ o. is_reply (option_and_then (request_at v) o)) there) ∙ p.no_reply;
      unfinished = unfinished-other r e i j h l p k.reply none;
    }

-- what is granted by a request with no end is owed
still-asked : (r : Run) (a line t e : ℕ) → Timely r → suc e < length r.trace → t ≤ suc e → (k : IsGrantedBy r a line t)
    → HasNoEnd r e k.number → is_asked_for (owed (past_of r) a (suc e)) line ≡ true
still-asked r a line t e h l low k none =
    let unfinished =
    unfinished-served r e k.number k.served t k.begun h (omega arith) low k.is_snoop k.serves k.is_begun none in
    let owes = owed-line r e k.served k.begun k.claim l k.is_begun k.claims unfinished in
    ap (λ b. is_asked_for (owed (past_of r) b (suc e)) line) (sym k.agent)
    ∙ ap (is_asked_for (owed (past_of r) k.claim.agent (suc e))) (sym k.names) ∙ owes

no-snoop : (w : Trace) (i : ℕ) → snoop_end_of w i ≡ Some zero → ⊥
no-snoop w i e = let above = (snoop_end_of-clock w i zero e).above in omega arith

granted-owed : (r : Run) (a c line : ℕ) → Timely r → c < length r.trace → is_granted (past_of r) a line c ≡ true
    → is_asked_for (owed (past_of r) a c) line ≡ true
granted-owed r a zero line h l e =
    let k = granted-by r a line zero l e in absurd (no-snoop r.trace k.number k.is_snoop)
granted-owed r a (suc e) line h l f =
    let k = granted-by r a line (suc e) l f in
    let snoop = k.is_snoop in
    still-asked r a line (suc e) e h l (omega arith) k (λ x end below.
    let response = end_of-response (run_to r e).trace k.number x end in
    let s = snooped-so-far r e k.number response.0 h (omega arith) response.1 in
    let there = s.2 in
    let same : s.0 ≡ suc e = cc in
    let low = s.1 in
    omega arith)

-- the live request whose end brings a line
ending : (r : Run) (c q : ℕ) → c < length r.trace → is_end_at (past_of r) c q ≡ true
    → (i : ℕ) × (end_of (run_to r c).trace i ≡ Some c) × (live_clock_of (run_to r c).trace i ≡ Some q)
unfolding is_end_at ended_requests past_of moment_at requests_ending_at
ending r c q l e = grind (arith, moment-at, any-from, is_at-some)

-- it is the one that granted the line
same-number : (r : Run) (c i j q : ℕ) → Timely r → c < length r.trace → end_of (run_to r c).trace i ≡ Some c
    → live_clock_of (run_to r c).trace i ≡ Some q → live_clock_of r.trace j ≡ Some q → i ≡ j
unfolding live_clock_of
same-number r c i j q h l end there whole =
    let u = (run_to r c).trace in
    let k = end_after_clock u i c (orderly-at r c h l) end in
    let first = k.1 in
    let clock : k.0 ≡ q = cc in
    let early : k.0 + 6 ≤ c = k.2 in
    let back = AgreeTo-sym (c + 1) r.trace u (run_to-agrees r c l) in
    let stays = live_clock_of-stays (c + 1) u r.trace i q back (omega arith) there in
    nth_where-one (is_live r.trace) i j (length r.trace) q stays whole

brought-owed : (r : Run) (a c : ℕ) (need : Need) → Timely r → c < length r.trace
    → is_brought (past_of r) a c need ≡ true → is_asked_for (owed (past_of r) a c) need.line ≡ true
unfolding is_brought brings_at
brought-owed r a zero need h l f =
    let t = any_where-found (brings_at (past_of r) a zero need) (zero + 1) f in
    let low = t.1 in
    let parts = and_parts (is_granted (past_of r) a need.line t.0) _ t.2 in
    let k = granted-by r a need.line t.0 (omega arith) parts.0 in
    let none : t.0 ≡ zero = omega arith in
    absurd (no-snoop r.trace k.number (k.is_snoop ∙ ap Some none))
brought-owed r a (suc e) need h l f =
    let c : ℕ = suc e in
    let v = (run_to r e).trace in
    let u = (run_to r c).trace in
    let t = any_where-found (brings_at (past_of r) a c need) (c + 1) f in
    let low = t.1 in
    let parts = and_parts (is_granted (past_of r) a need.line t.0) _ t.2 in
    let k = granted-by r a need.line t.0 (omega arith) parts.0 in
    let g = some-and (grant_at (past_of r) t.0)
    (λ (grant : Grant). is_end_at (past_of r) c grant.first && (grant.owns || not need.alone)) parts.1 in
    let granted = k.granted in
    let also = g.1 in
    let grant : g.0 ≡ k.grant = cc in
    let ends = and_parts (is_end_at (past_of r) c g.0.first) _ g.2 in
    let at = ending r c g.0.first l ends.0 in
    let first = k.is_first ∙ ap (λ x. Some x.first) (sym grant) in
    let same : at.0 ≡ k.number = same-number r c at.0 k.number g.0.first h l at.1 at.2 first in
    let end : end_of u k.number ≡ Some c = subst (λ n. end_of u n ≡ Some c) same at.1 in
    let size : length v ≡ e + 1 = length-cut r e (omega arith) in
    let more = one-more r e l in
    still-asked r a need.line t.0 e h l (omega arith) k (λ x early below.
    let later = end_of-kept v more.0 u k.number x more.1 (orderly-at r e h (omega arith)) early (omega arith) in
    let both : x ≡ suc e = cc in
    omega arith)

-- in a timely run an agent gets what it has asked for
pub grants-are-owed : (r : Run) → Timely r → GrantsAreOwed r
grants-are-owed r h = grind (arith, granted-owed, brought-owed)
