-- Rule 18: what begins in a timely run is a reply that is awaited, or a request with a new ID where few are
-- outstanding.
use Rattle.fsb_lawful.proofs.Words
use Words.{ℕ, zero, suc, ◌+◌, ◌-◌, ◌<◌, ◌≤◌, ◌≡◌, Bool, true, false, not, ◌&&◌, Option, Some, length, take, nat_le}
use Words.{slice_index, refl, sym, ap, subst, ◌∙◌, arith, option_and_then, option_map, and_from, eq-eqb, lt-leb}
use Words.{any_where, count_where, is_some_and, any_where-at, any_where-off, first_where-found, is_before-from, Request}
use Words.{ADS, Marks, line_at, Who, Symmetric, Priority, Trace, line_back, request_at, due_at, is_answered, is_due}
use Words.{later_of, is_deferral, is_deferred, is_settled_deferred, response_clock_of, have_same_id, is_reply}
use Words.{is_reply_kind, live_count, live_request_of, awaits_reply, is_begun_wrongly, is_id_taken_by}
use Words.{is_outstanding_of_winner, is_outstanding_wrong, winner_at, AgreeTo-sym, breaks-18, response_clock_of-stays}
use Words.{winner_at-agree, last_is_live, response_counted, same_answered, same_deferred, same_live_request, turns_in}
use Words.{Run, past_of, past_to, run_to, due_number, reply_to, request_begun, would_begin, Timely, settled_of}
use Words.{WantsLawfully, Keeps}
use Rattle.fsb_lawful.proofs.Beginnings.{begins-at, not-low}
use Rattle.fsb_lawful.proofs.Begun.{ads-back, begun-decoded}
use Rattle.fsb_lawful.proofs.Cuts.{line-to}
use Rattle.fsb_lawful.proofs.CutRuns.{cuts-agree, length-cut, past-cut}
use Rattle.fsb_lawful.proofs.Identity.{begun-winner}
use Rattle.fsb_lawful.proofs.Keeping.{and3, and-fails, keeps, not-true}
use Rattle.fsb_lawful.proofs.OrderlyRuns.{orderly-at}
use Rattle.fsb_lawful.proofs.OutstandingIds.{IsWanted, begins-after, few-outstanding, id-free}
use Rattle.fsb_lawful.proofs.OwnIds.{want-own}
use Rattle.fsb_lawful.proofs.ResponseCodes.{told-as-settled}

-- the request that is due at the clock after e, whose reply begins there
pub record IsDueAt (r : Run) (e i : ℕ) (request : Request) : Type 0 where
  pub asked : live_request_of (run_to r (suc e)).trace i ≡ Some request
  pub response : ℕ
  pub is_response : response_clock_of (run_to r (suc e)).trace i ≡ Some response
  pub before : response < suc e
  pub deferred : is_deferred (run_to r (suc e)).trace i ≡ true
  pub unanswered : is_answered (run_to r (suc e)).trace (suc e) i ≡ false

response-parts : (o : Option ℕ) (later c : ℕ) → is_some_and o (λ t. nat_le (t + 1 + later) c) ≡ true
    → (t : ℕ) × (o ≡ Some t) × (t < c)
unfolding is_some_and
response-parts o later c h1 = grind arith

deferred-told : (r : Run) (d i t : ℕ) → Timely r → d < length r.trace
    → response_clock_of (run_to r d).trace i ≡ Some t
    → is_settled_deferred (run_to r d).trace (turns_in (past_to (past_of r) d).moments) i ≡ true
    → is_deferred (run_to r d).trace i ≡ true
unfolding is_settled_deferred is_deferred settled_of
deferred-told r d i t h l e f =
    let told = told-as-settled r d i t h l e in
    ap (λ o. is_some_and o is_deferral) told.outcome
    ∙ ap (λ p. is_settled_deferred (run_to r d).trace (turns_in p.moments) i) (past-cut r d l) ∙ f

due-is : (r : Run) (e i : ℕ) (request : Request) → Timely r → suc e < length r.trace
    → due_number (run_to r (suc e)) (past_to (past_of r) (suc e)) (suc e) ≡ Some i
    → live_request_of (run_to r (suc e)).trace i ≡ Some request
    → IsDueAt r e i request
unfolding due_number due_at is_due
due-is r e i request h l due asked =
    let w = (run_to r (suc e)).trace in
    let turns = turns_in (past_to (past_of r) (suc e)).moments in
    let f = first_where-found (is_due w turns (suc e)) (live_count w) i due in
    let a = and3 (is_settled_deferred w turns i)
    (is_some_and (response_clock_of w i) (λ t. nat_le (t + 1 + later_of (slice_index turns i)) (suc e)))
    (not (is_answered w (suc e) i)) f.1 in
    let t = response-parts (response_clock_of w i) (later_of (slice_index turns i)) (suc e) a.1 in
    record {
      asked = asked;
      response = t.0;
      is_response = t.1;
      before = t.2;
      deferred = deferred-told r (suc e) i t.0 h l t.1 a.0;
      unanswered = not-true (is_answered w (suc e) i) a.2;
    }

same-did : (a b : Option Request) (x : Request) → a ≡ Some x → b ≡ Some (reply_to x) → have_same_id a b ≡ true
unfolding have_same_id is_some_and reply_to
same-did a b x e f = rw (e, f) (eq-eqb x.did x.did refl)

-- a due request awaits its reply
awaited : (r : Run) (e i : ℕ) (request : Request) → Timely r → suc (suc e) < length r.trace
    → line_at ADS (run_to r (suc (suc e))).trace (suc e) ≡ true → IsDueAt r e i request
    → request_at (run_to r (suc (suc e))).trace (suc e) ≡ Some (reply_to request)
    → any_where (awaits_reply (run_to r (suc (suc e))).trace (suc e)) (live_count (run_to r (suc (suc e))).trace) ≡ true
unfolding awaits_reply
awaited r e i request h l t k decoded =
    let u = (run_to r e).trace in
    let w = (run_to r (suc e)).trace in
    let v = (run_to r (suc (suc e))).trace in
    let size : length u ≡ e + 1 = length-cut r e (omega arith) in
    let same : length u ≡ suc e = omega arith in
    let here = line-to ADS r (suc e) (suc (suc e)) (omega arith) l ∙ t in
    let one = begins-after r e (suc e) h (omega arith) (omega arith) here in
    let two = begins-after r e (suc (suc e)) h (omega arith) l t in
    let before = k.before in
    let early = response_clock_of-stays (e + 1) w u i k.response
    (AgreeTo-sym (e + 1) u w (cuts-agree r e (suc e) (omega arith) (omega arith))) (omega arith) k.is_response in
    let late = response_clock_of-stays (e + 1) u v i k.response (cuts-agree r e (suc (suc e)) (omega arith) l)
    (omega arith) early in
    let counted = response_counted u i k.response early in
    let live = last_is_live v i (orderly-at r (suc (suc e)) h l) (response_counted v i k.response late) in
    let deferred = same_deferred u v i two counted ∙ sym (same_deferred u w i one counted) ∙ k.deferred in
    let asked = same_live_request u v i two counted ∙ sym (same_live_request u w i one counted) ∙ k.asked in
    let unanswered = subst (λ n. is_answered v n i ≡ false) same (same_answered u v i two counted
    ∙ sym (same_answered u w i one counted) ∙ subst (λ n. is_answered w n i ≡ false) (sym same) k.unanswered) in
    any_where-at (awaits_reply v (suc e)) (live_count v) i live
    (and_from _ _
    (and_from _ _
    (and_from _ _ deferred (same-did (live_request_of v i) (request_at v (suc e)) request asked decoded))
    (is_before-from (response_clock_of v i) k.response (suc e) late before)) (ap not unanswered))

mapped-reply : (o : Option Request) (request : Request) → option_map reply_to o ≡ Some request
    → (x : Request) × (o ≡ Some x) × (reply_to x ≡ request)
mapped-reply o request h1 = grind arith

found-request : (f : ℕ → Option Request) (o : Option ℕ) (x : Request) → option_and_then f o ≡ Some x
    → (i : ℕ) × (o ≡ Some i) × (f i ≡ Some x)
found-request f o x h1 = grind arith

reply-rightly : (v : Trace) (q : ℕ) (x : Request) → request_at v q ≡ Some (reply_to x)
    → any_where (awaits_reply v q) (live_count v) ≡ true → is_begun_wrongly v q ≡ false
unfolding is_begun_wrongly is_reply is_reply_kind is_some_and reply_to
reply-rightly v q x e f = rw (e, f) refl

wanted-rightly : (v : Trace) (q : ℕ) (x : Request) → request_at v q ≡ Some x → is_reply_kind x.kind ≡ false
    → any_where (is_id_taken_by v q) q ≡ false → count_where (is_outstanding_of_winner v q) q < 4
    → is_begun_wrongly v q ≡ false
unfolding is_begun_wrongly is_reply is_some_and
wanted-rightly v q x e f g l = rw (e, f, g) (lt-leb 4 (count_where (is_outstanding_of_winner v q) q) l)

untaken : (b : Bool) → (b ≡ true → ⊥) → b ≡ false
untaken b h1 = grind arith

by-who : (r : Run) (e : ℕ) (who : Who) (request : Request) → Timely r → WantsLawfully r → r.plan.ahead ≤ 4
    → suc (suc e) < length r.trace → line_at ADS (run_to r (suc (suc e))).trace (suc e) ≡ true
    → request_at (run_to r (suc (suc e))).trace (suc e) ≡ Some request
    → winner_at (run_to r (suc (suc e))).trace (suc e) ≡ Some who
    → would_begin (run_to r (suc e)) (past_to (past_of r) (suc e)) (suc e) who ≡ Some request
    → is_begun_wrongly (run_to r (suc (suc e))).trace (suc e) ≡ false
unfolding would_begin past_to past_of
by-who r e (Symmetric a) request h wants few l t decoded winner would =
    let v = (run_to r (suc (suc e))).trace in
    let k : IsWanted r e a request = record { decoded = decoded; winner = winner; want = would } in
    let own = want-own (past_to (past_of r) (suc e)) a (suc e) request few would in
    wanted-rightly v (suc e) request decoded own.0
    (any_where-off (is_id_taken_by v (suc e)) (suc e)
    (λ p below. untaken (is_id_taken_by v (suc e) p) (id-free r e a p request h wants few l t k below)))
    (few-outstanding r e a request h wants few l t k)
by-who r e Priority request h wants few l t decoded winner would =
    let v = (run_to r (suc (suc e))).trace in
    let x = mapped-reply
    (option_and_then (live_request_of (run_to r (suc e)).trace)
    (due_number (run_to r (suc e)) (past_to (past_of r) (suc e)) (suc e))) request would in
    let i = found-request (live_request_of (run_to r (suc e)).trace)
    (due_number (run_to r (suc e)) (past_to (past_of r) (suc e)) (suc e)) x.0 x.1 in
    let as-reply : request_at v (suc e) ≡ Some (reply_to x.0) = decoded ∙ ap Some (sym x.2) in
    reply-rightly v (suc e) x.0 as-reply
    (awaited r e i.0 x.0 h l t (due-is r e i.0 x.0 h (omega arith) i.1 i.2) as-reply)

rightly : (r : Run) (e : ℕ) → Timely r → WantsLawfully r → r.plan.ahead ≤ 4 → suc (suc e) < length r.trace
    → line_back ADS (run_to r (suc (suc e))).trace (suc (suc e)) 1 ≡ true
    → is_begun_wrongly (run_to r (suc (suc e))).trace (suc e) ≡ false
unfolding request_begun
rightly r e h wants few l back =
    let v = (run_to r (suc (suc e))).trace in
    let t = ads-back r (suc e) l ∙ back in
    let b = begun-decoded r (suc e) h l t in
    let won = begun-winner (would_begin (run_to r (suc e)) (past_to (past_of r) (suc e)) (suc e))
    (winner_at (run_to r (suc e)).trace (suc e)) b.0 b.1 in
    let there = sym (line-to ADS r (suc e) (suc (suc e)) (omega arith) l) ∙ t in
    let winner =
    sym (winner_at-agree (suc e + 1) (run_to r (suc e)).trace v (suc e)
    (cuts-agree r (suc e) (suc (suc e)) (omega arith) l) (omega arith)) ∙ won.1 in
    by-who r e won.0 b.0 h wants few l there (b.2 (wants.lawful (suc e) b.0 b.1)) winner won.2

-- no request begins at clock 0
not-first : (r : Run) → Timely r → 1 < length r.trace → line_back ADS (run_to r 1).trace 1 1 ≡ true → ⊥
unfolding run_to
not-first r h l t =
    let b = begins-at r 0 h (omega arith) (ads-back r zero l ∙ t) in
    let low = not-low (take (0 + 1) r.trace) 0 b.who true refl b.wins in let no : true ≡ false = low in cc no

none-back : (v : Trace) → line_back ADS v zero 1 ≡ false
unfolding line_back
none-back v = refl

at-clock : (r : Run) (c : ℕ) → Timely r → WantsLawfully r → r.plan.ahead ≤ 4 → c < length r.trace
    → is_outstanding_wrong (run_to r c).trace c ≡ false
unfolding is_outstanding_wrong
at-clock r zero h wants few l = ap (λ b. b && is_begun_wrongly (run_to r zero).trace (zero - 1))
    (none-back (run_to r zero).trace)
at-clock r (suc zero) h wants few l = grind (arith, not-first)
at-clock r (suc (suc e)) h wants few l =
    let one : suc (suc e) - 1 ≡ suc e = omega arith in
    let v = (run_to r (suc (suc e))).trace in
    and-fails (line_back ADS v (suc (suc e)) 1) (is_begun_wrongly v (suc (suc e) - 1))
    (λ t. ap (is_begun_wrongly v) one ∙ rightly r e h wants few l t)

-- rule 18
pub keeps-18 : (m : Marks) (r : Run) → Timely r → WantsLawfully r → r.plan.ahead ≤ 4 → Keeps m 18 r.trace
unfolding run_to
keeps-18 m r h wants few = keeps m 18 r.trace (λ c l. breaks-18 m (take (c + 1) r.trace) c ∙ at-clock r c h wants few l)
