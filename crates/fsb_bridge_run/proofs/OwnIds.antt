-- In a timely run the requests that wait for their replies have IDs of their own.
use Rattle.fsb_bridge_run.proofs.Words
use Words.{ℕ, zero, suc, ◌+◌, ◌<◌, ◌≤◌, ◌≡◌, true, false, Option, Some, length, sym, ap, ◌∙◌, arith, inl, inr}
use Words.{option_and_then, and_from, both_ways, cases_Bool, cases_order, eq-eqb, eqb-true, false_from_ne_true}
use Words.{is_before, is_some_and, is_before-from, is_before-parts, Request, ADS, line_at, winner_at, request_at}
use Words.{is_dropped, is_finished, is_outstanding, last_clock_of, reply_end_of, reply_number_of, is_deferral}
use Words.{is_deferred, is_settled_deferred, have_same_id, is_cancelled, is_live, is_reply, is_reply_kind}
use Words.{live_request_of, snoop_end_of, AgreeTo-sym, end_of-response, line_at-agree, live_clock_of-rises}
use Words.{live_clock_of-stays, live_request_of-at, request_at-agree, winner_at-agree, last_clock_of-deferred}
use Words.{last_clock_of-plain, SnoopEnd, Run, past_of, past_to, run_to, request_begun, would_begin, Timely, snoop-tied}
use Words.{WantsLawfully, IsWanted, and-then, begun-winner, begun_of, cuts-agree, id-free, orderly-at, run_to-agrees}
use Words.{wanted-by, wants-lawfully, IsSnooped, answered, asked-at, deferred-held, held-plain, live-at, snooped-by}
use Words.{told-deferred, Reaches, HaveOwnIds, waits, turns_of}
use Rattle.fsb_trace.specs.Response.{end_of}
use Rattle.fsb_trace.specs.Rules.{is_id_taken_by}
use Rattle.fsb_bridge_run.proofs.Alike.{reply-kept}
use Rattle.fsb_bridge_run.proofs.Waiting.{earlier, is_replied, waits-parts}

-- live request i of the run is Deferred at its snoop end t: what the moment has of it, and the request
pub record IsDeferredAt (r : Run) (t i : ℕ) : Type 0 where
  pub end : SnoopEnd
  pub snooped : IsSnooped r t i end
  pub deferred : is_deferral end.outcome ≡ true
  pub request : Request
  pub begun : begun_of r end.first ≡ Some request
  pub decoded : request_at r.trace end.first ≡ Some request
  pub asked : live_request_of r.trace i ≡ Some request
  pub plain : is_reply_kind request.kind ≡ false

pub deferred-at : (r : Run) (t i : ℕ) → Timely r → WantsLawfully r → snoop_end_of r.trace i ≡ Some t
    → is_settled_deferred r.trace (turns_of r) i ≡ true → IsDeferredAt r t i
unfolding is_settled_deferred is_some_and
deferred-at r t i h wants e settled =
    grind (arith, snoop-tied, snooped-by, asked-at, live_request_of-at, held-plain, deferred-held)

-- while no reply to it has its snoop end, a request that was Deferred is not finished
unfinished : (r : Run) (c n t i : ℕ) → Timely r → c < length r.trace → (d : IsDeferredAt r t i) → d.end.first + 3 ≤ c
    → n ≤ c → is_replied r.trace n i ≡ false → is_before (last_clock_of (run_to r c).trace i) n ≡ false
unfolding reply_end_of
unfinished r c n t i h l d early low none =
    let w = r.trace in
    let v = (run_to r c).trace in
    let agree = run_to-agrees r c l in
    let back = AgreeTo-sym (c + 1) w v agree in
    let clock = live_clock_of-stays (c + 1) w v i d.end.first agree (omega arith) d.snooped.tied.first in
    false_from_ne_true (is_before (last_clock_of v i) n) (λ before.
    let x = is_before-parts (last_clock_of v i) n before in
    let below = x.2 in
    elim (cases_Bool (is_deferred v i)) [
      | inl put_off ↦
          let y = and-then (end_of v) (reply_number_of v i) x.0 (sym (last_clock_of-deferred v i put_off) ∙ x.1) in
          let p = end_of-response v y.0 x.0 y.2 in
          let upto = p.2 in
          let a = answered v y.0 p.0 (orderly-at r c h l) p.1 in
          let gap = a.before in
          let whole = reply-kept (c + 1) v w i y.0 d.end.first a.snoop back clock (omega arith) y.1 a.is_snoop
          (omega arith) in
          both_ways _ none
          (is_before-from (option_and_then (snoop_end_of w) (reply_number_of w i)) a.snoop n
          (ap (option_and_then (snoop_end_of w)) whole.0 ∙ whole.1) (omega arith))
      | inr plain ↦
          let end = sym (last_clock_of-plain v i plain) ∙ x.1 in
          both_ways (is_deferred v i) plain (told-deferred r c t i x.0 d.end h l d.snooped d.deferred end)
    ])

-- and is outstanding
still-outstanding : (r : Run) (c n t i : ℕ) → Timely r → c < length r.trace → (d : IsDeferredAt r t i)
    → d.end.first + 3 ≤ n → n ≤ c → is_replied r.trace n i ≡ false
    → is_outstanding (run_to r c).trace n d.end.first ≡ true
unfolding is_outstanding is_dropped is_finished is_reply is_some_and is_live is_cancelled
still-outstanding r c n t i h l d early low none =
    let w = r.trace in
    let v = (run_to r c).trace in
    let q = d.end.first in
    let agree = run_to-agrees r c l in
    let clock = live_clock_of-stays (c + 1) w v i q agree (omega arith) d.snooped.tied.first in
    let live = live-at v i q clock in
    let there = sym (request_at-agree (c + 1) w v q agree (omega arith)) ∙ d.decoded in
    let awaits = unfinished r c n t i h l d (omega arith) low none in
    grind arith

pub same-ids : (a b : Option Request) (x y : Request) → a ≡ Some x → b ≡ Some y → x.did ≡ y.did
    → have_same_id a b ≡ true
unfolding have_same_id is_some_and
same-ids a b x y e f did = rw (e, f) (eq-eqb x.did y.did did)

-- so no other request begins with its ID
pub not-again : (r : Run) (q t i : ℕ) (d : IsDeferredAt r t i) (request : Request) → Timely r → WantsLawfully r
    → r.plan.ahead ≤ 4 → begun_of r q ≡ Some request → request_at r.trace q ≡ Some request
    → is_reply_kind request.kind ≡ false → line_at ADS r.trace q ≡ true → suc q < length r.trace → d.end.first < q
    → d.request.did ≡ request.did → is_replied r.trace q i ≡ false → ⊥
unfolding is_id_taken_by is_reply is_some_and request_begun
not-again r zero t i d request h wants few begun decoded plain ads l below did none = absurd (omega arith)
not-again r (suc e) t i d request h wants few begun decoded plain ads l below did none =
    let w = r.trace in
    let c : ℕ = suc (suc e) in
    let v = (run_to r c).trace in
    let p : ℕ = d.end.first in
    let agree = run_to-agrees r c l in
    let here = sym (line_at-agree ADS (c + 1) w v (suc e) agree (omega arith)) ∙ ads in
    let first = sym (line_at-agree ADS (c + 1) w v p agree (omega arith)) ∙ d.snooped.ads in
    let apart = (orderly-at r c h l).spaced.apart p (suc e) below first here in
    let past = past_to (past_of r) (suc e) in
    let who = begun-winner (would_begin (run_to r (suc e)) past (suc e))
    (winner_at (run_to r (suc e)).trace (suc e)) request begun in
    let want = wanted-by r (suc e) who.0 request who.2 plain in
    let winner = sym (winner_at-agree (suc e + 1) (run_to r (suc e)).trace v (suc e)
    (cuts-agree r (suc e) c (omega arith) l) (omega arith)) ∙ who.1 ∙ ap Some want.1 in
    let shown = sym (request_at-agree (c + 1) w v (suc e) agree (omega arith)) ∙ decoded in
    let there = sym (request_at-agree (c + 1) w v p agree (omega arith)) ∙ d.decoded in
    let awaits = still-outstanding r c (suc e) t i h l d apart (omega arith) none in
    let same = same-ids (request_at v p) (request_at v (suc e)) d.request request there shown did in
    let wanted : IsWanted r e want.0 request = record { decoded = shown; winner = winner; want = want.2 } in
    id-free r e want.0 p request h wants few l here wanted below (and_from _ _ awaits same)

two-ids : (r : Run) (n c i k : ℕ) (x y : Request) → Reaches r n → c ≤ n → i < k → waits r.trace (turns_of r) c i ≡ true
    → waits r.trace (turns_of r) c k ≡ true → live_request_of r.trace i ≡ Some x → live_request_of r.trace k ≡ Some y
    → x.did ≡ y.did → ⊥
two-ids r n c i k x y h low less one two asks also did =
    let w = r.trace in
    let wants = wants-lawfully r h.bounds in
    let a = waits-parts w (turns_of r) c i one in
    let b = waits-parts w (turns_of r) c k two in
    let d = deferred-at r a.snoop i h.timely wants a.is_snoop a.deferred in
    let e = deferred-at r b.snoop k h.timely wants b.is_snoop b.deferred in
    let rise = live_clock_of-rises w i k d.end.first e.end.first less d.snooped.tied.first e.snooped.tied.first in
    let above = e.snooped.above in
    let within = e.snooped.within in
    let below = b.below in
    let first = d.asked in
    let second = e.asked in
    let same : d.request ≡ x = cc in
    let also-same : e.request ≡ y = cc in
    let dids : d.request.did ≡ e.request.did = ap (λ z. z.did) same ∙ did ∙ sym (ap (λ z. z.did) also-same) in
    not-again r e.end.first a.snoop i d e.request h.timely wants h.bounds.few_ahead e.begun e.decoded e.plain
    e.snooped.ads (omega arith) rise dids
    (earlier (option_and_then (snoop_end_of w) (reply_number_of w i)) e.end.first c (omega arith) a.unreplied)

pub request-waiting : (r : Run) (n c i : ℕ) → Reaches r n → waits r.trace (turns_of r) c i ≡ true
    → (x : Request) × (live_request_of r.trace i ≡ Some x)
request-waiting r n c i h e =
    let a = waits-parts r.trace (turns_of r) c i e in
    let d = deferred-at r a.snoop i h.timely (wants-lawfully r h.bounds) a.is_snoop a.deferred in
    (d.request, d.asked)

pub one-id : (r : Run) (n c i k : ℕ) (x y : Request) → Reaches r n → c ≤ n → waits r.trace (turns_of r) c i ≡ true
    → waits r.trace (turns_of r) c k ≡ true → live_request_of r.trace i ≡ Some x → live_request_of r.trace k ≡ Some y
    → x.did ≡ y.did → i ≡ k
one-id r n c i k x y h low one two asks also did =
    elim (cases_order i k) [
      | inl same ↦ same
      | inr other ↦ elim other [
        | inl less ↦ absurd (two-ids r n c i k x y h low less one two asks also did)
        | inr more ↦ absurd (two-ids r n c k i y x h low more two one also asks (sym did))
      ]
    ]

pub ids-of : (a b : Option Request) (x y : Request) → a ≡ Some x → b ≡ Some y → have_same_id a b ≡ true → x.did ≡ y.did
unfolding have_same_id is_some_and
ids-of a b x y e f same = eqb-true x.did y.did (rw (e, f) at same)

-- two requests with the ID of a third one
pub same-dids : (a a' b b' : Option Request) (x y : Request) → a ≡ a' → b ≡ Some x → b' ≡ Some y
    → have_same_id a b ≡ true → have_same_id a' b' ≡ true → x.did ≡ y.did
unfolding have_same_id is_some_and
same-dids a a' b b' x y h1 h2 h3 h4 h5 = grind arith

pub own-ids : (r : Run) (n c : ℕ) → Reaches r n → c ≤ n → HaveOwnIds r.trace (turns_of r) c
own-ids r n c h low = record {
  one = λ i k one two same.
      let x = request-waiting r n c i h one in
      let y = request-waiting r n c k h two in
      one-id r n c i k x.0 y.0 h low one two x.1 y.1
      (ids-of (live_request_of r.trace i) (live_request_of r.trace k) x.0 y.0 x.1 y.1 same);
}
