-- The rule of deferred IDs and outstanding requests, with a new sample.
use Rattle.std.proofs.Common.{ℕ, ◌+◌, ◌-◌, ◌/◌, ◌<◌, ◌≤◌, ◌≡◌, Bool, true, false, not, ◌&&◌, ◌||◌, nat_eq, nat_le}
use Rattle.std.proofs.Common.{Option, Some, None, is_some, is_none, [], ◌∷◌, ◌++◌, length, take, drop, count_by, cond}
use Rattle.std.proofs.Common.{append_assoc, length-append, refl, sym, ap, ◌∙◌, arith}
use Rattle.std.specs.List.{list_any, slice_get}
use Rattle.std.proofs.lemmas.Bool.{and_left, and_parts, both_ways, false_from_ne_true, leb-true, not-true}
use Rattle.std.proofs.lemmas.List.{length-take, take-append-drop}
use Rattle.fsb_count.specs.Options.{is_some_and, is_before}
use Rattle.fsb_count.specs.Clocks.{any_where, count_where}
use Rattle.fsb_count.proofs.Interface.{any_where-at, any_where-found, any_where-off, any_where-same, count_where-same}
use Rattle.fsb_count.proofs.Interface.{is_before-from, is_before-parts, is_some-none, nat_eq-sym}
use Rattle.fsb_signal.specs.declared.lines.TheConstants.Lines.{ADS}
use Rattle.fsb_signal.specs.declared.sample.Sample.{Sample}
use Rattle.fsb_signal.specs.Samples.{line_at}
use Rattle.fsb_signal.proofs.Interface.{slice_get-before}
use Rattle.fsb_encode.specs.declared.request.Request.{Request}
use Rattle.fsb_trace.specs.At.{Trace, line_back, request_at}
use Rattle.fsb_trace.specs.Agree.{AgreeTo}
use Rattle.fsb_trace.specs.Winner.{winner_at, is_agent, is_same_agent}
use Rattle.fsb_trace.specs.Requests.{live_number_of, is_reply, is_reply_kind, have_same_id, live_count}
use Rattle.fsb_trace.specs.Requests.{live_clock_of, live_request_of}
use Rattle.fsb_trace.specs.Flight.{is_outstanding, last_clock_of, reply_clock_of}
use Rattle.fsb_trace.specs.Rules.{awaits_reply, is_begun_wrongly, is_id_taken_by, is_outstanding_of_winner}
use Rattle.fsb_trace.specs.Outcome.{response_clock_of, is_deferred}
use Rattle.fsb_trace.specs.Deferral.{is_answered}
use Rattle.fsb_trace.proofs.Interface.{AgreeTo-sym, is_reply-some, line_at-agree, live_below_count}
use Rattle.fsb_trace.proofs.Interface.{live_clock_of-number, live_request_of-at, request_at-agree}
use Rattle.fsb_trace.proofs.Interface.{response_clock_of-stays}
use Rattle.fsb_laws.specs.Orderly.{Orderly}
use Rattle.fsb_laws.proofs.Interface.{BeginsAfter, ads_before_end, deferred_response, end_after_clock}
use Rattle.fsb_laws.proofs.Interface.{is_live-ads, is_outstanding-end, last_clock_of-deferred}
use Rattle.fsb_laws.proofs.Interface.{may_answer-stays, reply_end_of-none, response_counted, response_there}
use Rattle.fsb_laws.proofs.Interface.{same_answered, same_deferred, same_live_request, same_outstanding}
use Rattle.fsb_rules.specs.declared.live.LiveRequest.{LiveRequest}
use Rattle.fsb_rules.specs.declared.outstanding.Open.{Open}
use Rattle.fsb_rules.specs.declared.outstanding.Outstanding.{Outstanding}
use Rattle.fsb_rules.specs.Live.{live_from}
use Rattle.fsb_rules.specs.Outstanding.{open_from, open_of, kept_at}
use Rattle.fsb_rules.specs.Checker.{Decoded, Identified, Deferrable, WasBegun}
use Rattle.fsb_rules.proofs.Agents.{owned}
use Rattle.fsb_rules.proofs.Lines.{line_back-last}
use Rattle.fsb_rules.proofs.OpenGoes.{IsOpen, clock_number, deferral, is_open, kept_some, not_kept, open_deferred}
use Rattle.fsb_rules.proofs.OpenLists.{any_below, count_below}
use Rattle.fsb_rules.proofs.StartRules.{begun_parts}

-- a prefix of an orderly trace is orderly
orderly-prefix : (u h : Trace) → AgreeTo (length u) u h → Orderly h → Orderly u
orderly-prefix u h a o =
    record {
      spaced = record {
        apart = λ p q l s t.
            let below : q < length u = ads_before_end u q t in
            o.spaced.apart p q l (sym (line_at-agree ADS (length u) u h p a (omega arith))
            ∙ s) (sym (line_at-agree ADS (length u) u h q a below) ∙ t);
      };
      timely = λ i r e.
          let there = response_there u i (response_counted u i r e) in
          let f = there.1 in
          let same : there.0 ≡ r = cc in
          let below : r < length u = omega (arith, there.2) in
          may_answer-stays (length u) h u r i (AgreeTo-sym (length u) u h a) (omega arith)
          (o.timely i r (response_clock_of-stays (length u) u h i r a below e));
    }

-- a history that goes on with a request
begins_after : (u rest w : Trace) → u ++ rest ≡ w → line_at ADS w (length u) ≡ true → Orderly w → BeginsAfter u w
begins_after u rest w e asks o =
    let size = length-append u rest in
    let all = ap length e in
    let agree : AgreeTo (length u) u w = record {
      left = omega arith;
      right = omega arith;
      same = λ c l. sym (slice_get-before u rest c l) ∙ ap (λ z. slice_get z c) e;
    } in
    record { agree = agree; asks = asks; before = orderly-prefix u w agree o; after = o }

deferrable_before : (u h : Trace) → BeginsAfter u h → Deferrable h → Deferrable u
deferrable_before u h b f = record {
  no_reply = λ i t.
      let d = deferred_response u i t in
      let counted = response_counted u i d.0 d.1 in
      ap is_reply (sym (same_live_request u h i b counted))
      ∙ f.no_reply i (same_deferred u h i b counted ∙ t);
}

request_is : (w : Trace) (i p : ℕ) → live_clock_of w i ≡ Some p → live_request_of w i ≡ request_at w p
unfolding live_request_of
request_is w i p e = rw e refl

unfinished_is : (n : ℕ) (w : Trace) (i : ℕ) → is_deferred w i ≡ true → reply_clock_of w i ≡ None
    → is_before (last_clock_of w i) n ≡ false
unfolding is_before is_some_and
unfinished_is n w i d e = rw (last_clock_of-deferred w i d, reply_end_of-none w i e) refl

await_parts : (v : Trace) (q i : ℕ) → awaits_reply v q i ≡ true
    → (is_deferred v i ≡ true) × (is_before (response_clock_of v i) q ≡ true) × (is_answered v q i ≡ false)
unfolding awaits_reply
await_parts v q i t =
    let a = and_parts _ _ t in
    let b = and_parts _ _ a.0 in
    ((and_parts _ _ b.0).0, b.1, not-true _ a.1)

any_iff : (a b : ℕ → Bool) (m n : ℕ) (t : Bool) → any_where b n ≡ t
    → ((i : ℕ) → i < m → a i ≡ true → (p : ℕ) × (p < n) × (b p ≡ true))
    → ((p : ℕ) → p < n → b p ≡ true → (i : ℕ) × (i < m) × (a i ≡ true)) → any_where a m ≡ t
any_iff a b m n true e f g =
    let p = any_where-found b n e in
    let i = g p.0 p.1 p.2 in any_where-at a m i.0 i.1 i.2
any_iff a b m n false e f g =
    any_where-off a m (λ i l. false_from_ne_true _ (λ t. let p = f i l t in
    both_ways _ e (any_where-at b n p.0 p.1 p.2)))

kept_parts : (m : Option Open) (test : Open → Bool) → is_some_and m test ≡ true
    → (o : Open) × (m ≡ Some o) × (test o ≡ true)
unfolding is_some_and
kept_parts None test t = absurd (let no : ⊥ = cc in no)
kept_parts (Some o) test t = (o, refl, t)

-- it awaits a reply with this ID
abbrev awaits : ℕ → Open → Bool
awaits did o = nat_eq o.did did && is_some o.deferred && is_none o.reply

await_form : (same : Bool) (reply : Option ℕ)
    → (((true && same) && true) && not (is_some reply)) ≡ ((same && true) && is_none reply)
await_form same None = grind arith
await_form same (Some q) = grind arith

module _ {u v : Trace} (b : BeginsAfter u v) (decoded : Decoded v) (identified : Identified v)
    (deferrable : Deferrable u) {r : Request} (request : request_at v (length u) ≡ Some r) where
  -- an outstanding request is kept
  kept_now : (p : ℕ) → p < length u → is_outstanding u (length u) p ≡ true → (o : Open) × (kept_at u p ≡ Some o)
  kept_now p l t =
      let live = and_parts _ _ (and_parts _ _ (sym (is_outstanding-end u p l) ∙ t)).0 in
      let ads : line_at ADS v p ≡ true =
      sym (line_at-agree ADS (length u) u v p b.agree l) ∙ is_live-ads u p live.0 in
      let far : p + 3 ≤ length u = b.after.spaced.apart p (length u) l ads b.asks in
      let right = b.agree.right in
      let d = decoded.there p ads (omega arith) in
      let here : request_at u p ≡ Some d.0 = request_at-agree (length u) u v p b.agree (omega arith) ∙ d.1 in
      (open_from u (live_number_of u p) p d.0, kept_some u p d.0 t here)

  old_request : (p : ℕ) (o : Open) (k : IsOpen u p o) → request_at v p ≡ Some k.request
  old_request p o k = sym (request_at-agree (length u) u v p b.agree k.early) ∙ k.decoded

  -- a test of the requests that are outstanding is one of what is kept of them
  module _ (s : ℕ → Bool) (test : Open → Bool) (same : (p : ℕ) (o : Open) → IsOpen u p o → s p ≡ test o) where
    by_kept : (p : ℕ) (t : Bool) → p < length u → is_outstanding u (length u) p ≡ t
        → (is_outstanding v (length u) p && s p) ≡ is_some_and (kept_at u p) test
    unfolding is_some_and
    by_kept p false l t =
        and_left _ _ (same_outstanding u v p b l ∙ t) ∙ sym (ap (λ m. is_some_and m test) (not_kept u p t))
    by_kept p true l t =
        let k = kept_now p l t in
        rw (same_outstanding u v p b l, t, k.1) (same p k.0 (is_open u p k.0 k.1))

    any_kept : any_where (λ p. is_outstanding v (length u) p && s p) (length u) ≡ list_any test (open_of u)
    any_kept =
        any_where-same _ (λ p. is_some_and (kept_at u p) test) (length u)
        (record { same = λ p l. by_kept p (is_outstanding u (length u) p) l refl })
        ∙ sym (any_below test u (length u))

    count_kept : count_where (λ p. is_outstanding v (length u) p && s p) (length u) ≡ count_by test (open_of u)
    count_kept =
        count_where-same _ (λ p. is_some_and (kept_at u p) test) (length u)
        (record { same = λ p l. by_kept p (is_outstanding u (length u) p) l refl })
        ∙ sym (count_below test u (length u))

  -- the ID is taken
  taken_id : any_where (is_id_taken_by v (length u)) (length u) ≡ list_any (λ o. nat_eq o.did r.did) (open_of u)
  unfolding is_id_taken_by have_same_id is_some_and
  taken_id =
      any_kept (λ p. have_same_id (request_at v p) (request_at v (length u))) (λ o. nat_eq o.did r.did)
      (λ p o k. rw (old_request p o k, request, k.did) refl)

  -- how many of its agent there are
  of_agent : is_reply_kind r.kind ≡ false → count_where (is_outstanding_of_winner v (length u)) (length u)
      ≡ count_by (λ o. nat_eq (o.did / 16) (r.did / 16)) (open_of u)
  unfolding is_outstanding_of_winner is_agent is_same_agent is_some_and
  of_agent f =
      count_kept (λ p. is_some_and (winner_at v (length u)) (is_agent (winner_at v p)))
      (λ o. nat_eq (o.did / 16) (r.did / 16))
      (λ p o k.
      let ads : line_at ADS v p ≡ true =
      sym (line_at-agree ADS (length u) u v p b.agree (let e = k.early in omega arith)) ∙ is_live-ads u p k.live in
      let winner = owned (winner_at v p) k.request (identified.own p k.request ads (old_request p o k))
      (sym (is_reply-some k.request) ∙ k.no_reply) in
      let mine = owned (winner_at v (length u)) r (identified.own (length u) r b.asks request) f in
      rw (winner, mine, k.did) (nat_eq-sym (r.did / 16) (k.request.did / 16)))

  -- a Deferred request that is kept, and whether it awaits this reply
  awaits_same : (p : ℕ) (o : Open) → p < length u → IsOpen u p o → is_deferred u (live_number_of u p) ≡ true
      → awaits_reply v (length u) (live_number_of u p) ≡ awaits r.did o
  unfolding awaits_reply have_same_id is_some_and
  awaits_same p o l k t =
      let i : ℕ = live_number_of u p in
      let d = deferred_response u i t in
      let counted = response_counted u i d.0 d.1 in
      let there = response_there u i counted in
      let response = response_clock_of-stays (length u) u v i there.0 b.agree there.2 there.1 in
      let own : live_request_of v i ≡ Some k.request = same_live_request u v i b counted
      ∙ live_request_of-at u i p k.request (live_clock_of-number u p l k.live) k.decoded in
      rw (
        same_deferred u v i b counted ∙ t,
        own,
        request,
        is_before-from (response_clock_of v i) there.0 (length u) response there.2,
        same_answered u v i b counted,
        k.same ∙ open_deferred u i p k.request t,
        d.1,
      ) (await_form (nat_eq k.request.did r.did) (reply_clock_of u i))

  awaiting_at : (p : ℕ) → p < length u → is_outstanding u (length u) p ≡ true
      → is_deferred u (live_number_of u p) ≡ true → awaits_reply v (length u) (live_number_of u p) ≡ true
      → is_some_and (kept_at u p) (awaits r.did) ≡ true
  unfolding is_some_and
  awaiting_at p l open_still d t =
      let k = kept_now p l open_still in
      ap (λ m. is_some_and m (awaits r.did)) k.1 ∙ sym (awaits_same p k.0 l (is_open u p k.0 k.1) d) ∙ t

  awaiting_kept : (i : ℕ) → awaits_reply v (length u) i ≡ true
      → (p : ℕ) × (p < length u) × (is_some_and (kept_at u p) (awaits r.did) ≡ true)
  awaiting_kept i t =
      let parts = await_parts v (length u) i t in
      let before = is_before-parts (response_clock_of v i) (length u) parts.1 in
      let counted = response_counted u i before.0
      (response_clock_of-stays (length u) v u i before.0 (AgreeTo-sym (length u) u v b.agree) before.2 before.1) in
      let deferred : is_deferred u i ≡ true = sym (same_deferred u v i b counted) ∙ parts.0 in
      let none : reply_clock_of u i ≡ None =
      is_some-none (reply_clock_of u i) (sym (same_answered u v i b counted) ∙ parts.2) in
      let d = deferred_response u i deferred in
      let c = end_after_clock u i d.0 b.before d.2 in
      let n = clock_number u i c.0 c.1 in
      let other : is_reply (request_at u c.0) ≡ false =
      ap is_reply (sym (request_is u i c.0 c.1)) ∙ deferrable.no_reply i deferred in
      let open_still : is_outstanding u (length u) c.0 ≡ true =
      is_outstanding-end u c.0 n.0 ∙ (rw (n.1, other, n.2, unfinished_is (length u) u i deferred none) refl) in (
        c.0,
        n.0,
        awaiting_at c.0 n.0 open_still (ap (is_deferred u) n.2 ∙ deferred)
            (ap (awaits_reply v (length u)) n.2 ∙ t),
      )

  -- and the other way round
  kept_awaiting : (p : ℕ) → p < length u → is_some_and (kept_at u p) (awaits r.did) ≡ true
      → (i : ℕ) × (i < live_count v) × (awaits_reply v (length u) i ≡ true)
  kept_awaiting p l t =
      let m = kept_parts (kept_at u p) (awaits r.did) t in
      let k = is_open u p m.0 m.1 in
      let i : ℕ = live_number_of u p in
      let deferred : is_deferred u i ≡ true =
      sym (deferral u p m.0 k) ∙ (and_parts _ _ (and_parts _ _ m.2).0).1 in
      let now : awaits_reply v (length u) i ≡ true = awaits_same p m.0 l k deferred ∙ m.2 in
      let d = deferred_response v i (await_parts v (length u) i now).0 in
      let c = end_after_clock v i d.0 b.after d.2 in
      (i, live_below_count v i c.0 c.1, now)

  awaited : any_where (awaits_reply v (length u)) (live_count v) ≡ list_any (awaits r.did) (open_of u)
  awaited =
      any_iff (awaits_reply v (length u)) (λ p. is_some_and (kept_at u p) (awaits r.did))
      (live_count v) (length u) (list_any (awaits r.did) (open_of u))
      (sym (any_below (awaits r.did) u (length u))) (λ i l t. awaiting_kept i t) kept_awaiting

  wrong_cases : (t : Bool) → is_reply_kind r.kind ≡ t
      → cond t (not (any_where (awaits_reply v (length u)) (live_count v)))
      (any_where (is_id_taken_by v (length u)) (length u)
      || nat_le 4 (count_where (is_outstanding_of_winner v (length u)) (length u)))
      ≡ cond t (not (list_any (awaits r.did) (open_of u)))
      (list_any (λ o. nat_eq o.did r.did) (open_of u)
      || nat_le 4 (count_by (λ o. nat_eq (o.did / 16) (r.did / 16)) (open_of u)))
  wrong_cases true e = ap not awaited
  wrong_cases false e = rw (taken_id, of_agent e) refl

  wrong_form : is_begun_wrongly v (length u) ≡ cond (is_reply_kind r.kind) (not (list_any (awaits r.did) (open_of u)))
      (list_any (λ o. nat_eq o.did r.did) (open_of u)
      || nat_le 4 (count_by (λ o. nat_eq (o.did / 16) (r.did / 16)) (open_of u)))
  unfolding is_begun_wrongly
  wrong_form = (rw (request, is_reply-some r) refl) ∙ wrong_cases (is_reply_kind r.kind) refl

-- 18 deferred IDs and outstanding requests, of a request that was begun
pub wrong_begun : {kept : Outstanding} {h : Trace} {x : Sample} {a : LiveRequest} → WasBegun kept h x a
    → is_begun_wrongly (h ++ x ∷ []) (length h - 1)
    ≡ cond (is_reply_kind a.kind)
    (not (list_any (λ o. nat_eq o.did a.did && is_some o.deferred && is_none o.reply) kept.before.items))
    (list_any (λ o. nat_eq o.did a.did) kept.before.items
    || nat_le 4 (count_by (λ o. nat_eq (o.did / 16) (a.did / 16)) kept.before.items))
unfolding live_from line_back
wrong_begun {kept} {h} {x} {a} w =
    let p = begun_parts (h ++ x ∷ []) (length h) a w.begun in
    let v : Trace = h ++ x ∷ [] in
    let n : ℕ = length h - 1 in
    let u : Trace = take n h in
    let back : line_back ADS h (length h) 1 ≡ true = sym (line_back-last ADS h x 1 (omega arith)) ∙ p.1 in
    let now = and_parts _ _ back in
    let some = leb-true 1 (length h) now.0 in
    let shorter = length-take n h in
    let size : length u ≡ n = omega (arith, some) in
    let before : BeginsAfter u h =
    begins_after u (drop n h) h (take-append-drop n h) (ap (line_at ADS h) size ∙ now.1) w.before in
    let begins : BeginsAfter u v =
    begins_after u (drop n h ++ x ∷ []) v
    (sym (append_assoc u (drop n h) (x ∷ [])) ∙ ap (λ z. z ++ x ∷ []) (take-append-drop n h))
    (ap (line_at ADS v) size ∙ (and_parts _ _ p.1).1) w.after in
    rw (w.stands.before back, p.3)
    (ap (is_begun_wrongly v) (sym size)
    ∙ wrong_form begins w.decoded w.identified (deferrable_before u h before w.deferrable)
    (ap (request_at v) size ∙ p.2))
