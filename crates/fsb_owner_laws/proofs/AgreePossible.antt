-- What is possible before a clock rests on the samples up to that clock.
use Rattle.std.proofs.Common.{ℕ, zero, suc, ◌+◌, ◌<◌, ◌≤◌, ◌≡◌, Bool, true, false, ◌&&◌, ◌||◌, not, nat_eq, nat_lt}
use Rattle.std.proofs.Common.{length, List, Option, Some, None}
use Rattle.std.proofs.Common.{refl, sym, ap, ◌∙◌, arith, inl, inr}
use Rattle.std.proofs.lemmas.Bool.{and_parts, both_ways, cases_Bool, cases_eq, eq-eqb, false_from_ne_true, ltb-true, not-true}
use Rattle.fsb_count.specs.Options.{is_before, is_some_and}
use Rattle.fsb_count.proofs.Interface.{any_where-at, any_where-found, any_where-same, is_before-from, is_before-parts}
use Rattle.fsb_signal.specs.declared.lines.TheConstants.Lines.{ADS, DEFER, HIT, HITM}
use Rattle.fsb_line.specs.declared.purpose.Purpose.{Purpose}
use Rattle.fsb_line.specs.States.{gets_line}
use Rattle.fsb_trace.specs.Agree.{AgreeTo}
use Rattle.fsb_trace.specs.At.{Trace, request_at}
use Rattle.fsb_trace.specs.Requests.{is_cancelled, is_live, is_upgrade, live_count, live_number_of}
use Rattle.fsb_trace.specs.Snoop.{snoop_end_of}
use Rattle.fsb_trace.specs.Outcome.{is_deferred}
use Rattle.fsb_trace.specs.Response.{end_of}
use Rattle.fsb_trace.specs.Flight.{is_dropped, is_finished, is_outstanding, last_clock_of, reply_clock_of, reply_end_of}
use Rattle.fsb_trace.specs.Flight.{reply_number_of}
use Rattle.fsb_trace.proofs.Interface.{end_of-response, end_of-stays, is_cancelled-agree, is_deferred-stays}
use Rattle.fsb_trace.proofs.Interface.{is_live-agree, line_at-agree}
use Rattle.fsb_trace.proofs.Interface.{line_at_snoop_end-stays, live_below_count, live_clock_of-number}
use Rattle.fsb_trace.proofs.Interface.{live_request_of-stays, request_at-agree}
use Rattle.fsb_trace.proofs.Interface.{snoop_end_of-clock, snoop_end_of-stays}
use Rattle.fsb_laws.specs.Orderly.{Orderly}
use Rattle.fsb_laws.proofs.Interface.{end_after_clock, has_answer, last_clock_of-deferred, last_clock_of-plain, live_of_reply}
use Rattle.fsb_owners.specs.Joint.{Joint, is_after_drops, is_after_stores, reached_by}
use Rattle.fsb_owners.specs.Possible.{after_answer, after_begin, after_clock, after_snoop_end, after_unseen, left_by}
use Rattle.fsb_owners.specs.Possible.{made_by, possible}
use Rattle.fsb_owners.specs.Shown.{asks, brings_bytes, is_coming, is_coming_by, is_turned, is_upgrading, may_drop_at}
use Rattle.fsb_owners.specs.Shown.{origin_clock_of, purpose_at}
use Rattle.fsb_owner_laws.proofs.AgreeEnders.{ender-agree, ender_snoop, origin_parts}
use Rattle.fsb_owner_laws.proofs.AgreeWords.{Alike, agent_at-agree, answered_stays, asks-agree, live_number-agree, names-agree}
use Rattle.fsb_owner_laws.proofs.AgreeWords.{purpose_at-agree, put_off, reply_behind, reply_found, same_answers}
use Rattle.fsb_owner_laws.proofs.AgreeWords.{some_same, turned_round}
use Rattle.fsb_owner_laws.proofs.Emptied.{Ender, at_ender, ender, step_by}

begin-agree : (n : ℕ) (w v : Trace) (line b : ℕ) (set : List Joint) → AgreeTo n w v → b + 1 < n
    → after_begin w line b set ≡ after_begin v line b set
unfolding after_begin
begin-agree n w v line b set a l =
    rw (names-agree n w v line b a l, agent_at-agree n w v b a (omega (arith, l)), purpose_at-agree n w v b a l) refl

left-agree : (n : ℕ) (w v : Trace) (b j a : ℕ) (kind : Purpose) (set : List Joint) → AgreeTo n w v → b < n
    → snoop_end_of w j ≡ Some b → left_by w b j a kind set ≡ left_by v b j a kind set
unfolding left_by
left-agree n w v b j a kind set k l e =
    rw (live_request_of-stays n w v j b k l e, line_at-agree HIT n w v b k l, line_at-agree HITM n w v b k l) refl

turned-agree : (n : ℕ) (w v : Trace) (j s : ℕ) → AgreeTo n w v → s < n → snoop_end_of w j ≡ Some s → is_turned w j ≡ is_turned v j
unfolding is_turned
turned-agree n w v j s k l e =
    rw (line_at_snoop_end-stays DEFER n w v j s k l e, line_at_snoop_end-stays HITM n w v j s k l e) refl

made-agree : (n : ℕ) (w v : Trace) (b j a : ℕ) (kind : Purpose) (set : List Joint) → AgreeTo n w v → b < n
    → snoop_end_of w j ≡ Some b → made_by w b j a kind set ≡ made_by v b j a kind set
unfolding made_by
made-agree n w v b j a kind set k l e =
    rw (
      live_request_of-stays n w v j b k l e,
      line_at-agree HIT n w v b k l,
      line_at-agree HITM n w v b k l,
      turned-agree n w v j b k l e,
    ) refl

left_step : (n : ℕ) (w v : Trace) (b : ℕ) (o : Option Ender) (set : List Joint) → AgreeTo n w v → b < n
    → ((e : Ender) → o ≡ Some e → snoop_end_of w e.0 ≡ Some b) → step_by (left_by w b) o set ≡ step_by (left_by v b) o set
left_step n w v b None set k l h = refl
left_step n w v b (Some e) set k l h = left-agree n w v b e.0 e.1.0 e.1.1 set k l (h e refl)

made_step : (n : ℕ) (w v : Trace) (b : ℕ) (o : Option Ender) (set : List Joint) → AgreeTo n w v → b < n
    → ((e : Ender) → o ≡ Some e → snoop_end_of w e.0 ≡ Some b) → step_by (made_by w b) o set ≡ step_by (made_by v b) o set
made_step n w v b None set k l h = refl
made_step n w v b (Some e) set k l h = made-agree n w v b e.0 e.1.0 e.1.1 set k l (h e refl)

answer-agree : (n : ℕ) (w v : Trace) (line b : ℕ) (set : List Joint) → Alike n w v → b < n
    → after_answer w line b set ≡ after_answer v line b set
unfolding after_answer
answer-agree n w v line b set k l =
    at_ender w line b (left_by w b) set
    ∙ left_step n w v b (ender w line b) set k.agree l (ender_snoop w line b)
    ∙ ap (λ o. step_by (left_by v b) o set) (ender-agree n w v line b k l)
    ∙ sym (at_ender v line b (left_by v b) set)

end-agree : (n : ℕ) (w v : Trace) (line b : ℕ) (set : List Joint) → Alike n w v → b < n
    → after_snoop_end w line b set ≡ after_snoop_end v line b set
unfolding after_snoop_end
end-agree n w v line b set k l =
    at_ender w line b (made_by w b) set
    ∙ made_step n w v b (ender w line b) set k.agree l (ender_snoop w line b)
    ∙ ap (λ o. step_by (made_by v b) o set) (ender-agree n w v line b k l)
    ∙ sym (at_ender v line b (made_by v b) set)

-- bytes under way: by a request whose snoop end is seen
gets : (n : ℕ) (w v : Trace) (q : ℕ) → AgreeTo n w v → q + 1 < n
    → is_some_and (purpose_at w q) gets_line ≡ is_some_and (purpose_at v q) gets_line
gets n w v q a l = ap (λ o. is_some_and o gets_line) (purpose_at-agree n w v q a l)

brings-agree : (n : ℕ) (w v : Trace) (j s q : ℕ) → Alike n w v → s < n → snoop_end_of w j ≡ Some s → origin_clock_of w j ≡ Some q
    → brings_bytes w j ≡ brings_bytes v j
unfolding brings_bytes
brings-agree n w v j s q k l e o =
    let p = origin_parts n w v j s q k e l o in
    rw (
      live_request_of-stays n w v j s k.agree l e,
      line_at_snoop_end-stays HITM n w v j s k.agree l e,
      turned-agree n w v j s k.agree l e,
      o,
      p.1,
      purpose_at-agree n w v q k.agree (omega (arith, p.0, l)),
    ) refl

pub some_and : (o : Option ℕ) (test : ℕ → Bool) → is_some_and o test ≡ true → (q : ℕ) × (o ≡ Some q) × (test q ≡ true)
unfolding is_some_and
some_and None test t = absurd (let no : ⊥ = cc in no)
some_and (Some q) test t = (q, refl, t)

some_and-from : (o : Option ℕ) (test : ℕ → Bool) (q : ℕ) → o ≡ Some q → test q ≡ true → is_some_and o test ≡ true
unfolding is_some_and
some_and-from o test q e t = rw (e, t) refl

still_open : (n : ℕ) (w v : Trace) (j s c : ℕ) → Alike n w v → s < n → snoop_end_of w j ≡ Some s → c ≤ n
    → is_before (end_of w j) c ≡ false → is_before (end_of v j) c ≡ false
still_open n w v j s c k l e m f =
    false_from_ne_true (is_before (end_of v j) c) (λ t.
    let p = is_before-parts (end_of v j) c t in
    let sv = snoop_end_of-stays n w v j s k.agree l e in
    let back = end_of-stays n v w j s p.0 (turned_round n w v k).agree l sv (omega (arith, p.2, m)) p.1 in
    both_ways (is_before (end_of w j) c) f (is_before-from (end_of w j) p.0 c back p.2))

coming_stays : (n : ℕ) (w v : Trace) (line a c j : ℕ) → Alike n w v → c ≤ n → is_coming_by w line a c j ≡ true
    → (j < live_count v) × (is_coming_by v line a c j ≡ true)
unfolding is_coming_by
coming_stays n w v line a c j k m t =
    let p = and_parts (is_some_and (origin_clock_of w j) (asks w line a) && brings_bytes w j && is_before (snoop_end_of w j) c) (not (is_before (end_of w j) c)) t in
    let r = and_parts (is_some_and (origin_clock_of w j) (asks w line a) && brings_bytes w j) (is_before (snoop_end_of w j) c) p.0 in
    let u = and_parts (is_some_and (origin_clock_of w j) (asks w line a)) (brings_bytes w j) r.0 in
    let o = some_and (origin_clock_of w j) (asks w line a) u.0 in
    let s = is_before-parts (snoop_end_of w j) c r.1 in
    let below : s.0 < n = omega (arith, s.2, m) in
    let there = origin_parts n w v j s.0 o.0 k s.1 below o.1 in
    let sv = snoop_end_of-stays n w v j s.0 k.agree below s.1 in
    let asked : asks v line a o.0 ≡ true = sym (asks-agree n w v line a o.0 k.agree (omega (arith, there.0, below))) ∙ o.2 in
    let bytes : brings_bytes v j ≡ true = sym (brings-agree n w v j s.0 o.0 k below s.1 o.1) ∙ u.1 in
    let unended : is_before (end_of v j) c ≡ false =
    still_open n w v j s.0 c k below s.1 m (not-true (is_before (end_of w j) c) p.1) in
    let h = snoop_end_of-clock v j s.0 sv in (
      live_below_count v j h.clock h.is_clock,
      rw (
        some_and-from (origin_clock_of v j) (asks v line a) o.0 there.1 asked,
        bytes,
        is_before-from (snoop_end_of v j) s.0 c sv s.2,
        unended,
      ) refl,
    )

coming_through : (n : ℕ) (w v : Trace) (line a c : ℕ) → Alike n w v → c ≤ n → is_coming w line a c ≡ true
    → is_coming v line a c ≡ true
unfolding is_coming
coming_through n w v line a c k m t =
    let f = any_where-found (is_coming_by w line a c) (live_count w) t in
    let s = coming_stays n w v line a c f.0 k m f.2 in
    any_where-at (is_coming_by v line a c) (live_count v) f.0 s.0 s.1

coming-agree : (n : ℕ) (w v : Trace) (line a c : ℕ) → Alike n w v → c ≤ n → is_coming w line a c ≡ is_coming v line a c
coming-agree n w v line a c k m =
    same_answers (is_coming w line a c) (is_coming v line a c) (coming_through n w v line a c k m)
    (coming_through n v w line a c (turned_round n w v k) m)

off : (x y : Bool) → (x && false) ≡ (y && false)
off true true = refl
off true false = refl
off false true = refl
off false false = refl

-- requests that are outstanding
dropped-agree : (n : ℕ) (w v : Trace) (b q : ℕ) → AgreeTo n w v → b < n → is_dropped w b q ≡ is_dropped v b q
unfolding is_dropped
dropped-agree n w v b q a l =
    elim (cases_Bool (nat_lt (q + 3) b)) [
      | inl t ↦ rw (is_cancelled-agree n w v q a (let h = ltb-true (q + 3) b t in omega (arith, h, l))) refl
      | inr f ↦ rw f (off (is_cancelled w q) (is_cancelled v q))
    ]

pub reply_end : (w : Trace) (i e : ℕ) (o : Option ℕ) → reply_clock_of w i ≡ o → reply_end_of w i ≡ Some e
    → (p : ℕ) × (reply_clock_of w i ≡ Some p) × (end_of w (live_number_of w p) ≡ Some e)
unfolding reply_end_of reply_number_of
reply_end w i e None h f = absurd (let z = rw h at f in let no : ⊥ = cc in no)
reply_end w i e (Some p) h f = (p, h, let z = rw h at f in z)

reply_end-from : (w : Trace) (i e p : ℕ) → reply_clock_of w i ≡ Some p → end_of w (live_number_of w p) ≡ Some e
    → reply_end_of w i ≡ Some e
unfolding reply_end_of reply_number_of
reply_end-from w i e p h f = rw h f

-- an end that is seen stays
end_kept : (n : ℕ) (w v : Trace) (i e : ℕ) → Alike n w v → e < n → end_of w i ≡ Some e → end_of v i ≡ Some e
end_kept n w v i e k l h =
    let r = end_of-response w i e h in
    let s = has_answer w r.0 i (k.left.timely i r.0 r.1) in
    end_of-stays n w v i s.snoop e k.agree (omega (arith, s.before, r.2, l)) s.is_snoop l h

not_deferred_kept : (n : ℕ) (w v : Trace) (i e : ℕ) → Alike n w v → e < n → end_of w i ≡ Some e
    → is_deferred w i ≡ is_deferred v i
not_deferred_kept n w v i e k l h =
    let r = end_of-response w i e h in
    let s = has_answer w r.0 i (k.left.timely i r.0 r.1) in
    is_deferred-stays n w v i s.snoop r.0 k.agree (omega (arith, s.before, r.2, l)) s.is_snoop (omega (arith, r.2, l)) r.1

-- the end of a live request lies behind its first clock
pub clock_of_end : (w : Trace) (q e : ℕ) → Orderly w → is_live w q ≡ true → q < length w
    → end_of w (live_number_of w q) ≡ Some e → q + 6 ≤ e
clock_of_end w q e o t l h =
    let p = end_after_clock w (live_number_of w q) e o h in
    let same : p.0 ≡ q = some_same p.0 q (sym p.1 ∙ live_clock_of-number w q l t) in
    omega (arith, same, p.2)

finished_plain : (n : ℕ) (w v : Trace) (b q e : ℕ) → Alike n w v → b < n → q < b → is_live w q ≡ true
    → is_deferred w (live_number_of w q) ≡ false
    → end_of w (live_number_of w q) ≡ Some e → e < b
    → (is_live v q ≡ true) × (is_before (last_clock_of v (live_number_of v q)) b ≡ true)
finished_plain n w v b q e k l m t f h low =
    let c = clock_of_end w q e k.left t (omega (arith, m, l, k.agree.left)) h in
    let below : q + 3 < n = omega (arith, c, low, l) in
    let number = live_number-agree n w v q k.agree below in
    let there : end_of v (live_number_of w q) ≡ Some e = end_kept n w v (live_number_of w q) e k (omega (arith, low, l)) h in
    let plain : is_deferred v (live_number_of w q) ≡ false = sym (not_deferred_kept n w v (live_number_of w q) e k (omega (arith, low, l)) h) ∙ f in (
      sym (is_live-agree n w v q k.agree below) ∙ t,
      rw (← number, last_clock_of-plain v (live_number_of w q) plain) (is_before-from (end_of v (live_number_of w q)) e b there low),
    )

finished_deferred : (n : ℕ) (w v : Trace) (b q e : ℕ) → Alike n w v → b < n → q < b → is_live w q ≡ true
    → is_deferred w (live_number_of w q) ≡ true
    → reply_end_of w (live_number_of w q) ≡ Some e → e < b
    → (is_live v q ≡ true) × (is_before (last_clock_of v (live_number_of v q)) b ≡ true)
finished_deferred n w v b q e k l m t f h low =
    let i = live_number_of w q in
    let p = reply_end w i e (reply_clock_of w i) refl h in
    let live = live_of_reply w i p.0 p.1 in
    let c = clock_of_end w p.0 e k.left live.0 live.1 p.2 in
    let o = put_off w i k.left f in
    let behind = reply_behind w i p.0 (reply_found w i p.0 p.1) in
    let same : behind.0 ≡ o.response = some_same behind.0 o.response (sym behind.1 ∙ o.is_response) in
    let begun = snoop_end_of-clock w i o.snoop o.is_snoop in
    let mine : begun.clock ≡ q =
    some_same begun.clock q (sym begun.is_clock ∙ live_clock_of-number w q (omega (arith, m, l, k.agree.left)) t) in
    let far : p.0 + 3 < n = omega (arith, c, low, l) in
    let below : q + 3 < n = omega (arith, mine, begun.above, o.before, same, behind.2, far) in
    let number = live_number-agree n w v q k.agree below in
    let answered = answered_stays n w v i p.0 k far (record { deferred = f; reply = p.1 }) in
    let ends : end_of v (live_number_of v p.0) ≡ Some e =
    ap (end_of v) (sym (live_number-agree n w v p.0 k.agree far)) ∙ end_kept n w v (live_number_of w p.0) e k (omega (arith, low, l)) p.2 in (
      sym (is_live-agree n w v q k.agree below) ∙ t,
      rw (← number, last_clock_of-deferred v i answered.deferred)
          (is_before-from (reply_end_of v i) e b (reply_end-from v i e p.0 answered.reply ends) low),
    )

finished_by : (n : ℕ) (w v : Trace) (b q : ℕ) → Alike n w v → b < n → q < b → is_finished w b q ≡ true
    → (is_live v q ≡ true) × (is_before (last_clock_of v (live_number_of v q)) b ≡ true)
unfolding is_finished
finished_by n w v b q k l m t =
    let i = live_number_of w q in
    let p = and_parts (is_live w q) (is_before (last_clock_of w i) b) t in
    let e = is_before-parts (last_clock_of w i) b p.1 in
    elim (cases_Bool (is_deferred w i)) [
      | inl d ↦ finished_deferred n w v b q e.0 k l m p.0 d (sym (last_clock_of-deferred w i d) ∙ e.1) e.2
      | inr f ↦ finished_plain n w v b q e.0 k l m p.0 f (sym (last_clock_of-plain w i f) ∙ e.1) e.2
    ]

finished_stays : (n : ℕ) (w v : Trace) (b q : ℕ) → Alike n w v → b < n → q < b → is_finished w b q ≡ true
    → is_finished v b q ≡ true
unfolding is_finished
finished_stays n w v b q k l m t = let p = finished_by n w v b q k l m t in rw (p.0, p.1) refl

finished-agree : (n : ℕ) (w v : Trace) (b q : ℕ) → Alike n w v → b < n → q < b → is_finished w b q ≡ is_finished v b q
finished-agree n w v b q k l m =
    same_answers (is_finished w b q) (is_finished v b q) (finished_stays n w v b q k l m)
    (finished_stays n v w b q (turned_round n w v k) l m)

pub outstanding-agree : (n : ℕ) (w v : Trace) (b q : ℕ) → Alike n w v → b < n → q < b → is_outstanding w b q ≡ is_outstanding v b q
unfolding is_outstanding
outstanding-agree n w v b q k l m =
    rw (
      line_at-agree ADS n w v q k.agree (omega (arith, l, m)),
      request_at-agree n w v q k.agree (omega (arith, l, m)),
      dropped-agree n w v b q k.agree l,
      finished-agree n w v b q k l m,
    ) refl

upgrading_at : (n : ℕ) (w v : Trace) (line a b q : ℕ) → Alike n w v → b + 1 < n → q < b + 1
    → (asks w line a q && is_upgrade (request_at w q) && (nat_eq q b || is_outstanding w b q))
    ≡ (asks v line a q && is_upgrade (request_at v q) && (nat_eq q b || is_outstanding v b q))
upgrading_at n w v line a b q k l m =
    rw (asks-agree n w v line a q k.agree (omega (arith, l, m)), request_at-agree n w v q k.agree (omega (arith, l, m)))
    (ap (λ o. asks v line a q && is_upgrade (request_at v q) && o)
    (elim (cases_eq q b) [
      | inl e ↦ rw (eq-eqb q b e) refl
      | inr o ↦ rw (outstanding-agree n w v b q k (omega (arith, l)) (omega (arith, m, o))) refl
    ]))

upgrading-agree : (n : ℕ) (w v : Trace) (line a b : ℕ) → Alike n w v → b + 1 < n
    → is_upgrading w line a b ≡ is_upgrading v line a b
unfolding is_upgrading
upgrading-agree n w v line a b k l =
    any_where-same (λ q. asks w line a q && is_upgrade (request_at w q) && (nat_eq q b || is_outstanding w b q))
    (λ q. asks v line a q && is_upgrade (request_at v q) && (nat_eq q b || is_outstanding v b q)) (b + 1)
    (record { same = λ q m. upgrading_at n w v line a b q k l m })

may_drop-agree : (n : ℕ) (w v : Trace) (line b a : ℕ) → Alike n w v → b + 1 < n → may_drop_at w line b a ≡ may_drop_at v line b a
unfolding may_drop_at
may_drop-agree n w v line b a k l =
    rw (
      coming-agree n w v line a b k (omega (arith, l)),
      coming-agree n w v line a (b + 1) k (omega (arith, l)),
      upgrading-agree n w v line a b k l,
    ) refl

pub stores-same : (f g : ℕ → Bool) (set : List Joint) → ((a : ℕ) → f a ≡ g a)
    → reached_by (is_after_stores f) set ≡ reached_by (is_after_stores g) set
unfolding is_after_stores reached_by
stores-same f g set h = rw (h 0, h 1, h 2, h 3) refl

pub drops-same : (f g : ℕ → Bool) (set : List Joint) → ((a : ℕ) → f a ≡ g a)
    → reached_by (is_after_drops f) set ≡ reached_by (is_after_drops g) set
unfolding is_after_drops reached_by
drops-same f g set h = rw (h 0, h 1, h 2, h 3) refl

unseen-agree : (n : ℕ) (w v : Trace) (line b : ℕ) (set : List Joint) → Alike n w v → b + 1 < n
    → after_unseen w line b set ≡ after_unseen v line b set
unfolding after_unseen
unseen-agree n w v line b set k l =
    drops-same (may_drop_at w line b) (may_drop_at v line b) (reached_by (is_after_stores (λ a. not (is_coming w line a (b + 1)))) set)
    (λ a. may_drop-agree n w v line b a k l)
    ∙ ap (reached_by (is_after_drops (may_drop_at v line b)))
    (stores-same (λ a. not (is_coming w line a (b + 1))) (λ a. not (is_coming v line a (b + 1))) set
    (λ a. ap not (coming-agree n w v line a (b + 1) k (omega (arith, l)))))

clock-agree : (n : ℕ) (w v : Trace) (line b : ℕ) (set : List Joint) → Alike n w v → b + 1 < n
    → after_clock w line b set ≡ after_clock v line b set
unfolding after_clock
clock-agree n w v line b set k l =
    let low : b < n = omega (arith, l) in
    unseen-agree n w v line b (after_snoop_end w line b (after_answer w line b (after_begin w line b set))) k l
    ∙ ap (after_unseen v line b)
    (end-agree n w v line b (after_answer w line b (after_begin w line b set)) k low
    ∙ ap (after_snoop_end v line b)
    (answer-agree n w v line b (after_begin w line b set) k low
    ∙ ap (after_answer v line b) (begin-agree n w v line b set k.agree l)))

pub possible-agree : (n : ℕ) (first : List Joint) (w v : Trace) (line c : ℕ) → Alike n w v → c < n
    → possible first w line c ≡ possible first v line c
unfolding possible
possible-agree n first w v line zero k l = refl
possible-agree n first w v line (suc c) k l =
    clock-agree n w v line c (possible first w line c) k (omega (arith, l))
    ∙ ap (after_clock v line c) (possible-agree n first w v line c k (omega (arith, l)))
