-- Reasons of the rules for data and for outstanding requests: 16 and 18.
use Rattle.std.proofs.Common.{ℕ, ◌+◌, ◌-◌, ◌<◌, ◌≤◌, ◌≡◌, Bool, true, false, ◌&&◌, not, nat_lt, nat_eq}
use Rattle.std.proofs.Common.{Option, Some, None, refl, sym, ap, subst, ◌∙◌, arith, inl, inr}
use Rattle.std.proofs.lemmas.Bool.{cases_Bool, and_parts, and_from, and_right, or_cases, or_left, or_right, lt-ltb, ltb-true}
use Rattle.std.proofs.lemmas.Bool.{le-leb, leb-true, not-true, not_from_false}
use Rattle.fsb_count.specs.Options.{is_some_and}
use Rattle.fsb_count.specs.Clocks.{any_where, count_where, from_clock, last_where}
use Rattle.fsb_count.proofs.Interface.{any_where-found, any_where-at}
use Rattle.fsb_signal.specs.declared.lines.TheConstants.Lines.{ADS, DBSY, DRDY}
use Rattle.fsb_signal.specs.declared.marks.Marks.{Marks}
use Rattle.fsb_signal.specs.Samples.{line_at}
use Rattle.fsb_encode.specs.declared.request.Request.{Request}
use Rattle.fsb_trace.specs.declared.who.Who.{Who}
use Rattle.fsb_trace.specs.At.{Trace, line_back, request_at, responds_at}
use Rattle.fsb_trace.specs.Winner.{winner_at, is_agent}
use Rattle.fsb_trace.specs.Requests.{live_count, is_reply, is_reply_kind, have_same_id}
use Rattle.fsb_trace.specs.Outcome.{response_clock_of}
use Rattle.fsb_trace.specs.Rules.{is_transferring_of, is_transferring, is_data_wrong, awaits_reply, is_id_taken_by}
use Rattle.fsb_trace.specs.Rules.{is_outstanding_of_winner, is_begun_wrongly, is_outstanding_wrong}
use Rattle.fsb_trace.proofs.Interface.{live_below_count}
use Rattle.fsb_laws.proofs.Interface.{count_where-none}
use Rattle.fsb_reasons.specs.declared.reason.Concerned.{Concerned}
use Rattle.fsb_reasons.specs.declared.reason.Reason.TheVariants.{DataForNone, BusyMissing, BusyForNone, ReplyUnawaited, IdTaken, TooMany}
use Rattle.fsb_reasons.specs.RuleOf.{rule_of}
use Rattle.fsb_reasons.specs.Holds.{Holds, HasReason}
use Rattle.fsb_reasons.proofs.Words.{or_first, or_second, or_third, live_there}

some_parts : {A : Type 0} (o : Option A) (test : A → Bool) → is_some_and o test ≡ true
    → (x : A) × (o ≡ Some x) × (test x ≡ true)
unfolding is_some_and
some_parts None test t = absurd (let no : ⊥ = cc in no)
some_parts (Some x) test t = (x, refl, t)

some_from : {A : Type 0} (o : Option A) (test : A → Bool) (x : A) → o ≡ Some x → test x ≡ true
    → is_some_and o test ≡ true
unfolding is_some_and
some_from o test x e t = ap (λ a. is_some_and a test) e ∙ t

-- 16

pub data_for_none-sound : (m : Marks) (v : Trace) (c : ℕ) (last : Option ℕ) → Holds m v c (DataForNone last)
    → is_data_wrong v c ≡ true
unfolding is_data_wrong
data_for_none-sound m v c last h = or_first _ _ _ (and_from _ _ h.0 (not_from_false _ h.1))

pub busy_missing-sound : (m : Marks) (v : Trace) (c : ℕ) (request : Concerned) (response chunks : ℕ)
    → Holds m v c (BusyMissing request response chunks) → is_data_wrong v c ≡ true
unfolding is_data_wrong is_transferring is_transferring_of
busy_missing-sound m v c request response chunks h =
    let i : ℕ = request.number in
    let few : count_where (from_clock response (line_at DRDY v)) (c + 1) < 4 = subst (λ n. n < 4) h.4 h.5 in
    let here : is_transferring_of v (c + 1) i ≡ true =
    and_from _ _ h.2
    (some_from (response_clock_of v i) (λ r. nat_lt (count_where (from_clock r (line_at DRDY v)) (c + 1)) 4) response h.3
    (lt-ltb (count_where (from_clock response (line_at DRDY v)) (c + 1)) 4 few)) in
    let some = any_where-at (is_transferring_of v (c + 1)) (live_count v) i (live_below_count v i request.clock h.1) here in
    or_second (line_at DRDY v c && not (is_transferring v c)) _ _ (and_from _ _ (not_from_false _ h.0) some)

pub busy_for_none-sound : (m : Marks) (v : Trace) (c : ℕ) (last : Option ℕ) → Holds m v c (BusyForNone last)
    → is_data_wrong v c ≡ true
unfolding is_data_wrong
busy_for_none-sound m v c last h =
    or_third (line_at DRDY v c && not (is_transferring v c)) (not (line_at DBSY v c) && is_transferring v (c + 1)) _
    (and_from _ _ h.0 (not_from_false _ h.1))

busy-reason : (m : Marks) (v : Trace) (c : ℕ) → line_at DBSY v c ≡ false → is_transferring v (c + 1) ≡ true
    → HasReason m v c 16
unfolding is_transferring is_transferring_of rule_of
busy-reason m v c f t =
    let k = any_where-found (is_transferring_of v (c + 1)) (live_count v) t in
    let q = live_there v k.0 k.1 in
    let p = and_parts _ _ k.2 in
    let r = some_parts (response_clock_of v k.0)
    (λ r. nat_lt (count_where (from_clock r (line_at DRDY v)) (c + 1)) 4) p.1 in
    let chunks : ℕ = count_where (from_clock r.0 (line_at DRDY v)) (c + 1) in
    record {
      reason = BusyMissing (record { number = k.0; clock = q.0 }) r.0 chunks;
      rule = refl;
      holds = (f, q.1, p.0, r.1, refl, ltb-true chunks 4 r.2);
    }

pub reason_16 : (m : Marks) (v : Trace) (c : ℕ) → is_data_wrong v c ≡ true → HasReason m v c 16
unfolding is_data_wrong rule_of
reason_16 m v c t =
    elim (or_cases _ _ t) [
      | inl two ↦ elim (or_cases _ _ two) [
        | inl loose ↦
            let p = and_parts _ _ loose in
            record {
              reason = DataForNone (last_where (responds_at v) (c + 1));
              rule = refl;
              holds = (p.0, not-true _ p.1, refl);
            }
        | inr missing ↦ let p = and_parts _ _ missing in busy-reason m v c (not-true _ p.0) p.1
      ]
      | inr held ↦
          let p = and_parts _ _ held in
          record {
            reason = BusyForNone (last_where (responds_at v) (c + 1));
            rule = refl;
            holds = (p.0, not-true _ p.1, refl);
          }
    ]

-- 18

begun_wrongly : (v : Trace) (c : ℕ) → line_back ADS v c 1 ≡ true → is_begun_wrongly v (c - 1) ≡ true
    → is_outstanding_wrong v c ≡ true
unfolding is_outstanding_wrong
begun_wrongly v c t w = and_from _ _ t w

unawaited : (v : Trace) (q : ℕ) → is_reply (request_at v q) ≡ true
    → any_where (awaits_reply v q) (live_count v) ≡ false → is_begun_wrongly v q ≡ true
unfolding is_begun_wrongly
unawaited v q t f = rw t (not_from_false _ f)

taken : (v : Trace) (q p : ℕ) → is_reply (request_at v q) ≡ false → p < q → is_id_taken_by v q p ≡ true
    → is_begun_wrongly v q ≡ true
unfolding is_begun_wrongly
taken v q p f l t = rw f (or_left _ _ (any_where-at (is_id_taken_by v q) q p l t))

many : (v : Trace) (q : ℕ) → is_reply (request_at v q) ≡ false → 4 ≤ count_where (is_outstanding_of_winner v q) q
    → is_begun_wrongly v q ≡ true
unfolding is_begun_wrongly
many v q f l = rw f (or_right _ _ (le-leb 4 (count_where (is_outstanding_of_winner v q) q) l))

pub reply_unawaited-sound : (m : Marks) (v : Trace) (c did : ℕ) → Holds m v c (ReplyUnawaited did)
    → is_outstanding_wrong v c ≡ true
reply_unawaited-sound m v c did h = begun_wrongly v c h.0 (unawaited v (c - 1) h.1 h.3)

pub id_taken-sound : (m : Marks) (v : Trace) (c did by : ℕ) → Holds m v c (IdTaken did by)
    → is_outstanding_wrong v c ≡ true
id_taken-sound m v c did by h = begun_wrongly v c h.0 (taken v (c - 1) by h.1 h.3 h.4)

pub too_many-sound : (m : Marks) (v : Trace) (c : ℕ) (who : Who) (n : ℕ) → Holds m v c (TooMany who n)
    → is_outstanding_wrong v c ≡ true
too_many-sound m v c who n h =
    begun_wrongly v c h.0 (many v (c - 1) h.1 (subst (λ x. 4 ≤ x) (sym h.3) h.4))

same_there : (a b : Option Request) → have_same_id a b ≡ true → (r : Request) × (b ≡ Some r)
unfolding have_same_id
same_there a b t =
    let r = some_parts a (λ r. is_some_and b (λ s. nat_eq r.did s.did)) t in
    let s = some_parts b (λ s. nat_eq (r.0).did s.did) r.2 in
    (s.0, s.1)

reply_there : (o : Option Request) → is_reply o ≡ true → (r : Request) × (o ≡ Some r)
unfolding is_reply
reply_there o t = let r = some_parts o (λ r. is_reply_kind r.kind) t in (r.0, r.1)

none_of_winner : (v : Trace) (q : ℕ) → winner_at v q ≡ None → count_where (is_outstanding_of_winner v q) q ≡ 0
unfolding is_outstanding_of_winner is_some_and
none_of_winner v q e =
    count_where-none (is_outstanding_of_winner v q) q
    (λ p l. and_right _ _ (ap (λ w. is_some_and w (is_agent (winner_at v p))) e))

many-reason : (m : Marks) (v : Trace) (c : ℕ) (o : Option Who) → line_back ADS v c 1 ≡ true
    → is_reply (request_at v (c - 1)) ≡ false → winner_at v (c - 1) ≡ o
    → 4 ≤ count_where (is_outstanding_of_winner v (c - 1)) (c - 1) → HasReason m v c 18
unfolding rule_of
many-reason m v c None t f e l =
    let zero : count_where (is_outstanding_of_winner v (c - 1)) (c - 1) ≡ 0 = none_of_winner v (c - 1) e in
    absurd (omega (arith, zero, l))
many-reason m v c (Some who) t f e l = record {
  reason = TooMany who (count_where (is_outstanding_of_winner v (c - 1)) (c - 1));
  rule = refl;
  holds = (t, f, e, refl, l);
}

reply-reason : (m : Marks) (v : Trace) (c : ℕ) → line_back ADS v c 1 ≡ true → is_reply (request_at v (c - 1)) ≡ true
    → any_where (awaits_reply v (c - 1)) (live_count v) ≡ false → HasReason m v c 18
unfolding rule_of
reply-reason m v c t u f =
    let r = reply_there (request_at v (c - 1)) u in
    record { reason = ReplyUnawaited (r.0).did; rule = refl; holds = (t, u, (r.0, r.1, refl), f) }

taken-reason : (m : Marks) (v : Trace) (c p : ℕ) → line_back ADS v c 1 ≡ true
    → is_reply (request_at v (c - 1)) ≡ false → p < c - 1 → is_id_taken_by v (c - 1) p ≡ true → HasReason m v c 18
unfolding rule_of is_id_taken_by
taken-reason m v c p t f l u =
    let both = and_parts _ _ u in
    let r = same_there (request_at v p) (request_at v (c - 1)) both.1 in
    record { reason = IdTaken (r.0).did p; rule = refl; holds = (t, f, (r.0, r.1, refl), l, u) }

begun-reason : (m : Marks) (v : Trace) (c : ℕ) → line_back ADS v c 1 ≡ true → is_begun_wrongly v (c - 1) ≡ true
    → HasReason m v c 18
unfolding is_begun_wrongly
begun-reason m v c t w =
    elim (cases_Bool (is_reply (request_at v (c - 1)))) [
      | inl reply ↦ reply-reason m v c t reply (not-true _ (rw reply at w))
      | inr other ↦ elim (or_cases _ _ (rw other at w)) [
        | inl id ↦
            let p = any_where-found (is_id_taken_by v (c - 1)) (c - 1) id in
            taken-reason m v c p.0 t other p.1 p.2
        | inr four ↦
            many-reason m v c (winner_at v (c - 1)) t other refl
            (leb-true 4 (count_where (is_outstanding_of_winner v (c - 1)) (c - 1)) four)
      ]
    ]

pub reason_18 : (m : Marks) (v : Trace) (c : ℕ) → is_outstanding_wrong v c ≡ true → HasReason m v c 18
unfolding is_outstanding_wrong
reason_18 m v c t = let p = and_parts _ _ t in begun-reason m v c p.0 p.1
