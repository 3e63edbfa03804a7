-- Under its ID each outstanding request has the chunk for which it asked first, one sample on.
use Rattle.std.proofs.Common.{ℕ, ◌+◌, ◌-◌, ◌<◌, ◌≤◌, ◌≡◌, ◌^◌, Bool, true, false, cond, ◌&&◌, ◌||◌, not, nat_eq, nat_le}
use Rattle.std.proofs.Common.{List, [], ◌∷◌, ◌++◌, Option, Some, None, length, slice_index, slice_set, length-set}
use Rattle.std.proofs.Common.{get_or-set_same, get_or-set_other, refl, sym, ap, ◌∙◌, arith, inl, inr, subst}
use Rattle.std.specs.Option.{option_and_then}
use Rattle.std.proofs.lemmas.Bool.{cases_lt, and_parts, or_parts, both_ways, not-true}
use Rattle.std.proofs.lemmas.Bool.{leb-true, ltb-true, ltb-false, lt-ltb, le-leb, le-ltb}
use Rattle.std.proofs.lemmas.Bool.{eqb-false}
use Rattle.std.proofs.lemmas.Option.{same_Some}
use Rattle.fsb_count.specs.Options.{is_some_and, is_before}
use Rattle.fsb_count.specs.Clocks.{any_where, count_where}
use Rattle.fsb_count.proofs.Interface.{any_where-none, is_before-none}
use Rattle.fsb_signal.specs.declared.lines.TheConstants.Lines.{ADS}
use Rattle.fsb_signal.specs.declared.sample.Sample.{Sample}
use Rattle.fsb_signal.specs.Samples.{line_at}
use Rattle.fsb_encode.specs.declared.request.Request.{Request}
use Rattle.fsb_encode.specs.declared.request.Pair.{Pair}
use Rattle.fsb_encode.specs.Decoded.{request_of}
use Rattle.fsb_encode.specs.Request.{is_lawful_request}
use Rattle.fsb_trace.specs.At.{Trace, line_back, known_pair, known_pair_at, request_at}
use Rattle.fsb_trace.specs.Requests.{is_cancelled, is_live, live_number_of, is_reply, is_reply_kind, have_same_id}
use Rattle.fsb_trace.specs.Outcome.{is_deferred}
use Rattle.fsb_trace.specs.Flight.{is_dropped, is_finished, is_outstanding, last_clock_of}
use Rattle.fsb_trace.specs.Rules.{is_begun_wrongly, is_id_taken_by, is_outstanding_of_winner, is_outstanding_wrong}
use Rattle.fsb_laws.specs.OneMore.{OneMore}
use Rattle.fsb_laws.specs.Orderly.{Orderly}
use Rattle.fsb_laws.proofs.Interface.{end_past, finished-deferred, finished-plain, is_live-ads, is_live-more}
use Rattle.fsb_laws.proofs.Interface.{is_outstanding-end, last_clock_of-plain, line_at-old, live_number_of-more}
use Rattle.fsb_laws.proofs.Interface.{newly_deferred, one_more, request_at-old}
use Rattle.fsb_rules.specs.Checker.{Decoded}
use Rattle.fsb_rules.proofs.Interface.{decoded_lawful}
use Rattle.fsb_audit.specs.AuditRegisters.{asked_after, asked_with, begun_before, first_asked}
use Rattle.fsb_audit.specs.Audit.{HasAsked, first_back}

-- what is not before a number is not before a lesser one
before_less : (o : Option ℕ) (n m : ℕ) → n ≤ m → is_before o m ≡ false → is_before o n ≡ false
unfolding is_before is_some_and
before_less None n m l e = refl
before_less (Some k) n m l e = let past : m ≤ k = ltb-false k m e in le-ltb k n (omega arith)

-- a request that is not finished with the sample was not before it
unfinished : (h : Trace) (x : Sample) (v : Trace) (i : ℕ) (b d : Bool) → OneMore h x v → Orderly h → Orderly v
    → is_deferred h i ≡ b → is_deferred v i ≡ d → is_before (last_clock_of v i) (length v) ≡ false
    → is_before (last_clock_of h i) (length h) ≡ false
unfinished h x v i true d m o ov e f g =
    (or_parts _ _ (sym (finished-deferred h x v i m o ov e) ∙ g)).0
unfinished h x v i false false m o ov e f g =
    (or_parts _ _ (sym (finished-plain h x v i m o e f) ∙ g)).0
unfinished h x v i false true m o ov e f g =
    let new = newly_deferred h x v i m o e f in
    ap (λ k. is_before k (length h)) (last_clock_of-plain h i e ∙ end_past h i (omega (arith, new.number)))
    ∙ is_before-none (length h)

-- the parts of being outstanding at the end of a trace
pub record IsOut (w : Trace) (q : ℕ) : Type 0 where
  pub live : is_live w q ≡ true
  pub plain : is_reply (request_at w q) ≡ false
  pub unfinished : is_before (last_clock_of w (live_number_of w q)) (length w) ≡ false

pub out_parts : (w : Trace) (q : ℕ) → q < length w → is_outstanding w (length w) q ≡ true → IsOut w q
out_parts w q l t =
    let a = and_parts _ _ (sym (is_outstanding-end w q l) ∙ t) in
    let b = and_parts _ _ a.0 in
    record { live = b.0; plain = not-true _ b.1; unfinished = not-true _ a.1 }

pub out_from : (w : Trace) (q : ℕ) → q < length w → IsOut w q → is_outstanding w (length w) q ≡ true
out_from w q l o = is_outstanding-end w q l ∙ (rw (o.live, o.plain, o.unfinished) refl)

pub live_old : (h : Trace) (x : Sample) (v : Trace) (q : ℕ) → OneMore h x v → q < length h → is_live v q ≡ true
    → is_live h q ≡ true
live_old h x v q m l t = (and_parts _ _ (sym (is_live-more h x v q m l) ∙ t)).0

-- what is outstanding with the sample was so before it
was_out : (h : Trace) (x : Sample) (v : Trace) (q : ℕ) → OneMore h x v → Orderly h → Orderly v
    → q + 1 < length h → IsOut v q → IsOut h q
was_out h x v q m o ov l out =
    let live = live_old h x v q m (omega arith) out.live in
    let number : live_number_of h q ≡ live_number_of v q =
    live_number_of-more h x v q m o.spaced (omega arith) (is_live-ads h q live) in
    record {
      live = live;
      plain = ap is_reply (sym (request_at-old h x v q m l)) ∙ out.plain;
      unfinished = subst (λ i. is_before (last_clock_of h i) (length h) ≡ false) (sym number)
          (unfinished h x v (live_number_of v q) (is_deferred h (live_number_of v q))
          (is_deferred v (live_number_of v q)) m o ov refl refl out.unfinished);
    }

-- and it was so where a later request began
out_at : (w : Trace) (q p : ℕ) → q < p → p ≤ length w → IsOut w q → is_outstanding w p q ≡ true
unfolding is_outstanding is_dropped is_finished is_live
out_at w q p l k out =
    let live : (line_at ADS w q && not (is_cancelled w q)) ≡ true = out.live in
    let parts = and_parts (line_at ADS w q) (not (is_cancelled w q)) live in
    let asks : line_at ADS w q ≡ true = parts.0 in
    let whole : is_cancelled w q ≡ false = not-true _ parts.1 in
    let before : is_before (last_clock_of w (live_number_of w q)) p ≡ false =
    before_less (last_clock_of w (live_number_of w q)) p (length w) k out.unfinished in
    rw (asks, lt-ltb q p l, out.plain, whole, before) refl

-- the request whose second clock the sample is
swapped : (a b : Option Pair)
    → option_and_then (λ d. option_and_then {U = Request} (λ c. request_of c d) a) b
    ≡ option_and_then (λ c. option_and_then {U = Request} (λ d. request_of c d) b) a
swapped None None = refl
swapped None (Some d) = refl
swapped (Some c) None = refl
swapped (Some c) (Some d) = refl

-- the request of these first words and the sample
unfoldable pub begun_from : Option Pair → Sample → Option Request
begun_from first x = option_and_then (λ d. option_and_then (λ c. request_of c d) first) (known_pair x)

begun_now : (h : Trace) (x : Sample) (v : Trace) (p : ℕ) → OneMore h x v → p + 1 ≡ length h
    → begun_from (known_pair_at h p) x ≡ request_at v p
unfolding begun_from request_at known_pair_at
begun_now h x v p m e =
    rw (e, m.last, sym (m.agree.same p (omega arith))) (swapped (known_pair_at h p) (known_pair x))

no_words : (x : Sample) → begun_from None x ≡ None
unfolding begun_from
no_words x = none (known_pair x)
  where
    none : (o : Option Pair) → option_and_then (λ d. option_and_then {U = Request} (λ c. request_of c d) None) o ≡ None
    none None = refl
    none (Some d) = refl

-- whether a request began one clock before the sample shows before it
same_back : (h : Trace) (x : Sample) (v : Trace) → OneMore h x v
    → line_back ADS v (length h) 1 ≡ line_back ADS h (length h) 1
unfolding line_back
same_back h x v m = by_size (nat_le 1 (length h)) refl
  where
    by_size : (b : Bool) → nat_le 1 (length h) ≡ b
        → (b && line_at ADS v (length h - 1)) ≡ (b && line_at ADS h (length h - 1))
    by_size true e =
        let some : 1 ≤ length h = leb-true 1 (length h) e in
        line_at-old ADS h x v (length h - 1) m (omega (arith, some))
    by_size false e = refl

begun_form : (w : Trace) (n : ℕ) (b : Bool) → line_back ADS w n 1 ≡ b
    → begun_before w n ≡ cond b (request_at w (n - 1)) None
unfolding begun_before
begun_form w n b e = rw e refl

first_form : (h : Trace) (b : Bool) → line_back ADS h (length h) 1 ≡ b
    → first_back h ≡ cond b (known_pair_at h (length h - 1)) None
unfolding first_back
first_form h b e = rw e refl

back_parts : (w : Trace) (n : ℕ) → line_back ADS w n 1 ≡ true → (n - 1 + 1 ≡ n) × (line_at ADS w (n - 1) ≡ true)
unfolding line_back
back_parts w n t =
    let p = and_parts _ _ t in
    let some : 1 ≤ n = leb-true 1 n p.0 in
    (omega arith, p.1)

-- with the words that are kept of the last clock it is the request whose second clock is that of the sample
pub begun_by : (h : Trace) (x : Sample) (first : Option Pair) → first ≡ first_back h
    → begun_from first x ≡ begun_before (h ++ x ∷ []) (length h)
begun_by h x first e = ap (λ words. begun_from words x) e ∙ cases (line_back ADS h (length h) 1) refl
  where
    cases : (b : Bool) → line_back ADS h (length h) 1 ≡ b
        → begun_from (first_back h) x ≡ begun_before (h ++ x ∷ []) (length h)
    cases true t =
        ap (λ words. begun_from words x) (first_form h true t)
        ∙ begun_now h x (h ++ x ∷ []) (length h - 1) (one_more h x) (back_parts h (length h) t).0
        ∙ sym (begun_form (h ++ x ∷ []) (length h) true (same_back h x (h ++ x ∷ []) (one_more h x) ∙ t))
    cases false f =
        ap (λ words. begun_from words x) (first_form h false f) ∙ no_words x
        ∙ sym (begun_form (h ++ x ∷ []) (length h) false (same_back h x (h ++ x ∷ []) (one_more h x) ∙ f))

-- a request that begins has no other one's ID that is outstanding
other_id : (v : Trace) (n p q : ℕ) (r s : Request) → p + 1 ≡ n → line_at ADS v p ≡ true
    → is_outstanding_wrong v n ≡ false → request_at v p ≡ Some s → is_reply_kind s.kind ≡ false → q < p
    → is_outstanding v p q ≡ true → request_at v q ≡ Some r → nat_eq r.did s.did ≡ false
unfolding is_outstanding_wrong line_back is_begun_wrongly is_id_taken_by is_reply have_same_id is_some_and
other_id v n p q r s e t f g plain l out k =
    let back : n - 1 ≡ p = omega arith in
    let one : nat_le 1 n ≡ true = le-leb 1 n (omega arith) in
    let wrong : is_begun_wrongly v p ≡ false = (let a = rw (one, back, t) at f in a) in
    let taken : (any_where (is_id_taken_by v p) p || nat_le 4 (count_where (is_outstanding_of_winner v p) p))
    ≡ false = (let a = rw (g, plain) at wrong in a) in
    let none = any_where-none (is_id_taken_by v p) p (or_parts _ _ taken).0 q l in
    (let a = rw (out, k, g) at none in a)

id_below : (r : Request) → is_lawful_request r ≡ true → r.did < 256
unfolding is_lawful_request
id_below r t = ltb-true r.did (2 ^ 8) (and_parts _ _ t).1

-- one that begins puts its chunk under its ID, unless it is a reply
after_reply : (asked : List ℕ) (w : Trace) (n : ℕ) (s : Request) → begun_before w n ≡ Some s
    → is_reply_kind s.kind ≡ true → asked_after asked w n ≡ asked
unfolding asked_with
after_reply asked w n s e t = ap (asked_with asked) e ∙ (rw t refl)

after_plain : (asked : List ℕ) (w : Trace) (n : ℕ) (s : Request) → begun_before w n ≡ Some s
    → is_reply_kind s.kind ≡ false → asked_after asked w n ≡ slice_set asked s.did (first_asked s)
unfolding asked_with
after_plain asked w n s e t = ap (asked_with asked) e ∙ (rw t refl)

after_none : (asked : List ℕ) (w : Trace) (n : ℕ) → begun_before w n ≡ None → asked_after asked w n ≡ asked
unfolding asked_with
after_none asked w n e = ap (asked_with asked) e

no_ads : (w : Trace) (q n : ℕ) → q + 1 ≡ n → line_back ADS w n 1 ≡ false → line_at ADS w q ≡ false
unfolding line_back
no_ads w q n e f =
    let back : n - 1 ≡ q = omega arith in
    let one : nat_le 1 n ≡ true = le-leb 1 n (omega arith) in
    (let a = rw (one, back) at f in a)

is_reply-kind : (w : Trace) (q : ℕ) (r : Request) → request_at w q ≡ Some r
    → is_reply (request_at w q) ≡ is_reply_kind r.kind
unfolding is_reply is_some_and
is_reply-kind w q r e = rw e refl

pub asked_goes : (asked : List ℕ) (h : Trace) (x : Sample) (v : Trace) → OneMore h x v → Orderly h → Orderly v
    → Decoded v → is_outstanding_wrong v (length h) ≡ false → HasAsked asked h
    → HasAsked (asked_after asked v (length h)) v
asked_goes asked h x v m o ov d wrong had = cases (line_back ADS v (length h) 1) refl
  where
    size_v : length v ≡ length h + 1
    size_v = m.size

    old : (q : ℕ) (r : Request) → q + 1 < length h → is_outstanding v (length v) q ≡ true
        → request_at v q ≡ Some r → slice_index asked r.did ≡ first_asked r
    old q r l t e =
        had.kept q r l
        (out_from h q (omega arith) (was_out h x v q m o ov l (out_parts v q (omega (arith, size_v)) t)))
        (sym (request_at-old h x v q m l) ∙ e)

    same : asked_after asked v (length h) ≡ asked
        → ((q : ℕ) (r : Request) → q + 1 ≡ length h → is_outstanding v (length v) q ≡ true
        → request_at v q ≡ Some r → ⊥) → HasAsked (asked_after asked v (length h)) v
    same e none = record {
      size = ap (λ xs. length xs) e ∙ had.size;
      kept = λ q r l t f.
          elim (cases_lt (q + 1) (length h)) [
            | inl early ↦ ap (λ xs. slice_index xs r.did) e ∙ old q r early t f
            | inr late ↦ absurd (none q r (omega (arith, size_v)) t f)
          ];
    }

    plain : (p : ℕ) (s : Request) → p + 1 ≡ length h → line_at ADS v p ≡ true → request_at v p ≡ Some s
        → is_reply_kind s.kind ≡ false → asked_after asked v (length h) ≡ slice_set asked s.did (first_asked s)
        → HasAsked (asked_after asked v (length h)) v
    plain p s e t f g a = record {
      size = ap (λ xs. length xs) a ∙ length-set asked s.did (first_asked s) ∙ had.size;
      kept = λ q r l u k.
          elim (cases_lt (q + 1) (length h)) [
            | inl early ↦
                let out = out_parts v q (omega (arith, size_v)) u in
                let other = other_id v (length h) p q r s e t wrong f g (omega arith)
                (out_at v q p (omega arith) (omega (arith, size_v)) out) k in
                ap (λ xs. slice_index xs r.did) a
                ∙ get_or-set_other asked s.did r.did (first_asked s) 0
                (λ same. let apart = eqb-false r.did s.did other in apart same)
                ∙ old q r early u k
            | inr late ↦
                let here : q ≡ p = omega (arith, size_v) in
                let is_s : r ≡ s = same_Some _ _ (sym k ∙ ap (request_at v) here ∙ f) in
                ap (λ xs. slice_index xs r.did) a
                ∙ subst (λ z. slice_index (slice_set asked s.did (first_asked s)) z.did ≡ first_asked z) (sym is_s)
                (get_or-set_same asked s.did (first_asked s) 0 (let low = id_below s (decoded_lawful v p s f) in
                let size = had.size in omega arith))
          ];
    }

    kinds : (p : ℕ) (s : Request) (b : Bool) → p + 1 ≡ length h → line_at ADS v p ≡ true
        → request_at v p ≡ Some s → begun_before v (length h) ≡ Some s → is_reply_kind s.kind ≡ b
        → HasAsked (asked_after asked v (length h)) v
    kinds p s false e t f by g = plain p s e t f g (after_plain asked v (length h) s by g)
    kinds p s true e t f by g =
        same (after_reply asked v (length h) s by g) (λ q r l u k.
        let here : q ≡ p = omega arith in
        let out = out_parts v q (omega (arith, size_v)) u in
        let reply : is_reply (request_at v q) ≡ true = ap (λ z. is_reply (request_at v z)) here
        ∙ is_reply-kind v p s f ∙ g in
        both_ways _ out.plain reply)

    cases : (b : Bool) → line_back ADS v (length h) 1 ≡ b → HasAsked (asked_after asked v (length h)) v
    cases true t =
        let p = back_parts v (length h) t in
        let there = d.there (length h - 1) p.1 (omega (arith, p.0, size_v)) in
        kinds (length h - 1) there.0 (is_reply_kind there.0.kind) p.0 p.1 there.1
        (begun_form v (length h) true t ∙ there.1) refl
    cases false f =
        same (after_none asked v (length h) (begun_form v (length h) false f))
        (λ q r l u k.
        let out = out_parts v q (omega (arith, size_v)) u in
        both_ways _ (no_ads v q (length h) l f) (is_live-ads v q out.live))
