-- Reasons of the rules for a request that begins: 2, 3, 5, 6 and 7.
use Rattle.std.proofs.Common.{ℕ, ◌+◌, ◌-◌, ◌/◌, ◌<◌, ◌≤◌, ◌≡◌, Bool, true, false, Option, Some, None, Err, is_none, is_some}
use Rattle.std.proofs.Common.{not, ◌&&◌, refl, sym, ap, subst, ◌∙◌, arith, inl, inr}
use Rattle.std.proofs.lemmas.Bool.{and_parts, and_left, and_right, or_from, le-ltb, not_from_true}
use Rattle.fsb_count.specs.Options.{is_some_and}
use Rattle.fsb_count.proofs.Interface.{is_none-none}
use Rattle.fsb_signal.specs.declared.lines.TheConstants.Lines.{ADS, BNR, LOCK}
use Rattle.fsb_signal.specs.declared.marks.Marks.{Marks}
use Rattle.fsb_signal.specs.Samples.{line_at}
use Rattle.fsb_encode.specs.declared.decoding.DecodeFault.{DecodeFault}
use Rattle.fsb_encode.specs.declared.request.Pair.{Pair}
use Rattle.fsb_encode.specs.declared.request.Request.{Request}
use Rattle.fsb_encode.specs.Decoded.{request_of, decoded}
use Rattle.fsb_trace.specs.declared.who.Who.{Who}
use Rattle.fsb_trace.specs.declared.who.Who.TheVariants.{Symmetric, Priority}
use Rattle.fsb_trace.specs.At.{Trace, line_back, known_pair_at, request_at}
use Rattle.fsb_trace.specs.Winner.{is_agent, winner_at, last_agent}
use Rattle.fsb_trace.specs.Requests.{is_reply, is_reply_kind}
use Rattle.fsb_trace.specs.Rules.{breaks, phase_rules, is_request_too_soon, is_code_unlawful, is_request_blocked, has_no_winner}
use Rattle.fsb_trace.specs.Rules.{is_identified, is_identity_wrong}
use Rattle.fsb_reasons.specs.declared.reason.Reason.TheVariants.{AtStart, TooSoon, UnknownBits, Unlawful, Blocked, NotArbitrated, Locked, NoneAsks, NoId, ReplyByOther, IdOfOther}
use Rattle.fsb_reasons.specs.RuleOf.{rule_of}
use Rattle.fsb_reasons.specs.Holds.{Holds}
use Rattle.fsb_reasons.proofs.Interface.{back_fails, back_parts, last_one, last_two, identified-other, identified-reply, unwon-free, unwon-locked}
use Rattle.fsb_why.specs.Explains.{IsReason}
use Rattle.fsb_why.proofs.Shown.{request_is}

-- 2

pub spaced-alone : (m : Marks) (v : Trace) (c : ℕ) → line_at ADS v c ≡ false → breaks m v c 2 ≡ false
unfolding breaks phase_rules is_request_too_soon
spaced-alone m v c f = and_left _ _ f

pub spaced-well : (m : Marks) (v : Trace) (c : ℕ) → 2 ≤ c → line_back ADS v c 1 ≡ false → line_back ADS v c 2 ≡ false
    → breaks m v c 2 ≡ false
unfolding breaks phase_rules is_request_too_soon
spaced-well m v c l f g = and_right _ _ (or_from _ _ (or_from _ _ (le-ltb c 2 l) f) g)

pub soon-at_start : (m : Marks) (v : Trace) (c : ℕ) → line_at ADS v c ≡ true → c < 2 → IsReason m v c 2 AtStart
unfolding rule_of
soon-at_start m v c t l = record { rule = refl; holds = (t, l) }

pub soon-one : (m : Marks) (v : Trace) (c k : ℕ) → k ≡ c → line_at ADS v c ≡ true → line_back ADS v c 1 ≡ true
    → IsReason m v c 2 (TooSoon (c - 1) (k + 2))
unfolding rule_of
soon-one m v c k e t one =
    let b = back_parts ADS v c 1 one in
    let low : 1 ≤ c = b.0 in
    record {
      rule = refl;
      holds = (t, last_one (line_at ADS v) c (c - 1) (omega (arith, low)) b.1, omega (arith, low, e), omega (arith, e));
    }

pub soon-two : (m : Marks) (v : Trace) (c k : ℕ) → k ≡ c → line_at ADS v c ≡ true → line_back ADS v c 1 ≡ false
    → line_back ADS v c 2 ≡ true → IsReason m v c 2 (TooSoon (c - 2) (k + 1))
unfolding rule_of
soon-two m v c k e t other two =
    let b = back_parts ADS v c 2 two in
    let low : 2 ≤ c = b.0 in
    let same : c - 1 ≡ c - 2 + 1 = omega (arith, low) in
    let off : line_at ADS v (c - 2 + 1) ≡ false =
    subst (λ x. line_at ADS v x ≡ false) same (back_fails ADS v c 1 other (omega (arith, low))) in
    record {
      rule = refl;
      holds = (
        t,
        last_two (line_at ADS v) c (c - 2) (omega (arith, low)) off b.1,
        omega (arith, low, e),
        omega (arith, e),
      );
    }

-- 3

pub coded-alone : (m : Marks) (v : Trace) (c : ℕ) → line_back ADS v c 1 ≡ false → breaks m v c 3 ≡ false
unfolding breaks phase_rules is_code_unlawful
coded-alone m v c f = and_left _ _ f

pub coded-well : (m : Marks) (v : Trace) (c : ℕ) (a b : Pair) (r : Request) → line_back ADS v c 1 ≡ true
    → Some a ≡ known_pair_at v (c - 1) → Some b ≡ known_pair_at v c → Some r ≡ request_of a b → breaks m v c 3 ≡ false
unfolding breaks phase_rules is_code_unlawful
coded-well m v c a b r t e f g =
    let l = (back_parts ADS v c 1 t).0 in
    let there : request_at v (c - 1) ≡ Some r = sym (request_is v c (Some a) (Some b) l e f) ∙ sym g in
    and_right _ _ (ap (λ o. is_none o) there)

pub coded-faulty : (m : Marks) (v : Trace) (c : ℕ) (a b : Pair) (fault : DecodeFault) → line_back ADS v c 1 ≡ true
    → Some a ≡ known_pair_at v (c - 1) → Some b ≡ known_pair_at v c → None ≡ request_of a b
    → Err fault ≡ decoded a b → IsReason m v c 3 (Unlawful fault)
unfolding rule_of
coded-faulty m v c a b fault t e f g d =
    let l = (back_parts ADS v c 1 t).0 in
    let same : c - 1 + 1 ≡ c = omega (arith, l) in
    let none : request_at v (c - 1) ≡ None = sym (request_is v c (Some a) (Some b) l e f) ∙ sym g in
    record { rule = refl; holds = (t, none, (a, b, sym e, ap (known_pair_at v) same ∙ sym f, sym d)) }

pub coded-second : (m : Marks) (v : Trace) (c : ℕ) (a : Pair) → line_back ADS v c 1 ≡ true
    → Some a ≡ known_pair_at v (c - 1) → None ≡ known_pair_at v c → IsReason m v c 3 (UnknownBits c)
unfolding rule_of
coded-second m v c a t e f =
    let l = (back_parts ADS v c 1 t).0 in
    record { rule = refl; holds = (t, sym f, inr (omega (arith, l), sym (ap (λ o. is_some o) e))) }

pub coded-first : (m : Marks) (v : Trace) (c clock : ℕ) → clock ≡ c - 1 → line_back ADS v c 1 ≡ true
    → None ≡ known_pair_at v (c - 1) → IsReason m v c 3 (UnknownBits clock)
unfolding rule_of
coded-first m v c clock s t e = record { rule = refl; holds = (t, ap (known_pair_at v) s ∙ sym e, inl s) }

-- 5

pub blocked-not : (m : Marks) (v : Trace) (c : ℕ) → is_request_blocked v c ≡ false → breaks m v c 5 ≡ false
unfolding breaks phase_rules
blocked-not m v c f = f

pub blocked-is : (m : Marks) (v : Trace) (c clock : ℕ) → clock ≡ c - 2 → is_request_blocked v c ≡ true
    → IsReason m v c 5 (Blocked clock)
unfolding rule_of is_request_blocked
blocked-is m v c clock s t =
    let p = and_parts _ _ t in
    let b = back_parts BNR v c 2 p.1 in
    let low : 2 ≤ c = b.0 in
    record {
      rule = refl;
      holds = (p.0, omega (arith, low, s), subst (λ x. line_at BNR v x ≡ true) (sym s) b.1);
    }

-- 6

pub unwon-not : (m : Marks) (v : Trace) (c : ℕ) → has_no_winner v c ≡ false → breaks m v c 6 ≡ false
unfolding breaks phase_rules
unwon-not m v c f = f

unwon-is : (v : Trace) (c : ℕ) (w : Option Who) (a b : Bool) → w ≡ winner_at v c → a ≡ line_at ADS v c
    → b ≡ is_none w → (a && b) ≡ has_no_winner v c
unfolding has_no_winner
unwon-is v c w a b won e f = rw (e, f, won) refl

pub unwon-parts : (v : Trace) (c : ℕ) → has_no_winner v c ≡ true → (line_at ADS v c ≡ true) × (winner_at v c ≡ None)
unfolding has_no_winner
unwon-parts v c t = let p = and_parts _ _ t in (p.0, is_none-none _ p.1)

pub unwon-low : (m : Marks) (v : Trace) (c : ℕ) → line_at ADS v c ≡ true → c < 2 → IsReason m v c 6 NotArbitrated
unfolding rule_of
unwon-low m v c t l = record { rule = refl; holds = (t, l) }

pub unwon-lock : (m : Marks) (v : Trace) (c : ℕ) (holder : Option Who) → holder ≡ last_agent v c
    → line_at ADS v c ≡ true → winner_at v c ≡ None → line_back LOCK v c 2 ≡ true → IsReason m v c 6 (Locked holder)
unfolding rule_of
unwon-lock m v c holder s t e lock =
    let b = back_parts LOCK v c 2 lock in
    let at_last : Holds m v c (Locked (last_agent v c)) = unwon-locked m v c t e b.0 b.1 in
    record { rule = refl; holds = subst (λ x. Holds m v c (Locked x)) (sym s) at_last }

pub unwon-none : (m : Marks) (v : Trace) (c : ℕ) → 2 ≤ c → line_at ADS v c ≡ true → winner_at v c ≡ None
    → line_back LOCK v c 2 ≡ false → IsReason m v c 6 (NoneAsks (c - 2))
unfolding rule_of
unwon-none m v c l t e free =
    record { rule = refl; holds = unwon-free m v c t e l (back_fails LOCK v c 2 free l) }

-- 7

pub owned-alone : (m : Marks) (v : Trace) (c : ℕ) → line_back ADS v c 1 ≡ false → breaks m v c 7 ≡ false
unfolding breaks phase_rules is_identity_wrong
owned-alone m v c f = and_left _ _ f

pub owned-none : (m : Marks) (v : Trace) (c : ℕ) → line_back ADS v c 1 ≡ true → request_at v (c - 1) ≡ None
    → IsReason m v c 7 NoId
unfolding rule_of
owned-none m v c t e = record { rule = refl; holds = (t, e) }

identified : (m : Marks) (v : Trace) (c : ℕ) → is_identified (winner_at v (c - 1)) (request_at v (c - 1)) ≡ true
    → breaks m v c 7 ≡ false
unfolding breaks phase_rules is_identity_wrong
identified m v c t = and_right _ _ (not_from_true _ t)

pub reply-own : (m : Marks) (v : Trace) (c : ℕ) (w : Option Who) → w ≡ winner_at v (c - 1)
    → is_reply (request_at v (c - 1)) ≡ true → is_agent w Priority ≡ true → breaks m v c 7 ≡ false
reply-own m v c w s t a =
    identified m v c (identified-reply _ _ t ∙ (ap (λ x. is_agent x Priority) (sym s) ∙ a))

pub reply-other : (m : Marks) (v : Trace) (c : ℕ) (w : Option Who) → w ≡ winner_at v (c - 1)
    → line_back ADS v c 1 ≡ true → is_reply (request_at v (c - 1)) ≡ true → is_agent w Priority ≡ false
    → IsReason m v c 7 (ReplyByOther w)
unfolding rule_of
reply-other m v c w s t r a = record { rule = refl; holds = (t, r, sym s, a) }

pub id-own : (m : Marks) (v : Trace) (c did : ℕ) (r : Request) (w : Option Who) → w ≡ winner_at v (c - 1)
    → request_at v (c - 1) ≡ Some r → is_reply (Some r) ≡ false → r.did ≡ did
    → is_agent w (Symmetric (did / 16)) ≡ true → breaks m v c 7 ≡ false
id-own m v c did r w s e f d a =
    identified m v c
    (ap (is_identified (winner_at v (c - 1))) e ∙ (identified-other _ r f
    ∙ (ap (λ x. is_agent x (Symmetric (r.did / 16))) (sym s) ∙ (ap (λ i. is_agent w (Symmetric (i / 16))) d ∙ a))))

pub id-other : (m : Marks) (v : Trace) (c did : ℕ) (r : Request) (w : Option Who) → w ≡ winner_at v (c - 1)
    → line_back ADS v c 1 ≡ true → request_at v (c - 1) ≡ Some r → is_reply (Some r) ≡ false → r.did ≡ did
    → is_agent w (Symmetric (did / 16)) ≡ false → IsReason m v c 7 (IdOfOther did w)
unfolding rule_of
id-other m v c did r w s t e f d a =
    record { rule = refl; holds = (t, ap (λ o. is_reply o) e ∙ f, (r, e, d), sym s, a) }

pub reply-is : (r : Request) → is_reply (Some r) ≡ is_reply_kind r.kind
unfolding is_reply is_some_and
reply-is r = refl

none-is : (o : Option Who) (b : Bool) → is_some o ≡ not b → b ≡ is_none o
none-is None true e = refl
none-is None false e = absurd (let no : ⊥ = cc in no)
none-is (Some w) true e = absurd (let no : ⊥ = cc in no)
none-is (Some w) false e = refl

pub unwon-both : (v : Trace) (c : ℕ) (w : Option Who) (a b : Bool) → w ≡ winner_at v c → a ≡ line_at ADS v c
    → is_some w ≡ not b → (a && b) ≡ has_no_winner v c
unwon-both v c w a b won e f = unwon-is v c w a b won e (none-is w b f)
