-- Traces that agree below a clock have the same deferrals there.
use Rattle.fsb_bridge_run.proofs.Words
use Words.{ℕ, ◌+◌, ◌<◌, ◌≤◌, ◌≡◌, Bool, true, cond, List, Option, Some, None, slice_index, sym, ap, subst, ◌∙◌, arith}
use Words.{option_and_then, option_map, both_ways, false_from_ne_true, count_where, is_before, is_some_and}
use Words.{count_where-same, is_before-from, is_before-parts, ADS, HIT, line_at, AgreeTo, Trace, is_answered, later_of}
use Words.{reply_number_of, is_deferral, is_settled_deferred, response_clock_of, settled_by, line_of, live_clock_of}
use Words.{live_count, snoop_end_of, AgreeTo-sym, line_at-agree, line_at_snoop_end-stays, live_clock_of-stays}
use Words.{live_request_of-stays, response_clock_of-stays, settled_outcome_of-ended, snoop_end_of-clock}
use Words.{snoop_end_of-stays, line_of-agree, settled_by-agree, and-then, reply-stays, same-both, Waiting, StandsFor}
use Words.{live_line_of, request_number_of, response_before, waiting_at, waits, AreEntriesOf-IsEntryOf, IsEntryOf}
use Words.{IsEntryOf-StandsFor, Matched}
use Rattle.fsb_bridge_run.proofs.Listed.{Matched-into, all_where-below, all_where-bounds, all_where-pass}
use Rattle.fsb_bridge_run.proofs.Waiting.{waits-from, waits-live, waits-parts}

-- both traces have the same first n samples, and the same turns of the requests with their snoop ends below n
pub record SameDeferrals (n : ℕ) (w v : Trace) (turns others : List ℕ) : Type 0 where
  pub agree : AgreeTo n w v
  pub same : (i t : ℕ) → snoop_end_of w i ≡ Some t → t < n → slice_index turns i ≡ slice_index others i

pub SameDeferrals-sym : (n : ℕ) (w v : Trace) (turns others : List ℕ) → SameDeferrals n w v turns others
    → SameDeferrals n v w others turns
SameDeferrals-sym n w v turns others k =
    let back = AgreeTo-sym n w v k.agree in
    record { agree = back; same = λ i t e l. sym (k.same i t (snoop_end_of-stays n v w i t back l e) l) }

pub deferred-same : (n : ℕ) (w v : Trace) (turns others : List ℕ) (i t : ℕ) → SameDeferrals n w v turns others
    → snoop_end_of w i ≡ Some t → t < n → is_settled_deferred w turns i ≡ is_settled_deferred v others i
unfolding is_settled_deferred
deferred-same n w v turns others i t k e l =
    let there = snoop_end_of-stays n w v i t k.agree l e in
    ap (λ o. is_some_and o is_deferral) (settled_outcome_of-ended w turns i t e
    ∙ ap Some (settled_by-agree n w v (slice_index turns i) i t k.agree l e)
    ∙ ap (λ x. Some (settled_by v x i t)) (k.same i t e l) ∙ sym (settled_outcome_of-ended v others i t there))

-- a reply that has its snoop end below n is the reply in both
pub reply-kept : (n : ℕ) (w v : Trace) (i j q x : ℕ) → AgreeTo n w v → live_clock_of w i ≡ Some q → q + 3 < n
    → reply_number_of w i ≡ Some j → snoop_end_of w j ≡ Some x → x < n
    → (reply_number_of v i ≡ Some j) × (snoop_end_of v j ≡ Some x)
reply-kept n w v i j q x a clock l e snoop m =
    let c = snoop_end_of-clock w j x snoop in
    let above = c.above in
    (reply-stays n w v i j q c.clock a clock l c.is_clock (omega arith) e, snoop_end_of-stays n w v j x a m snoop)

waits-kept : (n : ℕ) (w v : Trace) (turns others : List ℕ) (c i : ℕ) → SameDeferrals n w v turns others → c ≤ n
    → waits w turns c i ≡ true → waits v others c i ≡ true
waits-kept n w v turns others c i k low e =
    let a = waits-parts w turns c i e in
    let below = a.below in
    let above = a.above in
    let there = snoop_end_of-stays n w v i a.snoop k.agree (omega arith) a.is_snoop in
    let clock = live_clock_of-stays n w v i a.clock k.agree (omega arith) a.is_clock in
    let same = deferred-same n w v turns others i a.snoop k a.is_snoop (omega arith) in
    waits-from v others c i a.snoop (sym same ∙ a.deferred) there below
    (false_from_ne_true (is_before (option_and_then (snoop_end_of v) (reply_number_of v i)) c) (λ t.
    let x = is_before-parts (option_and_then (snoop_end_of v) (reply_number_of v i)) c t in
    let l = x.2 in
    let j = and-then (snoop_end_of v) (reply_number_of v i) x.0 x.1 in
    let back = reply-kept n v w i j.0 a.clock x.0 (AgreeTo-sym n w v k.agree) clock (omega arith) j.1 j.2
    (omega arith) in
    both_ways _ a.unreplied
    (is_before-from (option_and_then (snoop_end_of w) (reply_number_of w i)) x.0 c
    (ap (option_and_then (snoop_end_of w)) back.0 ∙ back.1) l)))

-- the same requests wait
pub waits-same : (n : ℕ) (w v : Trace) (turns others : List ℕ) (c i : ℕ) → SameDeferrals n w v turns others → c ≤ n
    → waits w turns c i ≡ waits v others c i
waits-same n w v turns others c i k low =
    same-both (waits w turns c i) (waits v others c i) (waits-kept n w v turns others c i k low)
    (waits-kept n v w others turns c i (SameDeferrals-sym n w v turns others k) low)

pub waiting_at-same : (n : ℕ) (w v : Trace) (turns others : List ℕ) (c : ℕ) → SameDeferrals n w v turns others → c ≤ n
    → waiting_at w turns c ≡ waiting_at v others c
unfolding waiting_at
waiting_at-same n w v turns others c k low =
    let same : (i : ℕ) → waits w turns c i ≡ waits v others c i = λ i. waits-same n w v turns others c i k low in
    all_where-below (waits w turns c) (waits v others c) (live_count w) (λ i l. same i)
    ∙ all_where-bounds (waits v others c) (live_count w) (live_count v)
    (λ i e. waits-live w turns c i (same i ∙ e)) (λ i e. waits-live v others c i e)

number-kept : (n : ℕ) (w v : Trace) (i q : ℕ) → AgreeTo n w v → live_clock_of w i ≡ Some q → q + 3 < n
    → request_number_of w i ≡ request_number_of v i
unfolding request_number_of
number-kept n w v i q a e l =
    ap (option_map (count_where (line_at ADS w))) e
    ∙ ap Some (count_where-same (line_at ADS w) (line_at ADS v) q
    (record { same = λ c m. line_at-agree ADS n w v c a (omega arith) }))
    ∙ sym (ap (option_map (count_where (line_at ADS v))) (live_clock_of-stays n w v i q a l e))

line-kept : (n : ℕ) (w v : Trace) (i q : ℕ) → AgreeTo n w v → live_clock_of w i ≡ Some q → q + 3 < n
    → live_line_of w i ≡ live_line_of v i
unfolding live_line_of
line-kept n w v i q a e l =
    ap (option_and_then (line_of w)) e ∙ line_of-agree n w v q a (omega arith)
    ∙ sym (ap (option_and_then (line_of v)) (live_clock_of-stays n w v i q a l e))

before-same : (a b : Option ℕ) (c : ℕ) → ((m : ℕ) → a ≡ Some m → m < c → b ≡ Some m)
    → ((m : ℕ) → b ≡ Some m → m < c → a ≡ Some m)
    → cond (is_before a c) a None ≡ cond (is_before b c) b None
before-same a b c f g = grind (arith, is_before-parts)

pub response-kept : (n : ℕ) (w v : Trace) (c i : ℕ) → AgreeTo n w v → c ≤ n
    → response_before w c i ≡ response_before v c i
unfolding response_before
response-kept n w v c i a l =
    before-same (response_clock_of w i) (response_clock_of v i) c
    (λ m e less. response_clock_of-stays n w v i m a (omega arith) e)
    (λ m e less. response_clock_of-stays n v w i m (AgreeTo-sym n w v a) (omega arith) e)

-- the entry of a request that waits is its entry in the other trace, but for whether a reply is under way
pub entry-kept : (n : ℕ) (w v : Trace) (turns others : List ℕ) (c : ℕ) (e : Waiting) (i : ℕ) (begun : Bool)
    → SameDeferrals n w v turns others → c ≤ n → waits w turns c i ≡ true → IsEntryOf w turns c e i
    → begun ≡ is_answered v c i → IsEntryOf v others c (record e { begun = begun }) i
entry-kept n w v turns others c e i begun k low waiting h answered =
    let a = waits-parts w turns c i waiting in
    let below = a.below in
    let above = a.above in
    let agree = k.agree in
    record {
      deferral = record {
        number = sym (number-kept n w v i a.clock agree a.is_clock (omega arith)) ∙ h.deferral.number;
        request = sym (live_request_of-stays n w v i a.snoop agree (omega arith) a.is_snoop) ∙ h.deferral.request;
        shared = h.deferral.shared ∙ line_at_snoop_end-stays HIT n w v i a.snoop agree (omega arith) a.is_snoop;
      };
      line = h.line ∙ line-kept n w v i a.clock agree a.is_clock (omega arith);
      later = h.later ∙ ap later_of (k.same i a.snoop a.is_snoop (omega arith));
      answered = h.answered ∙ response-kept n w v c i agree low;
      begun = answered;
    }

-- so a list stands for the deferrals of both, where the same have a reply under way
pub stands-kept : (n : ℕ) (w v : Trace) (turns others : List ℕ) (c : ℕ) (list : List Waiting)
    → SameDeferrals n w v turns others → c ≤ n
    → ((i : ℕ) → waits w turns c i ≡ true → is_answered w c i ≡ is_answered v c i)
    → StandsFor list w turns c → StandsFor list v others c
unfolding waiting_at
stands-kept n w v turns others c list k low answered h =
    let live = waiting_at w turns c in
    let into = Matched-into (IsEntryOf w turns c) (IsEntryOf v others c) (waits w turns c) list live
    (all_where-pass (waits w turns c) (live_count w))
    (λ e i waiting entry.
    entry-kept n w v turns others c e i e.begun k low waiting entry (entry.begun ∙ answered i waiting))
    (IsEntryOf-StandsFor list w turns c h) in
    AreEntriesOf-IsEntryOf (waiting_at v others c) list v others c
    (subst (Matched (IsEntryOf v others c) list) (waiting_at-same n w v turns others c k low) into)
