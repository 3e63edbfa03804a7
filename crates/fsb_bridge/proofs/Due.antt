-- The first deferral of a list whose reply is due.
use Rattle.std.proofs.Common.{ℕ, ◌≡◌, ◌≤◌, ◌+◌, Bool, true, false, cond, ◌&&◌, not, nat_le, nat_lt, List, Option, Some}
use Rattle.std.proofs.Common.{None, slice_index, refl, inl, inr, arith}
use Rattle.std.specs.Option.{option_and_then}
use Rattle.std.proofs.lemmas.Bool.{cases_Bool, leb-true, lt-leb, ltb-false}
use Rattle.fsb_count.specs.Options.{is_some_and, is_before}
use Rattle.fsb_count.proofs.Interface.{first_where-same, is_before-from}
use Rattle.fsb_trace.specs.At.{Trace}
use Rattle.fsb_trace.specs.Requests.{live_count}
use Rattle.fsb_trace.specs.Snoop.{snoop_end_of}
use Rattle.fsb_trace.specs.Flight.{reply_number_of}
use Rattle.fsb_trace.specs.Outcome.{is_settled_deferred, response_clock_of}
use Rattle.fsb_trace.specs.Deferral.{due_at, is_answered, is_due, later_of}
use Rattle.fsb_bridge.specs.declared.deferral.Waiting.{Waiting}
use Rattle.fsb_bridge.specs.Deferrals.{due_deferral, is_due_reply}
use Rattle.fsb_bridge.specs.DeferralList.{IsThatOf, RespondsInOrder, StandsFor, response_before, waits}
use Rattle.fsb_bridge.proofs.Entries.{IsEntryOf, find-StandsFor}
use Rattle.fsb_bridge.proofs.Waits.{is_answered-ended, is_settled_deferred-ended, is_some_and-parts}

-- the response of live request i came, its wait is over, and no reply is under way
abbrev is_over : Trace → List ℕ → ℕ → ℕ → Bool
is_over w turns c i = is_some_and (response_clock_of w i) (λ r. nat_le (r + 1 + later_of (slice_index turns i)) c)

late : (r later c : ℕ) → c ≤ r → nat_le (r + 1 + later) c ≡ false
late r later c l = lt-leb (r + 1 + later) c (omega arith)

answered_by : (o : Option ℕ) (later c : ℕ) (b : Bool)
    → elim (cond (is_before o c) o None) [ None ↦ false | Some r ↦ nat_le (r + 1 + later) c && b ]
    ≡ (is_some_and o (λ r. nat_le (r + 1 + later) c) && b)
unfolding is_before is_some_and
answered_by None later c b = refl
answered_by (Some r) later c b =
    elim (cases_Bool (nat_lt r c)) [ inl t ↦ rw t refl | inr f ↦ rw (f, late r later c (ltb-false r c f)) refl ]

is_due_reply-IsEntryOf : (w : Trace) (turns : List ℕ) (c : ℕ) (e : Waiting) (i : ℕ) → IsEntryOf w turns c e i
    → is_due_reply c e ≡ (is_over w turns c i && not (is_answered w c i))
unfolding response_before
is_due_reply-IsEntryOf w turns c e i h =
    rw (h.answered, h.later, h.begun)
    (answered_by (response_clock_of w i) (later_of (slice_index turns i)) c (not (is_answered w c i)))

agree : (a b d e f : Bool) → (a ≡ true → b ≡ true → d ≡ true → (e ≡ true) × (f ≡ true))
    → ((b && d) && (a && e && f)) ≡ (a && b && d)
agree false false d e f h = refl
agree false true false e f h = refl
agree false true true e f h = refl
agree true false d e f h = refl
agree true true false e f h = refl
agree true true true e f h = let k = h refl refl refl in rw (k.0, k.1) refl

ended : (w : Trace) (turns : List ℕ) (c i : ℕ) → RespondsInOrder w c → is_settled_deferred w turns i ≡ true
    → is_over w turns c i ≡ true → is_before (snoop_end_of w i) c ≡ true
ended w turns c i o a b =
    let end = is_settled_deferred-ended w turns i a in
    let s : ℕ = end.0 in
    let response = is_some_and-parts (response_clock_of w i) _ b in
    let r : ℕ = response.0 in
    let wait : r + 1 + later_of (slice_index turns i) ≤ c = leb-true _ c response.2 in
    let order : s ≤ r = o.after i s r end.1 response.1 (omega arith) in
    is_before-from (snoop_end_of w i) s c end.1 (omega arith)

unanswered : (w : Trace) (c i : ℕ) → not (is_answered w c i) ≡ true
    → not (is_before (option_and_then (snoop_end_of w) (reply_number_of w i)) c) ≡ true
unanswered w c i d =
    elim (cases_Bool (is_before (option_and_then (snoop_end_of w) (reply_number_of w i)) c)) [
      | inl t ↦ absurd (let u = is_answered-ended w c i t in let no : ⊥ = cc in no)
      | inr f ↦ rw f refl
    ]

due_waits : (w : Trace) (turns : List ℕ) (c i : ℕ) → RespondsInOrder w c
    → ((is_over w turns c i && not (is_answered w c i)) && waits w turns c i) ≡ is_due w turns c i
unfolding is_due waits
due_waits w turns c i o =
    agree (is_settled_deferred w turns i) (is_over w turns c i) (not (is_answered w c i))
    (is_before (snoop_end_of w i) c)
    (not (is_before (option_and_then (snoop_end_of w) (reply_number_of w i)) c))
    (λ a b d. (ended w turns c i o a b, unanswered w c i d))

pub due_deferral-StandsFor : (list : List Waiting) (w : Trace) (turns : List ℕ) (c : ℕ) → RespondsInOrder w c
    → StandsFor list w turns c → IsThatOf w (due_deferral c list) (due_at w turns c)
unfolding due_at
due_deferral-StandsFor list w turns c o h =
    find-StandsFor list w turns c (is_due_reply c) (λ i. is_over w turns c i && not (is_answered w c i))
    (due_at w turns c) h
    (is_due_reply-IsEntryOf w turns c)
    (first_where-same _ (is_due w turns c) (live_count w) (record { same = λ i l. due_waits w turns c i o }))
