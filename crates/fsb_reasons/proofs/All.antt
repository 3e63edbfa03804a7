-- A reason that holds names a broken rule, and each broken rule has a reason that holds.
use Rattle.std.proofs.Common.{ℕ, zero, suc, ◌+◌, ◌≡◌, Bool, true, false, List, [], ◌∷◌, Option, Some, None}
use Rattle.std.proofs.Common.{slice_get, drop, take, sym, ap, subst, arith, add-zero}
use Rattle.std.specs.Prelude.{⊤}
use Rattle.std.proofs.Math.Numerals.{one-add}
use Rattle.std.proofs.lemmas.Bool.{and_parts, both_ways}
use Rattle.std.proofs.lemmas.Option.{slice_get_past}
use Rattle.fsb_signal.specs.declared.marks.Marks.{Marks}
use Rattle.fsb_trace.specs.At.{Trace}
use Rattle.fsb_trace.specs.Rules.{phase_rules, breaks}
use Rattle.fsb_trace.specs.Verdict.{is_broken, verdict}
use Rattle.fsb_trace.proofs.Interface.{verdict-least}
use Rattle.fsb_reasons.specs.declared.reason.Reason.{Reason}
use Rattle.fsb_reasons.specs.declared.reason.Reason.TheVariants.{UnknownLines, AtStart, TooSoon, UnknownBits, Unlawful, QueueFull, Blocked, NotArbitrated, Locked, NoneAsks, NoId, ReplyByOther, IdOfOther, Dropped, Held, LockAlone, ErrorAlone, SnoopsOver, SnoopEarly, SnoopBetween, WriteBackSnooped, ReplySnooped, NothingToAnswer, ResponseEarly, CodeForNone, CodeUnsettled, CodeWrong, ReadyForNone, ReadyUnsettled, ReadyUnwanted, ReadyEarly, ReadyTwice, ResponseUnready, DataForNone, BusyMissing, BusyForNone, UnknownData, ReplyUnawaited, IdTaken, TooMany, AddressParity, RequestParity}
use Rattle.fsb_reasons.specs.RuleOf.{rule_of}
use Rattle.fsb_reasons.specs.Holds.{Holds, HasReason}
use Rattle.fsb_reasons.proofs.Begins.{at_start-sound, too_soon-sound, reason_2, unknown_bits-sound, unlawful-sound, reason_3}
use Rattle.fsb_reasons.proofs.Begins.{queue_full-sound, reason_4, blocked-sound, reason_5, not_arbitrated-sound, locked-sound}
use Rattle.fsb_reasons.proofs.Begins.{none_asks-sound, reason_6, no_id-sound, reply_by_other-sound, id_of_other-sound, reason_7}
use Rattle.fsb_reasons.proofs.Alone.{unknown_lines-sound, reason_1, dropped-sound, held-sound, reason_8, lock_alone-sound}
use Rattle.fsb_reasons.proofs.Alone.{reason_9, error_alone-sound, reason_10, snoops_over-sound, snoop_early-sound}
use Rattle.fsb_reasons.proofs.Alone.{snoop_between-sound, reason_11, write_back-sound, reply-sound, reason_12}
use Rattle.fsb_reasons.proofs.Alone.{unknown_data-sound, reason_17, address_parity-sound, reason_19, request_parity-sound, reason_20}
use Rattle.fsb_reasons.proofs.Answered.{nothing_to_answer-sound, response_early-sound, reason_13, code_for_none-sound}
use Rattle.fsb_reasons.proofs.Answered.{code_unsettled-sound, ready_unsettled-sound}
use Rattle.fsb_reasons.proofs.Answered.{code_wrong-sound, reason_14, ready_for_none-sound, ready_unwanted-sound}
use Rattle.fsb_reasons.proofs.Answered.{ready_early-sound, ready_twice-sound, response_unready-sound, reason_15}
use Rattle.fsb_reasons.proofs.Moved.{data_for_none-sound, busy_missing-sound, busy_for_none-sound, reason_16}
use Rattle.fsb_reasons.proofs.Moved.{reply_unawaited-sound, id_taken-sound, too_many-sound, reason_18}

-- a reason that holds names a broken rule
pub sound : (m : Marks) (v : Trace) (c : ℕ) (reason : Reason) → Holds m v c reason
    → breaks m v c (rule_of reason) ≡ true
unfolding rule_of breaks phase_rules
sound m v c (UnknownLines lines) h = unknown_lines-sound m v c lines h
sound m v c AtStart h = at_start-sound m v c h
sound m v c (TooSoon before earliest) h = too_soon-sound m v c before earliest h
sound m v c (UnknownBits clock) h = unknown_bits-sound m v c clock h
sound m v c (Unlawful fault) h = unlawful-sound m v c fault h
sound m v c (QueueFull n oldest) h = queue_full-sound m v c n oldest h
sound m v c (Blocked clock) h = blocked-sound m v c clock h
sound m v c NotArbitrated h = not_arbitrated-sound m v c h
sound m v c (Locked holder) h = locked-sound m v c holder h
sound m v c (NoneAsks clock) h = none_asks-sound m v c clock h
sound m v c NoId h = no_id-sound m v c h
sound m v c (ReplyByOther winner) h = reply_by_other-sound m v c winner h
sound m v c (IdOfOther did winner) h = id_of_other-sound m v c did winner h
sound m v c (Dropped who) h = dropped-sound m v c who h
sound m v c (Held who) h = held-sound m v c who h
sound m v c LockAlone h = lock_alone-sound m v c h
sound m v c (ErrorAlone last) h = error_alone-sound m v c last h
sound m v c (SnoopsOver lines) h = snoops_over-sound m v c lines h
sound m v c (SnoopEarly lines request start) h = snoop_early-sound m v c lines request start h
sound m v c (SnoopBetween lines request start) h = snoop_between-sound m v c lines request start h
sound m v c (WriteBackSnooped lines request) h = write_back-sound m v c lines request h
sound m v c (ReplySnooped lines request) h = reply-sound m v c lines request h
sound m v c (NothingToAnswer number) h = nothing_to_answer-sound m v c number h
sound m v c (ResponseEarly request w earliest) h = response_early-sound m v c request w earliest h
sound m v c (CodeForNone number code) h = code_for_none-sound m v c number code h
sound m v c (CodeUnsettled request found expected) h = code_unsettled-sound m v c request found expected h
sound m v c (CodeWrong request snoop_end found expected may_defer) h =
    code_wrong-sound m v c request snoop_end found expected may_defer h
sound m v c (ReadyForNone number) h = ready_for_none-sound m v c number h
sound m v c (ReadyUnsettled request) h = ready_unsettled-sound m v c request h
sound m v c (ReadyUnwanted request snoop_end) h = ready_unwanted-sound m v c request snoop_end h
sound m v c (ReadyEarly request w earliest) h = ready_early-sound m v c request w earliest h
sound m v c (ReadyTwice request ready) h = ready_twice-sound m v c request ready h
sound m v c (ResponseUnready request ready earliest) h = response_unready-sound m v c request ready earliest h
sound m v c (DataForNone last) h = data_for_none-sound m v c last h
sound m v c (BusyMissing request response chunks) h = busy_missing-sound m v c request response chunks h
sound m v c (BusyForNone last) h = busy_for_none-sound m v c last h
sound m v c (UnknownData bits) h = unknown_data-sound m v c bits h
sound m v c (ReplyUnawaited did) h = reply_unawaited-sound m v c did h
sound m v c (IdTaken did by) h = id_taken-sound m v c did by h
sound m v c (TooMany who n) h = too_many-sound m v c who n h
sound m v c (AddressParity low high) h = address_parity-sound m v c low high h
sound m v c RequestParity h = request_parity-sound m v c h

-- each of these rules has its reasons; the first of them has number k
abbrev Explained : Marks → Trace → ℕ → ℕ → List (Trace → ℕ → Bool) → Type 0
Explained m v c k [] = ⊤
Explained m v c k (rule ∷ rules) = (rule v c ≡ true → HasReason m v c k) × Explained m v c (suc k) rules

explained : (m : Marks) (v : Trace) (c : ℕ) → Explained m v c 1 (phase_rules m)
unfolding phase_rules
explained m v c =
    let from_17 : Explained m v c 17 (drop 16 (phase_rules m)) =
    (reason_17 m v c, (reason_18 m v c, (reason_19 m v c, (reason_20 m v c, tt)))) in
    let from_13 : Explained m v c 13 (drop 12 (phase_rules m)) =
    (reason_13 m v c, (reason_14 m v c, (reason_15 m v c, (reason_16 m v c, from_17)))) in
    let from_9 : Explained m v c 9 (drop 8 (phase_rules m)) =
    (reason_9 m v c, (reason_10 m v c, (reason_11 m v c, (reason_12 m v c, from_13)))) in
    let from_5 : Explained m v c 5 (drop 4 (phase_rules m)) =
    (reason_5 m v c, (reason_6 m v c, (reason_7 m v c, (reason_8 m v c, from_9)))) in
    (reason_1 m v c, (reason_2 m v c, (reason_3 m v c, (reason_4 m v c, from_5))))

-- the rule, if there is one, is broken
breaks_of : Option (Trace → ℕ → Bool) → Trace → ℕ → Bool
breaks_of o v c = elim o [ Some rule ↦ rule v c | None ↦ false ]

-- the rule at this place of the list is broken
breaks_in : List (Trace → ℕ → Bool) → Trace → ℕ → ℕ → Bool
breaks_in rules v c i = breaks_of (slice_get rules i) v c

explained-at : (m : Marks) (v : Trace) (c k : ℕ) (rules : List (Trace → ℕ → Bool)) (i : ℕ)
    → Explained m v c k rules → breaks_in rules v c i ≡ true → HasReason m v c (k + i)
unfolding breaks_in breaks_of
explained-at m v c k [] i h t =
    let empty : List (Trace → ℕ → Bool) = [] in
    let none : slice_get empty i ≡ None = slice_get_past empty i (omega arith) in
    absurd (both_ways _ (ap (λ o. breaks_of o v c) none) t)
explained-at m v c k (rule ∷ rules) zero h t = subst (λ j. HasReason m v c j) (sym (add-zero k)) (h.0 t)
explained-at m v c k (rule ∷ rules) (suc i) h t =
    let e : suc k + i ≡ k + suc i = omega arith in
    subst (λ j. HasReason m v c j) e (explained-at m v c (suc k) rules i h.1 t)

-- a broken rule has a reason that holds
pub complete : (m : Marks) (v : Trace) (c j : ℕ) → breaks m v c j ≡ true → HasReason m v c j
unfolding breaks breaks_in breaks_of
complete m v c zero t = absurd (let no : ⊥ = cc in no)
complete m v c (suc j) t =
    subst (λ i. HasReason m v c i) (one-add j) (explained-at m v c 1 (phase_rules m) j (explained m v c) t)

-- so has a verdict
pub verdict-reason : (m : Marks) (w : Trace) (c j : ℕ) → verdict m w ≡ Some (c, j)
    → HasReason m (take (c + 1) w) c j
unfolding is_broken
verdict-reason m w c j e =
    complete m (take (c + 1) w) c j (and_parts _ _ (verdict-least m w c j e).1).1
