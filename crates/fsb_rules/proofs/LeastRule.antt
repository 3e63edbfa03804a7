-- The least broken rule, one rule after another, and what a sample says that breaks none.
use Rattle.std.proofs.Common.{ℕ, suc, ◌+◌, ◌-◌, ◌<◌, ◌≤◌, ◌≡◌, Bool, true, false, cond, not, ◌&&◌, ◌||◌, Option, Some}
use Rattle.std.proofs.Common.{None, List, [], ◌∷◌, ◌++◌, length, slice_get, refl, sym, ◌∙◌, arith, inl, inr}
use Rattle.std.proofs.Common.{subst, nat_eq, add-zero}
use Rattle.std.proofs.Math.Bool.{and-false}
use Rattle.std.proofs.Math.Numerals.{one-add}
use Rattle.std.proofs.lemmas.Bool.{cases_lt, or_parts, lt-ltb, cases_Bool, and_parts, both_ways}
use Rattle.std.proofs.lemmas.Bool.{not-true, eqb-true, and_left}
use Rattle.std.proofs.lemmas.List.{take_all}
use Rattle.std.specs.Option.{option_and_then}
use Rattle.std.proofs.lemmas.Option.{cond_some}
use Rattle.fsb_count.specs.Options.{is_some_and}
use Rattle.fsb_count.specs.Clocks.{first_where}
use Rattle.fsb_count.proofs.Interface.{first_where-at, first_where-none, first_where-off}
use Rattle.fsb_signal.specs.declared.lines.TheConstants.Lines.{HITM}
use Rattle.fsb_signal.specs.declared.marks.Marks.{Marks}
use Rattle.fsb_signal.specs.declared.sample.Sample.{Sample}
use Rattle.fsb_encode.specs.declared.request.Request.{Request}
use Rattle.fsb_encode.specs.declared.request.Pair.{Pair}
use Rattle.fsb_encode.specs.declared.request.Kind.{Kind}
use Rattle.fsb_encode.specs.declared.request.Kind.TheVariants.{Reply, Invalidate, Read, WriteBack, Upgrade}
use Rattle.fsb_encode.specs.Request.{is_lawful_request, are_lawful_fields}
use Rattle.fsb_encode.specs.Decoded.{kind_of, read_off, is_coded_as, if_coded_as, request_of}
use Rattle.fsb_trace.specs.At.{Trace, request_at, known_pair_at}
use Rattle.fsb_trace.specs.Rules.{phase_rules, breaks, is_request_too_soon, is_code_unlawful}
use Rattle.fsb_trace.specs.Rules.{is_identity_wrong}
use Rattle.fsb_trace.specs.Rules.{is_response_early, is_outstanding_wrong, is_begun_wrongly, is_error_alone}
use Rattle.fsb_trace.specs.Rules.{is_code_for, has_den, is_snoop_line_alone, is_snoop_result_unfit, is_code_wrong}
use Rattle.fsb_trace.specs.Rules.{is_target_ready_wrong, is_data_wrong, has_unknown_line, is_queue_full}
use Rattle.fsb_trace.specs.Rules.{is_request_blocked, has_no_winner, is_some_asked_wrongly, is_lock_alone}
use Rattle.fsb_trace.specs.Rules.{has_unknown_data, has_parity_at, is_address_parity_wrong, is_request_parity_wrong}
use Rattle.fsb_trace.specs.Rules.{is_marked_address_wrong, is_marked_request_wrong}
use Rattle.fsb_trace.specs.Verdict.{is_broken, least_rule}
use Rattle.fsb_trace.proofs.Interface.{breaks-none, breaks-2, breaks-3, breaks-4, breaks-7, breaks-10, breaks-13}
use Rattle.fsb_trace.specs.declared.outcome.Outcome.TheVariants.{Granted, Handed, Retried, Deferred, Written, Replied}
use Rattle.fsb_trace.specs.declared.outcome.Outcome.TheVariants.{Failed, Upgraded}
use Rattle.fsb_trace.specs.Requests.{live_clock_of, live_request_of, is_reply, is_reply_kind}
use Rattle.fsb_trace.specs.Snoop.{line_at_snoop_end}
use Rattle.fsb_trace.specs.Outcome.{told_by, is_deferral, response_code_of, outcome_by_kind}
use Rattle.fsb_laws.proofs.Interface.{one_more}
use Rattle.fsb_rules.specs.declared.checker.Checker.{Checker}
use Rattle.fsb_rules.specs.declared.live.LiveRequest.{LiveRequest}
use Rattle.fsb_rules.specs.LeastRule.{begins_well, least_among, least_past}
use Rattle.fsb_rules.specs.Checker.{Comes, WasBegun}
use Rattle.fsb_rules.proofs.StartRules.{begun_parts, decoded_goes, identified_goes}
use Rattle.fsb_rules.proofs.StartRules.{none_back}
use Rattle.fsb_rules.proofs.QueueRules.{orderly_after}
use Rattle.fsb_rules.specs.InFlight.{Brings, InTime, IsAt}

-- At the last clock of a trace the rules are judged over the whole of it, one after the other.
broken_here : (marks : Marks) (v : Trace) (n j : ℕ) → length v ≡ n + 1 → is_broken marks v n j ≡ breaks marks v n j
unfolding is_broken
broken_here marks v n j size = rw (lt-ltb n (length v) (omega arith), take_all (n + 1) v (omega arith)) refl

-- the rule at this place of a list is broken
breaks_at : List (Trace → ℕ → Bool) → Trace → ℕ → ℕ → Bool
breaks_at rules v n i = elim (slice_get rules i) [ Some rule ↦ rule v n | None ↦ false ]

-- where a test says at each clock from k on what these rules say, its first clock is the least one of them
least_is : (rules : List (Trace → ℕ → Bool)) (v : Trace) (n k size : ℕ) (p : ℕ → Bool)
    → ((i : ℕ) → i < k → p i ≡ false) → ((i : ℕ) → p (k + i) ≡ breaks_at rules v n i) → k + length rules ≤ size
    → first_where p size ≡ least_among rules v n k
unfolding least_among breaks_at
least_is [] v n k size p below here l =
    first_where-off p size (λ i m.
    elim (cases_lt i k) [
      | inl less ↦ below i less
      | inr least ↦
          let e : k + (i - k) ≡ i = omega arith in
          subst (λ c. p c ≡ false) e (here (i - k))
    ])
least_is (rule ∷ rules) v n k size p below here l =
    let zeroth : p k ≡ rule v n = subst (λ c. p c ≡ rule v n) (add-zero k) (here 0) in
    elim (cases_Bool (rule v n)) [
      | inl t ↦ rw t (first_where-at p size k (omega arith) (zeroth ∙ t) below)
      | inr f ↦
          rw f (least_is rules v n (suc k) size p
          (λ i m. elim (cases_lt i k) [
            | inl less ↦ below i less
            | inr least ↦
                let e : k ≡ i = omega arith in
                subst (λ c. p c ≡ false) e (zeroth ∙ f)
          ])
          (λ i. let e : k + suc i ≡ suc k + i = omega arith in
          subst (λ c. p c ≡ breaks_at rules v n i) e (here (suc i)))
          (omega arith))
    ]

least_rule-past : (m : Marks) (v : Trace) (n : ℕ) → length v ≡ n + 1 → least_rule m v n ≡ least_past 0 m v n
unfolding least_rule least_past breaks breaks_at phase_rules
least_rule-past m v n size =
    least_is (phase_rules m) v n 1 21 (is_broken m v n)
    (λ i l. let e : 0 ≡ i = omega arith in
    subst (λ c. is_broken m v n c ≡ false) e (broken_here m v n 0 size ∙ breaks-none m v n))
    (λ i. subst (λ c. is_broken m v n c ≡ breaks_at (phase_rules m) v n i) (sym (one-add i))
    (broken_here m v n (suc i) size))
    (omega arith)

-- the rules in their order; the last two are kept at a clock without parity
module _ (m : Marks) (v : Trace) (n : ℕ) where
  pub parity_rules : least_past 18 m v n
      ≡ cond (has_parity_at v n)
      (cond (is_marked_address_wrong m v n) (Some 19) (cond (is_marked_request_wrong m v n) (Some 20) None)) None
  unfolding least_past least_among phase_rules is_marked_address_wrong is_marked_request_wrong
      is_address_parity_wrong is_request_parity_wrong
  parity_rules =
      elim (cases_Bool (has_parity_at v n)) [
        | inl t ↦ rw t refl
        | inr f ↦ rw (f, and-false m.ap, and-false m.rp) refl
      ]

  pub moved_rules : least_past 13 m v n
      ≡ cond (is_code_wrong v n) (Some 14) (cond (is_target_ready_wrong v n) (Some 15)
      (cond (is_data_wrong v n) (Some 16) (cond (has_unknown_data v n) (Some 17)
      (cond (is_outstanding_wrong v n) (Some 18) (least_past 18 m v n)))))
  unfolding least_past least_among phase_rules
  moved_rules = refl

  pub busy_rules : least_past 10 m v n
      ≡ cond (is_snoop_line_alone v n) (Some 11) (cond (is_snoop_result_unfit v n) (Some 12)
      (cond (is_response_early v n) (Some 13) (least_past 13 m v n)))
  unfolding least_past least_among phase_rules
  busy_rules = refl

pub first_rules : (m : Marks) (h : Trace) (x : Sample) → let v : Trace = h ++ x ∷ [] in let n : ℕ = length h in
    least_rule m v n ≡ cond (has_unknown_line v n) (Some 1) (cond (is_request_too_soon v n) (Some 2)
    (cond (is_code_unlawful v n) (Some 3) (cond (is_queue_full v n) (Some 4)
    (cond (is_request_blocked v n) (Some 5) (cond (has_no_winner v n) (Some 6)
    (cond (is_identity_wrong v n) (Some 7) (cond (is_some_asked_wrongly v n) (Some 8)
    (cond (is_lock_alone v n) (Some 9) (cond (is_error_alone v n) (Some 10) (least_past 10 m v n))))))))))
unfolding least_past least_among phase_rules
first_rules m h x = least_rule-past m (h ++ x ∷ []) (length h) (one_more h x).size

begins_parts : (v : Trace) (n : ℕ) → begins_well v n ≡ true
    → (is_request_too_soon v n ≡ false) × (is_code_unlawful v n ≡ false) × (is_identity_wrong v n ≡ false)
unfolding begins_well
begins_parts v n t =
    let p = or_parts _ _ (not-true _ t) in
    let q = or_parts _ _ p.0 in
    (q.0, q.1, p.1)

-- the queue stands for the history before a sample that comes
pub at_now : {k : Checker} {n : ℕ} {x : Sample} {b : Option LiveRequest} {h : Trace} → Comes k n x b h
    → IsAt k.queue n h
at_now c = record { stands = c.follows.queue; orderly = c.follows.orderly; clock = c.clock }

pub in_time : {k : Checker} {n : ℕ} {x : Sample} {b : Option LiveRequest} {h : Trace} → Comes k n x b h
    → begins_well (h ++ x ∷ []) (length h) ≡ true → is_response_early (h ++ x ∷ []) (length h) ≡ false
    → InTime k.queue n x h
in_time {x = x} {h = h} c t early = record {
  here = at_now c;
  apart = (begins_parts (h ++ x ∷ []) (length h) t).0;
  timely = early;
}

-- 18 deferred IDs and outstanding requests
module _ {k : Checker} {n : ℕ} {x : Sample} {b : Option LiveRequest} {h : Trace} (c : Comes k n x b h)
    (t : begins_well (h ++ x ∷ []) (length h) ≡ true) where
  pub was_begun : (a : LiveRequest) → is_response_early (h ++ x ∷ []) (length h) ≡ false → b ≡ Some a
      → WasBegun k.outstanding h x a
  was_begun a early e =
      let m = one_more h x in
      let p = begins_parts (h ++ x ∷ []) (length h) t in
      record {
        stands = c.follows.outstanding;
        begun = sym c.begun ∙ e;
        before = c.follows.orderly;
        after = orderly_after (in_time c t early);
        decoded = decoded_goes m c.follows.decoded p.1;
        identified = identified_goes m c.follows.identified p.2;
        deferrable = c.follows.deferrable;
      }

  pub begun_form : (a : LiveRequest) → b ≡ Some a
      → is_outstanding_wrong (h ++ x ∷ []) (length h) ≡ is_begun_wrongly (h ++ x ∷ []) (length h - 1)
  unfolding is_outstanding_wrong
  begun_form a e = rw (begun_parts (h ++ x ∷ []) (length h) a (sym c.begun ∙ e)).1 refl

  pub none_wrong : b ≡ None → is_outstanding_wrong (h ++ x ∷ []) (length h) ≡ false
  unfolding is_outstanding_wrong
  none_wrong e =
      and_left _ _ (none_back (h ++ x ∷ []) (length h) (begins_parts (h ++ x ∷ []) (length h) t).1 (sym c.begun ∙ e))

-- What a sample that breaks no rule says.

-- no rule is broken at the last clock
pub record IsUnbroken (marks : Marks) (v : Trace) (n : ℕ) : Type 0 where
  pub sound : (j : ℕ) → j < 21 → breaks marks v n j ≡ false

pub unbroken : (marks : Marks) (v : Trace) (n : ℕ) → length v ≡ n + 1 → least_rule marks v n ≡ None
    → IsUnbroken marks v n
unfolding least_rule
unbroken marks v n size e = record {
  sound = λ j l. sym (broken_here marks v n j size) ∙ first_where-none (is_broken marks v n) 21 e j l;
}

pub own_unbroken : (marks : Marks) (v : Trace) (n : ℕ) → IsUnbroken marks v n → is_identity_wrong v n ≡ false
own_unbroken marks v n u = sym (breaks-7 marks v n) ∙ u.sound 7 (omega arith)

module _ {marks : Marks} {k : Checker} {n : ℕ} {x : Sample} {b : Option LiveRequest} {h : Trace} (c : Comes k n x b h)
    (u : IsUnbroken marks (h ++ x ∷ []) (length h)) where
  pub unbroken_in_time : InTime k.queue n x h
  unbroken_in_time = record {
    here = at_now c;
    apart = sym (breaks-2 marks (h ++ x ∷ []) (length h)) ∙ u.sound 2 (omega arith);
    timely = sym (breaks-13 marks (h ++ x ∷ []) (length h)) ∙ u.sound 13 (omega arith);
  }

  pub brings : Brings k.queue n x b h
  brings = record {
    in_time = unbroken_in_time;
    begun_is = c.begun;
    lawful = sym (breaks-3 marks (h ++ x ∷ []) (length h)) ∙ u.sound 3 (omega arith);
    room = sym (breaks-4 marks (h ++ x ∷ []) (length h)) ∙ u.sound 4 (omega arith);
    error = sym (breaks-10 marks (h ++ x ∷ []) (length h)) ∙ u.sound 10 (omega arith);
  }

-- a request with DEN# is no reply
lawful_kind : (kind : Kind) (line chunk : ℕ) (den : Bool) → are_lawful_fields kind line chunk den ≡ true
    → den ≡ true → is_reply_kind kind ≡ false
unfolding are_lawful_fields is_reply_kind
lawful_kind Reply line chunk den t d = absurd (let p = and_parts _ _ t in let q : not den ≡ true = p.1 in
    both_ways den (not-true den q) d)
lawful_kind Invalidate line chunk den t d = refl
lawful_kind Read line chunk den t d = refl
lawful_kind WriteBack line chunk den t d = refl
lawful_kind Upgrade line chunk den t d = refl

lawful_den : (r : Request) → is_lawful_request r ≡ true → r.den ≡ true → is_reply_kind r.kind ≡ false
unfolding is_lawful_request
lawful_den r t d = lawful_kind r.kind r.line r.chunk r.den (and_parts _ _ t).0 d

coded : (r s : Request) (a b : Pair) → if_coded_as r a b ≡ Some s → is_lawful_request s ≡ true
unfolding if_coded_as is_coded_as
coded r s a b e =
    let p = cond_some _ r s e in
    subst (λ t. is_lawful_request t ≡ true) p.1 (and_parts _ _ (and_parts _ _ p.0).0).0

by_kind : (o : Option Kind) (a b : Pair) (s : Request)
    → option_and_then (λ kind. if_coded_as (read_off kind a b) a b) o ≡ Some s → is_lawful_request s ≡ true
by_kind None a b s e = absurd (let no : ⊥ = cc in no)
by_kind (Some kind) a b s e = coded (read_off kind a b) s a b e

of_pairs : (a b : Pair) (s : Request) → request_of a b ≡ Some s → is_lawful_request s ≡ true
unfolding request_of
of_pairs a b s e = by_kind (kind_of a.req b.req) a b s e

of_clocks : (a b : Option Pair) (s : Request)
    → option_and_then (λ p. option_and_then {U = Request} (λ q. request_of p q) b) a ≡ Some s
    → is_lawful_request s ≡ true
of_clocks None b s e = absurd (let no : ⊥ = cc in no)
of_clocks (Some p) None s e = absurd (let no : ⊥ = cc in no)
of_clocks (Some p) (Some q) s e = of_pairs p q s e

pub decoded_lawful : (w : Trace) (q : ℕ) (s : Request) → request_at w q ≡ Some s → is_lawful_request s ≡ true
unfolding request_at
decoded_lawful w q s e = of_clocks (known_pair_at w q) (known_pair_at w (q + 1)) s e

den_cases : (w : Trace) (i : ℕ) (q : Option ℕ) (o : Option Request) → live_clock_of w i ≡ q
    → live_request_of w i ≡ o → has_den o ≡ true → is_reply o ≡ false
unfolding has_den is_reply is_some_and live_request_of
den_cases w i q None e f t = refl
den_cases w i None (Some r) e f t = absurd (let g : None ≡ Some r = rw e at f in let no : ⊥ = cc in no)
den_cases w i (Some c) (Some r) e f t =
    let g : request_at w c ≡ Some r = rw e at f in lawful_den r (decoded_lawful w c r g) t

pub den_no_reply : (w : Trace) (i : ℕ) → has_den (live_request_of w i) ≡ true → is_reply (live_request_of w i) ≡ false
den_no_reply w i t = den_cases w i (live_clock_of w i) (live_request_of w i) refl refl t

-- a response that defers is the code of a request with DEN#
kind_cases : (k : Kind)
    → is_deferral (elim k [
      | WriteBack ↦ Written
      | Upgrade ↦ Upgraded
      | Reply ↦ Replied
      | Read ↦ Granted
      | Invalidate ↦ Granted
    ]) ≡ false
unfolding is_deferral
kind_cases Reply = refl
kind_cases Invalidate = refl
kind_cases Read = refl
kind_cases WriteBack = refl
kind_cases Upgrade = refl

kind_not : (o : Option Request) → is_deferral (outcome_by_kind o) ≡ false
unfolding is_deferral outcome_by_kind
kind_not None = refl
kind_not (Some r) = kind_cases r.kind

told_cases : (failed hitm retried deferred : Bool) (o : Option Request)
    → is_deferral
    (cond failed Failed (cond hitm Handed (cond retried Retried (cond deferred Deferred (outcome_by_kind o)))))
    ≡ true → (failed ≡ false) × (hitm ≡ false) × (retried ≡ false) × (deferred ≡ true)
unfolding is_deferral
told_cases true hitm retried deferred o t = absurd (let no : ⊥ = cc in no)
told_cases false true retried deferred o t = absurd (let no : ⊥ = cc in no)
told_cases false false true deferred o t = absurd (let no : ⊥ = cc in no)
told_cases false false false true o t = (refl, refl, refl, refl)
told_cases false false false false o t = absurd (both_ways _ (kind_not o) t)

pub told_deferral : (w : Trace) (i code : ℕ) → is_deferral (told_by w i code) ≡ true
    → (line_at_snoop_end HITM w i ≡ false) × (code ≡ 2)
unfolding told_by response_code_of
told_deferral w i code t =
    let p = told_cases _ _ _ _ (live_request_of w i) t in (p.1, eqb-true code 2 p.3)

code_cases : (back defer den upgrade : Bool)
    → cond back (nat_eq 2 5) (cond defer (nat_eq 2 1 || den && nat_eq 2 2)
    (cond upgrade (nat_eq 2 5) (nat_eq 2 7))) ≡ true → den ≡ true
code_cases true defer den upgrade t = absurd (let no : ⊥ = cc in no)
code_cases false true den upgrade t = (and_parts den true t).0
code_cases false false den true t = absurd (let no : ⊥ = cc in no)
code_cases false false den false t = absurd (let no : ⊥ = cc in no)

code_den : (w : Trace) (i : ℕ) → line_at_snoop_end HITM w i ≡ false → is_code_for w i 2 ≡ true
    → has_den (live_request_of w i) ≡ true
unfolding is_code_for response_code_of
code_den w i f t = code_cases _ _ _ _ (let g = rw f at t in g)

pub deferral_no_reply : (w : Trace) (i code : ℕ) → is_deferral (told_by w i code) ≡ true
    → is_code_for w i code ≡ true → is_reply (live_request_of w i) ≡ false
deferral_no_reply w i code t c =
    let p = told_deferral w i code t in
    den_no_reply w i (code_den w i p.0 (subst (λ n. is_code_for w i n ≡ true) p.1 c))
