-- A pair whose second response lies in the past gave its line again there.
use Rattle.std.proofs.Common.{ℕ, ◌+◌, ◌-◌, ◌<◌, ◌≤◌, ◌≡◌, true, false, length, List, Option, Some, None}
use Rattle.std.proofs.Common.{refl, sym, ap, ◌∙◌, arith, inl, inr}
use Rattle.std.specs.Option.{option_and_then, option_map}
use Rattle.std.proofs.lemmas.Bool.{both_ways, cases_eq, cases_lt, false_from_ne_true, lt-ltb}
use Rattle.fsb_count.specs.Options.{is_before}
use Rattle.fsb_count.proofs.Interface.{is_before-from, is_before-parts, nth_where-rises}
use Rattle.fsb_signal.specs.declared.lines.TheConstants.Lines.{DEFER, HITM}
use Rattle.fsb_trace.specs.At.{Trace, responds_at}
use Rattle.fsb_trace.specs.Flight.{reply_clock_of, reply_number_of}
use Rattle.fsb_trace.specs.Outcome.{is_deferred, response_clock_of}
use Rattle.fsb_trace.specs.Requests.{live_clock_of, live_number_of}
use Rattle.fsb_trace.specs.Snoop.{snoop_end_of}
use Rattle.fsb_trace.proofs.Interface.{is_deferred-stays, line_at_snoop_end-stays, live_clock_of-number, live_clock_of-stays}
use Rattle.fsb_trace.proofs.Interface.{snoop_end_of-clock, snoop_end_of-rises, snoop_end_of-stays}
use Rattle.fsb_laws.proofs.Interface.{live_of_reply, response_counted, response_there}
use Rattle.fsb_owners.specs.Joint.{Joint}
use Rattle.fsb_owners.specs.Rules.{is_answered_below, is_ownership_broken, is_served_or_deferred, ownership_verdict}
use Rattle.fsb_owners.specs.Shown.{is_spoiled}
use Rattle.fsb_owners.proofs.LeastLaws.{least_broken-none}
use Rattle.fsb_owner_laws.proofs.AgreeWords.{Alike, agent_at-agree, answered_stays, live_number-agree, names-agree}
use Rattle.fsb_owner_laws.proofs.AgreeWords.{purpose_at-agree, some_same, turned_round}
use Rattle.fsb_owner_judge.proofs.LeastRule.{rule_31, whole}
use Rattle.fsb_owner_again.proofs.Given.{IsGiven, given_from}

-- responses come in the order of their requests
pub response_rises : (v : Trace) (i j r : ℕ) → i < j → response_clock_of v j ≡ Some r
    → (t : ℕ) × (response_clock_of v i ≡ Some t) × (t < r)
unfolding response_clock_of
response_rises v i j r l e =
    let c = response_counted v j r e in
    let p = response_there v i (omega (arith, c, l)) in
    (p.0, p.1, nth_where-rises (responds_at v) i j (length v) p.0 r l p.1 e)

-- and so do snoop ends
pub ends_order : (v : Trace) (i j s t : ℕ) → snoop_end_of v i ≡ Some s → snoop_end_of v j ≡ Some t → s < t → i < j
ends_order v i j s t e f l =
    elim (cases_lt i j) [
      | inl less ↦ less
      | inr more ↦ elim (cases_eq i j) [
        | inl same ↦
            let one : Some s ≡ Some t = sym e ∙ ap (snoop_end_of v) same ∙ f in
            absurd (let at = some_same s t one in omega (arith, at, l))
        | inr apart ↦
            let h = snoop_end_of-rises v j i s (omega (arith, more, apart)) e in
            absurd (let at = some_same h.0 t (sym h.1 ∙ f) in omega (arith, at, h.2, l))
      ]
    ]

-- the reply to a request has its snoop end below s
record IsAnswered (v : Trace) (i s : ℕ) : Type 0 where
  clock : ℕ
  is_clock : reply_clock_of v i ≡ Some clock
  end : ℕ
  is_end : snoop_end_of v (live_number_of v clock) ≡ Some end
  below : end < s

answered_by : (v : Trace) (i s : ℕ) (o : Option ℕ) → reply_clock_of v i ≡ o
    → is_before (option_and_then (snoop_end_of v) (option_map (live_number_of v) o)) s ≡ true → IsAnswered v i s
answered_by v i s None e t = absurd (let p = is_before-parts None s t in let is = p.1 in let no : ⊥ = cc in no)
answered_by v i s (Some p) e t =
    let k = is_before-parts (snoop_end_of v (live_number_of v p)) s t in
    record { clock = p; is_clock = e; end = k.0; is_end = k.1; below = k.2 }

answered_parts : (v : Trace) (i s : ℕ) → is_answered_below v i s ≡ true → IsAnswered v i s
unfolding is_answered_below reply_number_of
answered_parts v i s t = answered_by v i s (reply_clock_of v i) refl t

pub answered_from : (v : Trace) (i s p e : ℕ) → reply_clock_of v i ≡ Some p → snoop_end_of v (live_number_of v p) ≡ Some e → e < s
    → is_answered_below v i s ≡ true
unfolding is_answered_below reply_number_of
answered_from v i s p e c f l =
    rw c (is_before-from (snoop_end_of v (live_number_of v p)) e s f l)

served-agree : (n : ℕ) (w v : Trace) (j s : ℕ) → Alike n w v → s < n → snoop_end_of w j ≡ Some s → is_deferred w j ≡ is_deferred v j
    → is_served_or_deferred w j ≡ is_served_or_deferred v j
unfolding is_served_or_deferred
served-agree n w v j s k l e d =
    rw (line_at_snoop_end-stays DEFER n w v j s k.agree l e, line_at_snoop_end-stays HITM n w v j s k.agree l e, d) refl

module _ (n : ℕ) (v h : Trace) (i j r : ℕ) (k : Alike n v h) (g : IsGiven v i j) (e : response_clock_of v j ≡ Some r) (l : r < n)
    (after : g.late < r) (spoils : is_spoiled h g.line ≡ false) where
  low : g.late < n
  low = omega (arith, after, l)

  early : g.snoop < n
  early = omega (arith, low, g.before)

  clock_early : (m q s : ℕ) → snoop_end_of v m ≡ Some s → live_clock_of v m ≡ Some q → q + 4 ≤ s
  clock_early m q s f c =
      let p = snoop_end_of-clock v m s f in
      let same = some_same p.clock q (sym p.is_clock ∙ c) in omega (arith, same, p.above)

  first_low : g.first + 4 ≤ g.snoop
  first_low = clock_early i g.first g.snoop g.is_snoop g.is_first

  second_low : g.second + 4 ≤ g.late
  second_low = clock_early j g.second g.late g.is_late g.is_second

  put : (t : ℕ) × (response_clock_of v i ≡ Some t) × (t < r)
  put = response_rises v i j r (ends_order v i j g.snoop g.late g.is_snoop g.is_late g.before) e

  still : is_deferred v i ≡ is_deferred h i
  still = is_deferred-stays n v h i g.snoop put.0 k.agree early g.is_snoop (omega (arith, put.2, l)) put.1

  still_too : is_deferred v j ≡ is_deferred h j
  still_too = is_deferred-stays n v h j g.late r k.agree low g.is_late l e

  deferred_there : is_deferred h i ≡ true
  deferred_there = sym still ∙ g.deferred

  -- a reply that was snooped in time was so in both
  answered_both : is_answered_below h i g.late ≡ true → is_answered_below v i g.late ≡ true
  answered_both t =
      let p = answered_parts h i g.late t in
      let live = live_of_reply h i p.clock p.is_clock in
      let c = snoop_end_of-clock h (live_number_of h p.clock) p.end p.is_end in
      let same = some_same c.clock p.clock (sym c.is_clock ∙ live_clock_of-number h p.clock live.1 live.0) in
      let far : p.clock + 3 < n = omega (arith, same, c.above, p.below, low) in
      let back = turned_round n v h k in
      let a = answered_stays n h v i p.clock back far (record { deferred = deferred_there; reply = p.is_clock }) in
      let ends = snoop_end_of-stays n h v (live_number_of h p.clock) p.end back.agree (omega (arith, p.below, low)) p.is_end in
      answered_from v i g.late p.clock p.end a.reply (ap (snoop_end_of v) (sym (live_number-agree n h v p.clock back.agree far)) ∙ ends)
      p.below

  pub given_past : IsGiven h i j
  given_past = record {
    deferred = deferred_there;
    snoop = g.snoop;
    is_snoop = snoop_end_of-stays n v h i g.snoop k.agree early g.is_snoop;
    late = g.late;
    is_late = snoop_end_of-stays n v h j g.late k.agree low g.is_late;
    before = g.before;
    unanswered = false_from_ne_true _ (λ t. both_ways _ g.unanswered (answered_both t));
    first = g.first;
    is_first = live_clock_of-stays n v h i g.first k.agree (omega (arith, first_low, early)) g.is_first;
    second = g.second;
    is_second = live_clock_of-stays n v h j g.second k.agree (omega (arith, second_low, low)) g.is_second;
    line = g.line;
    named = sym (names-agree n v h g.line g.first k.agree (omega (arith, first_low, early))) ∙ g.named;
    sound = spoils;
    agent = g.agent;
    is_agent = sym (agent_at-agree n v h g.first k.agree (omega (arith, first_low, early))) ∙ g.is_agent;
    named_too = sym (names-agree n v h g.line g.second k.agree (omega (arith, second_low, low))) ∙ g.named_too;
    kind = g.kind;
    is_kind = sym (purpose_at-agree n v h g.second k.agree (omega (arith, second_low, low))) ∙ g.is_kind;
    asks = g.asks;
    served = sym (served-agree n v h j g.late k low g.is_late still_too) ∙ g.served;
  }

-- a trace with such a pair has a verdict
pub not_past : (first : List Joint) (h : Trace) (i j : ℕ) → ownership_verdict first h ≡ None → 0 < length h → IsGiven h i j → ⊥
unfolding ownership_verdict
not_past first h i j none l g =
    let n : ℕ = length h - 1 in
    let size : length h ≡ n + 1 = omega (arith, l) in
    let given = given_from first h n i j g in
    let broken = rule_31 first h n (lt-ltb n (length h) (omega (arith, l))) (whole h n size) in
    both_ways (is_ownership_broken first h n 31)
    (least_broken-none (is_ownership_broken first h) 32 (length h) none n 31 (omega (arith, l)) (omega arith)) (broken ∙ given)
