-- The response clock of a live request, in a sample that has the code of RS# that is due.
use Rattle.fsb_phase_run.proofs.Words
use Words.{ℕ, ◌+◌, ◌<◌, ◌≡◌, Bool, true, false, not, if◌then◌else◌, nat_eq, Option, Some, None, List, length, refl, sym}
use Words.{ap, ◌∙◌, arith, inl, inr, subst, option_and_then, option_map_or, both_ways, cases_lt, count_where}
use Words.{count_where-same, first_where-found, nth_where-at, nth_where-found, response_of, Outcome, Granted, Handed}
use Words.{Retried, Deferred, Written, Replied, Failed, Upgraded, Trace, responds_at, response_code_at}
use Words.{response_clock_of, response_code_of, live_count, next_response, snoop_end_of, live_below_count}
use Words.{responds_at-agree, response_clock_of-stays, snoop_end_of-clock, snoop_end_of-stays, one_more}
use Words.{response_code_at-new, Entry, has_response, rank_of, response_to_now, drive_of, GrowsTo, Run, past_of}
use Words.{live_choice, code_due, is_response_clock, number_responding, settled_of, snoop-tied, Responding}
use Words.{answered-before, responding-answer, response-before, HoldsRequests}
use Rattle.fsb_laws.specs.OneMore.{OneMore}
use Rattle.fsb_phase_run.proofs.CodeDrive.{code-drive, entry-responds, number-is, responds-entry, responds-old}
use Rattle.fsb_phase_run.proofs.CodeDrive.{settled-same}
use Rattle.fsb_phase_run.proofs.Grown.{agree-back, agree-grown, longer}
use Rattle.fsb_phase_run.proofs.HeldEntries.{EntryOf}
use Rattle.fsb_phase_run.proofs.Unanswered.{responded-snoop, responds-first}

-- the new clock has the code of RS# that is due there
abbrev pub CodeShown : Run → Run → Type 0
CodeShown r s = response_code_at s.trace (length r.trace) ≡ code_due s (past_of s) (length r.trace)

pub code-shown : (r s : Run) (queue : List Entry) (grows : GrowsTo r s) → HoldsRequests queue r
    → response_of grows.next.sample ≡ (drive_of r.trace queue).rs → CodeShown r s
code-shown r s queue grows f e =
    let x = grows.next.sample in
    let more = subst (λ w. OneMore r.trace x w) (sym grows.next.more_trace) (one_more r.trace x) in
    response_code_at-new r.trace x s.trace more ∙ e ∙ code-drive r s queue grows f

-- no outcome has the code of silence
coded : (o : Outcome) → not (nat_eq (response_code_of o) 0) ≡ true
unfolding response_code_of
coded Granted = refl
coded Handed = refl
coded Retried = refl
coded Deferred = refl
coded Written = refl
coded Replied = refl
coded Failed = refl
coded Upgraded = refl

-- a request that is to respond does
pub responds-shown : (r s : Run) (i : ℕ) → GrowsTo r s → CodeShown r s
    → Responding r.trace (live_choice r i).resp (length r.trace) i → response_clock_of s.trace i ≡ Some (length r.trace)
unfolding response_clock_of next_response code_due responds_at settled_of
responds-shown r s i grows code due =
    let n = length r.trace in
    let p = past_of s in
    let size = longer r s grows in
    let agree = agree-grown r s grows in
    let a = responding-answer r.trace (live_choice r i).resp n i due in
    let tied = snoop-tied r i a.snoop a.is_snoop in
    let settled : settled_of s p i ≡ Some tied.0.outcome =
    sym (settled-same r s i a.snoop grows a.is_snoop) ∙ tied.1.outcome in
    let coding : code_due s p n ≡ response_code_of tied.0.outcome =
    ap (λ o. option_map_or response_code_of (option_and_then (settled_of s p) o) 0) (number-is r s i grows due)
    ∙ ap (λ o. option_map_or response_code_of o 0) settled in
    let there : responds_at s.trace n ≡ true = ap (λ k. not (nat_eq k 0)) (code ∙ coding) ∙ coded tied.0.outcome in
    let same = count_where-same (responds_at r.trace) (responds_at s.trace) n
    (record { same = λ d k. responds_at-agree n r.trace s.trace d agree k }) in
    let place = answered-before r.trace n i a in
    let number : count_where (responds_at s.trace) n ≡ i = elim (cases_lt i (next_response r.trace n)) [
      | inr more ↦ omega arith
      | inl less ↦
          let before = response-before r.trace n i (omega arith) less in
          let some = before.2 in
          let none = responds-first r i grows.timely due in absurd (let no : ⊥ = cc in no)
    ] in
    subst (λ k. response_clock_of s.trace k ≡ Some n) number
    (nth_where-at (responds_at s.trace) (length s.trace) n (omega arith) there)

-- a clock with a response has a live request that is to respond
number-by : (s : Run) (n : ℕ) (o : Option ℕ) → response_code_at s.trace n ≡ code_due s (past_of s) n
    → number_responding s n ≡ o → responds_at s.trace n ≡ true → (j : ℕ) × (number_responding s n ≡ Some j)
unfolding code_due responds_at
number-by s n None e f t =
    let none : response_code_at s.trace n ≡ 0 =
    e ∙ ap (λ o. option_map_or response_code_of (option_and_then (settled_of s (past_of s)) o) 0) f in
    let no : false ≡ true = sym (ap (λ k. not (nat_eq k 0)) none) ∙ t in absurd (cc no)
number-by s n (Some j) e f t = (j, f)

-- and only one that is to respond does
pub shown-responds : (r s : Run) (i : ℕ) → GrowsTo r s → CodeShown r s
    → response_clock_of s.trace i ≡ Some (length r.trace) → Responding r.trace (live_choice r i).resp (length r.trace) i
unfolding response_clock_of number_responding
shown-responds r s i grows code e =
    let n = length r.trace in
    let p = nth_where-found (responds_at s.trace) i (length s.trace) n e in
    let j = number-by s n (number_responding s n) code refl p.1 in
    let f = first_where-found (is_response_clock s n) (live_count s.trace) j.0 j.1 in
    let due = responds-old r s j.0 grows f.1 in
    let q = nth_where-found (responds_at s.trace) j.0 (length s.trace) n (responds-shown r s j.0 grows code due) in
    let same : j.0 ≡ i = sym q.2 ∙ p.2 in
    subst (λ k. Responding r.trace (live_choice r k).resp n k) same due

-- a response clock of the longer run: that of the shorter one, or the new clock
shown-cases : (r s : Run) (i t : ℕ) → GrowsTo r s → response_clock_of s.trace i ≡ Some t → t < length r.trace + 1
unfolding response_clock_of
shown-cases r s i t grows e =
    let p = nth_where-found (responds_at s.trace) i (length s.trace) t e in
    let size = longer r s grows in let within = p.0 in omega arith

none-now : (r s : Run) (queue : List Entry) (i : ℕ) (k : EntryOf r queue i) (o : Option ℕ) → GrowsTo r s
    → CodeShown r s → response_clock_of r.trace i ≡ None → has_response r.trace k.entry ≡ false
    → response_clock_of s.trace i ≡ o → response_clock_of s.trace i ≡ None
none-now r s queue i k None grows code e b f = f
none-now r s queue i k (Some t) grows code e b f =
    let n = length r.trace in
    let within = shown-cases r s i t grows f in
    elim (cases_lt t n) [
      | inl old ↦
          let there = response_clock_of-stays n s.trace r.trace i t (agree-back r s grows) old f in
          absurd (let no : ⊥ = cc in no)
      | inr new ↦
          let last : t ≡ n = omega arith in
          let due = shown-responds r s i grows code (subst (λ u. response_clock_of s.trace i ≡ Some u) last f) in
          absurd (both_ways _ b (responds-entry r queue i k e due))
    ]

-- the response clock of an entry up to the new clock, where it has responded and where it has not
now-old : (h : Trace) (e : Entry) (i t : ℕ) → rank_of h e ≡ i → response_clock_of h i ≡ Some t
    → response_to_now h e ≡ Some t
unfolding response_to_now
now-old h e i t same f =
    let there : response_clock_of h (rank_of h e) ≡ Some t = ap (response_clock_of h) same ∙ f in
    rw (there, response_to_now) refl

now-new : (h : Trace) (e : Entry) (i : ℕ) (b : Bool) → rank_of h e ≡ i → response_clock_of h i ≡ None
    → has_response h e ≡ b → response_to_now h e ≡ (if b then Some (length h) else None)
unfolding response_to_now
now-new h e i b same f g =
    let there : response_clock_of h (rank_of h e) ≡ None = ap (response_clock_of h) same ∙ f in
    rw (there, g, response_to_now) refl

-- it is that of the longer run
pub shown-now : (r s : Run) (queue : List Entry) (i : ℕ) (k : EntryOf r queue i) → GrowsTo r s → CodeShown r s
    → response_to_now r.trace k.entry ≡ response_clock_of s.trace i
unfolding response_clock_of
shown-now r s queue i k grows code = by (response_clock_of r.trace i) (has_response r.trace k.entry) refl refl
  where
    by : (o : Option ℕ) (b : Bool) → response_clock_of r.trace i ≡ o → has_response r.trace k.entry ≡ b
        → response_to_now r.trace k.entry ≡ response_clock_of s.trace i
    by (Some t) b e f =
        let p = nth_where-found (responds_at r.trace) i (length r.trace) t e in
        now-old r.trace k.entry i t k.rank e
        ∙ sym (response_clock_of-stays (length r.trace) r.trace s.trace i t (agree-grown r s grows) p.0 e)
    by None false e f =
        now-new r.trace k.entry i false k.rank e f
        ∙ sym (none-now r s queue i k (response_clock_of s.trace i) grows code e f refl)
    by None true e f =
        let due = entry-responds r k.entry (k.choice ∙ ap (live_choice r) (sym k.rank)) f in
        let here = subst (λ j. Responding r.trace (live_choice r j).resp (length r.trace) j) k.rank due in
        now-new r.trace k.entry i true k.rank e f ∙ sym (responds-shown r s i grows code here)

-- the snoop end of a live request that has its response clock in the longer run
pub record Shown (r s : Run) (i : ℕ) : Type 0 where
  pub snoop : ℕ
  pub is_snoop : snoop_end_of r.trace i ≡ Some snoop
  pub live : i < live_count s.trace

shown-by : (r s : Run) (i t : ℕ) → GrowsTo r s → snoop_end_of r.trace i ≡ Some t → Shown r s i
shown-by r s i t grows e =
    let c = snoop_end_of-clock r.trace i t e in
    let there = snoop_end_of-stays (length r.trace) r.trace s.trace i t (agree-grown r s grows) c.within e in
    let d = snoop_end_of-clock s.trace i t there in
    record { snoop = t; is_snoop = e; live = live_below_count s.trace i d.clock d.is_clock }

pub shown : (r s : Run) (i t : ℕ) → GrowsTo r s → CodeShown r s → response_clock_of s.trace i ≡ Some t → Shown r s i
shown r s i t grows code e =
    let n = length r.trace in
    let within = shown-cases r s i t grows e in
    elim (cases_lt t n) [
      | inl old ↦
          let there = response_clock_of-stays n s.trace r.trace i t (agree-back r s grows) old e in
          let k = responded-snoop r i t grows.timely there in shown-by r s i k.0 grows k.1
      | inr new ↦
          let last : t ≡ n = omega arith in
          let due = shown-responds r s i grows code (subst (λ u. response_clock_of s.trace i ≡ Some u) last e) in
          let a = responding-answer r.trace (live_choice r i).resp n i due in
          shown-by r s i a.snoop grows a.is_snoop
    ]
