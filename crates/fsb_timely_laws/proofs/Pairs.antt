-- Two runs that have the same up to a clock: what each of them says of its numbers there, the other says.
use Rattle.fsb_timely_laws.proofs.Words
use Words.{ℕ, ◌+◌, ◌<◌, ◌≤◌, ◌≡◌, Bool, true, false, not, ◌&&◌, List, Option, Some, None, length, nat_le, slice_index}
use Words.{refl, sym, ap, ◌∙◌, arith, option_and_then, and_parts, leb-true, is_at, is_some_and, first_where-found}
use Words.{first_where-same, is_at-from, is_at-some, ADS, line_at, Trace, AgreeTo, due_at, is_answered, is_due}
use Words.{later_of, reply_number_of, is_deferral, is_settled_deferred, response_clock_of, settled_outcome_of, is_reply}
use Words.{live_clock_of, live_count, live_request_of, snoop_end_of, AgreeTo-sym, line_at-agree, live_below_count}
use Words.{live_clock_of-stays, live_request_of-stays, response_clock_of-stays, snoop_end_of-clock, snoop_end_of-rises}
use Words.{snoop_end_of-stays, Orderly, snooped_at, choice_at, is_answered_by, number_of_turn, number_snooped_at}
use Words.{served_number, turns_in, Run, past_of, run_to, live_choice, number-found, number-says, snoop-tied, live-ads}
use Words.{past-cut, snooped-to, some-and}
use Rattle.fsb_timely_laws.proofs.Tests.{PassesIn, both-same, first-both, option-same}
use Rattle.fsb_timely_laws.proofs.Agreed.{Agreed, Agreed-sym, answer-of}
use Rattle.fsb_timely_laws.proofs.Flights.{answered-same, reply_number-stays}
use Rattle.fsb_timely_laws.proofs.Numbers.{cut-agreed, cut-agrees}
use Rattle.fsb_timely_laws.proofs.CutRuns.{choice-kept}

-- the turns of a run, as numbers, in the order of its live requests
abbrev pub turns : Run → List ℕ
turns r = turns_in (past_of r).moments

-- both traces are the same up to clock c, and so are the choices for requests and the snoop ends of the moments
pub record Paired (c : ℕ) (s r : Run) : Type 0 where
  pub traces : AgreeTo (c + 1) s.trace r.trace
  pub same_choices : (q : ℕ) → q ≤ c → line_at ADS s.trace q ≡ true
      → choice_at s.choices s.trace q ≡ choice_at r.choices r.trace q
  pub same_ends : (t : ℕ) → t ≤ c → snooped_at (past_of s) t ≡ snooped_at (past_of r) t

pub Paired-sym : (c : ℕ) (s r : Run) → Paired c s r → Paired c r s
Paired-sym c s r p = record {
  traces = AgreeTo-sym (c + 1) s.trace r.trace p.traces;
  same_choices = λ q l t.
      sym (p.same_choices q l (line_at-agree ADS (c + 1) s.trace r.trace q p.traces (omega arith) ∙ t));
  same_ends = λ t l. sym (p.same_ends t l);
}

-- a run and the run up to one of its clocks are such
pub paired-cut : (r : Run) (c : ℕ) → c < length r.trace → Paired c r (run_to r c)
unfolding run_to
paired-cut r c l = record {
  traces = cut-agrees r.trace c l;
  same_choices = λ q m t. sym (choice-kept r c q m t);
  same_ends = λ t m. sym (ap (λ p. snooped_at p t) (past-cut r c l) ∙ snooped-to (past_of r) c t m);
}

-- the two traces are orderly, too
pub record Ordered (c : ℕ) (s r : Run) : Type 0 where
  pub paired : Paired c s r
  pub traces : Agreed (c + 1) s.trace r.trace

pub Ordered-sym : (c : ℕ) (s r : Run) → Ordered c s r → Ordered c r s
Ordered-sym c s r o =
    record { paired = Paired-sym c s r o.paired; traces = Agreed-sym (c + 1) s.trace r.trace o.traces }

pub ordered-cut : (r : Run) (c : ℕ) → Orderly r.trace → c < length r.trace → Ordered c r (run_to r c)
unfolding run_to
ordered-cut r c h l = record { paired = paired-cut r c l; traces = cut-agreed r.trace c h l }

pub end-there : (c : ℕ) (s r : Run) (i t : ℕ) → Paired c s r → snoop_end_of s.trace i ≡ Some t → t ≤ c
    → snoop_end_of r.trace i ≡ Some t
end-there c s r i t p e l = snoop_end_of-stays (c + 1) s.trace r.trace i t p.traces (omega arith) e

-- the turn and the settled outcome of a request whose snoop end is there
pub turn-same : (c : ℕ) (s r : Run) (i t : ℕ) → Paired c s r → snoop_end_of s.trace i ≡ Some t → t ≤ c
    → slice_index (turns s) i ≡ slice_index (turns r) i
turn-same c s r i t p e l =
    let x = snoop-tied s i t e in
    let y = snoop-tied r i t (end-there c s r i t p e l) in
    let a = x.1.there in
    let b = y.1.there in
    let m = p.same_ends t l in
    let same : x.0 ≡ y.0 = cc in x.1.turn ∙ ap (λ z. number_of_turn z.turn) same ∙ sym y.1.turn

pub outcome-same : (c : ℕ) (s r : Run) (i t : ℕ) → Paired c s r → snoop_end_of s.trace i ≡ Some t → t ≤ c
    → settled_outcome_of s.trace (turns s) i ≡ settled_outcome_of r.trace (turns r) i
outcome-same c s r i t p e l =
    let x = snoop-tied s i t e in
    let y = snoop-tied r i t (end-there c s r i t p e l) in
    let a = x.1.there in
    let b = y.1.there in
    let m = p.same_ends t l in
    let same : x.0 ≡ y.0 = cc in x.1.outcome ∙ ap (λ z. Some z.outcome) same ∙ sym y.1.outcome

pub request-same : (c : ℕ) (s r : Run) (i t : ℕ) → Paired c s r → snoop_end_of s.trace i ≡ Some t → t ≤ c
    → live_request_of s.trace i ≡ live_request_of r.trace i
request-same c s r i t p e l = live_request_of-stays (c + 1) s.trace r.trace i t p.traces (omega arith) e

pub live-there : (w : Trace) (i t : ℕ) → snoop_end_of w i ≡ Some t → i < live_count w
live-there w i t e = let k = snoop_end_of-clock w i t e in live_below_count w i k.clock k.is_clock

-- the choice for a live request whose address error would be there
pub live_choice-paired : (c : ℕ) (s r : Run) (i q : ℕ) → Paired c s r → live_clock_of s.trace i ≡ Some q → q + 3 ≤ c
    → live_choice s i ≡ live_choice r i
unfolding live_choice
live_choice-paired c s r i q p e l =
    let there = live_clock_of-stays (c + 1) s.trace r.trace i q p.traces (omega arith) e in
    rw (e, there) (p.same_choices q (omega arith) (live-ads s.trace i q e))

pub choice-ended : (c : ℕ) (s r : Run) (i t : ℕ) → Paired c s r → snoop_end_of s.trace i ≡ Some t → t ≤ c
    → live_choice s i ≡ live_choice r i
choice-ended c s r i t p e l =
    let k = snoop_end_of-clock s.trace i t e in
    live_choice-paired c s r i k.clock p k.is_clock (omega (arith, k.above))

-- the request that is due at c
due-by : (c : ℕ) (s r : Run) (i t : ℕ) → Ordered c s r → response_clock_of s.trace i ≡ Some t → t < c
    → (i < live_count r.trace) × (is_due s.trace (turns s) c i ≡ is_due r.trace (turns r) c i)
unfolding is_due is_settled_deferred
due-by c s r i t o e l =
    let p = o.paired in
    let n : ℕ = c + 1 in
    let u = s.trace in
    let v = r.trace in
    let h = answer-of u i t o.traces.left e in
    let m : h.snoop < n = omega (arith, h.before) in
    let there = end-there c s r i h.snoop p h.is_snoop (omega arith) in
    let outcome = outcome-same c s r i h.snoop p h.is_snoop (omega arith) in
    let turn = turn-same c s r i h.snoop p h.is_snoop (omega arith) in
    let response = e ∙ sym (response_clock_of-stays n u v i t p.traces (omega arith) e) in
    let answered = answered-same n c u v i h.snoop p.traces h.is_snoop there m (omega arith) in (
      live-there v i h.snoop there,
      λ k. is_some_and (outcome k) is_deferral
          && is_some_and (response k) (λ x. nat_le (x + 1 + later_of (turn k)) c) && not (answered k),
    )

due-response : (w : Trace) (x : List ℕ) (c i : ℕ) → is_due w x c i ≡ true
    → (t : ℕ) × (response_clock_of w i ≡ Some t) × (t < c)
unfolding is_due
due-response w x c i e =
    let late : ℕ → Bool = λ t. nat_le (t + 1 + later_of (slice_index x i)) c in
    let a = and_parts (is_settled_deferred w x i && is_some_and (response_clock_of w i) late) (not (is_answered w c i)) e in
    let b = and_parts (is_settled_deferred w x i) (is_some_and (response_clock_of w i) late) a.0 in
    let t = some-and (response_clock_of w i) late b.1 in
    let low = leb-true (t.0 + 1 + later_of (slice_index x i)) c t.2 in
    (t.0, t.1, omega arith)

due-passes : (c : ℕ) (s r : Run) → Ordered c s r
    → PassesIn (is_due s.trace (turns s) c) (is_due r.trace (turns r) c) (live_count s.trace) (live_count r.trace)
due-passes c s r p = record {
  passes = λ i k e.
      let t = due-response s.trace (turns s) c i e in
      let d = due-by c s r i t.0 p t.1 t.2 in (d.0, sym d.1 ∙ e);
}

pub due-same : (c : ℕ) (s r : Run) → Ordered c s r → due_at s.trace (turns s) c ≡ due_at r.trace (turns r) c
unfolding due_at
due-same c s r p =
    first-both (is_due s.trace (turns s) c) (is_due r.trace (turns r) c) (live_count s.trace) (live_count r.trace)
    (due-passes c s r p) (due-passes c r s (Ordered-sym c s r p))

request-due-by : (c : ℕ) (s r : Run) (o : Option ℕ) → Ordered c s r → due_at s.trace (turns s) c ≡ o
    → option_and_then (live_request_of s.trace) o ≡ option_and_then (live_request_of r.trace) o
unfolding due_at
request-due-by c s r None p e = refl
request-due-by c s r (Some i) p e =
    let f = first_where-found (is_due s.trace (turns s) c) (live_count s.trace) i e in
    let t = due-response s.trace (turns s) c i f.1 in
    let h = answer-of s.trace i t.0 p.traces.left t.1 in
    request-same c s r i h.snoop p.paired h.is_snoop (omega (arith, h.before, t.2))

-- the request that is due at c, as it is decoded
pub request-due : (c : ℕ) (s r : Run) → Ordered c s r
    → option_and_then (live_request_of s.trace) (due_at s.trace (turns s) c)
    ≡ option_and_then (live_request_of r.trace) (due_at r.trace (turns r) c)
request-due c s r p =
    request-due-by c s r (due_at s.trace (turns s) c) p refl
    ∙ ap (option_and_then (live_request_of r.trace)) (due-same c s r p)

-- the request that a live one serves
answered_by-same : (c : ℕ) (s r : Run) (i j t : ℕ) → Paired c s r → snoop_end_of s.trace i ≡ Some t → t ≤ c → j < i
    → is_answered_by s.trace (turns s) i j ≡ is_answered_by r.trace (turns r) i j
unfolding is_answered_by is_settled_deferred is_at
answered_by-same c s r i j t p e l m =
    let n : ℕ = c + 1 in
    let u = s.trace in
    let v = r.trace in
    let a = p.traces in
    let before = snoop_end_of-rises u j i t m e in
    let low : before.0 + 3 ≤ t = before.2 in
    let outcome = outcome-same c s r j before.0 p before.1 (omega arith) in
    let there = end-there c s r i t p e l in
    let there' = end-there c s r j before.0 p before.1 (omega arith) in
    let reply : is_at (reply_number_of u j) i ≡ is_at (reply_number_of v j) i =
    both-same (is_at (reply_number_of u j) i) (is_at (reply_number_of v j) i)
    (λ f. is_at-from (reply_number_of v j) i (reply_number-stays n u v i j t before.0 a e (omega arith) before.1
    (omega arith) (is_at-some (reply_number_of u j) i f)))
    (λ f. is_at-from (reply_number_of u j) i (reply_number-stays n v u i j t before.0 (AgreeTo-sym n u v a) there
    (omega arith) there' (omega arith) (is_at-some (reply_number_of v j) i f))) in
    λ k. is_some_and (outcome k) is_deferral && reply k

pub served-same : (c : ℕ) (s r : Run) (i t : ℕ) → Paired c s r → snoop_end_of s.trace i ≡ Some t → t ≤ c
    → served_number s.trace (turns s) i ≡ served_number r.trace (turns r) i
unfolding served_number
served-same c s r i t p e l =
    let request = request-same c s r i t p e l in
    let first = first_where-same (is_answered_by s.trace (turns s) i) (is_answered_by r.trace (turns r) i) i
    (record { same = λ j m. answered_by-same c s r i j t p e l m }) in
    λ k. elim (is_reply (request k)) [ true ↦ first k | false ↦ Some i ]

served-by : (w : Trace) (x : List ℕ) (i j t : ℕ) (b : Bool) → is_reply (live_request_of w i) ≡ b
    → snoop_end_of w i ≡ Some t → served_number w x i ≡ Some j → (e : ℕ) × (snoop_end_of w j ≡ Some e) × (e ≤ t)
unfolding served_number
served-by w x i j t true b e f =
    let found = first_where-found (is_answered_by w x i) i j (let f' = rw (b, served_number) at f in f') in
    let before = snoop_end_of-rises w j i t found.0 e in
    (before.0, before.1, omega (arith, before.2))
served-by w x i j t false b e f =
    let same : j ≡ i = (let f' = rw (b, served_number) at f in cc) in
    (t, ap (snoop_end_of w) same ∙ e, omega arith)

-- the request that is served is the one or an earlier one, so its snoop end is there too
pub served-end : (w : Trace) (x : List ℕ) (i j t : ℕ) → snoop_end_of w i ≡ Some t → served_number w x i ≡ Some j
    → (e : ℕ) × (snoop_end_of w j ≡ Some e) × (e ≤ t)
served-end w x i j t e f = served-by w x i j t (is_reply (live_request_of w i)) refl e f

-- the live request whose snoop end is c
number-there : (c : ℕ) (s r : Run) (i : ℕ) → Paired c s r → number_snooped_at s.trace c ≡ Some i
    → number_snooped_at r.trace c ≡ Some i
number-there c s r i p e =
    number-found r.trace i c (end-there c s r i c p (number-says s.trace i c e) (omega arith))

pub number-same : (c : ℕ) (s r : Run) → Paired c s r → number_snooped_at s.trace c ≡ number_snooped_at r.trace c
number-same c s r p =
    option-same (number_snooped_at s.trace c) (number_snooped_at r.trace c) (λ i e. number-there c s r i p e)
    (λ i e. number-there c r s i (Paired-sym c s r p) e)
