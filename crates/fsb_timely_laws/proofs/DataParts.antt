-- The data: what is said of a clock of the run up to it is said of the whole run.
use Rattle.fsb_timely_laws.proofs.Words
use Words.{ℕ, zero, suc, ◌+◌, ◌<◌, ◌≤◌, ◌≡◌, Bool, true, false, nat_eq, Option, Some, None, slice_index, length, refl}
use Words.{sym, ap, ◌∙◌, inl, inr, arith, option_and_then, option_map_or, and_cases, each_where, is_at, is_some_and}
use Words.{is_at-from, is_at-some, data_at, known_word, response_clock_of, live_count, live_request_of, data_clock_of}
use Words.{snoop_end_of, Orderly, carried_value, carries_chunk, carries_data, carries_from, carries_if_due, chunk_value}
use Words.{served_request, served_number, Run, past_of, run_to, IsSaidOfTheWhole}
use Rattle.fsb_encode.specs.Burst.{burst_order}
use Rattle.fsb_encode.specs.declared.request.Request.{Request}
use Rattle.fsb_timely_laws.proofs.Tests.{FailsIn, both-same, each-both}
use Rattle.fsb_timely_laws.proofs.Agreed.{Agreed-sym, data-parts, data-stays}
use Rattle.fsb_timely_laws.proofs.Pairs.{Ordered, Ordered-sym, Paired, ordered-cut, request-same, served-end, served-same, turns}
use Rattle.fsb_timely_laws.proofs.SameUpTo.{SameUpTo, said, same-up-to}
use Rattle.fsb_timely_laws.proofs.StartParts.{agree-of}
use Rattle.fsb_timely_laws.proofs.TransferParts.{responded}

-- some clock fails a test that not every one passes
each-failed : (test : ℕ → Bool) (n : ℕ) → each_where test n ≡ false → (k : ℕ) × (k < n) × (test k ≡ false)
unfolding each_where
each-failed test zero e = absurd (let no : ⊥ = cc in no)
each-failed test (suc n) e = elim (and_cases (each_where test n) (test n) e) [
  | inl before ↦ let p = each-failed test n before in (let low = p.1 in (p.0, omega arith, p.2))
  | inr here ↦ (n, omega arith, here)
]

-- the request that a live one serves, as it is decoded
served-by : (c i : ℕ) (r s : Run) (o : Option ℕ) (e : ℕ) → Paired c r s → snoop_end_of r.trace i ≡ Some e → e ≤ c
    → served_number r.trace (turns r) i ≡ o
    → option_and_then (live_request_of r.trace) o ≡ option_and_then (live_request_of s.trace) o
served-by c i r s None e p f l g = refl
served-by c i r s (Some j) e p f l g =
    let k = served-end r.trace (turns r) i j e f g in
    let low = k.2 in request-same c r s j k.0 p k.1 (omega arith)

served_request-same : (c i e : ℕ) (r s : Run) → Paired c r s → snoop_end_of r.trace i ≡ Some e → e ≤ c
    → served_request r (past_of r) i ≡ served_request s (past_of s) i
unfolding served_request
served_request-same c i e r s p f l =
    served-by c i r s (served_number r.trace (turns r) i) e p f l refl
    ∙ ap (option_and_then (live_request_of s.trace)) (served-same c r s i e p f l)

-- the chunk that is due
carries-same : (c i k t : ℕ) (r s : Run) → SameUpTo c r s → Ordered c r s → response_clock_of r.trace i ≡ Some t → t ≤ c
    → carries_if_due r (past_of r) c i k ≡ carries_if_due s (past_of s) c i k
unfolding carries_if_due carries_chunk carries_from carried_value is_some_and
carries-same c i k t r s h o e l =
    let p = o.paired in
    let n : ℕ = c + 1 in
    let d = responded c i t r s o e l in
    let due : is_at (data_clock_of r.trace i k) c ≡ is_at (data_clock_of s.trace i k) c =
    both-same (is_at (data_clock_of r.trace i k) c) (is_at (data_clock_of s.trace i k) c)
    (λ f. is_at-from (data_clock_of s.trace i k) c
    (data-stays n r.trace s.trace i k c o.traces (omega arith) (is_at-some (data_clock_of r.trace i k) c f)))
    (λ f. is_at-from (data_clock_of r.trace i k) c
    (data-stays n s.trace r.trace i k c (Agreed-sym n r.trace s.trace o.traces) (omega arith)
    (is_at-some (data_clock_of s.trace i k) c f))) in
    let request = served_request-same c i d.snoop r s p d.is_snoop (omega (arith, d.before)) in
    let sample = (agree-of c r s h).same c (omega arith) in
    let memory = sym (h.bytes t l) in
    let chunk = ap (λ o. is_some_and o (λ (x : ℕ). is_some_and (served_request r (past_of r) i)
    (λ request. nat_eq (data_at r.trace c).bits (carried_value r k x request)))) e
    ∙ (λ j. is_some_and (request j) (λ (x : Request). nat_eq (option_map_or (λ y. y.dbus) (sample j) (known_word 0)).bits
    (chunk_value (memory j) x.line (slice_index (burst_order x.chunk) k))))
    ∙ sym (ap (λ o. is_some_and o (λ (x : ℕ). is_some_and (served_request s (past_of s) i)
    (λ request. nat_eq (data_at s.trace c).bits (carried_value s k x request)))) d.response) in
    λ j. elim (due j) [ true ↦ chunk j | false ↦ true ]

due-by : (b x : Bool) → elim b [ true ↦ x | false ↦ true ] ≡ false → b ≡ true
due-by true x e = refl
due-by false x e = absurd (let no : ⊥ = cc in no)

fails-due : (r : Run) (c i k : ℕ) → carries_if_due r (past_of r) c i k ≡ false
    → (t : ℕ) × (response_clock_of r.trace i ≡ Some t) × (t ≤ c)
unfolding carries_if_due
fails-due r c i k e =
    let at = due-by (is_at (data_clock_of r.trace i k) c) (carries_chunk r (past_of r) c i k) e in
    let d = data-parts r.trace i k c (is_at-some (data_clock_of r.trace i k) c at) in
    (d.response, d.is_response, d.above)

-- the four chunks of live request i are carried at c
abbrev carries-all : Run → ℕ → ℕ → Bool
carries-all r c i = each_where (carries_if_due r (past_of r) c i) 4

all-same : (c i t : ℕ) (r s : Run) → SameUpTo c r s → Ordered c r s → response_clock_of r.trace i ≡ Some t → t ≤ c
    → carries-all r c i ≡ carries-all s c i
all-same c i t r s h o e l =
    let same : (k : ℕ) → carries_if_due r (past_of r) c i k ≡ carries_if_due s (past_of s) c i k =
    λ k. carries-same c i k t r s h o e l in
    λ j. each_where (λ k. same k j) 4

fails-here : (c : ℕ) (r s : Run) → SameUpTo c r s → Ordered c r s
    → FailsIn (carries-all r c) (carries-all s c) (live_count r.trace) (live_count s.trace)
fails-here c r s h o = record {
  fails = λ i l e.
      let k = each-failed (carries_if_due r (past_of r) c i) 4 e in
      let t = fails-due r c i k.0 k.2 in
      let d = responded c i t.0 r s o t.1 t.2 in
      (d.within, sym (all-same c i t.0 r s h o t.1 t.2) ∙ e);
}

fails-there : (c : ℕ) (r s : Run) → SameUpTo c r s → Ordered c r s
    → FailsIn (carries-all s c) (carries-all r c) (live_count s.trace) (live_count r.trace)
fails-there c r s h o = record {
  fails = λ i l e.
      let k = each-failed (carries_if_due s (past_of s) c i) 4 e in
      let t = fails-due s c i k.0 k.2 in
      let d = responded c i t.0 s r (Ordered-sym c r s o) t.1 t.2 in
      (d.within, all-same c i t.0 r s h o d.response t.2 ∙ e);
}

data-same : (c : ℕ) (r s : Run) → SameUpTo c r s → Ordered c r s
    → carries_data r (past_of r) c ≡ carries_data s (past_of s) c
unfolding carries_data
data-same c r s h o =
    each-both (carries-all r c) (carries-all s c) (live_count r.trace) (live_count s.trace) (fails-here c r s h o)
    (fails-there c r s h o)

pub data-said : (r : Run) (c : ℕ) → Orderly r.trace → c < length r.trace → IsSaidOfTheWhole carries_data r c
data-said r c h l =
    said carries_data r c l (data-same c r (run_to r c) (same-up-to r c l) (ordered-cut r c h l))
