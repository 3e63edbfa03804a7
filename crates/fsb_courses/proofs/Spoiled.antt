-- A line that is spoiled stays so, however the trace goes on.
use Rattle.std.proofs.Common.{ℕ, ◌<◌, ◌≤◌, ◌≡◌, Bool, true, false, ◌&&◌, length, Option, Some, None, refl, sym, ap, ◌∙◌, arith}
use Rattle.std.proofs.lemmas.Bool.{and_from, and_parts, both_ways, false_from_ne_true}
use Rattle.fsb_count.specs.Options.{is_some_and}
use Rattle.fsb_count.proofs.Interface.{any_where-at, any_where-found, nth_where-found}
use Rattle.fsb_trace.specs.At.{Trace, responds_at}
use Rattle.fsb_trace.specs.Outcome.{live_response_of, outcome_of, response_clock_of}
use Rattle.fsb_trace.specs.Requests.{live_count}
use Rattle.fsb_trace.proofs.Interface.{live_below_count, live_response_of-is, outcome_of-stays, snoop_end_of-clock, snoop_end_of-stays}
use Rattle.fsb_laws.proofs.Interface.{has_answer}
use Rattle.fsb_owners.specs.Shown.{is_failure, is_for_line, is_spoiled, names, origin_clock_of}
use Rattle.fsb_owner_laws.proofs.AgreeEnders.{for_line-from, origin_parts}
use Rattle.fsb_owner_laws.proofs.AgreePossible.{some_and}
use Rattle.fsb_owner_laws.proofs.AgreeWords.{Alike, names-agree}

told_there : (w : Trace) (j : ℕ) (o : Option ℕ) → live_response_of w j ≡ o → is_some_and (outcome_of w j) is_failure ≡ true
    → (r : ℕ) × (live_response_of w j ≡ Some r)
unfolding outcome_of is_some_and
told_there w j None e t = absurd (let f : false ≡ true = rw e at t in let no : ⊥ = cc in no)
told_there w j (Some r) e t = (r, e)

in_trace : (w : Trace) (j r : ℕ) → response_clock_of w j ≡ Some r → r < length w
unfolding response_clock_of
in_trace w j r e = (nth_where-found (responds_at w) j (length w) r e).0

line_clock : (w : Trace) (line j : ℕ) → is_for_line w line j ≡ true
    → (q : ℕ) × (origin_clock_of w j ≡ Some q) × (names w line q ≡ true)
unfolding is_for_line
line_clock w line j t = some_and (origin_clock_of w j) (names w line) t

abbrev fails : Trace → ℕ → ℕ → Bool
fails w line j = is_for_line w line j && is_some_and (outcome_of w j) is_failure

-- what failed below n failed in both
fails_stays : (n : ℕ) (w v : Trace) (line j : ℕ) → Alike n w v → length w ≤ n → fails w line j ≡ true
    → (j < live_count v) × (fails v line j ≡ true)
fails_stays n w v line j k l t =
    let p = and_parts (is_for_line w line j) (is_some_and (outcome_of w j) is_failure) t in
    let r = told_there w j (live_response_of w j) refl p.1 in
    let at = live_response_of-is w j r.0 r.1 in
    let a = has_answer w r.0 j (k.left.timely j r.0 at) in
    let q = line_clock w line j p.0 in
    let within = in_trace w j r.0 at in
    let early : a.snoop < n = (let b = a.before in omega (arith, b, within, l)) in
    let there = snoop_end_of-stays n w v j a.snoop k.agree early a.is_snoop in
    let c = snoop_end_of-clock v j a.snoop there in
    let o = origin_parts n w v j a.snoop q.0 k a.is_snoop early q.1 in
    let same = outcome_of-stays n w v j a.snoop r.0 k.agree early a.is_snoop (omega (arith, within, l)) at in (
      live_below_count v j c.clock c.is_clock,
      and_from (is_for_line v line j) (is_some_and (outcome_of v j) is_failure)
          (for_line-from v line j q.0 o.1
          ∙ sym (names-agree n w v line q.0 k.agree (let b = o.0 in omega (arith, b, early))) ∙ q.2)
          (ap (λ t. is_some_and t is_failure) (sym same) ∙ p.1),
    )

pub spoiled_stays : (n : ℕ) (w v : Trace) (line : ℕ) → Alike n w v → length w ≤ n → is_spoiled w line ≡ true
    → is_spoiled v line ≡ true
unfolding is_spoiled
spoiled_stays n w v line k l t =
    let f = any_where-found (fails w line) (live_count w) t in
    let s = fails_stays n w v line f.0 k l f.2 in
    any_where-at (fails v line) (live_count v) f.0 s.0 s.1

pub sound_before : (n : ℕ) (w v : Trace) (line : ℕ) → Alike n w v → length w ≤ n → is_spoiled v line ≡ false
    → is_spoiled w line ≡ false
sound_before n w v line k l e =
    false_from_ne_true (is_spoiled w line) (λ t. both_ways (is_spoiled v line) e (spoiled_stays n w v line k l t))
