-- A live request whose data move has not ended before its last chunk is due.
use Rattle.fsb_phase_run.proofs.Words
use Words.{ℕ, suc, ◌+◌, ◌*◌, ◌<◌, ◌≤◌, ◌≡◌, Bool, true, false, not, ◌&&◌, ◌||◌, Some, length, take, refl, sym, ap, ◌∙◌}
use Words.{arith, inl, inr, and_from, and_parts, cases_lt, le-leb, lt-ltb, ltb-true, count_where, from_clock}
use Words.{is_some_and, count_where-passed, nth_where-found, DBSY, DRDY, line_at, does_move, moves_data}
use Words.{response_clock_of, end_of, is_data_wrong, is_transferring, snoop_end_of, is_busy_from, AgreeTo-sym}
use Words.{breaks-16, end_of-moving, end_of-response, end_of-stays, response_clock_of-stays, snoop_end_of-stays}
use Words.{clear_parts, has_answer, is_transferring-last, response_counted, response_there, transferring_form}
use Words.{snooped_at, Run, past_of, run_to, live_choice, Timely, is_busy_at, settled_of, settles_to_move, keeps-16}
use Words.{last-moves, length-cut, live_choice-same, orderly-at, past-cut, snooped-to}
use Rattle.fsb_signal.specs.declared.marks.Marks.{Marks}
use Rattle.fsb_trace.specs.Verdict.{is_broken}
use Rattle.fsb_laws.specs.Progress.{response_count}
use Rattle.fsb_phase_run.proofs.CodeDrive.{settled-from}
use Rattle.fsb_phase_run.proofs.Grown.{agree-cut}

-- a mark of nothing
no_marks : Marks
no_marks = record { ap = false; rp = false }

-- a timely run keeps the rule of data
data-right : (r : Run) (c : ℕ) → Timely r → c < length r.trace → is_data_wrong (run_to r c).trace c ≡ false
unfolding is_broken run_to
data-right r c h l =
    let v = take (c + 1) r.trace in
    sym (breaks-16 no_marks v c) ∙ (rw (lt-ltb c (length r.trace) l) at ((keeps-16 no_marks r h).unbroken c))

goes-on : (d b now after : Bool) → (d && not now || not b && after || b && not after) ≡ false → b ≡ true → after ≡ true
goes-on true true true true e f = refl
goes-on true true true false e f = absurd (let no : ⊥ = cc in no)
goes-on true true false after e f = absurd (let no : ⊥ = cc in no)
goes-on false true now true e f = refl
goes-on false true now false e f = absurd (let no : ⊥ = cc in no)
goes-on d false now after e f = absurd (let no : ⊥ = cc in no)

-- the request whose end is u is the last one that responded up to u
last-count : (r : Run) (i t u : ℕ) → Timely r → u < length r.trace → response_clock_of (run_to r u).trace i ≡ Some t
    → end_of (run_to r u).trace i ≡ Some u → response_count (run_to r u).trace ≡ suc i
last-count r i t u h l e f =
    let v = (run_to r u).trace in
    let size = length-cut r u l in
    let low = response_counted v i t e in
    elim (cases_lt (suc i) (response_count v)) [
      | inr few ↦ omega arith
      | inl more ↦
          let next = response_there v (suc i) more in
          let a = has_answer v next.0 (suc i) ((orderly-at r u h l).timely (suc i) next.0 next.1) in
          let c = clear_parts v i next.0 a.clear in
          let end = c.1 in
          let same : c.0 ≡ u = cc in absurd (omega (arith, c.2, next.2))
    ]

-- while DBSY# is due, the end is to come
no-end : (r : Run) (i t u : ℕ) → Timely r → u < length r.trace → response_clock_of (run_to r u).trace i ≡ Some t
    → end_of (run_to r u).trace i ≡ Some u → is_busy_at (run_to r u) (past_of (run_to r u)) u i ≡ true → ⊥
unfolding is_data_wrong
no-end r i t u h l e f busy =
    let v = (run_to r u).trace in
    let size = length-cut r u l in
    let count = last-count r i t u h l e f in
    let dbsy = (last-moves r u i h l count).busy ∙ busy in
    let after = goes-on (line_at DRDY v u) (line_at DBSY v u) (is_transferring v u) (is_transferring v (u + 1))
    (data-right r u h l) dbsy in
    let last = is_transferring-last v (u + 1) i (orderly-at r u h l) count (omega arith) in
    let form = sym (transferring_form v (u + 1) i t e) ∙ sym last ∙ after in
    let parts = and_parts (moves_data v i) _ form in
    let few = ltb-true _ _ parts.1 in
    let n = nth_where-found (from_clock t (line_at DRDY v)) 3 (length v) u (sym (end_of-moving v i t parts.0 e) ∙ f) in
    let passed = count_where-passed (from_clock t (line_at DRDY v)) u n.1 in
    let three : count_where (from_clock t (line_at DRDY v)) u ≡ 3 = n.2 in omega arith

-- the end of a request whose data move is no sooner than its last chunk
pub last-chunk : (r : Run) (i t u x : ℕ) → Timely r → u < length r.trace → snoop_end_of r.trace i ≡ Some x → x ≤ u
    → response_clock_of r.trace i ≡ Some t → end_of r.trace i ≡ Some u
    → is_some_and (settled_of r (past_of r) i) does_move ≡ true → t + 3 * (1 + (live_choice r i).gap) ≤ u
unfolding is_busy_at settles_to_move is_busy_from is_some_and
last-chunk r i t u x h l snoop low e f moves =
    let v = run_to r u in
    let gap = (live_choice r i).gap in
    let back = AgreeTo-sym (u + 1) v.trace r.trace (agree-cut r u l) in
    let p = end_of-response r.trace i u f in
    let first = p.1 in
    let same : p.0 ≡ t = cc in
    let after : t ≤ u = let k = p.2 in omega arith in
    let response = response_clock_of-stays (u + 1) r.trace v.trace i t back (omega arith) e in
    let there = snoop_end_of-stays (u + 1) r.trace v.trace i x back (omega arith) snoop in
    let end = end_of-stays (u + 1) r.trace v.trace i x u back (omega arith) snoop (omega arith) f in
    let told = ap (λ q. snooped_at q x) (past-cut r u l) ∙ snooped-to (past_of r) u x low in
    let settled = settled-from v r i x there snoop told in
    let choice = live_choice-same r u i x l there in
    elim (cases_lt u (t + 3 * (1 + gap))) [
      | inr late ↦ late
      | inl early ↦
          let due : is_busy_from gap u t ≡ true =
          and_from _ _ (le-leb t u after) (lt-ltb u (t + 3 * (1 + gap)) early) in
          let busy : is_busy_at v (past_of v) u i ≡ true =
          and_from _ _ (ap (λ o. is_some_and o does_move) settled ∙ moves)
          (ap (λ o. is_some_and o (is_busy_from (live_choice v i).gap u)) response
          ∙ ap (λ c. is_busy_from c.gap u t) choice ∙ due) in
          absurd (no-end r i t u h l response end busy)
    ]
