-- Rule 8: who asks for the bus in a timely run goes on until it begins a request, and then stops.
use Rattle.fsb_lawful.proofs.Words
use Words.{ℕ, zero, suc, ◌+◌, ◌-◌, ◌<◌, ◌≤◌, ◌≡◌, Bool, true, false, not, ◌&&◌, is_some, length, take, refl, sym, ap}
use Words.{◌∙◌, arith, if◌then◌else◌, and_parts, le-leb, each_where, any_where-off, each_where-at, BPRI, Marks, line_at}
use Words.{Who, Symmetric, Priority, Trace, line_back, is_asked_wrongly, is_some_asked_wrongly, begins_at}
use Words.{bus_request_of, request_line_of, breaks-8, winner_at-agree, Past, Run, past_of, past_to, run_to}
use Words.{asks_for_bus, asks_for_priority, began_before, drives_request_lines, due_number, reply_before, holds_in}
use Words.{holds_at, Timely, want_of, WantsLawfully, Keeps}
use Rattle.fsb_lawful.proofs.Cuts.{line-to}
use Rattle.fsb_lawful.proofs.CutRuns.{cuts-agree}
use Rattle.fsb_lawful.proofs.DuesStay.{dues-stay}
use Rattle.fsb_lawful.proofs.RepliesBegun.{reply-is}
use Rattle.fsb_lawful.proofs.WantsGoOn.{wants-go-on}
use Rattle.fsb_lawful.proofs.Keeping.{keeps, same-beq}

-- what is on the request lines
bus-by : (r : Run) (p : Past) (c a : ℕ) → drives_request_lines r p c ≡ true → a < 4
    → line_at (bus_request_of a) r.trace c ≡ (is_some (want_of p a c) && not (began_before r c (Symmetric a)))
unfolding drives_request_lines asks_for_bus
bus-by r p c a e l =
    same-beq _ _ (each_where-at (asks_for_bus r p c) 4
    (and_parts (each_where (asks_for_bus r p c) 4) (asks_for_priority r p c) e).0 a l)

priority-by : (r : Run) (p : Past) (c : ℕ) → drives_request_lines r p c ≡ true
    → line_at BPRI r.trace c ≡ (is_some (due_number r p c) && not (reply_before r c))
unfolding drives_request_lines asks_for_priority
priority-by r p c e = same-beq _ _ (and_parts (each_where (asks_for_bus r p c) 4) (asks_for_priority r p c) e).1

bus-at : (r : Run) (c a : ℕ) → Timely r → c < length r.trace → a < 4
    → line_at (bus_request_of a) (run_to r c).trace c
    ≡ (is_some (want_of (past_to (past_of r) c) a c) && not (began_before (run_to r c) c (Symmetric a)))
unfolding holds_at holds_in
bus-at r c a h l few = bus-by (run_to r c) (past_to (past_of r) c) c a (h.request_lines.at c l) few

priority-at : (r : Run) (c : ℕ) → Timely r → c < length r.trace
    → line_at BPRI (run_to r c).trace c
    ≡ (is_some (due_number (run_to r c) (past_to (past_of r) c) c) && not (reply_before (run_to r c) c))
unfolding holds_at holds_in
priority-at r c h l = priority-by (run_to r c) (past_to (past_of r) c) c (h.request_lines.at c l)

-- a line that is asserted while the agent asks, where it did not begin at the clock before
rightly : (began asked asks before now : Bool) → now ≡ (asks && not began) → (before ≡ true → asked ≡ true)
    → (asked ≡ true → began ≡ false → asks ≡ true)
    → (if began then now else (before && not now)) ≡ false
rightly began asked asks before now h1 h2 h3 = grind arith

-- who begins at a clock
begins-to : (r : Run) (d c : ℕ) (who : Who) → d ≤ c → c < length r.trace
    → begins_at (run_to r c).trace d who ≡ begins_at (run_to r d).trace d who
unfolding begins_at
begins-to r d c who l m = grind (arith, line-to, winner_at-agree, cuts-agree)

-- the rule at a clock that is not the first
after-first : (v : Trace) (d : ℕ) (who : Who)
    → is_asked_wrongly v (suc d) who
    ≡ (if begins_at v d who then line_at (request_line_of who) v (suc d)
    else (line_at (request_line_of who) v d && not (line_at (request_line_of who) v (suc d))))
unfolding is_asked_wrongly line_back
after-first v d who = grind arith

at-first : (v : Trace) (who : Who) → is_asked_wrongly v zero who ≡ false
unfolding is_asked_wrongly line_back
at-first v who = grind arith

began-is : (v : Run) (d : ℕ) (who : Who) → began_before v (suc d) who ≡ begins_at v.trace d who
unfolding began_before
began-is v d who = let one : suc d - 1 ≡ d = omega arith in rw (one, le-leb 1 (suc d) (omega arith)) refl

asked-by : (a b : Bool) → (a && not b) ≡ true → a ≡ true
asked-by a b h1 = grind arith

symmetric : (r : Run) (d a : ℕ) → Timely r → suc d < length r.trace → a < 4
    → is_asked_wrongly (run_to r (suc d)).trace (suc d) (Symmetric a) ≡ false
unfolding request_line_of
symmetric r d a h l few =
    grind (arith, bus-at, began-is, line-to, after-first, rightly, asked-by, wants-go-on, begins-to)

priority : (r : Run) (d : ℕ) → Timely r → WantsLawfully r → r.plan.ahead ≤ 4 → suc d < length r.trace
    → is_asked_wrongly (run_to r (suc d)).trace (suc d) Priority ≡ false
unfolding request_line_of
priority r d h wants few l =
    let v = run_to r (suc d) in
    let now = priority-at r (suc d) h l
    ∙ ap (λ b. is_some (due_number v (past_to (past_of r) (suc d)) (suc d)) && not b)
    (reply-is r d h wants few l) in
    let before = sym (line-to BPRI r d (suc d) (omega arith) l) ∙ priority-at r d h (omega arith) in
    after-first v.trace d Priority
    ∙ rightly (begins_at v.trace d Priority) (is_some (due_number (run_to r d) (past_to (past_of r) d) d))
    (is_some (due_number v (past_to (past_of r) (suc d)) (suc d))) (line_at BPRI v.trace d)
    (line_at BPRI v.trace (suc d)) now
    (λ t. asked-by _ _ (sym before ∙ t)) (λ t f. dues-stay r d h wants few l t f)

at-clock : (r : Run) (c : ℕ) → Timely r → WantsLawfully r → r.plan.ahead ≤ 4 → c < length r.trace
    → is_some_asked_wrongly (run_to r c).trace c ≡ false
unfolding is_some_asked_wrongly
at-clock r zero h wants few l = grind (arith, any_where-off, at-first)
at-clock r (suc d) h wants few l = grind (arith, any_where-off, symmetric, priority)

-- rule 8
pub keeps-8 : (m : Marks) (r : Run) → Timely r → WantsLawfully r → r.plan.ahead ≤ 4 → Keeps m 8 r.trace
unfolding run_to
keeps-8 m r h wants few = keeps m 8 r.trace (λ c l. breaks-8 m (take (c + 1) r.trace) c ∙ at-clock r c h wants few l)
