-- Who wins the bus two clocks after nothing began has something to begin: it asked two clocks before, and still
-- wants it.
use Rattle.fsb_bench_run.proofs.Words
use Words.{ℕ, ◌+◌, ◌-◌, ◌<◌, ◌≤◌, ◌≡◌, ◌&&◌, ◌||◌, Bool, true, false, not, List, [], Option, Some, None, is_some}
use Words.{length, nat_le, nat_lt, refl, sym, ap, subst, ◌∙◌, arith, find, option_map, and_parts, ltb-false, each_where}
use Words.{first_where, each_where-at, first_where-found, ADS, BPRI, LOCK, line_at, GoesOn, GrowsTo, Owing, Past, Run}
use Words.{past_of, past_to, run_to, Need, is_idling, needs_from, window, asks_for_bus, asks_for_priority, began_before}
use Words.{drives_request_lines, due_number, reply_before, Timely, holds_at, holds_in, is_asked_for, is_missing}
use Words.{is_same_set, is_set_taken, owed, want_of, set_of, below_le, done_below, going-alike, is_idling-alike}
use Words.{is_met-alike, owed-same, past-begins, run_to-agrees, timely-want-stays, want_of-alike, window-alike, Trace}
use Words.{Requesters, agent_in_order, asks_in_order, begins_at, bus_request_of, first_asking, first_in_order, is_agent}
use Words.{last_if_asking, request_line_of, requesters_before, winner_after, winner_at, winner_by, Who, Symmetric}
use Words.{Priority, line_at-agree}
use Rattle.fsb_lawful.proofs.Interface as lawful
use Rattle.fsb_timely.specs.Staying.{OwesNoMore}

-- the winner's request line is there two clocks before
last-asks : (w : Trace) (d : ℕ) (o : Option Who) (who : Who) → last_if_asking w d o ≡ Some who
    → line_at (request_line_of who) w d ≡ true
unfolding last_if_asking
last-asks w d o who h1 = grind arith

first-asks : (w : Trace) (d first : ℕ) (who : Who) → option_map Symmetric (first_asking w d first) ≡ Some who
    → line_at (request_line_of who) w d ≡ true
unfolding first_asking asks_in_order request_line_of
first-asks w d first who e = by (first_where (asks_in_order w d first) 4) refl e
  where
    by : (o : Option ℕ) → first_where (asks_in_order w d first) 4 ≡ o
        → option_map Symmetric (option_map (agent_in_order first) o) ≡ Some who
        → line_at (request_line_of who) w d ≡ true
    by None f e = absurd (let no : ⊥ = cc in no)
    by (Some k) f e =
        let found = (first_where-found (asks_in_order w d first) 4 k f).1 in
        let same : Symmetric (agent_in_order first k) ≡ who = cc in
        subst (λ x. line_at (request_line_of x) w d ≡ true) same found

winner-asks-by : (w : Trace) (d : ℕ) (requesters : Requesters) (who : Who) → winner_by w d requesters ≡ Some who
    → line_at (request_line_of who) w d ≡ true
unfolding winner_by request_line_of
winner-asks-by w d requesters who e = by (line_at LOCK w d) (line_at BPRI w d) refl e
  where
    by : (lock priority : Bool) → line_at BPRI w d ≡ priority
        → (elim lock [
          | true ↦ last_if_asking w d requesters.0
          | false ↦ elim priority [
            | true ↦ Some Priority
            | false ↦ option_map Symmetric (first_asking w d (first_in_order requesters.1))
          ]
        ]) ≡ Some who
        → line_at (request_line_of who) w d ≡ true
    by true priority f e = last-asks w d requesters.0 who e
    by false true f e =
        let same : Priority ≡ who = cc in subst (λ x. line_at (request_line_of x) w d ≡ true) same f
    by false false f e = first-asks w d (first_in_order requesters.1) who e

pub winner-asks : (w : Trace) (c : ℕ) (who : Who) → winner_at w c ≡ Some who
    → (2 ≤ c) × (line_at (request_line_of who) w (c - 2) ≡ true)
unfolding winner_at winner_after
winner-asks w c who e = by (nat_lt c 2) refl e
  where
    by : (b : Bool) → nat_lt c 2 ≡ b
        → (elim b [ true ↦ None | false ↦ winner_by w (c - 2) (requesters_before w c) ]) ≡ Some who
        → (2 ≤ c) × (line_at (request_line_of who) w (c - 2) ≡ true)
    by true f e = absurd (let no : ⊥ = cc in no)
    by false f e = (ltb-false c 2 f, winner-asks-by w (c - 2) (requesters_before w c) who e)

asked-by : (a b : Bool) → (a && not b) ≡ true → a ≡ true
asked-by a b h1 = grind arith

-- who asks for the bus wants something
asks-wants : (r : Run) (c a : ℕ) → Timely r → c < length r.trace → a < 4 → line_at (bus_request_of a) r.trace c ≡ true
    → is_some (want_of (past_to (past_of r) c) a c) ≡ true
unfolding holds_at holds_in drives_request_lines asks_for_bus
asks-wants r c a h l few e =
    let u = run_to r c in
    let p = past_to (past_of r) c in
    let lines = (and_parts (each_where (asks_for_bus u p c) 4) (asks_for_priority u p c) (h.request_lines.at c l)).0 in
    let told = lawful.same-beq _ _ (each_where-at (asks_for_bus u p c) 4 lines a few) in
    asked-by (is_some (want_of p a c)) (began_before u c (Symmetric a))
    (sym told ∙ sym (line_at-agree (bus_request_of a) (c + 1) r.trace u.trace c (run_to-agrees r c l)
    (omega arith)) ∙ e)

-- for the priority agent a reply is due
pub asks-due : (r : Run) (c : ℕ) → Timely r → c < length r.trace → line_at BPRI r.trace c ≡ true
    → is_some (due_number (run_to r c) (past_to (past_of r) c) c) ≡ true
unfolding holds_at holds_in drives_request_lines asks_for_priority
asks-due r c h l e =
    let u = run_to r c in
    let p = past_to (past_of r) c in
    let line = (and_parts (each_where (asks_for_bus u p c) 4) (asks_for_priority u p c) (h.request_lines.at c l)).1 in
    let told = lawful.same-beq _ _ line in
    asked-by (is_some (due_number u p c)) (reply_before u c)
    (sym told ∙ sym (line_at-agree BPRI (c + 1) r.trace u.trace c (run_to-agrees r c l) (omega arith)) ∙ e)

some-is : {A : Type 0} (o : Option A) → is_some o ≡ true → (x : A) × (o ≡ Some x)
some-is o h1 = grind arith

none-begins : (r : Run) (c : ℕ) (who : Who) → c < length r.trace → line_at ADS r.trace c ≡ false
    → begins_at (run_to r c).trace c who ≡ false
unfolding begins_at
none-begins r c who l off =
    let u = (run_to r c).trace in
    ap (λ b. b && is_agent (winner_at u c) who)
    (sym (line_at-agree ADS (c + 1) r.trace u c (run_to-agrees r c l) (omega arith)) ∙ off)

-- a want stays while nothing begins
want-last : (r : Run) (a c : ℕ) → Timely r → c < length r.trace → line_at ADS r.trace c ≡ false
    → is_some (want_of (past_of r) a c) ≡ true → is_some (want_of (past_of r) a (c + 1)) ≡ true
want-last r a c h l off some =
    let want = some-is (want_of (past_of r) a c) some in
    let grants = lawful.grants-are-owed r h in
    let less = lawful.owes-less r a c h l (none-begins r c (Symmetric a) l off) in
    let owes : OwesNoMore (past_of r) a c = record {
      among = less.among;
      fewer = less.fewer;
      granted = λ line e. grants.granted a c line l e;
      brought = λ need e. grants.brought a c need l e;
    } in
    ap (λ o. is_some o) (timely-want-stays r a c want.0 h l owes want.1).1

some-mapped : {A B : Type 0} (f : A → B) (o : Option A) → is_some (option_map f o) ≡ is_some o
some-mapped f o = grind arith

-- whether an agent wants something, by what it misses
abbrev misses_with : Past → ℕ → ℕ → List Owing → Bool
misses_with p a c owings =
    elim (is_idling p a c || nat_le p.plan.ahead (length owings)) [
      | true ↦ false
      | false ↦ is_some (find (is_missing p a c owings) (needs_from [] (window p a c)))
    ]

wants-missing : (p : Past) (a c : ℕ) → is_some (want_of p a c) ≡ misses_with p a c (owed p a c)
unfolding want_of
wants-missing p a c = grind arith

taken-alike : (n : ℕ) (p q : Past) (owings : List Owing) (lines : List ℕ) (line : ℕ) → GoesOn n p q
    → is_set_taken p owings lines line ≡ is_set_taken q owings lines line
unfolding is_set_taken is_same_set set_of
taken-alike n p q owings lines line h = grind arith

missing-alike : (n : ℕ) (p q : Past) (a : ℕ) (owings : List Owing) (need : Need) → GoesOn n p q
    → is_missing p a n owings need ≡ is_missing q a n owings need
unfolding is_missing
missing-alike n p q a owings need h =
    let met = is_met-alike n p q a n need h (omega arith) in
    let taken = taken-alike n p q owings need.earlier need.line h in
    λ i. not (met i) && not (is_asked_for owings need.line) && not (taken i)

-- whether an agent wants something rests on the past below the clock alone
pub wanting-alike : (n : ℕ) (p q : Past) (a : ℕ) → GoesOn n p q → is_some (want_of p a n) ≡ is_some (want_of q a n)
wanting-alike n p q a h =
    let plan = h.same_plan in
    let owings = owed-same n p q a n (going-alike n p q h) (omega arith) in
    let idling = is_idling-alike n p q a n h (omega arith) in
    let items = window-alike n p q a n h (omega arith) in
    let missing : (need : Need) → is_missing p a n (owed p a n) need ≡ is_missing q a n (owed p a n) need =
    λ need. missing-alike n p q a (owed p a n) need h in
    let same : misses_with p a n (owed p a n) ≡ misses_with q a n (owed p a n) =
    (λ i. elim (idling i || nat_le (plan i).ahead (length (owed p a n))) [
      | true ↦ false
      | false ↦ is_some (find (λ need. missing need i) (needs_from [] (items i)))
    ]) in
    wants-missing p a n ∙ same ∙ ap (misses_with q a n) owings ∙ sym (wants-missing q a n)

-- a symmetric winner wants something
pub winner-wants : (r s : Run) (a : ℕ) → GrowsTo r s → (goes : GoesOn (length r.trace) (past_of r) (past_of s))
    → a < 4 → winner_at r.trace (length r.trace) ≡ Some (Symmetric a)
    → ((q : ℕ) → length r.trace ≤ q + 2 → q < length r.trace → line_at ADS r.trace q ≡ false)
    → is_some (want_of (past_of s) a (length r.trace)) ≡ true
unfolding request_line_of
winner-wants r s a grows goes few won quiet =
    let n = length r.trace in
    let h = grows.timely in
    let asks = winner-asks r.trace n (Symmetric a) won in
    let low : 2 ≤ n = asks.0 in
    let d = n - 2 in
    let l : d < n = omega arith in
    let before = asks-wants r d a h l few asks.1 in
    let g = past-begins r d h l in
    let same = want_of-alike (d + 1) (past_to (past_of r) d) (past_of r) a d g (below_le d (d + 1) (omega arith))
    (done_below (d + 1) (past_to (past_of r) d) a d g.entries (omega arith) g.at_end) in
    let one = want-last r a d h l (quiet d (omega arith) l) (ap (λ o. is_some o) (sym same) ∙ before) in
    let two = want-last r a (d + 1) h (omega arith) (quiet (d + 1) (omega arith) (omega arith)) one in
    let size : d + 1 + 1 ≡ n = omega arith in
    sym (wanting-alike n (past_of r) (past_of s) a goes) ∙ ap (λ c. is_some (want_of (past_of r) a c)) (sym size) ∙ two
