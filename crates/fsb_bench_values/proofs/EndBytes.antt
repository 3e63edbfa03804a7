-- The end of a bench's clock: the data that it brings are on the bus, and memory takes them where it does in the run.
use Rattle.fsb_bench_values.proofs.Words
use Words.{ℕ, suc, ◌+◌, ◌<◌, ◌≡◌, Bool, true, false, if◌then◌else◌, List, [], ◌∷◌, Option, Some, None, is_some, length}
use Words.{sym, ap, ◌∙◌, inl, inr, arith, ◌==◌, cond, unwrap_or, option_map_or, both_ways, cases_Bool, cases_eq, eq-eqb}
use Words.{eqb-true, ne_eqb, Awaited, awaited_at, awaited_by, does_end_on, does_respond_on, is_moved_below, Choice}
use Words.{Link, Bytes, MemoryLine, brought, carries, feeds_memory, HasValues, machine_line, EndsLine, answers-in-order}
use Words.{awaited-there, between-data, clock-facts, end-memory, end-on, ending_link, ends-line, ends-on}
use Words.{line_before_end, memory-kept, moved-from, no-end-memory, no-response, not-so, puts-line, ungiven}
use Words.{ended_requests, is_end_at, snooped_at, bytes_now, bytes_put, Past, SnoopEnd, Run, past_of, does_move}
use Words.{does_take, Outcome, Ending, bench_stepped, step_answered, step_ending, step_run, bus_ended, memory_ended}
use Words.{BenchView, BusView, next_clock_of, IsBenchOf, timely-now, HasBytesOf}
use Rattle.fsb_access.specs.Replay.{Served}
use Rattle.fsb_bench_values.proofs.EndsNow.{EndsNow, ends-cases}
use Rattle.fsb_bench_values.proofs.Fetched.{moved-fetched}
use Rattle.fsb_bench_values.proofs.HitBytes.{bytes_hit}
use Rattle.fsb_bench_values.proofs.NextBytes.{awaits-data, before-end, moved-linked}
use Rattle.fsb_bench_values.proofs.RunsValues.{line-memory, line-now, line-tied, values-next, within}
use Rattle.fsb_bench_values.proofs.StillBytes.{hits-leave}

one-of : {X : Type 0} (a b : X) → Some a ≡ Some b → a ≡ b
one-of a b e = cc

one-ending : (a b : Ending) → Some a ≡ Some b → a ≡ b
one-ending a b e = cc

-- the end of the clock is the only one, and is awaited so
awaited-at-end : (v : BenchView) (hold : Bool) (choice : Choice) (awaited : Awaited) → IsBenchOf v
    → (k : EndsNow v hold choice) → awaited_by k.end ≡ Some awaited
    → awaited_at (past_of (step_run v hold choice)) (next_clock_of v) k.end.first ≡ Some awaited
awaited-at-end v hold choice awaited b k e =
    let s = step_run v hold choice in
    let before = k.is.before in
    let upto = k.is.upto in
    awaited-there (past_of s) (length s.trace) (next_clock_of v) k.is.snoop k.end
    (answers-in-order s (timely-now v hold choice b)) (omega arith) k.there
    ∙ e

-- what the line's end of the clock is, is that of the bench
pub same-end : (v : BenchView) (hold : Bool) (choice : Choice) (line : ℕ) → IsBenchOf v → (k : EndsNow v hold choice)
    → (x : EndsLine (step_run v hold choice) line (next_clock_of v)) → x.end ≡ k.end
unfolding is_end_at
same-end v hold choice line b k x =
    let s = step_run v hold choice in
    let p = past_of s in
    let a = answers-in-order s (timely-now v hold choice b) in
    let first : k.end.first ≡ x.end.first = listed p (next_clock_of v) x.end.first k.end.first x.alone k.ends in
    let at : x.at ≡ k.is.snoop = a.one_snoop x.at k.is.snoop x.end k.end x.tied.there k.there (sym first) in
    one-of x.end k.end (sym x.tied.there ∙ ap (snooped_at p) at ∙ k.there)
  where
    listed : (p : Past) (n q x : ℕ) → ended_requests p n ≡ q ∷ [] → is_end_at p n x ≡ true → x ≡ q
    listed p n q x e f = grind (arith, eqb-true)

-- the line to which an end brings data has them on the bus
pub ends-moved : (v : BenchView) (hold : Bool) (choice : Choice) → IsBenchOf v → (k : EndsNow v hold choice)
    → does_move k.end.outcome ≡ true
    → is_moved_below (past_of (step_run v hold choice)) k.served.request.line (next_clock_of v) ≡ true
ends-moved v hold choice b k moves =
    let s = step_run v hold choice in
    let p = past_of s in
    let n = next_clock_of v in
    let size = within v hold choice b in
    let timely = timely-now v hold choice b in
    let before = k.is.before in
    let upto = k.is.upto in
    let w = awaits-data s k.is.snoop k.end timely b.bounds (omega (arith, size)) k.there moves k.serves.reply in
    let line = k.serves.awaits w.awaited w.awaits in
    let at = awaited-at-end v hold choice w.awaited b k w.awaits in
    let ends = end-on p k.served.request.line n k.end.first w.awaited k.ends at line in
    let x = ends-line s k.served.request.line n timely (omega (arith, size)) (ends-on p k.served.request.line n ends) in
    let same = same-end v hold choice k.served.request.line b k x in
    let alone : ended_requests p n ≡ k.end.first ∷ [] = x.alone ∙ ap (λ (y : SnoopEnd). y.first ∷ []) same in
    let facts = clock-facts s k.served.request.line n timely b.bounds (omega (arith, size)) in
    let oldest = facts.ends.oldest k.end.first w.awaited alone at line in
    oldest.4 w.carried

-- so the bus has them, as they are after the hits
pub moved-answered : (v : BenchView) (hold : Bool) (choice : Choice) (ending : Ending) → IsBenchOf v → HasBytesOf v
    → step_ending v hold ≡ Some ending → does_move ending.outcome ≡ true
    → (step_answered v hold).moved ≡ bytes_hit v ending.served.request.line
moved-answered v hold choice ending b h e moves = elim (ends-cases v hold choice b) [
  | inr c ↦ absurd (let no : None ≡ Some ending = sym c.ending ∙ e in cc)
  | inl k ↦
      let same = one-ending (record { served = k.served; outcome = k.end.outcome }) ending (sym k.ending ∙ e) in
      let outcome : k.end.outcome ≡ ending.outcome = ap (λ (x : Ending). x.outcome) same in
      let served : k.served.request.line ≡ ending.served.request.line = grind arith in
      let s = step_run v hold choice in
      let n = next_clock_of v in
      let size = within v hold choice b in
      let moved = ends-moved v hold choice b k (ap does_move outcome ∙ moves) in
      let link = moved-linked s k.served.request.line n
      (timely-now v hold choice b) b.bounds (omega (arith, size)) moved in
      (before-end v hold).0 ∙ moved-fetched v hold choice k.served.request.line b h moved
      ∙ sym (hits-leave v hold choice k.served.request.line link.0 link.1 b link.2) ∙ ap (bytes_hit v) served
]

-- ---- memory

-- what an end puts into memory: what it brings, if its link has a giver
fed : (y : MemoryLine) (link : Link) (bytes before : Bytes) → is_some link.giver ≡ true → carries link ≡ true
    → y.moved ≡ Some bytes → cond (feeds_memory link) (unwrap_or (brought y link) []) before ≡ bytes
fed y link bytes before gives carried moved = grind arith

unfed : (y : MemoryLine) (link : Link) (before : Bytes) → link.giver ≡ None
    → cond (feeds_memory link) (unwrap_or (brought y link) []) before ≡ before
unfed y link before none = ap (λ o. cond (is_some o) (unwrap_or (brought y link) []) before) none

-- an end that puts its line into memory puts there the bytes of the line
end-puts : (v : BenchView) (hold : Bool) (choice : Choice) (line : ℕ) → IsBenchOf v → HasBytesOf v
    → HasValues (step_run v hold choice) → (x : EndsLine (step_run v hold choice) line (next_clock_of v))
    → does_take x.end.outcome ≡ true
    → (machine_line (step_run v hold choice) line (suc (next_clock_of v))).memory ≡ bytes_now v.run line
end-puts v hold choice line b k h x takes =
    let s = step_run v hold choice in
    let p : Past = past_of s in
    let n = next_clock_of v in
    let size = within v hold choice b in
    let l : n < length s.trace = omega (arith, size) in
    let put = puts-line s line n x h l takes in
    let before : MemoryLine = machine_line s line n in
    let y : MemoryLine = line_before_end s line n in
    let facts = clock-facts s line n h.timely h.bounds l in
    let there = moved-from p line n put.moved in
    let none = not-so (does_respond_on p line n) (λ t. both_ways (is_moved_below p line n)
    (facts.responds.unmoved t) there) in
    let tied = line-tied v hold choice line b in
    let moved : y.moved ≡ Some before.now = grind (arith, between-data, no-response) in
    end-memory s line n x h l ∙ fed y (ending_link s line n x) before.now before.memory put.gives put.carried moved
    ∙ line-now v hold choice line b k

-- one that does not leaves what memory has
end-leaves : (v : BenchView) (hold : Bool) (choice : Choice) (line : ℕ) → IsBenchOf v → HasBytesOf v
    → HasValues (step_run v hold choice) → (x : EndsLine (step_run v hold choice) line (next_clock_of v))
    → does_take x.end.outcome ≡ false
    → (machine_line (step_run v hold choice) line (suc (next_clock_of v))).memory ≡ bytes_put v.run line
end-leaves v hold choice line b k h x none =
    let s = step_run v hold choice in
    let n = next_clock_of v in
    let size = within v hold choice b in
    let giver = ungiven (past_of s) line x.at x.awaited.agent x.end none in
    end-memory s line n x h (omega (arith, size))
    ∙ unfed (line_before_end s line n) (ending_link s line n x) (machine_line s line n).memory giver
    ∙ line-memory v hold choice line b k

no-end-leaves : (v : BenchView) (hold : Bool) (choice : Choice) (line : ℕ) → IsBenchOf v → HasBytesOf v
    → HasValues (step_run v hold choice) → does_end_on (past_of (step_run v hold choice)) line (next_clock_of v) ≡ false
    → (machine_line (step_run v hold choice) line (suc (next_clock_of v))).memory ≡ bytes_put v.run line
no-end-leaves v hold choice line b k h none =
    let size = within v hold choice b in
    no-end-memory (step_run v hold choice) line (next_clock_of v) h (omega (arith, size)) none
    ∙ line-memory v hold choice line b k

-- the memory of a bench after an end
taken : (memory : ℕ → List ℕ) (line other : ℕ) (bytes : List ℕ) (o : Outcome) → does_take o ≡ true
    → memory_ended memory line bytes o other ≡ (if other == line then bytes else memory other)
unfolding does_take
taken memory line other bytes o h1 = grind arith

untaken : (memory : ℕ → List ℕ) (line other : ℕ) (bytes : List ℕ) (o : Outcome) → does_take o ≡ false
    → memory_ended memory line bytes o other ≡ memory other
unfolding does_take
untaken memory line other bytes o h1 = grind arith

takes-move : (outcome : Outcome) → does_take outcome ≡ true → does_move outcome ≡ true
unfolding does_take does_move
takes-move outcome h1 = grind arith

-- with this end
memory-by-end : (v : BenchView) (hold : Bool) (choice : Choice) (line : ℕ) → IsBenchOf v → HasBytesOf v
    → HasValues (step_run v hold choice) → (k : EndsNow v hold choice)
    → memory_ended (step_answered v hold).memory k.served.request.line (step_answered v hold).moved k.end.outcome line
    ≡ (machine_line (step_run v hold choice) line (suc (next_clock_of v))).memory
memory-by-end v hold choice line b h values k = elim (cases_Bool (does_take k.end.outcome)) [
  | inr none ↦
      untaken (step_answered v hold).memory k.served.request.line line (step_answered v hold).moved k.end.outcome none
      ∙ (before-end v hold).1 line ∙ h.memory line
      ∙ sym (elim (cases_Bool (does_end_on p line n)) [
        | inr off ↦ no-end-leaves v hold choice line b h values off
        | inl on ↦
            let x = ends-line s line n values.timely (omega (arith, size)) (ends-on p line n on) in
            end-leaves v hold choice line b h values x
            (ap (λ (y : SnoopEnd). does_take y.outcome) (same-end v hold choice line b k x) ∙ none)
      ])
  | inl takes ↦
      taken (step_answered v hold).memory k.served.request.line line (step_answered v hold).moved k.end.outcome takes
      ∙ (elim (cases_eq line k.served.request.line) [
        | inl here ↦
            let moved = ends-moved v hold choice b k (takes-move k.end.outcome takes) in
            let before = k.is.before in
            let upto = k.is.upto in
            let w = awaits-data s k.is.snoop k.end values.timely b.bounds (omega (arith, size)) k.there
            (takes-move k.end.outcome takes) k.serves.reply in
            let at = awaited-at-end v hold choice w.awaited b k w.awaits in
            let on = end-on p line n k.end.first w.awaited k.ends at (k.serves.awaits w.awaited w.awaits ∙ sym here) in
            let x = ends-line s line n values.timely (omega (arith, size)) (ends-on p line n on) in
            let puts = end-puts v hold choice line b h values x
            (ap (λ (y : SnoopEnd). does_take y.outcome) (same-end v hold choice line b k x) ∙ takes) in
            ap (λ (t : Bool). if t then (step_answered v hold).moved else (step_answered v hold).memory line)
            (eq-eqb line k.served.request.line here)
            ∙ (before-end v hold).0 ∙ moved-fetched v hold choice k.served.request.line b h moved
            ∙ ap (bytes_now v.run) (sym here) ∙ sym puts
        | inr other ↦
            let off = not-so (does_end_on p line n) (λ on.
            let x = ends-line s line n values.timely (omega (arith, size)) (ends-on p line n on) in
            let same = same-end v hold choice line b k x in
            other (sym x.names ∙ k.serves.awaits x.awaited (ap awaited_by (sym same) ∙ x.awaits))) in
            ap (λ (t : Bool). if t then (step_answered v hold).moved else (step_answered v hold).memory line)
            (ne_eqb line k.served.request.line other)
            ∙ (before-end v hold).1 line ∙ h.memory line ∙ sym (no-end-leaves v hold choice line b h values off)
      ])
]
  where
    s : Run
    s = step_run v hold choice

    p : Past
    p = past_of s

    n : ℕ
    n = next_clock_of v

    size : length s.trace ≡ n + 1
    size = within v hold choice b

ended-memory : (bus : BusView) (clock line : ℕ) (o : Option Ending) (ending : Ending) → o ≡ Some ending
    → (option_map_or (bus_ended bus clock) o bus).memory line
    ≡ memory_ended bus.memory ending.served.request.line bus.moved ending.outcome line
ended-memory bus clock line o ending e = ap (λ x. (option_map_or (bus_ended bus clock) x bus).memory line) e

-- the memory of a bench after a clock has what was put there last
pub memory-next : (v : BenchView) (hold : Bool) (choice : Choice) (line : ℕ) → IsBenchOf v → HasBytesOf v
    → Served v.run.plan.mem (step_run v hold choice).log
    → (bench_stepped v hold choice).bus.memory line ≡ bytes_put (step_run v hold choice) line
memory-next v hold choice line b h served =
    let s = step_run v hold choice in
    let n = next_clock_of v in
    let values = values-next v hold choice b served in
    let size = within v hold choice b in
    let last : suc n ≡ length s.trace = omega (arith, size) in
    let kept = ap (λ m. (machine_line s line m).memory) last ∙ memory-kept s line values in
    elim (ends-cases v hold choice b) [
      | inl k ↦
          ended-memory (step_answered v hold) n line (step_ending v hold)
          (record { served = k.served; outcome = k.end.outcome }) k.ending
          ∙ memory-by-end v hold choice line b h values k ∙ kept
      | inr c ↦
          let off = not-so (does_end_on (past_of s) line n) (λ on.
          let x = ends-on (past_of s) line n on in
          both_ways (is_end_at (past_of s) n x.number) (c.none x.number) x.ends) in
          ap (λ o. (option_map_or (bus_ended (step_answered v hold) n) o (step_answered v hold)).memory line) c.ending
          ∙ (before-end v hold).1 line ∙ h.memory line ∙ sym (no-end-leaves v hold choice line b h values off) ∙ kept
    ]
