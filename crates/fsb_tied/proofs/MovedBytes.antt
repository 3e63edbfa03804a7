-- The data of a line that are on the bus are, up to their end, those that their response put there.
use Rattle.fsb_tied.proofs.Words
use Words.{ℕ, zero, suc, ◌+◌, ◌<◌, ◌≤◌, ◌≡◌, true, false, not, ◌||◌, List, ◌++◌, Some, length, sym, ap, ◌∙◌, arith}
use Words.{and_parts, both_ways, not-true, Event, MemoryLine, run, is_ended, Past, Run, past_of, ClockFacts}
use Words.{does_end_on, does_respond_on, ends_on, events_at, events_below, others_on, responds_on, snoops_on}
use Words.{is_moved_below, events_before_snoop, run-append, HasValues, bytes_below, machine_line}
use Rattle.fsb_tied.proofs.AnswersInOrder.{answers-in-order}
use Rattle.fsb_tied.proofs.Awaiting.{awaited-there}
use Rattle.fsb_tied.proofs.InTurn.{ended-later, not-so, snooped-before}
use Rattle.fsb_tied.proofs.KeptStores.{clock-events}
use Rattle.fsb_tied.proofs.Moving.{IsMoved, moved-from, moves-from}
use Rattle.fsb_tied.proofs.RunValues.{machine-tied, source-below-run}
use Rattle.fsb_tied.proofs.StillEvents.{between-data, no-end-data, no-response, one-response}
use Rattle.fsb_tied.proofs.ClocksOfRuns.{clock-facts}

-- the line of the machine one clock on, by the events of the clock
pub next-line : (r : Run) (line n : ℕ)
    → machine_line r line (suc n) ≡ run (machine_line r line n) (events_at (past_of r) line n)
unfolding events_below
next-line r line n = run-append _ (events_below (past_of r) line n) (events_at (past_of r) line n)

-- and by these in two parts
pub next-parts : (r : Run) (line n : ℕ) → ClockFacts (past_of r) line n
    → machine_line r line (suc n)
    ≡ run (run (machine_line r line n) (events_before_snoop (past_of r) line n ++ snoops_on (past_of r) line n))
    (ends_on (past_of r) line n ++ others_on (past_of r) line n)
next-parts r line n facts =
    let p : Past = past_of r in
    let x : MemoryLine = machine_line r line n in
    let first : List Event = events_before_snoop p line n ++ snoops_on p line n in
    next-line r line n ∙ ap (run x) (clock-events p line n facts)
    ∙ run-append x first (ends_on p line n ++ others_on p line n)

-- where no end is awaited on the line at n, what is on the bus then is what is there behind the response
no-end-next : (r : Run) (line n : ℕ) → ClockFacts (past_of r) line n → does_end_on (past_of r) line n ≡ false
    → (machine_line r line (suc n)).moved ≡ (run (machine_line r line n) (responds_on (past_of r) line n)).moved
no-end-next r line n facts none =
    let p : Past = past_of r in
    let x : MemoryLine = machine_line r line n in
    let y : MemoryLine = run x (events_before_snoop p line n ++ snoops_on p line n) in
    ap (λ (z : MemoryLine). z.moved) (next-parts r line n facts)
    ∙ (no-end-data y p line n none).moved ∙ (between-data x p line n).moved

-- a response at n puts on the bus what the one byte memory has
responded-next : (r : Run) (line n : ℕ) → HasValues r → n < length r.trace → does_respond_on (past_of r) line n ≡ true
    → (run (machine_line r line n) (responds_on (past_of r) line n)).moved ≡ Some (bytes_below r line n)
responded-next r line n h l e =
    let p : Past = past_of r in
    let x : MemoryLine = machine_line r line n in
    let facts = clock-facts r line n h.timely h.bounds l in
    let oldest = facts.responds.oldest e in
    let tied = machine-tied r line n h (omega arith) in
    let put = one-response x p line n oldest.0 oldest.1 e (tied.tied.chain ∙ oldest.2) in
    put.0 ∙ source-below-run r line n oldest.0 oldest.1 h (omega arith) oldest.2

-- the response at u has put the data on the bus, and no end is awaited on the line from there up to n
pub record StaysMoved (r : Run) (line u n : ℕ) : Type 0 where
  pub before : u < n
  pub within : n ≤ length r.trace
  pub responds : does_respond_on (past_of r) line u ≡ true
  pub no_end : (c : ℕ) → u ≤ c → c < n → does_end_on (past_of r) line c ≡ false

-- so they are still those of the response
pub moved-since : (r : Run) (line u n : ℕ) → HasValues r → StaysMoved r line u n
    → (machine_line r line n).moved ≡ Some (bytes_below r line u)
moved-since r line u zero h k = let no : u < 0 = k.before in absurd (omega arith)
moved-since r line u (suc n) h k =
    grind (arith, clock-facts, no-end-next, machine-tied, no-response, responded-next, moved-since r line u n h)

-- data that are on the bus at n are there at each clock since their response
moved-between : (r : Run) (line n c : ℕ) → HasValues r → n ≤ length r.trace → (k : IsMoved (past_of r) line n)
    → k.response < c → c ≤ n → is_moved_below (past_of r) line c ≡ true
moved-between r line n c h l k from below =
    let p : Past = past_of r in
    let before = k.before in
    let gap = snooped-before p (length r.trace) k.response k.at k.end (answers-in-order r h.timely)
    (omega arith) k.there
    k.responds in
    moved-from p line c (record {
      at = k.at;
      end = k.end;
      there = k.there;
      below = omega arith;
      awaited = k.awaited;
      awaits = k.awaits;
      names = k.names;
      carried = k.carried;
      response = k.response;
      responds = k.responds;
      before = from;
      unended = not-so (is_ended p c k.end.first)
          (λ t. both_ways (is_ended p n k.end.first) k.unended (ended-later p c n k.end.first below t));
    })

pub stays-moved : (r : Run) (line n : ℕ) → HasValues r → n ≤ length r.trace → (k : IsMoved (past_of r) line n)
    → StaysMoved r line k.response n
stays-moved r line n h l k =
    let p : Past = past_of r in
    let before = k.before in
    let a = answers-in-order r h.timely in
    let gap = snooped-before p (length r.trace) k.response k.at k.end a (omega arith) k.there k.responds in
    record {
      before = before;
      within = l;
      responds = moves-from p line k.response k.end.first k.awaited k.responds
          (awaited-there p (length r.trace) k.response k.at k.end a (omega arith) k.there ∙ k.awaits) k.names k.carried;
      no_end = λ c from below.
          let facts = clock-facts r line c h.timely h.bounds (omega arith) in
          let there = moved-between r line n (c + 1) h l k (omega arith) (omega arith) in
          let both = sym facts.ends.moved ∙ there in
          not-true (does_end_on p line c)
          (and_parts (is_moved_below p line c || does_respond_on p line c) (not (does_end_on p line c)) both).1;
    }

-- data of the line that are on the bus are the bytes that the one byte memory has below their response
pub moved-below-run : (r : Run) (line n : ℕ) → HasValues r → n ≤ length r.trace → (k : IsMoved (past_of r) line n)
    → (machine_line r line n).moved ≡ Some (bytes_below r line k.response)
moved-below-run r line n h l k = moved-since r line k.response n h (stays-moved r line n h l k)
