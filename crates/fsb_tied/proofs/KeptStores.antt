-- Each clock of a timely run stores into a line what its entries on it store, in the order of the log.
use Rattle.fsb_tied.proofs.Words
use Words.{ℕ, ◌<◌, ◌≡◌, ◌++◌, List, length, sym, ap, ◌∙◌, append_assoc, Event, MemoryLine, run, stored_by_all}
use Words.{ordered_run, Past, Run, past_of, Timely, ClockFacts, IsTiedTo, ends_on, events_at, others_on, snoops_on}
use Words.{chain_below, events_before_snoop, events_from_snoop, events-in-two, first-events, links_new, run-append}
use Words.{snoop-step, KeepsBounds}
use Rattle.fsb_tied.proofs.ClocksOfRuns.{clock-facts}
use Rattle.fsb_tied.proofs.LineValues.{KeepsStores}
use Rattle.fsb_tied.proofs.StoredClocks.{StoresInOrder, clock-stores}
use Rattle.fsb_tied.proofs.StoreOrder.{stores-in-order}

-- the events of n up to its snoop end, and those behind it
pub clock-events : (p : Past) (line n : ℕ) → ClockFacts p line n
    → events_at p line n
    ≡ (events_before_snoop p line n ++ snoops_on p line n) ++ (ends_on p line n ++ others_on p line n)
unfolding events_from_snoop
clock-events p line n facts =
    let before = events_before_snoop p line n in
    events-in-two p line n facts.goes_on facts.begins
    ∙ ap (λ es. before ++ es) (append_assoc (snoops_on p line n) (ends_on p line n) (others_on p line n))
    ∙ sym (append_assoc before (snoops_on p line n) (ends_on p line n ++ others_on p line n))

-- behind the snoop end the links of the machine are those of the run, and the new one
pub chain-behind : (p : Past) (line n : ℕ) (x : MemoryLine) → ClockFacts p line n → IsTiedTo p line n x
    → (run x (events_before_snoop p line n ++ snoops_on p line n)).chain ≡ chain_below p line n ++ links_new p line n
chain-behind p line n x facts tied =
    let before : List Event = events_before_snoop p line n in
    let first = first-events p line n x facts tied.valued tied.tied in
    let last = snoop-step p line n (run x before) facts (ordered_run x before tied.ordered first.0) first.1 in
    ap (λ y. y.chain) (run-append x before (snoops_on p line n)) ∙ last.1.chain

pub keeps-stores : (p : Past) (line n : ℕ) → ClockFacts p line n → StoresInOrder p line n → KeepsStores p line n
keeps-stores p line n facts order x bytes tied =
    ap (λ es. stored_by_all x es bytes) (clock-events p line n facts)
    ∙ clock-stores x p line n (links_new p line n) bytes facts.ends order (chain-behind p line n x facts tied)

pub stores-kept : (r : Run) (line n : ℕ) → Timely r → KeepsBounds r.plan → n < length r.trace
    → KeepsStores (past_of r) line n
stores-kept r line n h bounds l =
    keeps-stores (past_of r) line n (clock-facts r line n h bounds l) (stores-in-order r line n h l)
