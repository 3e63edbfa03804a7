-- The states of a line in the machine at the sample of a clock are those of the run: the response and the hits of
-- the clock
-- are counted, and nothing else of it.
use Rattle.fsb_tied.proofs.Words
use Words.{ℕ, ◌<◌, ◌≡◌, ◌++◌, length, arith, Bytes, MemoryLine, unheld, run, is_held, is_modified, is_sole, holds_line}
use Words.{is_exclusive, is_dirty, line_state_of, Past, Run, past_of, Timely, KeepsBounds, events_below, hits_on}
use Words.{responds_on, AfterHits, AfterResponse, goes-on, hits-step, responds-step}
use Rattle.fsb_line.specs.declared.state.Mesi.{Mesi}
use Rattle.fsb_tied.proofs.ClocksOfRuns.{clock-facts}
use Rattle.fsb_tied.proofs.TiedRuns.{events-may-happen}

-- a state by who holds the line, has it for itself and is dirty on it
state-told : (p : Past) (a line n : ℕ) (state : Mesi) → is_held state ≡ holds_line p a line n
    → is_sole state ≡ is_exclusive p a line n → is_modified state ≡ is_dirty p a line n
    → state ≡ line_state_of p a line n
unfolding line_state_of
state-told p a line n state h1 h2 h3 = grind arith

-- with the response and the hits of n
pub state-at-sample : (r : Run) (a line n : ℕ) (bytes : Bytes) → Timely r → KeepsBounds r.plan → n < length r.trace
    → (run (run (unheld bytes) (events_below (past_of r) line n))
    (responds_on (past_of r) line n ++ hits_on (past_of r) line n)).state a
    ≡ line_state_of (past_of r) a line n
state-at-sample r a line n bytes h bounds l =
    let p : Past = past_of r in
    let x : MemoryLine = run (unheld bytes) (events_below p line n) in
    let tied = (events-may-happen r line n bytes h bounds (omega arith)).1 in
    let facts = clock-facts r line n h bounds l in
    let responded = responds-step p line n x facts.responds tied.valued tied.tied in
    let hit = goes-on x (responds_on p line n) (hits_on p line n) (AfterResponse p line n) (AfterHits p line n)
    responded
    (λ y s. hits-step p line n y facts.accesses s) in
    let state : Mesi = (run x (responds_on p line n ++ hits_on p line n)).state a in
    state-told p a line n state (hit.1.held a) (hit.1.sole a) (hit.1.modified a)
