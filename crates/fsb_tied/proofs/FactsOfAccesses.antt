-- The accesses of each clock of a timely run are served.
use Rattle.fsb_tied.proofs.Words
use Words.{ℕ, ◌<◌, length, arith, Run, past_of, Timely, AccessesServed}
use Rattle.fsb_tied.proofs.ServedAccesses.{hits-served, others-served}
use Rattle.fsb_tied.proofs.Unlinked.{arrived-ready, unlinked}

pub accesses-served : (r : Run) (line n : ℕ) → Timely r → n < length r.trace → AccessesServed (past_of r) line n
accesses-served r line n h l = grind (arith, hits-served, others-served, unlinked, arrived-ready)
