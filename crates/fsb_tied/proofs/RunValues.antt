-- The machine's line in a timely run whose log is served and follows its scripts: its bytes, and those of the copies.
use Rattle.fsb_tied.proofs.Words
use Words.{ℕ, ◌≤◌, ◌≡◌, true, List, ◌∷◌, Some, length, ap, ◌∙◌, arith, start_memory, Link, MemoryLine, source}
use Words.{is_linked, ready_has_copy, holds_line, is_ready, line_bytes, Run, past_of, IsTiedTo, chain_below, may-below}
use Words.{HasValues, bytes_below, machine_line}
use Rattle.fsb_tied.proofs.KeptStores.{stores-kept}
use Rattle.fsb_tied.proofs.LineValues.{now-served}
use Rattle.fsb_tied.proofs.PlacedLogs.{log-placed}
use Rattle.fsb_tied.proofs.TiedRuns.{keeps-ties}
use Rattle.fsb_tied.proofs.Unlinked.{unlinked}

pub machine-tied : (r : Run) (line n : ℕ) → HasValues r → n ≤ length r.trace
    → IsTiedTo (past_of r) line n (machine_line r line n)
machine-tied r line n h l =
    (may-below (past_of r) line n (line_bytes (start_memory r.plan.mem) line)
    (λ c below. keeps-ties r line c h.timely h.bounds (omega arith))).1

-- the line has the bytes of the one byte memory
pub now-below-run : (r : Run) (line n : ℕ) → HasValues r → n ≤ length r.trace
    → (machine_line r line n).now ≡ bytes_below r line n
now-below-run r line n h l =
    now-served r line n h.timely.in_time h.served
    (log-placed r.plan.cache r.plan.scripts r.log h.in_order h.bounds.lawful_scripts)
    (λ c below. keeps-ties r line c h.timely h.bounds (omega arith))
    (λ c below. stores-kept r line c h.timely h.bounds (omega arith))

-- each ready copy has them
pub copies-below-run : (r : Run) (line n a : ℕ) → HasValues r → n ≤ length r.trace
    → holds_line (past_of r) a line n ≡ true → is_ready (past_of r) a line n ≡ true
    → (machine_line r line n).copy a ≡ bytes_below r line n
copies-below-run r line n a h l holds ready =
    let x : MemoryLine = machine_line r line n in
    let tied = machine-tied r line n h l in
    let free = unlinked r a line n h.timely l holds ready in
    let held = tied.tied.held a ∙ holds in
    let apart = ap (is_linked a) tied.tied.chain ∙ free in
    tied.valued.copies a (ready_has_copy x a held apart) ∙ now-below-run r line n h l

-- and so has the source of the oldest link
pub source-below-run : (r : Run) (line n : ℕ) (link : Link) (links : List Link) → HasValues r → n ≤ length r.trace
    → chain_below (past_of r) line n ≡ link ∷ links
    → source (machine_line r line n) link ≡ Some (bytes_below r line n)
source-below-run r line n link links h l chain =
    let tied = machine-tied r line n h l in
    tied.valued.oldest link links (tied.tied.chain ∙ chain) ∙ ap Some (now-below-run r line n h l)
