-- A clock of a bench keeps its bytes.
use Rattle.fsb_bench_values.proofs.Words
use Words.{ℕ, Bool, Choice, bytes_now, Run, AgentView, bench_stepped, step_run, BenchView, IsBenchOf, HasBytesOf}
use Words.{HasKept, HasPushes, IsAgentBytes, state_now}
use Rattle.fsb_bench_values.proofs.ClockServed.{ClockServed, clock-served}
use Rattle.fsb_bench_values.proofs.EndBrings.{end-brings}
use Rattle.fsb_bench_values.proofs.EndBytes.{memory-next, moved-answered}
use Rattle.fsb_bench_values.proofs.ItemsServed.{IsAgentAt}
use Rattle.fsb_bench_values.proofs.NextBytes.{moved-next}
use Rattle.fsb_bench_values.proofs.OwedAnswered.{kept-answered}
use Rattle.fsb_bench_values.proofs.OwedNext.{kept-next, pushes-next}

-- the log of the clock is served
pub bench-served : (v : BenchView) (hold : Bool) (choice : Choice) → IsBenchOf v → HasBytesOf v
    → ClockServed v hold choice
bench-served v hold choice b h =
    clock-served v hold choice b h
    (end-brings v hold choice b (λ ending e moves. moved-answered v hold choice ending b h e moves)
    (λ a w at. kept-answered v hold choice a w b h at))

-- the bytes of an agent
agent-bytes : (r : Run) (a : ℕ) (w : AgentView) → IsAgentAt (state_now r) a w → HasKept (bytes_now r) w
    → HasPushes r (bytes_now r) w → IsAgentBytes r a w
unfolding bytes_now
agent-bytes r a w k kept pushes = record { last = k.last; copies = k.copies; kept = kept; pushes = pushes }

pub bytes-next : (v : BenchView) (hold : Bool) (choice : Choice) → IsBenchOf v → HasBytesOf v
    → HasBytesOf (bench_stepped v hold choice)
bytes-next v hold choice b h =
    let s = step_run v hold choice in
    let k = bench-served v hold choice b h in
    record {
      served = k.served;
      agents = λ a w at. agent-bytes s a w (k.agents a w at) (kept-next v hold choice a w b h at)
          (pushes-next v hold choice a w b h k at);
      moved = λ line e. moved-next v hold choice line b h e;
      memory = λ line. memory-next v hold choice line b h k.served;
    }
