-- The line of the machine in the run of a bench and in the run with one more clock: it is the same at that clock, and
-- its bytes are those of the bench's run.
use Rattle.fsb_bench_values.proofs.Words
use Words.{ℕ, ◌+◌, ◌<◌, ◌≡◌, Bool, length, sym, ap, ◌∙◌, arith, option_and_then, option_map, start_memory, chain_below}
use Words.{is_moved_below, events_below-same, Choice, MemoryLine, longer, HasValues, machine_line, bytes-at-end}
use Words.{events-may-happen, memory-kept, now-below-run, begun_at, bytes_now, bytes_put, line_bytes, Moment, past_of}
use Words.{past-goes_on, step_run, BenchView, next_clock_of, IsBenchOf, before-growth, grows-to, timely-now, HasBytesOf}
use Rattle.fsb_access.specs.Replay.{Served}
use Rattle.fsb_coherent.specs.KeepsTie.{IsTiedTo}
use Rattle.fsb_bench_values.proofs.LogsInOrder.{log-in-order}

-- the run of a bench with its bytes has values
pub values-now : (v : BenchView) → IsBenchOf v → HasBytesOf v → HasValues v.run
values-now v b k =
    record { timely = b.timely; bounds = b.bounds; served = k.served; in_order = log-in-order v.run b.timely }

-- so has the longer run, where its log is served
pub values-next : (v : BenchView) (hold : Bool) (choice : Choice) → IsBenchOf v
    → Served v.run.plan.mem (step_run v hold choice).log → HasValues (step_run v hold choice)
values-next v hold choice b served =
    let timely = timely-now v hold choice b in
    record {
      timely = timely;
      bounds = b.bounds;
      served = served;
      in_order =
          log-in-order (step_run v hold choice) timely;
    }

-- the clock is one of the longer run
pub within : (v : BenchView) (hold : Bool) (choice : Choice) → IsBenchOf v
    → length (step_run v hold choice).trace ≡ next_clock_of v + 1
within v hold choice b = longer v.run (step_run v hold choice) (grows-to v hold choice b)

-- the line of the machine at the clock is that of the shorter run
pub same-line : (v : BenchView) (hold : Bool) (choice : Choice) (line : ℕ) → IsBenchOf v
    → machine_line (step_run v hold choice) line (next_clock_of v) ≡ machine_line v.run line (next_clock_of v)
same-line v hold choice line b =
    let grows = grows-to v hold choice b in
    grind (arith, events_below-same)

-- it is that of the longer run, too
pub line-tied : (v : BenchView) (hold : Bool) (choice : Choice) (line : ℕ) → IsBenchOf v
    → IsTiedTo (past_of (step_run v hold choice)) line (next_clock_of v)
    (machine_line (step_run v hold choice) line (next_clock_of v))
line-tied v hold choice line b =
    let s = step_run v hold choice in
    let size = within v hold choice b in
    (events-may-happen s line (next_clock_of v) (line_bytes (start_memory v.run.plan.mem) line)
    (timely-now v hold choice b)
    b.bounds (omega (arith, size))).1

pub old-tied : (v : BenchView) (line : ℕ) → IsBenchOf v
    → IsTiedTo (past_of v.run) line (next_clock_of v) (machine_line v.run line (next_clock_of v))
old-tied v line b =
    (events-may-happen v.run line (next_clock_of v) (line_bytes (start_memory v.run.plan.mem) line) b.timely b.bounds
    (omega arith)).1

-- its bytes, and those in memory
pub line-now : (v : BenchView) (hold : Bool) (choice : Choice) (line : ℕ) → IsBenchOf v → HasBytesOf v
    → (machine_line (step_run v hold choice) line (next_clock_of v)).now ≡ bytes_now v.run line
line-now v hold choice line b k =
    let h = values-now v b k in
    ap (λ (x : MemoryLine). x.now) (same-line v hold choice line b)
    ∙ now-below-run v.run line (next_clock_of v) h (omega arith) ∙ bytes-at-end v.run line h

pub line-memory : (v : BenchView) (hold : Bool) (choice : Choice) (line : ℕ) → IsBenchOf v → HasBytesOf v
    → (machine_line (step_run v hold choice) line (next_clock_of v)).memory ≡ bytes_put v.run line
line-memory v hold choice line b k =
    ap (λ (x : MemoryLine). x.memory) (same-line v hold choice line b) ∙ memory-kept v.run line (values-now v b k)

-- what moves at the clock, and the links there, are those of the shorter run
pub moved-old : (v : BenchView) (hold : Bool) (choice : Choice) (line : ℕ) → IsBenchOf v
    → is_moved_below (past_of (step_run v hold choice)) line (next_clock_of v)
    ≡ is_moved_below (past_of v.run) line (next_clock_of v)
moved-old v hold choice line b =
    sym (line-tied v hold choice line b).tied.moved
    ∙ ap (λ (x : MemoryLine). Rattle.std.specs.Prelude.is_some x.moved) (same-line v hold choice line b)
    ∙ (old-tied v line b).tied.moved

pub chain-old : (v : BenchView) (hold : Bool) (choice : Choice) (line : ℕ) → IsBenchOf v
    → chain_below (past_of (step_run v hold choice)) line (next_clock_of v)
    ≡ chain_below (past_of v.run) line (next_clock_of v)
chain-old v hold choice line b =
    sym (line-tied v hold choice line b).tied.chain ∙ ap (λ (x : MemoryLine). x.chain) (same-line v hold choice line b)
    ∙ (old-tied v line b).tied.chain

-- what began before
pub begun-old : (v : BenchView) (hold : Bool) (choice : Choice) (q : ℕ) → IsBenchOf v → q < next_clock_of v
    → begun_at (past_of v.run) q ≡ begun_at (past_of (step_run v hold choice)) q
unfolding begun_at
begun-old v hold choice q b l =
    let grows = grows-to v hold choice b in
    let goes = past-goes_on v.run (step_run v hold choice) grows.next (before-growth v.run _ grows) in
    ap (λ o. option_map (λ owing. owing.claim) (option_and_then (λ (m : Moment). m.begun) o)) (goes.same_moments q l)
