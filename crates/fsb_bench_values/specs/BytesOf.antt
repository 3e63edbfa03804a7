-- The bytes of a bench: those of the one byte memory, after the log of its run is served.
use Rattle.std.specs.Prelude.{◌≡◌, ℕ, true, List, length, Some, slice_get}
use Rattle.fsb_access.specs.Replay.{ReplayState, Served, replay, start_of}
use Rattle.fsb_cache.specs.Sets.{copies}
use Rattle.fsb_coherent.specs.Relation.{is_moved_below}
use Rattle.fsb_line.specs.States.{is_held}
use Rattle.fsb_linebuf.specs.declared.entry.Push.{Push}
use Rattle.fsb_timely.specs.Grants.{begun_at}
use Rattle.fsb_timely.specs.Kept.{bytes_now, bytes_put}
use Rattle.fsb_timely.specs.Past.{Claim}
use Rattle.fsb_timely.specs.Runs.{Run, past_of}
use Rattle.fsb_agent_view.specs.declared.want.OwnRequest.{OwnRequest}
use Rattle.fsb_agent_view.specs.AgentViews.{AgentView, has_come, line_state_by}
use Rattle.fsb_bench_view.specs.BusViews.{BenchView}

-- the one byte memory and the values loaded last, after the log of the run is served
abbrev pub state_now : Run → ReplayState
state_now r = replay (start_of r.plan.mem) r.log

-- each line that the agent holds, and that has come, has these bytes
abbrev pub HasCopies : (ℕ → List ℕ) → AgentView → Type 0
HasCopies bytes w =
    (line : ℕ) → is_held (line_state_by w line) ≡ true → has_come w line ≡ true → copies w.lines line ≡ bytes line

-- what the agent keeps for an upgrade that it has won are these bytes of the line
abbrev pub HasKept : (ℕ → List ℕ) → AgentView → Type 0
HasKept bytes w =
    (k : ℕ) (out : OwnRequest) (kept : List ℕ) → slice_get w.outs k ≡ Some out → out.kept ≡ Some kept
    → kept ≡ bytes out.request.line

-- what the agent owes to a request, known by the number at which that began, are these bytes of its line
abbrev pub HasPushes : Run → (ℕ → List ℕ) → AgentView → Type 0
HasPushes r bytes w =
    (k : ℕ) (push : Push) (claim : Claim) → slice_get w.buffers.pushes k ≡ Some push
    → begun_at (past_of r) push.number ≡ Some claim → push.bytes ≡ bytes claim.line

-- agent a has the bytes of the log: the value that it loaded last, its lines, what it keeps, and what it owes
pub record IsAgentBytes (r : Run) (a : ℕ) (w : AgentView) : Type 0 where
  pub last : w.last ≡ (state_now r).last a
  pub copies : HasCopies (bytes_now r) w
  pub kept : HasKept (bytes_now r) w
  pub pushes : HasPushes r (bytes_now r) w

-- the bytes of the bench are those of the one byte memory: the log is served, and each agent has the bytes of the
-- log; the data that are on the bus are those of their line; and memory has what was put there last
pub record HasBytesOf (v : BenchView) : Type 0 where
  pub served : Served v.run.plan.mem v.run.log
  pub agents : (a : ℕ) (w : AgentView) → slice_get v.bus.agents a ≡ Some w → IsAgentBytes v.run a w
  pub moved : (line : ℕ) → is_moved_below (past_of v.run) line (length v.run.trace) ≡ true
      → v.bus.moved ≡ bytes_now v.run line
  pub memory : (line : ℕ) → v.bus.memory line ≡ bytes_put v.run line
