-- For which traces the queue stands.
use Rattle.std.specs.Prelude.{◌≡◌, ◌≤◌, ℕ, ◌+◌, Bool, ◌||◌, nat_eq, Some, length}
use Rattle.fsb_count.specs.Clocks.{last_where}
use Rattle.fsb_trace.specs.At.{Trace, responds_at}
use Rattle.fsb_trace.specs.Requests.{live_clock_of}
use Rattle.fsb_trace.specs.Response.{end_of}
use Rattle.fsb_laws.specs.Orderly.{Orderly}
use Rattle.fsb_laws.specs.Progress.{response_count}
use Rattle.fsb_heads.specs.Heads.{last_snoop_end, snooped_count, value_before}
use Rattle.fsb_owner_feed.specs.Table.{Stands as TableStands, fed as fed_to}
use Rattle.fsb_why_queue.specs.declared.queue.Queue.{Queue}

-- the queue was fed these samples
pub record Stands (queue : Queue) (h : Trace) : Type 0 where
  pub table : TableStands queue.table h
  pub responses : queue.responses ≡ response_count h
  pub snooped : queue.snooped ≡ snooped_count h
  pub last : queue.last ≡ last_snoop_end h
  pub ended : queue.ended ≡ value_before (end_of h) (response_count h)
  pub answered : queue.answered ≡ last_where (responds_at h) (length h)

-- clock n comes after a trace that the queue stands for, whose requests keep their distance and
-- responses their time
pub record IsAt (queue : Queue) (n : ℕ) (h : Trace) : Type 0 where
  pub stands : Stands queue h
  pub orderly : Orderly h
  pub clock : n ≡ length h

-- no request that is snooped next is decoded
abbrev pub HasNone : Trace → Type 0
HasNone h = (q : ℕ) → live_clock_of h (snooped_count h) ≡ Some q → length h ≤ q + 1

-- the rules for which an answer is exact
unfoldable pub is_queue_rule : ℕ → Bool
is_queue_rule j =
    nat_eq j 4 || nat_eq j 11 || nat_eq j 12 || nat_eq j 13 || nat_eq j 14 || nat_eq j 15 || nat_eq j 16 || nat_eq j 18

-- how many samples the queue was fed
abbrev pub fed : Queue → ℕ
fed queue = fed_to queue.table
