-- The requests of the samples that are explained.
use Rattle.fsb_trace.specs.At.{Trace}
use Rattle.fsb_recent.specs.Recent.{Stands as RecentStands}
use Rattle.fsb_why_queue.specs.Queue.{Stands as QueueStands}
use Rattle.scope_explain.specs.declared.requests.Requests.{Requests}

-- they were fed these samples
pub record Stands (requests : Requests) (h : Trace) : Type 0 where
  pub queue : QueueStands requests.queue h
  pub recent : RecentStands requests.recent h
