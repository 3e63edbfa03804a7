use Rattle.std.proofs.Common.{◌≡◌, ◌++◌, ◌∷◌, [], length, take}
use Rattle.fsb_signal.specs.declared.marks.Marks.{Marks}
use Rattle.fsb_trace.specs.At.{Trace}
use Rattle.fsb_laws.specs.Orderly.{Orderly}
use Rattle.fsb_why.specs.Look.{Stands as WhyStands}
use Rattle.fsb_why_queue.specs.Queue.{Stands as QueueStands}
use Rattle.scope_explain.specs.Reasons.{AreReasonsOf}
use Rattle.scope_explain.proofs.explained.put_reasons.Given as goal

abbrev pub invariant-loop-rule : goal.invariant-loop-rule
invariant-loop-rule l =
    (m : Marks) (h : Trace) → WhyStands l.why m (h ++ l.sample ∷ []) → QueueStands l.queue h → Orderly h
    → l.fn.reasons.items ≡ [] → AreReasonsOf (take l.rule-index l.rules) m (h ++ l.sample ∷ []) (length h) l.reasons.items
