use Rattle.std.proofs.Common.{◌≡◌, not, None}
use Rattle.fsb_count.specs.Clocks.{first_where}
use Rattle.fsb_timely.specs.Wants.{id_of}
use Rattle.fsb_agent_view.specs.Wanting.{is_id_used_by}
use Rattle.fsb_agent.specs.Parts.{parts_view}
use Rattle.fsb_agent.proofs.parts.Parts.free_id.Given as goal

-- no number before the place is free
abbrev pub invariant-loop-n : goal.invariant-loop-n
invariant-loop-n l = first_where (λ n. not (is_id_used_by (parts_view l.self) (id_of l.self.number n))) l.n ≡ None
