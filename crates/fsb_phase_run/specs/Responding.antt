-- The request that responds next, by the queue.
use Rattle.std.specs.Prelude.{ℕ, true, false, nat_eq, List, Option, None}
use Rattle.std.specs.List.{find}
use Rattle.std.specs.Option.{option_map}
use Rattle.fsb_trace.specs.declared.outcome.Outcome.TheVariants.{Retried}
use Rattle.fsb_trace.specs.At.{Trace}
use Rattle.fsb_trace.specs.Outcome.{response_code_of}
use Rattle.fsb_queue.specs.declared.entry.Entry.{Entry}
use Rattle.fsb_phase.specs.Due.{has_response}
use Rattle.fsb_phase.specs.Drive.{drive_of}

-- the first clock of the entry whose response clock is the next clock
abbrev pub responding_of : Trace → List Entry → Option ℕ
responding_of h queue = option_map (λ e. e.clock) (find (has_response h) queue)

-- the same, where the code that is driven is that of Retry
unfoldable pub retried_of : Trace → List Entry → Option ℕ
retried_of h queue =
    elim (nat_eq (drive_of h queue).rs (response_code_of Retried)) [ true ↦ responding_of h queue | false ↦ None ]
