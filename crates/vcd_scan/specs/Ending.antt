-- How a text ends behind its header.
use Rattle.std.specs.Prelude.{ℕ, Bool, not, ◌&&◌, is_some, if◌then◌else◌, List, ◌++◌, length, Option, None, option_map}
use Rattle.vcd_grammar.specs.declared.fault.VcdFault.{VcdFault}
use Rattle.vcd_way.specs.Ways.{ValueRules}
use Rattle.vcd_way.specs.Steps.{hides_stamp, open_from}
use Rattle.vcd_way.specs.Events.{DumpEvent}
use Rattle.vcd_way.specs.Answers.{EarlyEnd}
use Rattle.vcd_scan.specs.declared.early.EarlyEnd.{EarlyEnd as EndedEarly}
use Rattle.vcd_scan.specs.Wired.{Wiring}
use Rattle.vcd_scan.specs.Standing.{tokens_after, last_tokens_after, known_after, told_after, all_told_after, fault_behind}

-- an early end
abbrev pub early_told : EndedEarly → EarlyEnd
early_told e = record { fault = e.fault; open_from = e.open_from }

-- the text ends early behind its header: up to its last white space it has no fault, its end is one that
-- the rules let pass, and no open section holds a stamp
abbrev pub ends_early_after : ValueRules → Wiring → List ℕ → List ℕ → Bool
ends_early_after m w head fed =
    let last = last_tokens_after head fed in
    m.ends_early && not (is_some (known_after m w (tokens_after head fed)).fault)
    && not (hides_stamp (known_after m w last).spot)
    && is_some (fault_behind m w last (length (head ++ fed)))

-- the early end of a text behind its header, where it has one
abbrev pub early_end_after : ValueRules → Wiring → List ℕ → List ℕ → Option EarlyEnd
early_end_after m w head fed =
    let last = last_tokens_after head fed in
    if ends_early_after m w head fed then
    option_map (λ fault. record { fault = fault; open_from = open_from (known_after m w last).spot })
    (fault_behind m w last (length (head ++ fed)))
    else None

-- the first fault of a whole text behind its header
abbrev pub fault_to_end : ValueRules → Wiring → List ℕ → List ℕ → Option VcdFault
fault_to_end m w head fed =
    if ends_early_after m w head fed then None
    else fault_behind m w (last_tokens_after head fed) (length (head ++ fed))

-- what a whole text tells behind its header: of one that ends early, the pieces that are over
abbrev pub told_to_end : ValueRules → Wiring → List ℕ → List ℕ → List DumpEvent
told_to_end m w head fed =
    if ends_early_after m w head fed then told_after m w (tokens_after head fed)
    else all_told_after m w (last_tokens_after head fed)
