-- A line that is not coherent in one thing alone, and events that do not meet what they owe.
use Rattle.std.proofs.Common.{List, false, Some, None, [], ◌∷◌, refl, arith}
use Rattle.fsb_line.specs.Coherence.{IsCoherent, Owes}
use Rattle.fsb_line.specs.Events.{Event, after, arrived, effect, oldest_ended, given, linked, replied, responded}
use Rattle.fsb_line.specs.Events.{settled}
use Rattle.fsb_line.specs.Events.Event.{Begins, Ends, IsGranted, IsHanded, IsUpgraded, IsWritten}
use Rattle.fsb_line.specs.Events.Event.{Loads, Responds, Stores}
use Rattle.fsb_line.specs.Line.{MemoryLine, put, trimmed, unheld}
use Rattle.fsb_line.specs.LineRuns.{OwesAll, run}
use Rattle.fsb_line.specs.Witness.{as_it_is, byte, sharing, stores, taken_over}
use Rattle.fsb_line.specs.declared.purpose.Purpose.TheVariants.{Own, Read}
use Rattle.fsb_line.specs.declared.state.Mesi.TheVariants.{Exclusive, Invalid, Modified, Shared}

-- agent 0 has a line for itself that is deferred for agent 1; all else is as it should be
abbrev alone_on_pending : MemoryLine
alone_on_pending = record (unheld (byte 0)) {
  state = put (λ a. Invalid) 0 Exclusive;
  copy = put (λ a. []) 0 (byte 0);
  deferral = Some (record { agent = 1; kind = Own; shared = false });
}

pub pending_line_has_no_owner : ¬ IsCoherent alone_on_pending
unfolding put
pending_line_has_no_owner h =
    let e = h.pending (record { agent = 1; kind = Own; shared = false }) refl 0 in absurd (cc)

-- two agents share the line: neither may store into it
pub shared_line_is_not_stored_into : ¬ Owes (run (unheld (byte 0)) sharing) (Stores 0 (stores 7))
unfolding Owes after effect trimmed settled linked given put replied responded oldest_ended arrived
shared_line_is_not_stored_into h = let e = h.alone 1 (omega arith) in absurd (cc)

-- nor is it so behind an event that owes nothing more
pub second_event_owes_too : ¬ OwesAll (run (unheld (byte 0)) sharing) (Loads 0 ∷ Stores 0 (stores 7) ∷ [])
unfolding Owes after effect trimmed settled linked given put replied responded oldest_ended arrived
second_event_owes_too h = let e = h.1.0.alone 1 (omega arith) in absurd (cc)

-- agent 0 has the line alone, as memory has it
abbrev alone : List Event
alone = Begins 0 Read 0 ∷ IsGranted 0 Read false ∷ Responds ∷ Ends as_it_is ∷ []

-- it neither hands it over nor writes it back: it is not Modified
pub clean_line_is_not_handed : ¬ Owes (run (unheld (byte 0)) alone) (IsHanded 2 Read 0)
unfolding Owes after effect trimmed settled linked given put replied responded oldest_ended arrived
clean_line_is_not_handed h = let e = h.modified in absurd (cc)

pub clean_line_is_not_written : ¬ Owes (run (unheld (byte 0)) alone) (IsWritten 0)
unfolding Owes after effect trimmed settled linked given put replied responded oldest_ended arrived
clean_line_is_not_written h = let e = h.modified in absurd (cc)

-- agent 0 has the line Modified, and agent 1 holds it too
abbrev two_holders : MemoryLine
two_holders = record (unheld (byte 5)) {
  state = put (put (λ a. Invalid) 0 Modified) 1 Shared;
  copy = put (put (λ a. []) 0 (byte 5)) 1 (byte 5);
}

pub owner_hands_over_alone : ¬ Owes two_holders (IsHanded 2 Read 0)
unfolding Owes put
owner_hands_over_alone h = let e = h.alone 1 (omega arith) in absurd (cc)

-- agent 0 has lost the line, and its bytes with it
pub lost_line_is_not_loaded : ¬ Owes (run (unheld (byte 0)) taken_over) (Loads 0)
unfolding Owes after effect trimmed settled linked given put replied responded oldest_ended arrived
lost_line_is_not_loaded h = let e = h.value in absurd (cc)

-- nor does it win an upgrade there; and nobody stores into a line that nobody has
pub lost_line_is_not_upgraded : ¬ Owes (run (unheld (byte 0)) taken_over) (IsUpgraded 0)
unfolding Owes after effect trimmed settled linked given put replied responded oldest_ended arrived
lost_line_is_not_upgraded h = let e = h.value in absurd (cc)

pub unheld_line_is_not_stored_into : ¬ Owes (unheld (byte 0)) (Stores 0 (stores 7))
unfolding Owes
unheld_line_is_not_stored_into h = let e = h.value in absurd (cc)

-- agent 0 is to read the line, memory has old bytes, and so has the bus
abbrev stale : MemoryLine
stale = record (unheld (byte 5)) {
  chain = record { agent = 0; kind = Read; giver = None } ∷ [];
  memory = byte 0;
  moved = Some (byte 0);
}

pub old_bytes_are_not_moved : ¬ Owes stale Responds
unfolding Owes
old_bytes_are_not_moved h = let e = h in absurd (cc)

pub old_bytes_are_not_brought : ¬ Owes stale (Ends as_it_is)
unfolding Owes
old_bytes_are_not_brought h = let e = h.value in absurd (cc)

-- agent 0 is to own the line, and its bytes have come, and agent 1 still has a copy
abbrev copy_left : MemoryLine
copy_left = record (unheld (byte 5)) {
  state = put (put (λ a. Invalid) 0 Modified) 1 Shared;
  copy = put (λ a. []) 1 (byte 5);
  chain = record { agent = 0; kind = Own; giver = None } ∷ [];
  moved = Some (byte 5);
}

pub owner_gets_its_bytes_alone : ¬ Owes copy_left (Ends (stores 7))
unfolding Owes put
owner_gets_its_bytes_alone h = let e = h.alone refl 1 (omega arith) in absurd (cc)

-- nothing moves or ends where nobody awaits the line
pub nothing_is_moved_unasked : ¬ Owes (unheld (byte 0)) Responds
unfolding Owes
nothing_is_moved_unasked h = h

pub nothing_ends_unasked : ¬ Owes (unheld (byte 0)) (Ends as_it_is)
unfolding Owes
nothing_ends_unasked h = h
