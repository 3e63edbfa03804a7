-- What memory and the givers have in the middle of worked runs, worked out by hand.
use Rattle.std.proofs.Common.{◌≡◌, true, false, Some, None, List, [], ◌∷◌, ◌++◌, refl}
use Rattle.fsb_line.specs.declared.purpose.Purpose.TheVariants.{Own, Read}
use Rattle.fsb_line.specs.Events.{Event, after, arrived, effect, oldest_ended, given, linked, replied, responded}
use Rattle.fsb_line.specs.Events.{settled}
use Rattle.fsb_line.specs.Events.Event.{Begins, Ends, IsCancelled, IsGranted, Responds, Stores}
use Rattle.fsb_line.specs.Line.{put, trimmed, unheld}
use Rattle.fsb_line.specs.LineRuns.{run}
use Rattle.fsb_line.specs.Witness.{as_it_is, byte, owned, promises, stores}

-- the first of two owners has stored 5, and the second 7, at the end that brought it the 5
abbrev both_stored : List Event
both_stored = promises ++ (Responds ∷ Ends (stores 5) ∷ Responds ∷ Ends (stores 7) ∷ [])

-- memory took what was handed over, without the store at its end; the reader's bytes have the store
two_owners_race : ((run (unheld (byte 0)) both_stored).memory ≡ byte 5)
    × ((run (unheld (byte 0)) both_stored).pushed ≡ Some (byte 7))
unfolding after effect trimmed settled linked given put replied responded oldest_ended arrived
two_owners_race = (refl, refl)

-- two agents are to read the line, and the first has it
abbrev first_read : List Event
first_read =
    Begins 0 Read 0 ∷ Begins 1 Read 1 ∷ IsGranted 0 Read false ∷ IsGranted 1 Read true ∷ Responds ∷ Ends as_it_is ∷ []

-- it gives nothing to the second, which has its bytes from memory
readers_give_nothing : (run (unheld (byte 3)) first_read).pushed ≡ None
unfolding after effect trimmed settled linked given put replied responded oldest_ended arrived
readers_give_nothing = refl

-- an owner has stored 5 at the end of its request, and 7 in its copy: memory has neither
stores_stay_in_the_copy : ((run (unheld (byte 0)) (owned ++ (Stores 0 (stores 7) ∷ []))).memory ≡ byte 0)
    × ((run (unheld (byte 0)) (owned ++ (Stores 0 (stores 7) ∷ []))).copy 0 ≡ byte 7)
unfolding after effect trimmed settled linked given put replied responded oldest_ended arrived
stores_stay_in_the_copy = (refl, refl)

-- a request that was cancelled is open no more
cancelled_is_not_open : (run (unheld (byte 0)) (Begins 2 Own 0 ∷ IsCancelled 2 ∷ [])).ask 2 ≡ None
unfolding after effect trimmed put
cancelled_is_not_open = refl
