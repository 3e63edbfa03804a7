-- Lists of events.
use Rattle.std.specs.Prelude.{List, [], ◌∷◌, ⊤}
use Rattle.fsb_line.specs.Coherence.{Owes}
use Rattle.fsb_line.specs.Events.{Event, May, after, stored}
use Rattle.fsb_line.specs.Line.{Bytes, MemoryLine}

-- the line after a list of events
abbrev pub run : MemoryLine → List Event → MemoryLine
run x [] = x
run x (e ∷ es) = run (after x e) es

-- each event may happen in its turn
abbrev pub MayRun : MemoryLine → List Event → Type 0
MayRun x [] = ⊤
MayRun x (e ∷ es) = May x e × MayRun (after x e) es

-- each event meets what it owes in its turn
abbrev pub OwesAll : MemoryLine → List Event → Type 0
OwesAll x [] = ⊤
OwesAll x (e ∷ es) = Owes x e × OwesAll (after x e) es

-- the bytes after the stores of all events, each made in its turn
abbrev pub stored_by_all : MemoryLine → List Event → Bytes → Bytes
stored_by_all x [] bytes = bytes
stored_by_all x (e ∷ es) bytes = stored_by_all (after x e) es (stored x e bytes)
