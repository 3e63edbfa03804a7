-- What the calls of a queue do to its list of entries.
use Rattle.std.specs.Prelude.{ℕ, zero, suc, nat_eq, if◌then◌else◌, List, [], ◌∷◌, Option, Some, None}
use Rattle.fsb_trace.specs.declared.outcome.Outcome.{Outcome}
use Rattle.fsb_queue.specs.declared.entry.Entry.{Entry}

-- the first entry with this number, if there is one
unfoldable pub entry_of : ℕ → List Entry → Option Entry
entry_of number [] = None
entry_of number (e ∷ es) = if nat_eq e.number number then Some e else entry_of number es

-- the entries without the first one that has this number
unfoldable pub without : ℕ → List Entry → List Entry
without number [] = []
without number (e ∷ es) = if nat_eq e.number number then es else e ∷ without number es

-- the entry with this outcome
abbrev pub with_outcome : Outcome → Entry → Entry
with_outcome outcome e = record e { outcome = Some outcome }

-- the entries, the i-th of them with this outcome; there are more than i
unfoldable pub settled_at : ℕ → Outcome → List Entry → List Entry
settled_at i outcome [] = []
settled_at zero outcome (e ∷ es) = with_outcome outcome e ∷ es
settled_at (suc i) outcome (e ∷ es) = e ∷ settled_at i outcome es
