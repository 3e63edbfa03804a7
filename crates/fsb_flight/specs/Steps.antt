-- What each step of a clock does to a list of entries.
use Rattle.std.specs.Prelude.{ℕ, ◌+◌, Bool, nat_eq, is_none, is_some, if◌then◌else◌, List, [], ◌∷◌, ◌++◌, drop, Option, Some, None}
use Rattle.fsb_trace.specs.declared.outcome.Outcome.{Outcome}
use Rattle.fsb_queue.specs.declared.entry.Entry.{Entry}
use Rattle.fsb_queue.specs.Entries.{with_outcome, without}
use Rattle.fsb_phase.specs.declared.drive.Phased.{Phased}

-- the entries, the first of them without an outcome with this one
unfoldable pub settle_first : Outcome → List Entry → List Entry
settle_first outcome [] = []
settle_first outcome (e ∷ es) = if is_none e.outcome then with_outcome outcome e ∷ es else e ∷ settle_first outcome es

-- the number of the first entry that began three clocks before n
unfoldable pub number_before : ℕ → List Entry → Option ℕ
number_before n [] = None
number_before n (e ∷ es) = if nat_eq (e.clock + 3) n then Some e.number else number_before n es

-- the entries without the first that has the number, if there is a number
unfoldable pub without_if : Option ℕ → List Entry → List Entry
without_if None es = es
without_if (Some number) es = without number es

-- the entries without the first that began three clocks before n
unfoldable pub cancel_before : ℕ → List Entry → List Entry
cancel_before n es = without_if (number_before n es) es

-- the entry that begins, if there is one
unfoldable pub begun_list : Option Entry → List Entry
begun_list None = []
begun_list (Some e) = e ∷ []

-- the entries after the steps of a clock
unfoldable pub queue_after : ℕ → Phased → Outcome → Bool → Option Entry → List Entry → List Entry
queue_after n phased outcome error begun es =
    let settled_now = if is_some phased.snooped then settle_first outcome es else es in
    let left = if is_some phased.ended then drop 1 settled_now else settled_now in
    (if error then cancel_before n left else left) ++ begun_list begun
