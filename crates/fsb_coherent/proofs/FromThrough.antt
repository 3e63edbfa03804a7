-- What the run has of a line behind a snoop end, by what the machine has of it before.
use Rattle.fsb_coherent.proofs.Words
use Words.{ℕ, ◌+◌, ◌≡◌, false, not, ◌&&◌, ◌||◌, if◌then◌else◌, arith, is_some_and, MemoryLine, OpenRequest, is_held}
use Words.{is_modified, is_sole, Past, grant_at, holds_line, is_exclusive, is_granted, is_lost, is_named_by_other}
use Words.{is_sole_grant, is_taken_away, is_written_back, snooped_at, is_snoop_of, holds_line-more, is_exclusive-more}
use Words.{IsOpen, IsOpenThrough, TiedThrough}
use Rattle.fsb_coherent.proofs.Behind.{is_dirty_behind}
use Rattle.fsb_coherent.proofs.Steps.{snooped-more}

-- who holds the line behind the snoop end: who gets it there, and who held it and does not lose it
pub holds-from : (p : Past) (line n : ℕ) (x : MemoryLine) → TiedThrough p line n x → (a : ℕ)
    → holds_line p a line (n + 1) ≡ (is_granted p a line n ||
    (is_held (x.state a) && not (is_written_back p a line n || is_taken_away p a line n)))
unfolding is_lost
holds-from p line n x h a = grind (arith, holds_line-more)

-- who has it for itself
pub exclusive-from : (p : Past) (line n : ℕ) (x : MemoryLine) → TiedThrough p line n x → (a : ℕ)
    → is_exclusive p a line (n + 1)
    ≡ (if is_granted p a line n then is_some_and (grant_at p n) is_sole_grant else (is_sole (x.state a) &&
    (not (is_written_back p a line n || is_taken_away p a line n) && not (is_named_by_other p a line n))))
unfolding is_lost
exclusive-from p line n x h a = grind (arith, is_exclusive-more)

-- who is dirty on it
pub dirty-from : (p : Past) (line n : ℕ) (x : MemoryLine) → TiedThrough p line n x → (a : ℕ)
    → is_dirty_behind p a line n
    ≡ (if is_granted p a line n then is_some_and (grant_at p n)
    (λ grant. grant.owns) else (is_modified (x.state a) &&
    (not (is_written_back p a line n || is_taken_away p a line n) && not (is_named_by_other p a line n))))
unfolding is_lost
dirty-from p line n x h a = grind arith

-- a request that is open before the snoop end stays open, unless the snoop end is its own
pub open-behind : (p : Past) (a line n : ℕ) (request : OpenRequest) → IsOpenThrough p a line n request
    → is_some_and (snooped_at p n) (is_snoop_of request.number) ≡ false → IsOpen p a line (n + 1) request
open-behind p a line n request h unsnooped = grind (arith, snooped-more)

-- and one that is open behind it was open before, and the snoop end is not its own
pub open-through : (p : Past) (a line n : ℕ) (request : OpenRequest) → IsOpen p a line (n + 1) request
    → IsOpenThrough p a line n request × (is_some_and (snooped_at p n) (is_snoop_of request.number) ≡ false)
open-through p a line n request h = grind (arith, snooped-more)
