-- The states that a run tells, in the words of agents and of runs, and by what a snoop end makes of them.
use Rattle.fsb_agent_run.proofs.Words
use Words.{ℕ, ◌+◌, ◌≡◌, Bool, true, false, not, ◌&&◌, ◌||◌, Some, if◌then◌else◌, arith, is_some_and, Mesi, Exclusive}
use Words.{Invalid, Modified, Shared, Grant, Past, grant_at, holds_line, is_evicted, is_exclusive, is_granted, is_lost}
use Words.{is_named_by_other, is_sole_grant, is_taken_away, is_written_back, is_dirty, is_stored_since, holds_line-more}
use Words.{is_exclusive-more, latest_grant-more, state_granted, state_read, state_told, is_dirty_snooped}

-- the state of a line at agent a before the snoop end of c: with its hits, and dropped where a begins a request for
-- a rival
abbrev pub state_kept : Past → ℕ → ℕ → ℕ → Mesi
state_kept p a line c =
    state_told (holds_line p a line c && not (is_evicted p a line c))
    (is_exclusive p a line c && not (is_evicted p a line c)) (is_dirty p a line c)

-- and after it
abbrev pub state_snooped_at : Past → ℕ → ℕ → ℕ → Mesi
state_snooped_at p a line c =
    state_told (holds_line p a line (c + 1)) (is_exclusive p a line (c + 1)) (is_dirty_snooped p a line c)

held-kept : (p : Past) (a line n : ℕ) → is_granted p a line n ≡ false
    → holds_line p a line (n + 1) ≡ (holds_line p a line n && not (is_lost p a line n))
held-kept p a line n f = grind (arith, holds_line-more)

own-kept : (p : Past) (a line n : ℕ) → is_granted p a line n ≡ false → is_exclusive p a line (n + 1)
    ≡ (is_exclusive p a line n && (not (is_lost p a line n) && not (is_named_by_other p a line n)))
own-kept p a line n f = grind (arith, is_exclusive-more)

dirty-kept : (p : Past) (a line n : ℕ) → is_granted p a line n ≡ false → is_dirty_snooped p a line n
    ≡ (is_dirty p a line n && (not (is_lost p a line n) && not (is_named_by_other p a line n)))
unfolding is_dirty
dirty-kept p a line n f = grind (arith, latest_grant-more, own-kept)

-- by what is lost of a line and who names it
by-loss : (held own dirty gone taken named : Bool)
    → state_told (held && not (gone || taken)) (own && (not (gone || taken) && not named))
    (dirty && (not (gone || taken) && not named))
    ≡ (if taken then Invalid
    else (if named then state_read (state_told (held && not gone) (own && not gone) dirty)
    else state_told (held && not gone) (own && not gone) dirty))
unfolding state_read
by-loss held own dirty gone taken named = grind arith

grouped : (x y z : Bool) → ((x || y) || z) ≡ (x || (y || z))
grouped x y z = grind arith

lost-is : (p : Past) (a line n : ℕ)
    → is_lost p a line n ≡ (is_evicted p a line n || (is_written_back p a line n || is_taken_away p a line n))
unfolding is_lost
lost-is p a line n = grouped (is_evicted p a line n) (is_written_back p a line n) (is_taken_away p a line n)

-- where the line is not granted to the agent
pub snooped-kept : (p : Past) (a line n : ℕ) → is_granted p a line n ≡ false → state_snooped_at p a line n
    ≡ (if is_written_back p a line n || is_taken_away p a line n then Invalid
    else (if is_named_by_other p a line n then state_read (state_kept p a line n) else state_kept p a line n))
snooped-kept p a line n f = grind (arith, lost-is, held-kept, own-kept, dirty-kept, by-loss)

by-grant : (owns shared : Bool) → state_told true (owns || not shared) ((owns || not shared) && (owns || false))
    ≡ (if owns then Modified else (if shared then Shared else Exclusive))
by-grant owns shared = grind arith

-- where it is
pub snooped-granted : (p : Past) (a line n : ℕ) (grant : Grant) → is_granted p a line n ≡ true
    → grant_at p n ≡ Some grant → is_stored_since p a line n grant.first ≡ false
    → state_snooped_at p a line n ≡ state_granted grant
unfolding state_granted is_sole_grant is_some_and
snooped-granted p a line n grant t there none = grind (arith, holds_line-more, is_exclusive-more, latest_grant-more)
