-- The count of faults that a source or a sink keeps.
use Rattle.std.specs.Prelude.{ℕ, ◌+◌, ◌-◌, ◌^◌, ◌≤◌, min, Bool, if◌then◌else◌, Result, OnErr}

-- a count of at most 64 bits after one more fault: at its last value it stays
abbrev pub one_more : ℕ → ℕ
one_more count = min (count + 1) (2 ^ 64 - 1)

-- the count after one more call, which failed or did not
abbrev pub faults_after : Bool → ℕ → ℕ
faults_after failed count = if failed then one_more count else count

-- the count rose; one that already stood at its last value counts as risen
abbrev pub Rose : ℕ → ℕ → Type 0
Rose before now = one_more before ≤ now

-- a call left the count as it was or higher, and failed only where it rose
pub record HasCause {T E : Type 0} (before now : ℕ) (result : Result T E) : Type 0 where
  pub later : before ≤ now
  pub failed : OnErr result (Rose before now)
