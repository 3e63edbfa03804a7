-- A part that passes its test holds at each clock.
use Rattle.std.proofs.Common.{◌≡◌, true, length}
use Rattle.fsb_count.proofs.Interface.{each_where-at, each_where-all}
use Rattle.fsb_timely.specs.Runs.{Run, past_of}
use Rattle.fsb_timely.specs.Timely.{Part, holds_in, holds_at, keeps, AtEachClock}

-- a part whose test passes holds at each clock
pub keeps-at : (part : Part) (r : Run) → keeps part r ≡ true → AtEachClock part r
unfolding keeps holds_at
keeps-at part r e = record { at = λ c l. each_where-at (holds_in part r (past_of r)) (length r.trace) e c l }

-- and where it holds at each clock, its test passes
pub keeps-all : (part : Part) (r : Run) → AtEachClock part r → keeps part r ≡ true
unfolding keeps holds_at
keeps-all part r h = each_where-all (holds_in part r (past_of r)) (length r.trace) h.at
