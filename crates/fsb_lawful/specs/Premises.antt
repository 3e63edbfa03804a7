-- What rule 12 rests on beside the parts of a timely run.
use Rattle.std.specs.Prelude.{◌≡◌, ℕ, false, IsTrue, Some}
use Rattle.fsb_count.specs.Options.{is_some_and}
use Rattle.fsb_trace.specs.Requests.{is_write_back_kind}
use Rattle.fsb_timely.specs.Grants.{snooped_at}
use Rattle.fsb_timely.specs.Past.{SnoopEnd}
use Rattle.fsb_timely.specs.Runs.{Run, past_of, past_to}
use Rattle.fsb_timely.specs.Snoops.{is_held_for}

-- at the snoop end of a write-back no other agent holds its line
pub record WritesBackAlone (r : Run) : Type 0 where
  pub alone : (c : ℕ) (s : SnoopEnd) → snooped_at (past_of r) c ≡ Some s → IsTrue (is_some_and s.kind is_write_back_kind)
      → is_held_for (past_to (past_of r) c) c s ≡ false
