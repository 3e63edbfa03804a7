-- What the rules ask of a line up to a reply for it.
use Rattle.std.specs.Prelude.{◌≡◌, ◌≤◌, ℕ, false, List, None}
use Rattle.fsb_signal.specs.declared.marks.Marks.{Marks}
use Rattle.fsb_trace.specs.At.{Trace}
use Rattle.fsb_trace.specs.Verdict.{verdict}
use Rattle.fsb_owners.specs.Joint.{Joint}
use Rattle.fsb_owners.specs.Rules.{is_asked_twice, is_given_again, is_hit_of_reply_wrong}
use Rattle.fsb_owners.specs.Shown.{is_spoiled}

-- no phase rule is broken, the line is not spoiled, no request up to c breaks rule 21, and at c neither rule 30 nor rule 31 is
-- broken
pub record IsUnbroken (marks : Marks) (first : List Joint) (v : Trace) (line c : ℕ) : Type 0 where
  pub phases : verdict marks v ≡ None
  pub sound : is_spoiled v line ≡ false
  pub asked : (d : ℕ) → d ≤ c → is_asked_twice first v d ≡ false
  pub given : is_given_again first v c ≡ false
  pub hit : is_hit_of_reply_wrong first v c ≡ false
