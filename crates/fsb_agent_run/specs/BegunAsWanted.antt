-- What begins in a run, and what its agent wants.
use Rattle.std.specs.Prelude.{◌≡◌, ◌<◌, ℕ, ◌+◌, Some, length}
use Rattle.fsb_encode.specs.declared.request.Request.{Request}
use Rattle.fsb_timely.specs.Past.{Claim}
use Rattle.fsb_timely.specs.Runs.{Run, past_of, past_to, run_to}
use Rattle.fsb_timely.specs.Starts.{request_begun}
use Rattle.fsb_timely.specs.Wants.{want_of}
use Rattle.fsb_trace.specs.At.{request_at}

-- what begins at n with this claim is what the claim's agent wants there: it is what the winner begins by the samples and
-- the past up to n, it is for the claim's line, and as soon as its second clock is there the two show it
pub record BeginsAsWanted (r : Run) (n : ℕ) (claim : Claim) : Type 0 where
  pub request : Request
  pub want : want_of (past_of r) claim.agent n ≡ Some request
  pub begins : request_begun (run_to r n) (past_to (past_of r) n) n ≡ Some request
  pub line : request.line ≡ claim.line
  pub shown : n + 1 < length r.trace → request_at r.trace n ≡ Some request
