-- What begins in a timely run is what its agent wants.
use Rattle.fsb_agent_run.proofs.Words
use Words.{ℕ, ◌<◌, ◌≡◌, Some, length, arith, Claim, begun_at, Run, past_of, Timely, KeepsBounds, begun-shown}
use Words.{begun-want}
use Rattle.fsb_agent_run.specs.BegunAsWanted.{BeginsAsWanted}

pub begins-wanted : (r : Run) (n : ℕ) (claim : Claim) → Timely r → KeepsBounds r.plan → n < length r.trace
    → begun_at (past_of r) n ≡ Some claim → BeginsAsWanted r n claim
begins-wanted r n claim h bounds l e =
    let k = begun-want r n claim h bounds l e in
    record {
      request = k.request;
      want = k.want;
      begins = k.begins;
      line = k.line;
      shown = λ more. begun-shown r n claim h bounds (omega arith) k;
    }
