-- Clocks at which nothing happens.
use Rattle.std.specs.Prelude.{◌≡◌, ℕ, false, nat_eq, [], None}
use Rattle.std.specs.List.{list_any}
use Rattle.fsb_timely.specs.Past.{Past}
use Rattle.fsb_timely.specs.Grants.{begun_at, ended_requests, snooped_at}
use Rattle.fsb_coherent.specs.Awaits.{cancelled_in, responded_in}

-- nothing happens at clock n: no request of a symmetric agent begins, none is cancelled, no snoop end, response or end
-- is there, and no access is completed
pub record IsQuiet (p : Past) (n : ℕ) : Type 0 where
  pub begun : begun_at p n ≡ None
  pub cancelled : cancelled_in p n ≡ None
  pub snooped : snooped_at p n ≡ None
  pub responded : responded_in p n ≡ None
  pub ended : ended_requests p n ≡ []
  pub completed : list_any (λ done. nat_eq done.clock n) p.log ≡ false
