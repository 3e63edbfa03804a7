-- Which request ends at a clock.
use Rattle.std.specs.Prelude.{◌≡◌, ℕ, Option, Some, None}
use Rattle.fsb_trace.specs.At.{Trace}
use Rattle.fsb_trace.specs.Requests.{live_clock_of}
use Rattle.fsb_trace.specs.Outcome.{is_deferred}
use Rattle.fsb_trace.specs.Response.{end_of}
use Rattle.fsb_rules.specs.declared.live.Ended.{Ended}

-- no request ends at n
pub record NoneEnds (v : Trace) (n : ℕ) : Type 0 where
  pub none : (j : ℕ) → end_of v j ≡ Some n → ⊥

-- the live request with this first clock ends at n, Deferred or not as it says, and no other ends there
pub record EndsAlone (v : Trace) (n : ℕ) (e : Ended) : Type 0 where
  pub number : ℕ
  pub clock : live_clock_of v number ≡ Some e.request.clock
  pub end : end_of v number ≡ Some n
  pub deferred : is_deferred v number ≡ e.is_deferred
  pub alone : (j : ℕ) → end_of v j ≡ Some n → j ≡ number

-- what the ended request says
abbrev pub SaysEnded : Trace → ℕ → Option Ended → Type 0
SaysEnded v n None = NoneEnds v n
SaysEnded v n (Some e) = EndsAlone v n e
