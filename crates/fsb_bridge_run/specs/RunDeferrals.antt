-- A list of deferrals that stands for those of a run: below a clock, and as that clock finds them.
use Rattle.std.specs.Prelude.{◌≡◌, ℕ, ◌+◌, List, length, take, true}
use Rattle.fsb_signal.specs.declared.lines.TheConstants.Lines.{ADS}
use Rattle.fsb_signal.specs.Samples.{line_at}
use Rattle.fsb_trace.specs.At.{request_at}
use Rattle.fsb_bridge.specs.declared.deferral.Waiting.{Waiting}
use Rattle.fsb_bridge.specs.DeferralList.{StandsFor}
use Rattle.fsb_timely.specs.Moments.{turns_in}
use Rattle.fsb_timely.specs.Runs.{Run, past_of, past_to, run_to}
use Rattle.fsb_timely.specs.Starts.{request_begun}
use Rattle.fsb_bridge_run.specs.DeferralSteps.{after_beginning}

-- the effective turns of the live requests of the run, in order, as its moments have them
abbrev pub turns_of : Run → List ℕ
turns_of r = turns_in (past_of r).moments

-- the list stands for the deferrals of the run that wait for their replies at n, as its first n samples show them: a
-- reply shows from its second clock on
abbrev pub ShowsDeferrals : List Waiting → Run → ℕ → Type 0
ShowsDeferrals list r n = StandsFor list (take n r.trace) (turns_of r) n

-- the list has the deferrals of the run below n: a reply is under way from its first clock on
pub record HasDeferrals (list : List Waiting) (r : Run) (n : ℕ) : Type 0 where
  pub shown : List Waiting
  pub shows : ShowsDeferrals shown r n
  pub begun : list ≡ after_beginning r n shown

-- the list stands for the deferrals of the run that wait for their replies at n, as the samples up to n show them
abbrev pub FindsDeferrals : List Waiting → Run → ℕ → Type 0
FindsDeferrals list r n = StandsFor list (run_to r n).trace (turns_of r) n

-- the request that began at the last clock of the run r shows in the run s, which has one clock more, as what it is
pub record ShowsBegun (r s : Run) : Type 0 where
  pub shown : (d : ℕ) → d + 1 ≡ length r.trace → line_at ADS r.trace d ≡ true
      → request_at s.trace d ≡ request_begun (run_to r d) (past_to (past_of r) d) d
