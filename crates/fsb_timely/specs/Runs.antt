-- A run: a plan, and what came of it so far. All that is said of a clock is said of the run up to that clock.
use Rattle.std.specs.Prelude.{ℕ, zero, suc, ◌+◌, Bool, nat_le, List, [], ◌∷◌, ◌++◌, take, length}
use Rattle.std.specs.List.{filter}
use Rattle.fsb_count.specs.Clocks.{count_where}
use Rattle.fsb_signal.specs.declared.lines.TheConstants.Lines.{ADS}
use Rattle.fsb_signal.specs.Samples.{line_at}
use Rattle.fsb_access.specs.declared.log.Done.{Done}
use Rattle.fsb_hazard.specs.declared.choice.Choice.{Choice}
use Rattle.fsb_script.specs.Plans.{PlanView}
use Rattle.fsb_trace.specs.At.{Trace}
use Rattle.fsb_timely.specs.Past.{Moment, Past}
use Rattle.fsb_timely.specs.Moments.{moment_at}

-- the plan, a choice for each request, a hold (whether BNR# is asked for) for each clock, the trace, and the log
pub record Run : Type 0 where
  pub plan : PlanView
  pub choices : List Choice
  pub holds : List Bool
  pub trace : Trace
  pub log : List Done

-- how many requests, cancelled ones too, began below clock n
unfoldable pub requests_below : Trace → ℕ → ℕ
requests_below w n = count_where (line_at ADS w) n

-- the entries of a log whose clock is c or below
unfoldable pub entries_to : ℕ → List Done → List Done
entries_to c log = filter (λ done. nat_le done.clock c) log

-- the run up to clock c: the first c + 1 samples and holds, the choices of the requests among them, and the entries up to c
unfoldable pub run_to : Run → ℕ → Run
run_to r c = record {
  plan = r.plan;
  choices = take (requests_below r.trace (c + 1)) r.choices;
  holds = take (c + 1) r.holds;
  trace = take (c + 1) r.trace;
  log = entries_to c r.log;
}

-- the past below clock c of a run, where these are its moments: what the moment of c rests on
abbrev pub past_with : Run → List Moment → ℕ → Past
past_with r moments c = record { plan = r.plan; moments = moments; log = entries_to c r.log }

-- the moment of clock c of a run, after these moments
abbrev pub next_moment : Run → List Moment → ℕ → Moment
next_moment r moments c = moment_at (past_with r moments c) (run_to r c).choices (run_to r c).trace c

-- the moments of the clocks below n, each from the run up to its clock and from the moments before it
unfoldable pub moments_below : Run → ℕ → List Moment
moments_below r zero = []
moments_below r (suc c) = let before = moments_below r c in before ++ next_moment r before c ∷ []

-- the past of a run: the moments of all its clocks
unfoldable pub past_of : Run → Past
past_of r = record { plan = r.plan; moments = moments_below r (length r.trace); log = r.log }

-- the past up to clock c
unfoldable pub past_to : Past → ℕ → Past
past_to p c = record { plan = p.plan; moments = take (c + 1) p.moments; log = entries_to c p.log }
