-- The agents of a bench at its next clock: before the hits, and what they answer after them.
use Rattle.fsb_bench_run.proofs.Words
use Words.{ℕ, suc, ◌+◌, ◌≡◌, Bool, Option, List, [], ◌∷◌, length, refl, ap, ◌∙◌, arith, Done, AgentEvent, AgentView}
use Words.{answer-by, Choice, BytesFrom, step_drive, step_fetched, BenchView, BusView, bus_fetched, bytes_source}
use Words.{agents_told}
use Rattle.fsb_bench_run.proofs.RunWith.{run_with}
use Rattle.fsb_bench_run.proofs.SnoopAnswers.{AgentsAnswer}
use Rattle.fsb_bench_run.proofs.StepWith.{IsStepWith}

-- telling changes no number of agents
pub length-told : (events : ℕ → List AgentEvent) (n : ℕ) (vs : List AgentView)
    → length (agents_told events n vs) ≡ length vs
length-told events n [] = refl
length-told events n (v ∷ vs) = ap suc (length-told events (n + 1) vs)

length-fetched : (bus : BusView) (o : Option BytesFrom) → length (bus_fetched bus o).agents ≡ length bus.agents
length-fetched bus o = grind (arith, length-told)

pub fetched-four : (v : BenchView) → length v.bus.agents ≡ 4 → length (step_fetched v).agents ≡ 4
fetched-four v four = length-fetched v.bus (bytes_source v.bus (step_drive v)) ∙ four

-- the agents answer as the run says
pub agents-answer : (v : BenchView) (hold : Bool) (choice : Choice) (entries : List Done)
    → IsStepWith v hold choice entries
    → AgentsAnswer v (run_with v hold choice entries)
agents-answer v hold choice entries k = grind (arith, length-told, answer-by)
