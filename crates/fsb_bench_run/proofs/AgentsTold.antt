-- The agents of a bench after what is told to them.
use Rattle.fsb_bench_run.proofs.Words
use Words.{ℕ, zero, suc, ◌+◌, ◌≡◌, Option, Some, None, List, [], ◌∷◌, fold, refl, ap, ◌∙◌, arith, option_map}
use Words.{AgentEvent, HandedOn, Performed, agent_after, AgentView, handed_on, performed, IsViewOf, Past, BytesFrom}
use Words.{Memory, Agents, step_drive, step_fetched, step_performed, BenchView, BusView, next_clock_of, bus_fetched}
use Words.{bytes_source, agents_told, for_all}
use Rattle.std.proofs.Common.{slice_get}

-- an agent after its events
pub told-at : (events : ℕ → List AgentEvent) (n : ℕ) (agents : List AgentView) (k : ℕ)
    → slice_get (agents_told events n agents) k ≡ option_map (λ v. fold agent_after v (events (n + k)))
    (slice_get agents k)
told-at events n [] zero = refl
told-at events n [] (suc k) = refl
told-at events n (v ∷ vs) zero = grind arith
told-at events n (v ∷ vs) (suc k) = grind (arith, told-at events (n + 1) vs k)

pub some-of : {X Y : Type 0} (f : X → Y) (o : Option X) (y : Y) → option_map f o ≡ Some y
    → (x : X) × (o ≡ Some x) × (y ≡ f x)
some-of f o y h1 = grind arith

-- the agent of this number before what is fetched
pub record IsFetchedFrom (agents : List AgentView) (a : ℕ) (w : AgentView) : Type 0 where
  pub before : AgentView
  pub at : slice_get agents a ≡ Some before
  pub number : w.number ≡ before.number
  pub view : (p : Past) (c : ℕ) → IsViewOf p a c before → IsViewOf p a c w

fetched-by : (bus : BusView) (o : Option BytesFrom) (a : ℕ) (w : AgentView)
    → slice_get (bus_fetched bus o).agents a ≡ Some w
    → IsFetchedFrom bus.agents a w
fetched-by bus None a w e = record { before = w; at = e; number = refl; view = λ p c h. h }
fetched-by bus (Some (Memory line)) a w e = record { before = w; at = e; number = refl; view = λ p c h. h }
fetched-by bus (Some (Agents number)) a w e = grind (arith, told-at)

pub fetched-from : (v : BenchView) (a : ℕ) (w : AgentView) → slice_get (step_fetched v).agents a ≡ Some w
    → IsFetchedFrom v.bus.agents a w
fetched-from v a w e = fetched-by v.bus (bytes_source v.bus (step_drive v)) a w e

-- and before its hit
pub performed-from : (v : BenchView) (a : ℕ) (w : AgentView) → slice_get (step_performed v).agents a ≡ Some w
    → (u : AgentView) × (slice_get (step_fetched v).agents a ≡ Some u) × (w ≡ performed u (next_clock_of v))
performed-from v a w e = grind (arith, told-at)

fetched-there : (bus : BusView) (o : Option BytesFrom) (a : ℕ) (u : AgentView) → slice_get bus.agents a ≡ Some u
    → (w : AgentView) × (slice_get (bus_fetched bus o).agents a ≡ Some w)
fetched-there bus None a u e = (u, e)
fetched-there bus (Some (Memory line)) a u e = (u, e)
fetched-there bus (Some (Agents number)) a u e = (
  handed_on u number,
  told-at (for_all (HandedOn number)) 0 bus.agents a
      ∙ ap (option_map (λ v. handed_on v number)) e,
)

-- an agent of the bench is there after the hits
pub performed-there : (v : BenchView) (a : ℕ) (u : AgentView) → slice_get v.bus.agents a ≡ Some u
    → (w : AgentView) × (slice_get (step_performed v).agents a ≡ Some w)
performed-there v a u e =
    let k = fetched-there v.bus (bytes_source v.bus (step_drive v)) a u e in (
      performed k.0 (next_clock_of v),
      told-at (for_all (Performed (next_clock_of v))) 0 (step_fetched v).agents a
          ∙ ap (option_map (λ v'. performed v' (next_clock_of v))) k.1,
    )
