-- What the agents of a plan have to do before its first clock.
use Rattle.std.proofs.Common.{◌≡◌, ◌≤◌, ℕ, ◌+◌, List, [], ◌∷◌, drop, zero, suc, arith}
use Rattle.std.proofs.lemmas.List.Sums.{sum_by-cons}
use Rattle.fsb_access.specs.ScriptOrder.{script_of}
use Rattle.fsb_access.specs.declared.item.Item.{Item}
use Rattle.fsb_agent_view.specs.AgentViews.{AgentView}
use Rattle.fsb_agent_view.specs.Idling.{place_from}
use Rattle.fsb_script.specs.Plans.{PlanView}
use Rattle.fsb_plan_size.specs.AccessCount.{access_count, item_accesses, script_accesses}
use Rattle.fsb_bench_view.specs.FirstBench.{first_agent, first_agents}
use Rattle.fsb_bus.specs.LogRoom.{accesses_left, accesses_left_of}

left-drop : (items : List Item) (n : ℕ) → script_accesses (drop n items) ≤ script_accesses items
left-drop [] zero = omega arith
left-drop [] (suc n) = omega arith
left-drop (item ∷ items) zero = omega arith
left-drop (item ∷ items) (suc n) = omega (arith, left-drop items n, sum_by-cons item_accesses item items)

-- the first four scripts have no more accesses than all of them
FourOf : List (List Item) → List Item → List Item → List Item → List Item → Type 0
FourOf scripts a b c d =
    script_accesses a + (script_accesses b + (script_accesses c + script_accesses d)) ≤ access_count scripts

four-scripts : (scripts : List (List Item))
    → FourOf scripts (script_of scripts 0) (script_of scripts 1) (script_of scripts 2) (script_of scripts 3)
unfolding FourOf
four-scripts [] = omega arith
four-scripts (a ∷ []) = omega (arith, sum_by-cons script_accesses a [])
four-scripts (a ∷ b ∷ []) = omega (arith, sum_by-cons script_accesses a (b ∷ []), sum_by-cons script_accesses b [])
four-scripts (a ∷ b ∷ c ∷ []) =
    omega (
      arith,
      sum_by-cons script_accesses a (b ∷ c ∷ []),
      sum_by-cons script_accesses b (c ∷ []),
      sum_by-cons script_accesses c [],
    )
four-scripts (a ∷ b ∷ c ∷ d ∷ rest) =
    omega (
      arith,
      sum_by-cons script_accesses a (b ∷ c ∷ d ∷ rest),
      sum_by-cons script_accesses b (c ∷ d ∷ rest),
      sum_by-cons script_accesses c (d ∷ rest),
      sum_by-cons script_accesses d rest,
    )

agent-left : (plan : PlanView) (n : ℕ) → accesses_left (first_agent plan n) ≤ script_accesses (script_of plan.scripts n)
agent-left plan n = left-drop (script_of plan.scripts n) (place_from (script_of plan.scripts n) 0)

sum-four : (a b c d : AgentView)
    → accesses_left_of (a ∷ b ∷ c ∷ d ∷ []) ≡ accesses_left a + (accesses_left b + (accesses_left c + accesses_left d))
sum-four a b c d =
    omega (
      arith,
      sum_by-cons accesses_left a (b ∷ c ∷ d ∷ []),
      sum_by-cons accesses_left b (c ∷ d ∷ []),
      sum_by-cons accesses_left c (d ∷ []),
      sum_by-cons accesses_left d [],
    )

pub first-left : (plan : PlanView) → accesses_left_of (first_agents plan) ≤ access_count plan.scripts
unfolding FourOf
first-left plan =
    omega (
      arith,
      four-scripts plan.scripts,
      agent-left plan 0,
      agent-left plan 1,
      agent-left plan 2,
      agent-left plan 3,
      sum-four (first_agent plan 0) (first_agent plan 1) (first_agent plan 2) (first_agent plan 3),
    )
