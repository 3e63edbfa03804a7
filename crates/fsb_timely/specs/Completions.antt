-- Completions: which entries the log has at a clock.
use Rattle.std.specs.Prelude.{ℕ, ◌+◌, ◌&&◌, ◌||◌, Bool, true, false, not, nat_eq, nat_le, nat_lt, List, [], ◌∷◌, ◌++◌, map}
use Rattle.std.specs.List.{list_any, list_all, filter}
use Rattle.std.specs.Option.{option_map_or}
use Rattle.fsb_count.specs.Clocks.{any_where}
use Rattle.fsb_count.specs.Options.{is_some_and}
use Rattle.fsb_access.specs.declared.access.Access.{Access}
use Rattle.fsb_access.specs.declared.access.Access.TheVariants.{Load, Store}
use Rattle.fsb_access.specs.declared.access.Operand.{Operand}
use Rattle.fsb_access.specs.declared.access.Operand.TheVariants.{Literal, LastPlus}
use Rattle.fsb_access.specs.declared.item.Item.{Item}
use Rattle.fsb_access.specs.declared.log.Done.{Done}
use Rattle.fsb_access.specs.ScriptOrder.{Step, steps_of_item, step_of}
use Rattle.fsb_timely.specs.Past.{Past}
use Rattle.fsb_timely.specs.Grants.{is_end_at, grant_at, is_granted, has_arrived}
use Rattle.fsb_timely.specs.Scripts.{Need, is_idling, next_number, next_item, needs_of}
use Rattle.fsb_timely.specs.Hits.{is_met, is_hit}
use Rattle.fsb_timely.specs.Runs.{Run}

-- the grant at t is of the needed line to agent a, its end is c, and it brings what is needed: a read and invalidate or an
-- upgrade brings any line, a read a line that is not needed alone
unfoldable pub brings_at : Past → ℕ → ℕ → Need → ℕ → Bool
brings_at p a c need t =
    is_granted p a need.line t
    && is_some_and (grant_at p t) (λ grant. is_end_at p c grant.first && (grant.owns || not need.alone))

-- a grant of the needed line to agent a has its end at c, and brings what is needed
unfoldable pub is_brought : Past → ℕ → ℕ → Need → Bool
is_brought p a c need = any_where (brings_at p a c need) (c + 1)

-- agent a has at c + 1 what is needed, and the end of the line's latest grant is below c
unfoldable pub is_there : Past → ℕ → ℕ → Need → Bool
is_there p a c need = is_met p a (c + 1) need && has_arrived p a need.line (c + 1) c

-- the line of one of these needs is brought at c, and each other line is there
unfoldable pub completes_by : Past → ℕ → ℕ → List Need → Need → Bool
completes_by p a c needs need =
    is_brought p a c need && list_all (λ other. nat_eq other.line need.line || is_there p a c other) needs

-- agent a has an arrival at c: it does not idle, has no hit at c, one line of its next item is brought at c, and each other
-- line of it is there
unfoldable pub is_arrival : Past → ℕ → ℕ → Bool
is_arrival p a c =
    not (is_idling p a c) && not (is_hit p a c)
    && is_some_and (next_item p a c) (λ item. list_any (completes_by p a c (needs_of item)) (needs_of item))

-- an access as an entry has it, without its clock and its value: whose it is, and what it is in the script
pub record Completed : Type 0 where
  pub agent : ℕ
  pub step : Step

-- the accesses of item n of agent a, in order
unfoldable pub completed_of_item : ℕ → ℕ → Item → List Completed
completed_of_item a n item = map (λ step. record { agent = a; step = step }) (steps_of_item n item)

-- the accesses of agent a's next item at c, in order
unfoldable pub next_accesses : Past → ℕ → ℕ → List Completed
next_accesses p a c =
    option_map_or (λ n. option_map_or (completed_of_item a n) (next_item p a c) []) (next_number p a c) []

-- agent a's accesses, where the test says that it completes its next item
unfoldable pub completed_if : Past → ℕ → Bool → ℕ → List Completed
completed_if p c completes a = elim completes [ true ↦ next_accesses p a c | false ↦ [] ]

-- the lists of agents 0 to 3, one after the other
unfoldable pub of_all_agents : (ℕ → List Completed) → List Completed
of_all_agents list = list 0 ++ list 1 ++ list 2 ++ list 3

-- the accesses that are completed at c: those of the hits, agent 0 to 3, and then those of the arrival
unfoldable pub completed_at : Past → ℕ → List Completed
completed_at p c =
    of_all_agents (λ a. completed_if p c (is_hit p a c) a) ++ of_all_agents (λ a. completed_if p c (is_arrival p a c) a)

-- the entries of the log at c, in order
unfoldable pub entries_at : Past → ℕ → List Completed
entries_at p c =
    map (λ done. record { agent = done.agent; step = step_of done }) (filter (λ done. nat_eq done.clock c) p.log)

-- two operands are the same
unfoldable pub is_operand : Operand → Operand → Bool
is_operand (Literal n) (Literal m) = nat_eq n m
is_operand (Literal n) (LastPlus m) = false
is_operand (LastPlus n) (Literal m) = false
is_operand (LastPlus n) (LastPlus m) = nat_eq n m

-- two accesses are the same
unfoldable pub is_access : Access → Access → Bool
is_access (Load size addr) (Load size' addr') = nat_eq size size' && nat_eq addr addr'
is_access (Load size addr) (Store size' addr' value') = false
is_access (Store size addr value) (Load size' addr') = false
is_access (Store size addr value) (Store size' addr' value') =
    nat_eq size size' && nat_eq addr addr' && is_operand value value'

-- two completed accesses are the same
unfoldable pub is_completed : Completed → Completed → Bool
is_completed x y =
    nat_eq x.agent y.agent && nat_eq x.step.item y.step.item && nat_eq x.step.part y.step.part
    && is_access x.step.access y.step.access

-- two lists have the same completed accesses in the same order
unfoldable pub are_completed : List Completed → List Completed → Bool
are_completed [] [] = true
are_completed [] (y ∷ ys) = false
are_completed (x ∷ xs) [] = false
are_completed (x ∷ xs) (y ∷ ys) = is_completed x y && are_completed xs ys

-- Completions: the entries at c are the accesses that are completed there.
unfoldable pub logs_completions : Run → Past → ℕ → Bool
logs_completions r p c = are_completed (entries_at p c) (completed_at p c)

-- the clocks of the entries never fall, begin at `first` or above, and are all below `end`
unfoldable pub is_in_time : ℕ → ℕ → List Done → Bool
is_in_time first end [] = true
is_in_time first end (done ∷ log) =
    nat_le first done.clock && (nat_lt done.clock end && is_in_time done.clock end log)
