-- Runs with too many answers or too few, with a bit that is not known, or with a log that leaves out an access: none is a
-- simulation.
use Rattle.std.proofs.Common.{◌≡◌, ◌≢◌, ℕ, zero, suc, refl, List, [], ◌∷◌, true, false, ap, take, arith}
use Rattle.fsb_access.specs.ScriptOrder.{Step, accesses_of, script_of, steps_of}
use Rattle.fsb_access.specs.declared.log.Done.{Done}
use Rattle.fsb_hazard.specs.Choice.{quiet_choice}
use Rattle.fsb_signal.specs.declared.sample.Sample.{Sample}
use Rattle.fsb_timely.specs.Simulated.{Simulated}
use Rattle.rows_timely.proofs.EmptyRun.{run as empty_run}
use Rattle.rows_timely.proofs.LoadThenStoreHit.{run as hit_run}
use Rattle.rows_timely.proofs.Opened.{opened}
use Rattle.rows_timely.proofs.Words.{Literal, Store, entry, idle, run_of}

-- no hold is kept of 60 clocks
pub fewer_holds_is_not_simulated : ¬ Simulated (record hit_run { holds = [] })
unfolding opened
fewer_holds_is_not_simulated s = absurd (let f : 0 ≡ 60 = s.timely.one_hold in omega arith)

-- no choice is kept of the one request
pub fewer_choices_is_not_simulated : ¬ Simulated (record hit_run { choices = [] })
unfolding opened
fewer_choices_is_not_simulated s = absurd (let f : 0 ≡ 1 = s.timely.one_choice in omega arith)

-- a hold without a clock
pub more_holds_is_not_simulated : ¬ Simulated (record empty_run { holds = false ∷ [] })
unfolding opened
more_holds_is_not_simulated s = absurd (let f : 1 ≡ 0 = s.timely.one_hold in omega arith)

-- a choice without a request
pub more_choices_is_not_simulated : ¬ Simulated (record empty_run { choices = quiet_choice ∷ [] })
unfolding opened
more_choices_is_not_simulated s = absurd (let f : 1 ≡ 0 = s.timely.one_choice in omega arith)

-- a clock with a bit of D# that is not known
abbrev pub unknown_data : Sample
unknown_data = record idle { dbus = record { bits = 0; unknown = 1; disjoint = refl } }

pub unknown_is_not_simulated : ¬ Simulated (run_of empty_run.plan (unknown_data ∷ []) [])
unfolding opened
unknown_is_not_simulated s = absurd (let f : false ≡ true = s.timely.known in cc)

-- the second access is logged without the first
abbrev pub skipping : List Done
skipping = entry 12 0 1 0 (Store 1 0x41 (Literal 0x5)) 0x5 ∷ []

-- the item of the first of these accesses, or a number that no item here has
abbrev first_item : List Step → ℕ
first_item [] = 7
first_item (step ∷ steps) = step.item

not_both : (n m : ℕ) → n ≡ 1 → n ≡ m → m ≢ 1 → ⊥
not_both n m a b c = omega arith

no_first : (items : ℕ) → steps_of 0 skipping ≡ accesses_of (take items (script_of empty_run.plan.scripts 0)) → ⊥
no_first zero e = not_both (first_item (steps_of 0 skipping)) 7 refl (ap first_item e) (omega arith)
no_first (suc items) e = not_both (first_item (steps_of 0 skipping)) 0 refl (ap first_item e) (omega arith)

pub skipped_is_not_in_order : ¬ Simulated (run_of empty_run.plan empty_run.trace skipping)
unfolding opened
skipped_is_not_in_order s = absurd (no_first (s.in_order.follows 0).items (s.in_order.follows 0).same)
