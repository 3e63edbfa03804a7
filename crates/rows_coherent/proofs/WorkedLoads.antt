-- Loads are events of their line, as stores are: a hit, and the other line of a locked item whose last line comes. A
-- few clocks by hand.
use Rattle.std.proofs.Common.{◌≡◌, ℕ, ◌∷◌, [], refl, Some, None, true, false}
use Rattle.fsb_access.specs.declared.access.Access.TheVariants.{Load, Store}
use Rattle.fsb_access.specs.declared.access.Operand.TheVariants.{Literal}
use Rattle.fsb_access.specs.declared.item.Item.TheVariants.{Locked}
use Rattle.fsb_access.specs.declared.log.Done.{Done}
use Rattle.fsb_encode.specs.declared.request.Kind.TheVariants as kinds
use Rattle.fsb_hazard.specs.declared.choice.Turn.TheVariants.{Keep}
use Rattle.fsb_line.specs.Events.Event.{Loads}
use Rattle.fsb_script.specs.Plans.{PlanView}
use Rattle.fsb_trace.specs.declared.outcome.Outcome.TheVariants.{Granted}
use Rattle.fsb_timely.specs.Past.{Past, SnoopEnd}
use Rattle.fsb_coherent.specs.LineEvents.{events_at}
use Rattle.fsb_coherent.specs.Worked.{got_by_0, moment_with, worked_plan}
use Rattle.rows_coherent.proofs.Dated.{computed}

-- agent 0 loads from the line that it read, a clock after its bytes came
abbrev worked_load : Done
worked_load = record { clock = 3; agent = 0; item = 0; part = 0; access = Load 1 0x40; value = 0 }

abbrev load_past : Past
load_past = record {
  plan = worked_plan;
  moments =
      moment_with None (Some got_by_0) []
      ∷ moment_with None None []
      ∷ moment_with None None (0 ∷ [])
      ∷ moment_with None None []
      ∷ [];
  log = worked_load ∷ [];
}

-- it has a locked item that loads from line 2 and stores into line 3
abbrev locked_plan : PlanView
locked_plan = record worked_plan {
  scripts = (Locked (Load 1 0x40 ∷ Store 1 0x60 (Literal 7) ∷ []) ∷ []) ∷ [];
}

-- it gets a line for itself, by the request that begins at this clock
abbrev owned_from : ℕ → ℕ → SnoopEnd
owned_from first line = record {
  first = first;
  claim = Some (record { first = first; agent = 0; line = line });
  kind = Some kinds.Invalidate;
  turn = Keep;
  outcome = Granted;
  grant = Some (record { first = first; agent = 0; line = line; owns = true; shared = false });
}

abbrev locked_load : Done
locked_load = record { clock = 3; agent = 0; item = 0; part = 0; access = Load 1 0x40; value = 0 }

abbrev locked_store : Done
locked_store = record { clock = 3; agent = 0; item = 0; part = 1; access = Store 1 0x60 (Literal 7); value = 7 }

-- line 2 came at clock 1, and line 3 comes at clock 3
abbrev locked_past : Past
locked_past = record {
  plan = locked_plan;
  moments =
      moment_with None (Some (owned_from 0 2)) []
      ∷ moment_with None None (0 ∷ [])
      ∷ moment_with None (Some (owned_from 2 3)) []
      ∷ moment_with None None (2 ∷ [])
      ∷ [];
  log = locked_load ∷ locked_store ∷ [];
}

-- the load is an event of line 2
pub hit_is_an_event : events_at load_past 2 3 ≡ Loads 0 ∷ []
unfolding computed
hit_is_an_event = refl

-- so is that of the locked item, which comes with the end of line 3
pub other_line_is_an_event : events_at locked_past 2 3 ≡ Loads 0 ∷ []
unfolding computed
other_line_is_an_event = refl
