-- A few clocks by hand, and the events of a line in them.
use Rattle.std.specs.Prelude.{ℕ, true, false, List, [], ◌∷◌, Option, Some, None}
use Rattle.fsb_access.specs.declared.access.Access.TheVariants.{Load, Store}
use Rattle.fsb_access.specs.declared.access.Operand.TheVariants.{Literal}
use Rattle.fsb_access.specs.declared.item.Item.TheVariants.{One}
use Rattle.fsb_access.specs.declared.log.Done.{Done}
use Rattle.fsb_encode.specs.declared.request.Kind.TheVariants as kinds
use Rattle.fsb_hazard.specs.declared.choice.Turn.TheVariants.{Keep}
use Rattle.fsb_line.specs.declared.purpose.Purpose.TheVariants.{Read}
use Rattle.fsb_line.specs.Events.{Event}
use Rattle.fsb_line.specs.Events.Event.{Begins, Drops, IsHanded, IsLost, Stores}
use Rattle.fsb_script.specs.Plans.{PlanView}
use Rattle.fsb_trace.specs.declared.outcome.Outcome.TheVariants.{Handed, Upgraded, Granted}
use Rattle.fsb_timely.specs.Past.{Moment, Owing, Past, SnoopEnd}
use Rattle.fsb_coherent.specs.LineEvents.{change_of}

-- agents 0, 1 and 2 have a load, a store and a load of the line 2
abbrev pub worked_plan : PlanView
worked_plan = record {
  scripts = (One (Load 1 0x40) ∷ []) ∷ (One (Store 1 0x40 (Literal 7)) ∷ []) ∷ (One (Load 1 0x40) ∷ []) ∷ [];
  clocks = 60;
  cache = 4;
  ahead = 1;
  profile = 2;
  bridge = None;
  mem = [];
  hazards = [];
}

-- a clock that shows nothing but perhaps a request that begins, a snoop end and ends
abbrev pub moment_with : Option Owing → Option SnoopEnd → List ℕ → Moment
moment_with begun snooped ended = record {
  begun = begun;
  cancelled = None;
  snooped = snooped;
  responded = None;
  retried = None;
  ended = ended;
  outstanding = [];
  unsnooped = [];
}

-- agent 0 reads the line
abbrev pub got_by_0 : SnoopEnd
got_by_0 = record {
  first = 0;
  claim = Some (record { first = 0; agent = 0; line = 2 });
  kind = Some kinds.Read;
  turn = Keep;
  outcome = Granted;
  grant = Some (record { first = 0; agent = 0; line = 2; owns = false; shared = false });
}

-- agent 1 gets it for itself
abbrev pub owned_by_1 : SnoopEnd
owned_by_1 = record {
  first = 1;
  claim = Some (record { first = 1; agent = 1; line = 2 });
  kind = Some kinds.Invalidate;
  turn = Keep;
  outcome = Granted;
  grant = Some (record { first = 1; agent = 1; line = 2; owns = true; shared = true });
}

-- and hands it to agent 2
abbrev pub handed_to_2 : SnoopEnd
handed_to_2 = record {
  first = 3;
  claim = Some (record { first = 3; agent = 2; line = 2 });
  kind = Some kinds.Read;
  turn = Keep;
  outcome = Handed;
  grant = Some (record { first = 3; agent = 2; line = 2; owns = false; shared = true });
}

-- an upgrade of agent 3 that has lost
abbrev pub lost_by_3 : SnoopEnd
lost_by_3 = record {
  first = 2;
  claim = Some (record { first = 2; agent = 3; line = 2 });
  kind = Some kinds.Upgrade;
  turn = Keep;
  outcome = Upgraded;
  grant = None;
}

-- the store of agent 1, a hit
abbrev pub worked_store : Done
worked_store = record { clock = 4; agent = 1; item = 0; part = 0; access = Store 1 0x40 (Literal 7); value = 7 }

-- agent 0 read the line, and agent 1 got it for itself and has its bytes; agent 2 asks to read it, and gets it at the
-- clock at which agent 1 stores; then agent 2 begins a request for another line of the cache set, and an upgrade of
-- agent 3 has lost
abbrev pub worked_past : Past
worked_past = record {
  plan = worked_plan;
  moments =
      moment_with None (Some got_by_0) []
      ∷ moment_with None (Some owned_by_1) []
      ∷ moment_with None None (0 ∷ 1 ∷ [])
      ∷ moment_with (Some (record { claim = record { first = 3; agent = 2; line = 2 }; did = 32 })) None []
      ∷ moment_with None (Some handed_to_2) []
      ∷ moment_with (Some (record { claim = record { first = 5; agent = 2; line = 6 }; did = 32 })) None []
      ∷ moment_with None (Some lost_by_3) []
      ∷ [];
  log = worked_store ∷ [];
}

-- the events of line 2 from clock 3 on, clock by clock
abbrev pub worked_events : List (List Event)
worked_events =
    (Begins 2 Read 3 ∷ [])
    ∷ (Stores 1 (change_of worked_store) ∷ IsHanded 2 Read 1 ∷ [])
    ∷ (Drops 2 ∷ [])
    ∷ (IsLost 3 ∷ [])
    ∷ []
