-- Plans that the generator makes, worked out from what the generator draws.
use Rattle.std.proofs.Common.{◌≡◌, ◌-◌, ◌^◌, [], ◌∷◌, Some, refl}
use Rattle.fsb_access.specs.declared.access.Access.TheVariants.{Load, Store}
use Rattle.fsb_access.specs.declared.access.Operand.TheVariants.{Literal, LastPlus}
use Rattle.fsb_access.specs.declared.item.Item.TheVariants.{One, Locked, Idle}
use Rattle.fsb_hazard.specs.declared.line.HazardLine.TheVariants.{Stall, Trdy, Resp, Gap, Aerr}
use Rattle.fsb_hazard.specs.Seed.{line_drawn}
use Rattle.fsb_script.specs.Plans.{PlanView}
use Rattle.fsb_script.specs.Made.{drawn_size, drawn_addr, drawn_load, drawn_store, item_of_kind, numbers_of_kind}
use Rattle.fsb_script.specs.Made.{drawn_item, state_behind_item, made_plan}

-- seed 0 draws one locked item, and no hazard for request 0
abbrev pub locked_item : PlanView
locked_item = record {
  scripts =
      (Locked (Load 1 0x0 ∷ Store 1 0x0 (LastPlus 0x1) ∷ []) ∷ [])
      ∷ [];
  clocks = 40;
  cache = 16;
  ahead = 1;
  profile = 1;
  bridge = Some (record { base = 0x600; size = 0x200 });
  mem = [];
  hazards = [];
}

pub locked_item_made : made_plan 0 1 1 ≡ locked_item
unfolding made_plan drawn_item item_of_kind numbers_of_kind state_behind_item drawn_load drawn_store drawn_size
    drawn_addr line_drawn
locked_item_made = refl

-- seed 25, two agents with four items each
abbrev pub each_kind : PlanView
each_kind = record {
  scripts =
      (One (Load 2 0x3e2) ∷ One (Load 1 0x22d) ∷ One (Load 2 0x388) ∷ One (Store 4 0x10c (Literal 0xa8)) ∷ [])
      ∷ (Locked (Load 1 0x0 ∷ Store 1 0x0 (LastPlus 0x1) ∷ []) ∷ One (Load 1 0x3fa) ∷ Idle 2 ∷ Locked
      (Load 1 0x0 ∷ Store 1 0x0 (LastPlus 0x1) ∷ []) ∷ [])
      ∷ [];
  clocks = 320;
  cache = 16;
  ahead = 1;
  profile = 1;
  bridge = Some (record { base = 0x600; size = 0x200 });
  mem = [];
  hazards = Trdy 0 1 ∷ Aerr 2 ∷ Stall 4 1 ∷ Gap 5 1 ∷ Resp 7 2 ∷ [];
}

pub each_kind_made : made_plan 25 2 4 ≡ each_kind
unfolding made_plan drawn_item item_of_kind numbers_of_kind state_behind_item drawn_load drawn_store drawn_size
    drawn_addr line_drawn
each_kind_made = refl

-- the last seed, three agents with two items each
abbrev pub last_seed : PlanView
last_seed = record {
  scripts =
      (One (Store 8 0x2b0 (Literal 0x80)) ∷ One (Load 2 0x2f0) ∷ [])
      ∷ (One (Store 8 0x640 (Literal 0x5a)) ∷ Locked (Load 1 0x0 ∷ Store 1 0x0 (LastPlus 0x1) ∷ []) ∷ [])
      ∷ (One (Load 2 0x84) ∷ One (Load 2 0x382) ∷ [])
      ∷ [];
  clocks = 240;
  cache = 16;
  ahead = 1;
  profile = 1;
  bridge = Some (record { base = 0x600; size = 0x200 });
  mem = [];
  hazards = Gap 2 1 ∷ Aerr 4 ∷ [];
}

pub last_seed_made : made_plan (2 ^ 64 - 1) 3 2 ≡ last_seed
unfolding made_plan drawn_item item_of_kind numbers_of_kind state_behind_item drawn_load drawn_store drawn_size
    drawn_addr line_drawn
last_seed_made = refl
