-- The sets of a cache after accesses: they have the same lines, and have them as they were held, alone or not.
use Rattle.std.proofs.Common.{ℕ, ◌+◌, ◌<◌, ◌≡◌, ◌≢◌, ◌%◌, ◌/◌, true, false, Option, Some, None, List, [], ◌∷◌, length}
use Rattle.std.proofs.Common.{refl, sym, ap, subst, ◌∙◌, inl, inr, ⊎_elim, arith}
use Rattle.std.specs.Prelude.{◌==◌, ◌&&◌, IsTrue}
use Rattle.std.specs.List.{list_all, slice_index_or}
use Rattle.std.specs.Option.{option_map}
use Rattle.std.proofs.lemmas.Bool.{cases_Bool, cases_eq}
use Rattle.fsb_access.specs.declared.access.Access.{Access}
use Rattle.fsb_access.specs.declared.access.Access.TheVariants.{Load, Store}
use Rattle.fsb_access.specs.declared.access.Operand.{Operand}
use Rattle.fsb_access.specs.declared.item.Item.{Item}
use Rattle.fsb_access.specs.declared.item.Item.TheVariants.{One, Locked, Idle}
use Rattle.fsb_access.specs.Access.{accessed_line}
use Rattle.fsb_access.specs.ScriptOrder.{Step, steps_from, steps_of_item}
use Rattle.fsb_cache.specs.declared.held.Held.{Held}
use Rattle.fsb_cache.specs.Sets.{CacheSets, held_at, held_stored, only_line, resident_of, sets_stored, slot_of}
use Rattle.fsb_cache.specs.Sets.{state_of_held, states}
use Rattle.fsb_line.specs.declared.state.Mesi.{Mesi}
use Rattle.fsb_line.specs.declared.state.Mesi.TheVariants.{Exclusive, Invalid, Modified, Shared}
use Rattle.fsb_line.specs.States.{is_held, is_sole}
use Rattle.fsb_timely.specs.Scripts.{is_load}
use Rattle.fsb_agent_view.specs.Serving.{AtHand, hand_after, hand_after_steps}
use Rattle.fsb_agent_view.proofs.Interface.{both_left, both_right, length-with_slot, list_all-from, slot_of-other}
use Rattle.fsb_agent_view.proofs.Interface.{slot_of-same}
use Rattle.fsb_agent.specs.Parts.{accesses_in, is_servable}
use Rattle.fsb_agent.proofs.Lowered.{IsLowered}
use Rattle.fsb_agent.proofs.SlotMaps.{held_at-apart, held_at-same}

-- the sets have the same lines, held as before
pub record IsAlike (before after : CacheSets) : Type 0 where
  pub count : length after ≡ length before
  pub residents : (line : ℕ) → resident_of after line ≡ resident_of before line
  pub held : (line : ℕ) → is_held (states after line) ≡ is_held (states before line)
  pub sole : (line : ℕ) → is_sole (states after line) ≡ is_sole (states before line)

pub alike-self : (sets : CacheSets) → IsAlike sets sets
alike-self sets = record { count = refl; residents = λ line. refl; held = λ line. refl; sole = λ line. refl }

pub alike-then : (first second third : CacheSets) → IsAlike first second → IsAlike second third → IsAlike first third
alike-then first second third a b = record {
  count = b.count ∙ a.count;
  residents = λ line. b.residents line ∙ a.residents line;
  held = λ line. b.held line ∙ a.held line;
  sole = λ line. b.sole line ∙ a.sole line;
}

-- so none of them is alone that was not
pub lowered-alike : (before after : CacheSets) → IsAlike before after → IsLowered before after
lowered-alike before after a = record {
  count = a.count;
  residents = λ line. inr (a.residents line);
  sole = λ line h. sym (a.sole line) ∙ h;
}

resident-stored : (addr size value : ℕ) (slot : Option Held)
    → option_map (λ held. held.line) (option_map (held_stored addr size value) slot)
    ≡ option_map (λ held. held.line) slot
resident-stored addr size value None = refl
resident-stored addr size value (Some held) = refl

-- a store into the line of a set that is held alone leaves that and each other line held as before
stored-tests : (line target addr size value : ℕ) (slot : Option Held)
    → is_sole (state_of_held (only_line target slot)) ≡ true
    → (is_held (state_of_held (only_line line (option_map (held_stored addr size value) slot)))
    ≡ is_held (state_of_held (only_line line slot)))
    × (is_sole (state_of_held (only_line line (option_map (held_stored addr size value) slot)))
    ≡ is_sole (state_of_held (only_line line slot)))
stored-tests line target addr size value None alone = (refl, refl)
stored-tests line target addr size value (Some held) alone =
    elim (cases_Bool (held.line == target)) [
      | inr off ↦ absurd (let never : false ≡ true = rw off at alone in (let h : ⊥ = cc in h))
      | inl on ↦
          let sole : is_sole held.state ≡ true = rw on at alone in
          (elim (cases_Bool (held.line == line)) [
            | inr off ↦ rw off (refl, refl)
            | inl this ↦ rw this (sym (sole_held held.state sole), sym sole)
          ])
    ]
  where
    sole_held : (state : Mesi) → is_sole state ≡ true → is_held state ≡ true
    sole_held Invalid h = h
    sole_held Shared h = refl
    sole_held Exclusive h = refl
    sole_held Modified h = refl

pub alike-stored : (sets : CacheSets) (addr size value : ℕ) → 0 < length sets
    → is_sole (states sets (addr / 32)) ≡ true → IsAlike sets (sets_stored sets addr size value)
unfolding states held_at
alike-stored sets addr size value some alone =
    let target = addr / 32 in
    let slot : Option Held = option_map (held_stored addr size value) (slot_of sets target) in
    record {
      count = length-with_slot sets target slot;
      residents = λ line. ⊎_elim
          (λ (same : line % length sets ≡ target % length sets).
          ap (option_map (λ held. held.line)) (slot_of-same sets target line slot some same)
          ∙ resident-stored addr size value (slot_of sets target)
          ∙ sym (ap (λ k. option_map (λ held. held.line) (slice_index_or sets k None)) same))
          (λ (apart : line % length sets ≢ target % length sets). ap (option_map (λ held. held.line))
          (slot_of-other sets target line slot apart))
          (cases_eq (line % length sets) (target % length sets));
      held = λ line. (tests line).0;
      sole = λ line. (tests line).1;
    }
  where
    tests : (line : ℕ) → (is_held (states (sets_stored sets addr size value) line) ≡ is_held (states sets line))
        × (is_sole (states (sets_stored sets addr size value) line) ≡ is_sole (states sets line))
    tests line =
        let target = addr / 32 in
        let slot : Option Held = option_map (held_stored addr size value) (slot_of sets target) in
        ⊎_elim
        (λ (same : line % length sets ≡ target % length sets).
        rw (held_at-same sets target line slot some same, same)
        (stored-tests line target addr size value (slot_of sets target) alone))
        (λ (apart : line % length sets ≢ target % length sets). rw (held_at-apart sets target line slot apart)
        (refl, refl))
        (cases_eq (line % length sets) (target % length sets))

-- an access may be performed on sets that are alike
pub servable-alike : (before after : CacheSets) (access : Access) → IsAlike before after
    → is_servable before access ≡ true → is_servable after access ≡ true
servable-alike before after access a may =
    let line = accessed_line access in
    rw (a.held line, a.sole line) may

-- after an access the sets are alike
pub alike-access : (hand : AtHand) (access : Access) → 0 < length hand.lines
    → is_servable hand.lines access ≡ true → IsAlike hand.lines (hand_after hand access).lines
unfolding is_load
alike-access hand (Load size addr) some may = alike-self hand.lines
alike-access hand (Store size addr value) some may =
    alike-stored hand.lines addr size _ some (both_right (is_held (states hand.lines (addr / 32))) _ may)

-- and after several
pub alike-steps : (hand : AtHand) (steps : List Step) → 0 < length hand.lines
    → list_all (λ step. is_servable hand.lines step.access) steps ≡ true
    → IsAlike hand.lines (hand_after_steps hand steps).lines
alike-steps hand [] some may = alike-self hand.lines
alike-steps hand (step ∷ steps) some may =
    let first = is_servable hand.lines step.access in
    let others = list_all (λ step. is_servable hand.lines step.access) steps in
    let next = hand_after hand step.access in
    let a = alike-access hand step.access some (both_left first others may) in
    alike-then hand.lines next.lines (hand_after_steps next steps).lines a
    (alike-steps next steps (rw a.count some)
    (list_all-from (λ step. is_servable hand.lines step.access) (λ step. is_servable next.lines step.access)
    steps (λ step h. servable-alike hand.lines next.lines step.access a h) (both_right first others may)))

-- the steps of an item have its accesses
steps-part : (lines : CacheSets) (item part : ℕ) (accesses : List Access)
    → list_all (λ step. is_servable lines step.access) (steps_from item part accesses)
    ≡ list_all (is_servable lines) accesses
steps-part lines item part [] = refl
steps-part lines item part (access ∷ accesses) =
    ap (λ b. is_servable lines access && b) (steps-part lines item (part + 1) accesses)

pub steps-servable : (lines : CacheSets) (n : ℕ) (item : Item)
    → list_all (λ step. is_servable lines step.access) (steps_of_item n item)
    ≡ list_all (is_servable lines) (accesses_in item)
steps-servable lines n (One access) = refl
steps-servable lines n (Locked group) = steps-part lines n 0 group
steps-servable lines n (Idle clocks) = refl

-- a store may be performed on a line that is held alone
pub sole_store : (lines : CacheSets) (access : Access) (size addr : ℕ) (value : Operand)
    → access ≡ Store size addr value → is_servable lines access ≡ true → IsTrue (is_sole (states lines (addr / 32)))
unfolding is_load
sole_store lines access size addr value is may =
    both_right (is_held (states lines (addr / 32))) _ (subst (λ (a : Access). is_servable lines a ≡ true) is may)

-- a cache with a line has sets
pub some_sets : (lines : CacheSets) (line : ℕ) → is_held (states lines line) ≡ true → 0 < length lines
unfolding states held_at
some_sets [] line held = absurd (let h : ⊥ = cc in h)
some_sets (slot ∷ slots) line held = omega arith

-- what may be performed may be performed after an access
pub keeps_servable : (before after : AtHand) (access other : Access) → is_servable before.lines access ≡ true
    → after ≡ hand_after before access → is_servable before.lines other ≡ true → is_servable after.lines other ≡ true
keeps_servable before after access other may is servable =
    let some = some_sets before.lines (accessed_line access)
    (both_left (is_held (states before.lines (accessed_line access))) _ may) in
    rw is (servable-alike before.lines (hand_after before access).lines other
    (alike-access before access some may) servable)
