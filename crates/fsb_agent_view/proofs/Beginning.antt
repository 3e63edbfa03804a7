-- An agent is sound before any event, and its next item is never an idle one.
use Rattle.std.proofs.Common.{ℕ, zero, suc, ◌+◌, ◌<◌, ◌≤◌, ◌%◌, ◌≡◌, true, false, Option, None, List, [], ◌∷◌, length}
use Rattle.std.proofs.Common.{drop, replicate, get_or, refl, ap, ◌∙◌, arith, zero-add, add-one}
use Rattle.std.specs.List.{slice_get}
use Rattle.std.specs.Option.{option_map_or}
use Rattle.std.proofs.lemmas.List.{length-replicate}
use Rattle.fsb_access.specs.declared.item.Item.{Item}
use Rattle.fsb_access.specs.declared.item.Item.TheVariants.{One, Locked, Idle}
use Rattle.fsb_cache.specs.declared.held.Held.{Held}
use Rattle.fsb_script.specs.Bounds.{is_lawful_script, is_profile}
use Rattle.fsb_timely.specs.Scripts.{is_idle}
use Rattle.fsb_agent_view.specs.AgentEvents.{first_view}
use Rattle.fsb_agent_view.specs.Idling.{idle_count_in_front, is_idle_item, place_from}
use Rattle.fsb_agent_view.specs.Sound.{IsSound}

-- behind the idle items in front stands none
front_busy : (items : List Item) → is_idle_item items (idle_count_in_front items) ≡ false
unfolding is_idle
front_busy [] = refl
front_busy (One access ∷ items) = refl
front_busy (Locked group ∷ items) = refl
front_busy (Idle clocks ∷ items) = rw (add-one (idle_count_in_front items)) (front_busy items)

-- item k of a list without its first n
slice_get-drop : (n k : ℕ) (items : List Item) → slice_get items (n + k) ≡ slice_get (drop n items) k
slice_get-drop zero k items = ap (slice_get items) (zero-add k)
slice_get-drop (suc n) k [] = refl
slice_get-drop (suc n) k (item ∷ items) =
    let next : suc n + k ≡ suc (n + k) = omega arith in
    ap (slice_get (item ∷ items)) next ∙ slice_get-drop n k items

-- no idle item stands where a script goes on
pub busy_from : (items : List Item) (n : ℕ) → is_idle_item items (place_from items n) ≡ false
busy_from items n =
    ap (λ o. option_map_or is_idle o false) (slice_get-drop n (idle_count_in_front (drop n items)) items)
    ∙ front_busy (drop n items)

none_there : (n i : ℕ) → get_or (replicate {A = Option Held} n None) i None ≡ None
none_there zero i = refl
none_there (suc n) zero = refl
none_there (suc n) (suc i) = none_there n i

pub sound_first : (number : ℕ) (items : List Item) (lines ahead profile : ℕ) → number < 4 → 0 < lines
    → is_lawful_script lines items ≡ true → 1 ≤ ahead → ahead ≤ 4 → is_profile profile ≡ true
    → IsSound (first_view number items lines ahead profile)
sound_first number items lines ahead profile few some script some_ahead few_ahead known =
    let count = length-replicate {A = Option Held} lines None in
    record {
      number = few;
      some_lines = rw count some;
      in_sets = λ line. rw (none_there lines (line % length (replicate {A = Option Held} lines None))) refl;
      script = rw count script;
      some_ahead = some_ahead;
      few_ahead = few_ahead;
      profile = known;
      placed = record { next = busy_from items 0; before = refl };
      few_outs = omega arith;
      apart = refl;
      requests = refl;
      fills = refl;
      one_a_line = refl;
      lent = refl;
      few_owed = omega arith;
    }
