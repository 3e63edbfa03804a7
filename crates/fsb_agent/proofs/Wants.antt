-- What an agent wants, case by case.
use Rattle.std.proofs.Common.{ℕ, zero, suc, ◌+◌, ◌-◌, ◌≤◌, ◌≡◌, Bool, true, false, not, Some, None, List, []}
use Rattle.std.proofs.Common.{◌∷◌, length, length-drop, map, take, drop, refl, sym, ap, ◌∙◌, arith}
use Rattle.std.specs.Prelude.{◌||◌, slice_get}
use Rattle.std.specs.List.{find}
use Rattle.std.specs.Option.{option_map, option_map_or}
use Rattle.std.proofs.lemmas.List.{append-nil, take_all}
use Rattle.fsb_access.specs.declared.access.Access.{Access}
use Rattle.fsb_access.specs.declared.item.Item.{Item}
use Rattle.fsb_access.specs.declared.item.Item.TheVariants.{One, Locked, Idle}
use Rattle.fsb_encode.specs.declared.request.Kind.{Kind}
use Rattle.fsb_encode.specs.declared.request.Kind.TheVariants.{WriteBack}
use Rattle.fsb_trace.specs.Requests.{is_upgrade_kind}
use Rattle.fsb_timely.specs.Scripts.{Need, is_idle, is_locked, locked_need, needs_after, needs_from, plain_items}
use Rattle.fsb_timely.specs.Scripts.{window_from}
use Rattle.fsb_timely.specs.Wants.{request_of_kind, write_back_of}
use Rattle.fsb_agent_view.specs.AgentViews.{AgentView}
use Rattle.fsb_agent_view.specs.Idling.{is_idle_item}
use Rattle.fsb_agent_view.specs.Wanting.{free_id_by, is_missing_by, kind_by, victim_by}
use Rattle.fsb_agent_view.specs.Wanting.{want_for_by}
use Rattle.fsb_agent.specs.Outlooks.{looked_ahead}

-- for a need whose set has a dirty line
pub want_for-victim : (v : AgentView) (need : Need) (victim did : ℕ) → victim_by v need.line ≡ Some victim
    → did ≡ free_id_by v
    → record {
      request = record { kind = WriteBack; line = victim; chunk = 0; did = did; den = false };
      locked = false;
    } ≡ want_for_by v need
unfolding write_back_of
want_for-victim v need victim did dirty is = rw (is, dirty, want_for_by) refl

-- and for another one
pub want_for-line : (v : AgentView) (need : Need) (kind : Kind) (did : ℕ) (den : Bool)
    → victim_by v need.line ≡ None → kind ≡ kind_by v need → did ≡ free_id_by v
    → den ≡ not (need.locked || is_upgrade_kind kind)
    → record {
      request = record { kind = kind; line = need.line; chunk = need.chunk; did = did; den = den };
      locked = need.locked;
    } ≡ want_for_by v need
unfolding request_of_kind
want_for-line v need kind did den clean is_kind is_did is_den = rw (is_den, is_kind, is_did, clean, want_for_by) refl

-- no item
pub want-none : (v : AgentView) (n : ℕ) → slice_get v.items n ≡ None → None ≡ looked_ahead v n
unfolding needs_from
want-none v n none = rw (none, looked_ahead) refl

-- a locked item
pub want-locked : (v : AgentView) (n : ℕ) (group : List Access) → slice_get v.items n ≡ Some (Locked group)
    → option_map (want_for_by v) (find (is_missing_by v) (map (locked_need [] group) group)) ≡ looked_ahead v n
unfolding needs_from needs_after window_from is_locked
want-locked v n group there =
    rw (there, looked_ahead)
    (ap (λ needs. option_map (want_for_by v) (find (is_missing_by v) needs))
    (sym (append-nil (map (locked_need [] group) group))))

-- an item by itself, and the plain items that follow it
window_is : (ahead n : ℕ) (items : List Item) (access : Access) → 1 ≤ ahead
    → slice_get items n ≡ Some (One access)
    → plain_items ahead (drop n items) ≡ One access ∷ plain_items (ahead - 1) (drop (n + 1) items)
unfolding plain_items
window_is ahead zero [] access some there = absurd (let h : ⊥ = cc in h)
window_is ahead (suc n) [] access some there = absurd (let h : ⊥ = cc in h)
window_is ahead zero (item ∷ items) access some there =
    let is : item ≡ One access = cc in
    let more : ahead ≡ suc (ahead - 1) = omega arith in
    rw is (ap (λ n. plain_items n (One access ∷ items)) more)
window_is ahead (suc n) (item ∷ items) access some there =
    let next : suc n + 1 ≡ suc (n + 1) = omega arith in
    rw next (window_is ahead n items access some there)

pub want-one : (v : AgentView) (n : ℕ) (access : Access) → 1 ≤ v.ahead → slice_get v.items n ≡ Some (One access)
    → option_map (want_for_by v) (find (is_missing_by v) (needs_from [] (plain_items v.ahead (drop n v.items))))
    ≡ looked_ahead v n
unfolding window_from is_locked
want-one v n access some there =
    ap (λ window. option_map (want_for_by v) (find (is_missing_by v) (needs_from [] window)))
    (window_is v.ahead n v.items access some there)
    ∙ rw (there, looked_ahead) refl

-- an item that is not idle
pub want-idle : (items : List Item) (n clocks : ℕ) → is_idle_item items n ≡ false
    → slice_get items n ≡ Some (Idle clocks) → ⊥
unfolding is_idle
want-idle items n clocks busy there =
    let never : true ≡ false = sym (ap (λ o. option_map_or is_idle o false) there) ∙ busy in cc

-- over equal lists
pub among-is : (v : AgentView) (group accesses list : List Access) → group ≡ list → accesses ≡ list
    → option_map (want_for_by v) (find (is_missing_by v) (map (locked_need [] group) accesses))
    ≡ option_map (want_for_by v) (find (is_missing_by v) (map (locked_need [] list) list))
among-is v group accesses list is same = rw (is, same) refl

pub from-is : (v : AgentView) (earlier : List ℕ) (xs items : List Item) (m n : ℕ) → earlier ≡ [] → xs ≡ items
    → m ≡ n → option_map (want_for_by v)
    (find (is_missing_by v) (needs_from earlier (plain_items v.ahead (take (length xs - m) (drop m xs)))))
    ≡ option_map (want_for_by v) (find (is_missing_by v) (needs_from [] (plain_items v.ahead (drop n items))))
from-is v earlier xs items m n empty same place =
    rw (empty, same, place)
    (ap (λ rest. option_map (want_for_by v) (find (is_missing_by v) (needs_from [] (plain_items v.ahead rest))))
    (take_all (length items - n) (drop n items) (omega (arith, length-drop n items))))
