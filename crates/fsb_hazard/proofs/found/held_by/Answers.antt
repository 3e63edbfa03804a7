use Rattle.std.proofs.Common.{◌≡◌, List, length, take, drop, ◌++◌, rules, arith, sym, ap, ◌∙◌}
use Rattle.std.proofs.lemmas.List.{take_all, take-append-le}
use Rattle.std.proofs.lemmas.List.Sorted.{IsNonDecreasingBy-from_sort_by_key, list_any-IsPermutation}
use Rattle.std.specs.List.{list_any}
use Rattle.fsb_hazard.specs.declared.found.Held.{Held}
use Rattle.fsb_hazard.specs.Choice.{quiet_choice}
use Rattle.fsb_hazard.specs.Found.{is_within, held_choice}
use Rattle.fsb_hazard.proofs.found.held_by.Goals as goal

pub reach_on-requires : goal.reach_on-requires
reach_on-requires c =
    rw c.deref_mut.ensures.value
    (IsNonDecreasingBy-from_sort_by_key (λ h. h.first) _ c.in_ok-sort_by_key.ensures.sorted (λ a r q k. search rules))

pub returns-clause-held : goal.returns-clause-held
returns-clause-held c clock =
    let new : List Held = c.reach_on.new.held in
    let sorted : List Held = c.sort_by_key.new.self.items in
    let long : c.sort_by_key.new.self.len ≡ length new =
    omega (arith, c.reach_on.auto.held, c.deref_mut.ensures.len) in
    let whole : take c.sort_by_key.new.self.len (new ++ drop (length new) sorted) ≡ new =
    take-append-le c.sort_by_key.new.self.len new (drop (length new) sorted) (omega (arith, long))
    ∙ take_all c.sort_by_key.new.self.len new (omega (arith, long)) in
    ap (λ l. held_choice l clock) whole
    ∙ ap (λ t. record quiet_choice { bnr = t })
    (c.reach_on.ensures.same clock ∙ ap (list_any (is_within clock)) c.deref_mut.ensures.value
    ∙ sym (list_any-IsPermutation (is_within clock) c.in_ok-held.held.items sorted
    c.in_ok-sort_by_key.ensures.permutation))
    ∙ c.in_ok-held.ensures clock
