-- What an item needs, access by access.
use Rattle.std.proofs.Common.{ℕ, ◌≡◌, Bool, true, false, not, List, [], ◌∷◌, map, refl, ap, ◌∙◌}
use Rattle.std.specs.Prelude.{◌==◌, ◌&&◌, ◌||◌}
use Rattle.std.specs.List.{list_all, list_any}
use Rattle.std.proofs.lemmas.List.Folds.{list_all-map}
use Rattle.fsb_access.specs.declared.access.Access.{Access}
use Rattle.fsb_access.specs.declared.item.Item.TheVariants.{One, Locked, Idle}
use Rattle.fsb_access.specs.Access.{accessed_line}
use Rattle.fsb_timely.specs.Scripts.{is_load, locked_need, needs_after, needs_of, plain_need}
use Rattle.fsb_agent_view.specs.AgentViews.{AgentView, is_ready_for, is_served_by}
use Rattle.fsb_agent_view.specs.Arriving.{are_met_with, is_brought_by, is_there_by}

and_true : (b : Bool) → (b && true) ≡ b
and_true true = refl
and_true false = refl

pub served_one : (v : AgentView) (access : Access)
    → list_all (is_served_by v) (needs_of (One access)) ≡ is_ready_for v (accessed_line access) (not (is_load access))
unfolding needs_of needs_after plain_need
served_one v access = and_true (is_ready_for v (accessed_line access) (not (is_load access)))

pub served_group : (v : AgentView) (group : List Access)
    → list_all (is_served_by v) (needs_of (Locked group))
    ≡ list_all (λ access. is_ready_for v (accessed_line access) true) group
unfolding needs_of needs_after locked_need
served_group v group = list_all-map (is_served_by v) (locked_need [] group) group

pub served_idle : (v : AgentView) (clocks : ℕ) → list_all (is_served_by v) (needs_of (Idle clocks)) ≡ true
unfolding needs_of needs_after
served_idle v clocks = refl

pub met_one : (v : AgentView) (line : ℕ) (owns : Bool) (access : Access)
    → are_met_with v line owns (needs_of (One access)) ≡ ((accessed_line access == line) && (owns || is_load access))
unfolding needs_of needs_after plain_need
met_one v line owns access = last (accessed_line access == line) owns (is_load access)
    (is_ready_for v (accessed_line access) (not (is_load access)))
  where
    last : (here owns load served : Bool)
        → (((here && (owns || not (not load))) || false) && ((here || served) && true)) ≡ (here && (owns || load))
    last true true load served = refl
    last true false true served = refl
    last true false false served = refl
    last false owns load served = refl

brought_group : (line : ℕ) (owns : Bool) (group accesses : List Access)
    → list_any (is_brought_by line owns) (map (locked_need [] group) accesses)
    ≡ (owns && list_any (λ access. accessed_line access == line) accesses)
unfolding locked_need
brought_group line true group [] = refl
brought_group line false group [] = refl
brought_group line owns group (access ∷ accesses) =
    last (accessed_line access == line) owns
    (list_any (is_brought_by line owns) (map (locked_need [] group) accesses))
    (list_any (λ access. accessed_line access == line) accesses) (brought_group line owns group accesses)
  where
    last : (here owns rest more : Bool) → rest ≡ (owns && more)
        → ((here && (owns || false)) || rest) ≡ (owns && (here || more))
    last true true rest more e = refl
    last false true rest more e = e
    last true false rest more e = e
    last false false rest more e = e

pub met_group : (v : AgentView) (line : ℕ) (owns : Bool) (group : List Access)
    → are_met_with v line owns (needs_of (Locked group))
    ≡ ((owns && list_any (λ access. accessed_line access == line) group)
    && list_all (λ access. (accessed_line access == line) || is_ready_for v (accessed_line access) true) group)
unfolding needs_of needs_after locked_need
met_group v line owns group =
    ap (λ b. b && list_all (is_there_by v line) (map (locked_need [] group) group))
    (brought_group line owns group group)
    ∙ ap (λ b. (owns && list_any (λ access. accessed_line access == line) group) && b)
    (list_all-map (is_there_by v line) (locked_need [] group) group)

pub met_idle : (v : AgentView) (line : ℕ) (owns : Bool) (clocks : ℕ)
    → are_met_with v line owns (needs_of (Idle clocks)) ≡ false
unfolding needs_of needs_after
met_idle v line owns clocks = refl
