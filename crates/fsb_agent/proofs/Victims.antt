-- The line that has to be written back, by what the cache tells of it.
use Rattle.std.proofs.Common.{ℕ, ◌≡◌, ◌≢◌, ◌%◌, true, false, not, Option, Some, None, length, refl, sym, ap, ◌∙◌}
use Rattle.std.specs.Prelude.{◌==◌, ◌&&◌, if◌then◌else◌}
use Rattle.std.specs.List.{slice_index_or}
use Rattle.std.specs.Option.{option_map}
use Rattle.std.proofs.lemmas.Bool.{and_from, and_left, and_right, eq-eqb, eqb-true, ne_eqb}
use Rattle.fsb_cache.specs.declared.held.Held.{Held}
use Rattle.fsb_cache.specs.Sets.{held_at, resident_of, slot_of, states}
use Rattle.fsb_line.specs.States.{is_modified}
use Rattle.fsb_agent_view.specs.AgentViews.{AgentView}
use Rattle.fsb_agent_view.specs.Sound.{IsSound}
use Rattle.fsb_agent_view.specs.Wanting.{victim_by}

pub victim-none : (v : AgentView) (line : ℕ) → resident_of v.lines line ≡ None → None ≡ victim_by v line
victim-none v line none = go (slot_of v.lines line) refl none
  where
    go : (slot : Option Held) → slot_of v.lines line ≡ slot
        → option_map (λ (held : Held). held.line) (slot_of v.lines line) ≡ None → None ≡ victim_by v line
    go None e none = rw e refl
    go (Some held) e none = absurd (let never : Some held.line ≡ None = rw e at none in (let h : ⊥ = cc in h))

pub victim-some : (v : AgentView) (line other : ℕ) → IsSound v → resident_of v.lines line ≡ Some other
    → (if not (other == line) && is_modified (states v.lines other) then Some other else None) ≡ victim_by v line
unfolding states held_at
victim-some v line other s some = go (slot_of v.lines line) refl some
  where
    go : (slot : Option Held) → slot_of v.lines line ≡ slot
        → option_map (λ (held : Held). held.line) (slot_of v.lines line) ≡ Some other
        → (if not (other == line) && is_modified (states v.lines other) then Some other else None) ≡ victim_by v line
    go None e some = absurd (let never : None ≡ Some other = rw e at some in (let h : ⊥ = cc in h))
    go (Some held) e some =
        let same : Some held.line ≡ Some other = rw e at some in
        let is : held.line ≡ other = cc in
        let here : held.line % length v.lines ≡ line % length v.lines = eqb-true _ _ (rw e at (s.in_sets line)) in
        let slot : slot_of v.lines held.line ≡ Some held = ap (λ k. slice_index_or v.lines k None) here ∙ e in
        rw (← is, slot, eq-eqb held.line held.line refl, e) refl

pub victim-yes : (v : AgentView) (line other : ℕ) → IsSound v → resident_of v.lines line ≡ Some other
    → other ≢ line → is_modified (states v.lines other) ≡ true → Some other ≡ victim_by v line
victim-yes v line other s some apart modified =
    sym (ap (λ b. if b then Some other else None)
    (and_from (not (other == line)) (is_modified (states v.lines other)) (ap not (ne_eqb other line apart))
    modified)) ∙ victim-some v line other s some

pub victim-same : (v : AgentView) (line other : ℕ) → IsSound v → resident_of v.lines line ≡ Some other
    → other ≡ line → None ≡ victim_by v line
victim-same v line other s some same =
    sym (ap (λ b. if b then Some other else None)
    (and_left (not (other == line)) (is_modified (states v.lines other)) (ap not (eq-eqb other line same))))
    ∙ victim-some v line other s some

pub victim-clean : (v : AgentView) (line other : ℕ) → IsSound v → resident_of v.lines line ≡ Some other
    → is_modified (states v.lines other) ≡ false → None ≡ victim_by v line
victim-clean v line other s some clean =
    sym (ap (λ b. if b then Some other else None)
    (and_right (not (other == line)) (is_modified (states v.lines other)) clean)) ∙ victim-some v line other s some
