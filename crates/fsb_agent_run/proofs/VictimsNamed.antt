-- The line that a view has to write back is the one that the run says.
use Rattle.fsb_agent_run.proofs.Words
use Words.{ℕ, ◌%◌, ◌≡◌, true, false, not, ◌&&◌, Option, Some, None, length, refl, sym, ap, ◌∙◌, arith, ◌==◌}
use Words.{slice_index_or, both_ways, eqb-true, false_from_ne_true, Held, held_at, only_line, slot_of, state_of_held}
use Words.{states, is_modified, Past, is_rival, set_of, is_dirty, is_same_set, victim_of, a-victim, no-victim}
use Words.{rival-other, rival-set, AgentView, line_state_by, dirty_other, victim_by, HasLinesOf, IsAgentOf}
use Rattle.fsb_agent_run.proofs.StatesTold.{dirty-holds, modified-told}

-- a line is Modified where the agent is dirty on it
modified-by : (p : Past) (a c : ℕ) (v : AgentView) (line : ℕ) → HasLinesOf p a c c (λ line. is_dirty p a line c) v
    → is_modified (line_state_by v line) ≡ is_dirty p a line c
modified-by p a c v line h = grind (arith, modified-told, dirty-holds)

-- a Modified line is what its set has
resident : (line : ℕ) (slot : Option Held) → is_modified (state_of_held (only_line line slot)) ≡ true
    → (held : Held) × (slot ≡ Some held) × (held.line ≡ line) × (is_modified held.state ≡ true)
resident line slot h1 = grind arith

-- what is another line and Modified
dirty-other : (line : ℕ) (held : Held) → (held.line == line) ≡ false → is_modified held.state ≡ true
    → dirty_other line (Some held) ≡ Some held.line
dirty-other line held apart modified = rw (apart, modified) refl

-- a dirty rival of a line is what the line's set has
named : (p : Past) (a c : ℕ) (v : AgentView) (line other : ℕ) → IsAgentOf p a v
    → HasLinesOf p a c c (λ line. is_dirty p a line c) v → is_rival p other line ≡ true → is_dirty p a other c ≡ true
    → victim_by v line ≡ Some other
unfolding states held_at is_same_set set_of
named p a c v line other is h rival dirty =
    let modified : is_modified (line_state_by v other) ≡ true = modified-by p a c v other h ∙ dirty in
    let there = resident other (slot_of v.lines other) modified in
    let set : other % p.plan.cache ≡ line % p.plan.cache =
    eqb-true (other % p.plan.cache) (line % p.plan.cache) (rival-set p other line rival) in
    let sets : line % length v.lines ≡ other % length v.lines =
    ap (λ n. line % n) is.cache ∙ sym set ∙ ap (λ n. other % n) (sym is.cache) in
    let slot : slot_of v.lines line ≡ Some there.0 = ap (λ k. slice_index_or v.lines k None) sets ∙ there.1 in
    let apart : (there.0.line == line) ≡ false =
    false_from_ne_true (there.0.line == line) (λ e.
    rival-other p other line rival (sym there.2 ∙ eqb-true there.0.line line e)) in
    ap (dirty_other line) slot ∙ dirty-other line there.0 apart there.3 ∙ ap Some there.2

-- what a set has, and is another line and Modified, is a dirty rival
unnamed : (p : Past) (a c : ℕ) (v : AgentView) (line : ℕ) (held : Held) → IsAgentOf p a v
    → HasLinesOf p a c c (λ line. is_dirty p a line c) v → slot_of v.lines line ≡ Some held
    → (not (held.line == line) && is_modified held.state) ≡ true
    → (is_rival p line held.line ≡ true) × (is_dirty p a held.line c ≡ true)
unfolding states held_at is_rival set_of
unnamed p a c v line held is h slot e = grind arith

pub victim-by : (p : Past) (a c : ℕ) (v : AgentView) (line : ℕ) → IsAgentOf p a v
    → HasLinesOf p a c c (λ line. is_dirty p a line c) v → victim_by v line ≡ victim_of p a c line
victim-by p a c v line is h = by (victim_of p a c line) refl
  where
    clean : victim_of p a c line ≡ None → (slot : Option Held) → slot_of v.lines line ≡ slot
        → dirty_other line slot ≡ None
    clean e None f = refl
    clean e (Some held) f =
        let none : (not (held.line == line) && is_modified held.state) ≡ false =
        false_from_ne_true (not (held.line == line) && is_modified held.state) (λ t.
        let rival = unnamed p a c v line held is h f t in
        both_ways (is_dirty p a held.line c) (no-victim p a c line e held.line rival.0) rival.1) in
        rw none refl

    by : (o : Option ℕ) → victim_of p a c line ≡ o → victim_by v line ≡ o
    by None e = clean e (slot_of v.lines line) refl
    by (Some other) e =
        let victim = a-victim p a c line other e in
        named p a c v line other is h victim.0 victim.1
