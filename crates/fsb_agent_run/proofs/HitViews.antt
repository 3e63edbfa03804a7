-- After its hit, if it has one, a view is that after the hits.
use Rattle.fsb_agent_run.proofs.Words
use Words.{ℕ, ◌+◌, ◌<◌, ◌≡◌, Bool, true, false, ◌&&◌, ◌||◌, Some, sym, ap, subst, ◌∙◌, inl, inr, arith, list_all}
use Words.{list_any, both_ways, cases_Bool, or_right, Access, Item, accessed_line, Step, steps_of_item, states, Mesi}
use Words.{Modified, is_held, is_some_and, Past, has_arrived, holds_line, is_exclusive, is_dirty, is_hit, is_met}
use Words.{is_served, Run, past_of, Need, is_load, needs_of, next_item, next_number, is_dirty_below, dirty-none}
use Words.{Reaches, AgentView, line_state_by, handed_on, hand_after_steps, completed_by, hand_of, next_steps, performed}
use Words.{CompletesItem, IsAgentOf, IsAtItem, IsPlacedIn, LogsItem, state_told, IsViewAfterHit, IsViewOf}
use Rattle.fsb_agent_run.proofs.HandSteps.{in_sets-after, length-after, may_store, state-after, stores_into}
use Rattle.fsb_agent_run.proofs.HitsMade.{hit-by}
use Rattle.fsb_agent_run.proofs.ItemsCompleted.{IsNeedOf, any-stores, logged-there, steps-need, stores-by-steps}
use Rattle.fsb_agent_run.proofs.Places.{next-by, placed-at}
use Rattle.fsb_agent_run.proofs.PlaceSteps.{place-completed}
use Rattle.fsb_agent_run.proofs.StatesTold.{held-by}
use Rattle.fsb_agent_run.proofs.StoresTold.{any_stored, hit-state, state_with}

-- without a hit it stays
after-none : (p : Past) (a c : ℕ) (v : AgentView) → IsViewOf p a c v → is_hit p a c ≡ false → IsViewAfterHit p a c v
after-none p a c v h none = record {
  agent = h.agent;
  placed = record {
    item = subst (λ b. IsAtItem p a c b v) (sym none) (placed-at p a c v h.placed);
    before = λ _. h.placed;
    behind = λ hit. absurd (both_ways (is_hit p a c) none hit);
  };
  lines = record {
    states = λ line.
        h.lines.states line
        ∙ ap (state_told (holds_line p a line c) (is_exclusive p a line c)) (sym (dirty-none p a line c none));
    fills = h.lines.fills;
    in_sets = h.lines.in_sets;
  };
  requests = record { owed = h.requests.owed; wanted = h.requests.wanted; kept = h.requests.kept };
}

-- the accesses of the next item
pub next-steps : (p : Past) (a c number : ℕ) (item : Item) (v : AgentView) → IsAgentOf p a v → IsPlacedIn p a c v
    → next_number p a c ≡ Some number → next_item p a c ≡ Some item → next_steps v ≡ steps_of_item number item
next-steps p a c number item v is at next there = grind (arith, next-by, placed-at)

-- the place of a view that has completed its item
pub placed-hit : (p : Past) (a c number : ℕ) (v : AgentView) → CompletesItem p a c number → IsAgentOf p a v
    → IsPlacedIn p a c v → IsAtItem p a c true (completed_by v c)
placed-hit p a c number v k is at = grind arith

-- an agent is met by what it needs
served-parts : (p : Past) (a c : ℕ) (need : Need) → is_served p a c need ≡ true
    → (holds_line p a need.line c ≡ true) × (need.alone ≡ true → is_exclusive p a need.line c ≡ true)
    × (has_arrived p a need.line c c ≡ true)
unfolding is_served is_met
served-parts p a c need e = grind arith

hit-needs : (p : Past) (a c : ℕ) (item : Item) → is_hit p a c ≡ true → next_item p a c ≡ Some item
    → list_all (is_served p a c) (needs_of item) ≡ true
unfolding is_hit is_some_and
hit-needs p a c item e there = grind arith

pub sole-told : (held own dirty : Bool) → held ≡ true → own ≡ true
    → Modified ≡ state_with true (state_told held own dirty)
sole-told held own dirty h1 h2 = grind arith

pub never-with : (b : Bool) (state : Mesi) → b ≡ false → state ≡ state_with b state
never-with b state e = grind arith

pub nothing : (b : Bool) → (b && false) ≡ false
nothing b = grind arith

-- an access may be performed on a line that is held
may-held : (v : AgentView) (access : Access) → is_held (line_state_by v (accessed_line access)) ≡ true
    → may_store v.lines access ≡ true
unfolding may_store
may-held v access e = or_right (is_load access) (is_held (line_state_by v (accessed_line access))) e

-- what is stored into is held alone, and its bytes have come
abbrev alone_at : Past → ℕ → ℕ → Access → Bool
alone_at p a c access =
    is_load access
    || (holds_line p a (accessed_line access) c && is_exclusive p a (accessed_line access) c
    && has_arrived p a (accessed_line access) c c)

alone-there : (p : Past) (a c : ℕ) (access : Access) (need : Need) → IsNeedOf need access
    → holds_line p a need.line c ≡ true → (need.alone ≡ true → is_exclusive p a need.line c ≡ true)
    → has_arrived p a need.line c c ≡ true → alone_at p a c access ≡ true
alone-there p a c access need of held own arrived = grind arith

alone-parts : (p : Past) (a c : ℕ) (access : Access) → is_load access ≡ false → alone_at p a c access ≡ true
    → (holds_line p a (accessed_line access) c ≡ true) × (is_exclusive p a (accessed_line access) c ≡ true)
    × (has_arrived p a (accessed_line access) c c ≡ true)
alone-parts p a c access load e = grind arith

hit-lines : (p : Past) (a c : ℕ) (v : AgentView) (line : ℕ) → IsViewOf p a c v → is_hit p a c ≡ true
    → (k : LogsItem p a c) → line_state_by (completed_by v c) line
    ≡ state_told (holds_line p a line c) (is_exclusive p a line c) (is_dirty p a line c)
hit-lines p a c v line view hit k =
    let dirty : ℕ → Bool = λ line. is_dirty_below p a line c in
    let number : ℕ = k.number in
    let item : Item = k.item in
    let steps = next-steps p a c number item v view.agent view.placed k.completes.next k.next in
    let needs = hit-needs p a c item hit k.next in
    let may : list_all (λ (step : Step). may_store v.lines step.access) (steps_of_item number item) ≡ true =
    steps-need (is_served p a c) (may_store v.lines) number item (λ need access of served.
    may-held v access (ap (λ l. is_held (line_state_by v l)) (sym of.line)
    ∙ held-by p a c c dirty v need.line view.lines
    ∙ (served-parts p a c need served).0)) needs in
    let any = list_any (λ (step : Step). stores_into line step.access) (steps_of_item number item) in
    let logged : any_stored p a line c ≡ any = grind (arith, stores-by-steps) in
    ap (λ s. states (hand_after_steps (hand_of v) s).lines line) steps
    ∙ state-after (hand_of v) (steps_of_item number item) line may
    ∙ (elim (cases_Bool any) [
      | inr off ↦
          rw off
          (view.lines.states line
          ∙ never-with (has_arrived p a line c c && any_stored p a line c) _
          (ap (λ b. has_arrived p a line c c && b) (logged ∙ off) ∙ nothing (has_arrived p a line c c)))
      | inl on ↦
          let k = any-stores (alone_at p a c) line (steps_of_item number item)
          (steps-need (is_served p a c) (alone_at p a c) number item (λ need access of served.
          let parts = served-parts p a c need served in
          alone-there p a c access need of parts.0 parts.1 parts.2) needs) on in
          let held = alone-parts p a c k.0 k.1 k.3 in
          let names : accessed_line k.0 ≡ line = k.2 in
          let arrived : has_arrived p a line c c ≡ true = subst (λ l. has_arrived p a l c c ≡ true) names held.2 in
          let both : (has_arrived p a line c c && any_stored p a line c) ≡ true = grind arith in
          rw on
          (sole-told (holds_line p a line c) (is_exclusive p a line c) (is_dirty_below p a line c)
          (subst (λ l. holds_line p a l c ≡ true) names held.0) (subst (λ l. is_exclusive p a l c ≡ true) names held.1)
          ∙ ap (λ b. state_with b
          (state_told (holds_line p a line c) (is_exclusive p a line c) (is_dirty_below p a line c)))
          (sym both))
    ])
    ∙ sym (hit-state p a line c hit)

pub hit-view : (p : Past) (a c : ℕ) (v : AgentView) → IsViewOf p a c v → is_hit p a c ≡ true → LogsItem p a c
    → IsViewAfterHit p a c (completed_by v c)
hit-view p a c v view hit k = record {
  agent = record {
    number = view.agent.number;
    items = view.agent.items;
    ahead = view.agent.ahead;
    profile = view.agent.profile;
    cache = length-after (hand_of v) (next_steps v) ∙ view.agent.cache;
  };
  placed = record {
    item = subst (λ b. IsAtItem p a c b (completed_by v c)) (sym hit)
        (placed-hit p a c k.number v k.completes view.agent view.placed);
    before = λ none. absurd (both_ways (is_hit p a c) none hit);
    behind = λ _. place-completed p a c k.number v k.completes view.agent view.placed;
  };
  lines = record {
    states = λ line. hit-lines p a c v line view hit k;
    fills = view.lines.fills;
    in_sets = in_sets-after (hand_of v) (next_steps v) view.lines.in_sets;
  };
  requests = record { owed = view.requests.owed; wanted = view.requests.wanted; kept = view.requests.kept };
}

-- after the hit, where it is logged
pub performed-logged : (p : Past) (a c : ℕ) (v : AgentView) → IsViewOf p a c v → (is_hit p a c ≡ true → LogsItem p a c)
    → IsViewAfterHit p a c (performed v c)
performed-logged p a c v view logs = grind (arith, hit-by, placed-at, after-none, hit-view)

pub performed-view : (r : Run) (a c : ℕ) (v : AgentView) → Reaches r (c + 1) → a < 4 → IsViewOf (past_of r) a c v
    → IsViewAfterHit (past_of r) a c (performed v c)
performed-view r a c v h few view =
    performed-logged (past_of r) a c v view (λ hit. logged-there r a c h few (inl hit))

-- bytes that are handed on are nothing to lines, requests and place
pub handed-view : (p : Past) (a c number : ℕ) (v : AgentView) → IsViewOf p a c v → IsViewOf p a c (handed_on v number)
handed-view p a c number v h = grind arith
