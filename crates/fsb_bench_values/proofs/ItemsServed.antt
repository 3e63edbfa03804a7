-- An agent whose lines and last value are those of the one byte memory completes its next item as the replay does.
use Rattle.fsb_bench_values.proofs.Words
use Words.{ℕ, ◌+◌, ◌≡◌, ◌≢◌, Bool, true, false, ◌&&◌, ◌||◌, List, [], ◌∷◌, Some, refl, sym, ap, subst, ◌∙◌, arith}
use Words.{IsTrue, list_all, slice_get, option_map_or, and_from, and_parts, accessed_line, addr_of, is_lawful_access}
use Words.{is_place, size_of, Access, Item, ReplayState, replay, Step, steps_from, steps_of_item, is_held, is_sole}
use Words.{all-at, is_lawful_item, is_lawful_script, line_bytes, Past, Need, is_load, items_of, needs_of, AgentView}
use Words.{has_come, is_served_by, line_state_by, may_complete, next_item_by, completed_by, completed_entries, hand_of}
use Words.{is_hit_by, next_steps, performed, performed_entries, hand_after_steps, IsAgentOf, IsNeedOf, steps-need}
use Words.{HasCopies}
use Rattle.fsb_bench_values.proofs.HandServed.{AreServed, IsServedTo, Serves, hand-served, is_served_on}

-- agent a has the last value and the bytes of this state
pub record IsAgentAt (state : ReplayState) (a : ℕ) (w : AgentView) : Type 0 where
  pub last : w.last ≡ state.last a
  pub copies : HasCopies (line_bytes state.memory) w

-- each item of the agent's script is lawful
abbrev pub HasLawfulItems : AgentView → Type 0
HasLawfulItems w = (cache : ℕ) × (list_all (is_lawful_item cache) w.items ≡ true)

-- the line is ready
abbrev pub ready_by : AgentView → ℕ → Bool
ready_by w line = is_held (line_state_by w line) && has_come w line

-- and the agent has it alone
abbrev pub alone_by : AgentView → ℕ → Bool
alone_by w line = is_sole (line_state_by w line) && has_come w line

-- what agents complete leaves each agent's bytes and the others' as they have to be
pub record CompletesTo (state after : ReplayState) (a : ℕ) (alone : ℕ → Bool) (w next : AgentView) : Type 0 where
  pub agent : IsAgentAt after a next
  pub others : (b : ℕ) → b ≢ a → after.last b ≡ state.last b
  pub beside : (line : ℕ) → alone line ≡ false → line_bytes after.memory line ≡ line_bytes state.memory line
  pub lower : (line : ℕ) → is_held (line_state_by next line) ≡ true → is_held (line_state_by w line) ≡ true

-- the accesses of a lawful item lie within lines
group-placed : (n part : ℕ) (group : List Access) → list_all is_lawful_access group ≡ true
    → list_all (λ (step : Step). is_place (size_of step.access) (addr_of step.access)) (steps_from n part group) ≡ true
group-placed n part [] all = refl
group-placed n part (access ∷ group) all =
    let parts = and_parts (is_lawful_access access) (list_all is_lawful_access group) all in
    and_from (is_place (size_of access) (addr_of access)) _ (placed access parts.0)
    (group-placed n (part + 1) group parts.1)
  where
    placed : (access : Access) → is_lawful_access access ≡ true → is_place (size_of access) (addr_of access) ≡ true
    placed access h1 = grind arith

item-placed : (cache n : ℕ) (item : Item) → is_lawful_item cache item ≡ true
    → list_all (λ (step : Step). is_place (size_of step.access) (addr_of step.access)) (steps_of_item n item) ≡ true
item-placed cache n item h1 = grind (arith, group-placed)

-- the scripts of a plan that keeps its bounds are lawful
pub lawful-list : (p : Past) (a cache : ℕ) (w : AgentView) → IsAgentOf p a w
    → IsTrue (list_all (is_lawful_script cache) p.plan.scripts) → list_all (is_lawful_item cache) w.items ≡ true
unfolding items_of is_lawful_script
lawful-list p a cache w is h = grind (arith, all-at)

pub lawful-items : (p : Past) (a cache : ℕ) (w : AgentView) → IsAgentOf p a w
    → IsTrue (list_all (is_lawful_script cache) p.plan.scripts) → HasLawfulItems w
lawful-items p a cache w is h = (cache, lawful-list p a cache w is h)

-- two tests of the accesses of steps
both-tests : (f g : Access → Bool) (steps : List Step) → list_all (λ (step : Step). f step.access) steps ≡ true
    → list_all (λ (step : Step). g step.access) steps ≡ true
    → list_all (λ (step : Step). f step.access && g step.access) steps ≡ true
both-tests f g [] p q = refl
both-tests f g (step ∷ steps) p q = grind (arith, both-tests f g steps)

-- an access whose need passes a test is on a line that is ready, and alone for a store
abbrev pub is_on : (ready alone : ℕ → Bool) → Access → Bool
is_on ready alone access = ready (accessed_line access) && (is_load access || alone (accessed_line access))

pub need-on : (ready alone : ℕ → Bool) (need : Need) (access : Access) → IsNeedOf need access
    → ready need.line ≡ true → (need.alone ≡ true → alone need.line ≡ true) → is_on ready alone access ≡ true
need-on ready alone need access of is own = grind arith

-- the steps of an item, where the needs of the item say so
pub steps-on : (ready alone : ℕ → Bool) (f : Need → Bool) (cache n : ℕ) (item : Item)
    → ((need : Need) → f need ≡ true → (ready need.line ≡ true) × (need.alone ≡ true → alone need.line ≡ true))
    → is_lawful_item cache item ≡ true → list_all f (needs_of item) ≡ true
    → list_all (λ (step : Step). is_served_on ready alone step.access) (steps_of_item n item) ≡ true
steps-on ready alone f cache n item says lawful needs =
    both-tests (λ access. is_place (size_of access) (addr_of access)) (is_on ready alone) (steps_of_item n item)
    (item-placed cache n item lawful)
    (steps-need f (is_on ready alone) n item
    (λ need access of e. (let k = says need e in need-on ready alone need access of k.0 k.1)) needs)

-- a line that serves is ready, and alone where that is needed
pub served-ready : (w : AgentView) (need : Need) → is_served_by w need ≡ true
    → (ready_by w need.line ≡ true) × (need.alone ≡ true → alone_by w need.line ≡ true)
served-ready w need e = grind arith

-- the item that is next, with its steps
pub item-next : (w : AgentView) (test : Item → Bool) → option_map_or test (next_item_by w) false ≡ true
    → (item : Item) × (slice_get w.items w.place ≡ Some item) × (test item ≡ true)
item-next w test e = grind arith

-- the steps of the next item
pub next-steps-are : (w : AgentView) (item : Item) → slice_get w.items w.place ≡ Some item
    → next_steps w ≡ steps_of_item w.place item
next-steps-are w item e = rw e refl

-- an agent serves as the replay does
pub agent-serves : (state : ReplayState) (a : ℕ) (w : AgentView) → IsAgentAt state a w
    → Serves (ready_by w) a (hand_of w) state
agent-serves state a w k = grind arith

-- an agent's hit, if it has one
pub record HitServed (state : ReplayState) (a clock : ℕ) (w : AgentView) : Type 0 where
  pub served : AreServed state (performed_entries w clock)
  pub completes : CompletesTo state (replay state (performed_entries w clock)) a (alone_by w) w (performed w clock)

hit-made : (state : ReplayState) (a clock : ℕ) (w : AgentView) → w.number ≡ a → HasLawfulItems w → IsAgentAt state a w
    → is_hit_by w clock ≡ true → AreServed state (completed_entries w clock)
    × CompletesTo state (replay state (completed_entries w clock)) a (alone_by w) w (completed_by w clock)
hit-made state a clock w number lawful k hit =
    let parts = and_parts (may_complete w clock)
    (option_map_or (λ item. list_all (is_served_by w) (needs_of item)) (next_item_by w) false) hit in
    let item = item-next w (λ item. list_all (is_served_by w) (needs_of item)) parts.1 in
    let on = steps-on (ready_by w) (alone_by w) (is_served_by w) lawful.0 w.place item.0 (served-ready w)
    (all-at (is_lawful_item lawful.0) w.items w.place item.0 lawful.1 item.1) item.2 in
    let steps = next-steps-are w item.0 item.1 in
    let all : list_all (λ (step : Step). is_served_on (ready_by w) (alone_by w) step.access) (next_steps w) ≡ true =
    ap (list_all (λ (step : Step). is_served_on (ready_by w) (alone_by w) step.access)) steps ∙ on in
    let serves = agent-serves state a w k in
    by (w.number) number (hand-served (ready_by w) (alone_by w) w.number clock (hand_of w) state (next_steps w)
    (subst (λ b. Serves (ready_by w) b (hand_of w) state) (sym number) serves) all)
  where
    by : (b : ℕ) → b ≡ a → AreServed state (completed_entries w clock)
        × IsServedTo (ready_by w) (alone_by w) b (hand_of w) (hand_after_steps (hand_of w) (next_steps w)) state
        (replay state (completed_entries w clock))
        → AreServed state (completed_entries w clock)
        × CompletesTo state (replay state (completed_entries w clock)) a (alone_by w) w (completed_by w clock)
    by b e h = grind arith

pub hit-served : (state : ReplayState) (a clock : ℕ) (w : AgentView) → w.number ≡ a → HasLawfulItems w
    → IsAgentAt state a w → HitServed state a clock w
hit-served state a clock w number lawful k = grind (arith, hit-made)
