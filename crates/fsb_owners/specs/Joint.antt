-- The states that four agents have of one line together, and sets of such joint states.
use Rattle.std.specs.Prelude.{ℕ, ◌/◌, ◌%◌, ◌^◌, nat_eq, Bool, true, ◌&&◌, ◌||◌, not, if◌then◌else◌, List, [], ◌∷◌, ◌++◌, map, slice_get, unwrap_or}
use Rattle.std.specs.List.{filter, list_all, list_any}
use Rattle.std.specs.Cmp.Lexicographic.{pointwise}
use Rattle.fsb_count.specs.Clocks.{all_where}
use Rattle.fsb_line.specs.declared.purpose.Purpose.{Purpose}
use Rattle.fsb_line.specs.declared.purpose.Settled.{Settled}
use Rattle.fsb_line.specs.declared.state.Mesi.{Mesi}
use Rattle.fsb_line.specs.declared.state.Mesi.TheVariants.{Exclusive, Invalid, Modified, Shared}
use Rattle.fsb_line.specs.States.{is_held, is_modified, is_sole, state_after}

-- the symmetric agents
abbrev pub agents : List ℕ
agents = 0 ∷ 1 ∷ 2 ∷ 3 ∷ []

-- the state of a line at each agent, agent 0 first
abbrev pub Joint : Type 0
Joint = List Mesi

-- the state at an agent; Invalid for any other number
unfoldable pub state_at : Joint → ℕ → Mesi
state_at joint a = unwrap_or (slice_get joint a) Invalid

-- the two states are the same
unfoldable pub is_same_state : Mesi → Mesi → Bool
is_same_state Invalid state = not (is_held state)
is_same_state Shared state = is_held state && not (is_sole state)
is_same_state Exclusive state = is_sole state && not (is_modified state)
is_same_state Modified state = is_modified state

-- the two joint states are the same
unfoldable pub is_same_joint : Joint → Joint → Bool
is_same_joint one other = pointwise is_same_state one other

-- agent a has the line Shared where bit a of the number is 1; nobody else holds it
unfoldable pub sharing : ℕ → Joint
sharing holders = map (λ a. if nat_eq (holders / 2 ^ a % 2) 1 then Shared else Invalid) agents

-- the line has this state at one agent, and nobody else holds it
unfoldable pub alone : Mesi → ℕ → Joint
alone state owner = map (λ a. if nat_eq a owner then state else Invalid) agents

-- nobody holds the line
unfoldable pub unheld : Joint
unheld = sharing 0

-- the 24 joint states of a coherent line: Shared by some agents or by none, or Exclusive or Modified at one agent alone
unfoldable pub every_joint : List Joint
every_joint = map sharing (all_where (λ n. true) 16) ++ map (alone Exclusive) agents ++ map (alone Modified) agents

-- the joint states of `every_joint` that the step reaches from one of the set
unfoldable pub reached_by : (Joint → Joint → Bool) → List Joint → List Joint
reached_by step set = filter (λ to. list_any (λ from. step from to) set) every_joint

-- another agent has the line Modified
unfoldable pub has_other_owner : ℕ → Joint → Bool
has_other_owner agent joint = list_any (λ a. not (nat_eq a agent) && is_modified (state_at joint a)) agents

-- another agent holds the line
unfoldable pub has_other_holder : ℕ → Joint → Bool
has_other_holder agent joint = list_any (λ a. not (nat_eq a agent) && is_held (state_at joint a)) agents

-- at most one agent has stored, into an Exclusive copy that is ready
unfoldable pub is_after_stores : (ℕ → Bool) → Joint → Joint → Bool
is_after_stores is_ready from to =
    is_same_joint from to
    || list_any (λ a. is_ready a && is_same_joint from (alone Exclusive a) && is_same_joint to (alone Modified a)) agents

-- the agent has kept its state, or dropped a clean copy where it may
unfoldable pub is_kept_or_dropped : Bool → Mesi → Mesi → Bool
is_kept_or_dropped may_drop from to =
    is_same_state from to || (may_drop && not (is_modified from) && is_same_state Invalid to)

-- each agent has kept its state, or dropped a clean copy where it may
unfoldable pub is_after_drops : (ℕ → Bool) → Joint → Joint → Bool
is_after_drops may_drop from to =
    list_all (λ a. is_kept_or_dropped (may_drop a) (state_at from a) (state_at to a)) agents

-- the snoop end of the asker's request turns the first joint state into the second
unfoldable pub is_after_snoop_end : ℕ → Purpose → Settled → Bool → Joint → Joint → Bool
is_after_snoop_end asker kind settled shared from to =
    is_same_joint to (map (λ a. state_after (state_at from a) (nat_eq a asker) kind settled shared) agents)
