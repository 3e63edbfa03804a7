-- What a view tells of a line: whether the agent holds it, has it alone, is dirty on it, and what it answers.
use Rattle.fsb_agent_run.proofs.Words
use Words.{ℕ, ◌+◌, ◌≡◌, Bool, true, not, ◌&&◌, Some, nat_eq, sym, ap, ◌∙◌, if◌then◌else◌, arith, option_and_then}
use Words.{is_some_and, answer_of, is_held, is_modified, is_sole, Grant, Past, grant_at, has_arrived, holds_line}
use Words.{is_ended, is_exclusive, is_granted, latest_grant, Need, is_dirty, is_met, is_served, is_there, AgentView}
use Words.{answer_by, has_come, is_met_by, is_served_by, line_state_by, holds_line-says, last_where-found}
use Words.{last_where-from, some-there, HasLinesOf, is_awaited, state_told}
use Rattle.fsb_line.specs.declared.state.Answer.TheVariants as answers
use Rattle.fsb_agent_run.proofs.FillCounts.{come-count}

pub held-told : (held alone dirty : Bool) → is_held (state_told held alone dirty) ≡ held
held-told held alone dirty = grind arith

sole-told : (held alone dirty : Bool) → is_sole (state_told held alone dirty) ≡ (held && alone)
sole-told held alone dirty = grind arith

pub modified-told : (held alone dirty : Bool) → is_modified (state_told held alone dirty) ≡ (held && (alone && dirty))
modified-told held alone dirty = grind arith

answer-told : (held alone dirty : Bool)
    → answer_of (state_told held alone dirty)
    ≡ (if held && (alone && dirty) then answers.Modified else (if held then answers.Hit else answers.Clean))
answer-told held alone dirty = grind arith

-- who has a line for itself holds it
again : (x y z : Bool) → (x && (x && y && z)) ≡ (x && y && z)
again x y z = grind arith

pub alone-holds : (p : Past) (a line n : ℕ)
    → (holds_line p a line n && is_exclusive p a line n) ≡ is_exclusive p a line n
unfolding is_exclusive
alone-holds p a line n = again (holds_line p a line n) _ _

dirty-again : (x y z : Bool) → (x && y) ≡ y → (x && (y && (y && z))) ≡ (y && z)
dirty-again x y z h1 = grind arith

pub dirty-holds : (p : Past) (a line c : ℕ)
    → (holds_line p a line c && (is_exclusive p a line c && is_dirty p a line c)) ≡ is_dirty p a line c
unfolding is_dirty
dirty-holds p a line c = dirty-again (holds_line p a line c) (is_exclusive p a line c) _ (alone-holds p a line c)

pub held-by : (p : Past) (a n c : ℕ) (dirty : ℕ → Bool) (v : AgentView) (line : ℕ) → HasLinesOf p a n c dirty v
    → is_held (line_state_by v line) ≡ holds_line p a line n
held-by p a n c dirty v line h = ap is_held (h.states line) ∙ held-told _ _ (dirty line)

pub sole-by : (p : Past) (a n c : ℕ) (dirty : ℕ → Bool) (v : AgentView) (line : ℕ) → HasLinesOf p a n c dirty v
    → is_sole (line_state_by v line) ≡ is_exclusive p a line n
sole-by p a n c dirty v line h = ap is_sole (h.states line) ∙ sole-told _ _ (dirty line) ∙ alone-holds p a line n

-- what is needed is met
pub met-by : (p : Past) (a n c : ℕ) (dirty : ℕ → Bool) (v : AgentView) (need : Need) → HasLinesOf p a n c dirty v
    → is_met_by v need ≡ is_met p a n need
unfolding is_met
met-by p a n c dirty v need h = grind arith

-- of a line that is held the bytes have come where the end of its latest grant has
not-twice : (b : Bool) → not (not b) ≡ b
not-twice b = grind arith

pub come-by : (p : Past) (a n c : ℕ) (dirty : ℕ → Bool) (v : AgentView) (line : ℕ) → HasLinesOf p a n c dirty v
    → holds_line p a line n ≡ true → has_come v line ≡ has_arrived p a line n c
unfolding is_awaited has_arrived latest_grant is_granted is_some_and
come-by p a n c dirty v line h held =
    let since = holds_line-says p a line n held in
    let last = last_where-from (is_granted p a line) n since.at since.before since.granted in
    let passes = (last_where-found (is_granted p a line) n last.0 last.1).1 in
    let grant = some-there (grant_at p last.0)
    (λ (g : Grant). nat_eq g.agent a && nat_eq g.line line) passes in
    let latest : latest_grant p a line n ≡ Some grant.0 = ap (option_and_then (grant_at p)) last.1 ∙ grant.1 in
    come-count line v.buffers.fills (is_awaited p a line n c) (h.fills line)
    ∙ ap (λ o. not (is_some_and o (λ g. not (is_ended p c g.first)))) latest
    ∙ not-twice (is_ended p c grant.0.first)
    ∙ sym (ap (λ o. is_some_and o (λ g. is_ended p c g.first)) latest)

served-at : (p : Past) (a n c : ℕ) (dirty : ℕ → Bool) (v : AgentView) (need : Need) → HasLinesOf p a n c dirty v
    → is_served_by v need ≡ (is_met p a n need && has_arrived p a need.line n c)
unfolding is_met
served-at p a n c dirty v need h = grind (arith, come-by)

pub served-by : (p : Past) (a c : ℕ) (dirty : ℕ → Bool) (v : AgentView) (need : Need) → HasLinesOf p a c c dirty v
    → is_served_by v need ≡ is_served p a c need
unfolding is_served
served-by p a c dirty v need h = served-at p a c c dirty v need h

pub there-by : (p : Past) (a c : ℕ) (dirty : ℕ → Bool) (v : AgentView) (need : Need) → HasLinesOf p a (c + 1) c dirty v
    → is_served_by v need ≡ is_there p a c need
unfolding is_there
there-by p a c dirty v need h = served-at p a (c + 1) c dirty v need h

-- what is answered at a snoop end
pub answer-by : (p : Past) (a c line : ℕ) (v : AgentView) → HasLinesOf p a c c (λ line. is_dirty p a line c) v
    → answer_by v line
    ≡ (if is_dirty p a line c then answers.Modified else (if holds_line p a line c then answers.Hit else answers.Clean))
answer-by p a c line v h = grind (arith, dirty-holds, answer-told)
