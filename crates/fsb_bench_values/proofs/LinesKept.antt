-- The caches and the memory of a bench are as its run keeps them.
use Rattle.fsb_bench_values.proofs.Words
use Words.{ℕ, ◌≤◌, ◌≡◌, Bool, true, false, ◌&&◌, ◌||◌, Option, Some, None, List, [], ◌∷◌, length, nat_lt, refl, sym, ap}
use Words.{◌∙◌, inl, inr, arith, list_any, slice_get, option_map_or, cases_lt, Done, AgentView, line_state_by}
use Words.{state_told, IsViewOf, come-by, held-by, CacheSets, copies, held_at, states, is_dirty_below, is_stored_below}
use Words.{is_some_and, get-there, granted-by, Invalid, claimed, winner-four, holds_line-says, is_in_time, holds_line}
use Words.{is_ended, is_exclusive, is_ready, latest_grant, is_counted, is_dirty, is_store_on, is_stored_since}
use Words.{line_state_of, Kept, bytes_now, Past, Run, past_of, BenchView, next_clock_of, IsBenchOf, HasBytesOf}
use Rattle.fsb_bench_values.specs.Lent.{bytes_lent, lines_lent, state_lent}

-- all stores of a log that ends below a clock count there
stores-counted : (p : Past) (a line n q first : ℕ) (log : List Done) → is_in_time first n log ≡ true
    → list_any (λ done. is_store_on a line done && is_ended p done.clock q && is_counted p a n done) log
    ≡ list_any (λ done. is_store_on a line done && is_ended p done.clock q && nat_lt done.clock n) log
unfolding is_in_time is_counted
stores-counted p a line n q first [] e = refl
stores-counted p a line n q first (done ∷ log) e = grind (arith, stores-counted p a line n q done.clock log)

-- so who is dirty there is dirty by the stores below
dirty-now : (r : Run) (a line : ℕ) → is_in_time 0 (length r.trace) r.log ≡ true
    → is_dirty_below (past_of r) a line (length r.trace) ≡ is_dirty (past_of r) a line (length r.trace)
unfolding is_dirty is_dirty_below is_stored_since is_stored_below past_of
dirty-now r a line e =
    let p : Past = past_of r in
    let n = length r.trace in
    λ i. is_exclusive p a line n && is_some_and (latest_grant p a line n)
    (λ grant. grant.owns || sym (stores-counted p a line n grant.first 0 r.log e) i)

-- the state that is told is that of the line
told-state : (p : Past) (a line n : ℕ)
    → state_told (holds_line p a line n) (is_exclusive p a line n) (is_dirty p a line n) ≡ line_state_of p a line n
unfolding line_state_of
told-state p a line n = grind arith

unheld : (p : Past) (a line n : ℕ) → holds_line p a line n ≡ false → line_state_of p a line n ≡ Invalid
unheld p a line n none =
    sym (told-state p a line n) ∙ ap (λ b. state_told b (is_exclusive p a line n) (is_dirty p a line n)) none

-- an agent of a bench has the state of each line, and the bytes of each that is ready
record HasKeptLine (r : Run) (a line : ℕ) (lines : CacheSets) : Type 0 where
  invalid : holds_line (past_of r) a line (length r.trace) ≡ false → states lines line ≡ Invalid
  state : holds_line (past_of r) a line (length r.trace) ≡ true
      → states lines line ≡ line_state_of (past_of r) a line (length r.trace)
  bytes : holds_line (past_of r) a line (length r.trace) ≡ true
      → is_ready (past_of r) a line (length r.trace) ≡ true → copies lines line ≡ bytes_now r line

agent-kept : (v : BenchView) (a line : ℕ) (w : AgentView) → IsBenchOf v → HasBytesOf v
    → slice_get v.bus.agents a ≡ Some w → HasKeptLine v.run a line w.lines
agent-kept v a line w b h at =
    let p : Past = past_of v.run in
    let n = next_clock_of v in
    let view : IsViewOf p a n w = (b.agents.each a w at).view in
    let dirty : ℕ → Bool = λ l. is_dirty_below p a l n in
    let state : line_state_by w line ≡ line_state_of p a line n = view.lines.states line
    ∙ ap (state_told (holds_line p a line n) (is_exclusive p a line n)) (dirty-now v.run a line b.timely.in_time)
    ∙ told-state p a line n in
    record {
      invalid = λ none. state ∙ unheld p a line n none;
      state = λ holds. state;
      bytes = λ holds ready. (h.agents a w at).copies line (held-by p a n n dirty w line view.lines ∙ holds)
          (come-by p a n n dirty w line view.lines holds ∙ ready);
    }

-- a cache without lines has none
none-kept : (line : ℕ) → states [] line ≡ Invalid
unfolding states held_at
none-kept line = refl

-- an agent that holds a line is one of four
few-hold : (r : Run) (a line n : ℕ) → n ≤ length r.trace → 4 ≤ a → holds_line (past_of r) a line n ≡ true → ⊥
few-hold r a line n l many holds =
    let since = holds_line-says (past_of r) a line n holds in
    let below = since.before in
    let g = granted-by r a line since.at (omega arith) since.granted in
    let won = (claimed r.trace g.begun g.claim g.claims).1 in
    let few = winner-four r.trace g.begun g.claim.agent won in
    let same = g.agent in
    omega arith

-- where there is no agent nothing is held
no-agent : (v : BenchView) (a line : ℕ) → IsBenchOf v → slice_get v.bus.agents a ≡ None
    → holds_line (past_of v.run) a line (next_clock_of v) ≡ true → ⊥
no-agent v a line b none holds = elim (cases_lt a 4) [
  | inl few ↦
      let four = b.agents.four in
      let k = get-there v.bus.agents a (omega arith) in
      absurd (missing (slice_get v.bus.agents a) k.0 none k.1)
  | inr many ↦ few-hold v.run a line (next_clock_of v) (omega arith) many holds
]
  where
    missing : (o : Option AgentView) (w : AgentView) → o ≡ None → o ≡ Some w → ⊥
    missing o w e f = cc

lent-kept : (v : BenchView) (a line : ℕ) → IsBenchOf v → HasBytesOf v → HasKeptLine v.run a line (lines_lent v a)
lent-kept v a line b h = by (slice_get v.bus.agents a) refl
  where
    by : (o : Option AgentView) → slice_get v.bus.agents a ≡ o
        → HasKeptLine v.run a line (option_map_or (λ w. w.lines) o [])
    by (Some w) e = agent-kept v a line w b h e
    by None e = record {
      invalid = λ none. none-kept line;
      state = λ holds. absurd (no-agent v a line b e holds);
      bytes = λ holds ready. absurd (no-agent v a line b e holds);
    }

pub lines-kept : (v : BenchView) → IsBenchOf v → HasBytesOf v
    → Kept v.run (state_lent v) (bytes_lent v) v.bus.memory
lines-kept v b h = record {
  invalid = λ a line few named none. (lent-kept v a line b h).invalid none;
  states = λ a line few named holds ready. (lent-kept v a line b h).state holds;
  copies = λ a line few named holds ready. (lent-kept v a line b h).bytes holds ready;
  put = λ line named. h.memory line;
}
