-- The bytes of a line through a clock of a bench: the hits leave those of a line that has a link, and the end leaves
-- those of a line that has one behind the snoop end, unless its own oldest link ends there and owns.
use Rattle.fsb_bench_values.proofs.Words
use Words.{ℕ, suc, ◌+◌, ◌≡◌, Bool, true, false, not, ◌&&◌, ◌||◌, List, [], ◌∷◌, ◌++◌, Some, nat_eq, refl, sym, ap}
use Words.{subst, ◌∙◌, arith, filter, list_all, list_any, slice_get, and_from, and_parts, filter-append, accessed_line}
use Words.{Done, ReplayState, replay, served_state, served_value, start_of, Step, Choice, Link, AgentView, hand_of}
use Words.{is_hit_by, next_steps, performed_entries, AtHand, entries_at_hand, hand_after, hit-by, placed-at, IsViewOf}
use Words.{does_end_on, changes_of, entries_on, chain_below, is_dirty_below, is_hit, bytes_now, line_bytes, Past}
use Words.{past_of, is_done_at, is_load, is_hit-alike, past-goes_on, log-placed, step_fetched, step_run, BenchView}
use Words.{next_clock_of, hit_entries, IsBenchOf, AreOfClock, agents-found, before-growth, first-entries, grows-to}
use Words.{timely-now, longer}
use Rattle.std.proofs.lemmas.List.Folds.{list_all-append}
use Rattle.fsb_tied.proofs.LineBytes.{is_placed, replay-line, stores_into}
use Rattle.fsb_bench_values.proofs.HitBytes.{bytes_hit}
use Rattle.fsb_bench_values.proofs.LogsInOrder.{log-in-order}
use Rattle.fsb_bench_values.proofs.QuietLines.{all-so, hits-load, others-load}

pub replay-append : (state : ReplayState) (xs ys : List Done) → replay state (xs ++ ys) ≡ replay (replay state xs) ys
replay-append state [] ys = refl
replay-append state (done ∷ xs) ys = replay-append (served_state state done.agent done.access) xs ys

-- one entry that does not store into a line leaves its bytes, whatever its value
one-leaves : (state : ReplayState) (line : ℕ) (done : Done) → is_placed done ≡ true → stores_into line done ≡ false
    → line_bytes (served_state state done.agent done.access).memory line ≡ line_bytes state.memory line
unfolding is_placed stores_into changes_of
one-leaves state line done placed off =
    let one : Done = record done { value = served_value state done.agent done.access } in
    let none : filter (stores_into line) (one ∷ []) ≡ [] = rw off refl in
    replay-line state line (one ∷ []) (and_from (is_placed one) true placed refl) refl
    ∙ ap (λ xs. changes_of xs (line_bytes state.memory line)) none

pub replay-leaves : (state : ReplayState) (line : ℕ) (log : List Done) → list_all is_placed log ≡ true
    → list_all (λ done. not (stores_into line done)) log ≡ true
    → line_bytes (replay state log).memory line ≡ line_bytes state.memory line
replay-leaves state line [] placed off = refl
replay-leaves state line (done ∷ log) placed off =
    grind (arith, one-leaves, replay-leaves (served_state state done.agent done.access) line log)

pub all-apart : {X : Type 0} (f : X → Bool) (xs ys : List X) → list_all f (xs ++ ys) ≡ true
    → (list_all f xs ≡ true) × (list_all f ys ≡ true)
all-apart f xs ys e = and_parts (list_all f xs) (list_all f ys) (sym (list_all-append f xs ys) ∙ e)

-- entries of a clock of which those on the line load, store nothing into it
quiet-of : (line n : ℕ) (test : Done → Bool) (xs : List Done) → AreOfClock n xs
    → list_all (λ done. not (test done)) xs ≡ true
    → list_all (λ done. test done || is_load done.access)
    (filter (λ done. nat_eq done.clock n && nat_eq (accessed_line done.access) line) xs) ≡ true
    → list_all (λ done. not (stores_into line done)) xs ≡ true
unfolding stores_into
quiet-of line n test [] clocks off e = refl
quiet-of line n test (done ∷ xs) clocks off e =
    let c = and_parts (nat_eq done.clock n) (list_all (λ (d : Done). nat_eq d.clock n) xs) clocks in
    grind (arith, quiet-of line n test xs c.1)
  where
    none-and : (b : Bool) → (b && false) ≡ false
    none-and true = refl
    none-and false = refl

-- the entries of an agent's hit are its own, and it has the hit in the run
performed-hit : (p : Past) (a n : ℕ) (w : AgentView) → IsViewOf p a n w
    → list_all (λ (done : Done). is_hit p done.agent n) (performed_entries w n) ≡ true
performed-hit p a n w view =
    let same = hit-by p a n (λ line. is_dirty_below p a line n) w view.agent
    (placed-at p a n w view.placed) view.lines in
    by (is_hit_by w n) refl same
  where
    own : (hand : AtHand) (steps : List Step) → is_hit p w.number n ≡ true
        → list_all (λ (done : Done). is_hit p done.agent n) (entries_at_hand w.number n hand steps) ≡ true
    own hand [] hit = refl
    own hand (step ∷ steps) hit = grind (arith, own (hand_after hand step.access) steps hit)

    by : (b : Bool) → is_hit_by w n ≡ b → is_hit_by w n ≡ is_hit p a n
        → list_all (λ (done : Done). is_hit p done.agent n) (performed_entries w n) ≡ true
    by true e same =
        let is : performed_entries w n ≡ entries_at_hand w.number n (hand_of w) (next_steps w) = grind arith in
        subst (λ xs. list_all (λ (done : Done). is_hit p done.agent n) xs ≡ true) (sym is)
        (own (hand_of w) (next_steps w) (ap (λ k. is_hit p k n) view.agent.number ∙ sym same ∙ e))
    by false e same =
        let is : performed_entries w n ≡ [] = rw (e, performed_entries) refl in
        subst (λ xs. list_all (λ (done : Done). is_hit p done.agent n) xs ≡ true) (sym is) refl

all-hit : (p : Past) (n : ℕ) (agents : List AgentView)
    → ((a : ℕ) (w : AgentView) → slice_get agents a ≡ Some w
    → list_all (λ (done : Done). is_hit p done.agent n) (performed_entries w n) ≡ true)
    → list_all (λ (done : Done). is_hit p done.agent n) (hit_entries n agents) ≡ true
all-hit p n [] each = refl
all-hit p n (w ∷ agents) each =
    list_all-append (λ (done : Done). is_hit p done.agent n) (performed_entries w n) (hit_entries n agents)
    ∙ and_from _ _ (each 0 w refl) (all-hit p n agents (λ a v at. each (suc a) v at))

-- entries of a clock among which no agent with a hit has one
none-hit : (test : ℕ → Bool) (n : ℕ) (xs : List Done) → AreOfClock n xs
    → ((a : ℕ) → test a ≡ true → list_any (is_done_at a n) xs ≡ false)
    → list_all (λ (done : Done). not (test done.agent)) xs ≡ true
unfolding is_done_at
none-hit test n [] clocks apart = refl
none-hit test n (done ∷ xs) clocks apart = grind (arith, none-hit test n xs)

-- the log of the run with one more clock, in three parts
pub record ClockLog (v : BenchView) (hold : Bool) (choice : Choice) : Type 0 where
  pub ends : List Done
  pub whole : (step_run v hold choice).log
      ≡ v.run.log ++ (hit_entries (next_clock_of v) (step_fetched v).agents ++ ends)
  pub clocks : AreOfClock (next_clock_of v) (hit_entries (next_clock_of v) (step_fetched v).agents)
  pub end_clocks : AreOfClock (next_clock_of v) ends
  pub hit : list_all (λ (done : Done). is_hit (past_of (step_run v hold choice)) done.agent (next_clock_of v))
      (hit_entries (next_clock_of v) (step_fetched v).agents) ≡ true
  pub unhit : list_all (λ (done : Done). not (is_hit (past_of (step_run v hold choice)) done.agent (next_clock_of v)))
      ends
      ≡ true
  pub placed : list_all is_placed v.run.log ≡ true
  pub hits_placed : list_all is_placed (hit_entries (next_clock_of v) (step_fetched v).agents) ≡ true
  pub ends_placed : list_all is_placed ends ≡ true

pub clock-log : (v : BenchView) (hold : Bool) (choice : Choice) → IsBenchOf v → ClockLog v hold choice
clock-log v hold choice b =
    let n = next_clock_of v in
    let s = step_run v hold choice in
    let p = past_of s in
    let grows = grows-to v hold choice b in
    let first = first-entries v hold b in
    let hits = hit_entries n (step_fetched v).agents in
    let whole : s.log ≡ v.run.log ++ (hits ++ first.others) = ap (λ xs. v.run.log ++ xs) first.split in
    let clocks = all-apart (λ (done : Done). nat_eq done.clock n) hits first.others
    (ap (list_all (λ (done : Done). nat_eq done.clock n)) (sym first.split) ∙ first.now) in
    let found = agents-found v s b grows in
    let timely = timely-now v hold choice b in
    let placed = log-placed s.plan.cache s.plan.scripts s.log (log-in-order s timely) b.bounds.lawful_scripts in
    let old = all-apart is_placed v.run.log (hits ++ first.others) (ap (list_all is_placed) (sym whole) ∙ placed) in
    let new = all-apart is_placed hits first.others old.1 in
    record {
      ends = first.others;
      whole = whole;
      clocks = clocks.0;
      end_clocks = clocks.1;
      hit = all-hit p n (step_fetched v).agents (λ a w at. performed-hit p a n w (found.views a w at));
      unhit = none-hit (λ a. is_hit p a n) n first.others clocks.1 (λ a t.
          let same = is_hit-alike n (past_of v.run) p a n
          (past-goes_on v.run s grows.next (before-growth v.run s grows))
          (omega arith) in
          first.apart a (same ∙ t));
      placed = old.0;
      hits_placed = new.0;
      ends_placed = new.1;
    }

-- those of its entries on a line
on-line : (v : BenchView) (hold : Bool) (choice : Choice) (line : ℕ) (test : Done → Bool) (k : ClockLog v hold choice)
    → list_all test (entries_on (past_of (step_run v hold choice)) line (next_clock_of v)) ≡ true
    → (list_all test (filter (λ done. nat_eq done.clock (next_clock_of v) && nat_eq (accessed_line done.access) line)
    (hit_entries (next_clock_of v) (step_fetched v).agents)) ≡ true)
    × (list_all test (filter (λ done. nat_eq done.clock (next_clock_of v) && nat_eq (accessed_line done.access) line)
    k.ends)
    ≡ true)
unfolding entries_on past_of
on-line v hold choice line test k e = grind (arith, filter-append, all-apart)

twice : (b : Bool) → b ≡ true → not (not b) ≡ true
twice b h1 = grind arith

-- the hits leave the bytes of a line that has a link
pub hits-leave : (v : BenchView) (hold : Bool) (choice : Choice) (line : ℕ) (link : Link) (links : List Link)
    → IsBenchOf v
    → chain_below (past_of (step_run v hold choice)) line (next_clock_of v) ≡ link ∷ links
    → bytes_hit v line ≡ bytes_now v.run line
unfolding bytes_now
hits-leave v hold choice line link links b chain =
    let n = next_clock_of v in
    let s = step_run v hold choice in
    let p = past_of s in
    let k = clock-log v hold choice b in
    let size = longer v.run s (grows-to v hold choice b) in
    let hits = hit_entries n (step_fetched v).agents in
    let loads = hits-load s line n link links (timely-now v hold choice b) b.bounds (omega (arith, size)) chain in
    let here = (on-line v hold choice line (λ done. not (is_hit p done.agent n) || is_load done.access) k loads).0 in
    let quiet = quiet-of line n (λ done. not (is_hit p done.agent n)) hits k.clocks
    (all-so (λ (done : Done). is_hit p done.agent n) (λ done. not (not (is_hit p done.agent n)))
    (λ done t. twice (is_hit p done.agent n) t) hits k.hit) here in
    replay-leaves (replay (start_of v.run.plan.mem) v.run.log) line hits k.hits_placed quiet

-- the bytes after the clock, by those after the hits
ends-then : (v : BenchView) (hold : Bool) (choice : Choice) (line : ℕ) (k : ClockLog v hold choice)
    → list_all (λ done. not (stores_into line done)) k.ends ≡ true
    → bytes_now (step_run v hold choice) line ≡ bytes_hit v line
unfolding bytes_now
ends-then v hold choice line k quiet = grind (arith, replay-append, replay-leaves)

-- the end leaves the bytes of a line on which the other entries of the clock load
pub ends-leave : (v : BenchView) (hold : Bool) (choice : Choice) (line : ℕ) → IsBenchOf v
    → list_all (λ done. is_hit (past_of (step_run v hold choice)) done.agent (next_clock_of v) || is_load done.access)
    (entries_on (past_of (step_run v hold choice)) line (next_clock_of v)) ≡ true
    → bytes_now (step_run v hold choice) line ≡ bytes_hit v line
ends-leave v hold choice line b loads =
    let n = next_clock_of v in
    let p = past_of (step_run v hold choice) in
    let k = clock-log v hold choice b in
    let here = (on-line v hold choice line (λ done. is_hit p done.agent n || is_load done.access) k loads).1 in
    ends-then v hold choice line k (quiet-of line n (λ done. is_hit p done.agent n) k.ends k.end_clocks k.unhit here)

-- that of a line without an end, that has a link behind the snoop end
pub others-leave : (v : BenchView) (hold : Bool) (choice : Choice) (line : ℕ) (link : Link) (links : List Link)
    → IsBenchOf v
    → does_end_on (past_of (step_run v hold choice)) line (next_clock_of v) ≡ false
    → chain_below (past_of (step_run v hold choice)) line (next_clock_of v + 1) ≡ link ∷ links
    → bytes_now (step_run v hold choice) line ≡ bytes_hit v line
others-leave v hold choice line link links b none chain =
    let s = step_run v hold choice in
    let size = longer v.run s (grows-to v hold choice b) in
    ends-leave v hold choice line b
    (others-load s line (next_clock_of v) link links (timely-now v hold choice b) b.bounds
    (omega (arith, size)) none chain)
