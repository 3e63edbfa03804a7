-- The entries of a clock that begin with those of the hits: each agent with a hit has the accesses of its next item
-- there,
-- and so the agents of the bench after the hits are those of the longer run.
use Rattle.fsb_bench_run.proofs.Words
use Words.{ℕ, zero, suc, ◌+◌, ◌-◌, ◌<◌, ◌≡◌, Bool, true, false, ◌&&◌, nat_eq, Option, Some, List, [], ◌∷◌, ◌++◌, length}
use Words.{refl, sym, ap, subst, ◌∙◌, arith, append-nil, list_all, list_any, and_parts, eq-eqb, eqb-true, lt-ltb}
use Words.{ne_eqb, map-append, filter-append, slice_get_within, Access, Item, One, Locked, Idle, Done, Step, script_of}
use Words.{steps_from, steps_of, steps_of_item, AgentView, is_hit_by, next_steps, performed_entries, AtHand}
use Words.{entries_at_hand, hand_after, LogsItem, IsViewAfterHit, IsViewOf, hit-by, performed-logged, placed-at}
use Words.{is_dirty_below, any-from, any-there, some-there, is_some_and, first_where-found, Choice, all-at, Reaches}
use Words.{is_lawful_item, is_lawful_script, is_lock_size, GoesOn, GrowsTo, is_hit, Past, Run, past_of, is_done_at}
use Words.{is_done_by, is_idle, is_logged_at, is_to_do, items_of, last_done, next_item, next_number, at, is_hit-alike}
use Words.{last_where-found, last_where-from, next_number-alike, not-behind, past-goes_on, step_fetched, BenchView}
use Words.{next_clock_of, hit_entries, IsBenchOf, HasHitsOf}
use Rattle.std.proofs.Common.{slice_get}
use Rattle.fsb_bench_run.proofs.AgentsNow.{fetched-four}
use Rattle.fsb_bench_run.proofs.AgentsTold.{fetched-from, performed-from}
use Rattle.fsb_bench_run.proofs.EntriesNow.{new-on, old-off}
use Rattle.fsb_bench_run.proofs.GrownPlaces.{get-behind, logged-alike}
use Rattle.fsb_bench_run.proofs.GrownViews.{view-grown}
use Rattle.fsb_bench_run.proofs.HitsCompleted.{AgentsFound}
use Rattle.fsb_bench_run.proofs.NextRun.{AreOfClock}
use Rattle.fsb_bench_run.proofs.RunWith.{run_with}

-- the entries are those of the hits, and others of the clock, of agents without a hit
pub record HasHitsFirst (v : BenchView) (entries : List Done) : Type 0 where
  pub others : List Done
  pub split : entries ≡ hit_entries (next_clock_of v) (step_fetched v).agents ++ others
  pub now : AreOfClock (next_clock_of v) entries
  pub apart : (a : ℕ) → is_hit (past_of v.run) a (next_clock_of v) ≡ true
      → list_any (is_done_at a (next_clock_of v)) others ≡ false

steps-append : (a : ℕ) (xs ys : List Done) → steps_of a (xs ++ ys) ≡ steps_of a xs ++ steps_of a ys
steps-append a xs ys = grind (arith, filter-append, map-append)

-- the entries of steps are those of their agent alone
hand-own : (a clock : ℕ) (hand : AtHand) (steps : List Step) → steps_of a (entries_at_hand a clock hand steps) ≡ steps
hand-own a clock hand [] = refl
hand-own a clock hand (step ∷ steps) = grind (arith, hand-own a clock (hand_after hand step.access) steps)

hand-other : (a b clock : ℕ) (hand : AtHand) (steps : List Step) → nat_eq b a ≡ false
    → steps_of a (entries_at_hand b clock hand steps) ≡ []
hand-other a b clock hand [] e = refl
hand-other a b clock hand (step ∷ steps) e = rw e (hand-other a b clock (hand_after hand step.access) steps e)

performed-other : (a clock : ℕ) (w : AgentView) → nat_eq w.number a ≡ false
    → steps_of a (performed_entries w clock) ≡ []
performed-other a clock w e = grind (arith, hand-other)

performed-own : (a clock : ℕ) (w : AgentView) → w.number ≡ a → is_hit_by w clock ≡ true
    → steps_of a (performed_entries w clock) ≡ next_steps w
performed-own a clock w number hit = grind (arith, hand-own)

-- the agents have their numbers, from this one on
abbrev AreNumbered : ℕ → List AgentView → Type 0
AreNumbered k vs = (j : ℕ) (w : AgentView) → slice_get vs j ≡ Some w → w.number ≡ k + j

none-own : (a k clock : ℕ) (vs : List AgentView) → AreNumbered k vs → a < k → steps_of a (hit_entries clock vs) ≡ []
none-own a k clock [] are l = refl
none-own a k clock (u ∷ vs) are l =
    let number = are 0 u refl in
    let here = performed-other a clock u (ne_eqb u.number a (λ e. omega (arith, number, e))) in
    let rest = none-own a (k + 1) clock vs (λ j w e. are (suc j) w e ∙ omega arith) (omega arith) in
    steps-append a (performed_entries u clock) (hit_entries clock vs) ∙ (λ i. here i ++ rest i)

-- of the entries of hits an agent has those of its own
own-hits : (a k j clock : ℕ) (vs : List AgentView) (w : AgentView) → AreNumbered k vs → slice_get vs j ≡ Some w
    → a ≡ k + j → steps_of a (hit_entries clock vs) ≡ steps_of a (performed_entries w clock)
own-hits a k j clock [] w are e same = absurd (let no : ⊥ = cc in no)
own-hits a k zero clock (u ∷ vs) w are e same =
    let rest = none-own a (k + 1) clock vs (λ j w e. are (suc j) w e ∙ omega arith) (omega (arith, same)) in
    grind (arith, steps-append, append-nil)
own-hits a k (suc j) clock (u ∷ vs) w are e same =
    let number = are 0 u refl in
    let here = performed-other a clock u (ne_eqb u.number a (λ f. omega (arith, number, f, same))) in
    let rest = own-hits a (k + 1) j clock vs w (λ j w e. are (suc j) w e ∙ omega arith) e (omega (arith, same)) in
    steps-append a (performed_entries u clock) (hit_entries clock vs) ∙ (λ i. here i ++ rest i)

-- an agent without an entry of the clock has no steps among those of the clock
no-steps : (a n : ℕ) (log : List Done) → AreOfClock n log → list_any (is_done_at a n) log ≡ false → steps_of a log ≡ []
unfolding is_done_at
no-steps a n [] now e = refl
no-steps a n (done ∷ log) now e = grind (arith, no-steps a n log)

later-half : (clock : ℕ) (xs ys : List Done) → AreOfClock clock (xs ++ ys) → AreOfClock clock ys
later-half clock [] ys h = h
later-half clock (x ∷ xs) ys h = grind (arith, later-half clock xs ys)

-- whether an item is logged at a clock, by the steps there
logged-steps : (a n m : ℕ) (log : List Done)
    → list_any (λ (done : Done). is_done_at a n done && nat_eq done.item m) log
    ≡ list_any (λ (step : Step). nat_eq step.item m) (steps_of a (at n log))
unfolding is_done_at
logged-steps a n m [] = refl
logged-steps a n m (done ∷ log) = grind (arith, logged-steps a n m log)

-- the accesses of an item are of it
from-item : (m n part : ℕ) (group : List Access)
    → list_any (λ (step : Step). nat_eq step.item m) (steps_from n part group) ≡ true → m ≡ n
from-item m n part [] e = absurd (let no : ⊥ = cc in no)
from-item m n part (access ∷ group) e = grind (arith, from-item m n (part + 1) group)

of-item : (m n : ℕ) (item : Item) → list_any (λ (step : Step). nat_eq step.item m) (steps_of_item n item) ≡ true
    → m ≡ n
of-item m n item h1 = grind (arith, from-item)

-- an item that is to do has an access, where the script is lawful
has-access : (cache n : ℕ) (item : Item) → is_lawful_item cache item ≡ true → is_idle item ≡ false
    → list_any (λ (step : Step). nat_eq step.item n) (steps_of_item n item) ≡ true
unfolding is_lock_size is_idle
has-access cache n (One access) lawful e = rw (eq-eqb n n refl) refl
has-access cache n (Locked []) lawful e = absurd (let no : ⊥ = cc in no)
has-access cache n (Locked (access ∷ group)) lawful e = rw (eq-eqb n n refl) refl
has-access cache n (Idle clocks) lawful e = absurd (let no : ⊥ = cc in no)

script-lawful : (scripts : List (List Item)) (cache a : ℕ) (o : Option (List Item)) → slice_get scripts a ≡ o
    → list_all (is_lawful_script cache) scripts ≡ true → list_all (is_lawful_item cache) (script_of scripts a) ≡ true
unfolding is_lawful_script
script-lawful scripts cache a o h1 h2 = grind (arith, all-at)

-- the next item of an agent, with its number
record IsNextItem (p : Past) (a n : ℕ) : Type 0 where
  pub number : ℕ
  pub next : next_number p a n ≡ Some number
  pub item : Item
  pub there : slice_get (items_of p a) number ≡ Some item
  pub is_item : next_item p a n ≡ Some item
  pub active : is_idle item ≡ false

hit-next : (p : Past) (a n : ℕ) → is_hit p a n ≡ true → IsNextItem p a n
unfolding is_hit next_item next_number is_to_do is_some_and
hit-next p a n e = grind (arith, first_where-found)

-- the last entry of an agent that has one among those that come at the clock
record IsLastOf (p : Past) (a n : ℕ) : Type 0 where
  pub last : Done
  pub there : last_done p a (n + 1) ≡ Some last
  pub clock : last.clock ≡ n
  pub logged : is_logged_at p a n last.item ≡ true

last-comes : (p : Past) (a n m : ℕ) (old new : List Done) → p.log ≡ old ++ new → AreOfClock n new
    → list_any (λ (done : Done). is_done_at a n done && nat_eq done.item m) new ≡ true → IsLastOf p a n
unfolding last_done is_logged_at is_done_by is_done_at is_some_and
last-comes p a n m old new split now e =
    let some = any-there (λ (done : Done). is_done_at a n done && nat_eq done.item m) new e in
    let parts = and_parts (nat_eq some.entry.agent a && nat_eq some.entry.clock n) (nat_eq some.entry.item m)
    some.passes in
    let mine = and_parts (nat_eq some.entry.agent a) (nat_eq some.entry.clock n) parts.0 in
    let clock : some.entry.clock ≡ n = eqb-true some.entry.clock n mine.1 in
    let place : ℕ = length old + some.place in
    let found : slice_get p.log place ≡ Some some.entry =
    ap (λ xs. slice_get xs place) split ∙ get-behind old new some.place ∙ some.at in
    let test : ℕ → Bool = λ k. is_some_and (slice_get p.log k) (is_done_by a (n + 1)) in
    let here : test place ≡ true =
    rw (found, mine.0, lt-ltb some.entry.clock (n + 1) (omega (arith, clock))) refl in
    let last = last_where-from test (length p.log) place (slice_get_within p.log place some.entry found) here in
    let passes = last_where-found test (length p.log) last.0 last.1 in
    let there = some-there (slice_get p.log last.0) (is_done_by a (n + 1)) passes.1 in
    let size : length old + (last.0 - length old) ≡ last.0 = omega arith in
    let new_at : slice_get new (last.0 - length old) ≡ Some there.0 =
    sym (get-behind old new (last.0 - length old))
    ∙ ap (slice_get (old ++ new)) size
    ∙ ap (λ xs. slice_get xs last.0) (sym split)
    ∙ there.1 in
    let at_clock = all-at (λ (done : Done). nat_eq done.clock n) new (last.0 - length old) there.0 now new_at in
    grind (arith, any-from)

-- the agents before the hits are those of the longer run, as the clock finds them
pub agents-found : (v : BenchView) (s : Run) → IsBenchOf v → GrowsTo v.run s → AgentsFound v s
agents-found v s b grows = record {
  four = fetched-four v b.agents.four;
  views = λ a w at.
      let f = fetched-from v a w at in
      let n = next_clock_of v in
      let reaches : Reaches v.run n = record { timely = b.timely; bounds = b.bounds; long = omega arith } in
      f.view (past_of s) n (view-grown v.run s a f.before grows reaches (b.agents.each a f.before f.at).view);
}

-- the accesses of the next item of the agent's record
next-told : (p : Past) (a n : ℕ) (w : AgentView) → IsViewOf p a n w → (k : IsNextItem p a n)
    → next_steps w ≡ steps_of_item k.number k.item
next-told p a n w view k = grind arith

-- the entries of a hit are those of the agent's next item
pub logs-hit : (v : BenchView) (hold : Bool) (choice : Choice) (entries : List Done) (a : ℕ) (w : AgentView)
    → IsBenchOf v → GrowsTo v.run (run_with v hold choice entries) → HasHitsFirst v entries
    → slice_get (step_fetched v).agents a ≡ Some w
    → is_hit (past_of (run_with v hold choice entries)) a (next_clock_of v) ≡ true
    → LogsItem (past_of (run_with v hold choice entries)) a (next_clock_of v)
unfolding past_of items_of is_logged_at
logs-hit v hold choice entries a w b grows first there hit =
    let r = v.run in
    let s = run_with v hold choice entries in
    let p = past_of s in
    let n = next_clock_of v in
    let vs = (step_fetched v).agents in
    let found = agents-found v s b grows in
    let view = found.views a w there in
    let goes : GoesOn n (past_of r) p =
    past-goes_on r s grows.next (record { one_hold = grows.timely.one_hold; one_choice = grows.timely.one_choice }) in
    let by_view : is_hit_by w n ≡ is_hit p a n =
    hit-by p a n (λ line. is_dirty_below p a line n) w view.agent (placed-at p a n w view.placed) view.lines in
    let before : is_hit (past_of r) a n ≡ true = hit-alike goes ∙ hit in
    let k = hit-next p a n hit in
    let numbers : AreNumbered 0 vs = λ j u e. (found.views j u e).agent.number ∙ omega arith in
    let of_hits = own-hits a 0 a n vs w numbers there (omega arith)
    ∙ performed-own a n w view.agent.number (by_view ∙ hit)
    ∙ next-told p a n w view k in
    let now : AreOfClock n (hit_entries n vs ++ first.others) = subst (AreOfClock n) first.split first.now in
    let of_others = no-steps a n first.others (later-half n (hit_entries n vs) first.others now)
    (first.apart a before) in
    let of_entries : steps_of a entries ≡ steps_of_item k.number k.item = grind (arith, steps-append, append-nil) in
    let on = new-on n entries first.now in
    let off = old-off 0 n r.log b.timely.in_time in
    let at_now : at n (r.log ++ entries) ≡ entries = grind (arith, filter-append) in
    let steps : steps_of a (at n (r.log ++ entries)) ≡ steps_of_item k.number k.item = grind arith in
    let whole : (m : ℕ) → is_logged_at p a n m
    ≡ list_any (λ (step : Step). nat_eq step.item m) (steps_of_item k.number k.item) =
    λ m. logged-steps a n m (r.log ++ entries) ∙ ap (list_any (λ (step : Step). nat_eq step.item m)) steps in
    let lawful = script-lawful s.plan.scripts s.plan.cache a (slice_get s.plan.scripts a) refl
    b.bounds.lawful_scripts in
    let item = all-at (is_lawful_item s.plan.cache) (items_of p a) k.number k.item lawful k.there in
    let some = has-access s.plan.cache k.number k.item item k.active in
    let alone : (m : ℕ) → is_logged_at p a n m ≡ true → m ≡ k.number = grind (arith, of-item) in
    let coming : list_any (λ (done : Done). is_done_at a n done && nat_eq done.item k.number) entries ≡ true =
    grind (arith, logged-steps) in
    let last = last-comes p a n k.number r.log entries refl first.now coming in
    let old_number : next_number (past_of r) a n ≡ Some k.number = grind (arith, next_number-alike) in
    record {
      number = k.number;
      item = k.item;
      completes = record {
        next = k.next;
        logged = whole k.number ∙ some;
        alone = alone;
        behind = λ other l.
            sym (logged-alike n (past_of r) p a n other goes (omega arith))
            ∙ not-behind r a n k.number other b.timely (omega arith) old_number l;
        last = last.last;
        is_last = last.there;
        last_clock = last.clock;
        last_item = alone last.last.item last.logged;
      };
      next = k.is_item;
      steps = steps;
    }
  where
    hit-alike : GoesOn (next_clock_of v) (past_of v.run) (past_of (run_with v hold choice entries))
        → is_hit (past_of v.run) a (next_clock_of v)
        ≡ is_hit (past_of (run_with v hold choice entries)) a (next_clock_of v)
    hit-alike goes = grind (arith, is_hit-alike)

-- so the agents after the hits are those of any run that grows by entries which begin with the hits
pub hits-told : (v : BenchView) (hold : Bool) (choice : Choice) (entries : List Done) → IsBenchOf v
    → GrowsTo v.run (run_with v hold choice entries) → HasHitsFirst v entries
    → HasHitsOf v (run_with v hold choice entries)
hits-told v hold choice entries b grows first = record {
  after = λ a w at.
      let s = run_with v hold choice entries in
      let n = next_clock_of v in
      let k = performed-from v a w at in
      let view = (agents-found v s b grows).views a k.0 k.1 in
      subst (λ w. IsViewAfterHit (past_of s) a n w) (sym k.2)
      (performed-logged (past_of s) a n k.0 view (logs-hit v hold choice entries a k.0 b grows first k.1));
}
