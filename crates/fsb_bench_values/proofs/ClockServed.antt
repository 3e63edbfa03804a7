-- The log of a bench's clock is served, and each agent has the bytes of the one byte memory behind it, where what
-- comes with the end of the clock has the bytes of its line.
use Rattle.fsb_bench_values.proofs.Words
use Words.{ℕ, ◌+◌, ◌<◌, ◌≡◌, ◌≢◌, Bool, true, false, Option, Some, None, List, ◌++◌, length, is_some, refl, sym, ap}
use Words.{subst, ◌∙◌, inl, inr, ⊎_elim, arith, list_all, slice_get, and_parts, both_ways, cases_eq, eq-eqb, ne_eqb}
use Words.{Done, ReplayState, replay, start_of, Served-append, copies, Choice, is_held, is_sole, sole_is_held, Reaches}
use Words.{is_lawful_item, alone-in-run, holds_line, is_exclusive, is_ready, is_dirty, line_bytes, is_got, Grant, Past}
use Words.{SnoopEnd, Run, past_of, is_deferral, Outcome, OwnRequest, AgentView, has_come, line_state_by, met_by}
use Words.{request_numbered, IsComing, IsViewAfterHit, IsViewAfterSnoop, come-by, comes-to, ended-here, held-by}
use Words.{kept-made, sole-by, Ending, step_answered, step_decided, step_ended, step_ending, step_entries, step_fetched}
use Words.{step_performed, step_phased, step_run, heard_entries, BenchView, next_clock_of, hit_entries, IsBenchOf}
use Words.{bench-hits, ending-heard, made-by, reaches-step, settled-or-replied, some-lines, step-with, views-answered}
use Words.{HasBytesOf, state_now}
use Rattle.fsb_access.specs.declared.access.Setting.{Setting}
use Rattle.fsb_access.specs.Replay.{Served}
use Rattle.fsb_trace.specs.declared.outcome.Outcome.TheVariants as outcomes
use Rattle.fsb_agent_run.specs.Ending.{EndsFor}
use Rattle.fsb_bench_values.proofs.AgentsLowered.{answered-lowered}
use Rattle.fsb_bench_values.proofs.ArrivalServed.{owns_line}
use Rattle.fsb_bench_values.proofs.EndOfBus.{IsEndingServed, MayHear, ending-served}
use Rattle.fsb_bench_values.proofs.EndServed.{BringsNow, Comes, IsBeside, IsReadyFor}
use Rattle.fsb_bench_values.proofs.HandServed.{AreServed}
use Rattle.fsb_bench_values.proofs.HitBytes.{state_hit}
use Rattle.fsb_bench_values.proofs.HitsOfBench.{answered-at, hits-of-bench}
use Rattle.fsb_bench_values.proofs.HitsServed.{replay-append, served-append}
use Rattle.fsb_bench_values.proofs.ItemsServed.{IsAgentAt, alone_by, lawful-list}
use Rattle.fsb_bench_values.proofs.OwnedAlone.{coming-alone}

-- the agents of a bench behind the snoop end of its clock
pub answered-view : (v : BenchView) (hold : Bool) (choice : Choice) (a : ℕ) (w : AgentView) → IsBenchOf v
    → slice_get (step_answered v hold).agents a ≡ Some w
    → IsViewAfterSnoop (past_of (step_run v hold choice)) a (next_clock_of v) w
answered-view v hold choice a w b at =
    views-answered v hold choice (step_entries v hold) (step-with v hold choice b) (reaches-step v hold choice b) a w at

-- an agent that has a line ready there had it ready before the hits
pub record HadReady (p : Past) (a line n : ℕ) (w : AgentView) : Type 0 where
  pub holds : holds_line p a line n ≡ true
  pub ready : is_ready p a line n ≡ true
  pub alone : is_sole (line_state_by w line) ≡ true → is_exclusive p a line n ≡ true

pub had-ready : (v : BenchView) (hold : Bool) (choice : Choice) (a line : ℕ) (w : AgentView) → IsBenchOf v
    → slice_get (step_answered v hold).agents a ≡ Some w → is_held (line_state_by w line) ≡ true
    → has_come w line ≡ true
    → HadReady (past_of (step_run v hold choice)) a line (next_clock_of v) w
had-ready v hold choice a line w b at held come =
    let p : Past = past_of (step_run v hold choice) in
    let n = next_clock_of v in
    let was = (answered-lowered v hold).each a w at in
    let before = was.lowered.lines line held come in
    let view : IsViewAfterHit p a n was.before = (bench-hits v hold choice b).after a was.before was.at in
    let dirty : ℕ → Bool = λ l. is_dirty p a l n in
    let holds : holds_line p a line n ≡ true = sym (held-by p a n n dirty was.before line view.lines) ∙ before.held in
    record {
      holds = holds;
      ready = sym (come-by p a n n dirty was.before line view.lines holds) ∙ before.came;
      alone = λ own. sym (sole-by p a n n dirty was.before line view.lines) ∙ before.alone own;
    }

-- who may have a line come there
pub ready-for : (v : BenchView) (hold : Bool) (choice : Choice) (a : ℕ) (w : AgentView) → IsBenchOf v → HasBytesOf v
    → slice_get (step_answered v hold).agents a ≡ Some w → IsReadyFor (state_hit v) a w
unfolding past_of
ready-for v hold choice a w b h at =
    let view = answered-view v hold choice a w b at in
    let some = some-lines v b in
    let cache : length w.lines ≡ v.run.plan.cache = view.agent.cache in
    let lawful = lawful-list (past_of (step_run v hold choice)) a v.run.plan.cache w view.agent
    b.bounds.lawful_scripts in
    record {
      number = view.agent.number;
      lawful = ap (λ k. list_all (is_lawful_item k) w.items) cache ∙ lawful;
      some = subst (λ k. 0 < k) (sym cache) some;
      at = answered-at v hold a w b h at;
    }

-- the end of a clock, as far as the bytes go with which lines come
pub record EndBrings (v : BenchView) (hold : Bool) : Type 0 where
  pub brings : (ending : Ending) (w : AgentView) → step_ending v hold ≡ Some ending
      → slice_get (step_answered v hold).agents ending.served.agent ≡ Some w
      → BringsNow (state_hit v) (Comes w ending.served.first (step_answered v hold).moved ending.outcome)

-- nothing comes with a response Deferred
deferred-none : (w : AgentView) (number : ℕ) (moved : List ℕ) (o : Outcome) → is_deferral o ≡ true
    → (out : OwnRequest) (bytes : List ℕ) → Comes w number moved o out bytes → ⊥
unfolding is_deferral
deferred-none w number moved o h1 out bytes h2 = grind arith

-- the line that comes to an agent is one that is granted to it
comes-granted : (s : Run) (a n number : ℕ) (moved : List ℕ) (w : AgentView) (end : SnoopEnd) (o : Outcome)
    → Reaches s (n + 1) → (is_deferral o ≡ false → (end.outcome ≡ o) × EndsFor (past_of s) a n number end)
    → IsViewAfterSnoop (past_of s) a n w → (out : OwnRequest) (bytes : List ℕ) → Comes w number moved o out bytes
    → IsComing (past_of s) a n out.request.line (owns_line out)
unfolding is_deferral is_got
comes-granted s a n number moved w end outcomes.Granted h ends view out bytes c =
    let e = ends refl in
    let made = made-by s end outcomes.Granted e.0 (inl refl) (settled-or-replied s a n number end h e.1) in
    comes-to s a n number end made.0 out w h e.1 made.1 view c.0
comes-granted s a n number moved w end outcomes.Handed h ends view out bytes c =
    let e = ends refl in
    let made = made-by s end outcomes.Handed e.0 (inl refl) (settled-or-replied s a n number end h e.1) in
    comes-to s a n number end made.0 out w h e.1 made.1 view c.0
comes-granted s a n number moved w end outcomes.Retried h ends view out bytes c = absurd c
comes-granted s a n number moved w end outcomes.Deferred h ends view out bytes c = absurd c
comes-granted s a n number moved w end outcomes.Written h ends view out bytes c = absurd c
comes-granted s a n number moved w end outcomes.Replied h ends view out bytes c =
    let e = ends refl in
    let made = made-by s end outcomes.Replied e.0 (inr refl) (settled-or-replied s a n number end h e.1) in
    comes-to s a n number end made.0 out w h e.1 made.1 view c.0
comes-granted s a n number moved w end outcomes.Failed h ends view out bytes c = absurd c
comes-granted s a n number moved w end outcomes.Upgraded h ends view out bytes c =
    let e = ends refl in
    let k = ended-here s a n number end w h e.1 view in
    let same = one k.out out (request_numbered number w.outs) k.found c.0 in
    let kept = kept-made s a n number end w h e.1 e.0 view k in
    let made = there end.grant
    (sym kept ∙ ap (λ (x : OwnRequest). is_some x.kept) same ∙ ap is_some c.1) in
    comes-to s a n number end made.0 out w h e.1 made.1 view c.0
  where
    one : (x y : OwnRequest) (o : Option OwnRequest) → o ≡ Some x → o ≡ Some y → x ≡ y
    one x y o e f = cc

    there : (o : Option Grant) → is_some o ≡ true → (grant : Grant) × (o ≡ Some grant)
    there None e = absurd (let no : ⊥ = cc in no)
    there (Some grant) e = (grant, refl)

-- the other agents have none of its lines ready into which it may store
others-beside : (v : BenchView) (hold : Bool) (choice : Choice) (a b : ℕ) (w u : AgentView) (out : OwnRequest)
    → IsBenchOf v → slice_get (step_answered v hold).agents a ≡ Some w
    → slice_get (step_answered v hold).agents b ≡ Some u
    → b ≢ a → IsComing (past_of (step_run v hold choice)) a (next_clock_of v) out.request.line (owns_line out)
    → IsBeside w out u
others-beside v hold choice a b w u out k at there other comes = record {
  apart = λ line own held come.
      let had = had-ready v hold choice b line u k there held come in
      ⊎_elim
      (λ (same : line ≡ out.request.line).
      let owned : owns_line out ≡ true = rw (eq-eqb line out.request.line same) at own in
      coming-alone s n a b out.request.line h
      (subst (λ x. IsComing (past_of s) a n out.request.line x) owned comes) other
      (subst (λ l. holds_line (past_of s) b l n ≡ true) same had.holds)
      (subst (λ l. is_ready (past_of s) b l n ≡ true) same had.ready))
      (λ (apart : line ≢ out.request.line).
      let alone : alone_by w line ≡ true = rw (ne_eqb line out.request.line apart) at own in
      let parts = and_parts (is_sole (line_state_by w line)) (has_come w line) alone in
      let mine = had-ready v hold choice a line w k at (sole_is_held (line_state_by w line) parts.0) parts.1 in
      let long = h.long in
      both_ways (holds_line (past_of s) b line n)
      (alone-in-run s a b line n h.timely h.bounds (omega arith) (mine.alone parts.0) other) had.holds)
      (cases_eq line out.request.line);
}
  where
    s : Run
    s = step_run v hold choice

    n : ℕ
    n = next_clock_of v

    h : Reaches s (n + 1)
    h = reaches-step v hold choice k

-- the clock of a bench: its log is served, and its agents have the bytes behind it; and so has the line that comes,
-- where its agent has completed on it
pub record ClockServed (v : BenchView) (hold : Bool) (choice : Choice) : Type 0 where
  pub served : Served v.run.plan.mem (step_run v hold choice).log
  pub agents : (a : ℕ) (w : AgentView) → slice_get (step_ended v hold).agents a ≡ Some w
      → IsAgentAt (state_now (step_run v hold choice)) a w
  pub came : (ending : Ending) (w : AgentView) (out : OwnRequest) (bytes : List ℕ) → step_ending v hold ≡ Some ending
      → slice_get (step_answered v hold).agents ending.served.agent ≡ Some w
      → Comes w ending.served.first (step_answered v hold).moved ending.outcome out bytes
      → copies (met_by w (next_clock_of v) out bytes).lines out.request.line
      ≡ line_bytes (state_now (step_run v hold choice)).memory out.request.line

-- the line that comes with the end of a clock comes to its agent in the run
comes-now : (v : BenchView) (hold : Bool) (choice : Choice) (ending : Ending) (w : AgentView) (put_off : Bool)
    → IsBenchOf v → step_ending v hold ≡ Some ending
    → slice_get (step_answered v hold).agents ending.served.agent ≡ Some w → is_deferral ending.outcome ≡ put_off
    → (out : OwnRequest) (bytes : List ℕ)
    → Comes w ending.served.first (step_answered v hold).moved ending.outcome out bytes
    → IsComing (past_of (step_run v hold choice)) ending.served.agent (next_clock_of v) out.request.line (owns_line out)
comes-now v hold choice ending w true b e at f out bytes c =
    absurd (deferred-none w ending.served.first (step_answered v hold).moved ending.outcome f out bytes c)
comes-now v hold choice ending w false b e at f out bytes c =
    let h = reaches-step v hold choice b in
    let k = ending-heard v hold choice (step_entries v hold) ending (step-with v hold choice b) h e f in
    comes-granted (step_run v hold choice) ending.served.agent (next_clock_of v) ending.served.first
    (step_answered v hold).moved w k.0 ending.outcome h (λ kept. (k.1, k.2))
    (answered-view v hold choice ending.served.agent w b at) out bytes c

-- the end of a clock may be heard
may-hear : (v : BenchView) (hold : Bool) (choice : Choice) (ending : Ending) → IsBenchOf v → HasBytesOf v
    → EndBrings v hold → step_ending v hold ≡ Some ending → MayHear (state_hit v) (step_answered v hold) ending
may-hear v hold choice ending b h brings e = record {
  at = λ a w at. answered-at v hold a w b h at;
  ready = λ w at. ready-for v hold choice ending.served.agent w b h at;
  brings = λ w at. brings.brings ending w e at;
  beside = λ w u m at there other out bytes c.
      others-beside v hold choice ending.served.agent m w u out b at there other
      (comes-now v hold choice ending w (is_deferral ending.outcome) b e at refl out bytes c);
}

-- the bench after its end
abbrev EndsServedNow : BenchView → Bool → Type 0
EndsServedNow v hold =
    IsEndingServed (state_hit v) (next_clock_of v) (step_answered v hold) (step_ended v hold) (step_ending v hold)
    (heard_entries (step_performed v) (next_clock_of v) (step_decided v hold) (step_phased v hold))

ends-served : (v : BenchView) (hold : Bool) (choice : Choice) → IsBenchOf v → HasBytesOf v → EndBrings v hold
    → EndsServedNow v hold
ends-served v hold choice b h brings =
    ending-served (state_hit v) (next_clock_of v) (step_answered v hold) (step_ending v hold)
    (λ a w at. answered-at v hold a w b h at) (λ ending e. may-hear v hold choice ending b h brings e)

-- its log and its state, where the entries of the hits are served, and those of the end
log-of : (mem : List Setting) (log hits ends : List Done) → Served mem log → AreServed (replay (start_of mem) log) hits
    → AreServed (replay (replay (start_of mem) log) hits) ends → Served mem (log ++ (hits ++ ends))
log-of mem log hits ends first second third =
    Served-append mem log (hits ++ ends) first (served-append (replay (start_of mem) log) hits ends second third)

state-of : (mem : List Setting) (log hits ends : List Done)
    → replay (start_of mem) (log ++ (hits ++ ends)) ≡ replay (replay (replay (start_of mem) log) hits) ends
state-of mem log hits ends =
    replay-append (start_of mem) log (hits ++ ends) ∙ replay-append (replay (start_of mem) log) hits ends

pub clock-served : (v : BenchView) (hold : Bool) (choice : Choice) → IsBenchOf v → HasBytesOf v → EndBrings v hold
    → ClockServed v hold choice
clock-served v hold choice b h brings =
    let mem = v.run.plan.mem in
    let log = v.run.log in
    let hits = hit_entries (next_clock_of v) (step_fetched v).agents in
    let ends = heard_entries (step_performed v) (next_clock_of v) (step_decided v hold) (step_phased v hold) in
    let k = ends-served v hold choice b h brings in
    let after = sym (state-of mem log hits ends) in
    record {
      served = log-of mem log hits ends h.served (hits-of-bench v b h).served k.served;
      agents = λ a w at. subst (λ s. IsAgentAt s a w) after (k.agents a w at);
      came = λ x w out bytes g at c.
          k.came x w out bytes g at c ∙ ap (λ (s : ReplayState). line_bytes s.memory out.request.line) after;
    }
