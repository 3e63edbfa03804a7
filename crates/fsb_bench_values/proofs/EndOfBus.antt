-- The end that a bus hears: where its agents have the bytes of the one byte memory, what the end completes is
-- served, and they have the bytes behind it.
use Rattle.fsb_bench_values.proofs.Words
use Words.{ℕ, ◌+◌, ◌≡◌, ◌≢◌, Option, Some, None, List, [], fold, refl, sym, ap, subst, ◌∙◌, ⊎_elim, arith, slice_get}
use Words.{option_map_or, cases_eq, Done, ReplayState, replay, copies, line_bytes, OwnRequest, agent_after, AgentView}
use Words.{met_by, Ending, agent_ended, bus_ended, end_entries, ended_event, entries_ended, BusView, some-of, told-at}
use Rattle.fsb_bench_values.proofs.EndServed.{BringsNow, Comes, EndsServed, IsBeside, IsReadyFor, end-served}
use Rattle.fsb_bench_values.proofs.HandServed.{AreServed}
use Rattle.fsb_bench_values.proofs.ItemsServed.{IsAgentAt}

-- what is told to each agent at an end
ended-own : (clock : ℕ) (moved : List ℕ) (ending : Ending) (u : AgentView) (m : ℕ) → m ≡ ending.served.agent
    → fold agent_after u (ended_event clock moved ending m)
    ≡ agent_ended clock ending.served.first moved ending.outcome u
ended-own clock moved ending u m e = grind arith

ended-other : (clock : ℕ) (moved : List ℕ) (ending : Ending) (u : AgentView) (m : ℕ) → m ≢ ending.served.agent
    → fold agent_after u (ended_event clock moved ending m) ≡ u
ended-other clock moved ending u m other = grind arith

-- the lines that come to an agent with the end
abbrev pub ComesWith : BusView → Ending → AgentView → OwnRequest → List ℕ → Type 0
ComesWith bus ending w out bytes = Comes w ending.served.first bus.moved ending.outcome out bytes

-- the bus hears an end where its agents have the bytes of the state: the agent whose request ends may have a line
-- come, and the others have none of its lines ready into which it may store; what comes has the bytes of its line
pub record MayHear (state : ReplayState) (bus : BusView) (ending : Ending) : Type 0 where
  pub at : (a : ℕ) (w : AgentView) → slice_get bus.agents a ≡ Some w → IsAgentAt state a w
  pub ready : (w : AgentView) → slice_get bus.agents ending.served.agent ≡ Some w
      → IsReadyFor state ending.served.agent w
  pub brings : (w : AgentView) → slice_get bus.agents ending.served.agent ≡ Some w
      → BringsNow state (ComesWith bus ending w)
  pub beside : (w u : AgentView) (m : ℕ) → slice_get bus.agents ending.served.agent ≡ Some w
      → slice_get bus.agents m ≡ Some u → m ≢ ending.served.agent → (out : OwnRequest) (bytes : List ℕ)
      → ComesWith bus ending w out bytes → IsBeside w out u

-- the end is served, and its agents have the bytes behind it; and so has the line that comes, where its agent has
-- completed on it
pub record IsEndServed (state : ReplayState) (clock : ℕ) (bus : BusView) (ending : Ending)
    (entries : List Done) : Type 0 where
  pub served : AreServed state entries
  pub agents : (a : ℕ) (w : AgentView) → slice_get (bus_ended bus clock ending).agents a ≡ Some w
      → IsAgentAt (replay state entries) a w
  pub came : (w : AgentView) (out : OwnRequest) (bytes : List ℕ) → slice_get bus.agents ending.served.agent ≡ Some w
      → ComesWith bus ending w out bytes
      → copies (met_by w clock out bytes).lines out.request.line
      ≡ line_bytes (replay state entries).memory out.request.line

one-agent : (x y : AgentView) (o : Option AgentView) → o ≡ Some x → o ≡ Some y → x ≡ y
one-agent x y o e f = cc

no-agent : (x : AgentView) (o : Option AgentView) → o ≡ None → o ≡ Some x → ⊥
no-agent x o e f = cc

-- who was told of it
told : (clock : ℕ) (bus : BusView) (ending : Ending) (m : ℕ) (x : AgentView)
    → slice_get (bus_ended bus clock ending).agents m ≡ Some x
    → (u : AgentView) × (slice_get bus.agents m ≡ Some u)
    × (x ≡ fold agent_after u (ended_event clock bus.moved ending m))
told clock bus ending m x at =
    let t = some-of (λ u. fold agent_after u (ended_event clock bus.moved ending (0 + m))) (slice_get bus.agents m) x
    (sym (told-at (ended_event clock bus.moved ending) 0 bus.agents m) ∙ at) in
    let none_more : 0 + m ≡ m = omega arith in
    (t.0, t.1, t.2 ∙ ap (λ k. fold agent_after t.0 (ended_event clock bus.moved ending k)) none_more)

abbrev entries-by : ℕ → BusView → Ending → Option AgentView → List Done
entries-by clock bus ending o =
    option_map_or (entries_ended clock ending.served.first bus.moved ending.outcome) o []

-- no agent's request ends
ended-none : (state : ReplayState) (clock : ℕ) (bus : BusView) (ending : Ending) → MayHear state bus ending
    → slice_get bus.agents ending.served.agent ≡ None → IsEndServed state clock bus ending []
ended-none state clock bus ending k f = record {
  served = refl;
  agents = λ m x at.
      let t = told clock bus ending m x at in
      let other : m ≢ ending.served.agent =
      λ same. no-agent t.0 (slice_get bus.agents ending.served.agent) f (ap (slice_get bus.agents) (sym same) ∙ t.1) in
      subst (IsAgentAt state m) (sym (t.2 ∙ ended-other clock bus.moved ending t.0 m other)) (k.at m t.0 t.1);
  came = λ w out bytes at c. absurd (no-agent w (slice_get bus.agents ending.served.agent) f at);
}

-- that of one ends
ended-some : (state : ReplayState) (clock : ℕ) (bus : BusView) (ending : Ending) (w : AgentView)
    → MayHear state bus ending
    → slice_get bus.agents ending.served.agent ≡ Some w
    → IsEndServed state clock bus ending (entries_ended clock ending.served.first bus.moved ending.outcome w)
ended-some state clock bus ending w k f =
    let a = ending.served.agent in
    let first = ending.served.first in
    let after = replay state (entries_ended clock first bus.moved ending.outcome w) in
    let j : EndsServed state a clock (ComesWith bus ending w) w
    (agent_ended clock first bus.moved ending.outcome w) (entries_ended clock first bus.moved ending.outcome w) =
    end-served state a clock first w bus.moved ending.outcome (k.ready w f) (k.brings w f) in
    record {
      served = j.served;
      agents = λ m x at.
          let t = told clock bus ending m x at in
          ⊎_elim
          (λ (same : m ≡ a).
          let whose : t.0 ≡ w = one-agent t.0 w (slice_get bus.agents a) (ap (slice_get bus.agents) (sym same)
          ∙ t.1) f in
          subst (IsAgentAt after m)
          (sym (t.2 ∙ ended-own clock bus.moved ending t.0 m same
          ∙ ap (agent_ended clock first bus.moved ending.outcome) whose))
          (subst (λ i. IsAgentAt after i (agent_ended clock first bus.moved ending.outcome w)) (sym same) j.agent))
          (λ (other : m ≢ a).
          subst (IsAgentAt after m) (sym (t.2 ∙ ended-other clock bus.moved ending t.0 m other))
          (j.others m t.0 (k.beside w t.0 m f t.1 other) other (k.at m t.0 t.1)))
          (cases_eq m a);
      came = λ u out bytes at c.
          let whose = one-agent u w (slice_get bus.agents a) at f in
          let c' : ComesWith bus ending w out bytes =
          subst (λ (y : AgentView). ComesWith bus ending y out bytes) whose c in
          ap (λ (y : AgentView). copies (met_by y clock out bytes).lines out.request.line) whose ∙ j.came out bytes c';
    }

pub heard-end : (state : ReplayState) (clock : ℕ) (bus : BusView) (ending : Ending) → MayHear state bus ending
    → IsEndServed state clock bus ending (end_entries bus clock ending)
heard-end state clock bus ending k = by (slice_get bus.agents ending.served.agent) refl
  where
    by : (o : Option AgentView) → slice_get bus.agents ending.served.agent ≡ o
        → IsEndServed state clock bus ending (entries-by clock bus ending (slice_get bus.agents ending.served.agent))
    by None f =
        subst (IsEndServed state clock bus ending) (sym (ap (entries-by clock bus ending) f))
        (ended-none state clock bus ending k f)
    by (Some w) f =
        subst (IsEndServed state clock bus ending) (sym (ap (entries-by clock bus ending) f))
        (ended-some state clock bus ending w k f)

-- an end that is heard, or none
pub record IsEndingServed (state : ReplayState) (clock : ℕ) (bus ended : BusView) (o : Option Ending)
    (entries : List Done) : Type 0 where
  pub served : AreServed state entries
  pub agents : (a : ℕ) (w : AgentView) → slice_get ended.agents a ≡ Some w → IsAgentAt (replay state entries) a w
  pub came : (ending : Ending) (w : AgentView) (out : OwnRequest) (bytes : List ℕ) → o ≡ Some ending
      → slice_get bus.agents ending.served.agent ≡ Some w → ComesWith bus ending w out bytes
      → copies (met_by w clock out bytes).lines out.request.line
      ≡ line_bytes (replay state entries).memory out.request.line

one-ending : (x y : Ending) → Some x ≡ Some y → x ≡ y
one-ending x y e = cc

pub ending-served : (state : ReplayState) (clock : ℕ) (bus : BusView) (o : Option Ending)
    → ((a : ℕ) (w : AgentView) → slice_get bus.agents a ≡ Some w → IsAgentAt state a w)
    → ((ending : Ending) → o ≡ Some ending → MayHear state bus ending)
    → IsEndingServed state clock bus (option_map_or (bus_ended bus clock) o bus) o
    (option_map_or (end_entries bus clock) o [])
ending-served state clock bus None at hears = record {
  served = refl;
  agents = at;
  came = λ ending w out bytes e there c. absurd (let no : ⊥ = cc in no);
}
ending-served state clock bus (Some ending) at hears =
    let k = heard-end state clock bus ending (hears ending refl) in
    record {
      served = k.served;
      agents = k.agents;
      came = λ x w out bytes e there c.
          let same : x ≡ ending = one-ending x ending (sym e) in
          k.came w out bytes (ap (λ (y : Ending). slice_get bus.agents y.served.agent) (sym same) ∙ there)
          (subst (λ (y : Ending). ComesWith bus y w out bytes) same c);
    }
