-- What the agents of a bench keep and owe behind a clock are the bytes of the one byte memory, where what comes with
-- the end of the clock has the bytes of its line.
use Rattle.fsb_bench_values.proofs.Words
use Words.{ℕ, ◌+◌, ◌<◌, ◌≡◌, ◌⊎◌, Bool, true, false, List, [], ◌∷◌, Option, Some, None, fold, if◌then◌else◌, length}
use Words.{refl, sym, ap, subst, ◌∙◌, inl, inr, arith, ◌==◌, option_map_or, eqb-true, HasBytesOwed, promise_told}
use Words.{owing_by, Among, among-either, among-without, get-among, given, owing-is, owing-there, promised-at}
use Words.{AgentEvent, agent_after, AgentView, arrived_for, ended_for, given_up, line_arrived, met_by, upgrade_ended}
use Words.{request_numbered, requests_without, OwnRequest, bench_stepped, step_answered, step_ended, step_ending}
use Words.{step_run, agent_ended, bus_ended, end_event, ended_event, BenchView, next_clock_of, for_one, Ending}
use Words.{IsBenchOf, AgentsAre, agents-next, owed-answered, reaches-step, timely-now, told-each, copies, does_end_on}
use Words.{chain_below, is_responded_below, Choice, Buffered, promise_on, pushed_to, Push, Reaches, begun-want}
use Words.{ends-line, ends-on, begun_at, bytes_now, Claim, Past, past_of, owed, Outcome, Granted, Handed, Retried}
use Words.{Deferred, Written, Replied, Failed, Upgraded, HasBytesOf, HasKept, HasPushes}
use Rattle.std.proofs.Common.{slice_get}
use Rattle.fsb_bench_values.proofs.ClockServed.{ClockServed}
use Rattle.fsb_bench_values.proofs.EndServed.{Comes}
use Rattle.fsb_bench_values.proofs.HitBytes.{bytes_hit}
use Rattle.fsb_bench_values.proofs.KeptLinks.{kept-loads}
use Rattle.fsb_bench_values.proofs.OwedAnswered.{owes-answered, pushed-told}
use Rattle.fsb_bench_values.proofs.OwedLines.{IsKeptFor, awaited-linked, kept-awaited, kept-for}
use Rattle.fsb_bench_values.proofs.OwesBytes.{OwesBytes}
use Rattle.fsb_bench_values.proofs.PushedLines.{begun-early, pushed-endless, pushed-for, pushed-linked, pushed-parts}
use Rattle.fsb_bench_values.proofs.RunsValues.{within}
use Rattle.fsb_bench_values.proofs.StillBytes.{ends-leave, others-leave}

one-of : {X : Type 0} (a b : X) → Some a ≡ Some b → a ≡ b
one-of a b e = cc

-- ---- what an end makes of an agent's requests and pushes

-- a push that is made with the end: that of a line that comes and was promised
pub record IsNewPush (comes : OwnRequest → List ℕ → Type 0) (clock : ℕ) (u : AgentView) (push : Push) : Type 0 where
  pub out : OwnRequest
  pub bytes : List ℕ
  pub come : comes out bytes
  pub promised : promise_on out.request.line u.buffers.fills ≡ Some push.number
  pub is : push.bytes ≡ copies (met_by u clock out bytes).lines out.request.line

-- the agent has no request that it had not, and no push that it had not but for new ones
pub record IsLed (comes : OwnRequest → List ℕ → Type 0) (clock : ℕ) (u w : AgentView) : Type 0 where
  pub outs : (out : OwnRequest) → Among out w.outs → Among out u.outs
  pub pushes : (push : Push) → Among push w.buffers.pushes
      → Among push u.buffers.pushes ⊎ IsNewPush comes clock u push

still-led : (comes : OwnRequest → List ℕ → Type 0) (clock : ℕ) (u : AgentView) → IsLed comes clock u u
still-led comes clock u = record { outs = λ out k. k; pushes = λ push k. inl k }

given-led : (comes : OwnRequest → List ℕ → Type 0) (clock number : ℕ) (u : AgentView)
    → IsLed comes clock u (given_up u number)
given-led comes clock number u =
    record { outs = λ out k. among-without number out u.outs k; pushes = λ push k. inl k }

met-outs : (u : AgentView) (clock : ℕ) (out : OwnRequest) (bytes : List ℕ) → (met_by u clock out bytes).outs ≡ u.outs
met-outs u clock out bytes = grind arith

met-buffers : (u : AgentView) (clock : ℕ) (out : OwnRequest) (bytes : List ℕ)
    → (met_by u clock out bytes).buffers ≡ u.buffers
met-buffers u clock out bytes = grind arith

pushed-either : (o : Option ℕ) (bytes : List ℕ) (pushes : List Push) (push : Push)
    → Among push (pushed_to o bytes pushes)
    → Among push pushes ⊎ ((o ≡ Some push.number) × (push.bytes ≡ bytes))
pushed-either None bytes pushes push k = inl k
pushed-either (Some to) bytes pushes push k =
    elim (among-either push pushes (record { number = to; bytes = bytes } ∷ []) k) [
      | inl old ↦ inl old
      | inr (inl new) ↦
          inr (ap Some (ap (λ (x : Push). x.number) new), ap (λ (x : Push). x.bytes) (sym new))
      | inr (inr none) ↦ absurd none
    ]

arrived-led : (comes : OwnRequest → List ℕ → Type 0) (clock : ℕ) (u : AgentView) (out : OwnRequest) (bytes : List ℕ)
    → comes out bytes → IsLed comes clock u (arrived_for u clock out bytes)
arrived-led comes clock u out bytes come =
    let met = met_by u clock out bytes in
    let line : ℕ = out.request.line in
    let buffers : met.buffers ≡ u.buffers = met-buffers u clock out bytes in
    record {
      outs = λ x k.
          among-without out.number x u.outs
          (subst (λ xs. Among x (requests_without out.number xs)) (met-outs u clock out bytes) k);
      pushes = λ push k.
          let k' : Among push (pushed_to (promise_on line u.buffers.fills) (copies met.lines line) u.buffers.pushes) =
          subst (λ (b : Buffered). Among push (pushed_to (promise_on line b.fills) (copies met.lines line) b.pushes))
          buffers k in
          elim (pushed-either (promise_on line u.buffers.fills) (copies met.lines line) u.buffers.pushes push k') [
            | inl old ↦ inl old
            | inr new ↦
                inr (record { out = out; bytes = bytes; come = come; promised = new.0; is = new.1 })
          ];
    }

line-led : (comes : OwnRequest → List ℕ → Type 0) (clock number : ℕ) (u : AgentView) (bytes : List ℕ)
    → ((out : OwnRequest) → request_numbered number u.outs ≡ Some out → comes out bytes)
    → IsLed comes clock u (line_arrived u clock number bytes)
line-led comes clock number u bytes come = by (request_numbered number u.outs) refl
  where
    by : (o : Option OwnRequest) → request_numbered number u.outs ≡ o
        → IsLed comes clock u (option_map_or (λ out. arrived_for u clock out bytes) o u)
    by None e = still-led comes clock u
    by (Some out) e = arrived-led comes clock u out bytes (come out e)

upgrade-led : (comes : OwnRequest → List ℕ → Type 0) (clock number : ℕ) (u : AgentView)
    → ((out : OwnRequest) (bytes : List ℕ) → request_numbered number u.outs ≡ Some out → out.kept ≡ Some bytes
    → comes out bytes) → IsLed comes clock u (upgrade_ended u clock number)
upgrade-led comes clock number u come = by (request_numbered number u.outs) refl
  where
    kept : (out : OwnRequest) → request_numbered number u.outs ≡ Some out → (o : Option (List ℕ)) → out.kept ≡ o
        → IsLed comes clock u (ended_for u clock out)
    kept out e None f =
        let is : ended_for u clock out ≡ given_up u out.number = rw (f, ended_for) refl in
        subst (IsLed comes clock u) (sym is) (given-led comes clock out.number u)
    kept out e (Some bytes) f =
        let is : ended_for u clock out ≡ arrived_for u clock out bytes = rw (f, ended_for) refl in
        subst (IsLed comes clock u) (sym is) (arrived-led comes clock u out bytes (come out bytes e f))

    by : (o : Option OwnRequest) → request_numbered number u.outs ≡ o
        → IsLed comes clock u (option_map_or (ended_for u clock) o u)
    by None e = still-led comes clock u
    by (Some out) e = kept out e out.kept refl

-- the agent whose request ends, by the outcome
own-led : (clock number : ℕ) (moved : List ℕ) (o : Outcome) (u : AgentView)
    → IsLed (Comes u number moved o) clock u (agent_ended clock number moved o u)
own-led clock number moved Granted u =
    line-led (Comes u number moved Granted) clock number u moved (λ out e. (e, refl))
own-led clock number moved Handed u =
    line-led (Comes u number moved Handed) clock number u moved (λ out e. (e, refl))
own-led clock number moved Retried u = given-led (Comes u number moved Retried) clock number u
own-led clock number moved Deferred u = still-led (Comes u number moved Deferred) clock u
own-led clock number moved Written u = given-led (Comes u number moved Written) clock number u
own-led clock number moved Replied u =
    line-led (Comes u number moved Replied) clock number u moved (λ out e. (e, refl))
own-led clock number moved Failed u = still-led (Comes u number moved Failed) clock u
own-led clock number moved Upgraded u =
    upgrade-led (Comes u number moved Upgraded) clock number u (λ out bytes e f. (e, f))

-- which lines come to agent a with an end
pub ComesTo : ℕ → Ending → List ℕ → AgentView → OwnRequest → List ℕ → Type 0
ComesTo a ending moved u out bytes =
    (a ≡ ending.served.agent) × Comes u ending.served.first moved ending.outcome out bytes

told-led : (clock a : ℕ) (moved : List ℕ) (ending : Ending) (u : AgentView)
    → IsLed (ComesTo a ending moved u) clock u (fold agent_after u (ended_event clock moved ending a))
unfolding ComesTo
told-led clock a moved ending u =
    subst (IsLed (ComesTo a ending moved u) clock u)
    (sym (by (end_event clock ending.served.first moved ending.outcome))) (mine (a == ending.served.agent) refl)
  where
    by : (o : Option AgentEvent)
        → fold agent_after u (option_map_or (λ event. for_one ending.served.agent event a) o [])
        ≡ (if a == ending.served.agent then option_map_or (agent_after u) o u else u)
    by None = none (a == ending.served.agent)
      where
        none : (b : Bool) → u ≡ (if b then u else u)
        none true = refl
        none false = refl
    by (Some event) = some (a == ending.served.agent)
      where
        some : (b : Bool) → fold agent_after u (if b then event ∷ [] else []) ≡ (if b then agent_after u event else u)
        some true = refl
        some false = refl

    mine : (b : Bool) → (a == ending.served.agent) ≡ b
        → IsLed (ComesTo a ending moved u) clock u
        (if b then agent_ended clock ending.served.first moved ending.outcome u else u)
    mine false e = still-led (ComesTo a ending moved u) clock u
    mine true e =
        let led = own-led clock ending.served.first moved ending.outcome u in
        record {
          outs = led.outs;
          pushes = λ push k. elim (led.pushes push k) [
            | inl old ↦ inl old
            | inr new ↦ inr (record {
              out = new.out;
              bytes = new.bytes;
              come = (eqb-true a ending.served.agent e, new.come);
              promised = new.promised;
              is = new.is;
            })
          ];
        }

-- ---- the bytes of those lines stay through the end

-- what an agent keeps behind the clock is of a line whose bytes the end leaves
kept-over : (v : BenchView) (hold : Bool) (choice : Choice) (a : ℕ) (w : AgentView) (out : OwnRequest) (kept : List ℕ)
    → IsBenchOf v → slice_get (bench_stepped v hold choice).bus.agents a ≡ Some w → Among out w.outs
    → out.kept ≡ Some kept
    → bytes_hit v out.request.line ≡ bytes_now (step_run v hold choice) out.request.line
kept-over v hold choice a w out kept b at k e = by (does_end_on (past_of (step_run v hold choice)) line n) refl
  where
    n : ℕ
    n = next_clock_of v

    line : ℕ
    line = out.request.line

    by : (ends : Bool) → does_end_on (past_of (step_run v hold choice)) line n ≡ ends
        → bytes_hit v line ≡ bytes_now (step_run v hold choice) line
    by false off =
        let s = step_run v hold choice in
        let m : ℕ = length s.trace in
        let size : m ≡ next_clock_of v + 1 = within v hold choice b in
        let agent = (agents-next v hold choice b).each a w at in
        let awaited = kept-awaited _ _ _ _ w out kept agent.sound agent.view.lines k e in
        let link = awaited-linked s a line m m (omega arith) awaited (omega arith) in
        let chain = ap (chain_below (past_of s) line) (sym size) ∙ link.2 in
        sym (others-leave v hold choice line link.0 link.1 b off chain)
    by true on =
        let s = step_run v hold choice in
        let p : Past = past_of s in
        let m : ℕ = length s.trace in
        let size : m ≡ next_clock_of v + 1 = within v hold choice b in
        let agent = (agents-next v hold choice b).each a w at in
        let timely = timely-now v hold choice b in
        let long : Reaches s m = record { timely = timely; bounds = b.bounds; long = omega arith } in
        let is = owing-is s a m (owing_by a out) long
        (owing-there p a m (owed p a m) w out agent.view.requests k) in
        let won = kept-for s a m w out kept long agent.view.requests k e in
        let x = ends-line s line (next_clock_of v) timely (omega (arith, size)) (ends-on p line (next_clock_of v) on) in
        sym (ends-leave v hold choice line b
        (kept-loads s line (next_clock_of v) out (owing_by a out).claim (reaches-step v hold choice b) x
        (subst (λ c. IsKeptFor s c out) size won) is.claimed refl))

-- what it owes before the end is of such a line too
pushed-over : (v : BenchView) (hold : Bool) (choice : Choice) (a : ℕ) (u : AgentView) (push : Push) (claim : Claim)
    → IsBenchOf v
    → HasBytesOwed (past_of (step_run v hold choice)) a (next_clock_of v + 1) (next_clock_of v + 1) (next_clock_of v) u
    → Among push u.buffers.pushes → begun_at (past_of (step_run v hold choice)) push.number ≡ Some claim
    → bytes_hit v claim.line ≡ bytes_now (step_run v hold choice) claim.line
pushed-over v hold choice a u push claim b owed k e =
    let s = step_run v hold choice in
    let p : Past = past_of s in
    let n = next_clock_of v in
    let size = within v hold choice b in
    let timely = timely-now v hold choice b in
    let pushed = pushed-told p a (n + 1) (n + 1) n u push owed k in
    let x = pushed-for s a (n + 1) (n + 1) n push.number claim timely b.bounds (omega (arith, size)) pushed e in
    let number = (begun-want s push.number claim timely b.bounds (begun-early s push.number claim e) e).first in
    let silent : is_responded_below p (n + 1) claim.first ≡ false =
    ap (is_responded_below p (n + 1)) number ∙ (pushed-parts p a (n + 1) (n + 1) n push.number pushed).1 in
    let link = pushed-linked s a (n + 1) claim timely b.bounds (omega (arith, size)) x silent in
    let off = pushed-endless s a n push.number claim timely b.bounds (omega (arith, size)) pushed e in
    sym (others-leave v hold choice claim.line link.0 link.1 b off link.2)

-- ---- behind the clock

-- an agent before the end
record IsBefore (v : BenchView) (hold : Bool) (choice : Choice) (a : ℕ) (u : AgentView) : Type 0 where
  at : slice_get (step_answered v hold).agents a ≡ Some u
  owed : HasBytesOwed (past_of (step_run v hold choice)) a (next_clock_of v + 1) (next_clock_of v + 1)
      (next_clock_of v) u
  owes : OwesBytes (past_of (step_run v hold choice)) (bytes_hit v) u

before-end : (v : BenchView) (hold : Bool) (choice : Choice) → IsBenchOf v → HasBytesOf v
    → AgentsAre (λ a u. IsBefore v hold choice a u) (step_answered v hold).agents
before-end v hold choice b h a u at =
    record { at = at; owed = owed-answered v hold choice b a u at; owes = owes-answered v hold choice b h a u at }

-- which lines come to an agent with the end of the clock, if there is one
ComesNow : BenchView → Bool → ℕ → AgentView → OwnRequest → List ℕ → Type 0
ComesNow v hold a u out bytes =
    (ending : Ending) × (step_ending v hold ≡ Some ending) × ComesTo a ending (step_answered v hold).moved u out bytes

-- and what that made of it
record IsAfter (v : BenchView) (hold : Bool) (choice : Choice) (a : ℕ) (w : AgentView) : Type 0 where
  was : AgentView
  before : IsBefore v hold choice a was
  led : IsLed (ComesNow v hold a was) (next_clock_of v) was w

after-end : (v : BenchView) (hold : Bool) (choice : Choice) → IsBenchOf v → HasBytesOf v
    → AgentsAre (λ a w. IsAfter v hold choice a w) (step_ended v hold).agents
unfolding ComesNow
after-end v hold choice b h = by (step_ending v hold) refl
  where
    n : ℕ
    n = next_clock_of v

    named : (ending : Ending) → step_ending v hold ≡ Some ending → (a : ℕ) (u w : AgentView)
        → IsLed (ComesTo a ending (step_answered v hold).moved u) n u w → IsLed (ComesNow v hold a u) n u w
    named ending e a u w led = record {
      outs = led.outs;
      pushes = λ push k. elim (led.pushes push k) [
        | inl old ↦ inl old
        | inr new ↦ inr (record {
          out = new.out;
          bytes = new.bytes;
          come = (ending, e, new.come);
          promised = new.promised;
          is = new.is;
        })
      ];
    }

    by : (o : Option Ending) → step_ending v hold ≡ o
        → AgentsAre (λ a w. IsAfter v hold choice a w)
        (option_map_or (bus_ended (step_answered v hold) (next_clock_of v)) o (step_answered v hold)).agents
    by None e = λ a w at.
        record { was = w; before = before-end v hold choice b h a w at; led = still-led (ComesNow v hold a w) n w }
    by (Some ending) e =
        told-each (λ a u. IsBefore v hold choice a u) (λ a w. IsAfter v hold choice a w)
        (ended_event n (step_answered v hold).moved ending) (step_answered v hold).agents
        (λ a u k. record {
          was = u;
          before = k;
          led = named ending e a u (fold agent_after u (ended_event n (step_answered v hold).moved ending a))
              (told-led n a (step_answered v hold).moved ending u);
        })
        (before-end v hold choice b h)

-- what an agent of the bench keeps
pub kept-next : (v : BenchView) (hold : Bool) (choice : Choice) (a : ℕ) (w : AgentView) → IsBenchOf v → HasBytesOf v
    → slice_get (bench_stepped v hold choice).bus.agents a ≡ Some w → HasKept (bytes_now (step_run v hold choice)) w
kept-next v hold choice a w b h at k out kept there e =
    let x = after-end v hold choice b h a w at in
    let among = get-among out w.outs k there in
    x.before.owes.kept out kept (x.led.outs out among) e ∙ kept-over v hold choice a w out kept b at among e

-- and what it owes
pub pushes-next : (v : BenchView) (hold : Bool) (choice : Choice) (a : ℕ) (w : AgentView) → IsBenchOf v → HasBytesOf v
    → ClockServed v hold choice → slice_get (bench_stepped v hold choice).bus.agents a ≡ Some w
    → HasPushes (step_run v hold choice) (bytes_now (step_run v hold choice)) w
unfolding ComesNow ComesTo bytes_now
pushes-next v hold choice a w b h served at k push claim there begun =
    let s = step_run v hold choice in
    let p : Past = past_of s in
    let n = next_clock_of v in
    let size = within v hold choice b in
    let x = after-end v hold choice b h a w at in
    elim (x.led.pushes push (get-among push w.buffers.pushes k there)) [
      | inl old ↦
          x.before.owes.pushes push claim old begun
          ∙ pushed-over v hold choice a x.was push claim b x.before.owed old begun
      | inr new ↦
          let line : ℕ = new.out.request.line in
          let come = new.come in
          let told : promise_told p a line (n + 1) n ≡ Some push.number = sym (x.before.owed.promises line)
          ∙ new.promised in
          let promised = promised-at p a line (n + 1) n push.number told in
          let low : promised.at < n + 1 = promised.below in
          let gives = given s a promised.at promised.claim (timely-now v hold choice b) b.bounds
          (omega (arith, low, size))
          promised.given in
          let same : promised.claim ≡ claim =
          one-of promised.claim claim (sym gives.begun ∙ ap (begun_at p) promised.first ∙ begun) in
          let whose = ap (slice_get (step_answered v hold).agents) (sym come.2.0) ∙ x.before.at in
          new.is
          ∙ served.came come.0 x.was new.out new.bytes come.1 whose come.2.1
          ∙ ap (bytes_now s) (sym promised.names ∙ ap (λ (y : Claim). y.line) same)
    ]
