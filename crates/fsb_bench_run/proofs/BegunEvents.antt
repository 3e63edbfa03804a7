-- What a bench tells its agents of the request that begins, and of the one that is cancelled, is what happens to
-- them in its run.
use Rattle.fsb_bench_run.proofs.Words
use Words.{ℕ, ◌+◌, ◌-◌, ◌/◌, ◌<◌, ◌≡◌, ◌&&◌, Bool, true, false, Option, Some, None, List, [], ◌∷◌, fold, length, nat_eq}
use Words.{nat_le, is_some, if◌then◌else◌, refl, sym, ap, subst, ◌∙◌, arith, inl, inr, find, slice_get, option_map}
use Words.{option_map_or, and_parts, eqb-true, le-leb, Done, cancelled_events, given_up_events, sent_events}
use Words.{IsViewAfterHit, IsViewAfterSent, IsViewBeforeSnoop, cancelled-all, sent-all, AgentEvent, GivenUp, Sent}
use Words.{agent_after, AgentView, cancelled_in, nat_eq-sym, Request, Choice, is_live-ads, get-there, find-cases}
use Words.{find-off, find-place, agree-grown, longer, Entry, Reaches, ADS, AERR, line_at, begun_at, cancelled_at}
use Words.{claim_at, agent_at, Claim, Past, Run, past_of, begun-told, cancelled-told, Trace, winner_at, Who, Symmetric}
use Words.{Priority, line_at-agree, Starting, step_cancelled, step_decided, step_performed, step_started}
use Words.{is_cancelled_by, bus_cancelled, bus_started, cancelled_event, starting_event, BenchView, BusView}
use Words.{next_clock_of, agents_told, IsBegunAt}
use Rattle.fsb_bench_run.proofs.AgentsTold.{told-at}
use Rattle.fsb_bench_run.proofs.BegunStays.{begun-stays}
use Rattle.fsb_bench_run.proofs.DrivenLines.{aerr-driven, line-with}
use Rattle.fsb_bench_run.proofs.RunWith.{run_with}
use Rattle.fsb_bench_run.proofs.SameBus.{same-performed}
use Rattle.fsb_bench_run.proofs.SnoopEntry.{held-here}
use Rattle.fsb_bench_run.proofs.SnoopResult.{claim-there}
use Rattle.fsb_bench_run.proofs.StartingNow.{starting-begins}
use Rattle.fsb_bench_run.proofs.StepWith.{IsStepWith, begins-with}

-- of each agent, by its number, this holds
abbrev pub AgentsAre : (ℕ → AgentView → Type 0) → List AgentView → Type 0
AgentsAre holds agents = (a : ℕ) (w : AgentView) → slice_get agents a ≡ Some w → holds a w

-- what is told to each agent leads on
pub told-each : (before after : ℕ → AgentView → Type 0) (events : ℕ → List AgentEvent) (agents : List AgentView)
    → ((a : ℕ) (w : AgentView) → before a w → after a (fold agent_after w (events a)))
    → AgentsAre before agents → AgentsAre after (agents_told events 0 agents)
told-each before after events agents h1 h2 = grind (arith, told-at)

-- the request of a symmetric agent is its claim, and the bridge's is none
pub begun-claim : (s : Run) (q a : ℕ) (request : Request) → q < length s.trace → IsBegunAt s q (Symmetric a) request
    → (claim : Claim) × (begun_at (past_of s) q ≡ Some claim) × (claim.agent ≡ a)
begun-claim s q a request l k =
    let x = get-there s.trace q l in
    let claims = claim-there s.trace q a x.0 k.winner x.1 in (
      record { first = q; agent = a; line = x.0.addr.bits / 4 },
      begun-told s q l ∙ ap (λ b. if b then claim_at s.trace q else None) k.begins ∙ claims,
      refl,
    )

no-claim : (w : Trace) (q : ℕ) → winner_at w q ≡ Some Priority → claim_at w q ≡ None
unfolding claim_at agent_at
no-claim w q e = rw (claim_at, agent_at, e) refl

pub begun-unclaimed : (s : Run) (q : ℕ) (request : Request) → q < length s.trace → IsBegunAt s q Priority request
    → begun_at (past_of s) q ≡ None
begun-unclaimed s q request l k = grind (arith, begun-told, no-claim)

pub begun-nothing : (s : Run) (q : ℕ) → q < length s.trace → line_at ADS s.trace q ≡ false
    → begun_at (past_of s) q ≡ None
begun-nothing s q l e = begun-told s q l ∙ ap (λ b. if b then claim_at s.trace q else None) e

abbrev sent_by : ℕ → ℕ → Option Claim → List AgentEvent
sent_by a n o = option_map_or (λ (claim : Claim). if nat_eq claim.agent a then Sent n n ∷ [] else []) o []

abbrev given_up_by : ℕ → ℕ → Option Claim → List AgentEvent
given_up_by a q o = option_map_or (λ (claim : Claim). if nat_eq claim.agent a then GivenUp q ∷ [] else []) o []

pub start-events : (s : Run) (n a : ℕ) (who : Who) (request : Request) → n < length s.trace → IsBegunAt s n who request
    → starting_event n who a ≡ sent_events (past_of s) a n
unfolding sent_events
start-events s n a (Symmetric b) request l k =
    let c = begun-claim s n b request l k in
    ap (λ (t : Bool). if t then Sent n n ∷ [] else []) (nat_eq-sym a b)
    ∙ ap (λ x. if nat_eq x a then Sent n n ∷ [] else []) (sym c.2) ∙ sym (ap (sent_by a n) c.1)
start-events s n a Priority request l k = sym (ap (sent_by a n) (begun-unclaimed s n request l k))

pub no-start : (p : Past) (n a : ℕ) → begun_at p n ≡ None → sent_events p a n ≡ []
unfolding sent_events
no-start p n a e = ap (sent_by a n) e

cancel-by : (s : Run) (n a q : ℕ) (who : Who) (request : Request) → q < length s.trace → IsBegunAt s q who request
    → cancelled_event q who a ≡ given_up_by a q (begun_at (past_of s) q)
cancel-by s n a q (Symmetric b) request l k =
    let c = begun-claim s q b request l k in
    ap (λ (t : Bool). if t then GivenUp q ∷ [] else []) (nat_eq-sym a b)
    ∙ ap (λ x. if nat_eq x a then GivenUp q ∷ [] else []) (sym c.2) ∙ sym (ap (given_up_by a q) c.1)
cancel-by s n a q Priority request l k = sym (ap (given_up_by a q) (begun-unclaimed s q request l k))

pub cancel-events : (s : Run) (n a q : ℕ) (who : Who) (request : Request) → q < length s.trace
    → IsBegunAt s q who request
    → cancelled_in (past_of s) n ≡ Some q → cancelled_event q who a ≡ cancelled_events (past_of s) a n
unfolding cancelled_events given_up_events
cancel-events s n a q who request l k e =
    cancel-by s n a q who request l k
    ∙ sym (ap (λ o. option_map_or (λ x. given_up_by a x (begun_at (past_of s) x)) o []) e)

pub no-cancel : (p : Past) (n a : ℕ) → cancelled_in p n ≡ None → cancelled_events p a n ≡ []
unfolding cancelled_events
no-cancel p n a e = ap (λ o. option_map_or (given_up_events p a) o []) e

-- AERR# cancels what began three clocks before
cancels : (w : Trace) (c q : ℕ) → q + 3 ≡ c → line_at AERR w c ≡ true → line_at ADS w q ≡ true
    → cancelled_at w c ≡ Some q
unfolding cancelled_at
cancels w c q e error ads =
    let back : c - 3 ≡ q = omega arith in
    ap (λ k. elim (nat_le 3 c && line_at AERR w c && line_at ADS w k) [ true ↦ Some k | false ↦ None ]) back
    ∙ rw (le-leb 3 c (omega arith), error, ads) refl

cancels-none : (w : Trace) (c : ℕ) → line_at AERR w c ≡ false → cancelled_at w c ≡ None
unfolding cancelled_at
cancels-none w c error = grind arith

-- the entry that a bench cancels is the request that is cancelled in its run
pub cancelled-now : (v : BenchView) (hold : Bool) (choice : Choice) (entries : List Done)
    → IsStepWith v hold choice entries
    → cancelled_in (past_of (run_with v hold choice entries)) (next_clock_of v)
    ≡ option_map (λ (e : Entry). e.clock) (step_decided v hold).cancelled
unfolding cancelled_in
cancelled-now v hold choice entries k =
    let r = v.run in
    let s = run_with v hold choice entries in
    let n = next_clock_of v in
    let queue = v.bus.queue in
    let size = longer r s k.grows in
    let same = ap (find (is_cancelled_by n)) (same-performed v).queue in
    let error = line-with v hold choice entries AERR
    ∙ aerr-driven (step_performed v) n r.plan.profile (step_decided v hold) ∙ ap is_some same in
    cancelled-told s n (omega arith) ∙ elim (find-cases (is_cancelled_by n) queue) [
      | inl f ↦
          let found = find-place (is_cancelled_by n) queue f.place f.item f.at f.passes f.before in
          let a = and_parts f.item.choice.aerr (nat_eq (f.item.clock + 3) n) f.passes in
          let place : f.item.clock + 3 ≡ n = eqb-true (f.item.clock + 3) n a.1 in
          let here = held-here r queue f.place f.item k.bench.requests f.at in
          let ads = sym (line_at-agree ADS n r.trace s.trace f.item.clock (agree-grown r s k.grows) here.within)
          ∙ is_live-ads r.trace f.item.clock here.live in
          cancels s.trace n f.item.clock place (error ∙ ap is_some found) ads
          ∙ sym (ap (option_map (λ (e : Entry). e.clock)) (same ∙ found))
      | inr g ↦
          let off = find-off (is_cancelled_by n) queue g in
          cancels-none s.trace n (error ∙ ap is_some off) ∙ sym (ap (option_map (λ (e : Entry). e.clock)) (same ∙ off))
    ]

-- and it is one of the queue
pub cancelled-entry : (v : BenchView) (hold : Bool) (choice : Choice) (entries : List Done) (e : Entry)
    → IsStepWith v hold choice entries
    → (step_decided v hold).cancelled ≡ Some e
    → (e.clock < next_clock_of v) × IsBegunAt (run_with v hold choice entries) e.clock e.who e.request
cancelled-entry v hold choice entries e k is =
    let r = v.run in
    let s = run_with v hold choice entries in
    let n = next_clock_of v in
    let queue = v.bus.queue in
    let same = sym (ap (find (is_cancelled_by n)) (same-performed v).queue) ∙ is in
    elim (find-cases (is_cancelled_by n) queue) [
      | inl f ↦
          let found = find-place (is_cancelled_by n) queue f.place f.item f.at f.passes f.before in
          let one : f.item ≡ e = (let both : Some f.item ≡ Some e = sym found ∙ same in cc) in
          let here = held-here r queue f.place f.item k.bench.requests f.at in
          subst (λ (x : Entry). (x.clock < n) × IsBegunAt s x.clock x.who x.request) one (
            here.within,
            begun-stays r s f.item.clock f.item.who f.item.request k.grows here.within
                (k.bench.entries.begun f.place f.item f.at),
          )
      | inr g ↦ absurd (let off = find-off (is_cancelled_by n) queue g in let no : None ≡ Some e = sym off ∙ same in cc)
    ]

-- the views after what begins
pub started-views : (s : Run) (n : ℕ) (bus : BusView) (o : Option Starting) → Reaches s (n + 1)
    → (o ≡ None → begun_at (past_of s) n ≡ None)
    → ((x : Starting) → o ≡ Some x → IsBegunAt s n x.who x.request)
    → AgentsAre (λ a w. IsViewAfterHit (past_of s) a n w) bus.agents
    → AgentsAre (λ a w. IsViewAfterSent (past_of s) a n w) (option_map_or (bus_started bus n) o bus).agents
started-views s n bus None h none begun views = λ a w at.
    subst (λ events. IsViewAfterSent (past_of s) a n (fold agent_after w events)) (no-start (past_of s) n a (none refl))
    (sent-all s a n w h (views a w at))
started-views s n bus (Some x) h none begun views =
    let long = h.long in
    told-each (λ a w. IsViewAfterHit (past_of s) a n w) (λ a w. IsViewAfterSent (past_of s) a n w)
    (starting_event n x.who) bus.agents (λ a w view.
    subst (λ events. IsViewAfterSent (past_of s) a n (fold agent_after w events))
    (sym (start-events s n a x.who x.request (omega arith) (begun x refl))) (sent-all s a n w h view)) views

-- and after what is cancelled
cancelled-views : (s : Run) (n : ℕ) (bus : BusView) (o : Option Entry) → Reaches s (n + 1)
    → cancelled_in (past_of s) n ≡ option_map (λ (e : Entry). e.clock) o
    → ((e : Entry) → o ≡ Some e → (e.clock < n) × IsBegunAt s e.clock e.who e.request)
    → AgentsAre (λ a w. IsViewAfterSent (past_of s) a n w) bus.agents
    → AgentsAre (λ a w. IsViewBeforeSnoop (past_of s) a n w) (option_map_or (bus_cancelled bus) o bus).agents
cancelled-views s n bus None h is begun views = λ a w at.
    subst (λ events. IsViewBeforeSnoop (past_of s) a n (fold agent_after w events)) (no-cancel (past_of s) n a is)
    (cancelled-all s a n w h (views a w at))
cancelled-views s n bus (Some e) h is begun views =
    let long = h.long in
    let b = begun e refl in
    let low = b.0 in
    told-each (λ a w. IsViewAfterSent (past_of s) a n w) (λ a w. IsViewBeforeSnoop (past_of s) a n w)
    (cancelled_event e.clock e.who) bus.agents (λ a w view.
    subst (λ events. IsViewBeforeSnoop (past_of s) a n (fold agent_after w events))
    (sym (cancel-events s n a e.clock e.who e.request (omega arith) b.1 is)) (cancelled-all s a n w h view)) views

-- the agents of a bench before the snoop end of its clock are as the run says
pub views-cancelled : (v : BenchView) (hold : Bool) (choice : Choice) (entries : List Done)
    → IsStepWith v hold choice entries
    → Reaches (run_with v hold choice entries) (next_clock_of v + 1)
    → AgentsAre (λ a w. IsViewBeforeSnoop (past_of (run_with v hold choice entries)) a (next_clock_of v) w)
    (step_cancelled v hold).agents
views-cancelled v hold choice entries k h =
    let s = run_with v hold choice entries in
    let n = next_clock_of v in
    let long = h.long in
    let ads = begins-with v hold choice entries in
    cancelled-views s n (step_started v hold) (step_decided v hold).cancelled h (cancelled-now v hold choice entries k)
    (λ e is. cancelled-entry v hold choice entries e k is)
    (started-views s n (step_performed v) (step_decided v hold).starting h
    (λ none. begun-nothing s n (omega arith) (ads ∙ ap is_some none))
    (λ x is. starting-begins v hold choice entries x k is) (λ a w at. k.hits.after a w at))
