-- What comes with the end of a bench's clock has the bytes of its line: the data on the bus, and what was kept.
use Rattle.fsb_bench_values.proofs.Words
use Words.{ℕ, ◌+◌, ◌<◌, ◌≡◌, Bool, true, Option, Some, None, List, length, refl, sym, ap, subst, ◌∙◌, inl, inr, arith}
use Words.{slice_get, eqb-true, Choice, Request, and-then, Reaches, begun-want, live-at, Run, past_of, want_of}
use Words.{does_move, live_clock_of, live_number_of, Outcome, Symmetric, served_number, OwnRequest, AgentView}
use Words.{is_numbered, request_numbered, among-get, found-among, Ending, Served, step_answered, step_ending}
use Words.{step_entries, step_run, BenchView, IsBegunAt, IsBenchOf, begun-claim, begun-is, begun-stays, end-cases}
use Words.{grows-to, reaches-step, step-with, HasKept}
use Rattle.fsb_trace.specs.declared.outcome.Outcome.TheVariants as outcomes
use Rattle.fsb_bench_view.specs.MaySteps.{run_turns}
use Rattle.fsb_bench_values.proofs.ClockServed.{EndBrings, answered-view}
use Rattle.fsb_bench_values.proofs.EndServed.{Comes}
use Rattle.fsb_bench_values.proofs.HitBytes.{bytes_hit}

-- a request that began so is what its agent wanted
begun-wanted : (s : Run) (q a : ℕ) (request : Request) → Reaches s (q + 1) → IsBegunAt s q (Symmetric a) request
    → want_of (past_of s) a q ≡ Some request
begun-wanted s q a request h k =
    let long = h.long in
    let c = begun-claim s q a request (omega arith) k in
    let want = begun-want s q c.0 h.timely h.bounds (omega arith) c.1 in
    let same : Some want.request ≡ Some request =
    sym want.begins ∙ begun-is s q (Symmetric a) request (omega arith) k in
    ap (λ b. want_of (past_of s) b q) (sym c.2) ∙ want.want ∙ same

-- what is served at the end of a clock
served-there : (v : BenchView) (hold : Bool) (choice : Choice) (ending : Ending) → IsBenchOf v
    → step_ending v hold ≡ Some ending
    → (ending.served.first < length v.run.trace)
    × IsBegunAt v.run ending.served.first (Symmetric ending.served.agent) ending.served.request
served-there v hold choice ending b e =
    elim (end-cases v hold choice (step_entries v hold) (step-with v hold choice b) (reaches-step v hold choice b)) [
      | inr c ↦ absurd (no-ending ending (step_ending v hold) c.ending e)
      | inl c ↦
          let same = one-ending (record { served = c.served; outcome = c.heard.end.outcome }) ending
          (step_ending v hold)
          c.ending e in
          let served : c.served ≡ ending.served = ap (λ (x : Ending). x.served) same in
          let r = v.run in
          let j = and-then (live_clock_of r.trace)
          (served_number r.trace (run_turns r) (live_number_of r.trace c.entry.clock)) c.served.first c.serves.first in
          let early = (live-at r.trace j.0 c.served.first j.2).within in
          subst (λ (x : Served). (x.first < length r.trace) × IsBegunAt r x.first (Symmetric x.agent) x.request) served
          (early, c.serves.begun)
    ]
  where
    one-ending : (x y : Ending) (o : Option Ending) → o ≡ Some x → o ≡ Some y → x ≡ y
    one-ending x y o e f = cc

    no-ending : (x : Ending) (o : Option Ending) → o ≡ None → o ≡ Some x → ⊥
    no-ending x o e f = cc

-- its line is that of the agent's request
pub served-line : (v : BenchView) (hold : Bool) (choice : Choice) (ending : Ending) (w : AgentView) (out : OwnRequest)
    → IsBenchOf v → step_ending v hold ≡ Some ending
    → slice_get (step_answered v hold).agents ending.served.agent ≡ Some w
    → request_numbered ending.served.first w.outs ≡ Some out → ending.served.request ≡ out.request
served-line v hold choice ending w out b e at found =
    let r = v.run in
    let s = step_run v hold choice in
    let p = past_of s in
    let a = ending.served.agent in
    let q = ending.served.first in
    let view = answered-view v hold choice a w b at in
    let h = reaches-step v hold choice b in
    let long = h.long in
    let there = served-there v hold choice ending b e in
    let early = there.0 in
    let begun = begun-stays r s q (Symmetric a) ending.served.request (grows-to v hold choice b) early there.1 in
    let wanted = begun-wanted s q a ending.served.request
    (record { timely = h.timely; bounds = h.bounds; long = omega arith }) begun in
    let k = found-among (is_numbered q) out w.outs found in
    let place = among-get out w.outs k.0 in
    let number : out.number ≡ q = eqb-true out.number q k.1 in
    let own = ap (want_of p a) (sym number) ∙ view.requests.wanted place.0 out place.1 in
    one-request ending.served.request out.request (want_of p a q) wanted own
  where
    one-request : (x y : Request) (o : Option Request) → o ≡ Some x → o ≡ Some y → x ≡ y
    one-request x y o e f = cc

-- so what comes has the bytes of its line
pub end-brings : (v : BenchView) (hold : Bool) (choice : Choice) → IsBenchOf v
    → ((ending : Ending) → step_ending v hold ≡ Some ending → does_move ending.outcome ≡ true
    → (step_answered v hold).moved ≡ bytes_hit v ending.served.request.line)
    → ((a : ℕ) (w : AgentView) → slice_get (step_answered v hold).agents a ≡ Some w → HasKept (bytes_hit v) w)
    → EndBrings v hold
end-brings v hold choice b carried kept = record {
  brings = λ ending w e at out bytes c. by ending w e at out bytes ending.outcome refl c;
}
  where
    moved : (ending : Ending) (w : AgentView) → step_ending v hold ≡ Some ending
        → slice_get (step_answered v hold).agents ending.served.agent ≡ Some w → (out : OwnRequest) (bytes : List ℕ)
        → does_move ending.outcome ≡ true
        → (request_numbered ending.served.first w.outs ≡ Some out) × (bytes ≡ (step_answered v hold).moved)
        → bytes ≡ bytes_hit v out.request.line
    moved ending w e at out bytes moves c =
        c.1 ∙ carried ending e moves
        ∙ ap (λ (x : Request). bytes_hit v x.line) (served-line v hold choice ending w out b e at c.0)

    by : (ending : Ending) (w : AgentView) → step_ending v hold ≡ Some ending
        → slice_get (step_answered v hold).agents ending.served.agent ≡ Some w → (out : OwnRequest) (bytes : List ℕ)
        → (o : Outcome) → ending.outcome ≡ o → Comes w ending.served.first (step_answered v hold).moved o out bytes
        → bytes ≡ bytes_hit v out.request.line
    by ending w e at out bytes outcomes.Granted f c =
        moved ending w e at out bytes (unfold does_move in ap does_move f) c
    by ending w e at out bytes outcomes.Handed f c =
        moved ending w e at out bytes (unfold does_move in ap does_move f) c
    by ending w e at out bytes outcomes.Retried f c = absurd c
    by ending w e at out bytes outcomes.Deferred f c = absurd c
    by ending w e at out bytes outcomes.Written f c = absurd c
    by ending w e at out bytes outcomes.Replied f c =
        moved ending w e at out bytes (unfold does_move in ap does_move f) c
    by ending w e at out bytes outcomes.Failed f c = absurd c
    by ending w e at out bytes outcomes.Upgraded f c =
        let k = found-among (is_numbered ending.served.first) out w.outs c.0 in
        let place = among-get out w.outs k.0 in
        kept ending.served.agent w at place.0 out bytes place.1 c.1
