-- What the agents of a bench keep and owe at a clock, before its end: the bytes after the hits.
use Rattle.fsb_bench_values.proofs.Words
use Words.{ℕ, ◌+◌, ◌<◌, ◌≡◌, Bool, true, false, not, ◌&&◌, ◌||◌, if◌then◌else◌, List, [], ◌∷◌, Option, Some, None}
use Words.{nat_eq, refl, sym, ap, subst, ◌∙◌, inl, inr, arith, ◌==◌, count_by, slice_get, option_map_or, eq-eqb}
use Words.{eqb-true, number_asked, HasBytesOwed, is_pushed, one_if, owing_by, IsViewBeforeSnoop, is_uncancelled}
use Words.{owed_sent, owed_through, Among, IsOwnAt, among-filter, among-get, claimed-out, come-count, get-among}
use Words.{held-told, is_settled_for, numbered-among, owed-grown, owing-there, replied-out, same-first, sent-is}
use Words.{settled-unawaited, wanted-of, written-kind, HandedOn, Performed, agent_after, AgentView, line_state_by}
use Words.{request_numbered, committed, OwnRequest, events_below, is_responded_below, Kind, Choice, Purpose, MemoryLine}
use Words.{unheld, run, is_held, is_modified, suits, modified_is_sole, sole_is_held, Push, is_push_for, Entry, Reaches}
use Words.{replied-on, begun-want, clock-facts, events-may-happen, begun_at, holds_line, is_evicted, snooped_at, Claim}
use Words.{Past, SnoopEnd, Run, past_of, want_of, purpose_of, Outcome, Written, Starting, BytesFrom, Memory, Agents}
use Words.{SnoopSettled, step_answered, step_cancelled, step_decided, step_drive, step_entries, step_fetched}
use Words.{step_performed, step_run, step_snooped, step_started, answered_by, bus_cancelled, bus_snooped, bus_started}
use Words.{cancelled_event, snooped_event, starting_event, BenchView, BusView, next_clock_of, bus_fetched, bytes_source}
use Words.{for_all, IsBenchOf, AgentsAre, IsSnoopHeard, answered-agents, grows-to, hears-snoop, performed-buffers}
use Words.{reaches-step, snoop-cases, step-with, timely-now, told-each, views-cancelled, HasBytesOf, HasCopies, HasKept}
use Rattle.std.proofs.Common.{cond}
use Rattle.std.specs.Prelude.{fold}
use Rattle.std.proofs.lemmas.List.Sums.{sum_by-cons}
use Rattle.fsb_encode.specs.declared.request.Kind.TheVariants as kinds
use Rattle.fsb_line.specs.declared.purpose.Purpose.TheVariants as purposes
use Rattle.fsb_bench_values.proofs.Fetched.{first-early}
use Rattle.fsb_bench_values.proofs.HitBytes.{bytes_hit}
use Rattle.fsb_bench_values.proofs.HitsOfBench.{cancelled-at}
use Rattle.fsb_bench_values.proofs.OwedLines.{awaited-linked, kept-awaited}
use Rattle.fsb_bench_values.proofs.OwesBytes.{IsOwnRight, OwesBytes, cancelled-owes, handed-owes, other-committed-owes}
use Rattle.fsb_bench_values.proofs.OwesBytes.{own-committed-owes, owes-alike, performed-outs, started-owes}
use Rattle.fsb_bench_values.proofs.PushedLines.{begun-early, pushed-for, pushed-linked, pushed-parts}
use Rattle.fsb_bench_values.proofs.RunsValues.{begun-old, chain-old, within}
use Rattle.fsb_bench_values.proofs.ServesLine.{claim-line}
use Rattle.fsb_bench_values.proofs.StillBytes.{hits-leave}

one-of : {X : Type 0} (a b : X) → Some a ≡ Some b → a ≡ b
one-of a b e = cc

-- ---- before the clock

-- a push of a record is told by the run
pub pushed-told : (p : Past) (a n r c : ℕ) (w : AgentView) (push : Push) → HasBytesOwed p a n r c w
    → Among push w.buffers.pushes → is_pushed p a n r c push.number ≡ true
pushed-told p a n r c w push owed k =
    by (is_pushed p a n r c push.number) refl
  where
    counted : (pushes : List Push) → Among push pushes → count_by (is_push_for push.number) pushes ≡ 0 → ⊥
    counted [] k none = k
    counted (x ∷ pushes) (inl same) none =
        let here : count_by (is_push_for push.number) (x ∷ pushes)
        ≡ cond (x.number == push.number) 1 0 + count_by (is_push_for push.number) pushes =
        sum_by-cons (λ (y : Push). cond (is_push_for push.number y) 1 0) x pushes in
        let one : cond (x.number == push.number) 1 0 ≡ 1 =
        ap {B = ℕ} (λ b. cond b 1 0) (eq-eqb x.number push.number (ap (λ (y : Push). y.number) same)) in
        omega (arith, here, none, one)
    counted (x ∷ pushes) (inr rest) none =
        let here : count_by (is_push_for push.number) (x ∷ pushes)
        ≡ cond (x.number == push.number) 1 0 + count_by (is_push_for push.number) pushes =
        sum_by-cons (λ (y : Push). cond (is_push_for push.number y) 1 0) x pushes in
        counted pushes rest (omega (arith, here, none))

    by : (b : Bool) → is_pushed p a n r c push.number ≡ b → is_pushed p a n r c push.number ≡ true
    by true e = e
    by false e =
        absurd (counted w.buffers.pushes k (owed.pushes push.number ∙ ap (λ b. if b then 1 else 0) e))

-- what an agent of the bench keeps and owes has the bytes after the hits: no hit stores into those lines
bench-owes : (v : BenchView) (hold : Bool) (choice : Choice) → IsBenchOf v → HasBytesOf v
    → AgentsAre (λ a w. OwesBytes (past_of (step_run v hold choice)) (bytes_hit v) w) v.bus.agents
bench-owes v hold choice b h a w at =
    let r = v.run in
    let s = step_run v hold choice in
    let p : Past = past_of s in
    let n = next_clock_of v in
    let size = within v hold choice b in
    let timely = timely-now v hold choice b in
    let agent = b.agents.each a w at in
    let has = h.agents a w at in
    let old : Reaches r n = record { timely = b.timely; bounds = b.bounds; long = omega arith } in
    let owed = owed-grown r s a n w (grows-to v hold choice b) old agent.owed in
    record {
      kept = λ out kept k e.
          let place = among-get out w.outs k in
          let line : ℕ = out.request.line in
          let awaited = kept-awaited _ _ _ _ w out kept agent.sound agent.view.lines k e in
          let link = awaited-linked r a line n n (omega arith) awaited (omega arith) in
          has.kept place.0 out kept place.1 e
          ∙ sym (hits-leave v hold choice line link.0 link.1 b (chain-old v hold choice line b ∙ link.2));
      pushes = λ push claim k e.
          let place = among-get push w.buffers.pushes k in
          let pushed = pushed-told p a n n n w push owed k in
          let x = pushed-for s a n n n push.number claim timely b.bounds (omega (arith, size)) pushed e in
          let upto : x.at < n = x.below in
          let early = first-early s x.at x.end x.there in
          let number = (begun-want s push.number claim timely b.bounds (begun-early s push.number claim e) e).first in
          let first = x.first in
          let low : push.number < n = omega (arith, early, upto, number, first) in
          let silent = ap (is_responded_below p n) number ∙ (pushed-parts p a n n n push.number pushed).1 in
          let link = pushed-linked s a n claim timely b.bounds (omega (arith, size)) x silent in
          has.pushes place.0 push claim place.1 (begun-old v hold choice push.number b low ∙ e)
          ∙ sym (hits-leave v hold choice claim.line link.0 link.1 b link.2);
    }

-- with the bytes that move
fetched-all : (p : Past) (bytes : ℕ → List ℕ) (bus : BusView) (o : Option BytesFrom)
    → AgentsAre (λ a w. OwesBytes p bytes w) bus.agents
    → AgentsAre (λ a w. OwesBytes p bytes w) (bus_fetched bus o).agents
fetched-all p bytes bus None owes = owes
fetched-all p bytes bus (Some (Memory line)) owes = owes
fetched-all p bytes bus (Some (Agents number)) owes =
    told-each (λ a w. OwesBytes p bytes w) (λ a w. OwesBytes p bytes w) (for_all (HandedOn number)) bus.agents
    (λ a w k. handed-owes p bytes w number k) owes

started-all : (p : Past) (bytes : ℕ → List ℕ) (n : ℕ) (bus : BusView) (o : Option Starting)
    → AgentsAre (λ a w. OwesBytes p bytes w) bus.agents
    → AgentsAre (λ a w. OwesBytes p bytes w) (option_map_or (bus_started bus n) o bus).agents
started-all p bytes n bus None owes = owes
started-all p bytes n bus (Some x) owes =
    told-each (λ a w. OwesBytes p bytes w) (λ a w. OwesBytes p bytes w) (starting_event n x.who) bus.agents
    (λ a w k. started-owes p bytes n a x.who w k) owes

cancelled-all : (p : Past) (bytes : ℕ → List ℕ) (bus : BusView) (o : Option Entry)
    → AgentsAre (λ a w. OwesBytes p bytes w) bus.agents
    → AgentsAre (λ a w. OwesBytes p bytes w) (option_map_or (bus_cancelled bus) o bus).agents
cancelled-all p bytes bus None owes = owes
cancelled-all p bytes bus (Some e) owes =
    told-each (λ a w. OwesBytes p bytes w) (λ a w. OwesBytes p bytes w) (cancelled_event e.clock e.who) bus.agents
    (λ a w k. cancelled-owes p bytes e.clock a e.who w k) owes

-- before the snoop end
before-snoop : (v : BenchView) (hold : Bool) (choice : Choice) → IsBenchOf v → HasBytesOf v
    → AgentsAre (λ a w. OwesBytes (past_of (step_run v hold choice)) (bytes_hit v) w) (step_cancelled v hold).agents
before-snoop v hold choice b h =
    let p : Past = past_of (step_run v hold choice) in
    let bytes = bytes_hit v in
    let n = next_clock_of v in
    let fetched = fetched-all p bytes v.bus (bytes_source v.bus (step_drive v)) (bench-owes v hold choice b h) in
    let performed_then = told-each (λ a w. OwesBytes p bytes w) (λ a w. OwesBytes p bytes w) (for_all (Performed n))
    (step_fetched v).agents
    (λ a w k. owes-alike p bytes w (fold agent_after w (for_all (Performed n) a)) (performed-outs w n)
    (ap (λ x. x.pushes) (performed-buffers w n)) k) fetched in
    cancelled-all p bytes (step_started v hold) (step_decided v hold).cancelled
    (started-all p bytes n (step_performed v) (step_decided v hold).starting performed_then)

-- ---- the snoop end

-- what an agent has outstanding there began as it has it
out-claimed : (s : Run) (a n : ℕ) (w : AgentView) (out : OwnRequest) (claim : Claim) → Reaches s (n + 1)
    → IsViewBeforeSnoop (past_of s) a n w → Among out w.outs → begun_at (past_of s) out.number ≡ Some claim
    → claim.line ≡ out.request.line
unfolding owed_through
out-claimed s a n w out claim h view k e =
    let p : Past = past_of s in
    let there = owing-there p a n (owed_through p a n) w out view.requests k in
    let sent_then = (among-filter (is_uncancelled p n) (owing_by a out) (owed_sent p a n) there).0 in
    let is = sent-is s a n (owing_by a out) h sent_then in
    ap (λ (x : Claim). x.line) (one-of claim (owing_by a out).claim (sym e ∙ is.claimed))

one-request : (s : Run) (a n : ℕ) (w : AgentView) (out other : OwnRequest) → IsViewBeforeSnoop (past_of s) a n w
    → Among out w.outs → Among other w.outs → other.number ≡ out.number → other.request ≡ out.request
one-request s a n w out other view k m same =
    let p : Past = past_of s in
    one-of other.request out.request (sym (wanted-of p a n (owed_through p a n) w other view.requests m)
    ∙ ap (want_of p a) same ∙ wanted-of p a n (owed_through p a n) w out view.requests k)

written-purpose : (kind : Kind) (purpose : Purpose) → kind ≡ kinds.WriteBack → purpose_of kind ≡ Some purpose
    → purpose ≡ purposes.WriteBack
unfolding purpose_of
written-purpose kind purpose e f = one-of purpose purposes.WriteBack (sym f ∙ ap purpose_of e)

-- a line that is written back is held
written-held : (s : Run) (n : ℕ) (end : SnoopEnd) (claim : Claim) (w : AgentView) → Reaches s (n + 1)
    → snooped_at (past_of s) n ≡ Some end → end.claim ≡ Some claim → end.outcome ≡ Written
    → IsViewBeforeSnoop (past_of s) claim.agent n w → is_held (line_state_by w claim.line) ≡ true
written-held s n end claim w h there claims written view =
    let p : Past = past_of s in
    let long = h.long in
    let line : ℕ = claim.line in
    let settled = (clock-facts s line n h.timely h.bounds (omega arith)).settles.settled end claim there claims refl in
    let fits = settled.fits in
    let agent : claim.agent ≡ fits.agent = (same-first p line n end claim claims fits).1 in
    let x : MemoryLine = run (unheld []) (events_below p line n) in
    let tied = (events-may-happen s line n [] h.timely h.bounds (omega arith)).1 in
    let kind = written-kind fits.kind end.outcome written
    (fits.fits (λ write handed. let both = sym written ∙ handed in let no : ⊥ = cc in no)) in
    let purpose = written-purpose fits.kind settled.purpose kind settled.known in
    let ask = tied.tied.opened fits.agent _ settled.opened in
    let modified : is_modified (x.state fits.agent) ≡ true =
    subst (λ k. suits k (x.state fits.agent) ≡ true) purpose (tied.ordered.suited fits.agent _ ask) in
    let held : is_held (x.state fits.agent) ≡ true =
    sole_is_held (x.state fits.agent) (modified_is_sole (x.state fits.agent) modified) in
    let holds : holds_line p fits.agent line n ≡ true = sym (tied.tied.held fits.agent) ∙ held in
    ap is_held (view.lines.states line) ∙ held-told _ _ _
    ∙ ap (λ a. holds_line p a line n && not (is_evicted p a line n)) agent
    ∙ rw (holds, settled.unevicted) refl

-- what has to be known of an agent's own request there
own-right : (s : Run) (a n number : ℕ) (end : SnoopEnd) (outcome : Outcome) (w : AgentView) → Reaches s (n + 1)
    → snooped_at (past_of s) n ≡ Some end → (o : IsOwnAt (past_of s) a n number end w)
    → IsViewBeforeSnoop (past_of s) a n w
    → ((out : OwnRequest) → out ≡ o.out → outcome ≡ Written → is_held (line_state_by w out.request.line) ≡ true)
    → IsOwnRight (past_of s) w number outcome
own-right s a n number end outcome w h there o view held =
    let long = h.long in
    let whose : (out : OwnRequest) → request_numbered number w.outs ≡ Some out → out ≡ o.out =
    λ out e. one-of out o.out (sym e ∙ ap (λ q. request_numbered q w.outs) (sym o.numbered) ∙ o.found) in
    record {
      come = λ out e.
          let line : ℕ = out.request.line in
          let settles = ap (λ (x : OwnRequest). is_settled_for a x.request.line end) (whose out e)
          ∙ o.own.settles in
          let awaited = settled-unawaited s a line n end h.timely h.bounds (omega arith) there settles in
          come-count line w.buffers.fills false (view.lines.fills line ∙ ap one_if awaited);
      held = λ out e f. held out (whose out e) f;
      one = λ out other k m same. one-request s a n w out other view k m same;
      claimed = λ out claim k e. out-claimed s a n w out claim h view k e;
    }

-- an agent before the snoop end
record IsOwing (v : BenchView) (s : Run) (n a : ℕ) (w : AgentView) : Type 0 where
  view : IsViewBeforeSnoop (past_of s) a n w
  copies : HasCopies (bytes_hit v) w
  owes : OwesBytes (past_of s) (bytes_hit v) w

-- and what it keeps and owes after it
snooped-one : (v : BenchView) (s : Run) (n a : ℕ) (x : SnoopSettled) (w : AgentView) → Reaches s (n + 1)
    → IsSnoopHeard s n x → IsOwing v s n a w → (mine : Bool) → nat_eq a x.served.agent ≡ mine
    → OwesBytes (past_of s) (bytes_hit v)
    (committed w x.served.first mine x.served.request (x.hit || x.hitm) x.outcome)
snooped-one v s n a x w h k y false m =
    let long = h.long in
    other-committed-owes (past_of s) (bytes_hit v) w x.served.first x.served.request
    (x.hit || x.hitm) x.outcome y.copies
    y.owes (λ claim e. claim-line s x.served.first x.served.agent x.served.request claim h.timely h.bounds
    (begun-early s x.served.first claim e) k.begun e)
snooped-one v s n a x w h k y true m =
    own-committed-owes (past_of s) (bytes_hit v) w x.served.first x.served.request
    (x.hit || x.hitm) x.outcome y.copies y.owes
    (elim k.served [
      | inl c ↦
          let agent : c.claim.agent ≡ a = c.agent ∙ sym (eqb-true a x.served.agent m) in
          let o = claimed-out s a n k.end c.claim w h k.there c.claims agent y.view in
          subst (λ q. IsOwnRight (past_of s) w q x.outcome) c.first
          (own-right s a n k.end.first k.end x.outcome w h k.there o y.view (λ out same written.
          let held = written-held s n k.end c.claim w h k.there c.claims (k.outcome ∙ written)
          (subst (λ i. IsViewBeforeSnoop (past_of s) i n w) (sym agent) y.view) in
          let claimed = out-claimed s a n w out c.claim h y.view
          (subst (λ (z : OwnRequest). Among z w.outs) (sym same)
          (numbered-among o.out.number o.out w.outs o.found).0)
          (ap (begun_at (past_of s)) (ap (λ (z : OwnRequest). z.number) same ∙ o.numbered)
          ∙ sym ((clock-facts s c.claim.line n h.timely h.bounds (omega arith)).settles.claimed k.end k.there)
          ∙ c.claims) in
          ap (λ line. is_held (line_state_by w line)) (sym claimed) ∙ held))
      | inr c ↦
          let agent : c.grant.agent ≡ a = c.agent ∙ sym (eqb-true a x.served.agent m) in
          let o = replied-out s a n x.served.first k.end c.grant w h k.there c.unclaimed c.grants agent
          (subst (λ i. number_asked (past_of s) i n c.grant.line ≡ Some x.served.first) agent c.asked) y.view in
          own-right s a n x.served.first k.end x.outcome w h k.there o y.view (λ out same written.
          let replied = (replied-on s n k.end c.grant h k.there c.unclaimed c.grants).replied in
          absurd (let no : ⊥ = (let both = sym replied ∙ k.outcome ∙ written in cc) in no))
    ])

after-snoop : (v : BenchView) (hold : Bool) (choice : Choice) → IsBenchOf v → HasBytesOf v
    → AgentsAre (λ a w. OwesBytes (past_of (step_run v hold choice)) (bytes_hit v) w) (step_snooped v hold).agents
after-snoop v hold choice b hb =
    let s = step_run v hold choice in
    let p : Past = past_of s in
    let n = next_clock_of v in
    let entries = step_entries v hold in
    let k = step-with v hold choice b in
    let h = reaches-step v hold choice b in
    let before = step_cancelled v hold in
    let views = views-cancelled v hold choice entries k h in
    let owes = before-snoop v hold choice b hb in
    elim (snoop-cases v hold choice entries k.grows k.bench.requests) [
      | inl c ↦
          let x = hears-snoop v hold choice entries k h c in
          subst (λ o. AgentsAre (λ a w. OwesBytes p (bytes_hit v) w)
          (option_map_or (bus_snooped before) o before).agents)
          (sym x.decided)
          (told-each (λ a w. IsOwing v s n a w) (λ a w. OwesBytes p (bytes_hit v) w)
          (snooped_event x.snooped) before.agents
          (λ a w y. snooped-one v s n a x.snooped w h x.heard y (nat_eq a x.snooped.served.agent) refl)
          (λ a w at. record {
            view = views a w at;
            copies = (cancelled-at v hold a w b hb at).copies;
            owes = owes a w at;
          }))
      | inr g ↦
          subst (λ o. AgentsAre (λ a w. OwesBytes p (bytes_hit v) w)
          (option_map_or (bus_snooped before) o before).agents)
          (sym g.none) owes
    ]

-- before its end the agents of a bench keep and owe the bytes after the hits
pub owes-answered : (v : BenchView) (hold : Bool) (choice : Choice) → IsBenchOf v → HasBytesOf v
    → AgentsAre (λ a w. OwesBytes (past_of (step_run v hold choice)) (bytes_hit v) w) (step_answered v hold).agents
owes-answered v hold choice b h =
    subst (λ agents. AgentsAre (λ a w. OwesBytes (past_of (step_run v hold choice)) (bytes_hit v) w) agents)
    (sym (answered-agents (step_snooped v hold) (next_clock_of v) (answered_by (step_snooped v hold) (step_drive v))))
    (after-snoop v hold choice b h)

-- so what it keeps
pub kept-answered : (v : BenchView) (hold : Bool) (choice : Choice) (a : ℕ) (w : AgentView) → IsBenchOf v → HasBytesOf v
    → slice_get (step_answered v hold).agents a ≡ Some w → HasKept (bytes_hit v) w
kept-answered v hold choice a w b h at =
    let owes = owes-answered v hold choice b h a w at in
    λ k out kept place e. owes.kept out kept (get-among out w.outs k place) e
