-- Rule 22: an owner writes a line back, and in its turn.
use Rattle.std.proofs.Common.{ℕ, ◌+◌, ◌<◌, ◌≡◌, Bool, true, false, ◌&&◌, ◌||◌, not, Option, Some, None, List}
use Rattle.std.proofs.Common.{refl, ap, subst, ◌∙◌, arith}
use Rattle.std.proofs.lemmas.Bool.{and_from, and_parts, both_ways, eqb-true, false_from_ne_true, lt-ltb}
use Rattle.std.proofs.lemmas.Bool.{not-true}
use Rattle.fsb_count.specs.Clocks.{any_where}
use Rattle.fsb_count.specs.Options.{is_at, is_before, is_some_and}
use Rattle.fsb_count.proofs.Interface.{any_where-at, any_where-found, is_at-from, is_at-some, is_before-from}
use Rattle.fsb_lawful.proofs.Interface.{some-and}
use Rattle.fsb_line.specs.declared.purpose.Purpose.{Purpose}
use Rattle.fsb_line.specs.declared.purpose.Purpose.TheVariants.{Own, Read, Upgrade, WriteBack}
use Rattle.fsb_line.specs.Line.{OpenRequest}
use Rattle.fsb_signal.specs.declared.lines.TheConstants.Lines.{AERR}
use Rattle.fsb_signal.specs.Samples.{line_at}
use Rattle.fsb_trace.specs.declared.who.Who.{Who}
use Rattle.fsb_trace.specs.declared.who.Who.TheVariants.{Priority, Symmetric}
use Rattle.fsb_trace.specs.At.{Trace}
use Rattle.fsb_trace.specs.Flight.{has_ended, is_dropped, is_in_flight}
use Rattle.fsb_trace.specs.Requests.{is_cancelled, line_of, live_clock_of, live_count}
use Rattle.fsb_trace.specs.Snoop.{snoop_end_of}
use Rattle.fsb_trace.specs.Winner.{symmetric_after, winner_at}
use Rattle.fsb_trace.proofs.Interface.{live_below_count}
use Rattle.fsb_timely.specs.Past.{Claim}
use Rattle.fsb_timely.specs.Grants.{snooped_at}
use Rattle.fsb_timely.specs.Moments.{is_snoop_of}
use Rattle.fsb_timely.specs.Runs.{Run, past_of}
use Rattle.fsb_timely.proofs.Interface.{tied-snoop}
use Rattle.fsb_coherent.specs.Awaits.{cancelled_in}
use Rattle.fsb_coherent.specs.Relation.{IsOpen, is_cancelled_below, is_snooped_below}
use Rattle.fsb_tied.proofs.Interface.{begun-want, cancels}
use Rattle.fsb_tied.proofs.SnoopOpen.{wanted-then}
use Rattle.fsb_run_laws.specs.Reaches.{Reaches}
use Rattle.std.specs.List.{Contains}
use Rattle.fsb_owners.specs.Joint.{Joint, unheld}
use Rattle.fsb_owners.specs.Rules.{is_begun_unfit, is_write_back_purpose, is_write_back_unfit}
use Rattle.fsb_owners.specs.Shown.{agent_at, is_held_back, is_open_at, names, purpose_at}
use Rattle.fsb_owner_laws.proofs.BrokenRules.{named}
use Rattle.fsb_owner_run.proofs.Begun.{asked-as}
use Rattle.fsb_owner_run.proofs.Claims.{shown-begun}
use Rattle.fsb_owner_run.proofs.Unbroken.{begun-fit, no-decoding}

-- a request that names a line is a symmetric agent's
agent-by : (w : Trace) (q line : ℕ) (o : Option Who) → winner_at w q ≡ o → line_of w q ≡ Some line
    → (a : ℕ) × (agent_at w q ≡ Some a)
unfolding line_of agent_at symmetric_after
agent-by w q line None e f = absurd (let f' = rw (e, line_of) at f in let no : ⊥ = cc in no)
agent-by w q line (Some (Symmetric a)) e f = (a, rw e refl)
agent-by w q line (Some Priority) e f = absurd (let f' = rw (e, line_of) at f in let no : ⊥ = cc in no)

pub agent-there : (w : Trace) (q line : ℕ) → names w line q ≡ true → (a : ℕ) × (agent_at w q ≡ Some a)
agent-there w q line n = agent-by w q line (winner_at w q) refl (named w line q n).1

-- what the wires show of a request that is open
record IsShownOpen (w : Trace) (c q : ℕ) : Type 0 where
  pub kept : is_dropped w c q ≡ false
  pub unsnooped : (j t : ℕ) → live_clock_of w j ≡ Some q → snoop_end_of w j ≡ Some t → t < c → ⊥

open-parts : (w : Trace) (c q : ℕ) → is_open_at w c q ≡ true → IsShownOpen w c q
unfolding is_open_at is_in_flight
open-parts w c q e =
    let snooped : ℕ → Bool = λ j. is_at (live_clock_of w j) q && is_before (snoop_end_of w j) c in
    let p = and_parts _ (not (any_where snooped (live_count w))) e in
    let f = and_parts _ (not (has_ended w c q)) p.0 in
    let d = and_parts _ (not (is_dropped w c q)) f.0 in
    record {
      kept = not-true _ d.1;
      unsnooped = λ j t clock end below.
          both_ways (any_where snooped (live_count w)) (not-true _ p.1)
          (any_where-at snooped (live_count w) j (live_below_count w j q clock)
          (and_from _ _ (is_at-from (live_clock_of w j) q clock) (is_before-from (snoop_end_of w j) t c end below)));
    }

-- it is open in the run
open-there : (r : Run) (line b n q : ℕ) → Reaches r (n + 1) → q < n → names r.trace line q ≡ true
    → agent_at r.trace q ≡ Some b → is_open_at r.trace n q ≡ true
    → (request : OpenRequest) × IsOpen (past_of r) b line n request
unfolding is_cancelled_below is_snooped_below is_dropped is_cancelled is_snoop_of
open-there r line b n q h below shown agent opened =
    let p = past_of r in
    let w = r.trace in
    let long = h.long in
    let claim : Claim = record { first = q; agent = b; line = line } in
    let begun = shown-begun r line b q shown agent in
    let k = begun-want r q claim h.timely h.bounds begun.0 begun.1 in
    let wanted = wanted-then r q claim k in
    let o = open-parts w n q opened in (
      record { kind = wanted.0; number = q },
      record {
        before = below;
        begun = begun.1;
        wanted = wanted.2;
        uncancelled = false_from_ne_true _ (λ t.
            let f = any_where-found (λ t. is_at (cancelled_in p t) q) n t in
            let early : f.0 < n = f.1 in
            let c = cancels r f.0 q (omega arith) (is_at-some (cancelled_in p f.0) q f.2) in
            let error = subst (λ x. line_at AERR w x ≡ true) c.0 c.1 in
            let at : f.0 ≡ q + 3 = c.0 in
            both_ways (is_dropped w n q) o.kept (and_from _ _ error (lt-ltb (q + 3) n (omega arith))));
        unsnooped = false_from_ne_true _ (λ t.
            let f = any_where-found (λ t. is_some_and (snooped_at p t) (is_snoop_of q)) n t in
            let s = some-and (snooped_at p f.0) (is_snoop_of q) f.2 in
            let tied = tied-snoop r f.0 s.0 s.1 in
            let first = eqb-true s.0.first q s.2 in
            o.unsnooped tied.0 f.0 (tied.1.first ∙ ap (λ x. Some x) first) tied.1.reached f.1);
      },
    )

-- a write-back begins where no other agent's request for the line is open
never-held-back : (r : Run) (line a q : ℕ) → Reaches r (q + 1) → names r.trace line q ≡ true → agent_at r.trace q ≡ Some a
    → purpose_at r.trace q ≡ Some WriteBack → is_held_back r.trace line a q ≡ false
unfolding is_held_back
never-held-back r line a q h shown agent purpose =
    let w = r.trace in
    let k = asked-as r line q a WriteBack h shown agent purpose in
    false_from_ne_true _ (λ t.
    let f = any_where-found (λ q'. names w line q' && not (is_at (agent_at w q') a) && is_open_at w q q') q t in
    let o = and_parts _ (is_open_at w q f.0) f.2 in
    let n = and_parts (names w line f.0) (not (is_at (agent_at w f.0) a)) o.0 in
    let b = agent-there w f.0 line n.0 in
    let x = open-there r line b.0 q f.0 h f.1 n.0 b.1 o.1 in
    let same = k.rightly.not_held_off k.same_kind b.0 x.0 x.1 in
    both_ways (is_at (agent_at w f.0) a) (not-true _ n.1)
    (is_at-from (agent_at w f.0) a (b.1 ∙ ap (λ y. Some y) same)))

write-back-is : (kind : Purpose) → is_write_back_purpose kind ≡ true → kind ≡ WriteBack
unfolding is_write_back_purpose
write-back-is WriteBack e = refl
write-back-is Read e = absurd (let no : ⊥ = cc in no)
write-back-is Own e = absurd (let no : ⊥ = cc in no)
write-back-is Upgrade e = absurd (let no : ⊥ = cc in no)

both-off : (a b c : Bool) → (a ≡ true → b ≡ false) → (a ≡ true → c ≡ false) → (a && (b || c)) ≡ false
both-off true b c f g = rw (f refl, g refl) refl
both-off false b c f g = refl

pub write-backs-fit : (first : List Joint) (r : Run) (c : ℕ) → Contains first unheld → Reaches r (c + 1) → is_write_back_unfit first r.trace c ≡ false
unfolding is_write_back_unfit
write-backs-fit first r c empty h =
    let w = r.trace in
    no-decoding r c (λ q line a. is_some_and (purpose_at w q) is_write_back_purpose
    && (is_begun_unfit first is_write_back_purpose w q line || is_held_back w line a q)) h (λ q line a same shown agent.
    let long = h.long in
    let before : Reaches r (q + 1) = record { timely = h.timely; bounds = h.bounds; long = omega arith } in
    both-off (is_some_and (purpose_at w q) is_write_back_purpose) (is_begun_unfit first is_write_back_purpose w q line)
    (is_held_back w line a q) (λ t. begun-fit first r line q is_write_back_purpose empty before) (λ t.
    let kind = some-and (purpose_at w q) is_write_back_purpose t in
    never-held-back r line a q before shown agent
    (kind.1 ∙ ap (λ x. Some x) (write-back-is kind.0 kind.2))))
