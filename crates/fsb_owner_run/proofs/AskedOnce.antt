-- Rule 21: an agent of a timely run does not ask again for a line before its request for it is answered.
use Rattle.std.proofs.Common.{ℕ, ◌+◌, ◌-◌, ◌≤◌, ◌≡◌, Bool, true, false, ◌&&◌, not, List, Some}
use Rattle.std.proofs.Common.{subst, arith}
use Rattle.std.proofs.lemmas.Bool.{and_parts, both_ways, false_from_ne_true}
use Rattle.fsb_count.specs.Options.{is_some_and}
use Rattle.fsb_count.proofs.Interface.{any_where-found}
use Rattle.fsb_lawful.proofs.Interface.{some-and}
use Rattle.fsb_signal.specs.declared.lines.TheConstants.Lines.{ADS}
use Rattle.fsb_trace.specs.At.{Trace, line_back}
use Rattle.fsb_trace.specs.Flight.{is_outstanding}
use Rattle.fsb_trace.specs.Requests.{line_of}
use Rattle.fsb_timely.specs.Runs.{Run, past_of}
use Rattle.fsb_timely.specs.Wants.{is_asked_for, owed}
use Rattle.fsb_timely.proofs.Interface.{want_of-new}
use Rattle.fsb_tied.proofs.Interface.{begun-want}
use Rattle.fsb_run_laws.specs.Reaches.{Reaches}
use Rattle.fsb_owners.specs.Joint.{Joint}
use Rattle.fsb_owners.specs.Rules.{at_decoding, is_asked_twice, of_request}
use Rattle.fsb_owners.specs.Shown.{agent_at, asks, is_spoiled, is_still_asking, names}
use Rattle.fsb_owner_run.proofs.Claims.{shown-begun, shown-owed}

-- the request that begins at c - 1, its line and its agent
pub record IsDecoded (v : Trace) (q : ℕ) (test : ℕ → ℕ → Bool) : Type 0 where
  pub line : ℕ
  pub names_line : names v line q ≡ true
  pub agent : ℕ
  pub is_agent : agent_at v q ≡ Some agent
  pub passes : test line agent ≡ true

pub request-parts : (v : Trace) (q : ℕ) (test : ℕ → ℕ → Bool) → of_request v q test ≡ true → IsDecoded v q test
unfolding of_request
request-parts v q test e =
    let l = some-and (line_of v q) (λ line. names v line q && not (is_spoiled v line)
    && is_some_and (agent_at v q) (λ a. test line a)) e in
    let p = and_parts (names v l.0 q && not (is_spoiled v l.0)) (is_some_and (agent_at v q) (λ a. test l.0 a)) l.2 in
    let n = and_parts (names v l.0 q) (not (is_spoiled v l.0)) p.0 in
    let a = some-and (agent_at v q) (λ a. test l.0 a) p.1 in
    record { line = l.0; names_line = n.0; agent = a.0; is_agent = a.1; passes = a.2 }

pub decoding-parts : (v : Trace) (c : ℕ) (test : ℕ → ℕ → ℕ → Bool) → at_decoding v c test ≡ true
    → (1 ≤ c) × IsDecoded v (c - 1) (test (c - 1))
unfolding at_decoding line_back
decoding-parts v c test e =
    let p = and_parts (line_back ADS v c 1) (of_request v (c - 1) (test (c - 1))) e in
    (back p.0, request-parts v (c - 1) (test (c - 1)) p.1)
  where
    back : line_back ADS v c 1 ≡ true → 1 ≤ c
    back t = grind arith

-- what an agent begins to ask it does not owe
pub asked-once : (r : Run) (line a q : ℕ) → Reaches r (q + 1) → names r.trace line q ≡ true
    → agent_at r.trace q ≡ Some a → is_still_asking r.trace line a q ≡ false
unfolding is_still_asking
asked-once r line a q h n e =
    let long = h.long in
    let begun = shown-begun r line a q n e in
    let k = begun-want r q (record { first = q; agent = a; line = line }) h.timely h.bounds begun.0 begun.1 in
    let new = want_of-new (past_of r) a q k.request k.want in
    let fresh = subst (λ x. is_asked_for (owed (past_of r) a q) x ≡ false) k.line new in
    false_from_ne_true _ (λ t.
    let f = any_where-found (λ q'. asks r.trace line a q' && is_outstanding r.trace q q') q t in
    let both = and_parts (asks r.trace line a f.0) (is_outstanding r.trace q f.0) f.2 in
    let shorter : Reaches r q = record { timely = h.timely; bounds = h.bounds; long = omega arith } in
    both_ways (is_asked_for (owed (past_of r) a q) line) fresh (shown-owed r line a q f.0 shorter both.0 both.1))

pub never-twice : (first : List Joint) (r : Run) (c : ℕ) → Reaches r (c + 1) → is_asked_twice first r.trace c ≡ false
unfolding is_asked_twice
never-twice first r c h =
    let long = h.long in
    false_from_ne_true _ (λ t.
    let k = decoding-parts r.trace c (λ q line a. is_still_asking r.trace line a q) t in
    let d = k.1 in
    let below = k.0 in
    let reaches : Reaches r (c - 1 + 1) = record { timely = h.timely; bounds = h.bounds; long = omega arith } in
    both_ways (is_still_asking r.trace d.line d.agent (c - 1))
    (asked-once r d.line d.agent (c - 1) reaches d.names_line d.is_agent) d.passes)
