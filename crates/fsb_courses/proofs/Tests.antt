-- The tests of the rules of ownership, taken apart.
use Rattle.std.proofs.Common.{ℕ, ◌-◌, ◌≤◌, ◌≡◌, Bool, true, false, ◌&&◌, not, nat_le, List, Option, Some, None}
use Rattle.std.proofs.Common.{refl, sym, ap, ◌∙◌}
use Rattle.std.specs.Option.{option_and_then}
use Rattle.std.proofs.lemmas.Bool.{and_from, and_parts, leb-true, not-true}
use Rattle.fsb_count.specs.Options.{is_at, is_some_and}
use Rattle.fsb_count.proofs.Interface.{is_at-from, is_at-some}
use Rattle.fsb_signal.specs.declared.lines.TheConstants.Lines.{ADS}
use Rattle.fsb_signal.specs.Samples.{line_at}
use Rattle.fsb_line.specs.declared.purpose.Purpose.{Purpose}
use Rattle.fsb_line.specs.declared.purpose.Purpose.TheVariants.{Own, Read, Upgrade, WriteBack}
use Rattle.fsb_trace.specs.At.{Trace, line_back}
use Rattle.fsb_trace.specs.Requests.{line_of}
use Rattle.fsb_owners.specs.Joint.{Joint}
use Rattle.fsb_owners.specs.Possible.{possible, possible_begun, possible_shown}
use Rattle.fsb_owners.specs.Rules.{at_decoding, is_answer_unfit, is_begun_unfit, is_none_left, is_write_back_purpose, of_answer}
use Rattle.fsb_owners.specs.Rules.{of_request}
use Rattle.fsb_owners.specs.Shown.{agent_at, asks, is_spoiled, names, origin_clock_of, purpose_at, snooped_at}
use Rattle.fsb_owner_laws.proofs.AgreePossible.{some_and}

-- a request by its agent
pub asks_from : (v : Trace) (line a q : ℕ) → names v line q ≡ true → agent_at v q ≡ Some a → asks v line a q ≡ true
unfolding asks
asks_from v line a q n e = and_from (names v line q) (is_at (agent_at v q) a) n (is_at-from (agent_at v q) a e)

pub asks_out : (v : Trace) (line a q : ℕ) → asks v line a q ≡ true → (names v line q ≡ true) × (agent_at v q ≡ Some a)
unfolding asks
asks_out v line a q t =
    let p = and_parts (names v line q) (is_at (agent_at v q) a) t in (p.0, is_at-some (agent_at v q) a p.1)

-- the request that begins at q passes the test
pub record IsOfRequest (v : Trace) (q : ℕ) (test : ℕ → ℕ → Bool) : Type 0 where
  pub line : ℕ
  pub named : names v line q ≡ true
  pub sound : is_spoiled v line ≡ false
  pub agent : ℕ
  pub is_agent : agent_at v q ≡ Some agent
  pub passes : test line agent ≡ true

pub of_request_out : (v : Trace) (q : ℕ) (test : ℕ → ℕ → Bool) → of_request v q test ≡ true → IsOfRequest v q test
unfolding of_request
of_request_out v q test t =
    let l = some_and (line_of v q) (λ line. names v line q && not (is_spoiled v line) && is_some_and (agent_at v q) (λ a. test line a)) t in
    let p = and_parts (names v l.0 q && not (is_spoiled v l.0)) (is_some_and (agent_at v q) (λ a. test l.0 a)) l.2 in
    let r = and_parts (names v l.0 q) (not (is_spoiled v l.0)) p.0 in
    let a = some_and (agent_at v q) (λ a. test l.0 a) p.1 in
    record {
      line = l.0;
      named = r.0;
      sound = not-true (is_spoiled v l.0) r.1;
      agent = a.0;
      is_agent = a.1;
      passes = a.2;
    }

pub decoding_out : (v : Trace) (c : ℕ) (test : ℕ → ℕ → ℕ → Bool) → at_decoding v c test ≡ true
    → (1 ≤ c) × IsOfRequest v (c - 1) (test (c - 1))
unfolding at_decoding line_back
decoding_out v c test t =
    let p = and_parts (nat_le 1 c && line_at ADS v (c - 1)) (of_request v (c - 1) (test (c - 1))) t in
    let r = and_parts (nat_le 1 c) (line_at ADS v (c - 1)) p.0 in
    (leb-true 1 c r.0, of_request_out v (c - 1) (test (c - 1)) p.1)

-- a request that no joint state fits
pub unfit_out : (first : List Joint) (is_kind : Purpose → Bool) (v : Trace) (q line : ℕ)
    → is_begun_unfit first is_kind v q line ≡ true → is_none_left (possible_begun first v line q) ≡ true
unfolding is_begun_unfit
unfit_out first is_kind v q line t =
    (and_parts (is_some_and (purpose_at v q) is_kind && not (is_none_left (possible first v line q)))
    (is_none_left (possible_begun first v line q)) t).1

-- its kind
kind_and : (o : Option Purpose) (test : Purpose → Bool) → is_some_and o test ≡ true
    → (kind : Purpose) × (o ≡ Some kind) × (test kind ≡ true)
unfolding is_some_and
kind_and None test t = absurd (let no : ⊥ = cc in no)
kind_and (Some kind) test t = (kind, refl, t)

written : (kind : Purpose) → is_write_back_purpose kind ≡ true → kind ≡ WriteBack
unfolding is_write_back_purpose
written Read t = absurd (let no : ⊥ = cc in no)
written Own t = absurd (let no : ⊥ = cc in no)
written Upgrade t = absurd (let no : ⊥ = cc in no)
written WriteBack t = refl

pub write_back_out : (o : Option Purpose) → is_some_and o is_write_back_purpose ≡ true → o ≡ Some WriteBack
write_back_out o t =
    let k = kind_and o is_write_back_purpose t in k.1 ∙ ap (λ kind. Some kind) (written k.0 k.2)

pub kind_of_clock : (v : Trace) (test : Purpose → Bool) (o : Option ℕ) (q : ℕ) → o ≡ Some q
    → is_some_and (option_and_then (purpose_at v) o) test ≡ true
    → (kind : Purpose) × (purpose_at v q ≡ Some kind) × (test kind ≡ true)
kind_of_clock v test o q e t =
    kind_and (purpose_at v q) test (ap (λ p. is_some_and (option_and_then (purpose_at v) p) test) (sym e) ∙ t)

-- a snoop end that no joint state fits
pub answer_unfit : (first : List Joint) (v : Trace) (s : ℕ) (test : ℕ → ℕ → ℕ → Bool) → of_answer first v s test ≡ true
    → (line : ℕ) × (is_spoiled v line ≡ false) × (is_none_left (possible_shown first v line s) ≡ true)
unfolding of_answer is_answer_unfit
answer_unfit first v s test t =
    let j = some_and (snooped_at v s) (λ j. is_some_and (origin_clock_of v j) (λ q. of_request v q (λ line a.
    not (is_none_left (possible_begun first v line s)) && is_none_left (possible_shown first v line s) && test j line a))) t in
    let q = some_and (origin_clock_of v j.0) (λ q. of_request v q (λ line a.
    not (is_none_left (possible_begun first v line s)) && is_none_left (possible_shown first v line s) && test j.0 line a)) j.2 in
    let r = of_request_out v q.0 (λ line a.
    not (is_none_left (possible_begun first v line s)) && is_none_left (possible_shown first v line s) && test j.0 line a) q.2 in
    let p = and_parts (not (is_none_left (possible_begun first v r.line s)) && is_none_left (possible_shown first v r.line s))
    (test j.0 r.line r.agent) r.passes in
    (r.line, r.sound, (and_parts (not (is_none_left (possible_begun first v r.line s))) (is_none_left (possible_shown first v r.line s)) p.0).1)
