-- A line that is given again, by its parts.
use Rattle.std.proofs.Common.{ℕ, ◌<◌, ◌≡◌, Bool, true, false, not, ◌&&◌, nat_lt, Option, Some, None, List}
use Rattle.std.proofs.Common.{refl, sym, ◌∙◌, arith, inl, inr}
use Rattle.std.specs.Option.{option_and_then}
use Rattle.std.proofs.lemmas.Bool.{and_parts, both_ways, cases_Bool, ltb-true}
use Rattle.fsb_count.specs.Clocks.{any_where}
use Rattle.fsb_count.specs.Options.{is_some_and}
use Rattle.fsb_count.proofs.Interface.{any_where-found}
use Rattle.fsb_line.specs.declared.purpose.Purpose.{Purpose}
use Rattle.fsb_line.specs.States.{asks_line}
use Rattle.fsb_trace.specs.At.{Trace}
use Rattle.fsb_trace.specs.Outcome.{is_deferred}
use Rattle.fsb_trace.specs.Requests.{line_of, live_clock_of, live_count}
use Rattle.fsb_trace.specs.Snoop.{snoop_end_of}
use Rattle.fsb_owners.specs.Joint.{Joint}
use Rattle.fsb_owners.specs.Rules.{is_answered_below, is_given_again, is_given_again_to, is_served_or_deferred, of_request}
use Rattle.fsb_owners.specs.Shown.{agent_at, is_spoiled, names, purpose_at}
use Rattle.fsb_owner_laws.proofs.AgreePossible.{some_and}
use Rattle.fsb_owner_laws.proofs.AskedOnce.{not_given}

-- live request j is given the line of live request i
pub record IsGiven (v : Trace) (i j : ℕ) : Type 0 where
  pub deferred : is_deferred v i ≡ true
  pub snoop : ℕ
  pub is_snoop : snoop_end_of v i ≡ Some snoop
  pub late : ℕ
  pub is_late : snoop_end_of v j ≡ Some late
  pub before : snoop < late
  pub unanswered : is_answered_below v i late ≡ false
  pub first : ℕ
  pub is_first : live_clock_of v i ≡ Some first
  pub second : ℕ
  pub is_second : live_clock_of v j ≡ Some second
  pub line : ℕ
  pub named : names v line first ≡ true
  pub sound : is_spoiled v line ≡ false
  pub agent : ℕ
  pub is_agent : agent_at v first ≡ Some agent
  pub named_too : names v line second ≡ true
  pub kind : Purpose
  pub is_kind : purpose_at v second ≡ Some kind
  pub asks : asks_line kind ≡ true
  pub served : is_served_or_deferred v j ≡ true

not_true : (b : Bool) → not b ≡ true → b ≡ false
not_true b e = grind arith

some_kind : (o : Option Purpose) (test : Purpose → Bool) → is_some_and o test ≡ true → (k : Purpose) × (o ≡ Some k) × (test k ≡ true)
unfolding is_some_and
some_kind None test t = absurd (let no : ⊥ = cc in no)
some_kind (Some k) test t = (k, refl, t)

some_clock : (v : Trace) (o : Option ℕ) (k : Purpose) → option_and_then (purpose_at v) o ≡ Some k
    → (p : ℕ) × (o ≡ Some p) × (purpose_at v p ≡ Some k)
some_clock v None k e = absurd (let no : ⊥ = cc in no)
some_clock v (Some p) k e = (p, refl, e)

-- the line of the first request
record NamesBoth (v : Trace) (q p : ℕ) : Type 0 where
  line : ℕ
  named : names v line q ≡ true
  sound : is_spoiled v line ≡ false
  agent : ℕ
  is_agent : agent_at v q ≡ Some agent
  named_too : names v line p ≡ true

named_both : (v : Trace) (q p : ℕ) → of_request v q (λ line a. names v line p) ≡ true → NamesBoth v q p
unfolding of_request
named_both v q p t =
    let l = some_and (line_of v q) (λ line. names v line q && not (is_spoiled v line) && is_some_and (agent_at v q) (λ a. names v line p)) t in
    let a = and_parts (names v l.0 q && not (is_spoiled v l.0)) (is_some_and (agent_at v q) (λ a. names v l.0 p)) l.2 in
    let b = and_parts (names v l.0 q) (not (is_spoiled v l.0)) a.0 in
    let g = some_and (agent_at v q) (λ a. names v l.0 p) a.1 in
    record { line = l.0; named = b.0; sound = not_true _ b.1; agent = g.0; is_agent = g.1; named_too = g.2 }

with_second : (v : Trace) (j p : ℕ) (q : ℕ) → live_clock_of v j ≡ Some p
    → of_request v q (λ line a. is_some_and (live_clock_of v j) (names v line)) ≡ of_request v q (λ line a. names v line p)
unfolding is_some_and
with_second v j p q e = rw e refl

pub given_parts : (v : Trace) (i j : ℕ) → is_deferred v i ≡ true → is_given_again_to v i j ≡ true → IsGiven v i j
unfolding is_given_again_to
given_parts v i j d t =
    let a = and_parts _ (is_served_or_deferred v j) t in
    let b = and_parts _ (is_some_and (option_and_then (purpose_at v) (live_clock_of v j)) asks_line) a.0 in
    let c = and_parts
    (is_some_and (snoop_end_of v i) (λ t. is_some_and (snoop_end_of v j) (λ s. nat_lt t s && not (is_answered_below v i s))))
    (is_some_and (live_clock_of v i) (λ q. of_request v q (λ line a. is_some_and (live_clock_of v j) (names v line)))) b.0 in
    let k = some_kind (option_and_then (purpose_at v) (live_clock_of v j)) asks_line b.1 in
    let p = some_clock v (live_clock_of v j) k.0 k.1 in
    let q = some_and (live_clock_of v i) (λ q. of_request v q (λ line a. is_some_and (live_clock_of v j) (names v line))) c.1 in
    let n = named_both v q.0 p.0 (sym (with_second v j p.0 q.0 p.1) ∙ q.2) in
    let s = some_and (snoop_end_of v i) (λ t. is_some_and (snoop_end_of v j) (λ s. nat_lt t s && not (is_answered_below v i s))) c.0 in
    let e = some_and (snoop_end_of v j) (λ l. nat_lt s.0 l && not (is_answered_below v i l)) s.2 in
    let o = and_parts (nat_lt s.0 e.0) (not (is_answered_below v i e.0)) e.2 in
    record {
      deferred = d;
      snoop = s.0;
      is_snoop = s.1;
      late = e.0;
      is_late = e.1;
      before = ltb-true _ _ o.0;
      unanswered = not_true _ o.1;
      first = q.0;
      is_first = q.1;
      second = p.0;
      is_second = p.1;
      line = n.line;
      named = n.named;
      sound = n.sound;
      agent = n.agent;
      is_agent = n.is_agent;
      named_too = n.named_too;
      kind = k.0;
      is_kind = p.2;
      asks = k.2;
      served = a.1;
    }

pub given_from : (first : List Joint) (v : Trace) (c i j : ℕ) → IsGiven v i j → is_given_again first v c ≡ true
given_from first v c i j g =
    elim (cases_Bool (is_given_again first v c)) [
      | inl t ↦ t
      | inr f ↦ absurd (both_ways _
          (not_given first v g.line c i j g.first g.second g.agent g.snoop g.late g.kind f g.deferred g.is_snoop g.is_late g.before
          g.unanswered g.is_first g.named g.sound g.is_agent g.is_second g.named_too g.is_kind g.asks) g.served)
    ]

pub given_found : (first : List Joint) (v : Trace) (c : ℕ) → is_given_again first v c ≡ true
    → (i : ℕ) × (j : ℕ) × (is_deferred v i ≡ true) × (is_given_again_to v i j ≡ true)
unfolding is_given_again
given_found first v c t =
    let o = any_where-found (λ i. is_deferred v i && any_where (is_given_again_to v i) (live_count v)) (live_count v) t in
    let a = and_parts (is_deferred v o.0) (any_where (is_given_again_to v o.0) (live_count v)) o.2 in
    let b = any_where-found (is_given_again_to v o.0) (live_count v) a.1 in
    (o.0, b.0, a.0, b.2)
