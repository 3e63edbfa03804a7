-- What an agent of a timely run asks suits what it has: the joint state of the run is left by each request that begins.
use Rattle.std.proofs.Common.{ℕ, ◌+◌, ◌<◌, ◌≡◌, Bool, true, not, length, List, Option, Some}
use Rattle.std.proofs.Common.{refl, sym, ap, subst, ◌∙◌, arith}
use Rattle.std.specs.List.{Contains}
use Rattle.std.specs.Option.{option_and_then}
use Rattle.std.proofs.lemmas.Bool.{and_from}
use Rattle.fsb_encode.specs.declared.request.Kind.{Kind}
use Rattle.fsb_encode.specs.declared.request.Kind.TheVariants as kinds
use Rattle.fsb_encode.specs.declared.request.Request.{Request}
use Rattle.fsb_line.specs.declared.purpose.Purpose.{Purpose}
use Rattle.fsb_line.specs.declared.purpose.Purpose.TheVariants.{Own, Read, Upgrade, WriteBack}
use Rattle.fsb_timely.specs.Past.{Claim, Owing, Past}
use Rattle.fsb_timely.specs.Grants.{begun_at, holds_line}
use Rattle.fsb_timely.specs.Hits.{line_state_of}
use Rattle.fsb_timely.specs.Runs.{Run, past_of}
use Rattle.fsb_timely.specs.Scripts.{Need}
use Rattle.fsb_timely.specs.Wants.{kind_needed, may_upgrade, request_of_kind, victim_of, want_for, want_of}
use Rattle.fsb_timely.specs.Wants.{write_back_of}
use Rattle.fsb_coherent.specs.Awaits as awaits
use Rattle.fsb_coherent.specs.Awaits.{purpose_wanted}
use Rattle.fsb_coherent.specs.Facts.{IsBegunRightly, suits_holder}
use Rattle.fsb_tied.proofs.Interface.{begun-shown, begun-want, clock-facts}
use Rattle.fsb_tied.proofs.Beginnings.{IsBegunWant}
use Rattle.fsb_run_laws.specs.Reaches.{Reaches}
use Rattle.fsb_owners.specs.Joint.{Joint}
use Rattle.fsb_owners.specs.Possible.{after_begin, asking, may_ask}
use Rattle.fsb_owners.specs.Shown.{agent_at, names, purpose_at}
use Rattle.fsb_owner_laws.proofs.Emptied.{agent_four}
use Rattle.fsb_owner_run.proofs.Claims.{asks-purpose, purpose-decoded, shown-begun}
use Rattle.fsb_owner_run.proofs.Sets.{asking_in, at_agent, if_in}
use Rattle.fsb_owner_run.proofs.States.{joint_at, run-coherent, state-held, state-modified, state-sole}

-- an upgrade is wanted by an agent that holds the line
needed-held : (p : Past) (a c : ℕ) (need : Need) (owings : List Owing) (alone up : Bool) (o : Option ℕ) → need.alone ≡ alone
    → may_upgrade p a c need.line ≡ up → victim_of p a c need.line ≡ o
    → (want_for p a c owings need).kind ≡ kinds.Upgrade → holds_line p a (want_for p a c owings need).line c ≡ true
unfolding want_for request_of_kind write_back_of kind_needed may_upgrade
needed-held p a c need owings alone up o h1 h2 h3 h4 = grind arith

upgrade-held : (p : Past) (a c : ℕ) (request : Request) → want_of p a c ≡ Some request → request.kind ≡ kinds.Upgrade
    → holds_line p a request.line c ≡ true
unfolding want_of
upgrade-held p a c request e k = grind (arith, needed-held)

kind-of-upgrade : (kind : Kind) → awaits.purpose_of kind ≡ Some Upgrade → kind ≡ kinds.Upgrade
unfolding awaits.purpose_of
kind-of-upgrade kind h1 = grind arith

-- what suits the holder may be asked in its state
may-ask-as : (p : Past) (a line n : ℕ) (kind : Purpose) → suits_holder p a line n kind ≡ true
    → (kind ≡ Upgrade → holds_line p a line n ≡ true) → may_ask kind (line_state_of p a line n) ≡ true
unfolding suits_holder may_ask
may-ask-as p a line n Read e h = ap not (state-held p a line n) ∙ e
may-ask-as p a line n Own e h = ap not (state-sole p a line n) ∙ e
may-ask-as p a line n Upgrade e h =
    and_from _ _ (ap not (state-sole p a line n) ∙ e) (state-held p a line n ∙ h refl)
may-ask-as p a line n WriteBack e h = state-modified p a line n ∙ e

-- a request that begins at n, once it is decoded, and what is known of it
pub record IsAsked (r : Run) (line n a : ℕ) (kind : Purpose) : Type 0 where
  pub within : n + 1 < length r.trace
  pub begun : begun_at (past_of r) n ≡ Some (record { first = n; agent = a; line = line })
  pub want : IsBegunWant r n (record { first = n; agent = a; line = line })
  pub rightly : IsBegunRightly (past_of r) line n a
  pub same_kind : rightly.kind ≡ kind
  pub asked_kind : awaits.purpose_of want.request.kind ≡ Some kind

pub asked-as : (r : Run) (line n a : ℕ) (kind : Purpose) → Reaches r (n + 1) → names r.trace line n ≡ true
    → agent_at r.trace n ≡ Some a → purpose_at r.trace n ≡ Some kind → IsAsked r line n a kind
unfolding purpose_wanted
asked-as r line n a kind h shown agent purpose =
    let long = h.long in
    let claim : Claim = record { first = n; agent = a; line = line } in
    let begun = shown-begun r line a n shown agent in
    let within = purpose-decoded r.trace n kind purpose in
    let k = begun-want r n claim h.timely h.bounds begun.0 begun.1 in
    let rightly = (clock-facts r line n h.timely h.bounds (omega arith)).begins.begun claim begun.1 refl in
    let decoded = begun-shown r n claim h.timely h.bounds (omega arith) k in
    let asked = sym (asks-purpose r.trace n k.request decoded) ∙ purpose in
    let wanted : Some rightly.kind ≡ Some kind =
    sym rightly.wanted ∙ ap (option_and_then (λ request. awaits.purpose_of request.kind)) k.want ∙ asked in
    record {
      within = within;
      begun = begun.1;
      want = k;
      rightly = rightly;
      same_kind = (let w = wanted in cc);
      asked_kind = asked;
    }

pub may-ask : (r : Run) (line n a : ℕ) (kind : Purpose) → IsAsked r line n a kind
    → may_ask kind (line_state_of (past_of r) a line n) ≡ true
may-ask r line n a kind k =
    let p = past_of r in
    may-ask-as p a line n kind (ap (suits_holder p a line n) (sym k.same_kind) ∙ k.rightly.suited)
    (λ e. let asked = k.asked_kind ∙ ap (λ x. Some x) e in
    subst (λ x. holds_line p a x n ≡ true) k.want.line
    (upgrade-held p a n k.want.request k.want.want (kind-of-upgrade k.want.request.kind asked)))

-- so the joint state of the run is left
pub begin-leaves : (r : Run) (line n : ℕ) (set : List Joint) → Reaches r (n + 1)
    → Contains set (joint_at (past_of r) line n) → Contains (after_begin r.trace line n set) (joint_at (past_of r) line n)
unfolding after_begin
begin-leaves r line n set h c =
    let p = past_of r in
    let w = r.trace in
    let long = h.long in
    let x = joint_at p line n in
    let e = run-coherent r line n h.timely h.bounds (omega arith) in
    if_in (names w line n) (asking (agent_at w n) (purpose_at w n) set) set x
    (λ shown. asking_in (agent_at w n) (purpose_at w n) set x e c (λ a kind agent purpose.
    ap (may_ask kind) (at_agent (λ b. line_state_of p b line n) a (agent_four w n a agent))
    ∙ may-ask r line n a kind (asked-as r line n a kind h shown agent purpose)))
    (λ off. c)

-- what a request asks that the wires show, once it is decoded
pub purpose-there : (r : Run) (line a q : ℕ) → Reaches r (q + 2) → names r.trace line q ≡ true
    → agent_at r.trace q ≡ Some a → (kind : Purpose) × (purpose_at r.trace q ≡ Some kind)
unfolding purpose_wanted
purpose-there r line a q h shown agent =
    let long = h.long in
    let claim : Claim = record { first = q; agent = a; line = line } in
    let begun = shown-begun r line a q shown agent in
    let k = begun-want r q claim h.timely h.bounds begun.0 begun.1 in
    let rightly = (clock-facts r line q h.timely h.bounds begun.0).begins.begun claim begun.1 refl in
    let decoded = begun-shown r q claim h.timely h.bounds (omega arith) k in (
      rightly.kind,
      asks-purpose r.trace q k.request decoded
          ∙ sym (ap (option_and_then (λ request. awaits.purpose_of request.kind)) k.want) ∙ rightly.wanted,
    )
