-- What the wires show of a request that begins, and what the run says of it.
use Rattle.std.proofs.Common.{ℕ, ◌+◌, ◌<◌, ◌≡◌, Bool, true, false, ◌&&◌, not, nat_eq, length, Option, Some, None}
use Rattle.std.proofs.Common.{refl, sym, ap, ◌∙◌, arith, inl, inr}
use Rattle.std.specs.List.{filter, list_any}
use Rattle.std.specs.Option.{option_and_then}
use Rattle.std.proofs.lemmas.Bool.{and_from, and_parts, cases_lt, eq-eqb}
use Rattle.fsb_count.specs.Options.{is_at, is_some_and}
use Rattle.fsb_count.proofs.Interface.{is_at-from, is_at-some}
use Rattle.fsb_encode.specs.declared.request.Kind.{Kind}
use Rattle.fsb_encode.specs.declared.request.Kind.TheVariants as kinds
use Rattle.fsb_encode.specs.declared.request.Request.{Request}
use Rattle.fsb_line.specs.declared.purpose.Purpose.{Purpose}
use Rattle.fsb_trace.specs.declared.who.Who.{Who}
use Rattle.fsb_trace.specs.declared.who.Who.TheVariants.{Priority, Symmetric}
use Rattle.fsb_trace.specs.At.{Trace, request_at}
use Rattle.fsb_trace.specs.Flight.{is_outstanding, outstanding}
use Rattle.fsb_trace.specs.Requests.{is_reply, line_of}
use Rattle.fsb_trace.specs.Winner.{symmetric_after, winner_at}
use Rattle.fsb_laws.proofs.Interface.{ads_before_end, request_at-last}
use Rattle.fsb_timely.specs.Past.{Claim, Owing, Past}
use Rattle.fsb_timely.specs.Grants.{begun_at}
use Rattle.fsb_timely.specs.Moments as moments
use Rattle.fsb_timely.specs.Moments.{claim_at}
use Rattle.fsb_timely.specs.Runs.{Run, past_of}
use Rattle.fsb_timely.specs.Timely.{Timely}
use Rattle.fsb_timely.specs.Wants.{is_asked_for, owed}
use Rattle.fsb_lawful.specs.Beginning.{KeepsBounds}
use Rattle.fsb_lawful.proofs.Interface.{IsListed, any-kept, any-listed, map-some}
use Rattle.fsb_coherent.specs.Awaits as awaits
use Rattle.fsb_tied.proofs.Interface.{begun-shown, begun-want}
use Rattle.fsb_tied.proofs.Beginnings.{IsBegunWant, begun-from}
use Rattle.fsb_tied.proofs.PendingLines.{claim-names}
use Rattle.fsb_run_laws.specs.Reaches.{Reaches}
use Rattle.fsb_run_laws.specs.RunSteps.{owing_begun}
use Rattle.fsb_run_laws.proofs.Interface.{owed-told}
use Rattle.fsb_owners.specs.Shown.{agent_at, asks, names, purpose_at, purpose_of}
use Rattle.fsb_owner_laws.proofs.BrokenRules.{named}

-- the agent of a request is the same in both words
agent-of : (o : Option Who)
    → symmetric_after None o ≡ elim o [ Some who ↦ elim who [ Symmetric a ↦ Some a | Priority ↦ None ] | None ↦ None ]
unfolding symmetric_after
agent-of None = refl
agent-of (Some (Symmetric a)) = refl
agent-of (Some Priority) = refl

pub same-agent : (w : Trace) (q : ℕ) → agent_at w q ≡ moments.agent_at w q
unfolding agent_at moments.agent_at
same-agent w q = agent-of (winner_at w q)

-- and so is what it asks
pub same-purpose : (kind : Kind) → purpose_of kind ≡ awaits.purpose_of kind
unfolding purpose_of awaits.purpose_of
same-purpose kinds.Reply = refl
same-purpose kinds.Invalidate = refl
same-purpose kinds.Read = refl
same-purpose kinds.WriteBack = refl
same-purpose kinds.Upgrade = refl

-- the claim of a request of this agent for this line
pub claim-of : (w : Trace) (q a line : ℕ) → agent_at w q ≡ Some a → line_of w q ≡ Some line
    → claim_at w q ≡ Some (record { first = q; agent = a; line = line })
unfolding claim_at
claim-of w q a line e f = rw (sym (same-agent w q) ∙ e, f) refl

-- a request that the wires show is one that began in the run
pub shown-begun : (r : Run) (line a q : ℕ) → names r.trace line q ≡ true → agent_at r.trace q ≡ Some a
    → (q < length r.trace) × (begun_at (past_of r) q ≡ Some (record { first = q; agent = a; line = line }))
shown-begun r line a q n e =
    let w = r.trace in
    let k = named w line q n in
    let within = ads_before_end w q k.0 in
    (within, begun-from r q (record { first = q; agent = a; line = line }) within k.0 (claim-of w q a line e k.1))

-- a request of a symmetric agent is no reply, as far as it is decoded
pub plain-request : (r : Run) (q : ℕ) (claim : Claim) → Timely r → KeepsBounds r.plan → q < length r.trace
    → IsBegunWant r q claim → is_reply (request_at r.trace q) ≡ false
unfolding is_reply is_some_and
plain-request r q claim h bounds l k =
    elim (cases_lt (q + 1) (length r.trace)) [
      | inl early ↦ ap is_reply (begun-shown r q claim h bounds (omega arith) k) ∙ k.no_reply
      | inr late ↦ ap is_reply (request_at-last r.trace q late)
    ]

agent-found : (w : Trace) (q a : ℕ) → winner_at w q ≡ Some (Symmetric a) → agent_at w q ≡ Some a
unfolding agent_at symmetric_after
agent-found w q a e = rw e refl

-- a request that began in the run is shown by the wires
pub begun-shows : (r : Run) (q : ℕ) (claim : Claim) → Timely r → KeepsBounds r.plan → q < length r.trace
    → begun_at (past_of r) q ≡ Some claim
    → (names r.trace claim.line q ≡ true) × (agent_at r.trace q ≡ Some claim.agent)
unfolding names
begun-shows r q claim h bounds l e =
    let w = r.trace in
    let k = begun-want r q claim h bounds l e in
    let line = claim-names w q claim k.claims in
    let plain = plain-request r q claim h bounds l k in (
      and_from _ _ (and_from _ _ k.ads (is_at-from (line_of w q) claim.line line)) (ap not plain),
      agent-found w q claim.agent k.winner,
    )

-- what a request asks, once it is decoded
pub asks-purpose : (w : Trace) (q : ℕ) (request : Request) → request_at w q ≡ Some request
    → purpose_at w q ≡ awaits.purpose_of request.kind
unfolding purpose_at
asks-purpose w q request e = ap (option_and_then (λ r. purpose_of r.kind)) e ∙ same-purpose request.kind

pub purpose-decoded : (w : Trace) (q : ℕ) (kind : Purpose) → purpose_at w q ≡ Some kind → q + 1 < length w
unfolding purpose_at
purpose-decoded w q kind e =
    elim (cases_lt (q + 1) (length w)) [
      | inl early ↦ early
      | inr late ↦
          absurd (let none = request_at-last w q late in
          let gone = ap (option_and_then (λ r. purpose_of r.kind)) none in
          let no : ⊥ = cc in no)
    ]

pub asks-parts : (w : Trace) (line a q : ℕ) → asks w line a q ≡ true
    → (names w line q ≡ true) × (agent_at w q ≡ Some a)
unfolding asks
asks-parts w line a q e =
    let p = and_parts (names w line q) (is_at (agent_at w q) a) e in (p.0, is_at-some (agent_at w q) a p.1)

-- the request that began, as its agent knows it
begun-owing : (p : Past) (q : ℕ) (claim : Claim) → begun_at p q ≡ Some claim
    → (owing : Owing) × (owing_begun p q ≡ Some owing) × (owing.claim ≡ claim)
unfolding begun_at owing_begun
begun-owing p q claim e = map-some (λ (owing : Owing). owing.claim) (owing_begun p q) claim e

outstanding-below : (w : Trace) (c q : ℕ) → is_outstanding w c q ≡ true → q < c
unfolding is_outstanding
outstanding-below w c q e = grind arith

-- what the wires show as outstanding its agent owes
pub shown-owed : (r : Run) (line a n q : ℕ) → Reaches r n → asks r.trace line a q ≡ true
    → is_outstanding r.trace n q ≡ true → is_asked_for (owed (past_of r) a n) line ≡ true
unfolding is_asked_for owed outstanding
shown-owed r line a n q h asked out =
    let p = past_of r in
    let w = r.trace in
    let parts = asks-parts w line a q asked in
    let begun = shown-begun r line a q parts.0 parts.1 in
    let known = begun-owing p q (record { first = q; agent = a; line = line }) begun.1 in
    let t : ℕ → Bool = is_outstanding w n in
    let f : Owing → Bool = λ owing. nat_eq owing.claim.agent a in
    let g : Owing → Bool = λ owing. nat_eq owing.claim.line line in
    let listed : IsListed t (owing_begun p) (λ owing. f owing && g owing) q = record {
      there = out;
      given = known.0;
      gives = known.1;
      passes = and_from _ _ (eq-eqb known.0.claim.agent a (ap (λ x. x.agent) known.2))
          (eq-eqb known.0.claim.line line (ap (λ x. x.line) known.2));
    } in
    let any = any-listed t (owing_begun p) (λ owing. f owing && g owing) n q (outstanding-below w n q out) listed in
    ap (λ xs. list_any g (filter f xs)) (owed-told r n h) ∙ any-kept f g _ any
