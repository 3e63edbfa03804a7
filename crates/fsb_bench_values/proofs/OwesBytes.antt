-- What an agent keeps for its upgrades and owes to others, through its events but for hits and arrivals.
use Rattle.fsb_bench_values.proofs.Words
use Words.{ℕ, ◌≡◌, Bool, true, false, List, [], ◌∷◌, ◌++◌, Option, Some, None, refl, sym, ap, subst, ◌∙◌, inl, inr}
use Words.{arith, Among, among-either, among-granted, among-without, numbered-among, agent_after, AgentView, has_come}
use Words.{line_state_by, given_up, handed_on, performed, new_request, request_numbered, requests_granted, committed}
use Words.{granted_by, own_settled, upgraded_by, with_push, written_by, sent, want_by, OwnRequest, Want, copies}
use Words.{Request, is_held, Push, pushes_without, begun_at, Claim, Past, Outcome, Written, Upgraded, Who}
use Words.{cancelled_event, starting_event, HasCopies}
use Rattle.std.specs.Prelude.{fold}

-- what an agent keeps for an upgrade that it has won, and what it owes to a request that began, are these bytes of
-- the line
pub record OwesBytes (p : Past) (bytes : ℕ → List ℕ) (w : AgentView) : Type 0 where
  pub kept : (out : OwnRequest) (kept : List ℕ) → Among out w.outs → out.kept ≡ Some kept → kept
      ≡ bytes out.request.line
  pub pushes : (push : Push) (claim : Claim) → Among push w.buffers.pushes → begun_at p push.number ≡ Some claim
      → push.bytes ≡ bytes claim.line

-- it rests on the requests and the pushes alone
pub owes-alike : (p : Past) (bytes : ℕ → List ℕ) (w next : AgentView) → next.outs ≡ w.outs
    → next.buffers.pushes ≡ w.buffers.pushes → OwesBytes p bytes w → OwesBytes p bytes next
owes-alike p bytes w next outs pushes h = grind arith

-- fewer pushes
among-pushes : (number : ℕ) (push : Push) (pushes : List Push) → Among push (pushes_without number pushes)
    → Among push pushes
among-pushes number push [] k = absurd k
among-pushes number push (x ∷ pushes) k = grind (arith, among-pushes number push pushes)

pub handed-owes : (p : Past) (bytes : ℕ → List ℕ) (w : AgentView) (number : ℕ) → OwesBytes p bytes w
    → OwesBytes p bytes (handed_on w number)
handed-owes p bytes w number h = grind (arith, among-pushes)

-- a hit
pub performed-outs : (w : AgentView) (clock : ℕ) → (performed w clock).outs ≡ w.outs
performed-outs w clock = grind arith

-- what begins
sent-owes : (p : Past) (bytes : ℕ → List ℕ) (w : AgentView) (clock number : ℕ) → OwesBytes p bytes w
    → OwesBytes p bytes (sent w clock number)
sent-owes p bytes w clock number h = by (want_by w clock) refl
  where
    by : (o : Option Want) → want_by w clock ≡ o → OwesBytes p bytes (sent w clock number)
    by None e = owes-alike p bytes w (sent w clock number) (rw (e, sent) refl) (rw (e, sent) refl) h
    by (Some want) e = record {
      kept = λ out kept k f.
          let k' : Among out (w.outs ++ new_request number want.request ∷ []) = rw (e, sent) at k in
          elim (among-either out w.outs (new_request number want.request ∷ []) k') [
            | inl old ↦ h.kept out kept old f
            | inr (inl new) ↦
                absurd (let no : ⊥ = (let both = ap (λ (x : OwnRequest). x.kept) new ∙ f in cc) in no)
            | inr (inr none) ↦ absurd none
          ];
      pushes = λ push claim k f. h.pushes push claim (let k' : Among push w.buffers.pushes = rw (e, sent) at k in k') f;
    }

pub started-owes : (p : Past) (bytes : ℕ → List ℕ) (clock a : ℕ) (who : Who) (w : AgentView) → OwesBytes p bytes w
    → OwesBytes p bytes (fold agent_after w (starting_event clock who a))
started-owes p bytes clock a who w h1 = grind (arith, sent-owes)

-- what is cancelled, retried or written back
pub given-owes : (p : Past) (bytes : ℕ → List ℕ) (w : AgentView) (number : ℕ) → OwesBytes p bytes w
    → OwesBytes p bytes (given_up w number)
given-owes p bytes w number h = grind (arith, among-without)

pub cancelled-owes : (p : Past) (bytes : ℕ → List ℕ) (first a : ℕ) (who : Who) (w : AgentView) → OwesBytes p bytes w
    → OwesBytes p bytes (fold agent_after w (cancelled_event first who a))
cancelled-owes p bytes first a who w h1 = grind (arith, given-owes)

-- ---- snoop ends

-- what has to be known of an agent's own request at its snoop end with this outcome: no bytes of its line are on their
-- way, and it holds a line that it writes back; and of its requests: one has one number, and its claim has its line
pub record IsOwnRight (p : Past) (w : AgentView) (number : ℕ) (outcome : Outcome) : Type 0 where
  pub come : (out : OwnRequest) → request_numbered number w.outs ≡ Some out → has_come w out.request.line ≡ true
  pub held : (out : OwnRequest) → request_numbered number w.outs ≡ Some out → outcome ≡ Written
      → is_held (line_state_by w out.request.line) ≡ true
  pub one : (out other : OwnRequest) → Among out w.outs → Among other w.outs → other.number ≡ out.number
      → other.request ≡ out.request
  pub claimed : (out : OwnRequest) (claim : Claim) → Among out w.outs → begun_at p out.number ≡ Some claim
      → claim.line ≡ out.request.line

-- a line comes without its bytes
granted-owes : (p : Past) (bytes : ℕ → List ℕ) (w : AgentView) (out : OwnRequest) (shared : Bool) → OwesBytes p bytes w
    → OwesBytes p bytes (granted_by w out shared)
granted-owes p bytes w out shared h = grind (arith, among-granted)

-- an upgrade is won, and its bytes are kept
upgraded-owes : (p : Past) (bytes : ℕ → List ℕ) (w : AgentView) (number : ℕ) (out : OwnRequest) → HasCopies bytes w
    → OwesBytes p bytes w → IsOwnRight p w number Upgraded → request_numbered number w.outs ≡ Some out
    → OwesBytes p bytes (upgraded_by w out)
upgraded-owes p bytes w number out copied h r found = by (is_held (line_state_by w out.request.line)) refl
  where
    by : (b : Bool) → is_held (line_state_by w out.request.line) ≡ b → OwesBytes p bytes (upgraded_by w out)
    by false e = owes-alike p bytes w (upgraded_by w out) (rw (e, upgraded_by) refl) (rw (e, upgraded_by) refl) h
    by true e = record {
      kept = λ x kept k f.
          let own : List ℕ = copies w.lines out.request.line in
          let k' : Among x (requests_granted out.number (Some own) w.outs) = rw (e, upgraded_by) at k in
          let g = among-granted out.number (Some own) x w.outs k' in
          elim g.2.how [
            | inl now ↦
                let same : own ≡ kept = (let both = sym now.1 ∙ f in cc) in
                let one = r.one out g.0 (numbered-among number out w.outs found).0 g.1 now.0 in
                sym same ∙ copied out.request.line e (r.come out found)
                ∙ ap (λ (y : Request). bytes y.line) (sym one ∙ sym g.2.request_same)
            | inr old ↦ h.kept g.0 kept g.1 (sym old.1 ∙ f) ∙ ap (λ (y : Request). bytes y.line) (sym g.2.request_same)
          ];
      pushes = λ push claim k f. h.pushes push claim (let k' : Among push w.buffers.pushes =
          rw (e, upgraded_by) at k in k') f;
    }

-- one push more
pushed-owes : (p : Past) (bytes : ℕ → List ℕ) (w next : AgentView) (number : ℕ) (own : List ℕ) → next.outs ≡ w.outs
    → next.buffers ≡ with_push w.buffers number own
    → ((claim : Claim) → begun_at p number ≡ Some claim → own ≡ bytes claim.line) → OwesBytes p bytes w
    → OwesBytes p bytes next
pushed-owes p bytes w next number own outs buffers right h = record {
  kept = λ out kept k e. h.kept out kept (subst (Among out) outs k) e;
  pushes = λ push claim k e.
      let k' : Among push (w.buffers.pushes ++ record { number = number; bytes = own } ∷ []) =
      subst (Among push) (ap (λ b. b.pushes) buffers) k in
      elim (among-either push w.buffers.pushes (record { number = number; bytes = own } ∷ []) k') [
        | inl old ↦ h.pushes push claim old e
        | inr (inl new) ↦
            ap (λ (x : Push). x.bytes) (sym new)
            ∙ right claim (ap (begun_at p) (ap (λ (x : Push). x.number) new) ∙ e)
        | inr (inr none) ↦ absurd none
      ];
}

-- a line is written back, and its bytes are owed to that
written-owes : (p : Past) (bytes : ℕ → List ℕ) (w : AgentView) (number : ℕ) (out : OwnRequest) → HasCopies bytes w
    → OwesBytes p bytes w → IsOwnRight p w number Written → request_numbered number w.outs ≡ Some out
    → OwesBytes p bytes (written_by w out)
written-owes p bytes w number out copied h r found = grind (arith, pushed-owes, numbered-among)

-- the snoop end of the agent's own request
own-owes : (p : Past) (bytes : ℕ → List ℕ) (w : AgentView) (number : ℕ) (out : OwnRequest) (shared : Bool)
    (outcome : Outcome) → HasCopies bytes w → OwesBytes p bytes w → IsOwnRight p w number outcome
    → request_numbered number w.outs ≡ Some out → OwesBytes p bytes (own_settled w out shared outcome)
own-owes p bytes w number out shared outcome h1 h2 h3 h4 = grind (arith, granted-owes, written-owes, upgraded-owes)

pub own-committed-owes : (p : Past) (bytes : ℕ → List ℕ) (w : AgentView) (number : ℕ) (request : Request)
    (shared : Bool)
    (outcome : Outcome) → HasCopies bytes w → OwesBytes p bytes w → IsOwnRight p w number outcome
    → OwesBytes p bytes (committed w number true request shared outcome)
own-committed-owes p bytes w number request shared outcome copied h r = grind (arith, own-owes)

-- that of another agent's request, whose claim has its line
pub other-committed-owes : (p : Past) (bytes : ℕ → List ℕ) (w : AgentView) (number : ℕ) (request : Request)
    (shared : Bool) (outcome : Outcome) → HasCopies bytes w → OwesBytes p bytes w
    → ((claim : Claim) → begun_at p number ≡ Some claim → claim.line ≡ request.line)
    → OwesBytes p bytes (committed w number false request shared outcome)
other-committed-owes p bytes w number request shared outcome copied h claimed = grind (arith, pushed-owes)
