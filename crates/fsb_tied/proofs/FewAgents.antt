-- An agent that holds a line is one of four.
use Rattle.fsb_tied.proofs.Words
use Words.{ℕ, zero, suc, ◌-◌, ◌<◌, ◌≤◌, ◌≡◌, Bool, true, false, Some, length, nat_lt, refl, sym, ap, subst, ◌∙◌, arith}
use Words.{inl, inr, add-one, cases_Bool, false_from_ne_true, ADS, BPRI, LOCK, line_at, Symmetric, Trace, Requesters}
use Words.{agent_in_order, first_asking, last_if_asking, requesters_before, then_begun, winner_after, winner_at}
use Words.{winner_by, requesters_before-begun, requesters_before-kept, requesters_before-start, winner_after-high}
use Words.{winner_after-low, winner_by-locked, winner_by-priority, winner_by-symmetric, holds_line, Run, past_of}
use Words.{holds_line-says, granted-by}
use Rattle.fsb_tied.proofs.Beginnings.{claimed}

in-order : (first n : ℕ) → agent_in_order first n < 4
unfolding agent_in_order
in-order first n = omega arith

by-four : (w : Trace) (d a : ℕ) (requesters : Requesters) (lock priority : Bool) → line_at LOCK w d ≡ lock
    → line_at BPRI w d ≡ priority → ((b : ℕ) → requesters.0 ≡ Some (Symmetric b) → b < 4)
    → winner_by w d requesters ≡ Some (Symmetric a) → a < 4
unfolding last_if_asking first_asking
by-four w d a requesters lock priority h1 h2 h3 h4 =
    grind (arith, winner_by-locked, winner_by-priority, in-order, winner_by-symmetric)

after-four : (w : Trace) (c a : ℕ) (requesters : Requesters) (low : Bool) → nat_lt c 2 ≡ low
    → ((b : ℕ) → requesters.0 ≡ Some (Symmetric b) → b < 4) → winner_after w c requesters ≡ Some (Symmetric a)
    → a < 4
after-four w c a requesters true e h g = grind (arith, winner_after-low)
after-four w c a requesters false e h g =
    by-four w (c - 2) a requesters (line_at LOCK w (c - 2)) (line_at BPRI w (c - 2)) refl refl h
    (sym (winner_after-high w c requesters e) ∙ g)

requester-four : (w : Trace) (c b : ℕ) → (requesters_before w c).0 ≡ Some (Symmetric b) → b < 4
unfolding then_begun
requester-four w zero b e = grind (arith, requesters_before-start)
requester-four w (suc c) b e =
    let more = subst (λ n. (requesters_before w n).0 ≡ Some (Symmetric b)) (sym (add-one c)) e in
    elim (cases_Bool (line_at ADS w c)) [
      | inl t ↦
          after-four w c b (requesters_before w c) (nat_lt c 2) refl (λ k f. requester-four w c k f)
          (sym (ap (λ x. x.0) (requesters_before-begun w c t)) ∙ more)
      | inr f ↦ requester-four w c b (sym (ap (λ x. x.0) (requesters_before-kept w c f)) ∙ more)
    ]

-- a symmetric winner is one of four agents
pub winner-four : (w : Trace) (c a : ℕ) → winner_at w c ≡ Some (Symmetric a) → a < 4
unfolding winner_at
winner-four w c a e =
    after-four w c a (requesters_before w c) (nat_lt c 2) refl (λ b f. requester-four w c b f) e

-- so an agent that holds a line is one of them
pub few-agents : (r : Run) (line n : ℕ) → n < length r.trace → (b : ℕ) → 4 ≤ b
    → holds_line (past_of r) b line n ≡ false
few-agents r line n l b many = false_from_ne_true _ (λ t.
    let since = holds_line-says (past_of r) b line n t in
    let below = since.before in
    let g = granted-by r b line since.at (omega arith) since.granted in
    let won = (claimed r.trace g.begun g.claim g.claims).1 in
    let few = winner-four r.trace g.begun g.claim.agent won in
    let same = g.agent in
    omega arith)
