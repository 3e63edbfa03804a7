-- The request that begins at a clock, and the one that is cancelled there, come in order.
use Rattle.fsb_tied.proofs.Words
use Words.{ℕ, ◌+◌, ◌<◌, ◌≤◌, ◌≡◌, true, false, Some, length, refl, sym, ap, subst, ◌∙◌, arith, option_and_then}
use Words.{both_ways, false_from_ne_true, is_some_and, any_where-off, is_at-some, OpenRequest, is_linked, begun_at}
use Words.{is_snoop_of, Claim, Run, past_of, Timely, is_asked_for, owed, want_of-new, KeepsBounds, cancelled_in}
use Words.{purpose_of, purpose_wanted, BeginsInOrder, IsBegunRightly, suits_holder, IsOpen, chain_below}
use Words.{is_cancelled_below, is_snooped_below}
use Rattle.fsb_tied.proofs.Beginnings.{begun-want}
use Rattle.fsb_tied.proofs.HeldBack.{none-other}
use Rattle.fsb_tied.proofs.Linked.{link-owed}
use Rattle.fsb_tied.proofs.Owing.{open-owed}
use Rattle.fsb_tied.proofs.PutOff.{deferral-owed}
use Rattle.fsb_tied.proofs.Slots.{dropped-clean}
use Rattle.fsb_tied.proofs.SnoopClaims.{snooped-in}
use Rattle.fsb_tied.proofs.SnoopOpen.{cancels, claim-with, wanted-then}
use Rattle.fsb_tied.proofs.Wanted.{want-is, write-back-kind}

-- a request is cancelled three clocks behind its first clock, and snooped later than that
pub uncancelled-below : (r : Run) (n q : ℕ) → n ≤ length r.trace → n ≤ q + 3
    → is_cancelled_below (past_of r) n q ≡ false
unfolding is_cancelled_below
uncancelled-below r n q l low = grind (arith, any_where-off, cancels, is_at-some)

pub unsnooped-below : (r : Run) (n q : ℕ) → n ≤ q + 3 → is_snooped_below (past_of r) n q ≡ false
unfolding is_snooped_below is_some_and is_snoop_of
unsnooped-below r n q low = grind (arith, any_where-off, snooped-in)

-- the request for the line that begins at n
is-begun : (r : Run) (n : ℕ) (claim : Claim) → Timely r → KeepsBounds r.plan → n < length r.trace
    → begun_at (past_of r) n ≡ Some claim → IsBegunRightly (past_of r) claim.line n claim.agent
unfolding purpose_wanted
is-begun r n claim h bounds l begun =
    let p = past_of r in
    let a = claim.agent in
    let line = claim.line in
    let k = begun-want r n claim h bounds l begun in
    let w = want-is p a n k.request k.want in
    let fresh : is_asked_for (owed p a n) line ≡ false = grind (arith, want_of-new) in
    record {
      kind = w.purpose;
      wanted = ap (option_and_then (λ request. purpose_of request.kind)) k.want ∙ w.asks;
      suited = ap (λ x. suits_holder p a x n w.purpose) (sym k.line) ∙ w.suited;
      no_ask = λ request opened. both_ways _ fresh (open-owed r a line n request h bounds (omega arith) opened);
      no_link = false_from_ne_true (is_linked a (chain_below p line n))
          (λ t. both_ways _ fresh (link-owed r a line n h bounds (omega arith) t));
      no_deferral = λ d e same.
          both_ways _ fresh (subst (λ b. is_asked_for (owed p b n) line ≡ true) same
          (deferral-owed r line n d h bounds (omega arith) e));
      not_held_off = λ kind b request opened.
          none-other r n claim h l k (write-back-kind k.request.kind (w.asks ∙ ap Some kind)) b request opened;
      uncancelled = uncancelled-below r n n (omega arith) (omega arith);
      unsnooped = unsnooped-below r n n (omega arith);
    }

-- the one that is cancelled at n was open
cancelled-open : (r : Run) (n q : ℕ) (claim : Claim) → Timely r → KeepsBounds r.plan → n < length r.trace
    → cancelled_in (past_of r) n ≡ Some q → begun_at (past_of r) q ≡ Some claim
    → (request : OpenRequest) × IsOpen (past_of r) claim.agent claim.line n request × (request.number ≡ q)
cancelled-open r n q claim h bounds l cancelled begun =
    let at = (cancels r n q l cancelled).0 in
    let k = begun-want r q claim h bounds (omega arith) begun in
    let wanted = wanted-then r q claim k in (
      record { kind = wanted.0; number = q },
      record {
        before = omega arith;
        begun = begun ∙ claim-with claim q k.first;
        wanted = wanted.2;
        uncancelled = uncancelled-below r n q (omega arith) (omega arith);
        unsnooped = unsnooped-below r n q (omega arith);
      },
      refl,
    )

-- what begins and what is cancelled come in order
pub begins-in-order : (r : Run) (line n : ℕ) → Timely r → KeepsBounds r.plan → n < length r.trace
    → BeginsInOrder (past_of r) line n
begins-in-order r line n h bounds l =
    let p = past_of r in
    record {
      first = λ claim begun. (begun-want r n claim h bounds l begun).first;
      begun = λ claim begun names. subst (λ x. IsBegunRightly p x n claim.agent) names
          (is-begun r n claim h bounds l begun);
      dropped = λ claim begun rival. dropped-clean r n claim line h bounds l begun rival;
      cancelled = λ q claim cancelled begun names.
          subst (λ x. (request : OpenRequest) × IsOpen p claim.agent x n request × (request.number ≡ q)) names
          (cancelled-open r n q claim h bounds l cancelled begun);
    }
