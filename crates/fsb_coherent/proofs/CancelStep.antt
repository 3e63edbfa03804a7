-- The request that is cancelled at a clock.
use Rattle.fsb_coherent.proofs.Words
use Words.{ℕ, ◌+◌, ◌≡◌, Bool, true, false, if◌then◌else◌, nat_eq, [], ◌∷◌, Option, Some, None, refl, sym, ap, ◌∙◌, inl}
use Words.{inr, arith, cases_Bool, eq-eqb, eqb-true, ne_eqb, or_from, or_parts, true≢false, option_and_then}
use Words.{option_map_or, is_at, is_some_and, May, after, effect, IsCancelled, MemoryLine, OpenRequest, put, Claim}
use Words.{Past, begun_at, cancelled_in, BeginsInOrder, cancel_events, cancels_on, is_cancelled_below}
use Rattle.fsb_coherent.proofs.Begun.{WithBegun, agent_of, later, line_of}
use Rattle.fsb_coherent.proofs.Steps.{cancelled-more}
use Rattle.fsb_coherent.proofs.TiedBetween.{Goes, IsOpenTo, goes-same, open-to, put-cases, tied-trimmed}

-- what is open and is not the one that is cancelled stays open
stays : (p : Past) (a line n : ℕ) (request : OpenRequest) → is_at (cancelled_in p n) request.number ≡ false
    → IsOpenTo p a line n (n + 1) n request → IsOpenTo p a line n (n + 1) (n + 1) request
stays p a line n request other o = record {
  before = o.before;
  begun = o.begun;
  wanted = o.wanted;
  uncancelled = cancelled-more p n request.number
      ∙ or_from (is_cancelled_below p n request.number) _ o.uncancelled other;
  unsnooped = o.unsnooped;
}

uncancelled : (p : Past) (a line n : ℕ) (request : OpenRequest) → IsOpenTo p a line n (n + 1) (n + 1) request
    → (is_cancelled_below p n request.number ≡ false) × (is_at (cancelled_in p n) request.number ≡ false)
uncancelled p a line n request o =
    or_parts (is_cancelled_below p n request.number) (is_at (cancelled_in p n) request.number)
    (sym (cancelled-more p n request.number) ∙ o.uncancelled)

was : (p : Past) (a line n : ℕ) (request : OpenRequest) → IsOpenTo p a line n (n + 1) (n + 1) request
    → IsOpenTo p a line n (n + 1) n request
was p a line n request o = grind (arith, uncancelled)

-- where no open request is cancelled everything stays
none-cancelled : (p : Past) (line n : ℕ) (x : MemoryLine)
    → ((a : ℕ) (request : OpenRequest) → IsOpenTo p a line n (n + 1) n request
    → is_at (cancelled_in p n) request.number ≡ false) → WithBegun p line n n x → WithBegun p line n (n + 1) x
none-cancelled p line n x other t = record {
  held = t.held;
  sole = t.sole;
  modified = t.modified;
  asked = λ a request e. stays p a line n request (other a request (t.asked a request e)) (t.asked a request e);
  opened = λ a request o. t.opened a request (was p a line n request o);
  chain = t.chain;
  deferral = t.deferral;
  moved = t.moved;
}

not-at : (p : Past) (n q k : ℕ) → cancelled_in p n ≡ Some q → (q ≡ k → ⊥) → is_at (cancelled_in p n) k ≡ false
unfolding is_at is_some_and
not-at p n q k e differs = ap (λ o. is_some_and o (λ m. nat_eq m k)) e ∙ ne_eqb q k differs

is-it : (p : Past) (n q : ℕ) → cancelled_in p n ≡ Some q → is_at (cancelled_in p n) q ≡ true
unfolding is_at is_some_and
is-it p n q e = ap (λ o. is_some_and o (λ m. nat_eq m q)) e ∙ eq-eqb q q refl

at-none : (p : Past) (n k : ℕ) → cancelled_in p n ≡ None → is_at (cancelled_in p n) k ≡ false
unfolding is_at is_some_and
at-none p n k e = ap (λ o. is_some_and o (λ m. nat_eq m k)) e

same-request : (o : Option OpenRequest) (request other : OpenRequest) → o ≡ Some request → o ≡ Some other
    → request ≡ other
same-request o request other e f = ap (λ w. option_map_or (λ r. r) w request) (sym e ∙ f)

-- an open request that began with a claim of another line, or of another agent, is not that one
not-this : (p : Past) (a line n q : ℕ) (request : OpenRequest) → cancelled_in p n ≡ Some q
    → (begun_at p q ≡ Some (record { first = q; agent = a; line = line }) → ⊥) → IsOpenTo p a line n (n + 1) n request
    → is_at (cancelled_in p n) request.number ≡ false
not-this p a line n q request e other o = grind (arith, not-at)

cancelled-line : (p : Past) (line n q : ℕ) (claim : Claim) (x : MemoryLine) → BeginsInOrder p line n
    → cancelled_in p n ≡ Some q → begun_at p q ≡ Some claim → nat_eq claim.line line ≡ true → WithBegun p line n n x
    → Goes x (IsCancelled claim.agent ∷ []) (WithBegun p line n (n + 1))
unfolding May after effect
cancelled-line p line n q claim x h e f there t =
    let y : MemoryLine = record x { ask = put x.ask claim.agent None } in
    let opened = h.cancelled q claim e f (eqb-true claim.line line there) in
    let before = later p claim.agent line n opened.0 (open-to p claim.agent line n opened.0 opened.1) in
    let asks : x.ask claim.agent ≡ Some opened.0 = t.opened claim.agent opened.0 before in
    let gone : (a : ℕ) (request : OpenRequest) → a ≡ claim.agent → IsOpenTo p a line n (n + 1) (n + 1) request
    → ⊥ = λ a request same o.
    let mine = ap x.ask (sym same) ∙ t.opened a request (was p a line n request o) in
    let one : request ≡ opened.0 = same-request (x.ask claim.agent) request opened.0 mine asks in
    let number : request.number ≡ q = ap (λ r. r.number) one ∙ opened.2 in
    let other = sym (ap (is_at (cancelled_in p n)) number) ∙ (uncancelled p a line n request o).1 in
    true≢false (sym (is-it p n q e) ∙ other) in
    let left : (a : ℕ) (request : OpenRequest) → (a ≡ claim.agent → ⊥) → x.ask a ≡ Some request
    → IsOpenTo p a line n (n + 1) (n + 1) request = λ a request other g.
    let o = t.asked a request g in
    stays p a line n request (not-this p a line n q request e (λ shown. other (ap agent_of (sym shown ∙ f))) o) o in
    let cancelled : WithBegun p line n (n + 1) y = record {
      held = t.held;
      sole = t.sole;
      modified = t.modified;
      asked = λ a request. put-cases x.ask claim.agent None a
          (λ o. o ≡ Some request → IsOpenTo p a line n (n + 1) (n + 1) request)
          (λ same g. absurd (let no : ⊥ = cc in no)) (left a request);
      opened = λ a request o. put-cases x.ask claim.agent None a (λ w. w ≡ Some request)
          (λ same. absurd (gone a request same o)) (λ other. t.opened a request (was p a line n request o));
      chain = t.chain;
      deferral = t.deferral;
      moved = t.moved;
    } in
    ((tt, tt), tied-trimmed p line n (n + 1) (n + 1) _ _ _ y cancelled)

cancel-list : (line : ℕ) (claim : Claim) (b : Bool) → nat_eq claim.line line ≡ b
    → cancel_events line claim ≡ (if b then IsCancelled claim.agent ∷ [] else [])
unfolding cancel_events
cancel-list line claim b e = ap (λ t. if t then IsCancelled claim.agent ∷ [] else []) e

-- by the claim of the request that is cancelled
cancels-claim : (p : Past) (line n q : ℕ) (x : MemoryLine) → BeginsInOrder p line n → cancelled_in p n ≡ Some q
    → WithBegun p line n n x → (o : Option Claim) → begun_at p q ≡ o
    → Goes x (option_map_or (cancel_events line) o []) (WithBegun p line n (n + 1))
cancels-claim p line n q x h e t None f =
    let other : (a : ℕ) (request : OpenRequest) → IsOpenTo p a line n (n + 1) n request
    → is_at (cancelled_in p n) request.number ≡ false = λ a request o.
    not-this p a line n q request e (λ shown. let none = sym f ∙ shown in (let no : ⊥ = cc in no)) o in
    (tt, none-cancelled p line n x other t)
cancels-claim p line n q x h e t (Some claim) f =
    elim (cases_Bool (nat_eq claim.line line)) [
      | inl there ↦
          goes-same x _ (IsCancelled claim.agent ∷ []) (WithBegun p line n (n + 1)) (cancel-list line claim true there)
          (cancelled-line p line n q claim x h e f there t)
      | inr elsewhere ↦
          let differs : (a : ℕ) → begun_at p q ≡ Some (record { first = q; agent = a; line = line }) → ⊥ = λ a shown.
          true≢false (sym (eq-eqb claim.line line (ap line_of (sym f ∙ shown))) ∙ elsewhere) in
          let other : (a : ℕ) (request : OpenRequest) → IsOpenTo p a line n (n + 1) n request
          → is_at (cancelled_in p n) request.number ≡ false = λ a request o.
          not-this p a line n q request e (differs a) o in
          goes-same x _ [] (WithBegun p line n (n + 1)) (cancel-list line claim false elsewhere)
          (tt, none-cancelled p line n x other t)
    ]

cancels-by : (p : Past) (line n : ℕ) (x : MemoryLine) → BeginsInOrder p line n → WithBegun p line n n x → (o : Option ℕ)
    → cancelled_in p n ≡ o
    → Goes x (option_map_or (cancel_events line) (option_and_then (begun_at p) o) []) (WithBegun p line n (n + 1))
cancels-by p line n x h t None e = grind (arith, none-cancelled, at-none)
cancels-by p line n x h t (Some q) e = cancels-claim p line n q x h e t (begun_at p q) refl

-- the request that is cancelled is open no longer
pub cancels-step : (p : Past) (line n : ℕ) (x : MemoryLine) → BeginsInOrder p line n → WithBegun p line n n x
    → Goes x (cancels_on p line n) (WithBegun p line n (n + 1))
unfolding cancels_on
cancels-step p line n x h t = cancels-by p line n x h t (cancelled_in p n) refl
