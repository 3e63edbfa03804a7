-- An agent that begins a request drops the other line of the cache set that it has.
use Rattle.fsb_coherent.proofs.Words
use Words.{ℕ, ◌+◌, ◌≡◌, Bool, true, false, not, ◌&&◌, if◌then◌else◌, nat_eq, [], ◌∷◌, Some, sym, ap, ◌∙◌, inl, inr}
use Words.{arith, cases_Bool, is_some_and, Invalid, May, after, effect, Drops, MemoryLine, put, is_held, is_modified}
use Words.{is_sole, Claim, Past, begun_at, holds_line, is_evicted, is_exclusive, is_rival, is_dirty, BeginsInOrder}
use Words.{begin_events}
use Rattle.fsb_coherent.proofs.HitSteps.{AfterHits}
use Rattle.fsb_coherent.proofs.TiedBetween.{Goes, goes-same, put-cases, tied-trimmed}
use Rattle.fsb_coherent.proofs.Begun.{BeginsIt, WithBegun, earlier, evicted-by, holds_left, later, other-line}
use Rattle.fsb_coherent.proofs.Begun.{owns_left, same-line}

dropped-list : (p : Past) (line n : ℕ) (claim : Claim) (b : Bool) → nat_eq claim.line line ≡ false
    → is_rival p claim.line line ≡ b → begin_events p line n claim ≡ (if b then Drops claim.agent ∷ [] else [])
unfolding begin_events
dropped-list p line n claim b other rival = grind arith

-- its agent alone drops the line
gone : (p : Past) (line n : ℕ) (claim : Claim) → begun_at p n ≡ Some claim → is_rival p claim.line line ≡ true → (b : ℕ)
    → b ≡ claim.agent → is_evicted p b line n ≡ true
unfolding is_some_and
gone p line n claim e rival b same = grind (arith, evicted-by)

stays : (p : Past) (line n : ℕ) (claim : Claim) → begun_at p n ≡ Some claim → (b : ℕ) → (b ≡ claim.agent → ⊥)
    → is_evicted p b line n ≡ false
unfolding is_some_and
stays p line n claim e b differs = grind (arith, evicted-by)

drops : (p : Past) (line n : ℕ) (claim : Claim) (x : MemoryLine) → BeginsInOrder p line n → begun_at p n ≡ Some claim
    → nat_eq claim.line line ≡ false → is_rival p claim.line line ≡ true → AfterHits p line n x
    → Goes x (Drops claim.agent ∷ []) (WithBegun p line n n)
unfolding May after effect
drops p line n claim x h e other rival t =
    let clean = h.dropped claim e rival in
    let none : (a : ℕ) → BeginsIt p line n a → ⊥ = other-line p line n claim e other in
    let left : (ℕ → Bool) → ℕ → Bool = λ had b. had b && not (is_evicted p b line n) in
    let here : (had : ℕ → Bool) (b : ℕ) → b ≡ claim.agent → false ≡ left had b = grind (arith, gone) in
    let there : (had : ℕ → Bool) (b : ℕ) → (b ≡ claim.agent → ⊥) → had b ≡ left had b = grind (arith, stays) in
    let holds : ℕ → Bool = λ k. holds_line p k line n in
    let owns : ℕ → Bool = λ k. is_exclusive p k line n in
    let y : MemoryLine = record x { state = put x.state claim.agent Invalid } in
    let dropped : WithBegun p line n n y = record {
      held = λ b. put-cases x.state claim.agent Invalid b (λ s. is_held s ≡ holds_left p line n b)
          (here holds b) (λ differs. t.held b ∙ there holds b differs);
      sole = λ b. put-cases x.state claim.agent Invalid b (λ s. is_sole s ≡ owns_left p line n b)
          (here owns b) (λ differs. t.sole b ∙ there owns b differs);
      modified = λ b. put-cases x.state claim.agent Invalid b (λ s. is_modified s ≡ is_dirty p b line n)
          (λ same. sym (ap (λ k. is_dirty p k line n) same ∙ clean)) (λ differs. t.modified b);
      asked = λ a request f. later p a line n request (t.asked a request f);
      opened = λ a request o. t.opened a request (earlier p a line n request (none a) o);
      chain = t.chain;
      deferral = t.deferral;
      moved = t.moved;
    } in
    ((t.modified claim.agent ∙ clean, tt), tied-trimmed p line n (n + 1) n _ _ _ y dropped)

-- a request for another line: its agent drops this one where both have one cache set, and otherwise nothing happens
pub other-begins : (p : Past) (line n : ℕ) (claim : Claim) (x : MemoryLine) → BeginsInOrder p line n
    → begun_at p n ≡ Some claim → nat_eq claim.line line ≡ false → AfterHits p line n x
    → Goes x (begin_events p line n claim) (WithBegun p line n n)
unfolding is_some_and
other-begins p line n claim x h e other t =
    elim (cases_Bool (is_rival p claim.line line)) [
      | inl rival ↦
          goes-same x _ (Drops claim.agent ∷ []) (WithBegun p line n n) (dropped-list p line n claim true other rival)
          (drops p line n claim x h e other rival t)
      | inr apart ↦
          let unevicted : (b : ℕ) → is_evicted p b line n ≡ false = grind (arith, evicted-by) in
          goes-same x _ [] (WithBegun p line n n) (dropped-list p line n claim false other apart)
          (tt, same-line p line n x (other-line p line n claim e other) unevicted t)
    ]
