-- The bytes that are found for a transaction: those of an agent that owes them.
use Rattle.fsb_bench_values.proofs.Words
use Words.{ℕ, zero, suc, ◌≡◌, true, false, List, [], ◌∷◌, Option, Some, None, is_some, refl, sym, ap, ◌∙◌, inl, inr}
use Words.{arith, slice_get, option_map, cases_Bool, eqb-true, ◌==◌, AgentView, hand_by, Push, push_for, bytes_owed}
use Words.{first_of}

-- a push that is found is one of the list, and for the number
pub push-found : (q : ℕ) (pushes : List Push) (push : Push) → push_for q pushes ≡ Some push
    → (k : ℕ) × (slice_get pushes k ≡ Some push) × (push.number ≡ q)
push-found q [] push e = absurd (let no : ⊥ = cc in no)
push-found q (x ∷ pushes) push e = elim (cases_Bool (x.number == q)) [
  | inl on ↦
      let e' = rw on at e in
      let same : x ≡ push = cc in
      (0, ap Some same, ap (λ (y : Push). y.number) (sym same) ∙ eqb-true x.number q on)
  | inr off ↦
      let rest = push-found q pushes push (rw off at e) in
      (suc rest.0, rest.1, rest.2)
]

-- each agent owes these bytes to the transaction, if it owes it any
abbrev pub OweBytes : ℕ → List ℕ → List AgentView → Type 0
OweBytes q bytes agents =
    (a : ℕ) (w : AgentView) (push : Push) → slice_get agents a ≡ Some w → push_for q w.buffers.pushes ≡ Some push
    → push.bytes ≡ bytes

-- so where one does, they are found
pub owed-found : (q : ℕ) (bytes : List ℕ) (agents : List AgentView) (a : ℕ) (w : AgentView) → OweBytes q bytes agents
    → slice_get agents a ≡ Some w → is_some (hand_by w q) ≡ true → bytes_owed q agents ≡ Some bytes
owed-found q bytes [] a w owe at there = absurd (let no : ⊥ = cc in no)
owed-found q bytes (x ∷ agents) zero w owe at there =
    let same : x ≡ w = cc in
    by (push_for q x.buffers.pushes) refl
  where
    by : (o : Option Push) → push_for q x.buffers.pushes ≡ o → bytes_owed q (x ∷ agents) ≡ Some bytes
    by None e =
        let same : x ≡ w = cc in
        let none : hand_by w q ≡ None = grind arith in
        absurd (let no : false ≡ true = sym (ap is_some none) ∙ there in cc no)
    by (Some push) e =
        ap (λ o. first_of (option_map (λ (y : Push). y.bytes) o) (bytes_owed q agents)) e
        ∙ ap Some (owe 0 x push refl e)
owed-found q bytes (x ∷ agents) (suc a) w owe at there =
    by (push_for q x.buffers.pushes) refl (owed-found q bytes agents a w
    (λ k v push f g. owe (suc k) v push f g) at there)
  where
    by : (o : Option Push) → push_for q x.buffers.pushes ≡ o → bytes_owed q agents ≡ Some bytes
        → bytes_owed q (x ∷ agents) ≡ Some bytes
    by None e rest = ap (λ o. first_of (option_map (λ (y : Push). y.bytes) o) (bytes_owed q agents)) e ∙ rest
    by (Some push) e rest =
        ap (λ o. first_of (option_map (λ (y : Push). y.bytes) o) (bytes_owed q agents)) e
        ∙ ap Some (owe 0 x push refl e)
