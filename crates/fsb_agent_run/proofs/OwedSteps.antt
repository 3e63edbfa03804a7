-- The outstanding requests of an agent: what each of them is, and how they go on by a clock.
use Rattle.fsb_agent_run.proofs.Words
use Words.{ℕ, zero, suc, ◌+◌, ◌<◌, ◌≤◌, ◌≡◌, Bool, true, not, ◌&&◌, [], ◌++◌, Option, Some, nat_eq, refl, sym, ap}
use Words.{subst, ◌∙◌, inl, inr, add-one, arith, filter, list_any, option_map, and_from, and_parts, eq-eqb, eqb-true}
use Words.{filter-append, is_outstanding, outstanding, Claim, Owing, Past, begun_at, is_last_clock, Run, past_of}
use Words.{outstanding_at, owed, IsListed, any-listed, Reaches, listed, owing_begun, begun-wanted, owed-step, owed-told}
use Words.{owing-claim, owings_begun, owed_sent}
use Rattle.fsb_agent_run.proofs.Among.{Among, among-either, among-filter, any-among, filter-among, filter-swap}

-- the request is agent a's
abbrev pub is_own : ℕ → Owing → Bool
is_own a owing = nat_eq owing.claim.agent a

-- the clock is not the last one of the request
abbrev pub stays_out : Run → ℕ → Owing → Bool
stays_out r n owing = not (is_last_clock r.trace n owing.claim.first)

pub reaches-less : (r : Run) (m n : ℕ) → m ≤ n → Reaches r n → Reaches r m
reaches-less r m n l h = grind arith

-- one clock further
pub owed-more : (r : Run) (a n : ℕ) → Reaches r (n + 1)
    → owed (past_of r) a (n + 1) ≡ filter (stays_out r n) (owed (past_of r) a n) ++ owings_begun (past_of r) a n
unfolding owed owings_begun
owed-more r a n h = grind (arith, owed-step, filter-append, filter-swap)

pub none-owed : (p : Past) (a : ℕ) → owed p a 0 ≡ []
unfolding owed outstanding_at
none-owed p a = refl

-- a request of agent a that began below n, as a knows it
pub record IsOwing (p : Past) (a n : ℕ) (owing : Owing) : Type 0 where
  pub begun : owing_begun p owing.claim.first ≡ Some owing
  pub claimed : begun_at p owing.claim.first ≡ Some owing.claim
  pub agent : owing.claim.agent ≡ a
  pub before : owing.claim.first < n

listed-is : (o : Option Owing) (owing : Owing) → Among owing (listed o) → o ≡ Some owing
unfolding listed
listed-is o owing h1 = grind arith

-- what begins at n
pub begun-is : (r : Run) (a n : ℕ) (owing : Owing) → Reaches r (n + 1) → Among owing (owings_begun (past_of r) a n)
    → (owing_begun (past_of r) n ≡ Some owing) × (owing.claim.agent ≡ a) × (owing.claim.first ≡ n)
unfolding owings_begun
begun-is r a n owing h k = grind (arith, among-filter, listed-is, begun-wanted)

pub begun-owing : (r : Run) (a n : ℕ) (owing : Owing) → Reaches r (n + 1) → Among owing (owings_begun (past_of r) a n)
    → IsOwing (past_of r) a (n + 1) owing
begun-owing r a n owing h k = grind (arith, begun-is, owing-claim)

owing-later : (p : Past) (a m n : ℕ) (owing : Owing) → m ≤ n → IsOwing p a m owing → IsOwing p a n owing
owing-later p a m n owing l k = grind arith

-- what an agent owes
pub owing-is : (r : Run) (a n : ℕ) (owing : Owing) → Reaches r n → Among owing (owed (past_of r) a n)
    → IsOwing (past_of r) a n owing
owing-is r a zero owing h k = absurd (subst (Among owing) (none-owed (past_of r) a) k)
owing-is r a (suc n) owing h k =
    let p = past_of r in
    let long = h.long in
    let more : Reaches r (n + 1) = record { timely = h.timely; bounds = h.bounds; long = omega arith } in
    let there : Among owing (filter (stays_out r n) (owed p a n) ++ owings_begun p a n) =
    subst (Among owing) (sym (ap (owed p a) (add-one n)) ∙ owed-more r a n more) k in
    subst (λ m. IsOwing p a m owing) (add-one n)
    (elim (among-either owing (filter (stays_out r n) (owed p a n)) (owings_begun p a n) there) [
      | inl before ↦
          owing-later p a n (n + 1) owing (omega arith)
          (owing-is r a n owing (reaches-less r n (n + 1) (omega arith) more)
          (among-filter (stays_out r n) owing (owed p a n) before).0)
      | inr now ↦ begun-owing r a n owing more now
    ])

pub sent-is : (r : Run) (a n : ℕ) (owing : Owing) → Reaches r (n + 1) → Among owing (owed_sent (past_of r) a n)
    → IsOwing (past_of r) a (n + 1) owing
unfolding owed_sent
sent-is r a n owing h k =
    let p = past_of r in
    elim (among-either owing (owed p a n) (owings_begun p a n) k) [
      | inl before ↦
          owing-later p a n (n + 1) owing (omega arith)
          (owing-is r a n owing (reaches-less r n (n + 1) (omega arith) h) before)
      | inr now ↦ begun-owing r a n owing h now
    ]

mapped : (f : Owing → Claim) (o : Option Owing) (claim : Claim) → option_map f o ≡ Some claim
    → (owing : Owing) × (o ≡ Some owing) × (f owing ≡ claim)
mapped f o claim h1 = grind arith

pub begun-parts : (p : Past) (q : ℕ) (claim : Claim) → begun_at p q ≡ Some claim
    → (owing : Owing) × (owing_begun p q ≡ Some owing) × (owing.claim ≡ claim)
unfolding begun_at owing_begun
begun-parts p q claim e = mapped (λ (owing : Owing). owing.claim) (owing_begun p q) claim e

-- what is outstanding in the trace, its agent owes
pub owed-there : (r : Run) (n q : ℕ) (claim : Claim) → Reaches r n → begun_at (past_of r) q ≡ Some claim → q < n
    → is_outstanding r.trace n q ≡ true
    → (owing : Owing) × Among owing (owed (past_of r) claim.agent n) × (owing.claim ≡ claim)
    × (owing_begun (past_of r) q ≡ Some owing)
unfolding owed outstanding
owed-there r n q claim h begun below out =
    let p = past_of r in
    let w = r.trace in
    let k = begun-parts p q claim begun in
    let owing : Owing = k.0 in
    let is : Owing → Bool = λ o. nat_eq o.claim.first owing.claim.first && is_own claim.agent o in
    let entry : IsListed (is_outstanding w n) (owing_begun p) is q = record {
      there = out;
      given = owing;
      gives = k.1;
      passes = and_from _ _ (eq-eqb owing.claim.first owing.claim.first refl)
          (eq-eqb owing.claim.agent claim.agent (ap (λ (c : Claim). c.agent) k.2));
    } in
    let any : list_any is (outstanding_at p n) ≡ true = ap (list_any is) (owed-told r n h)
    ∙ any-listed (is_outstanding w n) (owing_begun p) is n q below entry in
    let found = any-among is (outstanding_at p n) any in
    let parts = and_parts (nat_eq found.0.claim.first owing.claim.first) (is_own claim.agent found.0) found.2 in
    let among = filter-among (is_own claim.agent) found.0 (outstanding_at p n) found.1 parts.1 in
    let fact = owing-is r claim.agent n found.0 h among in
    let first : found.0.claim.first ≡ owing.claim.first = eqb-true _ _ parts.0 in
    let mine : Reaches r (q + 1) = reaches-less r (q + 1) n (omega arith) h in
    let at : owing.claim.first ≡ q = (begun-wanted r q owing mine k.1).4 in
    let here : owing_begun p q ≡ Some found.0 = grind arith in
    let same : found.0 ≡ owing = (let e = sym here ∙ k.1 in cc) in
    (found.0, among, ap (λ (o : Owing). o.claim) same ∙ k.2, here)
