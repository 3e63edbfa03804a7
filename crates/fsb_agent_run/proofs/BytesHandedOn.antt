-- At the response of a request its giver hands on the bytes that it has for it; at any other response what it
-- owes stays.
use Rattle.fsb_agent_run.proofs.Words
use Words.{ℕ, zero, suc, ◌+◌, ◌<◌, ◌≡◌, Bool, true, false, cond, not, ◌&&◌, ◌||◌, if◌then◌else◌, Option, Some, length}
use Words.{nat_eq, refl, sym, ap, subst, ◌∙◌, inl, inr, arith, ◌==◌, option_map, cases_eq, eq-eqb, eqb-true}
use Words.{false_from_ne_true, ne_eqb, count_where, is_at, is_some_and, any_where-at, any_where-found, any_where-more}
use Words.{any_where-off, count_where-same, is_at-some, Push, push_for, pushes_without, Claim, Past, Run, past_of}
use Words.{Timely, KeepsBounds, some-and, responded_in, is_responded_below, answers-in-order, AgentView, hand_by}
use Words.{handed_on, owed_count, length-without-found, HasBytesOwed, claim_given_at, is_given_below, is_pushed}
use Words.{owes_bytes_from}
use Rattle.std.specs.Prelude.{is_some}
use Rattle.fsb_agent_run.proofs.BufferCounts.{push-there, push_count, push_count-without}
use Rattle.fsb_agent_run.proofs.GivenBytes.{given}
use Rattle.fsb_agent_run.proofs.PromisesTold.{responded-unpromised}

or-none : (b x : Bool) → x ≡ false → (b || x) ≡ b
or-none b x h1 = grind arith

responded-more : (p : Past) (c q : ℕ)
    → is_responded_below p (c + 1) q ≡ (is_responded_below p c q || is_at (responded_in p c) q)
unfolding is_responded_below
responded-more p c q = any_where-more (λ t. is_at (responded_in p t) q) c

-- a request that does not respond at c has a response below c + 1 only below c
unresponded-now : (p : Past) (c q : ℕ) → is_at (responded_in p c) q ≡ false
    → is_responded_below p (c + 1) q ≡ is_responded_below p c q
unresponded-now p c q e = responded-more p c q ∙ or-none (is_responded_below p c q) (is_at (responded_in p c) q) e

responded-now : (p : Past) (c q : ℕ) → responded_in p c ≡ Some q → is_responded_below p (c + 1) q ≡ true
unfolding is_responded_below is_at is_some_and
responded-now p c q e = any_where-at (λ t. is_at (responded_in p t) q) (c + 1) c (omega arith) (rw e (eq-eqb q q refl))

others-unresponded : (p : Past) (c q other : ℕ) → responded_in p c ≡ Some q → (other ≡ q → ⊥)
    → is_at (responded_in p c) other ≡ false
unfolding is_at is_some_and
others-unresponded p c q other e apart = rw e (ne_eqb q other (λ same. apart (sym same)))

-- a request that responds at c has no response below
first-response : (r : Run) (c q : ℕ) → Timely r → c < length r.trace → responded_in (past_of r) c ≡ Some q
    → is_responded_below (past_of r) c q ≡ false
unfolding is_responded_below
first-response r c q h l e =
    let order = answers-in-order r h in
    any_where-off (λ t. is_at (responded_in (past_of r) t) q) c (λ u low.
    false_from_ne_true _ (λ t.
    let same : u ≡ c = order.one_response u c q (omega arith) l (is_at-some (responded_in (past_of r) u) q t) e in
    omega arith))

-- so its giver has the bytes
pushed-before : (r : Run) (a c q : ℕ) → Timely r → KeepsBounds r.plan → c < length r.trace
    → responded_in (past_of r) c ≡ Some q → is_given_below (past_of r) a c q ≡ true
    → is_pushed (past_of r) a c c c q ≡ true
unfolding is_pushed
pushed-before r a c q h bounds l e gives = grind (arith, first-response, responded-unpromised)

pushed-after : (p : Past) (a n c q : ℕ) → responded_in p c ≡ Some q → is_pushed p a n (c + 1) c q ≡ false
unfolding is_pushed
pushed-after p a n c q e = grind (arith, responded-now)

pushed-kept : (p : Past) (a n c q : ℕ) → is_at (responded_in p c) q ≡ false
    → is_pushed p a n (c + 1) c q ≡ is_pushed p a n c c q
unfolding is_pushed
pushed-kept p a n c q e = grind (arith, unresponded-now)

-- one clock counts no more
count-less : (f g : ℕ → Bool) (n t : ℕ) → t < n → f t ≡ true → g t ≡ false
    → ((u : ℕ) → u < n → (u ≡ t → ⊥) → g u ≡ f u) → count_where f n ≡ count_where g n + 1
unfolding count_where
count-less f g zero t l on off same = absurd (omega arith)
count-less f g (suc n) t l on off same =
    elim (cases_eq t n) [
      | inl is ↦
          let below : count_where g n ≡ count_where f n = grind (arith, count_where-same) in
          let here : f n ≡ true = subst (λ k. f k ≡ true) is on in
          let gone : g n ≡ false = subst (λ k. g k ≡ false) is off in
          rw (here, gone) (omega (arith, below))
      | inr apart ↦
          let below = count-less f g n t (omega arith) on off (λ u low. same u (omega arith)) in
          let here : g n ≡ f n = same n (omega arith) (λ e. apart (sym e)) in
          rw here (omega (arith, below))
    ]

-- by what an agent owes from a snoop end
owes-from : (p : Past) (a t : ℕ) (claim : Claim) (n : ℕ) → claim_given_at p a t ≡ Some claim
    → owes_bytes_from p a n t ≡ not (is_responded_below p n claim.first)
unfolding owes_bytes_from is_some_and
owes-from p a t claim n there = rw there refl

owes-kept : (p : Past) (a c u : ℕ) (o : Option Claim) → claim_given_at p a u ≡ o
    → ((claim : Claim) → claim_given_at p a u ≡ Some claim → is_at (responded_in p c) claim.first ≡ false)
    → owes_bytes_from p a (c + 1) u ≡ owes_bytes_from p a c u
unfolding owes_bytes_from is_some_and
owes-kept p a c u o h1 h2 = grind (arith, unresponded-now)

-- the given request that begins at q, by its snoop end
owes-less : (r : Run) (a c q : ℕ) → Timely r → KeepsBounds r.plan → c < length r.trace
    → responded_in (past_of r) c ≡ Some q → is_given_below (past_of r) a c q ≡ true
    → count_where (owes_bytes_from (past_of r) a c) c ≡ count_where (owes_bytes_from (past_of r) a (c + 1)) c + 1
unfolding is_given_below
owes-less r a c q h bounds l e gives =
    let p : Past = past_of r in
    let order = answers-in-order r h in
    let t = any_where-found (λ u. is_some_and (claim_given_at p a u) (λ claim. nat_eq claim.first q)) c gives in
    let low : t.0 < c = t.1 in
    let x = some-and (claim_given_at p a t.0) (λ (claim : Claim). nat_eq claim.first q) t.2 in
    let first : x.0.first ≡ q = eqb-true x.0.first q x.2 in
    let k = given r a t.0 x.0 h bounds (omega arith) x.1 in
    count-less (owes_bytes_from p a c) (owes_bytes_from p a (c + 1)) c t.0 low
    (owes-from p a t.0 x.0 c x.1 ∙ ap not (ap (is_responded_below p c) first ∙ first-response r c q h l e))
    (owes-from p a t.0 x.0 (c + 1) x.1 ∙ ap not (ap (is_responded_below p (c + 1)) first ∙ responded-now p c q e))
    (λ u below apart. owes-kept p a c u (claim_given_at p a u) refl (λ other there.
    let j = given r a u other h bounds (omega arith) there in
    others-unresponded p c q other.first e (λ is.
    let ends : j.at.end.first ≡ k.at.end.first = sym j.first ∙ is ∙ sym first ∙ k.first in
    apart (order.one_snoop u t.0 j.at.end k.at.end j.at.there k.at.there ends))))

is_some-map : (o : Option Push) → is_some (option_map (λ (push : Push). push.bytes) o) ≡ is_some o
is_some-map o = grind arith

one-push : (r : Run) (a c q : ℕ) (v : AgentView) → Timely r → KeepsBounds r.plan → c < length r.trace
    → responded_in (past_of r) c ≡ Some q → is_given_below (past_of r) a c q ≡ true → HasBytesOwed (past_of r) a c c c v
    → push_count q v.buffers.pushes ≡ 1
one-push r a c q v h bounds l e gives k =
    k.pushes q ∙ ap (λ b. if b then 1 else 0) (pushed-before r a c q h bounds l e gives)

pub hand-there : (r : Run) (a c q : ℕ) (v : AgentView) → Timely r → KeepsBounds r.plan → c < length r.trace
    → responded_in (past_of r) c ≡ Some q → is_given_below (past_of r) a c q ≡ true → HasBytesOwed (past_of r) a c c c v
    → is_some (hand_by v q) ≡ true
hand-there r a c q v h bounds l e gives k = grind (arith, is_some-map, push-there, one-push)

-- what is left when it has handed them on
pub handed-owed : (r : Run) (a c q : ℕ) (v : AgentView) → Timely r → KeepsBounds r.plan → c < length r.trace
    → responded_in (past_of r) c ≡ Some q → is_given_below (past_of r) a c q ≡ true → HasBytesOwed (past_of r) a c c c v
    → HasBytesOwed (past_of r) a c (c + 1) c (handed_on v q)
handed-owed r a c q v h bounds l e gives k = record {
  pushes = λ other. elim (cases_eq other q) [ inl same ↦ at-same other same | inr apart ↦ at-other other apart ];
  promises = k.promises;
  count = counted (push_for q v.buffers.pushes) refl;
}
  where
    there : is_some (push_for q v.buffers.pushes) ≡ true
    there = push-there q v.buffers.pushes (one-push r a c q v h bounds l e gives k)

    at-same : (other : ℕ) → other ≡ q
        → push_count other (pushes_without q v.buffers.pushes)
        ≡ (if is_pushed (past_of r) a c (c + 1) c other then 1 else 0)
    at-same other same =
        let one : push_count other v.buffers.pushes ≡ 1 = grind (arith, one-push) in
        let less = push_count-without other q v.buffers.pushes in
        let here : ◌≡◌ {A = ℕ} (cond (is_some (push_for q v.buffers.pushes) && (q == other)) 1 0) 1 = rw
        (there, eq-eqb q other (sym same)) refl in
        let none : push_count other (pushes_without q v.buffers.pushes) ≡ 0 = omega (arith, less, here, one) in
        none ∙ sym (ap (λ b. if b then 1 else 0) (ap (is_pushed (past_of r) a c (c + 1) c) same
        ∙ pushed-after (past_of r) a c c q e))

    at-other : (other : ℕ) → (other ≡ q → ⊥)
        → push_count other (pushes_without q v.buffers.pushes)
        ≡ (if is_pushed (past_of r) a c (c + 1) c other then 1 else 0)
    at-other other apart =
        let less = push_count-without other q v.buffers.pushes in
        let here : ◌≡◌ {A = ℕ} (cond (is_some (push_for q v.buffers.pushes) && (q == other)) 1 0) 0 =
        rw (there, ne_eqb q other (λ is. apart (sym is))) refl in
        let same : push_count other (pushes_without q v.buffers.pushes) ≡ push_count other v.buffers.pushes =
        omega (arith, less, here) in
        same ∙ k.pushes other
        ∙ sym (ap (λ b. if b then 1 else 0) (pushed-kept (past_of r) a c c other (others-unresponded
        (past_of r) c q other e apart)))

    counted : (o : Option Push) → push_for q v.buffers.pushes ≡ o
        → owed_count (handed_on v q).buffers ≡ count_where (owes_bytes_from (past_of r) a (c + 1)) c
    counted o h1 = grind (arith, there, length-without-found, owes-less)

gives-from : (p : Past) (a c t : ℕ) (claim : Claim) → t < c → claim_given_at p a t ≡ Some claim
    → is_given_below p a c claim.first ≡ true
unfolding is_given_below is_some_and
gives-from p a c t claim low there =
    any_where-at (λ u. is_some_and (claim_given_at p a u) (λ x. nat_eq x.first claim.first)) c t low
    (rw there (eq-eqb claim.first claim.first refl))

-- what is owed stays where the agent gives nothing for the request that responds
pub kept-at-response : (p : Past) (a c : ℕ) (v : AgentView)
    → ((q : ℕ) → responded_in p c ≡ Some q → is_given_below p a c q ≡ false)
    → HasBytesOwed p a c c c v → HasBytesOwed p a c (c + 1) c v
unfolding is_pushed
kept-at-response p a c v none k = record {
  pushes = λ q. k.pushes q ∙ sym (ap (λ b. if b then 1 else 0) (same-pushed q (is_given_below p a c q) refl));
  promises = k.promises;
  count = k.count ∙ sym (count_where-same (owes_bytes_from p a (c + 1)) (owes_bytes_from p a c) c
      (record { same = λ t low. same-owes t low }));
}
  where
    not-now : (q : ℕ) → is_given_below p a c q ≡ true → is_at (responded_in p c) q ≡ false
    not-now q gives = grind (arith, is_at-some)

    same-pushed : (q : ℕ) (b : Bool) → is_given_below p a c q ≡ b → is_pushed p a c (c + 1) c q ≡ is_pushed p a c c c q
    same-pushed q b h1 = grind (arith, pushed-kept, not-now)

    same-owes : (t : ℕ) → t < c → owes_bytes_from p a (c + 1) t ≡ owes_bytes_from p a c t
    same-owes t low = grind (arith, owes-kept, not-now, gives-from)
