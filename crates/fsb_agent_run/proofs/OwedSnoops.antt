-- What an agent owes after a snoop end at which it gives no bytes, and after one at which it does.
use Rattle.fsb_agent_run.proofs.Words
use Words.{ℕ, ◌+◌, ◌<◌, ◌≡◌, ◌≢◌, Bool, true, false, cond, not, ◌&&◌, ◌||◌, if◌then◌else◌, Option, Some, None, List, []}
use Words.{◌∷◌, ◌++◌, length, length-append, nat_eq, refl, sym, ap, subst, ◌∙◌, inl, inr, arith, ◌==◌, cases_eq, eq-eqb}
use Words.{ne_eqb, count_where, is_at, is_some_and, any_where-more, count_where-failed, count_where-passed, Buffered}
use Words.{promise_on, promised_to, Claim, Past, begun_at, is_granted, Run, past_of, Timely, KeepsBounds}
use Words.{is_responded_below, AgentView, owed_count, with_fill, with_push, HasBytesOwed, claim_given_at, gives_line_at}
use Words.{is_given_below, is_promised, is_pushed, owes_bytes_from, promise_told, is_awaited}
use Rattle.fsb_agent_run.proofs.BufferCounts.{fill-counted, promise_on-other, promise_on-promised, promise_on-push}
use Rattle.fsb_agent_run.proofs.BufferCounts.{promised_count-more, push_count, push_count-push}
use Rattle.fsb_agent_run.proofs.FillCounts.{count_on}
use Rattle.fsb_agent_run.proofs.FillsTold.{promised_count, promised_count-push}
use Rattle.fsb_agent_run.proofs.GivenBytes.{given, given-ungranted, not-given-before, unresponded}
use Rattle.fsb_agent_run.proofs.GrantsAwaited.{granted-unawaited}
use Rattle.fsb_agent_run.proofs.PromiseSteps.{promise-granted, promise-kept, promise-made, promise-unawaited}
use Rattle.fsb_agent_run.proofs.PromiseSteps.{promised-same, unawaited-unpromised}

-- buffers with the same pushes and promises
pub record SameDebts (b d : Buffered) : Type 0 where
  pub pushes : (q : ℕ) → push_count q d.pushes ≡ push_count q b.pushes
  pub promises : (line : ℕ) → promise_on line d.fills ≡ promise_on line b.fills
  pub count : owed_count d ≡ owed_count b

pub same-debts : (b d : Buffered) → d ≡ b → SameDebts b d
same-debts b d e = grind arith

-- a fill that comes is not promised
pub filled-debts : (b : Buffered) (line number : ℕ) → SameDebts b (with_fill b line number)
filled-debts b line number = grind (arith, promise_on-push, promised_count-push)

-- a past that owes the same at two moments
pub record SameOwed (p : Past) (a n r c m s d : ℕ) : Type 0 where
  pub pushes : (q : ℕ) → is_pushed p a m s d q ≡ is_pushed p a n r c q
  pub promises : (line : ℕ) → promise_told p a line m d ≡ promise_told p a line n c
  pub count : count_where (owes_bytes_from p a s) m ≡ count_where (owes_bytes_from p a r) n

pub owed-on : (p : Past) (a n r c m s d : ℕ) (v w : AgentView) → SameOwed p a n r c m s d
    → SameDebts v.buffers w.buffers
    → HasBytesOwed p a n r c v → HasBytesOwed p a m s d w
owed-on p a n r c m s d v w same debts h = record {
  pushes = λ q. debts.pushes q ∙ h.pushes q ∙ sym (ap (λ b. if b then 1 else 0) (same.pushes q));
  promises = λ line. debts.promises line ∙ h.promises line ∙ sym (same.promises line);
  count = debts.count ∙ h.count ∙ sym same.count;
}

pub owed-same : (p : Past) (a n r c : ℕ) (v w : AgentView) → w.buffers ≡ v.buffers → HasBytesOwed p a n r c v
    → HasBytesOwed p a n r c w
owed-same p a n r c v w e h = grind arith

ungiven-line : (p : Past) (a line c : ℕ) → claim_given_at p a c ≡ None → gives_line_at p a line c ≡ false
unfolding gives_line_at is_some_and
ungiven-line p a line c none = rw none refl

given-more : (p : Past) (a c q : ℕ) → is_given_below p a (c + 1) q
    ≡ (is_given_below p a c q || is_some_and (claim_given_at p a c) (λ claim. nat_eq claim.first q))
unfolding is_given_below
given-more p a c q = any_where-more (λ t. is_some_and (claim_given_at p a t) (λ claim. nat_eq claim.first q)) c

or-none : (b x : Bool) → x ≡ false → (b || x) ≡ b
or-none b x h1 = grind arith

given-kept : (p : Past) (a c q : ℕ) → is_some_and (claim_given_at p a c) (λ claim. nat_eq claim.first q) ≡ false
    → is_given_below p a (c + 1) q ≡ is_given_below p a c q
given-kept p a c q none = given-more p a c q ∙ or-none (is_given_below p a c q) _ none

-- a snoop end at which an agent gives nothing leaves what it owes as it was
pub quiet-owed : (r : Run) (a c : ℕ) → Timely r → KeepsBounds r.plan → c < length r.trace
    → claim_given_at (past_of r) a c ≡ None → SameOwed (past_of r) a c (c + 1) c (c + 1) (c + 1) c
unfolding is_pushed owes_bytes_from is_some_and
quiet-owed r a c h bounds l none =
    grind (
      arith,
      promise-granted,
      ungiven-line,
      unawaited-unpromised,
      granted-unawaited,
      promise-kept,
      given-kept,
      promised-same,
      count_where-failed,
    )

-- the request whose bytes an agent gives at a snoop end, and what is known of it there
pub record GivesNow (r : Run) (a c : ℕ) (claim : Claim) : Type 0 where
  pub gives : claim_given_at (past_of r) a c ≡ Some claim
  pub begun : begun_at (past_of r) claim.first ≡ Some claim
  pub ungranted : (line : ℕ) → is_granted (past_of r) a line c ≡ false
  pub unresponded : is_responded_below (past_of r) (c + 1) claim.first ≡ false
  pub not_before : is_given_below (past_of r) a c claim.first ≡ false

pub gives-now : (r : Run) (a c : ℕ) (claim : Claim) → Timely r → KeepsBounds r.plan → c < length r.trace
    → claim_given_at (past_of r) a c ≡ Some claim → GivesNow r a c claim
gives-now r a c claim h bounds l gives =
    let k = given r a c claim h bounds l gives in
    record {
      gives = gives;
      begun = k.begun;
      ungranted = λ line. given-ungranted r a c line claim k;
      unresponded = ap (is_responded_below (past_of r) (c + 1)) k.first
          ∙ unresponded r c (c + 1) k.at.end h (omega arith) (omega arith) k.at.there;
      not_before = ap (is_given_below (past_of r) a c) k.first ∙ not-given-before r a c k.at.end h bounds l k.at.there;
    }

other-line : (p : Past) (a c line : ℕ) (claim : Claim) → claim_given_at p a c ≡ Some claim → line ≢ claim.line
    → gives_line_at p a line c ≡ false
unfolding gives_line_at is_some_and
other-line p a c line claim gives apart = rw gives (ne_eqb claim.line line (λ e. apart (sym e)))

owes-more : (r : Run) (a c : ℕ) (claim : Claim) → GivesNow r a c claim
    → count_where (owes_bytes_from (past_of r) a (c + 1)) (c + 1)
    ≡ count_where (owes_bytes_from (past_of r) a (c + 1)) c + 1
unfolding owes_bytes_from is_some_and
owes-more r a c claim k = grind (arith, count_where-passed)

-- another request's bytes are given as before
other-given : (p : Past) (a c q : ℕ) (claim : Claim) → claim_given_at p a c ≡ Some claim → (q ≡ claim.first → ⊥)
    → is_given_below p a (c + 1) q ≡ is_given_below p a c q
unfolding is_some_and
other-given p a c q claim gives apart = grind (arith, given-kept)

now-given : (p : Past) (a c : ℕ) (claim : Claim) → claim_given_at p a c ≡ Some claim
    → is_given_below p a (c + 1) claim.first ≡ true
unfolding is_some_and
now-given p a c claim gives = grind (arith, given-more)

promised-on : (p : Past) (a n c q : ℕ) (claim : Claim) → begun_at p q ≡ Some claim
    → is_promised p a n c q ≡ is_at (promise_told p a claim.line n c) q
unfolding is_promised is_some_and
promised-on p a n c q claim e = rw e refl

-- it gives bytes that have come: there is one push more
pub pushed-owed : (r : Run) (a c : ℕ) (claim : Claim) (bytes : List ℕ) (v w : AgentView) → GivesNow r a c claim
    → is_awaited (past_of r) a claim.line c c ≡ false → w.buffers ≡ with_push v.buffers claim.first bytes
    → HasBytesOwed (past_of r) a c (c + 1) c v → HasBytesOwed (past_of r) a (c + 1) (c + 1) c w
unfolding is_pushed is_at is_some_and
pushed-owed r a c claim bytes v w k unawaited e h =
    let p : Past = past_of r in
    let promises : (line : ℕ) → promise_told p a line (c + 1) c ≡ promise_told p a line c c =
    λ line. elim (cases_eq line claim.line) [
      | inl same ↦ here line same
      | inr apart ↦ promise-kept p a line c (other-line p a c line claim k.gives apart) (k.ungranted line)
    ] in
    record {
      pushes = λ q.
          ap (λ b. push_count q b.pushes) e ∙ push_count-push q claim.first bytes v.buffers.pushes
          ∙ elim (cases_eq q claim.first) [ inl same ↦ new promises q same | inr apart ↦ old promises q apart ];
      promises = λ line. ap (λ b. promise_on line b.fills) e ∙ h.promises line ∙ sym (promises line);
      count =
          ap owed_count e
          ∙ counted (length-append v.buffers.pushes (record { number = claim.first; bytes = bytes } ∷ [])) h.count;
    }
  where
    here : (line : ℕ) → line ≡ claim.line
        → promise_told (past_of r) a line (c + 1) c ≡ promise_told (past_of r) a line c c
    here line same =
        let none : is_awaited (past_of r) a line c c ≡ false = grind arith in
        promise-unawaited (past_of r) a line c (k.ungranted line) none
        ∙ sym (unawaited-unpromised (past_of r) a line c c none)

    Promises : Type 0
    Promises = (line : ℕ) → promise_told (past_of r) a line (c + 1) c ≡ promise_told (past_of r) a line c c

    new : Promises → (q : ℕ) → q ≡ claim.first
        → push_count q v.buffers.pushes + cond (claim.first == q) 1 0
        ≡ (if is_pushed (past_of r) a (c + 1) (c + 1) c q then 1 else 0)
    new promises q same =
        let p : Past = past_of r in
        let before : is_pushed p a c (c + 1) c claim.first ≡ false = rw k.not_before refl in
        let none : push_count claim.first v.buffers.pushes ≡ 0 = grind arith in
        let unpromised : promise_told p a claim.line (c + 1) c ≡ None = grind (arith, promise-unawaited) in
        let free : is_promised p a (c + 1) c claim.first ≡ false =
        promised-on p a (c + 1) c claim.first claim k.begun
        ∙ at-none claim.first (promise_told p a claim.line (c + 1) c) unpromised in
        let after : is_pushed p a (c + 1) (c + 1) c claim.first ≡ true = grind (arith, now-given) in
        let here : push_count claim.first v.buffers.pushes + cond (claim.first == claim.first) 1 0
        ≡ (if is_pushed p a (c + 1) (c + 1) c claim.first then 1 else 0) =
        rw (none, eq-eqb claim.first claim.first refl, after) refl in
        subst (λ x. push_count x v.buffers.pushes + cond (claim.first == x) 1 0
        ≡ (if is_pushed p a (c + 1) (c + 1) c x then 1 else 0)) (sym same) here
      where
        at-none : (q : ℕ) (o : Option ℕ) → o ≡ None → is_at o q ≡ false
        at-none q o none = rw none refl

    old : Promises → (q : ℕ) → (q ≡ claim.first → ⊥)
        → push_count q v.buffers.pushes + cond (claim.first == q) 1 0
        ≡ (if is_pushed (past_of r) a (c + 1) (c + 1) c q then 1 else 0)
    old promises q apart =
        let p : Past = past_of r in
        let given = other-given p a c q claim k.gives apart in
        let promised = promised-same p a c c (c + 1) c q promises in
        let same : is_pushed p a (c + 1) (c + 1) c q ≡ is_pushed p a c (c + 1) c q = grind arith in
        let none : cond (claim.first == q) 1 0 ≡ 0 =
        ap {B = ℕ} (λ b. cond b 1 0) (ne_eqb claim.first q (λ is. apart (sym is))) in
        let here : push_count q v.buffers.pushes + cond (claim.first == q) 1 0 ≡ push_count q v.buffers.pushes =
        omega (arith, none) in
        here ∙ h.pushes q ∙ sym (ap (λ b. if b then 1 else 0) same)

    counted : length (v.buffers.pushes ++ record { number = claim.first; bytes = bytes } ∷ [])
        ≡ length v.buffers.pushes + 1
        → owed_count v.buffers ≡ count_where (owes_bytes_from (past_of r) a (c + 1)) c
        → owed_count (with_push v.buffers claim.first bytes)
        ≡ count_where (owes_bytes_from (past_of r) a (c + 1)) (c + 1)
    counted more before = omega (arith, more, before, owes-more r a c claim k)

-- it gives bytes that have not come: they are promised
pub promised-owed : (r : Run) (a c : ℕ) (claim : Claim) (v w : AgentView) → GivesNow r a c claim
    → is_awaited (past_of r) a claim.line c c ≡ true → count_on claim.line v.buffers.fills ≡ 1
    → promise_on claim.line v.buffers.fills ≡ None
    → w.buffers ≡ record v.buffers { fills = promised_to claim.line claim.first v.buffers.fills }
    → HasBytesOwed (past_of r) a c (c + 1) c v → HasBytesOwed (past_of r) a (c + 1) (c + 1) c w
unfolding is_pushed is_promised is_at is_some_and
promised-owed r a c claim v w k awaited one free e h = record {
  pushes = λ q.
      ap (λ b. push_count q b.pushes) e ∙ h.pushes q
      ∙ sym (ap (λ b. if b then 1 else 0)
      (elim (cases_eq q claim.first) [ inl same ↦ new q same | inr other ↦ old q other ]));
  promises = λ line.
      ap (λ b. promise_on line b.fills) e
      ∙ elim (cases_eq line claim.line) [ inl same ↦ here line same | inr other ↦ elsewhere line other ];
  count =
      ap owed_count e
      ∙ counted (promised_count-more claim.line claim.first v.buffers.fills one free) h.count;
}
  where
    made : promise_told (past_of r) a claim.line (c + 1) c ≡ Some claim.first
    made = promise-made (past_of r) a c claim k.gives (k.ungranted claim.line) awaited

    unmade : promise_told (past_of r) a claim.line c c ≡ None
    unmade = sym (h.promises claim.line) ∙ free

    kept : (line : ℕ) → line ≢ claim.line
        → promise_told (past_of r) a line (c + 1) c ≡ promise_told (past_of r) a line c c
    kept line other = grind (arith, promise-kept, other-line)

    here : (line : ℕ) → line ≡ claim.line
        → promise_on line (promised_to claim.line claim.first v.buffers.fills)
        ≡ promise_told (past_of r) a line (c + 1) c
    here line same =
        subst (λ x. promise_on x (promised_to claim.line claim.first v.buffers.fills)
        ≡ promise_told (past_of r) a x (c + 1) c)
        (sym same) (promise_on-promised claim.line claim.first v.buffers.fills
        (fill-counted claim.line v.buffers.fills true one) ∙ sym made)

    elsewhere : (line : ℕ) → line ≢ claim.line
        → promise_on line (promised_to claim.line claim.first v.buffers.fills)
        ≡ promise_told (past_of r) a line (c + 1) c
    elsewhere line other = grind (arith, promise_on-other, kept)

    new : (q : ℕ) → q ≡ claim.first
        → is_pushed (past_of r) a (c + 1) (c + 1) c q ≡ is_pushed (past_of r) a c (c + 1) c q
    new q same =
        let p : Past = past_of r in
        let told : is_promised p a (c + 1) c claim.first ≡ true =
        promised-on p a (c + 1) c claim.first claim k.begun ∙ rw made (eq-eqb claim.first claim.first refl) in
        let after : is_pushed p a (c + 1) (c + 1) c claim.first ≡ false = grind arith in
        let before : is_pushed p a c (c + 1) c claim.first ≡ false = rw k.not_before refl in
        subst (λ x. is_pushed p a (c + 1) (c + 1) c x ≡ is_pushed p a c (c + 1) c x) (sym same) (after ∙ sym before)
      where
        last : (x y : Bool) → (x && not y && not true) ≡ false
        last true true = refl
        last true false = refl
        last false y = refl

    promised-kept : (q : ℕ) → (q ≡ claim.first → ⊥) → (o : Option Claim) → begun_at (past_of r) q ≡ o
        → is_promised (past_of r) a (c + 1) c q ≡ is_promised (past_of r) a c c q
    promised-kept q other None begun = rw begun refl
    promised-kept q other (Some x) begun =
        elim (cases_eq x.line claim.line) [
          | inl same ↦
              let after : is_at (promise_told (past_of r) a x.line (c + 1) c) q ≡ false =
              ap (λ line. is_at (promise_told (past_of r) a line (c + 1) c) q) same
              ∙ rw made (ne_eqb claim.first q (λ is. other (sym is))) in
              let before : is_at (promise_told (past_of r) a x.line c c) q ≡ false = grind arith in
              rw begun (after ∙ sym before)
          | inr apart ↦ rw begun (ap (λ o. is_at o q) (kept x.line apart))
        ]

    old : (q : ℕ) → (q ≡ claim.first → ⊥)
        → is_pushed (past_of r) a (c + 1) (c + 1) c q ≡ is_pushed (past_of r) a c (c + 1) c q
    old q other = grind (arith, other-given, promised-kept)

    counted : promised_count (promised_to claim.line claim.first v.buffers.fills) ≡ promised_count v.buffers.fills + 1
        → owed_count v.buffers ≡ count_where (owes_bytes_from (past_of r) a (c + 1)) c
        → owed_count (record v.buffers { fills = promised_to claim.line claim.first v.buffers.fills })
        ≡ count_where (owes_bytes_from (past_of r) a (c + 1)) (c + 1)
    counted more before = omega (arith, more, before, owes-more r a c claim k)
