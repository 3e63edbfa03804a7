-- LOCK# of the clock, and which agents keep the bus locked into it.
use Rattle.fsb_bench_run.proofs.Words
use Words.{ℕ, zero, suc, ◌+◌, ◌<◌, ◌≡◌, ◌&&◌, ◌||◌, Bool, true, false, not, Option, Some, List, is_some, length, refl}
use Words.{sym, ap, subst, ◌∙◌, arith, inl, inr, beq, list_any, or_cases, or_left, or_right, any_where, holds_since}
use Words.{last_where, is_some_and, any_where-at, any_where-found, holds_since-more, Choice, get-there, longer, ADS}
use Words.{LOCK, line_at, winner-four, drives_lock, is_begun_by, is_locked_request, is_release, is_released_before}
use Words.{keeps_lock, agent_at, claim_at, Past, Run, past_of, holds_at, begun-told, line_of, winner_at, Who, Symmetric}
use Words.{Request, Starting, step_decided, step_performed, was_held_at, asked_by, is_lock_driven, starting_for}
use Words.{BenchView, next_clock_of, IsBegunAt, IsBenchOf, keeps_into, kept_into, Done}
use Rattle.fsb_bench_run.proofs.DrivenLines.{line-with, lock-driven}
use Rattle.fsb_bench_run.proofs.LockedStarts.{locked-start}
use Rattle.fsb_bench_run.proofs.LocksStay.{keeps_into-grown}
use Rattle.fsb_bench_run.proofs.StartingNow.{starting-begins, starting-parts}
use Rattle.fsb_bench_run.proofs.StepFields.{performed-begun}
use Rattle.fsb_bench_run.proofs.ThisClock.{holds-now}
use Rattle.fsb_bench_run.proofs.RunWith.{run_with}
use Rattle.fsb_bench_run.proofs.StepWith.{IsStepWith, begins-with}

-- two tests are the same where each passes with the other
pub same-bools : (a b : Bool) → (a ≡ true → b ≡ true) → (b ≡ true → a ≡ true) → a ≡ b
same-bools a b h1 h2 = grind arith

keeps-since : (p : Past) (c a : ℕ)
    → keeps_lock p c a ≡ holds_since (is_locked_request p a) (is_released_before p a) (c + 1)
unfolding keeps_lock
keeps-since p c a = refl

into-zero : (p : Past) (a : ℕ) → keeps_into p 0 a ≡ false
unfolding keeps_into
into-zero p a = refl

into-suc : (p : Past) (c a : ℕ) → keeps_into p (suc c) a ≡ (keeps_lock p c a && not (is_release p a c))
unfolding keeps_into
into-suc p c a = refl

since-zero : (gain loss : ℕ → Bool) → holds_since gain loss 0 ≡ false
unfolding holds_since last_where
since-zero gain loss = refl

-- an agent keeps the bus locked where it begins a locked request, or keeps it locked into the clock
pub keeps_lock-into : (p : Past) (c a : ℕ) → keeps_lock p c a ≡ (is_locked_request p a c || keeps_into p c a)
unfolding is_released_before
keeps_lock-into p zero a =
    keeps-since p 0 a ∙ holds_since-more (is_locked_request p a) (is_released_before p a) 0
    ∙ ap (λ b. is_locked_request p a 0 || b)
    (ap (λ b. b && not (is_released_before p a 0)) (since-zero (is_locked_request p a) (is_released_before p a))
    ∙ sym (into-zero p a))
keeps_lock-into p (suc c) a = grind (arith, keeps-since, holds_since-more, into-suc)

-- who begins a request has begun it
pub agent-begins : (r : Run) (q a : ℕ) (request : Request) → q < length r.trace → IsBegunAt r q (Symmetric a) request
    → is_begun_by (past_of r) a q ≡ true
unfolding is_begun_by claim_at agent_at line_of is_some_and
agent-begins r q a request l b =
    let x = get-there r.trace q l in
    grind (arith, begun-told)

-- what is locked begins for an agent
locked-agent : (v : BenchView) (hold : Bool) (starting : Starting) (who : Who)
    → starting_for (step_performed v) (step_decided v hold).asked who ≡ Some starting → starting.locked ≡ true
    → (a : ℕ) × (who ≡ Symmetric a) × (starting.who ≡ Symmetric a)
locked-agent v hold starting who h1 h2 = grind arith

some-locked : (o : Option Starting) → is_some_and o (λ (s : Starting). s.locked) ≡ true
    → (s : Starting) × (o ≡ Some s) × (s.locked ≡ true)
unfolding is_some_and
some-locked o h1 = grind arith

locked-some : (o : Option Starting) (s : Starting) → o ≡ Some s → s.locked ≡ true
    → is_some_and o (λ (s : Starting). s.locked) ≡ true
unfolding is_some_and
locked-some o s e f = rw e f

kept-found : (p : Past) (c : ℕ) → list_any (λ (kept : Bool). kept) (kept_into p c) ≡ true
    → (a : ℕ) × (a < 4) × (keeps_into p c a ≡ true)
kept-found p c e = grind arith

kept-there : (p : Past) (c a : ℕ) → a < 4 → keeps_into p c a ≡ true
    → list_any (λ (kept : Bool). kept) (kept_into p c) ≡ true
kept-there p c a h1 h2 = grind arith

pub locked-begins : (p : Past) (a c : ℕ) → is_locked_request p a c ≡ true → is_begun_by p a c ≡ true
unfolding is_locked_request
locked-begins p a c e = grind arith

pub begun-ads : (r : Run) (a q : ℕ) → q < length r.trace → is_begun_by (past_of r) a q ≡ true
    → line_at ADS r.trace q ≡ true
unfolding is_begun_by is_some_and
begun-ads r a q l e = grind (arith, begun-told)

pub some-there : (o : Option Starting) → is_some o ≡ true → (s : Starting) × (o ≡ Some s)
some-there o h1 = grind arith

-- a locked request begins exactly where the run has one of an agent
pub locked-now : (v : BenchView) (hold : Bool) (choice : Choice) (entries : List Done)
    → IsStepWith v hold choice entries
    → is_some_and (step_decided v hold).starting (λ (s : Starting). s.locked) ≡ true
    → (a : ℕ) × (a < 4) × (is_locked_request (past_of (run_with v hold choice entries)) a (next_clock_of v) ≡ true)
locked-now v hold choice entries b e =
    let r = v.run in
    let s = run_with v hold choice entries in
    let grows = b.grows in
    let size = longer r s grows in
    let some = some-locked (step_decided v hold).starting e in
    let parts = starting-parts (step_performed v) (winner_at r.trace (next_clock_of v)) (next_clock_of v)
    (asked_by (step_performed v) (next_clock_of v)) (was_held_at r.holds (next_clock_of v)) some.0 some.1 in
    let k = locked-agent v hold some.0 parts.1 parts.3 some.2 in
    let begins = starting-begins v hold choice entries some.0 b some.1 in
    let mine = subst (λ w. IsBegunAt s (next_clock_of v) w some.0.request) k.2 begins in
    let begun = agent-begins s (next_clock_of v) k.0 some.0.request (omega arith) mine in
    let won = parts.2 ∙ ap Some k.1 in (
      k.0,
      winner-four r.trace (next_clock_of v) k.0 won,
      sym (locked-start v hold choice entries some.0 k.0 b some.1 begun) ∙ some.2,
    )

pub locking-now : (v : BenchView) (hold : Bool) (choice : Choice) (entries : List Done) (a : ℕ)
    → IsStepWith v hold choice entries
    → is_locked_request (past_of (run_with v hold choice entries)) a (next_clock_of v) ≡ true
    → is_some_and (step_decided v hold).starting (λ (s : Starting). s.locked) ≡ true
locking-now v hold choice entries a b e =
    let r = v.run in
    let s = run_with v hold choice entries in
    let grows = b.grows in
    let size = longer r s grows in
    let begun = locked-begins (past_of s) a (next_clock_of v) e in
    let ads = begun-ads s a (next_clock_of v) (omega arith) begun in
    let some = some-there (step_decided v hold).starting (sym (begins-with v hold choice entries) ∙ ads) in
    locked-some (step_decided v hold).starting some.0 some.1
    (locked-start v hold choice entries some.0 a b some.1 begun ∙ e)

kept-same : (v : BenchView) → IsBenchOf v → (step_performed v).kept ≡ kept_into (past_of v.run) (next_clock_of v)
kept-same v b = (performed-begun v).kept ∙ b.kept

pub lock-now : (v : BenchView) (hold : Bool) (choice : Choice) (entries : List Done) → IsStepWith v hold choice entries
    → is_lock_driven (step_performed v) (step_decided v hold).starting
    ≡ any_where (keeps_lock (past_of (run_with v hold choice entries)) (next_clock_of v)) 4
lock-now v hold choice entries b =
    let r = v.run in
    let s = run_with v hold choice entries in
    let p = past_of s in
    let n = next_clock_of v in
    let grows = b.grows in
    let locked = is_some_and (step_decided v hold).starting (λ (s : Starting). s.locked) in
    let kept = list_any (λ (kept : Bool). kept) (kept_into (past_of r) n) in
    let same : (list_any (λ (kept : Bool). kept) (step_performed v).kept || locked) ≡ (kept || locked) =
    ap (λ xs. list_any (λ (kept : Bool). kept) xs || locked) (kept-same v b.bench) in
    same ∙ same-bools (kept || locked) (any_where (keeps_lock p n) 4) (λ e.
    elim (or_cases kept locked e) [
      | inl t ↦
          let k = kept-found (past_of r) n t in
          any_where-at (keeps_lock p n) 4 k.0 k.1
          (keeps_lock-into p n k.0
          ∙ or_right (is_locked_request p k.0 n) (keeps_into p n k.0) (keeps_into-grown r s k.0 grows ∙ k.2))
      | inr t ↦
          let k = locked-now v hold choice entries b t in
          any_where-at (keeps_lock p n) 4 k.0 k.1
          (keeps_lock-into p n k.0 ∙ or_left (is_locked_request p k.0 n) (keeps_into p n k.0) k.2)
    ]) (λ e.
    let k = any_where-found (keeps_lock p n) 4 e in
    elim (or_cases (is_locked_request p k.0 n) (keeps_into p n k.0) (sym (keeps_lock-into p n k.0) ∙ k.2)) [
      | inl t ↦ or_right kept locked (locking-now v hold choice entries k.0 b t)
      | inr t ↦ or_left kept locked (kept-there (past_of r) n k.0 k.1 (sym (keeps_into-grown r s k.0 grows) ∙ t))
    ])

pub same-beq : (a b : Bool) → a ≡ b → beq a b ≡ true
same-beq a b h1 = grind arith

-- LOCK# is as it must
pub lock-driven-now : (v : BenchView) (hold : Bool) (choice : Choice) (entries : List Done)
    → IsStepWith v hold choice entries
    → holds_at drives_lock (run_with v hold choice entries) (next_clock_of v) ≡ true
unfolding drives_lock
lock-driven-now v hold choice entries b =
    let s = run_with v hold choice entries in
    holds-now drives_lock v.run s b.grows
    (same-beq (line_at LOCK s.trace (next_clock_of v)) (any_where (keeps_lock (past_of s) (next_clock_of v)) 4)
    (line-with v hold choice entries LOCK
    ∙ lock-driven (step_performed v) (next_clock_of v) v.run.plan.profile (step_decided v hold)
    ∙ lock-now v hold choice entries b))
