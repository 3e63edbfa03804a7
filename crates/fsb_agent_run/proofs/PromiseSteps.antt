-- What is promised of a line, one snoop end further.
use Rattle.fsb_agent_run.proofs.Words
use Words.{ℕ, ◌+◌, ◌≡◌, Bool, true, false, if◌then◌else◌, Option, Some, None, refl, ap, ◌∙◌, arith, add-one}
use Words.{option_and_then, eq-eqb, le-leb, lt-leb, any_where, from_clock, last_where, is_some_and, any_where-at}
use Words.{any_where-more, any_where-off, last_where-failed, last_where-passed, Claim, Past, is_granted}
use Words.{last_where-found, latest_grant-more, claim_given_at, given_since, gives_line_at, is_promised, promise_told}
use Words.{is_awaited}

-- a line that is not granted is awaited as before
pub awaited-kept : (p : Past) (a line c : ℕ) → is_granted p a line c ≡ false
    → is_awaited p a line (c + 1) c ≡ is_awaited p a line c c
unfolding is_awaited
awaited-kept p a line c none = grind (arith, latest_grant-more)

-- a line that is not awaited is not promised
pub unawaited-unpromised : (p : Past) (a line n c : ℕ) → is_awaited p a line n c ≡ false
    → promise_told p a line n c ≡ None
unfolding promise_told
unawaited-unpromised p a line n c none = rw none refl

since-kept : (p : Past) (a line c t : ℕ) → is_granted p a line c ≡ false
    → given_since p a line (c + 1) t ≡ given_since p a line c t
unfolding given_since from_clock
since-kept p a line c t none = grind (arith, any_where-more)

last-kept : (p : Past) (a line c : ℕ) → gives_line_at p a line c ≡ false
    → last_where (gives_line_at p a line) (c + 1) ≡ last_where (gives_line_at p a line) c
last-kept p a line c none = rw add-one (last_where-failed (gives_line_at p a line) c none)

-- where the line is neither given nor granted, its promise stays
pub promise-kept : (p : Past) (a line c : ℕ) → gives_line_at p a line c ≡ false → is_granted p a line c ≡ false
    → promise_told p a line (c + 1) c ≡ promise_told p a line c c
unfolding promise_told
promise-kept p a line c ungiven ungranted = grind (arith, awaited-kept, last-kept, since-kept)

-- where it is granted, nothing is promised of it
pub promise-granted : (p : Past) (a line c : ℕ) → gives_line_at p a line c ≡ false → is_granted p a line c ≡ true
    → promise_told p a line (c + 1) c ≡ None
unfolding promise_told given_since from_clock
promise-granted p a line c ungiven granted =
    let told = ap (option_and_then (given_since p a line (c + 1))) (last-kept p a line c ungiven)
    ∙ by (last_where (gives_line_at p a line) c) refl in
    ap (λ o. if is_awaited p a line (c + 1) c then o else None) told ∙ either (is_awaited p a line (c + 1) c)
  where
    either : (b : Bool) → ◌≡◌ {A = Option ℕ} (if b then None else None) None
    either b = grind arith

    by : (o : Option ℕ) → last_where (gives_line_at p a line) c ≡ o
        → option_and_then (given_since p a line (c + 1)) o ≡ None
    by None e = refl
    by (Some t) e =
        let below = (last_where-found (gives_line_at p a line) c t e).0 in
        let since : any_where (from_clock (t + 1) (is_granted p a line)) (c + 1) ≡ true =
        any_where-at (from_clock (t + 1) (is_granted p a line)) (c + 1) c (omega arith)
        (rw (le-leb (t + 1) c (omega arith)) granted) in
        rw since refl

-- where it is given and awaited, it is promised
pub promise-made : (p : Past) (a c : ℕ) (claim : Claim) → claim_given_at p a c ≡ Some claim
    → is_granted p a claim.line c ≡ false → is_awaited p a claim.line c c ≡ true
    → promise_told p a claim.line (c + 1) c ≡ Some claim.first
unfolding promise_told given_since from_clock gives_line_at is_some_and
promise-made p a c claim gives ungranted awaits =
    let line : ℕ = claim.line in
    let awaited : is_awaited p a line (c + 1) c ≡ true = awaited-kept p a line c ungranted ∙ awaits in
    let here : gives_line_at p a line c ≡ true = rw gives (eq-eqb line line refl) in
    let last : last_where (gives_line_at p a line) (c + 1) ≡ Some c =
    rw add-one (last_where-passed (gives_line_at p a line) c here) in
    let none : any_where (from_clock (c + 1) (is_granted p a line)) (c + 1) ≡ false =
    any_where-off (from_clock (c + 1) (is_granted p a line)) (c + 1) (λ t low. rw (lt-leb (c + 1) t low) refl) in
    rw (awaited, last, none, gives) refl

-- and where it is given and not awaited, nothing is promised of it
pub promise-unawaited : (p : Past) (a line c : ℕ) → is_granted p a line c ≡ false → is_awaited p a line c c ≡ false
    → promise_told p a line (c + 1) c ≡ None
promise-unawaited p a line c ungranted none = grind (arith, unawaited-unpromised, awaited-kept)

-- where each promise is the same, so is what is promised to a request
pub promised-same : (p : Past) (a n c m d q : ℕ) → ((line : ℕ) → promise_told p a line m d ≡ promise_told p a line n c)
    → is_promised p a m d q ≡ is_promised p a n c q
unfolding is_promised is_some_and
promised-same p a n c m d q same = grind arith
