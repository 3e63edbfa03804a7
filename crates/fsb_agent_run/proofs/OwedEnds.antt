-- What an agent owes after the ends of a clock: where a line comes whose bytes are promised, they are there.
use Rattle.fsb_agent_run.proofs.Words
use Words.{ℕ, ◌+◌, ◌<◌, ◌≡◌, ◌≢◌, Bool, true, false, cond, if◌then◌else◌, List, Option, Some, None, length}
use Words.{length-append, nat_eq, refl, sym, ap, ◌∙◌, inl, inr, arith, ◌==◌, cases_eq, eq-eqb, false_from_ne_true}
use Words.{count_where, is_at, is_some_and, any_where-at, any_where-off, is_at-some, copies, Push, fills_without}
use Words.{promise_on, pushed_to, Claim, Past, begun_at, Run, past_of, Timely, is_ended-more, KeepsBounds, responded_in}
use Words.{is_responded_below, OwnRequest, AgentView, arrived_for, buffers_landed, ended_for, line_arrived, met_by}
use Words.{upgrade_ended, request_numbered, owed_count, HasBytesOwed, claim_given_at, is_given_below, is_promised}
use Words.{is_pushed, owes_bytes_from, promise_told, is_awaited, one_if}
use Rattle.std.specs.Prelude.{is_some}
use Rattle.fsb_agent_run.proofs.AwaitedFills.{HasFillsOf}
use Rattle.fsb_agent_run.proofs.BufferCounts.{promise_on-none, promise_on-without, push_count, push_count-pushed}
use Rattle.fsb_agent_run.proofs.FillCounts.{count-without_other, count-without_this, count_on}
use Rattle.fsb_agent_run.proofs.FillsTold.{promised_count, promised_count-without}
use Rattle.fsb_agent_run.proofs.GivenBytes.{given}
use Rattle.fsb_agent_run.proofs.PromiseSteps.{promised-same, unawaited-unpromised}
use Rattle.fsb_agent_run.proofs.PromisesTold.{promised-at, promised-unresponded}

-- the promise of a line that is awaited as before stays
told-same : (p : Past) (a line n c d : ℕ) → is_awaited p a line n d ≡ is_awaited p a line n c
    → promise_told p a line n d ≡ promise_told p a line n c
unfolding promise_told
told-same p a line n c d same = grind arith

one-same : (x y : Bool) → one_if x ≡ one_if y → x ≡ y
one-same x y h1 = grind arith

-- where no line comes, nothing that is owed changes
pub ends-kept : (p : Past) (a n r c d : ℕ) (v w : AgentView) → w.buffers ≡ v.buffers → HasFillsOf p a n c v
    → HasFillsOf p a n d w → HasBytesOwed p a n r c v → HasBytesOwed p a n r d w
unfolding is_pushed
ends-kept p a n r c d v w e before after owed = grind (arith, told-same, promised-same)

is_for-at : (q : ℕ) (to : Option ℕ) → elim to [ None ↦ false | Some number ↦ number == q ] ≡ is_at to q
unfolding is_at is_some_and
is_for-at q to = grind arith

length-pushed : (to : Option ℕ) (bytes : List ℕ) (pushes : List Push)
    → length (pushed_to to bytes pushes) ≡ length pushes + cond (is_some to) 1 0
length-pushed to bytes pushes = grind (arith, length-append)

-- the line that comes to an agent, and its buffers before and after
record Lands (r : Run) (a c line : ℕ) (bytes : List ℕ) (v w : AgentView) : Type 0 where
  landed : w.buffers ≡ buffers_landed v.buffers line bytes
  before : HasFillsOf (past_of r) a (c + 1) c v
  after : HasFillsOf (past_of r) a (c + 1) (c + 1) w
  owed : HasBytesOwed (past_of r) a (c + 1) (c + 1) c v

awaited-later : (p : Past) (a line n c : ℕ) → is_awaited p a line n c ≡ false → is_awaited p a line n (c + 1) ≡ false
unfolding is_awaited is_some_and
awaited-later p a line n c none = grind (arith, is_ended-more)

-- it is awaited no more, and none of its fills is left
gone : (r : Run) (a c line : ℕ) (bytes : List ℕ) (v w : AgentView) → Lands r a c line bytes v w
    → is_awaited (past_of r) a line (c + 1) (c + 1) ≡ false
gone r a c line bytes v w k = by (is_awaited (past_of r) a line (c + 1) c) refl
  where
    by : (b : Bool) → is_awaited (past_of r) a line (c + 1) c ≡ b
        → is_awaited (past_of r) a line (c + 1) (c + 1) ≡ false
    by false e = awaited-later (past_of r) a line (c + 1) c e
    by true e =
        let one : count_on line v.buffers.fills ≡ 1 = k.before.fills line ∙ ap one_if e in
        one-same (is_awaited (past_of r) a line (c + 1) (c + 1)) false
        (sym (k.after.fills line) ∙ ap (λ b. count_on line b.fills) k.landed
        ∙ count-without_this line v.buffers.fills one)

none-left : (r : Run) (a c line : ℕ) (bytes : List ℕ) (v w : AgentView) → Lands r a c line bytes v w
    → count_on line (fills_without line v.buffers.fills) ≡ 0
none-left r a c line bytes v w k =
    ap (λ b. count_on line b.fills) (sym k.landed) ∙ k.after.fills line ∙ ap one_if (gone r a c line bytes v w k)

-- nothing is promised of it behind
told-none : (r : Run) (a c line : ℕ) (bytes : List ℕ) (v w : AgentView) → Lands r a c line bytes v w
    → promise_told (past_of r) a line (c + 1) (c + 1) ≡ None
told-none r a c line bytes v w k = grind (arith, unawaited-unpromised, gone)

-- and other lines are promised as before
told-kept : (r : Run) (a c line : ℕ) (bytes : List ℕ) (v w : AgentView) → Lands r a c line bytes v w → (other : ℕ)
    → other ≢ line → promise_told (past_of r) a other (c + 1) (c + 1) ≡ promise_told (past_of r) a other (c + 1) c
told-kept r a c line bytes v w k other apart =
    told-same (past_of r) a other (c + 1) c (c + 1)
    (one-same (is_awaited (past_of r) a other (c + 1) (c + 1)) (is_awaited (past_of r) a other (c + 1) c)
    (sym (k.after.fills other) ∙ ap (λ b. count_on other b.fills) k.landed
    ∙ count-without_other other line v.buffers.fills apart ∙ k.before.fills other))

-- so is a request to which the line is not promised
promised-kept : (r : Run) (a c line : ℕ) (bytes : List ℕ) (v w : AgentView) → Lands r a c line bytes v w → (q : ℕ)
    → is_at (promise_told (past_of r) a line (c + 1) c) q ≡ false
    → is_promised (past_of r) a (c + 1) (c + 1) q ≡ is_promised (past_of r) a (c + 1) c q
unfolding is_promised is_some_and is_at
promised-kept r a c line bytes v w k q free = grind (arith, told-none, told-kept)

-- the pushes for it are the same
pushed-kept : (r : Run) (a c line : ℕ) (bytes : List ℕ) (v w : AgentView) → Lands r a c line bytes v w → (q : ℕ)
    → is_at (promise_told (past_of r) a line (c + 1) c) q ≡ false
    → is_pushed (past_of r) a (c + 1) (c + 1) (c + 1) q ≡ is_pushed (past_of r) a (c + 1) (c + 1) c q
unfolding is_pushed
pushed-kept r a c line bytes v w k q free = grind (arith, promised-kept)

-- the request that the line is promised to
record Promised (r : Run) (a c line q : ℕ) : Type 0 where
  given : is_given_below (past_of r) a (c + 1) q ≡ true
  unresponded : is_responded_below (past_of r) (c + 1) q ≡ false
  claim : Claim
  begun : begun_at (past_of r) q ≡ Some claim
  names : claim.line ≡ line

promised-to : (r : Run) (a c line q : ℕ) → Timely r → KeepsBounds r.plan → c < length r.trace
    → promise_told (past_of r) a line (c + 1) c ≡ Some q → Promised r a c line q
unfolding is_given_below is_responded_below is_some_and
promised-to r a c line q h bounds l told =
    let p : Past = past_of r in
    let k = promised-at p a line (c + 1) c q told in
    let below : k.at < c + 1 = k.below in
    let g = given r a k.at k.claim h bounds (omega arith) k.given in
    record {
      given = any_where-at (λ t. is_some_and (claim_given_at p a t) (λ claim. nat_eq claim.first q)) (c + 1) k.at below
          (rw k.given (eq-eqb k.claim.first q k.first));
      unresponded = any_where-off (λ u. is_at (responded_in p u) q) (c + 1) (λ u low.
          false_from_ne_true (is_at (responded_in p u) q) (λ e.
          promised-unresponded r a line (c + 1) c q u h bounds (omega arith) (omega arith) (omega arith) told
          (is_at-some (responded_in p u) q e)));
      claim = k.claim;
      begun = ap (begun_at p) (sym k.first) ∙ g.begun;
      names = k.names;
    }

-- it had no push, and gets one
pushed-new : (r : Run) (a c line : ℕ) (bytes : List ℕ) (v w : AgentView) → Lands r a c line bytes v w → (q : ℕ)
    → promise_told (past_of r) a line (c + 1) c ≡ Some q → Promised r a c line q
    → (is_pushed (past_of r) a (c + 1) (c + 1) c q ≡ false) × (is_pushed (past_of r) a (c + 1) (c + 1) (c + 1) q ≡ true)
unfolding is_pushed is_promised is_some_and is_at
pushed-new r a c line bytes v w k q told m = grind (arith, told-none)

-- the line comes: what was promised is pushed
landed-pushes : (r : Run) (a c line : ℕ) (bytes : List ℕ) (v w : AgentView) → Timely r → KeepsBounds r.plan
    → c < length r.trace → Lands r a c line bytes v w → (q : ℕ) (b : Bool)
    → is_at (promise_told (past_of r) a line (c + 1) c) q ≡ b
    → push_count q v.buffers.pushes + cond b 1 0 ≡ (if is_pushed (past_of r) a (c + 1) (c + 1) (c + 1) q then 1 else 0)
landed-pushes r a c line bytes v w h1 h2 h3 h4 q b h5 =
    grind (arith, is_at-some, pushed-new, promised-to, pushed-kept)

landed-owed : (r : Run) (a c line : ℕ) (bytes : List ℕ) (v w : AgentView) → Timely r → KeepsBounds r.plan
    → c < length r.trace → Lands r a c line bytes v w → HasBytesOwed (past_of r) a (c + 1) (c + 1) (c + 1) w
landed-owed r a c line bytes v w h bounds l k = record {
  pushes = λ q.
      ap (λ b. push_count q b.pushes) k.landed
      ∙ push_count-pushed q (promise_on line v.buffers.fills) bytes v.buffers.pushes
      ∙ ap (λ b. push_count q v.buffers.pushes + cond b 1 0)
      (is_for-at q (promise_on line v.buffers.fills) ∙ ap (λ o. is_at o q) (k.owed.promises line))
      ∙ landed-pushes r a c line bytes v w h bounds l k q (is_at (promise_told (past_of r) a line (c + 1) c) q) refl;
  promises = λ other.
      ap (λ b. promise_on other b.fills) k.landed
      ∙ elim (cases_eq other line) [ inl same ↦ here other same | inr apart ↦ elsewhere other apart ];
  count =
      ap owed_count k.landed
      ∙ counted (length-pushed (promise_on line v.buffers.fills) bytes v.buffers.pushes)
      (promised_count-without line v.buffers.fills) k.owed.count;
}
  where
    here : (other : ℕ) → other ≡ line
        → promise_on other (fills_without line v.buffers.fills) ≡ promise_told (past_of r) a other (c + 1) (c + 1)
    here other same = grind (arith, promise_on-none, none-left, told-none)

    elsewhere : (other : ℕ) → other ≢ line
        → promise_on other (fills_without line v.buffers.fills) ≡ promise_told (past_of r) a other (c + 1) (c + 1)
    elsewhere other apart = grind (arith, promise_on-without, told-kept)

    counted : length (pushed_to (promise_on line v.buffers.fills) bytes v.buffers.pushes)
        ≡ length v.buffers.pushes + cond (is_some (promise_on line v.buffers.fills)) 1 0
        → promised_count (fills_without line v.buffers.fills) + cond (is_some (promise_on line v.buffers.fills)) 1 0
        ≡ promised_count v.buffers.fills
        → owed_count v.buffers ≡ count_where (owes_bytes_from (past_of r) a (c + 1)) (c + 1)
        → owed_count (buffers_landed v.buffers line bytes) ≡ count_where (owes_bytes_from (past_of r) a (c + 1)) (c + 1)
    counted longer fewer before = omega (arith, longer, fewer, before)

met-kept : (v : AgentView) (clock : ℕ) (out : OwnRequest) (bytes : List ℕ)
    → (met_by v clock out bytes).buffers ≡ v.buffers
met-kept v clock out bytes = grind arith

arrived-owed : (r : Run) (a c : ℕ) (out : OwnRequest) (bytes : List ℕ) (v : AgentView) → Timely r → KeepsBounds r.plan
    → c < length r.trace → HasFillsOf (past_of r) a (c + 1) c v
    → HasFillsOf (past_of r) a (c + 1) (c + 1) (arrived_for v c out bytes)
    → HasBytesOwed (past_of r) a (c + 1) (c + 1) c v
    → HasBytesOwed (past_of r) a (c + 1) (c + 1) (c + 1) (arrived_for v c out bytes)
arrived-owed r a c out bytes v h bounds l before after owed =
    let come : List ℕ = copies (met_by v c out bytes).lines out.request.line in
    landed-owed r a c out.request.line come v (arrived_for v c out bytes) h bounds l
    (record {
      landed = ap (λ b. buffers_landed b out.request.line come) (met-kept v c out bytes);
      before = before;
      after = after;
      owed = owed;
    })

pub line-owed : (r : Run) (a c number : ℕ) (bytes : List ℕ) (v : AgentView) → Timely r → KeepsBounds r.plan
    → c < length r.trace → HasFillsOf (past_of r) a (c + 1) c v
    → HasFillsOf (past_of r) a (c + 1) (c + 1) (line_arrived v c number bytes)
    → HasBytesOwed (past_of r) a (c + 1) (c + 1) c v
    → HasBytesOwed (past_of r) a (c + 1) (c + 1) (c + 1) (line_arrived v c number bytes)
line-owed r a c number bytes v h bounds l before after owed = grind (arith, ends-kept, arrived-owed)

pub upgrade-owed : (r : Run) (a c number : ℕ) (v : AgentView) → Timely r → KeepsBounds r.plan
    → c < length r.trace → HasFillsOf (past_of r) a (c + 1) c v
    → HasFillsOf (past_of r) a (c + 1) (c + 1) (upgrade_ended v c number)
    → HasBytesOwed (past_of r) a (c + 1) (c + 1) c v
    → HasBytesOwed (past_of r) a (c + 1) (c + 1) (c + 1) (upgrade_ended v c number)
upgrade-owed r a c number v h bounds l before after owed = go (request_numbered number v.outs) refl
  where
    kept : (out : OwnRequest) (bytes : Option (List ℕ)) → out.kept ≡ bytes
        → HasFillsOf (past_of r) a (c + 1) (c + 1) (ended_for v c out)
        → HasBytesOwed (past_of r) a (c + 1) (c + 1) (c + 1) (ended_for v c out)
    kept out bytes h1 h2 = grind (arith, ends-kept, arrived-owed)

    go : (found : Option OwnRequest) → request_numbered number v.outs ≡ found
        → HasBytesOwed (past_of r) a (c + 1) (c + 1) (c + 1) (upgrade_ended v c number)
    go found h1 = grind (arith, ends-kept, kept)
