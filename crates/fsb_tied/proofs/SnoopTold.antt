-- What HIT# and HITM# tell at a snoop end, in the words of the run's past.
use Rattle.fsb_tied.proofs.Words
use Words.{ℕ, ◌+◌, ◌<◌, ◌≡◌, true, false, not, ◌&&◌, Some, length, nat_eq, ap, ◌∙◌, arith, is_some_and, any_where-same}
use Words.{Kind, HIT, HITM, line_at, is_reply_kind, line_at-agree, holds_line, snooped_at, is_dirty, Claim, Past}
use Words.{SnoopEnd, Run, past_of, past_to, run_to, has_right_result, has_snoop_result, is_dirty_elsewhere}
use Words.{is_dirty_for, is_held_elsewhere, is_held_for, is_reply_end, was_hit_before, Timely, holds_at, holds_in}
use Words.{done_below, going-alike, holds_line-same, is_dirty-alike, past-begins, run_to-agrees, snooped-to}
use Rattle.fsb_signal.specs.declared.lines.Lines.{Lines}

-- a line at a clock, in the whole run and in the run up to it
pub line-whole : (line : Lines) (r : Run) (n : ℕ) → n < length r.trace
    → line_at line r.trace n ≡ line_at line (run_to r n).trace n
line-whole line r n l = line_at-agree line (n + 1) r.trace (run_to r n).trace n (run_to-agrees r n l) (omega arith)

right-by : (r : Run) (p : Past) (n : ℕ) (s : SnoopEnd) → has_snoop_result r p n ≡ true → snooped_at p n ≡ Some s
    → has_right_result r p n s ≡ true
unfolding has_snoop_result
right-by r p n s e there = rw (there, has_snoop_result) at e

-- the result at a snoop end of the run
right-at : (r : Run) (n : ℕ) (s : SnoopEnd) → Timely r → n < length r.trace → snooped_at (past_of r) n ≡ Some s
    → has_right_result (run_to r n) (past_to (past_of r) n) n s ≡ true
unfolding holds_at holds_in
right-at r n s h l there = grind (arith, right-by, snooped-to)

reply-end : (s : SnoopEnd) (kind : Kind) → s.kind ≡ Some kind → is_reply_end s ≡ is_reply_kind kind
unfolding is_reply_end is_some_and
reply-end s kind k = ap (λ o. is_some_and o is_reply_kind) k

at-reply : (r : Run) (p : Past) (n : ℕ) (s : SnoopEnd) → has_right_result r p n s ≡ true → is_reply_end s ≡ true
    → (line_at HIT r.trace n ≡ was_hit_before r p n) × (line_at HITM r.trace n ≡ false)
unfolding has_right_result
at-reply r p n s e k = grind arith

at-other : (r : Run) (p : Past) (n : ℕ) (s : SnoopEnd) → has_right_result r p n s ≡ true → is_reply_end s ≡ false
    → (line_at HITM r.trace n ≡ is_dirty_for p n s)
    × (line_at HIT r.trace n ≡ (not (is_dirty_for p n s) && is_held_for p n s))
unfolding has_right_result
at-other r p n s e k = grind arith

dirty-for : (p : Past) (n : ℕ) (s : SnoopEnd) (claim : Claim) → s.claim ≡ Some claim
    → is_dirty_for p n s ≡ is_dirty_elsewhere p claim.agent claim.line n
unfolding is_dirty_for is_some_and
dirty-for p n s claim e = ap (λ o. is_some_and o (λ c. is_dirty_elsewhere p c.agent c.line n)) e

held-for : (p : Past) (n : ℕ) (s : SnoopEnd) (claim : Claim) → s.claim ≡ Some claim
    → is_held_for p n s ≡ is_held_elsewhere p claim.agent claim.line n
unfolding is_held_for is_some_and
held-for p n s claim e = ap (λ o. is_some_and o (λ c. is_held_elsewhere p c.agent c.line n)) e

-- what is told at the snoop end at n of agent a's request for the line: HITM# that another agent is dirty on it, and
-- HIT# that none is and another agent holds it
pub record IsTold (r : Run) (line n a : ℕ) : Type 0 where
  pub dirty : line_at HITM r.trace n ≡ is_dirty_elsewhere (past_to (past_of r) n) a line n
  pub held : line_at HIT r.trace n
      ≡ (not (is_dirty_elsewhere (past_to (past_of r) n) a line n)
      && is_held_elsewhere (past_to (past_of r) n) a line n)

pub told-at : (r : Run) (n : ℕ) (s : SnoopEnd) (claim : Claim) (kind : Kind) → Timely r → n < length r.trace
    → snooped_at (past_of r) n ≡ Some s → s.claim ≡ Some claim → s.kind ≡ Some kind → is_reply_kind kind ≡ false
    → IsTold r claim.line n claim.agent
told-at r n s claim kind h l there claimed known plain =
    let p = past_to (past_of r) n in
    let right = at-other (run_to r n) p n s (right-at r n s h l there) (reply-end s kind known ∙ plain) in
    let dirty = dirty-for p n s claim claimed in
    let held = held-for p n s claim claimed in
    record {
      dirty = line-whole HITM r n l ∙ right.0 ∙ dirty;
      held = line-whole HIT r n l ∙ right.1 ∙ (λ i. not (dirty i) && held i);
    }

-- what is told at the snoop end of a reply at n: HIT# what it told at the snoop end of the request that is answered
pub record IsToldAgain (r : Run) (n : ℕ) : Type 0 where
  pub clean : line_at HITM r.trace n ≡ false
  pub hit : line_at HIT r.trace n ≡ was_hit_before (run_to r n) (past_to (past_of r) n) n

pub told-again : (r : Run) (n : ℕ) (s : SnoopEnd) (kind : Kind) → Timely r → n < length r.trace
    → snooped_at (past_of r) n ≡ Some s → s.kind ≡ Some kind → is_reply_kind kind ≡ true → IsToldAgain r n
told-again r n s kind h l there known reply =
    let p = past_to (past_of r) n in
    let right = at-reply (run_to r n) p n s (right-at r n s h l there) (reply-end s kind known ∙ reply) in
    record { clean = line-whole HITM r n l ∙ right.1; hit = line-whole HIT r n l ∙ right.0 }

-- who holds a line at a clock, and who is dirty on it, is told by the past up to it
pub held-whole : (r : Run) (n a line : ℕ) → Timely r → n < length r.trace
    → is_held_elsewhere (past_to (past_of r) n) a line n ≡ is_held_elsewhere (past_of r) a line n
unfolding is_held_elsewhere
held-whole r n a line h l =
    let p = past_to (past_of r) n in
    let alike = going-alike (n + 1) p (past_of r) (past-begins r n h l) in
    any_where-same (λ b. not (nat_eq b a) && holds_line p b line n)
    (λ b. not (nat_eq b a) && holds_line (past_of r) b line n) 4
    (record {
      same = λ b m. ap (λ x. not (nat_eq b a) && x) (holds_line-same (n + 1) p (past_of r) b line n alike
          (omega arith));
    })

pub dirty-whole : (r : Run) (n b line : ℕ) → Timely r → n < length r.trace
    → is_dirty (past_to (past_of r) n) b line n ≡ is_dirty (past_of r) b line n
dirty-whole r n b line h l =
    let p = past_to (past_of r) n in
    let goes = past-begins r n h l in
    is_dirty-alike (n + 1) p (past_of r) b line n goes (omega arith)
    (done_below (n + 1) p b n goes.entries (omega arith) goes.at_end)
