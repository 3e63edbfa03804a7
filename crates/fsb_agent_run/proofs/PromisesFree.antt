-- A line on which an agent is dirty is promised to nobody.
use Rattle.fsb_agent_run.proofs.Words
use Words.{ℕ, ◌+◌, ◌<◌, ◌≤◌, ◌≡◌, ◌≢◌, Bool, true, not, ◌&&◌, Some, None, length, sym, ap, ◌∙◌, inl, inr, arith}
use Words.{and_parts, both_ways, le-leb, not-true, any_where, from_clock, holds_since, last_where, is_some_and}
use Words.{any_where-at, WriteBack, is_write_back_kind, Claim, Past, SnoopEnd, holds_line, is_claim_of}
use Words.{is_claim_of_other, is_exclusive, is_granted, is_lost, is_named_by_other, is_snooped, is_sole_grant}
use Words.{is_written_back, latest_grant, snooped_at, is_dirty, Run, past_of, Timely, KeepsBounds, promise_told}
use Rattle.fsb_agent_run.proofs.GivenBytes.{given, gives-by, written-kind}
use Rattle.fsb_agent_run.proofs.PromisesTold.{awaits-by, promised-at, promised-later}

-- where something has been lost since the last gain it has not held since
lost-since : (gain loss : ℕ → Bool) (n c t : ℕ) → last_where gain n ≡ Some c → c < t → t < n → loss t ≡ true
    → holds_since gain loss n ≡ true → ⊥
unfolding holds_since from_clock
lost-since gain loss n c t last late below lost holds =
    let kept : not (any_where (from_clock (c + 1) loss) n) ≡ true = rw (last, holds_since) at holds in
    both_ways (any_where (from_clock (c + 1) loss) n) (not-true (any_where (from_clock (c + 1) loss) n) kept)
    (any_where-at (from_clock (c + 1) loss) n t below (rw (le-leb (c + 1) t (omega arith)) lost))

named-by : (p : Past) (a line t : ℕ) (s : SnoopEnd) (claim : Claim) → snooped_at p t ≡ Some s → s.claim ≡ Some claim
    → a ≢ claim.agent → claim.line ≡ line → is_named_by_other p a line t ≡ true
unfolding is_named_by_other is_claim_of_other is_some_and
named-by p a line t s claim there claims other names = grind arith

lost-by : (p : Past) (a line t : ℕ) (s : SnoopEnd) (claim : Claim) → snooped_at p t ≡ Some s → s.claim ≡ Some claim
    → claim.agent ≡ a → claim.line ≡ line → s.kind ≡ Some WriteBack → is_lost p a line t ≡ true
unfolding is_lost is_written_back is_snooped is_claim_of is_write_back_kind is_some_and
lost-by p a line t s claim there claims agent names kind = grind arith

not-promised : (r : Run) (a line c q : ℕ) → Timely r → KeepsBounds r.plan → c ≤ length r.trace
    → is_exclusive (past_of r) a line c ≡ true → promise_told (past_of r) a line c c ≡ Some q → ⊥
unfolding is_exclusive holds_line
not-promised r a line c q h bounds l exclusive told =
    let p : Past = past_of r in
    let k = promised-at p a line c c q told in
    let w = awaits-by p a line c c k.awaited in
    let below : k.at < c = k.below in
    let late : w.at < k.at = promised-later r a line c c q h bounds l k w in
    let g = given r a k.at k.claim h bounds (omega arith) k.given in
    let s : SnoopEnd = g.at.end in
    let outer = and_parts (holds_line p a line c && is_some_and (latest_grant p a line c) is_sole_grant)
    (holds_since (is_granted p a line) (is_named_by_other p a line) c) exclusive in
    let inner = and_parts (holds_line p a line c) (is_some_and (latest_grant p a line c) is_sole_grant) outer.0 in
    elim (gives-by p a k.at s k.claim g.at.gives).way [
      | inl handed ↦
          lost-since (is_granted p a line) (is_named_by_other p a line) c w.at k.at w.last late below
          (named-by p a line k.at s k.claim g.at.there g.at.claimed handed.1 k.names) outer.1
      | inr written ↦
          let fits = g.settled.fits in
          let kind = written-kind fits.kind s.outcome written.0
          (fits.fits (λ write handed. let both = sym written.0 ∙ handed in let no : ⊥ = cc in no)) in
          lost-since (is_granted p a line) (is_lost p a line) c w.at k.at w.last late below
          (lost-by p a line k.at s k.claim g.at.there g.at.claimed written.1 k.names (fits.known
          ∙ ap Some kind)) inner.0
    ]

pub dirty-unpromised : (r : Run) (a line c : ℕ) → Timely r → KeepsBounds r.plan → c ≤ length r.trace
    → is_dirty (past_of r) a line c ≡ true → promise_told (past_of r) a line c c ≡ None
unfolding is_dirty
dirty-unpromised r a line c h bounds l dirty = grind (arith, not-promised)
