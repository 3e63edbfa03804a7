-- At the snoop end of a write-back of a timely run no other agent holds its line.
use Rattle.fsb_tied.proofs.Words
use Words.{ℕ, ◌<◌, ◌≡◌, true, false, Option, Some, None, [], ◌&&◌, not, nat_eq, length, refl, subst, ◌∙◌, arith}
use Words.{any_where, is_some_and, Kind, Purpose, unheld, run, is_write_back_kind, snoop_end_of-clock, Claim, Past}
use Words.{SnoopEnd, snooped_at, Run, past_of, past_to, is_held_elsewhere, is_held_for, Timely, past-begins, tied-snoop}
use Words.{KeepsBounds, WritesBackAlone, purpose_of, events_below, IsOpen, GoesOnAt, holds-to}
use Rattle.fsb_line.specs.declared.purpose.Purpose.TheVariants as purposes
use Rattle.fsb_tied.proofs.OneOwner.{held-nowhere-else}
use Rattle.fsb_tied.proofs.SnoopOpen.{open-at-snoop-end}
use Rattle.fsb_tied.proofs.TiedRuns.{events-may-happen}

-- a write-back asks to write back
write-back-asks : (kind : Kind) (purpose : Purpose) → is_write_back_kind kind ≡ true → purpose_of kind ≡ Some purpose
    → purpose ≡ purposes.WriteBack
unfolding is_write_back_kind purpose_of
write-back-asks kind purpose h1 h2 = grind arith

-- what an agent other than a holds is the same in the past up to the clock
held-elsewhere-to : (p : Past) (n : ℕ) → GoesOnAt p n → (a line : ℕ)
    → is_held_elsewhere (past_to p n) a line n ≡ is_held_elsewhere p a line n
unfolding is_held_elsewhere
held-elsewhere-to p n goes a line = λ i. any_where (λ b. not (nat_eq b a) && holds-to p n goes b line i) 4

-- the write-back of this claim
claimed-alone : (r : Run) (n : ℕ) (s : SnoopEnd) (claim : Claim) → Timely r → KeepsBounds r.plan → n < length r.trace
    → snooped_at (past_of r) n ≡ Some s → s.claim ≡ Some claim → is_some_and s.kind is_write_back_kind ≡ true
    → is_held_elsewhere (past_of r) claim.agent claim.line n ≡ false
unfolding is_some_and
claimed-alone r n s claim h bounds l there claims writes =
    let p : Past = past_of r in
    let asks = open-at-snoop-end r n s claim h bounds l there claims in
    let kind : is_write_back_kind asks.kind ≡ true = rw asks.known at writes in
    let purpose = write-back-asks asks.kind asks.purpose kind asks.asks in
    let stands = subst (λ k. IsOpen p claim.agent claim.line n (record { kind = k; number = s.first })) purpose
    asks.opened in
    let tied = (events-may-happen r claim.line n [] h bounds (omega arith)).1 in
    held-nowhere-else p claim.line n claim.agent s.first (run (unheld []) (events_below p claim.line n)) tied stands

pub writes-back-alone : (r : Run) → Timely r → KeepsBounds r.plan → WritesBackAlone r
unfolding is_held_for is_some_and
writes-back-alone r h bounds = record { alone = λ n s there writes. by-claim n s there writes s.claim refl }
  where
    by-claim : (n : ℕ) (s : SnoopEnd) → snooped_at (past_of r) n ≡ Some s → is_some_and s.kind is_write_back_kind ≡ true
        → (o : Option Claim) → s.claim ≡ o → is_held_for (past_to (past_of r) n) n s ≡ false
    by-claim n s there writes None e = rw e refl
    by-claim n s there writes (Some claim) e =
        let tied = tied-snoop r n s there in
        let l = (snoop_end_of-clock r.trace tied.0 n tied.1.reached).within in
        let goes = past-begins r n h l in
        rw e (held-elsewhere-to (past_of r) n goes claim.agent claim.line
        ∙ claimed-alone r n s claim h bounds l there e writes)
