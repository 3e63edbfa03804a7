-- The snoop end of a request for a line leaves the line of the machine that of the run.
use Rattle.fsb_coherent.proofs.Words
use Words.{ℕ, ◌+◌, ◌≡◌, ◌≢◌, ◌==◌, false, cond, not, ◌&&◌, ◌||◌, ◌++◌, if◌then◌else◌, nat_eq, [], Some, None, is_some}
use Words.{refl, sym, ap, ◌∙◌, inl, inr, arith, cases_Bool, eqb-false, eqb-true, option_map_or, is_some_and, MemoryLine}
use Words.{OpenRequest, put, run, is_held, is_modified, is_sole, is_deferral, Past, SnoopEnd, grant_at, is_granted}
use Words.{is_named_by_other, is_sole_grant, is_taken_away, is_written_back, snooped_at, is_snoop_of, past_to}
use Words.{is_granted_by, is_lost_by, snoop_events, IsOpen, deferral_at, deferral_below, deferred_to, defers_line}
use Words.{replies_line, IsOpenThrough}
use Rattle.fsb_coherent.proofs.Behind.{TiedBehind, links_of}
use Rattle.fsb_coherent.proofs.FromThrough.{dirty-from, exclusive-from, holds-from, open-behind, open-through}
use Rattle.fsb_coherent.proofs.SnoopGuards.{IsHere, asked-here, told-here, uncontested, winner-here}
use Rattle.fsb_coherent.proofs.SnoopElsewhere.{not-its-own}
use Rattle.fsb_coherent.proofs.SnoopHolders.{holders-made}
use Rattle.fsb_coherent.proofs.SnoopLinks.{deferral-made, links-made}
use Rattle.fsb_coherent.proofs.SnoopRest.{closes-made}
use Rattle.fsb_coherent.proofs.SnoopTests.{is_named_by, tests-made}
use Rattle.fsb_coherent.proofs.StateTests.{tests-dirty, tests-sole}
use Rattle.fsb_coherent.proofs.Steps.{deferral-more}

-- the words of the run at the clock are those of its snoop end
granted-by : (p : Past) (b line n : ℕ) (s : SnoopEnd) → snooped_at p n ≡ Some s
    → is_granted p b line n ≡ is_granted_by s b line
unfolding is_granted grant_at is_granted_by
granted-by p b line n s e = rw e refl

grant-by : (p : Past) (n : ℕ) (s : SnoopEnd) → snooped_at p n ≡ Some s → grant_at p n ≡ s.grant
unfolding grant_at
grant-by p n s e = rw e refl

lost-by : (p : Past) (b line n : ℕ) (s : SnoopEnd) → snooped_at p n ≡ Some s
    → (is_written_back p b line n || is_taken_away p b line n) ≡ is_lost_by s b line
unfolding is_written_back is_taken_away is_lost_by is_some_and
lost-by p b line n s e = rw e refl

named-by : (p : Past) (b line n : ℕ) (s : SnoopEnd) → snooped_at p n ≡ Some s
    → is_named_by_other p b line n ≡ is_named_by s b line
unfolding is_named_by_other is_some_and
named-by p b line n s e = rw e refl

-- the deferral after it
deferral-here : (p : Past) (line n : ℕ) (x : MemoryLine) (s : SnoopEnd) (h : IsHere p line n x s)
    → (if is_deferral s.outcome then Some (deferred_to p line n s h.settled.fits.agent) else x.deferral)
    ≡ deferral_below p line (n + 1)
unfolding defers_line replies_line deferral_at is_some_and
deferral-here p line n x s h = grind (arith, deferral-more)

-- a request that stays open is another agent's, and one that was open and is another agent's stays so
stays-asked : (p : Past) (line n : ℕ) (x : MemoryLine) (s : SnoopEnd) (h : IsHere p line n x s) (b : ℕ)
    (request : OpenRequest)
    → put x.ask h.settled.fits.agent None b ≡ Some request → IsOpen p b line (n + 1) request
unfolding put
stays-asked p line n x s h b request e =
    let a : ℕ = h.settled.fits.agent in
    elim (cases_Bool (b == a)) [
      | inl same ↦ absurd (let none = sym (ap (λ t. cond t None (x.ask b)) same) ∙ e in let no : ⊥ = cc in no)
      | inr other ↦
          let o = h.tied.asked b request (sym (ap (λ t. cond t None (x.ask b)) other) ∙ e) in
          open-behind p b line n request o (still-unsnooped p line n x s h b request o (eqb-false b a other))
    ]
  where
    still-unsnooped : (p : Past) (line n : ℕ) (x : MemoryLine) (s : SnoopEnd) (h : IsHere p line n x s) (b : ℕ)
        (request : OpenRequest) → IsOpenThrough p b line n request → b ≢ h.settled.fits.agent
        → is_some_and (snooped_at p n) (is_snoop_of request.number) ≡ false
    still-unsnooped p line n x s h b request o other = grind (arith, not-its-own)

stays-open : (p : Past) (line n : ℕ) (x : MemoryLine) (s : SnoopEnd) (h : IsHere p line n x s) (b : ℕ)
    (request : OpenRequest)
    → IsOpen p b line (n + 1) request → put x.ask h.settled.fits.agent None b ≡ Some request
unfolding put is_some_and is_snoop_of
stays-open p line n x s h b request o =
    let a : ℕ = h.settled.fits.agent in
    let through = open-through p b line n request o in
    let asked = h.tied.opened b request through.0 in
    elim (cases_Bool (b == a)) [
      | inl same ↦
          let its_own : x.ask b ≡ Some (record { kind = h.settled.purpose; number = s.first }) = ap x.ask
          (eqb-true b a same) ∙ asked-here p line n x s h in
          let number : s.first ≡ request.number = (let k = sym its_own ∙ asked in cc) in
          let snooped : nat_eq s.first request.number ≡ false = rw h.there at through.1 in
          absurd (eqb-false s.first request.number snooped number)
      | inr other ↦ ap (λ t. cond t None (x.ask b)) other ∙ asked
    ]

-- the line after the snoop end is that of the run
pub settled-behind : (p : Past) (line n : ℕ) (x : MemoryLine) (s : SnoopEnd) → IsHere p line n x s
    → TiedBehind p line n (run x (snoop_events (past_to p n) line n s))
unfolding is_sole_grant
settled-behind p line n x s h =
    let u = uncontested p line n x s h in
    let closes = closes-made p line n s x h.settled.fits u in
    record {
      held = λ b.
          holders-made p line n s x h.settled.fits u (winner-here p line n x s h) b
          ∙ sym (holds-from p line n x h.tied b ∙ (λ i. granted-by p b line n s h.there i ||
          (is_held (x.state b) && not (lost-by p b line n s h.there i))));
      sole = λ b.
          tests-made is_sole (λ owns shared. owns || not shared) tests-sole p line n s x h.settled.fits u
          (told-here is_sole (λ owns shared. owns || not shared) tests-sole p line n x s h) b
          ∙ sym (exclusive-from p line n x h.tied b
          ∙ (λ i. if granted-by p b line n s h.there i then is_some_and
          (grant-by p n s h.there i) is_sole_grant else (is_sole (x.state b) &&
          (not (lost-by p b line n s h.there i) && not (named-by p b line n s h.there i)))));
      modified = λ b.
          tests-made is_modified (λ owns shared. owns) tests-dirty p line n s x h.settled.fits u
          (told-here is_modified (λ owns shared. owns) tests-dirty p line n x s h) b
          ∙ sym (dirty-from p line n x h.tied b
          ∙ (λ i. if granted-by p b line n s h.there i then is_some_and (grant-by p n s h.there i)
          (λ grant. grant.owns) else (is_modified (x.state b) &&
          (not (lost-by p b line n s h.there i) && not (named-by p b line n s h.there i)))));
      asked = λ b request e. stays-asked p line n x s h b request (sym (ap (λ f. f b) closes.0) ∙ e);
      opened = λ b request o. ap (λ f. f b) closes.0 ∙ stays-open p line n x s h b request o;
      chain = links-made p line n s x h.settled.fits u
          ∙ (λ i. h.tied.chain i ++ option_map_or (links_of p line n) (sym h.there i) []);
      deferral = deferral-made p line n s x h.settled.fits u ∙ deferral-here p line n x s h;
      moved = ap is_some closes.1 ∙ h.tied.moved;
    }
