-- The snoop end of a clock, whichever it is: its event may happen, and the line of the machine behind it is that of the
-- run.
use Rattle.fsb_coherent.proofs.Words
use Words.{ℕ, ◌≡◌, nat_eq, List, [], ◌∷◌, Option, Some, None, refl, sym, ap, subst, ◌∙◌, inl, inr, cases_Bool, eqb-true}
use Words.{option_map_or, is_some_and, Ordered, Event, IsReplied, MemoryLine, MayRun, run, Claim, Grant, Past, SnoopEnd}
use Words.{snooped_at, past_to, ClockFacts, claimed_events, snoop_events, snoops_on, TiedThrough}
use Rattle.fsb_coherent.proofs.Behind.{TiedBehind}
use Rattle.fsb_coherent.proofs.SameEvents.{snoop_events-to}
use Rattle.fsb_coherent.proofs.SnoopElsewhere.{behind-claimed, behind-none, behind-unclaimed}
use Rattle.fsb_coherent.proofs.SnoopReplies.{replies-made}
use Rattle.fsb_coherent.proofs.SnoopGuards.{IsHere, settled-may}
use Rattle.fsb_coherent.proofs.SnoopSettled.{settled-behind}

-- these events may happen, and the line after them is that of the run behind the snoop end
abbrev pub BringsBehind : Past → ℕ → ℕ → MemoryLine → List Event → Type 0
BringsBehind p line n x es = MayRun x es × TiedBehind p line n (run x es)

-- what is known of the clock and of the line of the machine before the snoop end
pub record IsThrough (p : Past) (line n : ℕ) (x : MemoryLine) : Type 0 where
  pub facts : ClockFacts p line n
  pub ordered : Ordered x
  pub tied : TiedThrough p line n x

at-claim : (p : Past) (line n : ℕ) (x : MemoryLine) (s : SnoopEnd) (claim : Claim) → IsThrough p line n x
    → snooped_at p n ≡ Some s → s.claim ≡ Some claim
    → BringsBehind p line n x (snoop_events (past_to p n) line n s)
unfolding snoop_events claimed_events
at-claim p line n x s claim h e g =
    elim (cases_Bool (nat_eq claim.line line)) [
      | inl same ↦
          let here : IsHere p line n x s = record {
            facts = h.facts;
            ordered = h.ordered;
            tied = h.tied;
            there = e;
            settled = h.facts.settles.settled s claim e g (eqb-true claim.line line same);
          } in (settled-may p line n x s here, settled-behind p line n x s here)
      | inr off ↦
          let none : snoop_events (past_to p n) line n s ≡ [] = rw (g, off) refl in
          subst (BringsBehind p line n x) (sym none)
          (tt, behind-claimed p line n x s claim h.tied h.facts.settles e g off)
    ]

at-reply : (p : Past) (line n : ℕ) (x : MemoryLine) (s : SnoopEnd) (o : Option Grant) → IsThrough p line n x
    → snooped_at p n ≡ Some s → s.claim ≡ None → s.grant ≡ o
    → BringsBehind p line n x (snoop_events (past_to p n) line n s)
unfolding snoop_events is_some_and
at-reply p line n x s None h e g k =
    let none : snoop_events (past_to p n) line n s ≡ [] = rw (g, k) refl in
    subst (BringsBehind p line n x) (sym none) (
      tt,
      behind-unclaimed p line n x s h.tied h.facts.settles e g
          (λ grant m. let f = sym k ∙ m in let no : ⊥ = cc in absurd no),
    )
at-reply p line n x s (Some grant) h e g k =
    elim (cases_Bool (nat_eq grant.line line)) [
      | inl same ↦
          let on : grant.line ≡ line = eqb-true grant.line line same in
          let reply : snoop_events (past_to p n) line n s ≡ IsReplied ∷ [] = rw (g, k, same) refl in
          subst (BringsBehind p line n x) (sym reply) (replies-made p line n x s grant (record {
            settles = h.facts.settles;
            ordered = h.ordered;
            tied = h.tied;
            there = e;
            unclaimed = g;
            grants = k;
            on_line = on;
            answers = h.facts.settles.replied s grant e g k on;
          }))
      | inr off ↦
          let none : snoop_events (past_to p n) line n s ≡ [] = rw (g, k, off) refl in
          subst (BringsBehind p line n x) (sym none) (
            tt,
            behind-unclaimed p line n x s h.tied h.facts.settles e g (λ other m.
                let same : grant ≡ other = (let f = sym k ∙ m in cc) in ap (λ (r : Grant). nat_eq r.line line)
                (sym same) ∙ off),
          )
    ]

at-snoop : (p : Past) (line n : ℕ) (x : MemoryLine) (s : SnoopEnd) (o : Option Claim) → IsThrough p line n x
    → snooped_at p n ≡ Some s → s.claim ≡ o
    → BringsBehind p line n x (snoop_events (past_to p n) line n s)
at-snoop p line n x s None h e g = at-reply p line n x s s.grant h e g refl
at-snoop p line n x s (Some claim) h e g = at-claim p line n x s claim h e g

at-clock : (p : Past) (line n : ℕ) (x : MemoryLine) (o : Option SnoopEnd) → IsThrough p line n x → snooped_at p n ≡ o
    → BringsBehind p line n x (option_map_or (snoop_events p line n) o [])
at-clock p line n x None h e = (tt, behind-none p line n x h.tied e)
at-clock p line n x (Some s) h e =
    subst (BringsBehind p line n x) (snoop_events-to p line n h.facts.goes_on s)
    (at-snoop p line n x s s.claim h e refl)

-- the snoop end of the clock
pub snoop-step : (p : Past) (line n : ℕ) (x : MemoryLine) → ClockFacts p line n → Ordered x → TiedThrough p line n x
    → BringsBehind p line n x (snoops_on p line n)
unfolding snoops_on
snoop-step p line n x facts ordered tied =
    at-clock p line n x (snooped_at p n) (record { facts = facts; ordered = ordered; tied = tied }) refl
