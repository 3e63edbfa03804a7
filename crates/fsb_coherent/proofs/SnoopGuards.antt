-- The event of the snoop end of a request for a line may happen to the line of the machine.
use Rattle.fsb_coherent.proofs.Words
use Words.{ℕ, ◌<◌, ◌≤◌, ◌≡◌, ◌≢◌, Bool, true, false, not, ◌&&◌, nat_eq, Option, Some, None, is_some, refl, sym, ap, ◌∙◌}
use Words.{inl, inr, arith, cases_lt, eqb-false, ne_eqb, not_from_false, is_at, any_where-none, first_where-found, Kind}
use Words.{Ordered, Purpose, Mesi, IsOldest, MemoryLine, OpenRequest, is_held, is_modified, kind_owns, modified_is_sole}
use Words.{Past, SnoopEnd, holds_line, is_evicted, is_owning, snooped_at, is_dirty, past_to, is_held_elsewhere}
use Words.{cancelled_in, owner_at, purpose_of, ClockFacts, IsSettledOn, IsUncontested, IsOpen, IsOpenThrough}
use Words.{TiedThrough}
use Rattle.fsb_encode.specs.declared.request.Kind.TheVariants as kinds
use Rattle.fsb_line.specs.declared.purpose.Purpose.TheVariants as purposes
use Rattle.fsb_coherent.proofs.SnoopMay.{CanSettle, MayFor, may-made}
use Rattle.fsb_coherent.proofs.SnoopTests.{IsToldOf}
use Rattle.fsb_coherent.proofs.StateTests.{IsTest}
use Rattle.fsb_coherent.proofs.Steps.{cancelled-more}
use Rattle.fsb_coherent.proofs.WordsTo.{dirty-to, holds-to}

-- what is known at the snoop end of a request for the line
pub record IsHere (p : Past) (line n : ℕ) (x : MemoryLine) (s : SnoopEnd) : Type 0 where
  pub facts : ClockFacts p line n
  pub ordered : Ordered x
  pub tied : TiedThrough p line n x
  pub there : snooped_at p n ≡ Some s
  pub settled : IsSettledOn p line n s

-- a request that is open, and is not cancelled at n, is open before the snoop end of n; and one that is so and began
-- below n was open
open-not-cancelled : (p : Past) (a line n : ℕ) (request : OpenRequest) → IsOpen p a line n request
    → is_at (cancelled_in p n) request.number ≡ false
    → IsOpenThrough p a line n request
open-not-cancelled p a line n request h c = grind (arith, cancelled-more)

open-below : (p : Past) (a line n : ℕ) (request : OpenRequest) → IsOpenThrough p a line n request
    → request.number < n → IsOpen p a line n request
open-below p a line n request h l = grind (arith, cancelled-more)

-- the request is the oldest of the machine's
pub asked-here : (p : Past) (line n : ℕ) (x : MemoryLine) (s : SnoopEnd) (h : IsHere p line n x s)
    → x.ask h.settled.fits.agent ≡ Some (record { kind = h.settled.purpose; number = s.first })
asked-here p line n x s h =
    let request : OpenRequest = record { kind = h.settled.purpose; number = s.first } in
    h.tied.opened h.settled.fits.agent request
    (open-not-cancelled p h.settled.fits.agent line n request h.settled.opened h.settled.uncancelled)

oldest-here : (p : Past) (line n : ℕ) (x : MemoryLine) (s : SnoopEnd) (h : IsHere p line n x s) (b : ℕ)
    (k : OpenRequest) → x.ask b ≡ Some k → s.first ≤ k.number
oldest-here p line n x s h b k e =
    let through = h.tied.asked b k e in
    let first : s.first < n = h.settled.opened.before in
    elim (cases_lt k.number n) [
      | inl l ↦ h.settled.oldest b k (open-below p b line n k through l)
      | inr m ↦ omega arith
    ]

oldest-of : (p : Past) (line n : ℕ) (x : MemoryLine) (s : SnoopEnd) (h : IsHere p line n x s) (purpose : Purpose)
    → purpose_of h.settled.fits.kind ≡ Some purpose
    → IsOldest x h.settled.fits.agent purpose
oldest-of p line n x s h purpose e =
    let same : h.settled.purpose ≡ purpose = (let k = sym h.settled.known ∙ e in cc) in record {
      number = s.first;
      asked = asked-here p line n x s h ∙ ap (λ (k : Purpose). Some (record { kind = k; number = s.first })) same;
      oldest = oldest-here p line n x s h;
    }

-- an owner is another agent, and dirty
owner-there : (p : Past) (line n a b : ℕ) → ClockFacts p line n → owner_at (past_to p n) a line n ≡ Some b
    → (b ≢ a) × (is_dirty p b line n ≡ true)
unfolding owner_at
owner-there p line n a b f e = grind (arith, first_where-found, dirty-to)

-- where a line is written back, its agent is alone with it
alone-here : (p : Past) (line n : ℕ) (x : MemoryLine) (s : SnoopEnd) (h : IsHere p line n x s)
    → h.settled.fits.kind ≡ kinds.WriteBack
    → (b : ℕ) → b ≢ h.settled.fits.agent → is_held (x.state b) ≡ false
unfolding purpose_of
alone-here p line n x s h w b other =
    let back : h.settled.purpose ≡ purposes.WriteBack = (let k = sym (ap purpose_of w) ∙ h.settled.known in cc) in
    let asked = oldest-of p line n x s h purposes.WriteBack (ap purpose_of w) in
    let modified : is_modified (x.state h.settled.fits.agent)
    ≡ true = h.ordered.suited h.settled.fits.agent _ asked.asked in
    h.ordered.alone h.settled.fits.agent (modified_is_sole (x.state h.settled.fits.agent) modified) b other

held-by-dirty : (s : Mesi) → is_modified s ≡ true → is_held s ≡ false → ⊥
held-by-dirty s m h = grind arith

-- so no write-back meets HITM#
pub uncontested : (p : Past) (line n : ℕ) (x : MemoryLine) (s : SnoopEnd) (h : IsHere p line n x s)
    → IsUncontested h.settled.fits.kind s.outcome
uncontested p line n x s h w handed =
    let owned = h.settled.fits.owned handed in
    owner-no (owner_at (past_to p n) h.settled.fits.agent line n) refl owned
  where
    owner-no : (o : Option ℕ) → owner_at (past_to p n) h.settled.fits.agent line n ≡ o → is_some o ≡ true → ⊥
    owner-no None e g = let no : ⊥ = cc in no
    owner-no (Some b) e g =
        let there = owner-there p line n h.settled.fits.agent b h.facts e in
        held-by-dirty (x.state b) (h.tied.modified b ∙ there.1) (alone-here p line n x s h w b there.0)

-- an upgrade is won by a holder
pub winner-here : (p : Past) (line n : ℕ) (x : MemoryLine) (s : SnoopEnd) (h : IsHere p line n x s)
    → h.settled.fits.won ≡ is_held (x.state h.settled.fits.agent)
winner-here p line n x s h = grind arith

-- whoever is not seen to hold the line does not
unseen-here : (p : Past) (line n : ℕ) (x : MemoryLine) (s : SnoopEnd) (h : IsHere p line n x s)
    → is_held_elsewhere (past_to p n) h.settled.fits.agent line n ≡ false
    → (b : ℕ) → b ≢ h.settled.fits.agent → is_held (x.state b) ≡ false
unfolding is_held_elsewhere
unseen-here p line n x s h e b other =
    let a : ℕ = h.settled.fits.agent in
    let unheld : holds_line p b line n ≡ false = elim (cases_lt b 4) [
      | inl l ↦
          let here = any_where-none (λ c. not (nat_eq c a) && holds_line (past_to p n) c line n) 4 e b l in
          let apart : not (nat_eq b a) ≡ true = not_from_false (nat_eq b a) (ne_eqb b a other) in
          sym (holds-to p n h.facts.goes_on b line) ∙ sym (ap (λ t. t && holds_line (past_to p n) b line n) apart)
          ∙ here
      | inr m ↦ h.facts.settles.few_agents b m
    ] in
    h.tied.held b ∙ ap (λ t. t && not (is_evicted p b line n)) unheld

elsewhere-to : (p : Past) (line n a : ℕ) → ClockFacts p line n
    → is_held_elsewhere (past_to p n) a line n ≡ is_held_elsewhere p a line n
unfolding is_held_elsewhere
elsewhere-to p line n a f = grind (arith, holds-to)

can-settle : (p : Past) (line n : ℕ) (x : MemoryLine) (s : SnoopEnd) (h : IsHere p line n x s)
    → CanSettle p line n h.settled.fits.agent h.settled.fits.kind s.outcome h.settled.fits.won x
can-settle p line n x s h = record {
  oldest = oldest-of p line n x s h;
  clean = λ u b other. h.tied.modified b ∙ h.settled.clean u b other;
  unseen = unseen-here p line n x s h;
  owner = λ b e. let there = owner-there p line n h.settled.fits.agent b h.facts e in (
    there.0,
    h.tied.modified b
        ∙ there.1,
  );
  winner = winner-here p line n x s h;
  not_pending = λ e. h.tied.deferral ∙ h.settled.kept e;
  not_pending_later = λ e. h.tied.deferral ∙ h.settled.kept_later e;
  not_pending_won = λ e. h.tied.deferral ∙ h.settled.kept_won e;
}

owning-of : (kind : Kind) (purpose : Purpose) → purpose_of kind ≡ Some purpose → kind_owns purpose ≡ is_owning kind
unfolding purpose_of is_owning
owning-of kind purpose h1 = grind arith

pub told-here : (test : Mesi → Bool) (says : Bool → Bool → Bool) → IsTest test says
    → (p : Past) (line n : ℕ) (x : MemoryLine) (s : SnoopEnd) (h : IsHere p line n x s)
    → IsToldOf test p line n s h.settled.fits x
told-here test says t p line n x s h = record {
  owning = h.settled.owns ∙ owning-of h.settled.fits.kind h.settled.purpose h.settled.known;
  seen = λ e. h.settled.seen e ∙ sym (elsewhere-to p line n h.settled.fits.agent h.facts);
  seen_dirty = h.settled.seen_dirty;
  winner = winner-here p line n x s h;
  alone = λ w b m. t.unheld (x.state b) (alone-here p line n x s h w b (eqb-false b h.settled.fits.agent m));
}

-- the event of the snoop end may happen
pub settled-may : (p : Past) (line n : ℕ) (x : MemoryLine) (s : SnoopEnd) → IsHere p line n x s → MayFor p line n s x
settled-may p line n x s h =
    may-made p line n s x h.settled.fits (uncontested p line n x s h) (can-settle p line n x s h)
