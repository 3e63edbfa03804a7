-- The event of a snoop end on a line may happen to the line of the machine.
use Rattle.fsb_coherent.proofs.Words
use Words.{ℕ, ◌≡◌, ◌≢◌, Bool, true, false, nat_eq, Option, Some, None, refl, sym, subst, eq-eqb, Kind, Turn, Purpose}
use Words.{IsOldest, May, MaySettle, NobodyElseHolds, NobodyElseModified, MemoryLine, MayRun, asks_line, is_held}
use Words.{is_modified, Outcome, Granted, Handed, Retried, Deferred, Written, Upgraded, is_got, is_upgraded}
use Words.{makes_grant, Past, SnoopEnd, past_to, is_held_elsewhere, owner_at, purpose_of, IsSnoopOn, IsUncontested}
use Words.{fits_getting, fits_kind, fits_upgrade, fits_write_back, claimed_events, settled_events, snoop_events}
use Rattle.fsb_encode.specs.declared.request.Kind.TheVariants as kinds
use Rattle.fsb_line.specs.declared.purpose.Purpose.TheVariants as purposes
use Rattle.fsb_coherent.proofs.SnoopLinks.{end_with, grant_if, grant_with, whole-end}

-- what lets a request of the agent of this kind be settled so: it is the oldest; nobody else is dirty, unless the line
-- is handed over, and then by whoever is; where nobody else is seen to hold the line nobody else does; an upgrade is
-- won by a holder; and a pending line is not given
pub record CanSettle (p : Past) (line n agent : ℕ) (kind : Kind) (outcome : Outcome) (won : Bool) (x : MemoryLine)
    : Type 0 where
  pub oldest : (purpose : Purpose) → purpose_of kind ≡ Some purpose → IsOldest x agent purpose
  pub clean : outcome ≢ Handed → NobodyElseModified x agent
  pub unseen : is_held_elsewhere (past_to p n) agent line n ≡ false → NobodyElseHolds x agent
  pub owner : (b : ℕ) → owner_at (past_to p n) agent line n ≡ Some b → (b ≢ agent) × (is_modified (x.state b) ≡ true)
  pub winner : won ≡ is_held (x.state agent)
  pub not_pending : outcome ≡ Granted → x.deferral ≡ None
  pub not_pending_later : outcome ≡ Deferred → x.deferral ≡ None
  pub not_pending_won : outcome ≡ Upgraded → x.deferral ≡ None

-- its event may happen
abbrev pub MayFor : Past → ℕ → ℕ → SnoopEnd → MemoryLine → Type 0
MayFor p line n s x = MayRun x (snoop_events (past_to p n) line n s)

handed : (p : Past) (line n first agent : ℕ) (kind : Kind) (purpose : Purpose) (turn : Turn) (won owns shared : Bool)
    (x : MemoryLine) (o : Option ℕ) → nat_eq line line ≡ true → purpose_of kind ≡ Some purpose
    → owner_at (past_to p n) agent line n ≡ o → asks_line purpose ≡ true → CanSettle p line n agent kind Handed won x
    → MayFor p line n (end_with first agent line kind turn Handed (Some (grant_with first agent line owns shared))) x
unfolding snoop_events claimed_events settled_events May
handed p line n first agent kind purpose turn won owns shared x None e f g asks c = rw (e, f, g) tt
handed p line n first agent kind purpose turn won owns shared x (Some owner) e f g asks c =
    let gives = c.owner owner g in
    rw (e, f, g) (record { oldest = c.oldest purpose f; asks = asks; other = gives.0; modified = gives.1 }, tt)

settles : (p : Past) (line n agent : ℕ) (kind : Kind) (purpose : Purpose) (outcome : Outcome) (won : Bool)
    (x : MemoryLine) → CanSettle p line n agent kind outcome won x
    → purpose_of kind ≡ Some purpose → outcome ≢ Handed → MaySettle x agent purpose
settles p line n agent kind purpose outcome won x c f u = record { oldest = c.oldest purpose f; clean = c.clean u }

may : (p : Past) (line n first agent : ℕ) (kind : Kind) (outcome : Outcome) (turn : Turn) (won owns shared : Bool)
    (x : MemoryLine) → nat_eq line line ≡ true → fits_kind kind outcome ≡ true
    → CanSettle p line n agent kind outcome won x
    → MayFor p line n (end_with first agent line kind turn outcome
    (grant_if first agent line kind outcome won owns shared)) x
unfolding snoop_events claimed_events settled_events is_upgraded is_got makes_grant purpose_of fits_kind
    fits_getting fits_upgrade fits_write_back May
may p line n first agent kinds.Read Granted turn won owns shared x e h c =
    rw e (
      record {
        settles = settles p line n agent kinds.Read purposes.Read Granted won x c refl
            (λ k. cc);
        gets = refl;
        unseen = c.unseen;
        not_pending = c.not_pending refl;
      },
      tt,
    )
may p line n first agent kinds.Read Handed turn won owns shared x e h c =
    handed p line n first agent kinds.Read purposes.Read turn won owns shared x
    (owner_at (past_to p n) agent line n) e refl refl refl c
may p line n first agent kinds.Read Retried turn won owns shared x e h c =
    rw e ((settles p line n agent kinds.Read purposes.Read Retried won x c refl (λ k. cc), refl), tt)
may p line n first agent kinds.Read Deferred turn won owns shared x e h c =
    rw e (
      record {
        settles = settles p line n agent kinds.Read purposes.Read Deferred won x c refl
            (λ k. cc);
        gets = refl;
        unseen = c.unseen;
        not_pending = c.not_pending_later refl;
      },
      tt,
    )
may p line n first agent kinds.Invalidate Granted turn won owns shared x e h c =
    rw e (
      record {
        settles = settles p line n agent kinds.Invalidate purposes.Own Granted won x c refl
            (λ k. cc);
        gets = refl;
        unseen = c.unseen;
        not_pending = c.not_pending refl;
      },
      tt,
    )
may p line n first agent kinds.Invalidate Handed turn won owns shared x e h c =
    handed p line n first agent kinds.Invalidate purposes.Own turn won owns shared x
    (owner_at (past_to p n) agent line n) e refl refl refl c
may p line n first agent kinds.Invalidate Retried turn won owns shared x e h c =
    rw e ((settles p line n agent kinds.Invalidate purposes.Own Retried won x c refl (λ k. cc), refl), tt)
may p line n first agent kinds.Invalidate Deferred turn won owns shared x e h c =
    rw e (
      record {
        settles = settles p line n agent kinds.Invalidate purposes.Own Deferred won x c refl
            (λ k. cc);
        gets = refl;
        unseen = c.unseen;
        not_pending = c.not_pending_later refl;
      },
      tt,
    )
may p line n first agent kinds.Upgrade Handed turn won owns shared x e h c =
    handed p line n first agent kinds.Upgrade purposes.Upgrade turn won owns shared x
    (owner_at (past_to p n) agent line n) e refl refl refl c
may p line n first agent kinds.Upgrade Retried turn won owns shared x e h c =
    rw e ((settles p line n agent kinds.Upgrade purposes.Upgrade Retried won x c refl (λ k. cc), refl), tt)
may p line n first agent kinds.Upgrade Upgraded turn true owns shared x e h c =
    rw e (
      record {
        settles = settles p line n agent kinds.Upgrade purposes.Upgrade Upgraded true x c refl
            (λ k. cc);
        held = sym c.winner;
        not_pending = c.not_pending_won refl;
      },
      tt,
    )
may p line n first agent kinds.Upgrade Upgraded turn false owns shared x e h c =
    rw e (
      record {
        settles = settles p line n agent kinds.Upgrade purposes.Upgrade Upgraded false x c refl
            (λ k. cc);
        lost = sym c.winner;
        not_pending = c.not_pending_won refl;
      },
      tt,
    )
may p line n first agent kinds.WriteBack Written turn won owns shared x e h c =
    rw e (c.oldest purposes.WriteBack refl, tt)
may p line n first agent _ _ turn won owns shared x e h c = absurd (let no : ⊥ = cc in no)

-- the snoop end of a request for the line
pub may-made : (p : Past) (line n : ℕ) (s : SnoopEnd) (x : MemoryLine) (h : IsSnoopOn p line n s)
    → IsUncontested h.kind s.outcome → CanSettle p line n h.agent h.kind s.outcome h.won x → MayFor p line n s x
may-made p line n s x h u c =
    subst (λ t. MayFor p line n t x) (whole-end p line n s h)
    (may p line n s.first h.agent h.kind s.outcome s.turn h.won h.owns h.shared x (eq-eqb line line refl) (h.fits u) c)
