-- A snoop end on a line closes its request, and moves no data.
use Rattle.fsb_coherent.proofs.Words
use Words.{ℕ, ◌≡◌, Bool, true, nat_eq, None, is_some, refl, subst, arith, eq-eqb, Kind, Turn, after, effect, given}
use Words.{linked, settled, MemoryLine, put, trimmed, run, Outcome, Handed, is_got, is_upgraded, makes_grant, Past}
use Words.{SnoopEnd, past_to, owner_at, purpose_of, IsSnoopOn, IsUncontested, fits_getting, fits_kind, fits_upgrade}
use Words.{fits_write_back, claimed_events, settled_events, snoop_events}
use Rattle.fsb_coherent.proofs.SnoopLinks.{end_with, grant_if, whole-end}

-- the request of the agent is closed, and what is on the bus stays
abbrev pub ClosesFor : Past → ℕ → ℕ → ℕ → SnoopEnd → MemoryLine → Type 0
ClosesFor p line n agent s x =
    ((run x (snoop_events (past_to p n) line n s)).ask ≡ put x.ask agent None)
    × ((run x (snoop_events (past_to p n) line n s)).moved ≡ x.moved)

closes : (p : Past) (line n first agent : ℕ) (kind : Kind) (outcome : Outcome) (turn : Turn) (won owns shared : Bool)
    (x : MemoryLine) → nat_eq line line ≡ true → fits_kind kind outcome ≡ true
    → (outcome ≡ Handed → is_some (owner_at (past_to p n) agent line n) ≡ true)
    → ClosesFor p line n agent (end_with first agent line kind turn outcome
    (grant_if first agent line kind outcome won owns shared)) x
unfolding snoop_events claimed_events settled_events is_upgraded is_got makes_grant purpose_of fits_kind
    fits_getting fits_upgrade fits_write_back after effect given linked settled trimmed
closes p line n first agent kind outcome turn won owns shared x h1 h2 h3 = grind arith

-- the snoop end of a request for the line
pub closes-made : (p : Past) (line n : ℕ) (s : SnoopEnd) (x : MemoryLine) (h : IsSnoopOn p line n s)
    → IsUncontested h.kind s.outcome → ClosesFor p line n h.agent s x
closes-made p line n s x h u =
    subst (λ t. ClosesFor p line n h.agent t x) (whole-end p line n s h)
    (closes p line n s.first h.agent h.kind s.outcome s.turn h.won h.owns h.shared x (eq-eqb line line refl)
    (h.fits u) h.owned)
