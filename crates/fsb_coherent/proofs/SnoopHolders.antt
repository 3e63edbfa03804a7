-- Who holds a line after a snoop end on it is who holds it in the run.
use Rattle.fsb_coherent.proofs.Words
use Words.{ℕ, ◌≡◌, ◌==◌, Bool, true, false, cond, not, ◌&&◌, ◌||◌, nat_eq, Option, Some, is_some, refl, sym, ap, subst}
use Words.{◌∙◌, arith, eq-eqb, eqb-true, is_some_and, nat_eq-sym, Kind, Turn, Mesi, Invalid, Modified, after, effect}
use Words.{given, linked, settled, MemoryLine, trimmed, run, after_snoop, granted, is_held, is_write_back_kind, Outcome}
use Words.{Handed, is_claim_of, is_claim_of_other, is_owning, is_snooped, is_got, is_upgraded, makes_grant, Past}
use Words.{SnoopEnd, past_to, owner_at, purpose_of, IsSnoopOn, IsUncontested, fits_getting, fits_kind, fits_upgrade}
use Words.{fits_write_back, is_granted_by, is_lost_by, claimed_events, settled_events, snoop_events}
use Rattle.fsb_encode.specs.declared.request.Kind.TheVariants as kinds
use Rattle.fsb_line.specs.declared.purpose.Purpose.TheVariants as purposes
use Rattle.fsb_coherent.proofs.SnoopLinks.{end_with, grant_if, grant_with, whole-end}

held-cond : (m : Bool) (own other : Mesi) → is_held (cond m own other) ≡ cond m (is_held own) (is_held other)
held-cond m own other = grind arith

and-same : (b : Bool) → (b && true) ≡ b
and-same b = grind arith

held-of : (b agent : ℕ) (st own other : Mesi) (w o g gp : Bool) → gp ≡ ((nat_eq agent b && true) && g)
    → ((b == agent) ≡ true → is_held own ≡ (g || (is_held st && not w))) → is_held other ≡ (is_held st && not o)
    → is_held (cond (b == agent) own other)
    ≡ (gp || (is_held st && not (((nat_eq agent b && true) && w) || ((not (nat_eq agent b) && true) && o))))
held-of b agent st own other w o g gp k x y = grind (arith, nat_eq-sym, held-cond, and-same)

same-true : (b : Bool) → b ≡ (b && true)
same-true b = grind arith

none-false : (b : Bool) → false ≡ (b && false)
none-false b = grind arith

granted-held : (shared : Bool) → is_held (granted purposes.Read shared) ≡ true
granted-held shared = grind arith

kept-by-read : (s : Mesi) → is_held (after_snoop s purposes.Read) ≡ (is_held s && not false)
kept-by-read s = grind arith

kept-held : (h : Bool) → h ≡ (h && not false)
kept-held h = grind arith

none-held : (h : Bool) → false ≡ (h && not true)
none-held h = grind arith

won-held : (s : Mesi) → is_held s ≡ true → is_held (cond (is_held s) Modified Invalid) ≡ true
won-held s e = ap (λ b. is_held (cond b Modified Invalid)) e

lost-held : (s : Mesi) → is_held s ≡ false → is_held (cond (is_held s) Modified Invalid) ≡ (is_held s && not false)
lost-held s e = ap (λ b. is_held (cond b Modified Invalid)) e ∙ sym (ap (λ b. b && not false) e)

-- who holds the line after the snoop end: who gets it there, and who held it and does not lose it
abbrev HeldBy : Past → ℕ → ℕ → SnoopEnd → MemoryLine → ℕ → Type 0
HeldBy p line n s x b =
    is_held ((run x (snoop_events (past_to p n) line n s)).state b)
    ≡ (is_granted_by s b line || (is_held (x.state b) && not (is_lost_by s b line)))

handed-read : (p : Past) (line n first agent : ℕ) (turn : Turn) (owns shared : Bool) (x : MemoryLine) (b : ℕ)
    (o : Option ℕ) → nat_eq line line ≡ true
    → owner_at (past_to p n) agent line n ≡ o → is_some o ≡ true
    → HeldBy p line n
    (end_with first agent line kinds.Read turn Handed (Some (grant_with first agent line owns shared))) x b
unfolding snoop_events claimed_events settled_events is_upgraded is_got makes_grant purpose_of is_granted_by
    is_lost_by is_some_and is_snooped is_claim_of is_claim_of_other is_owning is_write_back_kind fits_kind
    fits_getting fits_upgrade fits_write_back after effect given linked settled trimmed
handed-read p line n first agent turn owns shared x b o h1 h2 h3 = grind arith

handed-own : (p : Past) (line n first agent : ℕ) (turn : Turn) (owns shared : Bool) (x : MemoryLine) (b : ℕ)
    (o : Option ℕ) → nat_eq line line ≡ true
    → owner_at (past_to p n) agent line n ≡ o → is_some o ≡ true
    → HeldBy p line n (end_with first agent line kinds.Invalidate turn Handed
    (Some (grant_with first agent line owns shared))) x b
unfolding snoop_events claimed_events settled_events is_upgraded is_got makes_grant purpose_of is_granted_by
    is_lost_by is_some_and is_snooped is_claim_of is_claim_of_other is_owning is_write_back_kind fits_kind
    fits_getting fits_upgrade fits_write_back after effect given linked settled trimmed
handed-own p line n first agent turn owns shared x b o h1 h2 h3 = grind arith

handed-upgrade : (p : Past) (line n first agent : ℕ) (turn : Turn) (owns shared : Bool) (x : MemoryLine) (b : ℕ)
    (o : Option ℕ) → nat_eq line line ≡ true
    → owner_at (past_to p n) agent line n ≡ o → is_some o ≡ true
    → HeldBy p line n
    (end_with first agent line kinds.Upgrade turn Handed (Some (grant_with first agent line owns shared))) x b
unfolding snoop_events claimed_events settled_events is_upgraded is_got makes_grant purpose_of is_granted_by
    is_lost_by is_some_and is_snooped is_claim_of is_claim_of_other is_owning is_write_back_kind fits_kind
    fits_getting fits_upgrade fits_write_back after effect given linked settled trimmed
handed-upgrade p line n first agent turn owns shared x b o h1 h2 h3 = grind arith

holders : (p : Past) (line n first agent : ℕ) (kind : Kind) (outcome : Outcome) (turn : Turn)
    (won owns shared : Bool) (x : MemoryLine) (b : ℕ) → nat_eq line line ≡ true → fits_kind kind outcome ≡ true
    → (outcome ≡ Handed → is_some (owner_at (past_to p n) agent line n) ≡ true) → won ≡ is_held (x.state agent)
    → HeldBy p line n
    (end_with first agent line kind turn outcome (grant_if first agent line kind outcome won owns shared)) x b
unfolding snoop_events claimed_events settled_events is_upgraded is_got makes_grant purpose_of is_granted_by
    is_lost_by is_some_and is_snooped is_claim_of is_claim_of_other is_owning is_write_back_kind fits_kind
    fits_getting fits_upgrade fits_write_back after effect given linked settled trimmed
holders p line n first agent kind outcome turn won owns shared x b h1 h2 h3 h4 =
    grind (
      arith,
      held-of,
      same-true,
      granted-held,
      kept-by-read,
      handed-read,
      none-false,
      kept-held,
      none-held,
      won-held,
      eqb-true,
      lost-held,
      handed-own,
      handed-upgrade,
    )

-- an upgrade is won where the agent of the machine holds the line
pub holders-made : (p : Past) (line n : ℕ) (s : SnoopEnd) (x : MemoryLine) (h : IsSnoopOn p line n s)
    → IsUncontested h.kind s.outcome → h.won ≡ is_held (x.state h.agent) → (b : ℕ)
    → is_held ((run x (snoop_events (past_to p n) line n s)).state b)
    ≡ (is_granted_by s b line || (is_held (x.state b) && not (is_lost_by s b line)))
holders-made p line n s x h alone w b =
    subst (λ t. HeldBy p line n t x b) (whole-end p line n s h)
    (holders p line n s.first h.agent h.kind s.outcome s.turn h.won h.owns h.shared x b (eq-eqb line line refl)
    (h.fits alone) h.owned w)
