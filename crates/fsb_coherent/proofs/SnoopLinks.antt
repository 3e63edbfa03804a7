-- What the event of a snoop end leaves of a line's links and of its deferral is what the run has of them.
use Rattle.fsb_coherent.proofs.Words
use Words.{ℕ, ◌≡◌, Bool, true, false, ◌&&◌, ◌||◌, if◌then◌else◌, nat_eq, [], ◌++◌, Option, Some, None, is_some, refl}
use Words.{sym, subst, append-nil, arith, eq-eqb, option_map_or, Kind, Turn, Purpose, after, effect, given, linked}
use Words.{settled, MemoryLine, trimmed, run, is_deferral, Outcome, Granted, Handed, Retried, Deferred, Written}
use Words.{Upgraded, is_got, is_upgraded, makes_grant, Grant, Past, SnoopEnd, past_to, awaited_by, awaited_by_claim}
use Words.{awaited_by_grant, is_written, owner_at, purpose_of, IsSnoopOn, IsUncontested, fits_getting, fits_kind}
use Words.{fits_upgrade, fits_write_back, claimed_events, settled_events, snoop_events, deferred_to, giver_at, link_for}
use Words.{purpose_at}
use Rattle.fsb_encode.specs.declared.request.Kind.TheVariants as kinds

-- the snoop end with these parts
abbrev pub end_with : ℕ → ℕ → ℕ → Kind → Turn → Outcome → Option Grant → SnoopEnd
end_with first agent line kind turn outcome grant =
    record {
      first = first;
      claim = Some (record { first = first; agent = agent; line = line });
      kind = Some kind;
      turn = turn;
      outcome = outcome;
      grant = grant;
    }

abbrev pub grant_with : ℕ → ℕ → ℕ → Bool → Bool → Grant
grant_with first agent line owns shared = record {
  first = first;
  agent = agent;
  line = line;
  owns = owns;
  shared = shared;
}

abbrev pub grant_if : ℕ → ℕ → ℕ → Kind → Outcome → Bool → Bool → Bool → Option Grant
grant_if first agent line kind outcome won owns shared =
    if makes_grant kind outcome || (is_upgraded outcome && won)
    then Some (grant_with first agent line owns shared) else None

-- a snoop end of a request for the line is that with its parts
pub whole-end : (p : Past) (line n : ℕ) (s : SnoopEnd) (h : IsSnoopOn p line n s)
    → end_with s.first h.agent line h.kind s.turn s.outcome
    (grant_if s.first h.agent line h.kind s.outcome h.won h.owns h.shared) ≡ s
whole-end p line n s h = grind arith

-- its links, and its deferral
abbrev LinksOf : Past → ℕ → ℕ → SnoopEnd → MemoryLine → Type 0
LinksOf p line n s x = (run x (snoop_events (past_to p n) line n s)).chain
    ≡ x.chain ++ option_map_or (link_for p line n s) (awaited_by s) []

handed : (p : Past) (line n first agent : ℕ) (kind : Kind) (purpose : Purpose) (turn : Turn)
    (owns shared : Bool) (x : MemoryLine) (o : Option ℕ) → nat_eq line line ≡ true → purpose_of kind ≡ Some purpose
    → owner_at (past_to p n) agent line n ≡ o → is_some o ≡ true
    → LinksOf p line n (end_with first agent line kind turn Handed (Some (grant_with first agent line owns shared))) x
unfolding snoop_events claimed_events settled_events awaited_by awaited_by_grant is_upgraded link_for giver_at
    purpose_at after effect given linked settled trimmed
handed p line n first agent kind purpose turn owns shared x None e f g h = absurd (let no : ⊥ = cc in no)
handed p line n first agent kind purpose turn owns shared x (Some owner) e f g h = rw (e, f, g) refl

links : (p : Past) (line n first agent : ℕ) (kind : Kind) (outcome : Outcome) (turn : Turn)
    (won owns shared : Bool) (x : MemoryLine) → nat_eq line line ≡ true → fits_kind kind outcome ≡ true
    → (outcome ≡ Handed → is_some (owner_at (past_to p n) agent line n) ≡ true)
    → LinksOf p line n
    (end_with first agent line kind turn outcome (grant_if first agent line kind outcome won owns shared)) x
unfolding snoop_events claimed_events settled_events awaited_by awaited_by_grant awaited_by_claim is_written
    is_upgraded is_got makes_grant purpose_of link_for giver_at purpose_at fits_kind fits_getting fits_upgrade
    fits_write_back after effect given linked settled trimmed
links p line n first agent kinds.Read Granted turn won owns shared x e h o = rw e refl
links p line n first agent kinds.Read Handed turn won owns shared x e h o =
    handed p line n first agent kinds.Read _ turn owns shared x (owner_at (past_to p n) agent line n) e refl
    refl (o refl)
links p line n first agent kinds.Read Retried turn won owns shared x e h o = rw e (sym (append-nil x.chain))
links p line n first agent kinds.Read Deferred turn won owns shared x e h o = rw e (sym (append-nil x.chain))
links p line n first agent kinds.Invalidate Granted turn won owns shared x e h o = rw e refl
links p line n first agent kinds.Invalidate Handed turn won owns shared x e h o =
    handed p line n first agent kinds.Invalidate _ turn owns shared x (owner_at (past_to p n) agent line n) e
    refl refl (o refl)
links p line n first agent kinds.Invalidate Retried turn won owns shared x e h o = rw e (sym (append-nil x.chain))
links p line n first agent kinds.Invalidate Deferred turn won owns shared x e h o = rw e (sym (append-nil x.chain))
links p line n first agent kinds.Upgrade Handed turn won owns shared x e h o =
    handed p line n first agent kinds.Upgrade _ turn owns shared x (owner_at (past_to p n) agent line n) e refl
    refl (o refl)
links p line n first agent kinds.Upgrade Retried turn won owns shared x e h o = rw e (sym (append-nil x.chain))
links p line n first agent kinds.Upgrade Upgraded turn true owns shared x e h o = rw e refl
links p line n first agent kinds.Upgrade Upgraded turn false owns shared x e h o = rw e (sym (append-nil x.chain))
links p line n first agent kinds.WriteBack Written turn won owns shared x e h o = rw e refl
links p line n first agent _ _ turn won owns shared x e h o = absurd (let no : ⊥ = cc in no)

-- the snoop end of a request for the line leaves the links of the run
pub links-made : (p : Past) (line n : ℕ) (s : SnoopEnd) (x : MemoryLine) → (h : IsSnoopOn p line n s)
    → IsUncontested h.kind s.outcome
    → (run x (snoop_events (past_to p n) line n s)).chain
    ≡ x.chain ++ option_map_or (link_for p line n s) (awaited_by s) []
links-made p line n s x h alone =
    subst (λ t. LinksOf p line n t x) (whole-end p line n s h)
    (links p line n s.first h.agent h.kind s.outcome s.turn h.won h.owns h.shared x (eq-eqb line line refl)
    (h.fits alone) h.owned)

-- the deferral after it: what is deferred, and otherwise the one of before
abbrev DeferralOf : Past → ℕ → ℕ → ℕ → SnoopEnd → MemoryLine → Type 0
DeferralOf p line n agent s x =
    (run x (snoop_events (past_to p n) line n s)).deferral
    ≡ (if is_deferral s.outcome then Some (deferred_to p line n s agent) else x.deferral)

deferrals : (p : Past) (line n first agent : ℕ) (kind : Kind) (outcome : Outcome) (turn : Turn)
    (won owns shared : Bool) (x : MemoryLine) → nat_eq line line ≡ true → fits_kind kind outcome ≡ true
    → (outcome ≡ Handed → is_some (owner_at (past_to p n) agent line n) ≡ true)
    → DeferralOf p line n agent
    (end_with first agent line kind turn outcome (grant_if first agent line kind outcome won owns shared)) x
unfolding snoop_events claimed_events settled_events is_upgraded is_got makes_grant purpose_of is_deferral
    deferred_to purpose_at fits_kind fits_getting fits_upgrade fits_write_back after effect given linked settled trimmed
deferrals p line n first agent kind outcome turn won owns shared x h1 h2 h3 = grind arith

-- the snoop end of a request for the line leaves the deferral of the run
pub deferral-made : (p : Past) (line n : ℕ) (s : SnoopEnd) (x : MemoryLine) → (h : IsSnoopOn p line n s)
    → IsUncontested h.kind s.outcome → (run x (snoop_events (past_to p n) line n s)).deferral
    ≡ (if is_deferral s.outcome then Some (deferred_to p line n s h.agent) else x.deferral)
deferral-made p line n s x h alone =
    subst (λ t. DeferralOf p line n h.agent t x) (whole-end p line n s h)
    (deferrals p line n s.first h.agent h.kind s.outcome s.turn h.won h.owns h.shared x (eq-eqb line line refl)
    (h.fits alone) h.owned)
