-- Who has a line for itself, and who is dirty on it, after a snoop end on it, is who is so in the run.
use Rattle.fsb_coherent.proofs.Words
use Words.{ℕ, ◌≡◌, ◌==◌, Bool, true, false, cond, not, ◌&&◌, if◌then◌else◌, nat_eq, Option, Some, None, is_some, refl}
use Words.{sym, ap, subst, ◌∙◌, arith, eq-eqb, eqb-true, is_some_and, Kind, Turn, Mesi, Invalid, Modified, Shared}
use Words.{after, effect, given, linked, settled, MemoryLine, trimmed, run, after_snoop, granted, is_held}
use Words.{is_write_back_kind, Outcome, Granted, Handed, Retried, Deferred, Written, Upgraded, is_claim_of}
use Words.{is_claim_of_other, is_owning, is_snooped, is_got, is_upgraded, makes_grant, Past, SnoopEnd, past_to}
use Words.{is_held_elsewhere, owner_at, purpose_of, IsSnoopOn, IsUncontested, fits_getting, fits_kind, fits_upgrade}
use Words.{fits_write_back, is_granted_by, is_lost_by, claimed_events, settled_events, snoop_events}
use Rattle.fsb_encode.specs.declared.request.Kind.TheVariants as kinds
use Rattle.fsb_line.specs.declared.purpose.Purpose.TheVariants as purposes
use Rattle.fsb_coherent.proofs.SnoopLinks.{end_with, grant_if, grant_with, whole-end}
use Rattle.fsb_coherent.proofs.StateTests.{IsTest, kept, lost-here, none-false, same-true, tested}

-- the snoop end names the line for another agent than a
abbrev pub is_named_by : SnoopEnd → ℕ → ℕ → Bool
is_named_by s a line = is_some_and s.claim (is_claim_of_other a line)

-- who passes the test after the snoop end: who gets the line there, as its grant says, and who passed it, did not lose
-- the line and was not named by another
abbrev pub TestedBy : (Mesi → Bool) → (Bool → Bool → Bool) → Past → ℕ → ℕ → SnoopEnd → MemoryLine → ℕ → Type 0
TestedBy test says p line n s x b =
    test ((run x (snoop_events (past_to p n) line n s)).state b)
    ≡ (if is_granted_by s b line then is_some_and s.grant (λ grant. says grant.owns grant.shared)
    else (test (x.state b) && (not (is_lost_by s b line) && not (is_named_by s b line))))

-- what is known of a request's snoop end: what its grant says, that HIT# told who holds the line, that an upgrade
-- is won
-- by a holder, and that nobody else passes the test where a line is written back
pub record IsTold (test : Mesi → Bool) (p : Past) (line n agent : ℕ) (kind : Kind) (outcome : Outcome)
    (won owns shared : Bool) (x : MemoryLine) : Type 0 where
  pub owning : owns ≡ is_owning kind
  pub seen : outcome ≡ Granted → shared ≡ is_held_elsewhere (past_to p n) agent line n
  pub seen_dirty : outcome ≡ Handed → shared ≡ true
  pub winner : won ≡ is_held (x.state agent)
  pub alone : kind ≡ kinds.WriteBack → (b : ℕ) → (b == agent) ≡ false → test (x.state b) ≡ false

-- the same of a snoop end by its parts
abbrev pub IsToldOf : (Mesi → Bool) → (p : Past) (line n : ℕ) (s : SnoopEnd) → IsSnoopOn p line n s → MemoryLine
    → Type 0
IsToldOf test p line n s h x = IsTold test p line n h.agent h.kind s.outcome h.won h.owns h.shared x

at-agent : (x : MemoryLine) (b agent : ℕ) (h : Bool) → (b == agent) ≡ true → h ≡ is_held (x.state agent)
    → is_held (x.state b) ≡ h
at-agent x b agent h m w = ap (λ a. is_held (x.state a)) (eqb-true b agent m) ∙ sym w

won-test : (test : Mesi → Bool) (says : Bool → Bool → Bool) → IsTest test says → (s : Mesi) (owns shared : Bool)
    → owns ≡ true → is_held s ≡ true
    → test (cond (is_held s) Modified Invalid) ≡ says owns shared
won-test test says t s owns shared o e = grind arith

lost-test : (test : Mesi → Bool) (says : Bool → Bool → Bool) → IsTest test says → (s : Mesi) → is_held s ≡ false
    → test (cond (is_held s) Modified Invalid) ≡ (test s && not false)
lost-test test says t s e = ap (λ b. test (cond b Modified Invalid)) e ∙ t.lost ∙ sym (t.unheld s e) ∙ kept (test s)

owned-test : (test : Mesi → Bool) (says : Bool → Bool → Bool) → IsTest test says → (owns shared : Bool) → owns ≡ true
    → test Modified ≡ says owns shared
owned-test test says t owns shared o = t.owned shared ∙ ap (λ b. says b shared) (sym o)

read-test : (test : Mesi → Bool) (says : Bool → Bool → Bool) → IsTest test says → (owns shared seen : Bool)
    → owns ≡ false → shared ≡ seen
    → test (granted purposes.Read seen) ≡ says owns shared
read-test test says t owns shared seen o e = t.read seen ∙ (λ i. says (sym o i) (sym e i))

handed-read : (test : Mesi → Bool) (says : Bool → Bool → Bool) → IsTest test says
    → (p : Past) (line n first agent : ℕ) (turn : Turn) (owns shared : Bool) (x : MemoryLine) (b : ℕ) (o : Option ℕ)
    → nat_eq line line ≡ true
    → owner_at (past_to p n) agent line n ≡ o → is_some o ≡ true → owns ≡ false → shared ≡ true
    → TestedBy test says p line n (end_with first agent line kinds.Read turn Handed
    (Some (grant_with first agent line owns shared))) x b
unfolding snoop_events claimed_events settled_events is_upgraded is_got makes_grant purpose_of is_granted_by
    is_lost_by is_some_and is_snooped is_claim_of is_claim_of_other is_owning is_write_back_kind fits_kind
    fits_getting fits_upgrade fits_write_back after effect given linked settled trimmed
handed-read test says t p line n first agent turn owns shared x b None e g h u v = absurd (let no : ⊥ = cc in no)
handed-read test says t p line n first agent turn owns shared x b (Some owner) e g h u v =
    rw (e, g) (tested test b agent (x.state b) Shared (after_snoop (x.state b) purposes.Read) false false true
    (nat_eq agent b && true) (says owns shared) (same-true (nat_eq agent b && true))
    (λ m. read-test test says t owns shared true u v) (λ m. t.snooped (x.state b) purposes.Read refl))

handed-own : (test : Mesi → Bool) (says : Bool → Bool → Bool) → IsTest test says
    → (p : Past) (line n first agent : ℕ) (turn : Turn) (owns shared : Bool) (x : MemoryLine) (b : ℕ) (o : Option ℕ)
    → nat_eq line line ≡ true
    → owner_at (past_to p n) agent line n ≡ o → is_some o ≡ true → owns ≡ true
    → TestedBy test says p line n (end_with first agent line kinds.Invalidate turn Handed
    (Some (grant_with first agent line owns shared))) x b
unfolding snoop_events claimed_events settled_events is_upgraded is_got makes_grant purpose_of is_granted_by
    is_lost_by is_some_and is_snooped is_claim_of is_claim_of_other is_owning is_write_back_kind fits_kind
    fits_getting fits_upgrade fits_write_back after effect given linked settled trimmed
handed-own test says h1 p line n first agent turn owns shared x b o h2 h3 h4 h5 = grind arith

handed-upgrade : (test : Mesi → Bool) (says : Bool → Bool → Bool) → IsTest test says
    → (p : Past) (line n first agent : ℕ) (turn : Turn) (owns shared : Bool) (x : MemoryLine) (b : ℕ) (o : Option ℕ)
    → nat_eq line line ≡ true
    → owner_at (past_to p n) agent line n ≡ o → is_some o ≡ true → owns ≡ true
    → TestedBy test says p line n (end_with first agent line kinds.Upgrade turn Handed
    (Some (grant_with first agent line owns shared))) x b
unfolding snoop_events claimed_events settled_events is_upgraded is_got makes_grant purpose_of is_granted_by
    is_lost_by is_some_and is_snooped is_claim_of is_claim_of_other is_owning is_write_back_kind fits_kind
    fits_getting fits_upgrade fits_write_back after effect given linked settled trimmed
handed-upgrade test says h1 p line n first agent turn owns shared x b o h2 h3 h4 h5 = grind arith

tests : (test : Mesi → Bool) (says : Bool → Bool → Bool) → IsTest test says
    → (p : Past) (line n first agent : ℕ) (kind : Kind) (outcome : Outcome) (turn : Turn) (won owns shared : Bool)
    (x : MemoryLine) (b : ℕ) → nat_eq line line ≡ true
    → fits_kind kind outcome ≡ true → (outcome ≡ Handed → is_some (owner_at (past_to p n) agent line n) ≡ true)
    → IsTold test p line n agent kind outcome won owns shared x
    → TestedBy test says p line n (end_with first agent line kind turn outcome
    (grant_if first agent line kind outcome won owns shared)) x b
unfolding snoop_events claimed_events settled_events is_upgraded is_got makes_grant purpose_of is_granted_by
    is_lost_by is_some_and is_snooped is_claim_of is_claim_of_other is_owning is_write_back_kind fits_kind
    fits_getting fits_upgrade fits_write_back after effect given linked settled trimmed
tests test says t p line n first agent kinds.Read Granted turn won owns shared x b e h o w =
    rw e (tested test b agent (x.state b) (granted purposes.Read (is_held_elsewhere (past_to p n) agent line n))
    (after_snoop (x.state b) purposes.Read) false false true (nat_eq agent b && true) (says owns shared)
    (same-true (nat_eq agent b && true)) (λ m. read-test test says t owns shared
    (is_held_elsewhere (past_to p n) agent line n) w.owning (w.seen refl))
    (λ m. t.snooped (x.state b) purposes.Read refl))
tests test says t p line n first agent kinds.Read Handed turn won owns shared x b e h o w =
    handed-read test says t p line n first agent turn owns shared x b (owner_at (past_to p n) agent line n) e refl
    (o refl) w.owning (w.seen_dirty refl)
tests test says t p line n first agent kinds.Read Retried turn won owns shared x b e h o w =
    rw e (tested test b agent (x.state b) (x.state b)
    (after_snoop (x.state b) purposes.Read) false false false false false (none-false (nat_eq agent b && true))
    (λ m. kept (test (x.state b))) (λ m. t.snooped (x.state b) purposes.Read refl))
tests test says t p line n first agent kinds.Read Deferred turn won owns shared x b e h o w =
    rw e (tested test b agent (x.state b) (x.state b)
    (after_snoop (x.state b) purposes.Read) false false false false false (none-false (nat_eq agent b && true))
    (λ m. kept (test (x.state b))) (λ m. t.snooped (x.state b) purposes.Read refl))
tests test says t p line n first agent kinds.Invalidate Granted turn won owns shared x b e h o w =
    grind (arith, tested, same-true, owned-test)
tests test says t p line n first agent kinds.Invalidate Handed turn won owns shared x b e h o w =
    handed-own test says t p line n first agent turn owns shared x b (owner_at (past_to p n) agent line n) e refl
    (o refl) w.owning
tests test says t p line n first agent kinds.Invalidate Retried turn won owns shared x b e h o w =
    rw e (tested test b agent (x.state b) (x.state b) Invalid false true false false false
    (none-false (nat_eq agent b && true)) (λ m. kept (test (x.state b))) (λ m. t.lost))
tests test says t p line n first agent kinds.Invalidate Deferred turn won owns shared x b e h o w =
    rw e (tested test b agent (x.state b) (x.state b) Invalid false true false false false
    (none-false (nat_eq agent b && true)) (λ m. kept (test (x.state b))) (λ m. t.lost))
tests test says t p line n first agent kinds.Upgrade Handed turn won owns shared x b e h o w =
    handed-upgrade test says t p line n first agent turn owns shared x b (owner_at (past_to p n) agent line n) e refl
    (o refl) w.owning
tests test says t p line n first agent kinds.Upgrade Retried turn won owns shared x b e h o w =
    rw e (tested test b agent (x.state b) (x.state b) Invalid false true false false false
    (none-false (nat_eq agent b && true)) (λ m. kept (test (x.state b))) (λ m. t.lost))
tests test says t p line n first agent kinds.Upgrade Upgraded turn true owns shared x b e h o w =
    rw e (tested test b agent (x.state b) (cond (is_held (x.state b)) Modified Invalid) Invalid false true true
    (nat_eq agent b && true) (says owns shared) (same-true (nat_eq agent b && true))
    (λ m. won-test test says t (x.state b) owns shared w.owning (at-agent x b agent true m w.winner)) (λ m. t.lost))
tests test says t p line n first agent kinds.Upgrade Upgraded turn false owns shared x b e h o w =
    rw e (tested test b agent (x.state b) (cond (is_held
    (x.state b)) Modified Invalid) Invalid false true false false false (none-false (nat_eq agent b && true))
    (λ m. lost-test test says t (x.state b) (at-agent x b agent false m w.winner)) (λ m. t.lost))
tests test says t p line n first agent kinds.WriteBack Written turn won owns shared x b e h o w =
    rw e (tested test b agent (x.state b) Invalid (x.state b) true false false false false
    (none-false (nat_eq agent b && true)) (λ m. t.lost ∙ lost-here (test (x.state b))) (λ m. w.alone refl b m))
tests test says t p line n first agent _ _ turn won owns shared x b e h o w = absurd (let no : ⊥ = cc in no)

-- who passes a test after the snoop end of a request for the line
pub tests-made : (test : Mesi → Bool) (says : Bool → Bool → Bool) → IsTest test says
    → (p : Past) (line n : ℕ) (s : SnoopEnd) (x : MemoryLine) (h : IsSnoopOn p line n s)
    → IsUncontested h.kind s.outcome → IsTold test p line n h.agent h.kind s.outcome h.won h.owns h.shared x → (b : ℕ)
    → TestedBy test says p line n s x b
tests-made test says t p line n s x h u w b =
    subst (λ r. TestedBy test says p line n r x b) (whole-end p line n s h)
    (tests test says t p line n s.first h.agent h.kind s.outcome s.turn h.won h.owns h.shared x b
    (eq-eqb line line refl) (h.fits u) h.owned w)
