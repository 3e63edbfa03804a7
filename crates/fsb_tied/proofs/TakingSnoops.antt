-- Where memory takes the data of a request for a line, its end is awaited on the line, and its link has a giver.
use Rattle.fsb_tied.proofs.Words
use Words.{ℕ, ◌≡◌, Bool, true, false, not, ◌&&◌, ◌||◌, nat_eq, if◌then◌else◌, Option, Some, None, is_some, refl, ◌∙◌}
use Words.{arith, and_from, and_parts, both_ways, first_where, is_some_and, any_where-at, first_where-found, Kind}
use Words.{Outcome, Deferred, Failed, Granted, Handed, Replied, Retried, Upgraded, Written, does_take}
use Words.{is_write_back_kind, holds_line, is_exclusive, snooped_at, is_dirty, is_got, is_upgraded, makes_grant, Grant}
use Words.{Past, SnoopEnd, Run, past_of, past_to, is_held_elsewhere, is_held_for, WritesBackAlone, Awaited, awaited_by}
use Words.{awaited_by_claim, awaited_by_grant, is_written, owner_at, IsSnoopOn, IsUncontested, fits_kind}
use Words.{fits_write_back, giver_at}

exclusive-holds : (p : Past) (a line n : ℕ) → is_exclusive p a line n ≡ true → holds_line p a line n ≡ true
unfolding is_exclusive
exclusive-holds p a line n e = (and_parts (holds_line p a line n) _ (and_parts _ _ e).0).0

dirty-holds : (p : Past) (a line n : ℕ) → is_dirty p a line n ≡ true → holds_line p a line n ≡ true
unfolding is_dirty
dirty-holds p a line n e = exclusive-holds p a line n (and_parts (is_exclusive p a line n) _ e).0

-- the owner that hands a line over is another agent that holds it
owner-holds : (p : Past) (a line t : ℕ) → is_some (owner_at p a line t) ≡ true → is_held_elsewhere p a line t ≡ true
unfolding owner_at is_held_elsewhere
owner-holds p a line t e = by-owner (first_where (λ b. not (nat_eq b a) && is_dirty p b line t) 4) refl e
  where
    by-owner : (o : Option ℕ) → first_where (λ b. not (nat_eq b a) && is_dirty p b line t) 4 ≡ o → is_some o ≡ true
        → is_held_elsewhere p a line t ≡ true
    by-owner None f h = absurd (let no : ⊥ = cc in no)
    by-owner (Some b) f h =
        let found = first_where-found (λ c. not (nat_eq c a) && is_dirty p c line t) 4 b f in
        let parts = and_parts (not (nat_eq b a)) (is_dirty p b line t) found.1 in
        any_where-at (λ c. not (nat_eq c a) && holds_line p c line t) 4 b found.0
        (and_from (not (nat_eq b a)) (holds_line p b line t) parts.0 (dirty-holds p b line t parts.1))

-- so a write-back is not handed over
pub uncontested : (r : Run) (line n : ℕ) (s : SnoopEnd) → WritesBackAlone r → snooped_at (past_of r) n ≡ Some s
    → (fits : IsSnoopOn (past_of r) line n s) → IsUncontested fits.kind s.outcome
unfolding is_held_for is_some_and is_write_back_kind
uncontested r line n s alone there fits kind handed =
    let p : Past = past_to (past_of r) n in
    let writes : is_some_and s.kind is_write_back_kind ≡ true = rw (fits.known, kind) refl in
    let none = alone.alone n s there writes in
    let here = rw fits.claimed at none in
    both_ways (is_held_elsewhere p fits.agent line n) here (owner-holds p fits.agent line n (fits.owned handed))

-- an end is awaited on the line, and the link has a giver
pub record IsTaking (p : Past) (line t : ℕ) (s : SnoopEnd) : Type 0 where
  pub awaited : Awaited
  pub awaits : awaited_by s ≡ Some awaited
  pub names : awaited.line ≡ line
  pub gives : is_some (giver_at p line t awaited.agent s) ≡ true

written-ungranted : (kind : Kind) (outcome : Outcome) (won : Bool) (grant : Grant) → outcome ≡ Written
    → fits_kind kind outcome ≡ true
    → (if makes_grant kind outcome || (is_upgraded outcome && won) then Some grant else None) ≡ None
unfolding fits_kind fits_write_back makes_grant is_got is_upgraded
written-ungranted kind outcome won grant h1 h2 = grind arith

handed-granted : (kind : Kind) (outcome : Outcome) (won : Bool) (grant : Grant) → outcome ≡ Handed
    → fits_kind kind outcome ≡ true
    → (if makes_grant kind outcome || (is_upgraded outcome && won) then Some grant else None) ≡ Some grant
unfolding fits_kind fits_write_back makes_grant is_got is_upgraded
handed-granted kind outcome won grant h1 h2 = grind arith

-- a snoop end of a request for the line after which memory takes its data
pub taking : (p : Past) (line t : ℕ) (s : SnoopEnd) (fits : IsSnoopOn p line t s) → IsUncontested fits.kind s.outcome
    → does_take s.outcome ≡ true → IsTaking p line t s
unfolding does_take awaited_by awaited_by_claim awaited_by_grant is_written giver_at
taking p line t s fits free takes = by-outcome s.outcome refl
  where
    by-outcome : (outcome : Outcome) → s.outcome ≡ outcome → IsTaking p line t s
    by-outcome Written e =
        let grant = fits.granted ∙ written-ungranted fits.kind s.outcome fits.won _ e (fits.fits free) in
        record {
          awaited = record { agent = fits.agent; line = line; carries = true };
          awaits = rw (grant, e, fits.claimed) refl;
          names = refl;
          gives = rw e refl;
        }
    by-outcome Handed e =
        let grant = fits.granted ∙ handed-granted fits.kind s.outcome fits.won _ e (fits.fits free) in
        record {
          awaited = record { agent = fits.agent; line = line; carries = not (is_upgraded s.outcome) };
          awaits = rw grant refl;
          names = refl;
          gives = rw e (fits.owned e);
        }
    by-outcome Granted e = absurd (let no : ⊥ = (let f = rw e at takes in cc) in no)
    by-outcome Retried e = absurd (let no : ⊥ = (let f = rw e at takes in cc) in no)
    by-outcome Deferred e = absurd (let no : ⊥ = (let f = rw e at takes in cc) in no)
    by-outcome Replied e = absurd (let no : ⊥ = (let f = rw e at takes in cc) in no)
    by-outcome Failed e = absurd (let no : ⊥ = (let f = rw e at takes in cc) in no)
    by-outcome Upgraded e = absurd (let no : ⊥ = (let f = rw e at takes in cc) in no)

-- where memory takes no data, the link has no giver
pub ungiven : (p : Past) (line t a : ℕ) (s : SnoopEnd) → does_take s.outcome ≡ false → giver_at p line t a s ≡ None
unfolding does_take giver_at
ungiven p line t a s takes = grind arith
