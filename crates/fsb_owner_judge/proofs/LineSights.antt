-- What the wires show of a line is what they show at the clock, where that is of the line.
use Rattle.std.proofs.Common.{ℕ, ◌<◌, ◌≡◌, Bool, true, false, ◌&&◌, not, nat_eq, Option, Some, None, refl, sym}
use Rattle.std.proofs.Common.{arith, inl, inr, if◌then◌else◌}
use Rattle.std.specs.Option.{option_and_then, option_map}
use Rattle.std.proofs.lemmas.Bool.{cases_Bool}
use Rattle.std.proofs.lemmas.Bool.Decides.{nat_tests}
use Rattle.fsb_count.specs.Options.{is_at, is_some_and}
use Rattle.fsb_signal.specs.declared.lines.TheConstants.Lines.{ADS, HIT, HITM}
use Rattle.fsb_signal.specs.Samples.{line_at}
use Rattle.fsb_trace.specs.At.{Trace, request_at}
use Rattle.fsb_trace.specs.Requests.{is_reply, line_of, live_request_of}
use Rattle.fsb_owners.specs.Shown.{agent_at, is_for_line, is_turned, names, origin_clock_of, purpose_at, snooped_at}
use Rattle.fsb_line.specs.declared.purpose.Purpose.{Purpose}
use Rattle.fsb_joint.specs.declared.line_clock.Begun.{Begun}
use Rattle.fsb_joint.specs.declared.line_clock.SnoopEnd.{SnoopEnd}
use Rattle.fsb_joint.specs.LineClock.{BegunByOne, EndedByOne, begun_at, end_by, ended_at}
use Rattle.fsb_owner_judge.specs.declared.sights.Asking.{Asking}
use Rattle.fsb_owner_judge.specs.declared.sights.LineEnd.{LineEnd}
use Rattle.fsb_owner_judge.specs.Sights.{AsksAsOne, EndsAsOne, asking_at, asking_of, begun_for, begun_of, end_of_line}
use Rattle.fsb_owner_judge.specs.Sights.{ended_for, line_end_at, line_end_by, line_end_of}

pub itself : (n : ℕ) → nat_eq n n ≡ true
itself n = grind (arith, nat_tests)

pub one_line : (n m : ℕ) → nat_eq n m ≡ true → n ≡ m
one_line n m e = grind (arith, nat_tests)

off : (a r : Bool) → (a && false && r) ≡ false
off true r = refl
off false r = refl

-- a request names no line but its own
names_none : (v : Trace) (line q : ℕ) → line_of v q ≡ None → names v line q ≡ false
unfolding names is_at is_some_and
names_none v line q e = rw e (off (line_at ADS v q) (not (is_reply (request_at v q))))

names_other : (v : Trace) (l line q : ℕ) → line_of v q ≡ Some l → nat_eq l line ≡ false → names v line q ≡ false
unfolding names is_at is_some_and
names_other v l line q e f = rw (e, f) (off (line_at ADS v q) (not (is_reply (request_at v q))))

same_begun : (v : Trace) (line c : ℕ) (b : Bool) (g : Option ℕ)
    → (if b then option_and_then (λ a. option_map (λ k. record { agent = a; kind = k }) (purpose_at v c)) g else None)
    ≡ begun_for line (if b then option_map (asking_of v c line) g else None)
unfolding asking_of begun_for begun_of
same_begun v line c false g = refl
same_begun v line c true None = refl
same_begun v line c true (Some a) = rw (itself line) refl

other_begun : (v : Trace) (l line c : ℕ) (b : Bool) (g : Option ℕ) → nat_eq l line ≡ false
    → None ≡ begun_for line (if b then option_map (asking_of v c l) g else None)
unfolding asking_of begun_for begun_of
other_begun v l line c false g f = refl
other_begun v l line c true None f = refl
other_begun v l line c true (Some a) f = rw f refl

begun_line : (v : Trace) (line c : ℕ) (o : Option ℕ) → line_of v c ≡ o → begun_at v line c
    ≡ begun_for line (option_and_then (λ l. if names v l c then option_map (asking_of v c l) (agent_at v c) else None) o)
unfolding begun_at begun_for
begun_line v line c None e = rw (names_none v line c e) refl
begun_line v line c (Some l) e =
    elim (cases_Bool (nat_eq l line)) [
      | inl t ↦ rw (one_line l line t) (same_begun v line c (names v line c) (agent_at v c))
      | inr f ↦ rw (names_other v l line c e f) (other_begun v l line c (names v l c) (agent_at v c) f)
    ]

-- the request for a line that begins is the one that begins, where that is for the line
pub begun-at : (v : Trace) (line c : ℕ) → begun_at v line c ≡ begun_for line (asking_at v c)
unfolding asking_at
begun-at v line c = begun_line v line c (line_of v c) refl

same_end : (v : Trace) (line c j q : ℕ) (b : Bool) (g : Option ℕ)
    → (if b then option_and_then (λ a. option_map (λ k. record {
      asker = a;
      kind = k;
      is_reply = is_reply (live_request_of v j);
      hit = line_at HIT v c;
      hitm = line_at HITM v c;
      turned = is_turned v j;
    }) (purpose_at v q)) g else None)
    ≡ ended_for line (if b then option_map (line_end_of v c j q line) g else None)
unfolding line_end_of ended_for end_of_line
same_end v line c j q false g = refl
same_end v line c j q true None = refl
same_end v line c j q true (Some a) = rw (itself line) refl

other_end : (v : Trace) (l line c j q : ℕ) (b : Bool) (g : Option ℕ) → nat_eq l line ≡ false
    → None ≡ ended_for line (if b then option_map (line_end_of v c j q l) g else None)
unfolding line_end_of ended_for end_of_line
other_end v l line c j q false g f = refl
other_end v l line c j q true None f = refl
other_end v l line c j q true (Some a) f = rw f refl

end_line : (v : Trace) (line c j q : ℕ) (o : Option ℕ) → line_of v q ≡ o
    → (if names v line q then end_by v c j q else None)
    ≡ ended_for line (option_and_then (λ l. if names v l q then option_map (line_end_of v c j q l) (agent_at v q) else None) o)
unfolding end_by ended_for
end_line v line c j q None e = rw (names_none v line q e) refl
end_line v line c j q (Some l) e =
    elim (cases_Bool (nat_eq l line)) [
      | inl t ↦ rw (one_line l line t) (same_end v line c j q (names v line q) (agent_at v q))
      | inr f ↦ rw (names_other v l line q e f) (other_end v l line c j q (names v l q) (agent_at v q) f)
    ]

ended_none : (line : ℕ) → ended_for line None ≡ None
unfolding ended_for
ended_none line = refl

end_clock : (v : Trace) (line c j : ℕ) (o : Option ℕ)
    → (if is_some_and o (names v line) then option_and_then (end_by v c j) o else None)
    ≡ ended_for line (option_and_then (line_end_by v c j) o)
unfolding is_some_and line_end_by
end_clock v line c j None = let r : ended_for line None ≡ None = ended_none line in sym r
end_clock v line c j (Some q) = end_line v line c j q (line_of v q) refl

end_number : (v : Trace) (line c : ℕ) (o : Option ℕ)
    → option_and_then (λ j. if is_for_line v line j then option_and_then (end_by v c j) (origin_clock_of v j) else None) o
    ≡ ended_for line (option_and_then (λ j. option_and_then (line_end_by v c j) (origin_clock_of v j)) o)
unfolding is_for_line
end_number v line c None = sym (ended_none line)
end_number v line c (Some j) = end_clock v line c j (origin_clock_of v j)

-- the snoop end for a line is the snoop end, where that is for the line
pub ended-at : (v : Trace) (line c : ℕ) → ended_at v line c ≡ ended_for line (line_end_at v c)
unfolding ended_at line_end_at
ended-at v line c = end_number v line c (snooped_at v c)

by_kind : (a : ℕ) (k : Option Purpose) → a < 4 → BegunByOne (option_map {U = Begun} (λ kind. record { agent = a; kind = kind }) k)
by_kind a None l = tt
by_kind a (Some kind) l = l

-- its agent is one of four
pub begun-one : (line : ℕ) (o : Option Asking) → AsksAsOne o → BegunByOne (begun_for line o)
unfolding begun_for begun_of
begun-one line None l = tt
begun-one line (Some r) l =
    elim (cases_Bool (nat_eq r.line line)) [
      | inl t ↦ rw t (by_kind r.agent r.kind l)
      | inr f ↦ rw f tt
    ]

pub begun-own : (r : Asking) → r.agent < 4 → BegunByOne (begun_of r)
unfolding begun_of
begun-own r l = by_kind r.agent r.kind l

end_kind : (e : LineEnd) (k : Option Purpose) → e.asker < 4 → EndedByOne (option_map {U = SnoopEnd} (λ kind. record {
  asker = e.asker;
  kind = kind;
  is_reply = e.is_reply;
  hit = e.hit;
  hitm = e.hitm;
  turned = e.turned;
}) k)
end_kind e None l = tt
end_kind e (Some kind) l = l

pub end-own : (e : LineEnd) → e.asker < 4 → EndedByOne (end_of_line e)
unfolding end_of_line
end-own e l = end_kind e e.kind l

pub ended-one : (line : ℕ) (o : Option LineEnd) → EndsAsOne o → EndedByOne (ended_for line o)
unfolding ended_for
ended-one line None l = tt
ended-one line (Some e) l =
    elim (cases_Bool (nat_eq e.line line)) [
      | inl t ↦ rw t (end-own e l)
      | inr f ↦ rw f tt
    ]

-- the snoop end as it counts for its own line
pub ended-own : (e : LineEnd) → ended_for e.line (Some e) ≡ end_of_line e
unfolding ended_for
ended-own e = rw (itself e.line) refl

-- the request as it counts for its own line
pub begun-of : (r : Asking) → begun_for r.line (Some r) ≡ begun_of r
unfolding begun_for
begun-of r = rw (itself r.line) refl
