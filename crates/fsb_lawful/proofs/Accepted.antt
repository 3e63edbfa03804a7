-- A timely run whose plan keeps the bounds is accepted: no rule is broken at any of its clocks.
use Rattle.fsb_lawful.proofs.Words
use Words.{ℕ, ◌<◌, ◌≡◌, false, None, is_some, length, refl, ap, arith, below_more, first_where-off, Marks, marks_in}
use Words.{Trace, is_broken, breaks_a_rule, least_rule, verdict, breaks-none, Run, Timely, KeepsBounds, Keeps}
use Words.{WritesBackAlone}
use Rattle.fsb_lawful.proofs.AddressErrors.{keeps-10}
use Rattle.fsb_lawful.proofs.Answers.{keeps-13, keeps-15}
use Rattle.fsb_lawful.proofs.Beginnings.{keeps-2, keeps-4, keeps-5, keeps-6}
use Rattle.fsb_lawful.proofs.BusLock.{keeps-9}
use Rattle.fsb_lawful.proofs.Codes.{keeps-3}
use Rattle.fsb_lawful.proofs.DataMoves.{keeps-16}
use Rattle.fsb_lawful.proofs.EvenParity.{keeps-19, keeps-20}
use Rattle.fsb_lawful.proofs.Identity.{keeps-7}
use Rattle.fsb_lawful.proofs.KnownWords.{keeps-1, keeps-17}
use Rattle.fsb_lawful.proofs.LawfulBeginnings.{wants-lawfully}
use Rattle.fsb_lawful.proofs.NewRequests.{keeps-18}
use Rattle.fsb_lawful.proofs.RequestLines.{keeps-8}
use Rattle.fsb_lawful.proofs.ResponseCodes.{keeps-14}
use Rattle.fsb_lawful.proofs.SnoopLines.{keeps-11}
use Rattle.fsb_lawful.proofs.SnoopResults.{keeps-12}

no-rule : (m : Marks) (w : Trace) → Keeps m 0 w
unfolding is_broken
no-rule m w = grind (arith, breaks-none)

none-below : (m : Marks) (w : Trace) (j : ℕ) → j < 0 → Keeps m j w
none-below m w j l = absurd (omega arith)

-- each rule is kept
each-rule : (r : Run) → Timely r → KeepsBounds r.plan → WritesBackAlone r → (j : ℕ) → j < 21
    → Keeps (marks_in r.plan.profile) j r.trace
each-rule r h bounds alone =
    let m : Marks = marks_in r.plan.profile in
    let w : Trace = r.trace in
    let P : ℕ → Type 0 = λ j. Keeps m j w in
    let wants = wants-lawfully r bounds in
    let few = bounds.few_ahead in
    let b0 = below_more P 0 (none-below m w) (no-rule m w) in
    let b1 = below_more P 1 b0 (keeps-1 m r h) in
    let b2 = below_more P 2 b1 (keeps-2 m r h) in
    let b3 = below_more P 3 b2 (keeps-3 m r h wants) in
    let b4 = below_more P 4 b3 (keeps-4 m r h) in
    let b5 = below_more P 5 b4 (keeps-5 m r h) in
    let b6 = below_more P 6 b5 (keeps-6 m r h) in
    let b7 = below_more P 7 b6 (keeps-7 m r h few wants) in
    let b8 = below_more P 8 b7 (keeps-8 m r h wants few) in
    let b9 = below_more P 9 b8 (keeps-9 m r h) in
    let b10 = below_more P 10 b9 (keeps-10 m r h) in
    let b11 = below_more P 11 b10 (keeps-11 m r h) in
    let b12 = below_more P 12 b11 (keeps-12 m r h wants alone) in
    let b13 = below_more P 13 b12 (keeps-13 m r h) in
    let b14 = below_more P 14 b13 (keeps-14 m r h wants) in
    let b15 = below_more P 15 b14 (keeps-15 m r h) in
    let b16 = below_more P 16 b15 (keeps-16 m r h) in
    let b17 = below_more P 17 b16 (keeps-17 m r h) in
    let b18 = below_more P 18 b17 (keeps-18 m r h wants few) in
    let b19 = below_more P 19 b18 (keeps-19 r h) in
    below_more P 20 b19 (keeps-20 r h)

-- no clock of a trace that keeps each rule is foul
clean : (m : Marks) (w : Trace) (c : ℕ) → ((j : ℕ) → j < 21 → Keeps m j w) → breaks_a_rule m w c ≡ false
unfolding breaks_a_rule least_rule
clean m w c kept = ap (λ o. is_some o) (first_where-off (is_broken m w c) 21 (λ j l. (kept j l).unbroken c))

accepted-by : (m : Marks) (w : Trace) → ((c : ℕ) → breaks_a_rule m w c ≡ false) → verdict m w ≡ None
unfolding verdict
accepted-by m w h = rw (first_where-off (breaks_a_rule m w) (length w) (λ c l. h c)) refl

-- no rule is broken at a clock of the run
pub each-clock : (r : Run) → Timely r → KeepsBounds r.plan → WritesBackAlone r → (c : ℕ)
    → breaks_a_rule (marks_in r.plan.profile) r.trace c ≡ false
each-clock r h bounds alone c = clean (marks_in r.plan.profile) r.trace c (each-rule r h bounds alone)

-- the run is accepted
pub accepted : (r : Run) → Timely r → KeepsBounds r.plan → WritesBackAlone r
    → verdict (marks_in r.plan.profile) r.trace ≡ None
accepted r h bounds alone = accepted-by (marks_in r.plan.profile) r.trace (each-clock r h bounds alone)
