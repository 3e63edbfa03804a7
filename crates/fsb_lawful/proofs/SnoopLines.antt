-- Rule 11: the snoop lines of a timely run are at snoop clocks alone.
use Rattle.fsb_lawful.proofs.Words
use Words.{ℕ, ◌+◌, ◌<◌, ◌≡◌, Bool, true, false, not, Option, Some, None, length, take, refl, sym, ap, ◌∙◌, arith}
use Words.{option_and_then, le-ltb, lt-ltb, is_some_and, is_before, any_where-at, first_where-found, Marks, Trace}
use Words.{live_count, is_every_second_from, ends_snoop, snoop_end_from, snoop_end_if, snoop_end_of, snoop_start_of}
use Words.{is_snoop_clock_of, is_snoop_clock, is_snoop_line_alone, breaks-11, live_below_count, snoop_end_of-clock}
use Words.{moment_at, snoop_at, number_snooped_at, Past, SnoopEnd, Run, run_to, past_of, past_to, is_keep, is_put_off}
use Words.{drives_defer, keeps_snoop_lines, drives_hazards, holds_in, holds_at, Timely, moment_of, number-says}
use Words.{snooped-there, Keeps}
use Rattle.fsb_lawful.proofs.Cuts.{snooped-to}
use Rattle.fsb_lawful.proofs.Keeping.{keeps}

-- a snoop end is that of a snoop that starts
end_of_start : (w : Trace) (i : ℕ) → snoop_end_of w i ≡ snoop_end_if w (snoop_start_of w i)
unfolding snoop_end_of snoop_start_of
end_of_start w i = grind arith

second_by : (w : Trace) (s : ℕ) (o : Option ℕ) → option_and_then (snoop_end_from w) o ≡ Some s
    → is_some_and o (λ start. is_every_second_from start s) ≡ true
unfolding is_some_and snoop_end_from ends_snoop
second_by w s o h1 = grind (arith, first_where-found)

-- it is every second clock from that start
second : (w : Trace) (i s : ℕ) → snoop_end_of w i ≡ Some s
    → is_some_and (snoop_start_of w i) (λ start. is_every_second_from start s) ≡ true
unfolding snoop_end_if
second w i s e = second_by w s (snoop_start_of w i) (sym (end_of_start w i) ∙ e)

not-before : (s : ℕ) (o : Option ℕ) → o ≡ Some s → not (is_before o s) ≡ true
unfolding is_before is_some_and
not-before s o e = rw (e, le-ltb s s (omega arith)) refl

-- a snoop end is a snoop clock
pub end-is_snoop_clock : (w : Trace) (i s : ℕ) → snoop_end_of w i ≡ Some s → is_snoop_clock w s ≡ true
unfolding is_snoop_clock is_snoop_clock_of
end-is_snoop_clock w i s e =
    let h = snoop_end_of-clock w i s e in
    any_where-at (is_snoop_clock_of w s) (live_count w) i (live_below_count w i h.clock h.is_clock)
    (rw (lt-ltb s (length w) h.within, second w i s e, not-before s (snoop_end_of w i) e) refl)

-- where the moment of a clock has a snoop end, the clock is one
numbered : (r : Run) (c : ℕ) (test : SnoopEnd → Bool) (o : Option ℕ)
    → number_snooped_at (run_to r c).trace c ≡ o → is_some_and (moment_of r c).snooped test ≡ true
    → (i : ℕ) × (snoop_end_of (run_to r c).trace i ≡ Some c)
unfolding is_some_and snoop_at moment_at
numbered r c test None e h = let no : false ≡ true = rw (e, snoop_at) at h in absurd (cc no)
numbered r c test (Some i) e h = (i, number-says (run_to r c).trace i c e)

put_off-end : (r : Run) (c : ℕ) → c < length r.trace → is_put_off (past_to (past_of r) c) c ≡ true
    → (i : ℕ) × (snoop_end_of (run_to r c).trace i ≡ Some c)
unfolding is_put_off
put_off-end r c l h =
    let there = snooped-to (past_of r) c c (omega arith) ∙ snooped-there r c l in
    numbered r c (λ s. not (is_keep s.turn)) (number_snooped_at (run_to r c).trace c) refl
    (sym (ap (λ o. is_some_and o (λ s. not (is_keep s.turn))) there) ∙ h)

by-parts : (r : Run) (p : Past) (c : ℕ) → drives_hazards r p c ≡ true
    → (is_put_off p c ≡ true → is_snoop_clock r.trace c ≡ true) → is_snoop_line_alone r.trace c ≡ false
unfolding drives_hazards drives_defer keeps_snoop_lines is_snoop_line_alone
by-parts r p c e f = grind arith

at-clock : (r : Run) (c : ℕ) → Timely r → c < length r.trace → is_snoop_line_alone (run_to r c).trace c ≡ false
unfolding holds_at holds_in
at-clock r c h l = grind (arith, by-parts, put_off-end, end-is_snoop_clock)

-- rule 11
pub keeps-11 : (m : Marks) (r : Run) → Timely r → Keeps m 11 r.trace
unfolding run_to
keeps-11 m r h = keeps m 11 r.trace (λ c l. breaks-11 m (take (c + 1) r.trace) c ∙ at-clock r c h l)
