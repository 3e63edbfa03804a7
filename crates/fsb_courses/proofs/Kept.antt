-- Where no rule is broken up to a clock, each line that is not spoiled keeps a joint state.
use Rattle.std.proofs.Common.{ℕ, zero, suc, ◌+◌, ◌-◌, ◌<◌, ◌≤◌, ◌≡◌, Bool, true, false, ◌&&◌, ◌||◌, not, nat_lt, length, take}
use Rattle.std.proofs.Common.{List, Option, Some, None, refl, sym, ap, ◌∙◌, subst, arith}
use Rattle.std.proofs.lemmas.Bool.{both_ways, false_from_ne_true, lt-ltb, or_from, or_parts}
use Rattle.fsb_signal.specs.declared.lines.TheConstants.Lines.{HIT, HITM}
use Rattle.fsb_signal.specs.declared.marks.Marks.{Marks}
use Rattle.fsb_signal.specs.Samples.{line_at}
use Rattle.fsb_trace.specs.At.{Trace}
use Rattle.fsb_trace.specs.Verdict.{verdict}
use Rattle.fsb_owners.specs.Joint.{Joint}
use Rattle.fsb_owners.specs.Possible.{left_by, possible, possible_begun, possible_shown}
use Rattle.fsb_owners.specs.Rules.{at_answer, is_asked_in_vain, is_given_again, is_holder_lacking, is_holder_silent}
use Rattle.fsb_owners.specs.Rules.{is_none_left, is_of_write_back, is_owned_elsewhere, is_owner_lacking}
use Rattle.fsb_owners.specs.Rules.{is_owner_silent, is_ownership_broken, is_upgrade_unfit, is_write_back_unfit, is_written_when_lost}
use Rattle.fsb_owners.specs.Rules.{of_answer}
use Rattle.fsb_owners.specs.Shown.{is_spoiled}
use Rattle.fsb_owner_laws.specs.Losses.{AreCoherent}
use Rattle.fsb_owner_laws.specs.Unbroken.{IsUnbroken}
use Rattle.fsb_owner_laws.proofs.AgreePossible.{possible-agree}
use Rattle.fsb_owner_laws.proofs.AgreeWords.{Alike}
use Rattle.fsb_owner_laws.proofs.BrokenRules.{IsEnder, answered, begun_breaks, ender_parts, shown_by}
use Rattle.fsb_owner_laws.proofs.Emptied.{Ender, ender, step_by}
use Rattle.fsb_owner_laws.proofs.Replies.{none_lost}
use Rattle.fsb_owner_laws.proofs.Sound.{sound_orderly}
use Rattle.fsb_courses.proofs.Ends.{course_left, some_course}
use Rattle.fsb_courses.proofs.Prefixes.{asked_before, begun_last, hit_before, prefixes_agree, size}
use Rattle.fsb_courses.proofs.Spoiled.{sound_before}
use Rattle.fsb_courses.proofs.Turning.{AllUnbroken, all_off}

-- a snoop end that breaks none of the rules 25 to 29

record FitsAnswer (first : List Joint) (v : Trace) (s : ℕ) : Type 0 where
  lacking : of_answer first v s (λ j line a. not (is_of_write_back v j) && line_at HITM v s) ≡ false
  silent : of_answer first v s (λ j line a. not (is_of_write_back v j) && not (line_at HITM v s)
      && is_owned_elsewhere first v s line a) ≡ false
  hit_silent : of_answer first v s (λ j line a. not (is_of_write_back v j) && not (line_at HITM v s) && not (line_at HIT v s)
      && not (is_owned_elsewhere first v s line a)) ≡ false
  hit_lacking : of_answer first v s (λ j line a. not (is_of_write_back v j) && not (line_at HITM v s) && line_at HIT v s
      && not (is_owned_elsewhere first v s line a)) ≡ false
  written : of_answer first v s (λ j line a. is_of_write_back v j) ≡ false

fits_now : (first : List Joint) (v : Trace) (c : ℕ) → AllUnbroken first v c → FitsAnswer first v c
unfolding is_owner_lacking is_owner_silent is_holder_silent is_holder_lacking is_written_when_lost at_answer
fits_now first v c o = record {
  lacking = (or_parts _ _ o.owner_lacking).0;
  silent = (or_parts _ _ o.owner_silent).0;
  hit_silent = (or_parts _ _ o.holder_silent).0;
  hit_lacking = (or_parts _ _ o.holder_lacking).0;
  written = (or_parts _ _ o.written).0;
}

late_off : (a b c : Bool) → b ≡ true → (a || (b && c)) ≡ false → c ≡ false
late_off false true c t e = e
late_off false false c t e = absurd (let no : ⊥ = cc in no)
late_off true b c t e = absurd (let no : ⊥ = cc in no)

fits_late : (first : List Joint) (v : Trace) (c : ℕ) → 0 < c → AllUnbroken first v c → FitsAnswer first v (c - 1)
unfolding is_owner_lacking is_owner_silent is_holder_silent is_holder_lacking is_written_when_lost at_answer
fits_late first v c l o = record {
  lacking = late_off _ (nat_lt 0 c) _ (lt-ltb 0 c l) o.owner_lacking;
  silent = late_off _ (nat_lt 0 c) _ (lt-ltb 0 c l) o.owner_silent;
  hit_silent = late_off _ (nat_lt 0 c) _ (lt-ltb 0 c l) o.holder_silent;
  hit_lacking = late_off _ (nat_lt 0 c) _ (lt-ltb 0 c l) o.holder_lacking;
  written = late_off _ (nat_lt 0 c) _ (lt-ltb 0 c l) o.written;
}

none_of_five : (w m h o : Bool) → (not w && m) ≡ false → (not w && not m && o) ≡ false
    → (not w && not m && not h && not o) ≡ false → (not w && not m && h && not o) ≡ false → w ≡ false → ⊥
none_of_five true m h o a b c d e = cc
none_of_five false true h o a b c d e = cc
none_of_five false false h true a b c d e = cc
none_of_five false false true false a b c d e = cc
none_of_five false false false false a b c d e = cc

lost_by : (first : List Joint) (v : Trace) (line s : ℕ) (e : Ender) → IsEnder v line s e → FitsAnswer first v s
    → is_spoiled v line ≡ false → is_none_left (possible_begun first v line s) ≡ false
    → is_none_left (possible_shown first v line s) ≡ true → ⊥
lost_by first v line s e p f u g t =
    let same = λ (test : ℕ → ℕ → ℕ → Bool). answered first v line s e test p u g t in
    none_of_five (is_of_write_back v e.0) (line_at HITM v s) (line_at HIT v s) (is_owned_elsewhere first v s line e.1.0)
    (sym (same (λ j line a. not (is_of_write_back v j) && line_at HITM v s)) ∙ f.lacking)
    (sym (same (λ j line a. not (is_of_write_back v j) && not (line_at HITM v s) && is_owned_elsewhere first v s line a)) ∙ f.silent)
    (sym (same (λ j line a. not (is_of_write_back v j) && not (line_at HITM v s) && not (line_at HIT v s)
    && not (is_owned_elsewhere first v s line a))) ∙ f.hit_silent)
    (sym (same (λ j line a. not (is_of_write_back v j) && not (line_at HITM v s) && line_at HIT v s
    && not (is_owned_elsewhere first v s line a))) ∙ f.hit_lacking)
    (sym (same (λ j line a. is_of_write_back v j)) ∙ f.written)

shown_if : (first : List Joint) (v : Trace) (line s : ℕ) (o : Option Ender) → ender v line s ≡ o → FitsAnswer first v s
    → is_spoiled v line ≡ false → is_none_left (possible_begun first v line s) ≡ false
    → is_none_left (possible_shown first v line s) ≡ false
shown_if first v line s None h f u g =
    ap is_none_left (shown_by first v line s)
    ∙ ap (λ o. is_none_left (step_by (left_by v s) o (possible_begun first v line s))) h ∙ g
shown_if first v line s (Some e) h f u g =
    false_from_ne_true (is_none_left (possible_shown first v line s))
    (λ t. lost_by first v line s e (ender_parts v line s e h) f u g t)

-- a request that breaks none of the rules 22 to 24
begun_kept : (first : List Joint) (v : Trace) (line c : ℕ) → 0 < c → AllUnbroken first v c → is_spoiled v line ≡ false
    → is_none_left (possible first v line (c - 1)) ≡ false → is_none_left (possible_begun first v line (c - 1)) ≡ false
begun_kept first v line c l o u g =
    false_from_ne_true (is_none_left (possible_begun first v line (c - 1))) (λ t.
    both_ways (is_write_back_unfit first v c || is_upgrade_unfit first v c || is_asked_in_vain first v c)
    (or_from (is_write_back_unfit first v c || is_upgrade_unfit first v c) (is_asked_in_vain first v c)
    (or_from (is_write_back_unfit first v c) (is_upgrade_unfit first v c) o.write_backs o.upgrades) o.reads)
    (begun_breaks first v line c l u g t))

same_given : (first : List Joint) (v : Trace) (c d : ℕ) → is_given_again first v c ≡ false → is_given_again first v d ≡ false
unfolding is_given_again
same_given first v c d e = e

-- no rule is broken up to c
pub record AreUnbroken (m : Marks) (first : List Joint) (w : Trace) (c : ℕ) : Type 0 where
  pub within : c < length w
  pub phases : (d : ℕ) → d ≤ c → verdict m (take (d + 1) w) ≡ None
  pub rules : (d j : ℕ) → d ≤ c → j < 32 → is_ownership_broken first w d j ≡ false

pub fewer : (m : Marks) (first : List Joint) (w : Trace) (b c : ℕ) → b ≤ c → AreUnbroken m first w c → AreUnbroken m first w b
fewer m first w b c l u = record {
  within = (let h = u.within in omega (arith, l, h));
  phases = λ d n. u.phases d (omega (arith, l, n));
  rules = λ d j n. u.rules d j (omega (arith, l, n));
}

alike : (m : Marks) (first : List Joint) (w : Trace) (d c : ℕ) → d ≤ c → AreUnbroken m first w c
    → Alike (d + 1) (take (d + 1) w) (take (c + 1) w)
alike m first w d c l u = record {
  agree = prefixes_agree w d c l u.within;
  left = sound_orderly m (take (d + 1) w) (u.phases d l);
  right = sound_orderly m (take (c + 1) w) (u.phases c (omega arith));
}

off_at : (m : Marks) (first : List Joint) (w : Trace) (d c : ℕ) → d ≤ c → AreUnbroken m first w c
    → AllUnbroken first (take (d + 1) w) d
off_at m first w d c l u = all_off first w d (let h = u.within in omega (arith, l, h)) (λ j n. u.rules d j l n)

short : (m : Marks) (first : List Joint) (w : Trace) (d c : ℕ) → d ≤ c → AreUnbroken m first w c
    → length (take (d + 1) w) ≤ d + 1
short m first w d c l u = (let h = u.within in let e = size w d (omega (arith, l, h)) in omega (arith, e))

unbroken_at : (m : Marks) (first : List Joint) (w : Trace) (line d c : ℕ) → d ≤ c → AreUnbroken m first w c
    → is_spoiled (take (c + 1) w) line ≡ false → IsUnbroken m first (take (c + 1) w) line d
unbroken_at m first w line d c l u s = record {
  phases = u.phases c (omega arith);
  sound = s;
  asked = λ e n.
      let low : e ≤ c = omega (arith, l, n) in
      asked_before (e + 1) first (take (e + 1) w) (take (c + 1) w) e (alike m first w e c low u) (short m first w e c low u)
      (omega arith) (off_at m first w e c low u).asked;
  given = same_given first (take (c + 1) w) c d (off_at m first w c c (omega arith) u).given;
  hit = hit_before (d + 1) first (take (d + 1) w) (take (c + 1) w) d (alike m first w d c l u) (short m first w d c l u)
      (omega arith) (off_at m first w d c l u).hit;
}

-- one clock on
clock_kept : (m : Marks) (first : List Joint) (w : Trace) (line d c : ℕ) → AreCoherent first → d ≤ c → AreUnbroken m first w c
    → is_spoiled (take (c + 1) w) line ≡ false → FitsAnswer first (take (c + 1) w) d
    → is_none_left (possible_begun first (take (c + 1) w) line d) ≡ false
    → is_none_left (possible first (take (c + 1) w) line (d + 1)) ≡ false
clock_kept m first w line d c a l u s f g =
    let v = take (c + 1) w in
    none_lost m first v line d a (unbroken_at m first w line d c l u s)
    ∙ shown_if first v line d (ender v line d) refl f s g

-- at the last clock, where something was possible before it
last_kept : (m : Marks) (first : List Joint) (w : Trace) (line c : ℕ) → AreCoherent first → AreUnbroken m first w c
    → is_spoiled (take (c + 1) w) line ≡ false → is_none_left (possible first (take (c + 1) w) line c) ≡ false
    → is_none_left (possible first (take (c + 1) w) line (c + 1)) ≡ false
last_kept m first w line c a u s g =
    let v = take (c + 1) w in
    clock_kept m first w line c c a (omega arith) u s (fits_now first v c (off_at m first w c c (omega arith) u))
    (ap is_none_left (begun_last first v line c (short m first w c c (omega arith) u)) ∙ g)

-- at the clock before it, of which the request is decoded now
before_kept : (m : Marks) (first : List Joint) (w : Trace) (line b c : ℕ) → b + 1 ≡ c → AreCoherent first
    → AreUnbroken m first w c → is_spoiled (take (c + 1) w) line ≡ false
    → is_none_left (possible first (take (c + 1) w) line b) ≡ false
    → is_none_left (possible first (take (c + 1) w) line c) ≡ false
before_kept m first w line b c e a u s g =
    let v = take (c + 1) w in
    let off = off_at m first w c c (omega arith) u in
    let back : c - 1 ≡ b = omega (arith, e) in
    let begun : is_none_left (possible_begun first v line b) ≡ false =
    subst (λ d. is_none_left (possible_begun first v line d) ≡ false) back
    (begun_kept first v line c (omega (arith, e)) off s
    (subst (λ d. is_none_left (possible first v line d) ≡ false) (sym back) g)) in
    subst (λ d. is_none_left (possible first v line d) ≡ false) e
    (clock_kept m first w line b c a (omega (arith, e)) u s
    (subst (λ d. FitsAnswer first v d) back (fits_late first v c (omega (arith, e)) off)) begun)

-- each line that is not spoiled keeps a joint state
pub kept : (m : Marks) (first : List Joint) (w : Trace) (line c : ℕ) → AreCoherent first → is_none_left first ≡ false
    → AreUnbroken m first w c → is_spoiled (take (c + 1) w) line ≡ false
    → is_none_left (possible first (take (c + 1) w) line (c + 1)) ≡ false
unfolding possible
kept m first w line zero a n u s = last_kept m first w line zero a u s n
kept m first w line (suc b) a n u s =
    let c = suc b in
    let e : b + 1 ≡ c = omega arith in
    let k = alike m first w b c (omega arith) u in
    let fresh = sound_before (b + 1) (take (b + 1) w) (take (c + 1) w) line k (short m first w b c (omega arith) u) s in
    let old = kept m first w line b a n (fewer m first w b c (omega arith) u) fresh in
    let there = course_left first (take (b + 1) w) line (b + 1) b (some_course first (take (b + 1) w) line (b + 1) a old) (omega arith) in
    let now : is_none_left (possible first (take (c + 1) w) line b) ≡ false =
    ap is_none_left (sym (possible-agree (b + 1) first (take (b + 1) w) (take (c + 1) w) line b k (omega arith))) ∙ there in
    last_kept m first w line c a u s (before_kept m first w line b c e a u s now)
