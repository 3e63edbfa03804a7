-- What is found of a part stays, and is found with the broken clock.
use Rattle.std.proofs.Common.{◌≡◌, ◌∙◌, ℕ, ◌+◌, ◌-◌, ◌<◌, ◌≤◌, ◌++◌, ◌∷◌, [], Bool, true, false, ◌&&◌, ◌||◌, ◌==◌, nat_lt, if◌then◌else◌, ◌⊎◌, inl, inr, Option, Some, None, length, refl, sym, ap, subst, arith, append_assoc}
use Rattle.std.proofs.lemmas.Bool.Decides.{nat_tests}
use Rattle.std.proofs.lemmas.List.{length-append}
use Rattle.fsb_signal.specs.declared.marks.Marks.{Marks}
use Rattle.fsb_signal.specs.declared.sample.Sample.{Sample}
use Rattle.fsb_trace.specs.At.{Trace}
use Rattle.fsb_trace.specs.Verdict.{verdict}
use Rattle.fsb_trace.proofs.Interface.{AgreeTo-sym, verdict-least, verdict-stays}
use Rattle.fsb_laws.proofs.Interface.{one_more}
use Rattle.fsb_rules.specs.declared.broken.Broken.{Broken}
use Rattle.fsb_rules.specs.Checker.{as_broken}
use Rattle.scope_later.specs.Histories.{history, past}
use Rattle.scope_later.specs.Findings.{comes_before, counted_behind, found_behind, found_later, found_on, later_of}

-- what is found of so many clocks, and of one more: what was found stays, and what is found now is found there
pub record Goes (n : ℕ) (before after : Option Broken) : Type 0 where
  pub stays : (b : Broken) → before ≡ Some b → after ≡ Some b
  pub last : (b : Broken) → before ≡ None → after ≡ Some b → b.clock ≡ n
  pub below : (b : Broken) → after ≡ Some b → b.clock ≤ n

-- ---- a verdict

record VerdictGoes (n : ℕ) (before after : Option (ℕ × ℕ)) : Type 0 where
  stays : (p : ℕ × ℕ) → before ≡ Some p → after ≡ Some p
  last : (p : ℕ × ℕ) → before ≡ None → after ≡ Some p → p.0 ≡ n
  below : (p : ℕ × ℕ) → after ≡ Some p → p.0 ≤ n

kept : (m : Marks) (w : Trace) (x : Sample) (p : ℕ × ℕ) → verdict m w ≡ Some p → verdict m (w ++ x ∷ []) ≡ Some p
kept m w x p e =
    verdict-stays (length w) m w (w ++ x ∷ []) p.0 p.1 (one_more w x).agree (verdict-least m w p.0 p.1 e).0 e

within : (m : Marks) (w : Trace) (x : Sample) (p : ℕ × ℕ) → verdict m (w ++ x ∷ []) ≡ Some p → p.0 ≤ length w
within m w x p e =
    let clock = (verdict-least m (w ++ x ∷ []) p.0 p.1 e).0 in
    let size = (one_more w x).size in
    omega (arith, clock, size)

not-before : (m : Marks) (w : Trace) (x : Sample) (p : ℕ × ℕ) → verdict m w ≡ None → verdict m (w ++ x ∷ []) ≡ Some p
    → p.0 < length w → ⊥
not-before m w x p none e less =
    let there : verdict m w ≡ Some p =
    verdict-stays (length w) m (w ++ x ∷ []) w p.0 p.1 (AgreeTo-sym (length w) w (w ++ x ∷ []) (one_more w x).agree) less e in
    let no : ⊥ = cc in no

at-last : (n a : ℕ) → a ≤ n → (a < n → ⊥) → a ≡ n
at-last n a low never = omega (arith, low, never)

verdict-goes : (m : Marks) (w : Trace) (x : Sample) → VerdictGoes (length w) (verdict m w) (verdict m (w ++ x ∷ []))
verdict-goes m w x = record {
  stays = kept m w x;
  last = λ p none e. at-last (length w) p.0 (within m w x p e) (not-before m w x p none e);
  below = within m w x;
}

-- ---- as it is told, of a whole waveform

told-goes : (n : ℕ) (o p : Option (ℕ × ℕ)) → VerdictGoes n o p → Goes n (as_broken o) (as_broken p)
unfolding as_broken
told-goes n None None g = record {
  stays = λ b e. cc e;
  last = λ b none e. absurd (let no : ⊥ = cc in no);
  below = λ b e. absurd (let no : ⊥ = cc in no);
}
told-goes n None (Some p) g = record {
  stays = λ b e. absurd (let no : ⊥ = cc in no);
  last = λ b none e. (let same : b.clock ≡ p.0 = cc in same) ∙ g.last p refl refl;
  below = λ b e. let low = g.below p refl in let same : b.clock ≡ p.0 = cc in omega (arith, low, same);
}
told-goes n (Some o) None g = absurd (let wrong = g.stays o refl in let no : ⊥ = cc in no)
told-goes n (Some o) (Some p) g = record {
  stays = λ b e. ap as_broken (g.stays o refl) ∙ e;
  last = λ b none e. absurd (let no : ⊥ = cc in no);
  below = λ b e. let low = g.below p refl in let same : b.clock ≡ p.0 = cc in omega (arith, low, same);
}

-- ---- behind a history

counted-goes : (n : ℕ) (o p : Option Broken) → Goes (past + n) o p → Goes n (counted_behind o) (counted_behind p)
counted-goes n None None g = record {
  stays = λ b e. absurd (let no : ⊥ = cc in no);
  last = λ b none e. absurd (let no : ⊥ = cc in no);
  below = λ b e. absurd (let no : ⊥ = cc in no);
}
counted-goes n None (Some p) g = record {
  stays = λ b e. absurd (let no : ⊥ = cc in no);
  last = λ b none e. let same : b.clock ≡ p.clock - past = cc in let at = g.last p refl refl in omega (arith, same, at);
  below = λ b e. let same : b.clock ≡ p.clock - past = cc in let at = g.below p refl in omega (arith, same, at);
}
counted-goes n (Some o) None g = absurd (let wrong = g.stays o refl in let no : ⊥ = cc in no)
counted-goes n (Some o) (Some p) g = record {
  stays = λ b e. ap counted_behind (g.stays o refl) ∙ e;
  last = λ b none e. absurd (let no : ⊥ = cc in no);
  below = λ b e. let same : b.clock ≡ p.clock - past = cc in let at = g.below p refl in omega (arith, same, at);
}

behind-goes : (a : ℕ) (m : Marks) (w : Trace) (x : Sample)
    → Goes (length w) (found_behind a m w) (found_behind a m (w ++ x ∷ []))
unfolding found_behind
behind-goes a m w x =
    let h = history a ++ w in
    let size : length h ≡ past + length w = length-append (history a) w in
    let whole : Goes (length h) (as_broken (verdict m h)) (as_broken (verdict m (h ++ x ∷ []))) =
    told-goes (length h) (verdict m h) (verdict m (h ++ x ∷ [])) (verdict-goes m h x) in
    counted-goes (length w) (as_broken (verdict m h)) (as_broken (verdict m (history a ++ (w ++ x ∷ []))))
    (subst (λ (v : Trace). Goes (past + length w) (as_broken (verdict m h)) (as_broken (verdict m v)))
    (append_assoc (history a) w (x ∷ []))
    (subst (λ (n : ℕ). Goes n (as_broken (verdict m h)) (as_broken (verdict m (h ++ x ∷ [])))) size whole))

-- ---- the later of two

first-or-second : (before : Bool) (b x y : Broken) → comes_before x y ≡ before → later_of (Some x) (Some y) ≡ Some b
    → (if before then Some y else Some x) ≡ Some b
first-or-second before b x y c e = ap (λ (t : Bool). if t then Some y else Some x) (sym c) ∙ e

not-less : (n a b : ℕ) (c d : Bool) → (nat_lt a b || (c && d)) ≡ false → a ≤ n → b ≡ n → a ≡ n
not-less n a b c d h low at = grind (arith, nat_tests, h, low, at)

less-so : (n a b : ℕ) (d : Bool) → (nat_lt a b || ((a == b) && d)) ≡ true → b ≤ n → a ≡ n → b ≡ n
less-so n a b d h low at = grind (arith, nat_tests, h, low, at)

pick-last : (n : ℕ) (b x y : Broken) (before : Bool) → comes_before x y ≡ before
    → later_of (Some x) (Some y) ≡ Some b → x.clock ≤ n → y.clock ≤ n → (x.clock ≡ n) ⊎ (y.clock ≡ n) → b.clock ≡ n
pick-last n b x y true c e low high (inl at) =
    let same : b.clock ≡ y.clock = (let is : Some y ≡ Some b = first-or-second true b x y c e in cc is) in
    same ∙ less-so n x.clock y.clock (nat_lt x.rule y.rule) c high at
pick-last n b x y true c e low high (inr at) =
    let same : b.clock ≡ y.clock = (let is : Some y ≡ Some b = first-or-second true b x y c e in cc is) in
    same ∙ at
pick-last n b x y false c e low high (inl at) =
    let same : b.clock ≡ x.clock = (let is : Some x ≡ Some b = first-or-second false b x y c e in cc is) in
    same ∙ at
pick-last n b x y false c e low high (inr at) =
    let same : b.clock ≡ x.clock = (let is : Some x ≡ Some b = first-or-second false b x y c e in cc is) in
    same ∙ not-less n x.clock y.clock (x.clock == y.clock) (nat_lt x.rule y.rule) c low at

pick-below : (n : ℕ) (b x y : Broken) (before : Bool) → comes_before x y ≡ before
    → later_of (Some x) (Some y) ≡ Some b → x.clock ≤ n → y.clock ≤ n → b.clock ≤ n
pick-below n b x y true c e low high =
    let same : b.clock ≡ y.clock = (let is : Some y ≡ Some b = first-or-second true b x y c e in cc is) in
    omega (arith, same, high)
pick-below n b x y false c e low high =
    let same : b.clock ≡ x.clock = (let is : Some x ≡ Some b = first-or-second false b x y c e in cc is) in
    omega (arith, same, low)

both-stay : (o p q r : Option Broken) (b : Broken) → ((x : Broken) → o ≡ Some x → q ≡ Some x)
    → ((x : Broken) → p ≡ Some x → r ≡ Some x) → later_of o p ≡ Some b → later_of q r ≡ Some b
both-stay None p q r b f g e = absurd (let no : ⊥ = cc in no)
both-stay (Some x) None q r b f g e = absurd (let no : ⊥ = cc in no)
both-stay (Some x) (Some y) q r b f g e =
    ap (λ (t : Option Broken). later_of t r) (f x refl) ∙ ap (λ (t : Option Broken). later_of (Some x) t) (g y refl) ∙ e

one-is-new : (n : ℕ) (o p : Option Broken) (x y : Broken) → later_of o p ≡ None → Goes n o (Some x) → Goes n p (Some y)
    → (x.clock ≡ n) ⊎ (y.clock ≡ n)
one-is-new n None p x y none g h = inl (g.last x refl refl)
one-is-new n (Some u) None x y none g h = inr (h.last y refl refl)
one-is-new n (Some u) (Some v) x y none g h = absurd (some-later u v (comes_before u v) refl none)
  where
    some-later : (u v : Broken) (before : Bool) → comes_before u v ≡ before → later_of (Some u) (Some v) ≡ None → ⊥
    some-later u v true c e =
        let is : Some v ≡ None = ap (λ (t : Bool). if t then Some v else Some u) (sym c) ∙ e in
        let no : ⊥ = cc in no
    some-later u v false c e =
        let is : Some u ≡ None = ap (λ (t : Bool). if t then Some v else Some u) (sym c) ∙ e in
        let no : ⊥ = cc in no

both-last : (n : ℕ) (o p q r : Option Broken) (b : Broken) → Goes n o q → Goes n p r → later_of o p ≡ None
    → later_of q r ≡ Some b → b.clock ≡ n
both-last n o p None r b g h none e = absurd (let no : ⊥ = cc in no)
both-last n o p (Some x) None b g h none e = absurd (let no : ⊥ = cc in no)
both-last n o p (Some x) (Some y) b g h none e =
    pick-last n b x y (comes_before x y) refl e (g.below x refl) (h.below y refl) (one-is-new n o p x y none g h)

both-below : (n : ℕ) (o p q r : Option Broken) (b : Broken) → Goes n o q → Goes n p r → later_of q r ≡ Some b → b.clock ≤ n
both-below n o p None r b g h e = absurd (let no : ⊥ = cc in no)
both-below n o p (Some x) None b g h e = absurd (let no : ⊥ = cc in no)
both-below n o p (Some x) (Some y) b g h e =
    pick-below n b x y (comes_before x y) refl e (g.below x refl) (h.below y refl)

later-goes : (n : ℕ) (o p q r : Option Broken) → Goes n o q → Goes n p r → Goes n (later_of o p) (later_of q r)
later-goes n o p q r g h = record {
  stays = λ b e. both-stay o p q r b g.stays h.stays e;
  last = λ b none e. both-last n o p q r b g h none e;
  below = λ b e. both-below n o p q r b g h e;
}

-- ---- of a part

pub found-goes : (later : Bool) (m : Marks) (w : Trace) (x : Sample)
    → Goes (length w) (found_on later m w) (found_on later m (w ++ x ∷ []))
unfolding found_later
found-goes false m w x =
    told-goes (length w) (verdict m w) (verdict m (w ++ x ∷ [])) (verdict-goes m w x)
found-goes true m w x =
    let v = w ++ x ∷ [] in
    later-goes (length w) (later_of (found_behind 0 m w) (found_behind 1 m w))
    (later_of (found_behind 2 m w) (found_behind 3 m w)) (later_of (found_behind 0 m v) (found_behind 1 m v))
    (later_of (found_behind 2 m v) (found_behind 3 m v))
    (later-goes (length w) (found_behind 0 m w) (found_behind 1 m w) (found_behind 0 m v) (found_behind 1 m v)
    (behind-goes 0 m w x) (behind-goes 1 m w x))
    (later-goes (length w) (found_behind 2 m w) (found_behind 3 m w) (found_behind 2 m v) (found_behind 3 m v)
    (behind-goes 2 m w x) (behind-goes 3 m w x))
