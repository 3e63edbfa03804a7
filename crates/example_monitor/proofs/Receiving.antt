-- What a monitor receives, with one sample more.
use Rattle.std.proofs.Common.{◌≡◌, ℕ, ◌+◌, suc, List, [], ◌∷◌, ◌++◌, Option, Some, None, length, refl, ap, ◌∙◌, arith, sym, add-zero, inl, inr}
use Rattle.std.specs.Option.{IfSome}
use Rattle.std.proofs.lemmas.Bool.{cases_lt}
use Rattle.fsb_count.specs.Clocks.{first_where}
use Rattle.fsb_rules.specs.Checker.{as_broken}
use Rattle.fsb_signal.specs.declared.marks.Marks.{Marks}
use Rattle.fsb_signal.specs.declared.sample.Sample.{Sample}
use Rattle.fsb_trace.specs.Verdict.{verdict}
use Rattle.fsb_trace.proofs.Interface.{AgreeTo-sym, verdict-least, verdict-stays}
use Rattle.fsb_rules.proofs.Interface.{as_broken-none}
use Rattle.fsb_laws.proofs.Interface.{one_more}
use Rattle.example_monitor.specs.Received.{received, received_at, received_from}

-- as many samples are received as were sent
pub received-length : (lost : Option ℕ) (clock : ℕ) (w : List Sample) → length (received_from lost clock w) ≡ length w
received-length lost clock [] = refl
received-length lost clock (x ∷ w) = ap suc (received-length lost (clock + 1) w)

received_from-more : (lost : Option ℕ) (clock : ℕ) (w : List Sample) (x : Sample)
    → received_from lost clock (w ++ x ∷ [])
    ≡ received_from lost clock w ++ received_at lost (clock + length w) x ∷ []
received_from-more lost clock [] x = ap (λ n. received_at lost n x ∷ []) (sym (add-zero clock))
received_from-more lost clock (y ∷ w) x =
    ap (λ l. received_at lost clock y ∷ l) (received_from-more lost (clock + 1) w x
    ∙ ap (λ n. received_from lost (clock + 1) w ++ received_at lost n x ∷ [])
    (let e : clock + 1 + length w ≡ clock + suc (length w) = omega arith in e))

-- one sample more is received as that of the next clock
pub received-more : (lost : Option ℕ) (w : List Sample) (x : Sample)
    → received lost (w ++ x ∷ []) ≡ received lost w ++ received_at lost (length w) x ∷ []
received-more lost w x = received_from-more lost 0 w x
    ∙ ap (λ n. received lost w ++ received_at lost n x ∷ []) (let e : 0 + length w ≡ length w = omega arith in e)

received_from-none : (clock : ℕ) (w : List Sample) → received_from None clock w ≡ w
received_from-none clock [] = refl
received_from-none clock (x ∷ w) = ap (λ l. x ∷ l) (received_from-none (clock + 1) w)

-- where none is lost, what was sent is received
pub received-none : (w : List Sample) → received None w ≡ w
received-none w = received_from-none 0 w

-- nothing is told of no sample
pub no_sample : (marks : Marks) → None ≡ as_broken (verdict marks [])
unfolding as_broken verdict first_where
no_sample marks = refl

-- nothing is told where no rule is broken
pub unbroken : as_broken None ≡ None
unfolding as_broken
unbroken = refl

newest_at : (marks : Marks) (h : List Sample) (x : Sample) (p : ℕ × ℕ) → verdict marks h ≡ None
    → verdict marks (h ++ x ∷ []) ≡ Some p → length (h ++ x ∷ []) ≡ p.0 + 1
newest_at marks h x p none e =
    let more = one_more h x in
    let below = (verdict-least marks (h ++ x ∷ []) p.0 p.1 e).0 in
    elim (cases_lt p.0 (length h)) [
      | inr l ↦ omega (arith, more.size, below, l)
      | inl l ↦ let early : verdict marks h ≡ Some p =
          verdict-stays (length h) marks (h ++ x ∷ []) h p.0 p.1 (AgreeTo-sym (length h) h (h ++ x ∷ []) more.agree) l e in
          absurd (let no : ⊥ = cc in no)
    ]

-- a rule that was not broken before is broken with the newest sample
pub newest : (marks : Marks) (h : List Sample) (x : Sample) (o : Option (ℕ × ℕ)) (n : ℕ) → as_broken (verdict marks h) ≡ None
    → verdict marks (h ++ x ∷ []) ≡ o → n ≡ length (h ++ x ∷ []) → IfSome (as_broken o) (λ b. n ≡ b.clock + 1)
unfolding as_broken
newest marks h x None n none e size = tt
newest marks h x (Some p) n none e size =
    size ∙ newest_at marks h x p (as_broken-none (verdict marks h) none) e
