-- The end that is awaited after a snoop end is known by its request.
use Rattle.fsb_tied.proofs.Words
use Words.{ℕ, ◌+◌, ◌<◌, ◌≤◌, ◌≡◌, Bool, true, false, Some, refl, ap, ◌∙◌, arith, eq-eqb, option_and_then, first_where}
use Words.{is_some_and, first_where-at, snooped_at, is_snoop_of, Grant, Past, SnoopEnd, some-and, awaited_at}
use Words.{awaited_by, awaited_by_grant, snoop_end_below}
use Rattle.fsb_tied.proofs.AnswersInOrder.{AnswersInOrder}

pub is-found : (p : Past) (t : ℕ) (s : SnoopEnd) → snooped_at p t ≡ Some s
    → is_some_and (snooped_at p t) (is_snoop_of s.first) ≡ true
unfolding is_snoop_of is_some_and
is-found p t s e = rw e (eq-eqb s.first s.first refl)

pub none-before : (p : Past) (m t k : ℕ) (s : SnoopEnd) → AnswersInOrder p m → snooped_at p t ≡ Some s → k < t
    → is_some_and (snooped_at p k) (is_snoop_of s.first) ≡ false
unfolding is_snoop_of
none-before p m t k s a e l = grind (arith, some-and)

pub awaited-there : (p : Past) (m n t : ℕ) (s : SnoopEnd) → AnswersInOrder p m → t ≤ n → snooped_at p t ≡ Some s
    → awaited_at p n s.first ≡ awaited_by s
unfolding awaited_at snoop_end_below
awaited-there p m n t s a l e =
    let test : ℕ → Bool = λ k. is_some_and (snooped_at p k) (is_snoop_of s.first) in
    let first : first_where test (n + 1) ≡ Some t = first_where-at test (n + 1) t (omega arith) (is-found p t s e)
    (λ k low. none-before p m t k s a e low) in
    ap (λ o. option_and_then awaited_by (option_and_then (snooped_at p) o)) first ∙ ap (option_and_then awaited_by) e

-- where a snoop end makes a grant, it is by this that an end is awaited
pub awaits-grant : (s : SnoopEnd) (grant : Grant) → s.grant ≡ Some grant
    → awaited_by s ≡ Some (awaited_by_grant s.outcome grant)
unfolding awaited_by
awaits-grant s grant e = rw (e, awaited_by) refl
