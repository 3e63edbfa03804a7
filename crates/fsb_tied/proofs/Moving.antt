-- Data that move on a line, and the ends that are awaited there: what it says that they do.
use Rattle.fsb_tied.proofs.Words
use Words.{ℕ, ◌<◌, ◌≡◌, Bool, true, false, List, [], ◌∷◌, Some, nat_eq, refl, ap, ◌∙◌, arith, eq-eqb, eqb-true}
use Words.{list_any, is_at, is_some_and, any_where-at, any_where-found, is_at-from, is_at-some, ended_requests}
use Words.{is_end_at, is_ended, snooped_at, Past, SnoopEnd, some-and, Awaited, awaited_at, awaited_by, responded_in}
use Words.{does_end_on, does_respond_on, moves_on, is_moved_below, is_moved_for, is_responded_below}
use Rattle.fsb_tied.proofs.InTurn.{HasAwaited, has-awaited}

-- data of the line are put on the bus at n
pub record Moves (p : Past) (line n : ℕ) : Type 0 where
  pub number : ℕ
  pub responds : responded_in p n ≡ Some number
  pub awaited : Awaited
  pub awaits : HasAwaited p n number awaited
  pub names : awaited.line ≡ line
  pub carried : awaited.carries ≡ true

pub moves-parts : (p : Past) (line n : ℕ) → does_respond_on p line n ≡ true → Moves p line n
unfolding does_respond_on moves_on
moves-parts p line n e = grind (arith, some-and, has-awaited)

pub moves-from : (p : Past) (line n q : ℕ) (awaited : Awaited) → responded_in p n ≡ Some q
    → awaited_at p n q ≡ Some awaited
    → awaited.line ≡ line → awaited.carries ≡ true → does_respond_on p line n ≡ true
unfolding does_respond_on moves_on is_some_and
moves-from p line n q awaited e f names carried = rw (e, f, eq-eqb awaited.line line names, carried) refl

-- data of the line are on the bus at n
pub record IsMoved (p : Past) (line n : ℕ) : Type 0 where
  pub at : ℕ
  pub end : SnoopEnd
  pub there : snooped_at p at ≡ Some end
  pub below : at < n
  pub awaited : Awaited
  pub awaits : awaited_by end ≡ Some awaited
  pub names : awaited.line ≡ line
  pub carried : awaited.carries ≡ true
  pub response : ℕ
  pub responds : responded_in p response ≡ Some end.first
  pub before : response < n
  pub unended : is_ended p n end.first ≡ false

pub moved-parts : (p : Past) (line n : ℕ) → is_moved_below p line n ≡ true → IsMoved p line n
unfolding is_moved_below is_moved_for is_responded_below moves_on
moved-parts p line n e = grind (arith, any_where-found, some-and, is_at-some)

moved-here : (p : Past) (line n : ℕ) (k : IsMoved p line n) → is_moved_for p line n k.end ≡ true
unfolding is_moved_for is_responded_below moves_on is_some_and
moved-here p line n k =
    let responded = any_where-at (λ t. is_at (responded_in p t) k.end.first) n k.response k.before
    (is_at-from (responded_in p k.response) k.end.first k.responds) in
    rw (k.awaits, eq-eqb k.awaited.line line k.names, k.carried, responded, k.unended) refl

pub moved-from : (p : Past) (line n : ℕ) → IsMoved p line n → is_moved_below p line n ≡ true
unfolding is_moved_below is_some_and
moved-from p line n k =
    any_where-at (λ t. is_some_and (snooped_at p t) (is_moved_for p line n)) n k.at k.below
    (ap (λ o. is_some_and o (is_moved_for p line n)) k.there ∙ moved-here p line n k)

pub any-of : (test : ℕ → Bool) (q : ℕ) (qs : List ℕ) → list_any (nat_eq q) qs ≡ true → test q ≡ true
    → list_any test qs ≡ true
any-of test q [] e t = e
any-of test q (x ∷ qs) e t = grind (arith, any-of test q qs)

pub any-in : (test : ℕ → Bool) (qs : List ℕ) → list_any test qs ≡ true
    → (q : ℕ) × (list_any (nat_eq q) qs ≡ true) × (test q ≡ true)
any-in test [] e = absurd (let no : ⊥ = cc in no)
any-in test (x ∷ qs) e = grind (arith, any-in test qs)

-- the end of a request that is awaited on the line
pub end-on : (p : Past) (line n q : ℕ) (awaited : Awaited) → is_end_at p n q ≡ true → awaited_at p n q ≡ Some awaited
    → awaited.line ≡ line → does_end_on p line n ≡ true
unfolding does_end_on is_end_at is_some_and
end-on p line n q awaited e f names = grind (arith, any-of)

-- an end at n that is awaited on the line
pub record EndsOn (p : Past) (line n : ℕ) : Type 0 where
  pub number : ℕ
  pub ends : is_end_at p n number ≡ true
  pub awaited : Awaited
  pub awaits : HasAwaited p n number awaited
  pub names : awaited.line ≡ line

pub ends-on : (p : Past) (line n : ℕ) → does_end_on p line n ≡ true → EndsOn p line n
unfolding does_end_on is_end_at
ends-on p line n e =
    let q = any-in (λ k. is_some_and (awaited_at p n k) (λ a. nat_eq a.line line)) (ended_requests p n) e in
    let a = some-and (awaited_at p n q.0) (λ (x : Awaited). nat_eq x.line line) q.2 in
    record {
      number = q.0;
      ends = q.1;
      awaited = a.0;
      awaits = has-awaited p n q.0 a.0 a.1;
      names = eqb-true a.0.line line a.2;
    }
