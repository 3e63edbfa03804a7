-- What follows for a request of a past whose answers come in order: where its snoop end, its response and its end lie.
use Rattle.fsb_tied.proofs.Words
use Words.{ℕ, ◌+◌, ◌<◌, ◌≤◌, ◌≡◌, Bool, true, false, Some, arith, any_where-at, any_where-found, first_where-found}
use Words.{is_end_at, is_ended, snooped_at, is_snoop_of, Past, SnoopEnd, some-and, Awaited, awaited_at, awaited_by}
use Words.{responded_in, snoop_end_below}
use Rattle.fsb_tied.proofs.AnswersInOrder.{AnswersInOrder}

-- what can't be true is false
pub not-so : (b : Bool) → (b ≡ true → ⊥) → b ≡ false
not-so b h1 = grind arith

pub ended-parts : (p : Past) (n q : ℕ) → is_ended p n q ≡ true → (v : ℕ) × (v < n) × (is_end_at p v q ≡ true)
unfolding is_ended
ended-parts p n q e = any_where-found (λ t. is_end_at p t q) n e

pub ended-by : (p : Past) (n v q : ℕ) → v < n → is_end_at p v q ≡ true → is_ended p n q ≡ true
unfolding is_ended
ended-by p n v q l e = any_where-at (λ t. is_end_at p t q) n v l e

pub ended-later : (p : Past) (n k q : ℕ) → n ≤ k → is_ended p n q ≡ true → is_ended p k q ≡ true
ended-later p n k q l e = grind (arith, ended-parts, ended-by)

-- a request has not ended below its response
pub unended-at-response : (p : Past) (m n q : ℕ) → AnswersInOrder p m → n < m → responded_in p n ≡ Some q
    → is_ended p n q ≡ false
unended-at-response p m n q a l e = grind (arith, ended-parts)

-- nor below its end
pub unended-at-end : (p : Past) (m n q : ℕ) → AnswersInOrder p m → n < m → is_end_at p n q ≡ true
    → is_ended p n q ≡ false
unended-at-end p m n q a l e = grind (arith, ended-parts)

-- its snoop end lies two clocks before its response at least
pub snooped-before : (p : Past) (m n t : ℕ) (s : SnoopEnd) → AnswersInOrder p m → n < m → snooped_at p t ≡ Some s
    → responded_in p n ≡ Some s.first → t + 2 ≤ n
snooped-before p m n t s a l e f =
    let k = a.snooped n s.first l f in
    let gap : k.at + 2 ≤ n = k.before in
    let same : k.at ≡ t = a.one_snoop k.at t k.end s k.there e k.first in
    omega arith

-- and so before its end
pub snooped-before-end : (p : Past) (m n t : ℕ) (s : SnoopEnd) → AnswersInOrder p m → n < m → snooped_at p t ≡ Some s
    → is_end_at p n s.first ≡ true → t + 2 ≤ n
snooped-before-end p m n t s a l e f = grind (arith, snooped-before)

-- what has its snoop end before that of a request has ended below the response of that one, and so below its end
pub earlier-ended : (p : Past) (m n t u : ℕ) (s e : SnoopEnd) → AnswersInOrder p m → n < m → snooped_at p t ≡ Some s
    → snooped_at p u ≡ Some e → t < u → is_end_at p n e.first ≡ true → is_ended p n s.first ≡ true
earlier-ended p m n t u s e a l f g less end =
    let k = a.responded n e.first l end in
    let low : k.at ≤ n = k.before in
    ended-later p k.at n s.first low (a.in_turn t u k.at s e f g less (omega arith) k.there)

-- so where a request has ended, each one with an earlier snoop end has
pub ended-in-turn : (p : Past) (m n t u : ℕ) (s e : SnoopEnd) → AnswersInOrder p m → n ≤ m → snooped_at p t ≡ Some s
    → snooped_at p u ≡ Some e → t < u → is_ended p n e.first ≡ true → is_ended p n s.first ≡ true
ended-in-turn p m n t u s e a l f g less ended =
    let v = ended-parts p n e.first ended in
    let low : v.0 < n = v.1 in
    ended-later p v.0 n s.first (omega arith) (earlier-ended p m v.0 t u s e a (omega arith) f g less v.2)

-- the snoop end after which an end is awaited
pub record HasAwaited (p : Past) (n q : ℕ) (awaited : Awaited) : Type 0 where
  pub at : ℕ
  pub end : SnoopEnd
  pub below : at ≤ n
  pub there : snooped_at p at ≡ Some end
  pub first : end.first ≡ q
  pub awaits : awaited_by end ≡ Some awaited

pub has-awaited : (p : Past) (n q : ℕ) (awaited : Awaited) → awaited_at p n q ≡ Some awaited → HasAwaited p n q awaited
unfolding awaited_at snoop_end_below is_snoop_of
has-awaited p n q awaited e = grind (arith, first_where-found, some-and)
