-- The open requests, the links and the deferral of a line, one clock further.
use Rattle.fsb_coherent.proofs.Words
use Words.{ℕ, zero, suc, ◌+◌, ◌<◌, ◌≡◌, Bool, false, ◌&&◌, ◌||◌, if◌then◌else◌, [], ◌++◌, Option, Some, None, refl, sym}
use Words.{ap, ◌∙◌, inl, inr, arith, add-one, cases_Bool, le-leb, option_map_or, any_where, from_clock, last_where}
use Words.{is_at, is_some_and, any_where-more, any_where-off, last_where-passed, last_where-failed, LineDeferral}
use Words.{OpenRequest, Past, SnoopEnd, snooped_at, is_ended, is_snoop_of, cancelled_in, responded_in, IsOpen}
use Words.{chain_below, deferral_at, deferral_below, defers_line, is_cancelled_below, is_moved_for, is_responded_below}
use Words.{is_snooped_below, link_left, links_left, replies_line}

pub cancelled-more : (p : Past) (n q : ℕ)
    → is_cancelled_below p (n + 1) q ≡ (is_cancelled_below p n q || is_at (cancelled_in p n) q)
unfolding is_cancelled_below
cancelled-more p n q = any_where-more (λ t. is_at (cancelled_in p t) q) n

pub snooped-more : (p : Past) (n q : ℕ)
    → is_snooped_below p (n + 1) q ≡ (is_snooped_below p n q || is_some_and (snooped_at p n) (is_snoop_of q))
unfolding is_snooped_below
snooped-more p n q = any_where-more (λ t. is_some_and (snooped_at p t) (is_snoop_of q)) n

pub responded-more : (p : Past) (n q : ℕ)
    → is_responded_below p (n + 1) q ≡ (is_responded_below p n q || is_at (responded_in p n) q)
unfolding is_responded_below
responded-more p n q = any_where-more (λ t. is_at (responded_in p t) q) n

-- an open request that is neither cancelled nor snooped stays open
pub open-kept : (p : Past) (a line n : ℕ) (request : OpenRequest) → IsOpen p a line n request
    → is_at (cancelled_in p n) request.number ≡ false
    → is_some_and (snooped_at p n) (is_snoop_of request.number) ≡ false → IsOpen p a line (n + 1) request
open-kept p a line n request h uncancelled unsnooped = grind (arith, cancelled-more, snooped-more)

-- one that is open and began before was open, and is neither cancelled nor snooped there
pub open-before : (p : Past) (a line n : ℕ) (request : OpenRequest) → IsOpen p a line (n + 1) request
    → request.number < n → IsOpen p a line n request
open-before p a line n request h l = grind (arith, cancelled-more, snooped-more)

pub open-untouched : (p : Past) (a line n : ℕ) (request : OpenRequest) → IsOpen p a line (n + 1) request
    → (is_at (cancelled_in p n) request.number ≡ false)
    × (is_some_and (snooped_at p n) (is_snoop_of request.number) ≡ false)
open-untouched p a line n request h = grind (arith, cancelled-more, snooped-more)

-- the last clock that passes lies below the bound
last_where-below : (test : ℕ → Bool) (n t : ℕ) → last_where test n ≡ Some t → t < n
unfolding last_where
last_where-below test zero t e = absurd (let h : ⊥ = cc in h)
last_where-below test (suc n) t e = grind (arith, last_where-below test n t)

-- the deferral that is left of the last one, if there is one
kept_of : Past → ℕ → ℕ → Option ℕ → Option LineDeferral
kept_of p line n None = None
kept_of p line n (Some t) = if any_where (from_clock (t + 1) (replies_line p line)) n then None
    else deferral_at p line t

kept-form : (p : Past) (line n : ℕ) (o : Option ℕ) → last_where (defers_line p line) n ≡ o
    → deferral_below p line n ≡ kept_of p line n o
unfolding deferral_below kept_of
kept-form p line n o h1 = grind arith

from-clock : (test : ℕ → Bool) (t n : ℕ) → t < n → from_clock (t + 1) test n ≡ test n
unfolding from_clock
from-clock test t n l = ap (λ b. b && test n) (le-leb (t + 1) n (omega arith))

kept-more : (p : Past) (line n : ℕ) (o : Option ℕ) → ((t : ℕ) → o ≡ Some t → t < n)
    → kept_of p line (n + 1) o ≡ (if replies_line p line n then None else kept_of p line n o)
unfolding kept_of
kept-more p line n o h1 = grind (arith, any_where-more, from-clock)

after-itself : (test : ℕ → Bool) (n : ℕ) → any_where (from_clock (n + 1) test) (n + 1) ≡ false
unfolding from_clock
after-itself test n = grind (arith, any_where-off)

-- the deferral one clock on: the one made there, none where a reply grants the line there, and otherwise as it was
pub deferral-more : (p : Past) (line n : ℕ) → deferral_below p line (n + 1)
    ≡ (if defers_line p line n then deferral_at p line n
    else (if replies_line p line n then None else deferral_below p line n))
unfolding kept_of
deferral-more p line n =
    elim (cases_Bool (defers_line p line n)) [
      | inl t ↦
          let last : last_where (defers_line p line) (n + 1) ≡ Some n =
          rw add-one (last_where-passed (defers_line p line) n t) in
          kept-form p line (n + 1) (Some n) last
          ∙ ap (λ b. if b then None else deferral_at p line n) (after-itself (replies_line p line) n)
          ∙ sym (ap (λ b. if b then deferral_at p line n
          else (if replies_line p line n then None else deferral_below p line n)) t)
      | inr f ↦
          let o : Option ℕ = last_where (defers_line p line) n in
          let last : last_where (defers_line p line) (n + 1) ≡ o =
          rw add-one (last_where-failed (defers_line p line) n f) in
          kept-form p line (n + 1) o last ∙ kept-more p line n o (λ t e. last_where-below (defers_line p line) n t e)
          ∙ ap (λ d. if replies_line p line n then None else d) (sym (kept-form p line n o refl))
          ∙ sym (ap (λ b. if b then deferral_at p line n
          else (if replies_line p line n then None else deferral_below p line n)) f)
    ]

link_left-same : (p : Past) (line n m t : ℕ) (s : SnoopEnd) → is_ended p n s.first ≡ is_ended p m s.first
    → link_left p line n t s ≡ link_left p line m t s
unfolding link_left
link_left-same p line n m t s e = rw e refl

links_at-same : (p : Past) (line n m t : ℕ) (o : Option SnoopEnd) → ((q : ℕ) → is_ended p n q ≡ is_ended p m q)
    → option_map_or (link_left p line n t) o [] ≡ option_map_or (link_left p line m t) o []
links_at-same p line n m t o h1 = grind (arith, link_left-same)

-- links stay where no request ends
pub links_left-same : (p : Past) (line n m t : ℕ) → ((q : ℕ) → is_ended p n q ≡ is_ended p m q)
    → links_left p line n t ≡ links_left p line m t
unfolding links_left
links_left-same p line n m zero e = refl
links_left-same p line n m (suc t) e = grind (arith, links_at-same)

-- the links one clock on: those of before that are left, and that of a snoop end there
pub chain-more : (p : Past) (line n : ℕ)
    → chain_below p line (n + 1) ≡ links_left p line (n + 1) n ++ option_map_or (link_left p line (n + 1) n)
    (snooped_at p n) []
unfolding chain_below links_left
chain-more p line n = rw add-one refl

-- and where no request ends there
pub chain-kept : (p : Past) (line n : ℕ) → ((q : ℕ) → is_ended p (n + 1) q ≡ is_ended p n q)
    → chain_below p line (n + 1) ≡ chain_below p line n ++ option_map_or (link_left p line n n) (snooped_at p n) []
unfolding chain_below
chain-kept p line n e = grind (arith, links_left-same, links_at-same, chain-more)

moved-same : (p : Past) (line n m : ℕ) (s : SnoopEnd) → is_ended p n s.first ≡ is_ended p m s.first
    → is_responded_below p n s.first ≡ is_responded_below p m s.first
    → is_moved_for p line n s ≡ is_moved_for p line m s
unfolding is_moved_for
moved-same p line n m s e f = rw (e, f) refl

pub moved_at-same : (p : Past) (line n m : ℕ) (o : Option SnoopEnd) → ((q : ℕ) → is_ended p n q ≡ is_ended p m q)
    → ((q : ℕ) → is_responded_below p n q ≡ is_responded_below p m q)
    → is_some_and o (is_moved_for p line n) ≡ is_some_and o (is_moved_for p line m)
unfolding is_some_and
moved_at-same p line n m o h1 h2 = grind (arith, moved-same)
