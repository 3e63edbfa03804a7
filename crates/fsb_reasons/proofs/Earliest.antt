-- A live request may be answered from one clock on: the one that a reason names as the earliest.
use Rattle.std.proofs.Common.{ℕ, zero, suc, ◌+◌, ◌≡◌, Bool, true, false, ◌&&◌, nat_lt, nat_le, Option, Some, None}
use Rattle.std.proofs.Common.{max, refl, sym, ap, ◌∙◌, arith, inl, inr}
use Rattle.std.proofs.lemmas.Bool.{cases_lt, and_from, and_left, and_right, lt-leb, le-leb, lt-ltb, le-ltb}
use Rattle.std.specs.Option.{option_map}
use Rattle.fsb_count.specs.Options.{is_some_and, is_before, greater_of}
use Rattle.fsb_trace.specs.At.{Trace}
use Rattle.fsb_trace.specs.Snoop.{snoop_end_of}
use Rattle.fsb_trace.specs.Response.{end_of, is_clear_before, two_after_snoop, answer_from}
use Rattle.fsb_trace.specs.Rules.{may_answer}

max_le : (a b c : ℕ) → nat_le (max a b) c ≡ (nat_le a c && nat_le b c)
max_le a b c =
    elim (cases_lt c a) [
      | inl l ↦ lt-leb (max a b) c (omega (arith, l)) ∙ sym (and_left _ _ (lt-leb a c l))
      | inr g ↦ elim (cases_lt c b) [
        | inl l ↦ lt-leb (max a b) c (omega (arith, l)) ∙ sym (and_right _ _ (lt-leb b c l))
        | inr k ↦ le-leb (max a b) c (omega (arith, g, k)) ∙ sym (and_from _ _ (le-leb a c g) (le-leb b c k))
      ]
    ]

next_le : (t c : ℕ) → nat_le (t + 1) c ≡ nat_lt t c
next_le t c =
    elim (cases_lt t c) [
      | inl l ↦ le-leb (t + 1) c (omega (arith, l)) ∙ sym (lt-ltb t c l)
      | inr g ↦ lt-leb (t + 1) c (omega (arith, g)) ∙ sym (le-ltb t c g)
    ]

and_true : (b : Bool) → b ≡ (b && true)
and_true true = refl
and_true false = refl

from_first : (a : Option ℕ) (c : ℕ) → (is_some_and a (λ s. nat_le (s + 2) c) && true)
    ≡ is_some_and (option_map (λ s. s + 2) a) (λ x. nat_le x c)
unfolding is_some_and
from_first None c = refl
from_first (Some s) c = sym (and_true (nat_le (s + 2) c))

from_both : (a b : Option ℕ) (c : ℕ) → (is_some_and a (λ s. nat_le (s + 2) c) && is_before b c)
    ≡ is_some_and (greater_of (option_map (λ s. s + 2) a) (option_map (λ t. t + 1) b)) (λ x. nat_le x c)
unfolding is_some_and is_before greater_of
from_both None b c = refl
from_both (Some s) None c = and_right _ _ refl
from_both (Some s) (Some t) c =
    sym (max_le (s + 2) (t + 1) c ∙ ap (λ x. nat_le (s + 2) c && x) (next_le t c))

pub may_answer-earliest : (v : Trace) (c i : ℕ)
    → may_answer v c i ≡ is_some_and (answer_from v i) (λ from. nat_le from c)
unfolding may_answer is_clear_before answer_from two_after_snoop
may_answer-earliest v c zero = from_first (snoop_end_of v 0) c
may_answer-earliest v c (suc i) = from_both (snoop_end_of v (suc i)) (end_of v i) c
