-- The end of a snoop, found from where it starts.
use Rattle.std.proofs.Common.{ℕ, zero, suc, ◌+◌, ◌-◌, ◌%◌, ◌≡◌, Bool, true, false, ◌&&◌, not, nat_le, nat_eq, Option}
use Rattle.std.proofs.Common.{Some, None, length, max, refl, ap, ◌∙◌, arith}
use Rattle.std.specs.Option.{option_map, option_and_then}
use Rattle.fsb_count.specs.Options.{greater_of}
use Rattle.fsb_count.specs.Clocks.{AgreeBelow, nth_where, from_clock}
use Rattle.fsb_count.proofs.Interface.{first_where-same}
use Rattle.fsb_trace.specs.At.{Trace, stalls_at}
use Rattle.fsb_trace.specs.Requests.{live_clock_of}
use Rattle.fsb_trace.specs.Snoop.{is_every_second_from, ends_snoop, snoop_end_from, snoop_end_if, start_after_clock}
use Rattle.fsb_trace.specs.Snoop.{start_after_end, snoop_end_of}
use Rattle.fsb_table.specs.Going.{clear_of}
use Rattle.fsb_table.proofs.FromClock.{first-nth}

twice : (b x y : Bool) → ((b && x) && y) ≡ (b && ((b && x) && y))
twice true x y = refl
twice false x y = refl

from_start : (w : Trace) (start c : ℕ) → ends_snoop w start c ≡ from_clock start (ends_snoop w start) c
unfolding ends_snoop is_every_second_from from_clock
from_start w start c = twice (nat_le start c) (nat_eq ((c - start) % 2) 0) (not (stalls_at w c))

-- a snoop is looked at from its start on
pub snoop_from-start : (w : Trace) (start : ℕ)
    → snoop_end_from w start ≡ nth_where (from_clock start (ends_snoop w start)) 0 (length w)
unfolding snoop_end_from
snoop_from-start w start =
    let same : AgreeBelow (length w) (ends_snoop w start) (from_clock start (ends_snoop w start)) =
    record { same = λ c l. from_start w start c } in
    first_where-same (ends_snoop w start) (from_clock start (ends_snoop w start)) (length w) same
    ∙ first-nth (from_clock start (ends_snoop w start)) (length w)

later_start : (w : Trace) (q : ℕ) (clear : Option ℕ)
    → snoop_end_if w (greater_of (Some (q + 4)) clear) ≡ option_and_then (λ m. snoop_end_from w (max (q + 4) m)) clear
unfolding snoop_end_if greater_of
later_start w q None = refl
later_start w q (Some m) = refl

later_end : (w : Trace) (i q : ℕ) (before : Option ℕ) → live_clock_of w i ≡ Some q
    → snoop_end_if w (start_after_end w i before) ≡ option_and_then (λ m. snoop_end_from w (max (q + 4) m))
    (option_map (λ s. s + 3) before)
unfolding start_after_end start_after_clock
later_end w i q before e =
    ap (λ clock. snoop_end_if w (greater_of (option_map (λ p. p + 4) clock) (option_map (λ s. s + 3) before))) e
    ∙ later_start w q (option_map (λ s. s + 3) before)

first_end : (w : Trace) (q : ℕ) → live_clock_of w 0 ≡ Some q
    → snoop_end_if w (start_after_clock w 0) ≡ snoop_end_from w (max (q + 4) 0)
unfolding snoop_end_if start_after_clock
first_end w q e =
    let most : q + 4 ≡ max (q + 4) 0 = omega arith in
    ap (λ clock. option_and_then (snoop_end_from w) (option_map (λ p. p + 4) clock)) e ∙ ap (snoop_end_from w) most

-- the snoop end of a live request, by its first clock and the snoop end before it
pub snoop_end-by : (w : Trace) (i q : ℕ) → live_clock_of w i ≡ Some q
    → snoop_end_of w i ≡ option_and_then (λ m. snoop_end_from w (max (q + 4) m)) (clear_of w i)
unfolding snoop_end_of clear_of
snoop_end-by w zero q e = first_end w q e
snoop_end-by w (suc i) q e = later_end w (suc i) q (snoop_end_of w i) e

pub ruleset snoop_search = (snoop_from-start)
