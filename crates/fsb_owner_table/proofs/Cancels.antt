-- The request that a sample cancels.
use Rattle.std.proofs.Common.{ℕ, ◌+◌, ◌-◌, ◌<◌, ◌≤◌, ◌≡◌, Bool, true, false, cond, ◌&&◌, nat_eq, nat_le, Option, Some, None}
use Rattle.std.proofs.Common.{refl, sym, ◌∙◌, arith, inl, inr}
use Rattle.std.proofs.lemmas.Bool.{cases_Bool, cases_eq, eq-eqb, leb-true, ne_eqb, and_parts, le-leb, and_left, and_right}
use Rattle.fsb_count.specs.Options.{is_at, is_some_and}
use Rattle.fsb_signal.specs.declared.lines.TheConstants.Lines.{AERR}
use Rattle.fsb_signal.specs.declared.sample.Sample.{Sample}
use Rattle.fsb_signal.specs.Samples.{has_line}
use Rattle.fsb_laws.specs.OneMore.{cancels}

pub cancelled_there : (x : Sample) (n q : ℕ) → has_line x AERR ≡ true → 3 ≤ n → is_at (Some (n - 3)) q ≡ cancels x n q
unfolding is_at is_some_and cancels
cancelled_there x n q t l =
    elim (cases_eq (q + 3) n) [
      | inl same ↦ eq-eqb (n - 3) q (omega arith) ∙ sym (rw (t, eq-eqb (q + 3) n same) refl)
      | inr other ↦ ne_eqb (n - 3) q (λ e. other (omega arith)) ∙ sym (rw (t, ne_eqb (q + 3) n other) refl)
    ]

pub none_cancelled : (x : Sample) (n q : ℕ) → has_line x AERR ≡ false → is_at None q ≡ cancels x n q
unfolding is_at is_some_and cancels
none_cancelled x n q f = rw f refl

pub none_begun : (x : Sample) (n q : ℕ) → n < 3 → is_at None q ≡ cancels x n q
unfolding is_at is_some_and cancels
none_begun x n q l = sym (and_right (has_line x AERR) _ (ne_eqb (q + 3) n (λ e. omega arith)))

pub ruleset cancelled = (cancelled_there, none_cancelled, none_begun)
