-- When stalls and chunks are due, as a machine finds it.
use Rattle.std.proofs.Common.{ℕ, ◌+◌, ◌-◌, ◌*◌, ◌/◌, ◌%◌, ◌<◌, ◌≤◌, ◌≡◌, false, nat_eq, nat_lt, Some, None, sym, ◌∙◌}
use Rattle.std.proofs.Common.{inl, inr, arith}
use Rattle.std.proofs.lemmas.Bool.{cases_lt, eq-eqb, ne_eqb, lt-ltb, le-ltb}
use Rattle.fsb_count.proofs.Interface.{first_where-at, first_where-off, any_where-at, any_where-off}
use Rattle.fsb_trace.specs.Timing.{is_stall_from, chunk_from}

pub stall-before : (stall c start : ℕ) → c < start → false ≡ is_stall_from stall c start
unfolding is_stall_from
stall-before stall c start l =
    sym (any_where-off (λ m. nat_eq c (start + 2 * m)) stall (λ m k. ne_eqb c (start + 2 * m) (λ e. omega arith)))

pub stall-even : (stall c start : ℕ) → start ≤ c → (c - start) % 2 ≡ 0
    → nat_lt ((c - start) / 2) stall ≡ is_stall_from stall c start
unfolding is_stall_from
stall-even stall c start l e =
    let m : ℕ = (c - start) / 2 in
    let here : c ≡ start + 2 * m = omega arith in
    elim (cases_lt m stall) [
      | inl more ↦
          lt-ltb m stall more
          ∙ sym (any_where-at (λ k. nat_eq c (start + 2 * k)) stall m more (eq-eqb c (start + 2 * m) here))
      | inr none ↦
          le-ltb m stall none
          ∙ sym (any_where-off (λ k. nat_eq c (start + 2 * k)) stall
          (λ k less. ne_eqb c (start + 2 * k) (λ f. omega arith)))
    ]

pub stall-odd : (stall c start : ℕ) → start ≤ c → ((c - start) % 2 ≡ 0 → ⊥) → false ≡ is_stall_from stall c start
unfolding is_stall_from
stall-odd stall c start l f =
    sym (any_where-off (λ m. nat_eq c (start + 2 * m)) stall
    (λ m k. ne_eqb c (start + 2 * m) (λ e. f (let even : (c - start) % 2 ≡ 0 = omega arith in even))))

pub chunk-due : (gap c r n : ℕ) → n < 4 → c ≡ r + n * (1 + gap)
    → ((k : ℕ) → k < n → nat_eq c (r + k * (1 + gap)) ≡ false) → Some n ≡ chunk_from gap c r
unfolding chunk_from
chunk-due gap c r n l e f =
    sym (first_where-at (λ k. nat_eq c (r + k * (1 + gap))) 4 n l (eq-eqb c (r + n * (1 + gap)) e) f)

pub chunk-none : (gap c r : ℕ) → ((k : ℕ) → k < 4 → nat_eq c (r + k * (1 + gap)) ≡ false) → None ≡ chunk_from gap c r
unfolding chunk_from
chunk-none gap c r f = sym (first_where-off (λ k. nat_eq c (r + k * (1 + gap))) 4 f)
