-- Whether some row that is kept passes a test, by the requests of the trace.
use Rattle.std.proofs.Common.{ℕ, zero, suc, ◌-◌, ◌≤◌, ◌≡◌, Bool, true, false, cond, not, ◌||◌, Some, None}
use Rattle.std.proofs.Common.{length, refl, sym, ap, ◌∙◌, arith, inl, inr, add-one}
use Rattle.std.specs.List.{list_any}
use Rattle.std.specs.Option.{option_to_list}
use Rattle.std.proofs.lemmas.Bool.{both_ways, cases_Bool, cases_lt, false_from_ne_true}
use Rattle.std.proofs.lemmas.List.Folds.{list_any-append}
use Rattle.fsb_count.specs.Clocks.{any_where}
use Rattle.fsb_count.proofs.Interface.{any_where-at, any_where-found, any_where-more, any_where-none, any_where-off}
use Rattle.fsb_signal.specs.declared.lines.TheConstants.Lines.{ADS}
use Rattle.fsb_signal.specs.Samples.{line_at}
use Rattle.fsb_trace.specs.At.{Trace}
use Rattle.fsb_owner_table.specs.declared.row.Row.{Row}
use Rattle.fsb_owner_table.specs.Kept.{is_row_closed, kept_at, kept_below}
use Rattle.fsb_owner_table.specs.Rows.{row_at}
use Rattle.fsb_owner_table.proofs.KeptRows.{kept_is, not_kept}

one_any : (p : Row → Bool) (r : Row) (closed b : Bool) → p r ≡ b → (b ≡ true → closed ≡ false)
    → list_any p (option_to_list (cond (not closed) (Some r) None)) ≡ b
one_any p r false true e f = rw e refl
one_any p r false false e f = rw e refl
one_any p r true true e f = absurd (let k = f refl in let no : ⊥ = cc in no)
one_any p r true false e f = refl

-- a test of rows that agrees with a test of first clocks, which no request passes that is closed
pub record Agrees (p : Row → Bool) (t : ℕ → Bool) (v : Trace) : Type 0 where
  pub same : (q : ℕ) → line_at ADS v q ≡ true → p (row_at v q) ≡ t q
  pub asks : (q : ℕ) → t q ≡ true → line_at ADS v q ≡ true
  pub going : (q : ℕ) → t q ≡ true → is_row_closed (row_at v q) (length v - 3) ≡ false

module _ {p : Row → Bool} {t : ℕ → Bool} {v : Trace} (g : Agrees p t v) where
  one_passes : (q : ℕ) → list_any p (option_to_list (kept_at v q)) ≡ t q
  one_passes q =
      elim (cases_Bool (line_at ADS v q)) [
        | inl there ↦
            ap (λ o. list_any p (option_to_list o)) (kept_is v q there)
            ∙ one_any p (row_at v q) (is_row_closed (row_at v q) (length v - 3)) (t q) (g.same q there) (g.going q)
        | inr none ↦
            ap (λ o. list_any p (option_to_list o)) (not_kept v q (rw none refl))
            ∙ sym (false_from_ne_true (t q) (λ k. both_ways _ none (g.asks q k)))
      ]

  pub any_rows : (n : ℕ) → list_any p (kept_below v n) ≡ any_where t n
  unfolding kept_below any_where
  any_rows zero = refl
  any_rows (suc n) =
      list_any-append p (kept_below v n) (option_to_list (kept_at v n))
      ∙ ap (λ b. b || list_any p (option_to_list (kept_at v n))) (any_rows n)
      ∙ ap (λ b. any_where t n || b) (one_passes n)
      ∙ sym (any_where-more t n) ∙ ap (any_where t) (add-one n)

-- what passes at no clock from c on passes below n where it passes below c
pub any_below : (t : ℕ → Bool) (c n : ℕ) → c ≤ n → ((q : ℕ) → c ≤ q → t q ≡ false) → any_where t n ≡ any_where t c
any_below t c n l none =
    elim (cases_Bool (any_where t c)) [
      | inl holds ↦
          let f = any_where-found t c holds in
          any_where-at t n f.0 (omega (arith, f.1)) f.2 ∙ sym holds
      | inr fails ↦
          any_where-off t n (λ k m.
          elim (cases_lt k c) [
            | inl less ↦ any_where-none t c fails k less
            | inr more ↦ none k more
          ])
          ∙ sym fails
    ]
