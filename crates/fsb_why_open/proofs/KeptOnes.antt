-- Whether some row that is kept passes a test, and how many do, by the requests of the trace.
use Rattle.std.proofs.Common.{ℕ, zero, suc, ◌+◌, ◌-◌, ◌≤◌, ◌≡◌, Bool, true, false, cond, not, ◌&&◌, ◌||◌, Some, None}
use Rattle.std.proofs.Common.{length, refl, sym, ap, ◌∙◌, arith, inl, inr, add-one}
use Rattle.std.specs.List.{count_by, list_any}
use Rattle.std.specs.Option.{option_to_list}
use Rattle.std.proofs.lemmas.Bool.{cases_Bool}
use Rattle.std.proofs.lemmas.List.Folds.{list_any-append}
use Rattle.std.proofs.lemmas.List.Sums.{sum_by-append}
use Rattle.fsb_count.specs.Clocks.{any_where, count_where}
use Rattle.fsb_count.proofs.Interface.{any_where-more}
use Rattle.fsb_signal.specs.declared.lines.TheConstants.Lines.{ADS}
use Rattle.fsb_signal.specs.Samples.{line_at}
use Rattle.fsb_trace.specs.At.{Trace}
use Rattle.fsb_owner_table.specs.declared.row.Row.{Row}
use Rattle.fsb_owner_table.specs.Kept.{is_row_closed, kept_at, kept_below}
use Rattle.fsb_owner_table.specs.Rows.{row_at}
use Rattle.fsb_owner_table.proofs.KeptRows.{kept_is, not_kept}
use Rattle.fsb_owner_feed.proofs.FoundRows.{passes}

-- of one row, that is kept where it is not closed
any_one : (p : Row → Bool) (r : Row) (closed b : Bool) → p r ≡ b → (b ≡ true → closed ≡ false)
    → list_any p (option_to_list (cond (not closed) (Some r) None)) ≡ b
any_one p r false true e f = rw e refl
any_one p r false false e f = rw e refl
any_one p r true true e f = absurd (let k = f refl in let no : ⊥ = cc in no)
any_one p r true false e f = refl

count_one : (p : Row → Bool) (r : Row) (closed b : Bool) → p r ≡ b → (b ≡ true → closed ≡ false)
    → count_by p (option_to_list (cond (not closed) (Some r) None)) ≡ cond b 1 0
count_one p r false true e f = rw e refl
count_one p r false false e f = rw e refl
count_one p r true true e f = absurd (let k = f refl in let no : ⊥ = cc in no)
count_one p r true false e f = refl

module _ (p : Row → Bool) (h : Trace) (going : (q : ℕ) → p (row_at h q) ≡ true → is_row_closed (row_at h q) (length h - 3) ≡ false) where
  any_at : (q : ℕ) → list_any p (option_to_list (kept_at h q)) ≡ passes p h q
  any_at q =
      elim (cases_Bool (line_at ADS h q)) [
        | inl t ↦
            ap (λ o. list_any p (option_to_list o)) (kept_is h q t)
            ∙ any_one p (row_at h q) (is_row_closed (row_at h q) (length h - 3)) (p (row_at h q)) refl (going q)
            ∙ ap (λ b. b && p (row_at h q)) (sym t)
        | inr f ↦
            ap (λ o. list_any p (option_to_list o)) (not_kept h q (rw f refl))
            ∙ ap (λ b. b && p (row_at h q)) (sym f)
      ]

  pub any_rows : (n : ℕ) → list_any p (kept_below h n) ≡ any_where (passes p h) n
  unfolding kept_below any_where
  any_rows zero = refl
  any_rows (suc n) =
      list_any-append p (kept_below h n) (option_to_list (kept_at h n))
      ∙ ap (λ b. b || list_any p (option_to_list (kept_at h n))) (any_rows n)
      ∙ ap (λ b. any_where (passes p h) n || b) (any_at n)
      ∙ sym (any_where-more (passes p h) n) ∙ ap (any_where (passes p h)) (add-one n)

  count_at : (q : ℕ) → count_by p (option_to_list (kept_at h q)) ≡ cond (passes p h q) 1 0
  count_at q =
      elim (cases_Bool (line_at ADS h q)) [
        | inl t ↦
            ap (λ o. count_by p (option_to_list o)) (kept_is h q t)
            ∙ count_one p (row_at h q) (is_row_closed (row_at h q) (length h - 3)) (p (row_at h q)) refl (going q)
            ∙ ap (λ b. cond (b && p (row_at h q)) 1 0) (sym t)
        | inr f ↦
            ap (λ o. count_by p (option_to_list o)) (not_kept h q (rw f refl))
            ∙ ap (λ b. cond (b && p (row_at h q)) 1 0) (sym f)
      ]

  pub count_rows : (n : ℕ) → count_by p (kept_below h n) ≡ count_where (passes p h) n
  unfolding kept_below count_where
  count_rows zero = refl
  count_rows (suc n) =
      sum_by-append (λ r. cond (p r) 1 0) (kept_below h n) (option_to_list (kept_at h n))
      ∙ ap (λ k. k + count_by p (option_to_list (kept_at h n))) (count_rows n)
      ∙ ap (λ k. count_where (passes p h) n + k) (count_at n)

pub one_at_most : (b : Bool) → cond b 1 0 ≤ 1
one_at_most true = omega arith
one_at_most false = omega arith

-- no more clocks pass than there are
pub most : (p : ℕ → Bool) (n : ℕ) → count_where p n ≤ n
unfolding count_where
most p zero = omega arith
most p (suc n) = let less = most p n in let one = one_at_most (p n) in omega (arith, less, one)
