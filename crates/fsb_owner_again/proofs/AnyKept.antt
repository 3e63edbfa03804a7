-- Whether a row that is kept passes a test.
use Rattle.std.proofs.Common.{ℕ, zero, suc, ◌<◌, ◌≡◌, Bool, true, false, cond, not, ◌&&◌, ◌||◌, Some, None}
use Rattle.std.proofs.Common.{length, ◌-◌, refl, sym, ap, ◌∙◌, inl, inr, add-one}
use Rattle.std.specs.List.{list_any}
use Rattle.std.specs.Option.{option_to_list}
use Rattle.std.proofs.lemmas.Bool.{and_parts, cases_Bool}
use Rattle.std.proofs.lemmas.List.Folds.{list_any-append}
use Rattle.fsb_count.specs.Clocks.{any_where}
use Rattle.fsb_count.proofs.Interface.{any_where-at, any_where-found, any_where-more}
use Rattle.fsb_signal.specs.declared.lines.TheConstants.Lines.{ADS}
use Rattle.fsb_signal.specs.Samples.{line_at}
use Rattle.fsb_trace.specs.At.{Trace}
use Rattle.fsb_owner_table.specs.declared.row.Row.{Row}
use Rattle.fsb_owner_table.specs.Kept.{is_row_closed, kept_at, kept_below}
use Rattle.fsb_owner_table.specs.Rows.{row_at}
use Rattle.fsb_owner_table.proofs.KeptRows.{kept_is, not_kept}

-- the request that begins at q is kept, and its row passes
abbrev passes : (Row → Bool) → Trace → ℕ → Bool
passes p v q = line_at ADS v q && (not (is_row_closed (row_at v q) (length v - 3)) && p (row_at v q))

one : (p : Row → Bool) (r : Row) (going : Bool) → list_any p (option_to_list (cond going (Some r) None)) ≡ (going && p r)
one p r true = or_false (p r)
  where
    or_false : (b : Bool) → (b || false) ≡ b
    or_false true = refl
    or_false false = refl
one p r false = refl

one_passes : (p : Row → Bool) (v : Trace) (q : ℕ) → list_any p (option_to_list (kept_at v q)) ≡ passes p v q
one_passes p v q =
    elim (cases_Bool (line_at ADS v q)) [
      | inl t ↦
          ap (λ o. list_any p (option_to_list o)) (kept_is v q t)
          ∙ one p (row_at v q) (not (is_row_closed (row_at v q) (length v - 3))) ∙ sym (rw t refl)
      | inr f ↦ ap (λ o. list_any p (option_to_list o)) (not_kept v q (rw f refl)) ∙ sym (rw f refl)
    ]

any_kept : (p : Row → Bool) (v : Trace) (n : ℕ) → list_any p (kept_below v n) ≡ any_where (passes p v) n
unfolding kept_below any_where
any_kept p v zero = refl
any_kept p v (suc n) =
    list_any-append p (kept_below v n) (option_to_list (kept_at v n))
    ∙ ap (λ b. b || list_any p (option_to_list (kept_at v n))) (any_kept p v n)
    ∙ ap (λ b. any_where (passes p v) n || b) (one_passes p v n)
    ∙ sym (any_where-more (passes p v) n) ∙ ap (any_where (passes p v)) (add-one n)

-- where a row passes a request has it
pub kept_found : (p : Row → Bool) (v : Trace) (n : ℕ) → list_any p (kept_below v n) ≡ true
    → (q : ℕ) × (line_at ADS v q ≡ true) × (p (row_at v q) ≡ true)
kept_found p v n t =
    let f = any_where-found (passes p v) n (sym (any_kept p v n) ∙ t) in
    let a = and_parts (line_at ADS v f.0) _ f.2 in
    let b = and_parts (not (is_row_closed (row_at v f.0) (length v - 3))) (p (row_at v f.0)) a.1 in
    (f.0, a.0, b.1)

-- and a request that is kept has its row
pub kept_from : (p : Row → Bool) (v : Trace) (n q : ℕ) → q < n → line_at ADS v q ≡ true
    → is_row_closed (row_at v q) (length v - 3) ≡ false → p (row_at v q) ≡ true → list_any p (kept_below v n) ≡ true
kept_from p v n q l a c t =
    any_kept p v n ∙ any_where-at (passes p v) n q l (rw (a, c, t) refl)
