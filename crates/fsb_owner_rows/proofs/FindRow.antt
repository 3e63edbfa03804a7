-- The first row that is kept and passes a test, by the requests of the trace.
use Rattle.std.proofs.Common.{ℕ, zero, suc, ◌-◌, ◌≡◌, Bool, true, false, cond, not, ◌&&◌, Option, Some, None}
use Rattle.std.proofs.Common.{length, refl, sym, ap, ◌∙◌, inl, inr}
use Rattle.std.specs.List.{find}
use Rattle.std.specs.Option.{option_map, option_or, option_to_list}
use Rattle.std.proofs.lemmas.Bool.{cases_Bool}
use Rattle.std.proofs.lemmas.List.Folds.{find-append}
use Rattle.fsb_count.specs.Clocks.{first_where}
use Rattle.fsb_signal.specs.declared.lines.TheConstants.Lines.{ADS}
use Rattle.fsb_signal.specs.Samples.{line_at}
use Rattle.fsb_trace.specs.At.{Trace}
use Rattle.fsb_owner_table.specs.declared.row.Row.{Row}
use Rattle.fsb_owner_table.specs.Kept.{is_row_closed, kept_at, kept_below}
use Rattle.fsb_owner_table.specs.Rows.{row_at}
use Rattle.fsb_owner_table.proofs.KeptRows.{kept_is, not_kept}

-- a request begins at q, and its row passes the test
abbrev pub row_passes : (Row → Bool) → Trace → ℕ → Bool
row_passes p v q = line_at ADS v q && p (row_at v q)

or_else : (o d : Option ℕ) → elim o [ Some c ↦ Some c | None ↦ d ] ≡ option_or o d
or_else (Some c) d = refl
or_else None d = refl

map_or : {A B : Type 0} (f : A → B) (a b : Option A) → option_map f (option_or a b) ≡ option_or (option_map f a) (option_map f b)
map_or f (Some a) b = refl
map_or f None b = refl

map_cond : {A B : Type 0} (f : A → B) (b : Bool) (a : A) → cond b (Some (f a)) None ≡ option_map f (cond b (Some a) None)
map_cond f true a = refl
map_cond f false a = refl

one_found : (p : Row → Bool) (r : Row) (closed b : Bool) → p r ≡ b → (b ≡ true → closed ≡ false)
    → find p (option_to_list (cond (not closed) (Some r) None)) ≡ cond b (Some r) None
one_found p r false true e f = rw e refl
one_found p r false false e f = rw e refl
one_found p r true true e f = absurd (let k = f refl in let no : ⊥ = cc in no)
one_found p r true false e f = refl

module _ (p : Row → Bool) (v : Trace) (going : (q : ℕ) → p (row_at v q) ≡ true → line_at ADS v q ≡ true → is_row_closed (row_at v q) (length v - 3) ≡ false) where
  found_at : (q : ℕ) → find p (option_to_list (kept_at v q)) ≡ option_map (row_at v) (cond (row_passes p v q) (Some q) None)
  found_at q =
      elim (cases_Bool (line_at ADS v q)) [
        | inl t ↦
            ap (λ o. find p (option_to_list o)) (kept_is v q t)
            ∙ one_found p (row_at v q) (is_row_closed (row_at v q) (length v - 3)) (p (row_at v q)) refl (λ e. going q e t)
            ∙ map_cond (row_at v) (p (row_at v q)) q
            ∙ ap (λ b. option_map (row_at v) (cond (b && p (row_at v q)) (Some q) None)) (sym t)
        | inr f ↦
            ap (λ o. find p (option_to_list o)) (not_kept v q (rw f refl))
            ∙ ap (λ b. option_map (row_at v) (cond (b && p (row_at v q)) (Some q) None)) (sym f)
      ]

  -- the first row that passes is that of the first request whose row does
  pub found_row : (n : ℕ) → find p (kept_below v n) ≡ option_map (row_at v) (first_where (row_passes p v) n)
  unfolding kept_below first_where
  found_row zero = refl
  found_row (suc n) =
      find-append p (kept_below v n) (option_to_list (kept_at v n))
      ∙ ap (λ o. option_or o (find p (option_to_list (kept_at v n)))) (found_row n)
      ∙ ap (option_or (option_map (row_at v) (first_where (row_passes p v) n))) (found_at n)
      ∙ sym (map_or (row_at v) (first_where (row_passes p v) n) (cond (row_passes p v n) (Some n) None))
      ∙ ap (option_map (row_at v)) (sym (or_else (first_where (row_passes p v) n) (cond (row_passes p v n) (Some n) None)))
