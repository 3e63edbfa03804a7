-- What a test finds among the rows that are kept of a trace.
use Rattle.std.proofs.Common.{ℕ, zero, suc, ◌-◌, ◌≡◌, Bool, true, false, cond, not, ◌&&◌, Option, Some, None, ◌⊎◌, inl, inr}
use Rattle.std.proofs.Common.{length, refl, sym, ap, ◌∙◌}
use Rattle.std.specs.List.{find}
use Rattle.std.specs.Option.{option_map, option_or, option_to_list}
use Rattle.std.proofs.lemmas.Bool.{and_parts, cases_Bool, false_from_ne_true, or_cases}
use Rattle.std.proofs.lemmas.List.Folds.{find-append}
use Rattle.fsb_count.specs.Clocks.{first_where}
use Rattle.fsb_count.proofs.Interface.{is_before-parts}
use Rattle.fsb_signal.specs.declared.lines.TheConstants.Lines.{ADS}
use Rattle.fsb_signal.specs.Samples.{line_at}
use Rattle.fsb_trace.specs.At.{Trace}
use Rattle.fsb_trace.specs.Requests.{is_cancelled, is_live, live_number_of}
use Rattle.fsb_trace.specs.Outcome.{is_deferred}
use Rattle.fsb_trace.specs.Response.{end_of}
use Rattle.fsb_laws.proofs.OutstandingSteps.{deferred_response}
use Rattle.fsb_owner_table.specs.declared.row.Row.{Row}
use Rattle.fsb_owner_table.specs.Kept.{is_row_closed, kept_at, kept_below, row_last_clock}
use Rattle.fsb_owner_table.specs.Rows.{reached, row_at}
use Rattle.fsb_owner_table.specs.RowAfter.{is_row_deferred}
use Rattle.fsb_owner_table.proofs.Reached.{reached-live}
use Rattle.fsb_owner_table.proofs.RowGoes.{deferred_is}
use Rattle.fsb_owner_table.proofs.KeptRows.{dropped_of, kept_is, last_of, not_kept}

-- a request begins at q, and its row passes the test
abbrev pub passes : (Row → Bool) → Trace → ℕ → Bool
passes p h q = line_at ADS h q && p (row_at h q)

or_else : (o d : Option ℕ) → elim o [ Some c ↦ Some c | None ↦ d ] ≡ option_or o d
or_else (Some c) d = refl
or_else None d = refl

first_more : (p : ℕ → Bool) (n : ℕ) → first_where p (suc n) ≡ option_or (first_where p n) (cond (p n) (Some n) None)
unfolding first_where
first_more p n = or_else (first_where p n) (cond (p n) (Some n) None)

map_or : {A B : Type 0} (f : A → B) (a b : Option A) → option_map f (option_or a b) ≡ option_or (option_map f a) (option_map f b)
map_or f (Some a) b = refl
map_or f None b = refl

map_cond : {A B : Type 0} (f : A → B) (b : Bool) (a : A) → cond b (Some (f a)) None ≡ option_map f (cond b (Some a) None)
map_cond f true a = refl
map_cond f false a = refl

one_cases : (p : Row → Bool) (r : Row) (closed b : Bool) → p r ≡ b → (b ≡ true → closed ≡ false)
    → find p (option_to_list (cond (not closed) (Some r) None)) ≡ cond b (Some r) None
one_cases p r false true e f = rw e refl
one_cases p r false false e f = rw e refl
one_cases p r true true e f = absurd (let k = f refl in let no : ⊥ = cc in no)
one_cases p r true false e f = refl

module _ (p : Row → Bool) (h : Trace) (going : (q : ℕ) → p (row_at h q) ≡ true → is_row_closed (row_at h q) (length h - 3) ≡ false) where
  one_found : (q : ℕ) → find p (option_to_list (kept_at h q)) ≡ option_map (row_at h) (cond (passes p h q) (Some q) None)
  one_found q =
      elim (cases_Bool (line_at ADS h q)) [
        | inl t ↦
            ap (λ o. find p (option_to_list o)) (kept_is h q t)
            ∙ one_cases p (row_at h q) (is_row_closed (row_at h q) (length h - 3)) (p (row_at h q)) refl (going q)
            ∙ map_cond (row_at h) (p (row_at h q)) q
            ∙ ap (λ b. option_map (row_at h) (cond (b && p (row_at h q)) (Some q) None)) (sym t)
        | inr f ↦
            ap (λ o. find p (option_to_list o)) (not_kept h q (rw f refl))
            ∙ ap (λ b. option_map (row_at h) (cond (b && p (row_at h q)) (Some q) None)) (sym f)
      ]

  -- the first row that passes is that of the first request whose row does
  pub find_rows : (n : ℕ) → find p (kept_below h n) ≡ option_map (row_at h) (first_where (passes p h) n)
  unfolding kept_below first_where
  find_rows zero = refl
  find_rows (suc n) =
      find-append p (kept_below h n) (option_to_list (kept_at h n))
      ∙ ap (λ o. option_or o (find p (option_to_list (kept_at h n)))) (find_rows n)
      ∙ ap (option_or (option_map (row_at h) (first_where (passes p h) n))) (one_found n)
      ∙ sym (map_or (row_at h) (first_where (passes p h) n) (cond (passes p h n) (Some n) None))
      ∙ ap (option_map (row_at h)) (sym (first_more (passes p h) n))

-- a row is closed where its request is cancelled or has its end
last_ended : (h : Trace) (q t : ℕ) → row_last_clock (row_at h q) ≡ Some t → (e : ℕ) × (reached end_of h q ≡ Some e)
last_ended h q t e =
    elim (cases_Bool (is_row_deferred (row_at h q))) [
      | inl d ↦
          let p = and_parts (is_live h q) (is_deferred h (live_number_of h q)) (sym (deferred_is h q) ∙ d) in
          let r = deferred_response h (live_number_of h q) p.1 in
          (r.0, reached-live end_of h q p.0 ∙ r.2)
      | inr f ↦ (t, let k = sym (last_of h q) ∙ e in rw f at k)
    ]

pub closed_parts : (h : Trace) (q c : ℕ) → is_row_closed (row_at h q) c ≡ true
    → (is_cancelled h q ≡ true) ⊎ ((e : ℕ) × (reached end_of h q ≡ Some e))
closed_parts h q c t =
    elim (or_cases _ _ t) [
      | inl dropped ↦ inl (and_parts (is_cancelled h q) _ (sym (dropped_of h q c) ∙ dropped)).0
      | inr last ↦
          let p = is_before-parts (row_last_clock (row_at h q)) c last in inr (last_ended h q p.0 p.1)
    ]

-- a row stays open whose request is neither
pub stays_open : (p : Row → Bool) (h : Trace) (q : ℕ) → (p (row_at h q) ≡ true → is_cancelled h q ≡ false)
    → (p (row_at h q) ≡ true → reached end_of h q ≡ None) → p (row_at h q) ≡ true
    → is_row_closed (row_at h q) (length h - 3) ≡ false
stays_open p h q alive going t =
    false_from_ne_true _ (λ c.
    elim (closed_parts h q (length h - 3) c) [
      | inl cancelled ↦ let no_c = alive t in let no : ⊥ = cc in no
      | inr ended ↦ let k = ended.1 in let none = going t in let no : ⊥ = cc in no
    ])
