-- The line of a request that responds, by its row.
use Rattle.std.proofs.Common.{ℕ, ◌<◌, ◌≡◌, Bool, true, false, cond, not, ◌&&◌, length, Option, Some, None}
use Rattle.std.proofs.Common.{refl, sym, ap, ◌∙◌, arith}
use Rattle.std.specs.Option.{option_and_then, option_map}
use Rattle.std.proofs.lemmas.Bool.{and_right, false_from_ne_true}
use Rattle.std.proofs.lemmas.Option.{same_Some}
use Rattle.fsb_count.specs.Options.{is_at, is_before, is_some_and}
use Rattle.fsb_count.proofs.Interface.{first_where-found, is_at-some, is_before-parts}
use Rattle.fsb_trace.specs.At.{Trace}
use Rattle.fsb_trace.specs.Outcome.{outcome_of, response_clock_of}
use Rattle.fsb_trace.specs.Requests.{is_live, is_reply, live_clock_of, live_count, live_number_of}
use Rattle.fsb_trace.specs.Response.{end_of}
use Rattle.fsb_trace.proofs.Interface.{end_of-response}
use Rattle.fsb_owners.specs.Shown.{is_failure, is_for_line, origin_clock_of}
use Rattle.fsb_owner_table.specs.declared.row.Row.{Row}
use Rattle.fsb_owner_table.specs.Rows.{outcome_at, reached, row_at}
use Rattle.fsb_owner_table.proofs.Reached.{reached-live}
use Rattle.fsb_owner_laws.proofs.AgreeEnders.{for_line-from}
use Rattle.fsb_owner_rows.specs.Kept.{answered_at}
use Rattle.fsb_owner_rows.specs.OfRow.{row_line, row_names}
use Rattle.fsb_owner_rows.proofs.LiveTests.{live_there}
use Rattle.fsb_owner_rows.proofs.Origins.{origin_ads}
use Rattle.fsb_owner_rows.proofs.RowWords.{names_is, numbered}
use Rattle.fsb_owner_fails.specs.Fails.{IsAnswered, fails_at, fails_for, is_row_failed}

-- the line that a row names
line_named : (reply : Bool) (o : Option ℕ) (line : ℕ) → is_at (cond reply None o) line ≡ (is_at o line && not reply)
unfolding is_at is_some_and
line_named false o line = sym (and_true (is_at o line))
  where
    and_true : (b : Bool) → (b && true) ≡ b
    and_true true = refl
    and_true false = refl
line_named true o line = sym (and_right (is_at o line) false refl)

row_named : (row : Row) (line : ℕ) → is_at (row_line row) line ≡ row_names line row
row_named row line = line_named (is_reply row.seen.request) row.line line

none_at : (line : ℕ) → is_at None line ≡ false
unfolding is_at is_some_and
none_at line = refl

not_for_line : (v : Trace) (line j : ℕ) → origin_clock_of v j ≡ None → is_for_line v line j ≡ false
unfolding is_for_line is_some_and
not_for_line v line j e = rw e refl

response_there : (v : Trace) (c j : ℕ) → answered_at v c ≡ Some j → (j < live_count v) × (response_clock_of v j ≡ Some c)
unfolding answered_at
response_there v c j e =
    let p = first_where-found (λ i. is_at (response_clock_of v i) c) (live_count v) j e in (p.0, is_at-some _ c p.1)

module _ {v : Trace} {c j q : ℕ} {row : Row} (g : IsAnswered v c j q row) where
  number : (q < length v) × (is_live v q ≡ true) × (live_number_of v q ≡ j)
  number = numbered v j q g.clock

  pub live_of : is_live v q ≡ true
  live_of = number.1

  pub number_of : live_number_of v q ≡ j
  number_of = number.2

  -- its end is not before its response
  pub not_ended : is_before (reached end_of v q) c ≡ false
  not_ended =
      false_from_ne_true (is_before (reached end_of v q) c) (λ (t : is_before (reached end_of v q) c ≡ true).
      let k = is_before-parts (reached end_of v q) c t in
      let at : end_of v j ≡ Some k.0 = ap (end_of v) (sym number.2) ∙ sym (reached-live end_of v q number.1) ∙ k.1 in
      let r = end_of-response v j k.0 at in
      let is = r.1 in
      let here = (response_there v c j g.answered).1 in
      let same : r.0 ≡ c = cc in omega (arith, same, r.2, k.2))

  -- the line of the request that counts
  pub line_some : (origin : Row) (line : ℕ) → Some origin ≡ option_map (row_at v) (origin_clock_of v j)
      → is_at (row_line origin) line ≡ is_for_line v line j
  line_some origin line s = by_clock (origin_clock_of v j) refl s
    where
      by_clock : (o : Option ℕ) → origin_clock_of v j ≡ o → Some origin ≡ option_map (row_at v) o
          → is_at (row_line origin) line ≡ is_for_line v line j
      by_clock None k t = absurd (let no : ⊥ = cc in no)
      by_clock (Some p) k t =
          let is : origin ≡ row_at v p = same_Some _ _ t in
          row_named origin line ∙ ap (row_names line) is ∙ names_is v line p (origin_ads v j p k) ∙ sym (for_line-from v line j p k)

  pub line_none : (line : ℕ) → None ≡ option_map (row_at v) (origin_clock_of v j) → is_at None line ≡ is_for_line v line j
  line_none line s = by_clock (origin_clock_of v j) refl s
    where
      by_clock : (o : Option ℕ) → origin_clock_of v j ≡ o → None ≡ option_map (row_at v) o → is_at None line ≡ is_for_line v line j
      by_clock None k t = none_at line ∙ sym (not_for_line v line j k)
      by_clock (Some p) k t = absurd (let no : ⊥ = cc in no)

  row_outcome : (r : Row) → r ≡ row_at v q → r.outcome ≡ outcome_of v j
  unfolding row_at outcome_at
  row_outcome r e = ap (λ s. s.outcome) e ∙ (rw number.1 (ap (outcome_of v) number.2))

  failed_is : is_row_failed row ≡ is_some_and (outcome_of v j) is_failure
  failed_is = ap (λ o. is_some_and o is_failure) (row_outcome row g.is)

  fails_form : (line : ℕ) → fails_at v c line ≡ (is_for_line v line j && is_row_failed row)
  unfolding fails_at fails_for is_some_and
  fails_form line = rw g.answered (ap (λ b. is_for_line v line j && b) (sym failed_is))

  pub fails_some : (o : Option ℕ) (line : ℕ) → true ≡ is_row_failed row → is_at o line ≡ is_for_line v line j
      → is_at o line ≡ fails_at v c line
  fails_some o line t e = e ∙ sym (fails_form line ∙ ap (λ b. is_for_line v line j && b) (sym t) ∙ and_true (is_for_line v line j))
    where
      and_true : (b : Bool) → (b && true) ≡ b
      and_true true = refl
      and_true false = refl

  pub fails_none : (line : ℕ) → false ≡ is_row_failed row → is_at None line ≡ fails_at v c line
  fails_none line f =
      none_at line ∙ sym (fails_form line ∙ and_right (is_for_line v line j) _ (sym f))

module _ (v : Trace) (c : ℕ) where
  pub at_some : (row : Row) (b : Bool) (line : ℕ)
      → Some row ≡ option_map (row_at v) (option_and_then (live_clock_of v) (answered_at v c))
      → ((j q : ℕ) → IsAnswered v c j q row → b ≡ fails_at v c line)
      → b ≡ fails_at v c line
  at_some row b line s f = by_number (answered_at v c) refl s
    where
      by_clock : (j : ℕ) → answered_at v c ≡ Some j → (o : Option ℕ) → live_clock_of v j ≡ o → Some row ≡ option_map (row_at v) o
          → b ≡ fails_at v c line
      by_clock j k None l t = absurd (let no : ⊥ = cc in no)
      by_clock j k (Some q) l t = f j q (record { answered = k; clock = l; is = same_Some _ _ t })

      by_number : (o : Option ℕ) → answered_at v c ≡ o → Some row ≡ option_map (row_at v) (option_and_then (live_clock_of v) o)
          → b ≡ fails_at v c line
      by_number None k t = absurd (let no : ⊥ = cc in no)
      by_number (Some j) k t = by_clock j k (live_clock_of v j) refl t

  pub at_none : (line : ℕ) → None ≡ option_map (row_at v) (option_and_then (live_clock_of v) (answered_at v c))
      → is_at None line ≡ fails_at v c line
  unfolding fails_at is_at is_some_and
  at_none line s = by_number (answered_at v c) refl s
    where
      by_clock : (j : ℕ) → answered_at v c ≡ Some j → (o : Option ℕ) → live_clock_of v j ≡ o → None ≡ option_map (row_at v) o → ⊥
      by_clock j k None l t =
          let p = live_there v j (response_there v c j k).0 in
          let is = p.1 in let no : ⊥ = cc in no
      by_clock j k (Some q) l t = let no : ⊥ = cc in no

      by_number : (o : Option ℕ) → answered_at v c ≡ o → None ≡ option_map (row_at v) (option_and_then (live_clock_of v) o)
          → false ≡ is_some_and o (fails_for v line)
      by_number None k t = refl
      by_number (Some j) k t = absurd (by_clock j k (live_clock_of v j) refl t)
