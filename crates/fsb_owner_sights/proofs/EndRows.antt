-- The snoop end at a clock, by the row of its request.
use Rattle.std.proofs.Common.{ℕ, ◌+◌, ◌<◌, ◌≤◌, ◌≡◌, Bool, true, false, cond, not, ◌&&◌, ◌||◌, nat_eq, Option, Some, None, refl, sym, ap, ◌∙◌}
use Rattle.std.proofs.Common.{length, arith, inl, inr}
use Rattle.std.specs.Option.{option_and_then, option_map}
use Rattle.std.proofs.lemmas.Bool.{and_parts, both_ways, cases_Bool, false_from_ne_true}
use Rattle.fsb_count.specs.Options.{is_at, is_before, is_some_and}
use Rattle.fsb_count.proofs.Interface.{first_where-found, is_at-some, is_before-parts}
use Rattle.fsb_signal.specs.declared.lines.Lines.{Lines}
use Rattle.fsb_signal.specs.declared.lines.TheConstants.Lines.{ADS, HIT, HITM}
use Rattle.fsb_signal.specs.Samples.{line_at}
use Rattle.fsb_trace.specs.At.{Trace}
use Rattle.fsb_trace.specs.Requests.{is_live, is_reply, live_clock_of, live_count, live_number_of, live_request_of}
use Rattle.fsb_trace.specs.Response.{end_of}
use Rattle.fsb_trace.specs.Snoop.{line_at_snoop_end, snoop_end_of}
use Rattle.fsb_trace.proofs.Interface.{end_of-response, snoop_end_of-clock}
use Rattle.std.proofs.lemmas.Option.{same_Some}
use Rattle.fsb_laws.specs.Orderly.{Orderly}
use Rattle.fsb_laws.proofs.Interface.{has_answer}
use Rattle.fsb_owners.specs.Shown.{agent_at, is_turned, origin_clock_of, origin_of, purpose_at, snooped_at}
use Rattle.fsb_owners.specs.Rules.{has_other_hit}
use Rattle.fsb_owner_table.specs.declared.row.Row.{Row}
use Rattle.fsb_owner_table.specs.declared.row.Snooped.{Snooped}
use Rattle.fsb_owner_table.specs.RowAfter.{is_row_handed}
use Rattle.fsb_owner_table.specs.Rows.{reached, row_at, snooped_by}
use Rattle.fsb_owner_table.proofs.Reached.{reached-live}
use Rattle.fsb_owner_rows.specs.Kept.{AreKeptAt}
use Rattle.fsb_owner_rows.specs.OfRow.{is_row_turned, row_line, row_purpose}
use Rattle.fsb_owner_rows.proofs.ComingRows.{asked_request, snoop_of_row, turned_is}
use Rattle.fsb_owner_rows.proofs.Origins.{origin_ads}
use Rattle.fsb_owner_rows.proofs.RowWords.{numbered}
use Rattle.fsb_owner_judge.specs.declared.sights.LineEnd.{LineEnd}
use Rattle.fsb_owner_judge.specs.Sights.{line_end_at, line_end_by, line_end_of}
use Rattle.fsb_owner_sights.specs.Ends.{IsOrigin, IsSnooped}
use Rattle.fsb_owner_sights.proofs.AskingRows.{named, purpose_row, row_line_is}

-- HIT# at the snoop end of a row
abbrev pub row_hit : Row → Bool
row_hit row = is_some_and row.snoop (λ s. s.hit)

hit_is : (v : Trace) (p : ℕ) → is_live v p ≡ true → row_hit (row_at v p) ≡ line_at_snoop_end HIT v (live_number_of v p)
unfolding line_at_snoop_end is_some_and snooped_by
hit_is v p t = ap (λ o. is_some_and o (λ s. s.hit)) (snoop_of_row v p t) ∙ by_end (snoop_end_of v (live_number_of v p))
  where
    by_end : (o : Option ℕ) → is_some_and (option_map (snooped_by v) o) (λ s. s.hit) ≡ is_some_and o (line_at HIT v)
    by_end None = refl
    by_end (Some s) = refl

at_end : (line : Lines) (v : Trace) (j c : ℕ) → snoop_end_of v j ≡ Some c → line_at_snoop_end line v j ≡ line_at line v c
unfolding line_at_snoop_end is_some_and
at_end line v j c e = rw e refl

-- the snoop end of that live request
ended : (v : Trace) (c j : ℕ) → snooped_at v c ≡ Some j → snoop_end_of v j ≡ Some c
unfolding snooped_at
ended v c j e = is_at-some (snoop_end_of v j) c (first_where-found _ (live_count v) j e).1

-- the live request that counts, by its number
origin_number : (v : Trace) (j p : ℕ) → origin_clock_of v j ≡ Some p
    → (i : ℕ) × (origin_of v j ≡ Some i) × (live_clock_of v i ≡ Some p)
unfolding origin_clock_of
origin_number v j p e = by_origin (origin_of v j) refl e
  where
    by_origin : (o : Option ℕ) → origin_of v j ≡ o → option_and_then (live_clock_of v) o ≡ Some p
        → (i : ℕ) × (origin_of v j ≡ Some i) × (live_clock_of v i ≡ Some p)
    by_origin None f k = absurd (let no : ⊥ = cc in no)
    by_origin (Some i) f k = (i, f, k)

other_hit : (v : Trace) (c j : ℕ) (i : ℕ) → origin_of v j ≡ Some i
    → is_some_and (origin_of v j) (λ k. has_other_hit v c k) ≡ has_other_hit v c i
unfolding is_some_and
other_hit v c j i e = rw e refl

other_hit_is : (v : Trace) (c i : ℕ) → has_other_hit v c i
    ≡ cond (line_at_snoop_end HIT v i) (not (line_at HIT v c)) (line_at HIT v c)
unfolding has_other_hit
other_hit_is v c i = refl

module _ {v : Trace} {c j q p : ℕ} {row origin : Row} (g : IsOrigin v c j q p row origin) where
  number : (q < length v) × (is_live v q ≡ true) × (live_number_of v q ≡ j)
  number = numbered v j q g.ends.clock

  here : snoop_end_of v j ≡ Some c
  here = ended v c j g.ends.snooped

  pub row_hit_is : row_hit row ≡ line_at HIT v c
  row_hit_is =
      ap row_hit g.ends.is ∙ hit_is v q number.1 ∙ ap (line_at_snoop_end HIT v) number.2 ∙ at_end HIT v j c here

  handed_row : (r : Row) → r ≡ row_at v q → is_row_handed r ≡ line_at HITM v c
  unfolding line_at_snoop_end is_some_and snooped_by
  handed_row r e =
      ap is_row_handed e
      ∙ ap (λ o. is_some_and o (λ s. s.hitm)) (snoop_of_row v q number.1 ∙ ap (λ k. option_map (snooped_by v) (snoop_end_of v k)) number.2)
      ∙ (rw here refl)

  pub row_hitm_is : is_row_handed row ≡ line_at HITM v c
  row_hitm_is = handed_row row g.ends.is

  pub row_turned_is : is_row_turned row ≡ is_turned v j
  row_turned_is = ap is_row_turned g.ends.is ∙ turned_is v q number.1 ∙ ap (is_turned v) number.2

  pub row_reply_is : is_reply row.seen.request ≡ is_reply (live_request_of v j)
  row_reply_is =
      ap (λ r. is_reply r.seen.request) g.ends.is
      ∙ ap is_reply (asked_request v q number.1 ∙ ap (live_request_of v) number.2)

  pub purpose_counts : row_purpose origin ≡ purpose_at v p
  purpose_counts = purpose_row v p origin g.is

  pub hit_differs : cond (row_hit origin) (not (row_hit row)) (row_hit row)
      ≡ is_some_and (origin_of v j) (λ i. has_other_hit v c i)
  hit_differs =
      let o = origin_number v j p g.counts in
      let n = numbered v o.0 p o.2 in
      let first : row_hit origin ≡ line_at_snoop_end HIT v o.0 =
      ap row_hit g.is ∙ hit_is v p n.1 ∙ ap (line_at_snoop_end HIT v) n.2 in
      rw (first, row_hit_is) (sym (other_hit v c j o.0 o.1 ∙ other_hit_is v c o.0))

  -- what is made of the line that counts
  pub end_named : line_end_by v c j p ≡ option_and_then (λ line. option_map (line_end_of v c j p line) (agent_at v p)) (row_line origin)
  unfolding line_end_by
  end_named =
      named v p (λ line. option_map (line_end_of v c j p line) (agent_at v p)) (origin_ads v j p g.counts) _ refl
      ∙ ap (option_and_then (λ line. option_map (line_end_of v c j p line) (agent_at v p))) (sym (row_line_is v p origin g.is))

-- a request has no end before its snoop end
pub not_ended : (v : Trace) (c j q : ℕ) → Orderly v → snooped_at v c ≡ Some j → live_clock_of v j ≡ Some q
    → is_before (reached end_of v q) c ≡ false
not_ended v c j q o e f =
    let n = numbered v j q f in
    false_from_ne_true (is_before (reached end_of v q) c) (λ (t : is_before (reached end_of v q) c ≡ true).
    let k = is_before-parts (reached end_of v q) c t in
    let at : end_of v j ≡ Some k.0 = ap (end_of v) (sym n.2) ∙ sym (reached-live end_of v q n.1) ∙ k.1 in
    let r = end_of-response v j k.0 at in
    let a = has_answer v r.0 j (o.timely j r.0 r.1) in
    let is = a.is_snoop in
    let here = ended v c j e in
    let same : a.snoop ≡ c = cc in omega (arith, same, a.before, r.2, k.2))

-- the snoop end, by the rows
pub line_end_is : {v : Trace} {c j q p : ℕ} {row origin : Row} → IsOrigin v c j q p row origin → (line agent : ℕ)
    → ◌≡◌ {A = LineEnd} (record {
      line = line;
      asker = agent;
      kind = row_purpose origin;
      is_reply = is_reply row.seen.request;
      hit = row_hit row;
      hitm = is_row_handed row;
      turned = is_row_turned row;
      is_hit_wrong = cond (row_hit origin) (not (row_hit row)) (row_hit row);
    }) (line_end_of v c j p line agent)
unfolding line_end_of
line_end_is g line agent =
    rw (hit_differs g, row_hit_is g, row_hitm_is g, row_turned_is g, row_reply_is g, purpose_counts g) refl

-- the snoop end, by the line that the row names which counts

module _ {v : Trace} {c j q p : ℕ} {row origin : Row} (g : IsOrigin v c j q p row origin) where
  pub end_some : (line : ℕ) → Some line ≡ row_line origin
      → option_map (line_end_of v c j p line) (agent_at v p) ≡ line_end_by v c j p
  end_some line s =
      sym (end_named g ∙ ap (option_and_then (λ l. option_map (line_end_of v c j p l) (agent_at v p))) (sym s))

  pub end_none : None ≡ row_line origin → None ≡ line_end_by v c j p
  end_none s =
      sym (end_named g ∙ ap (option_and_then (λ l. option_map (line_end_of v c j p l) (agent_at v p))) (sym s))

module _ {v : Trace} {c j q : ℕ} {row : Row} (g : IsSnooped v c j q row) where
  pub live_of : is_live v q ≡ true
  live_of = (numbered v j q g.clock).1

  pub number_of : live_number_of v q ≡ j
  number_of = (numbered v j q g.clock).2

  pub with_some : (origin : Row) (e : Option LineEnd) → Some origin ≡ option_map (row_at v) (origin_clock_of v j)
      → ((p : ℕ) → IsOrigin v c j q p row origin → e ≡ line_end_by v c j p)
      → e ≡ option_and_then (line_end_by v c j) (origin_clock_of v j)
  with_some origin e s f = by_clock (origin_clock_of v j) refl s
    where
      by_clock : (o : Option ℕ) → origin_clock_of v j ≡ o → Some origin ≡ option_map (row_at v) o
          → e ≡ option_and_then (line_end_by v c j) o
      by_clock None k t = absurd (let no : ⊥ = cc in no)
      by_clock (Some p) k t = f p (record { ends = g; counts = k; is = same_Some _ _ t })

  pub with_none : None ≡ option_map (row_at v) (origin_clock_of v j)
      → None ≡ option_and_then (line_end_by v c j) (origin_clock_of v j)
  with_none s = by_clock (origin_clock_of v j) s
    where
      by_clock : (o : Option ℕ) → None ≡ option_map (row_at v) o → None ≡ option_and_then (line_end_by v c j) o
      by_clock None t = refl
      by_clock (Some p) t = absurd (let no : ⊥ = cc in no)

-- the snoop end at a clock, by the row whose snoop ends there

module _ (v : Trace) (c : ℕ) where
  pub at_some : (row : Row) (e : Option LineEnd)
      → Some row ≡ option_map (row_at v) (option_and_then (live_clock_of v) (snooped_at v c))
      → ((j q : ℕ) → IsSnooped v c j q row → e ≡ option_and_then (line_end_by v c j) (origin_clock_of v j))
      → e ≡ line_end_at v c
  unfolding line_end_at
  at_some row e s f = by_number (snooped_at v c) refl s
    where
      by_clock : (j : ℕ) → snooped_at v c ≡ Some j → (o : Option ℕ) → live_clock_of v j ≡ o → Some row ≡ option_map (row_at v) o
          → e ≡ option_and_then (line_end_by v c j) (origin_clock_of v j)
      by_clock j k None l t = absurd (let no : ⊥ = cc in no)
      by_clock j k (Some q) l t = f j q (record { snooped = k; clock = l; is = same_Some _ _ t })

      by_number : (o : Option ℕ) → snooped_at v c ≡ o → Some row ≡ option_map (row_at v) (option_and_then (live_clock_of v) o)
          → e ≡ option_and_then (λ j. option_and_then (line_end_by v c j) (origin_clock_of v j)) o
      by_number None k t = absurd (let no : ⊥ = cc in no)
      by_number (Some j) k t = by_clock j k (live_clock_of v j) refl t

  pub at_none : None ≡ option_map (row_at v) (option_and_then (live_clock_of v) (snooped_at v c)) → None ≡ line_end_at v c
  unfolding line_end_at
  at_none s = by_number (snooped_at v c) refl s
    where
      by_clock : (j : ℕ) → snooped_at v c ≡ Some j → (o : Option ℕ) → live_clock_of v j ≡ o → None ≡ option_map (row_at v) o → ⊥
      by_clock j k None l t =
          let h = snoop_end_of-clock v j c (ended v c j k) in
          let is = h.is_clock in let no : ⊥ = cc in no
      by_clock j k (Some q) l t = let no : ⊥ = cc in no

      by_number : (o : Option ℕ) → snooped_at v c ≡ o → None ≡ option_map (row_at v) (option_and_then (live_clock_of v) o)
          → None ≡ option_and_then (λ j. option_and_then (line_end_by v c j) (origin_clock_of v j)) o
      by_number None k t = refl
      by_number (Some j) k t = absurd (by_clock j k (live_clock_of v j) refl t)
