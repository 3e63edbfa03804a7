-- What happens to requests with a sample: which one has its snoop end, its response or its end.
use Rattle.std.proofs.Common.{ℕ, ◌+◌, ◌<◌, ◌≤◌, ◌≡◌, Bool, true, false, cond, ◌&&◌, Option, Some, None, inl, inr, add-one}
use Rattle.std.proofs.Common.{[], ◌∷◌, ◌++◌, is_none, is_some, nat_le, length, refl, sym, ap, ◌∙◌, arith, subst}
use Rattle.std.specs.Option.{option_map}
use Rattle.std.proofs.lemmas.Bool.{cases_eq, cases_lt, eq-eqb, false_from_ne_true, both_ways, ne_eqb}
use Rattle.fsb_count.specs.Options.{is_at, is_some_and}
use Rattle.fsb_count.proofs.Interface.{is_at-from, is_at-some}
use Rattle.fsb_signal.specs.declared.lines.TheConstants.Lines.{DRDY, HITM}
use Rattle.fsb_signal.specs.declared.sample.Sample.{Sample}
use Rattle.fsb_signal.specs.Samples.{has_line, response_of}
use Rattle.fsb_trace.specs.At.{Trace}
use Rattle.fsb_trace.specs.Requests.{live_clock_of, live_number_of, seen_at}
use Rattle.fsb_trace.specs.Snoop.{line_at_snoop_end, snoop_end_of}
use Rattle.fsb_trace.specs.Outcome.{does_move, response_clock_of, told_by}
use Rattle.fsb_trace.specs.Response.{end_of}
use Rattle.fsb_trace.proofs.Interface.{end_of-response, live_clock_of-number, snoop_end_of-clock}
use Rattle.fsb_laws.specs.OneMore.{OneMore, responds}
use Rattle.fsb_laws.specs.Orderly.{Orderly}
use Rattle.fsb_laws.specs.Progress.{EndsTo, chunk_step, ends_snoop_of, may_answer_next, response_count, transfer_of}
use Rattle.fsb_laws.proofs.Interface.{answered_below, end_of-kept, end_of-old, ends_to-moving, ends_to-still, is_live-ads}
use Rattle.fsb_laws.proofs.Interface.{has_answer, live_clock_of-less, may_answer-new, may_answer_next-parts, moves_new, one_more}
use Rattle.fsb_laws.proofs.Interface.{response_clock_of-new, response_count-kept, response_count-more, snoop_end_of-above}
use Rattle.fsb_laws.proofs.Interface.{snoop_end_of-more, snoop_end_of-old, snoops_to-ended, snoops_to-kept, transfer_of-begun}
use Rattle.fsb_laws.proofs.Interface.{ads_before_end, transfer_of-kept, transfer_parts}
use Rattle.fsb_laws.proofs.OrderlySteps.{response_now}
use Rattle.fsb_heads.specs.Heads.{MovesWith, snooped_count}
use Rattle.fsb_heads.proofs.Interface.{snoops_to}
use Rattle.fsb_owner_table.specs.declared.row.Row.{Row}
use Rattle.fsb_owner_table.specs.Rows.{reached, row_at, snoop_at, snooped_by}
use Rattle.fsb_owner_table.specs.RowAfter.{row_told_by}
use Rattle.fsb_owner_table.specs.Happened.{reaches}
use Rattle.fsb_owner_table.proofs.Reached.{reached-live, reached-parts}
use Rattle.fsb_owner_table.proofs.RowGoes.{request_of}
use Rattle.fsb_owner_feed.specs.declared.table.Table.{Table}
use Rattle.fsb_owner_feed.specs.Table.{ComesNext, IsReached, IsRowOf, SaysAnswered, SaysAsking, SaysMoving, SaysWaiting, moves_by}
use Rattle.fsb_owner_feed.proofs.NextRows.{numbered}

-- the clock of one live request alone is n
pub reached_alone : (f : Trace → ℕ → Option ℕ) (v : Trace) (n i p : ℕ) → live_clock_of v i ≡ Some p → f v i ≡ Some n
    → ((j : ℕ) → f v j ≡ Some n → j ≡ i) → IsReached f (Some p) v n
unfolding is_at is_some_and reaches
reached_alone f v n i p clock here alone = λ q.
    elim (cases_eq p q) [
      | inl same ↦
          let k = numbered v i p clock in
          let there : reached f v p ≡ Some n = reached-live f v p k.1 ∙ ap (f v) k.2 ∙ here in
          eq-eqb p q same
          ∙ sym (ap (λ c. is_at (reached f v c) n) (sym same) ∙ is_at-from (reached f v p) n there)
      | inr other ↦
          ne_eqb p q other
          ∙ sym (false_from_ne_true (is_at (reached f v q) n) (λ t.
          let k = reached-parts f v q n (is_at-some (reached f v q) n t) in
          let number = alone (live_number_of v q) k.1 in
          let own = live_clock_of-number v q (ads_before_end v q (is_live-ads v q k.0)) k.0 in
          let there : live_clock_of v i ≡ Some q = ap (live_clock_of v) (sym number) ∙ own in
          other (let same : p ≡ q = cc in same)))
    ]

-- that of none is
pub reached_none : (f : Trace → ℕ → Option ℕ) (v : Trace) (n : ℕ) → ((j : ℕ) → f v j ≡ Some n → ⊥) → IsReached f None v n
unfolding is_at is_some_and reaches
reached_none f v n none = λ q.
    sym (false_from_ne_true (is_at (reached f v q) n) (λ t.
    none (live_number_of v q) (reached-parts f v q n (is_at-some (reached f v q) n t)).1))

module _ {table : Table} {x : Sample} {h : Trace} (g : ComesNext table x h) where
  abbrev v : Trace
  v = h ++ x ∷ []

  m : OneMore h x (h ++ x ∷ [])
  m = one_more h x

  -- a request with its snoop end has its clock in both traces
  clock_kept : (i t : ℕ) (row : Row) → IsRowOf h i row → snoop_end_of v i ≡ Some t
      → live_clock_of v i ≡ Some row.seen.clock
  clock_kept i t row r e =
      let c = snoop_end_of-clock v i t e in
      let old = live_clock_of-less h x v i c.clock m g.before.spaced (omega (arith, c.above, c.within, m.size)) c.is_clock in
      let own = r.clock in
      let is = c.is_clock in cc

  -- the snoop end
  not_before : (j : ℕ) → snoop_end_of v j ≡ Some (length h) → snooped_count h ≤ j
  not_before j e =
      elim (cases_lt j (snooped_count h)) [
        | inr l ↦ l
        | inl l ↦
            let old = snoop_end_of-old h x v (snooped_count h) j m (snoops_to h) l in
            let t = (snoops_to h).reached j l in
            let there = t.1 in
            let same : t.0 ≡ length h = cc in absurd (omega (arith, t.2, same))
      ]

  snoops_alone : ends_snoop_of h (snooped_count h) x ≡ true → (j : ℕ) → snoop_end_of v j ≡ Some (length h)
      → j ≡ snooped_count h
  snoops_alone t j e =
      let low = not_before j e in
      elim (cases_lt (snooped_count h) j) [
        | inr l ↦ omega (arith, low, l)
        | inl l ↦
            let none = snoop_end_of-above v (snooped_count h + 1) j
            (snoops_to-ended h x v (snooped_count h) m g.before.spaced (snoops_to h) t) (omega (arith, l)) in
            absurd (let no : ⊥ = cc in no)
      ]

  pub snooped_none : ends_snoop_of h (snooped_count h) x ≡ false → IsReached snoop_end_of None v (length h)
  snooped_none f =
      reached_none snoop_end_of v (length h) (λ j e.
      let none = snoop_end_of-above v (snooped_count h) j
      (snoops_to-kept h x v (snooped_count h) m g.before.spaced (snoops_to h) f) (not_before j e) in
      let no : ⊥ = cc in no)

  snooped_now : ends_snoop_of h (snooped_count h) x ≡ true → snoop_end_of v (snooped_count h) ≡ Some (length h)
  snooped_now t =
      snoop_end_of-more h x v (snooped_count h) m g.before.spaced (snoops_to h)
      ∙ ap (λ b. cond b (Some (length h)) None) t

  pub snooped_row : (row : Row) → IsRowOf h (snooped_count h) row → ends_snoop_of h (snooped_count h) x ≡ true
      → IsReached snoop_end_of (Some row.seen.clock) v (length h)
  snooped_row row r t =
      reached_alone snoop_end_of v (length h) (snooped_count h) row.seen.clock
      (clock_kept (snooped_count h) (length h) row r (snooped_now t)) (snooped_now t) (snoops_alone t)

  pub none_asks : SaysAsking h None → ends_snoop_of h (snooped_count h) x ≡ false
  none_asks none =
      false_from_ne_true (ends_snoop_of h (snooped_count h) x) (λ t.
      let c = snoop_end_of-clock v (snooped_count h) (length h) (snooped_now t) in
      let old = live_clock_of-less h x v (snooped_count h) c.clock m g.before.spaced (omega (arith, c.above)) c.is_clock in
      omega (arith, c.above, none c.clock old))

  -- the response
  pub in_time : responds x ≡ true → may_answer_next h ≡ true
  in_time r =
      sym (may_answer-new h x v (snooped_count h) m g.before (snoops_to h))
      ∙ g.after.timely (response_count h) (length h) (response_clock_of-new h x v m r)

  pub below : responds x ≡ true → response_count h < snooped_count h
  below r = answered_below h (snooped_count h) (snoops_to h) (in_time r)

  snooped_before : responds x ≡ true → (t : ℕ) × (snoop_end_of h (response_count h) ≡ Some t)
  snooped_before r = let p = may_answer_next-parts h (in_time r) in (p.0, p.1)

  answered_row : (row : Row) → responds x ≡ true → IsRowOf h (response_count h) row
      → IsReached response_clock_of (Some row.seen.clock) v (length h)
  answered_row row r is =
      let s = snooped_before r in
      let old = snoop_end_of-old h x v (snooped_count h) (response_count h) m (snoops_to h) (below r) in
      reached_alone response_clock_of v (length h) (response_count h) row.seen.clock
      (clock_kept (response_count h) s.0 row is (old ∙ s.1)) (response_clock_of-new h x v m r)
      (λ j e. (response_now h x v j (length h) m e (omega arith)).0)

  pub answered_is : (o : Option Row) → SaysAnswered x h o
      → IsReached response_clock_of (option_map (λ r. r.seen.clock) o) v (length h)
  answered_is None f =
      reached_none response_clock_of v (length h) (λ j e.
      both_ways _ f (response_now h x v j (length h) m e (omega arith)).2)
  answered_is (Some row) s = answered_row row s.0 s.1

  pub none_waits : responds x ≡ true → SaysWaiting h None → ⊥
  none_waits r none = let s = snooped_before r in let there = s.1 in let no : ⊥ = cc in no

  pub answered_by : (o : Option Row) → responds x ≡ true → SaysWaiting h o → SaysAnswered x h o
  answered_by None r s = absurd (none_waits r s)
  answered_by (Some row) r s = (r, s)

-- whether a request may respond next, by its row
snoop_by : (h : Trace) (n : ℕ) (o : Option ℕ) (q : ℕ) → reached snoop_end_of h q ≡ o
    → is_some_and (snoop_at h q) (λ s. nat_le (s.clock + 2) n) ≡ is_some_and o (λ t. nat_le (t + 2) n)
unfolding snoop_at snooped_by is_some_and
snoop_by h n None q e = rw e refl
snoop_by h n (Some t) q e = rw e refl

snoop_field : (h : Trace) (q : ℕ) → (row_at h q).snoop ≡ snoop_at h q
unfolding row_at
snoop_field h q = refl

pub may_row : (h : Trace) (row : Row) → IsRowOf h (response_count h) row
    → (is_some_and row.snoop (λ s. nat_le (s.clock + 2) (length h)) && is_none (transfer_of h)) ≡ may_answer_next h
unfolding may_answer_next
may_row h row r =
    let q : ℕ = row.seen.clock in
    let k = numbered h (response_count h) q r.clock in
    let snoop : row.snoop ≡ snoop_at h q = ap (λ w. w.snoop) r.is ∙ snoop_field h q in
    ap (λ b. b && is_none (transfer_of h))
    (ap (λ o. is_some_and o (λ s. nat_le (s.clock + 2) (length h))) snoop
    ∙ snoop_by h (length h) (snoop_end_of h (response_count h)) q
    (reached-live snoop_end_of h q k.1 ∙ ap (snoop_end_of h) k.2))

pub may_none : (h : Trace) → snoop_end_of h (response_count h) ≡ None → may_answer_next h ≡ false
unfolding may_answer_next is_some_and
may_none h e = rw e refl

-- what a response tells of a request, by its row
handed : (h : Trace) (i q s : ℕ) → reached snoop_end_of h q ≡ Some s → snoop_end_of h i ≡ Some s
    → is_some_and (snoop_at h q) (λ k. k.hitm) ≡ line_at_snoop_end HITM h i
unfolding snoop_at snooped_by line_at_snoop_end is_some_and
handed h i q s e f = rw (e, f) refl

told_at : (h : Trace) (i q s code : ℕ) → live_clock_of h i ≡ Some q → snoop_end_of h i ≡ Some s
    → row_told_by (row_at h q) code ≡ told_by h i code
unfolding told_by row_at seen_at
told_at h i q s code e f =
    let k = numbered h i q e in
    let there : reached snoop_end_of h q ≡ Some s = reached-live snoop_end_of h q k.1 ∙ ap (snoop_end_of h) k.2 ∙ f in
    rw (handed h i q s there f, request_of h i q e) refl

told_row : (h : Trace) (i s code : ℕ) (row : Row) → IsRowOf h i row → snoop_end_of h i ≡ Some s
    → row_told_by row code ≡ told_by h i code
told_row h i s code row r e = ap (λ k. row_told_by k code) r.is ∙ told_at h i row.seen.clock s code r.clock e

below_end : (v : Trace) (e j t : ℕ) → EndsTo v e → end_of v j ≡ Some t → j < e
below_end v e j t to f =
    elim (cases_lt j e) [
      | inl l ↦ l
      | inr l ↦ let none = to.above j l in absurd (let no : ⊥ = cc in no)
    ]

no_transfer : (comes : Bool) → chunk_step comes (cond false (Some 0) None) ≡ None
unfolding chunk_step
no_transfer comes = refl

some_transfer : (comes : Bool) → (k : ℕ) × (chunk_step comes (cond true (Some 0) None) ≡ Some k)
unfolding chunk_step
some_transfer true = (1, refl)
some_transfer false = (0, refl)

ended_snoop : (u : Trace) (i t : ℕ) → Orderly u → end_of u i ≡ Some t → (s : ℕ) × (snoop_end_of u i ≡ Some s)
ended_snoop u i t o e =
    let r = end_of-response u i t e in
    let a = has_answer u r.0 i (o.timely i r.0 r.1) in (a.snoop, a.is_snoop)

no_chunk : (comes : Bool) → chunk_step comes None ≡ None
unfolding chunk_step
no_chunk comes = refl

module _ {table : Table} {x : Sample} {h : Trace} (g : ComesNext table x h) where
  abbrev w : Trace
  w = h ++ x ∷ []

  one : OneMore h x (h ++ x ∷ [])
  one = one_more h x

  module _ {e : ℕ} (to : EndsTo h e) where
    -- an end at the new clock is the next one
    new_end : (j : ℕ) → end_of w j ≡ Some (length h) → e ≤ j
    new_end j f =
        elim (cases_lt j e) [
          | inr l ↦ l
          | inl l ↦
              let p = to.reached j l in
              let k = end_of-kept h x w j p.0 one g.before p.1 p.2 in
              let same : p.0 ≡ length h = cc in absurd (omega (arith, p.2, same))
        ]

    none_ends : EndsTo w e → IsReached end_of None w (length h)
    none_ends now =
        reached_none end_of w (length h) (λ j f.
        let low = new_end j f in let high = below_end w e j (length h) now f in omega (arith, low, high))

    one_end : EndsTo w (e + 1) → end_of w e ≡ Some (length h)
    one_end now =
        let p = now.reached e (omega arith) in
        elim (cases_lt p.0 (length h)) [
          | inl old ↦
              let f = end_of-old h x w e p.0 one g.before p.1 old in
              let none = to.above e (omega arith) in absurd (let no : ⊥ = cc in no)
          | inr new ↦
              let same : p.0 ≡ length h = omega (arith, new, p.2, one.size) in
              p.1 ∙ ap (λ t. Some t) same
        ]

    ends_alone : (s : ℕ) (row : Row) → EndsTo w (e + 1) → IsRowOf h e row → snoop_end_of w e ≡ Some s
        → IsReached end_of (Some row.seen.clock) w (length h)
    ends_alone s row now r k =
        reached_alone end_of w (length h) e row.seen.clock (clock_kept g e s row r k) (one_end now)
        (λ j f. let low = new_end j f in let high = below_end w (e + 1) j (length h) now f in omega (arith, low, high))

  -- with a response
  count_next : responds x ≡ true → response_count w ≡ response_count h + 1
  count_next r = rw r at (response_count-more h x w one)

  transfer_begun : (moves : Bool) → responds x ≡ true
      → does_move (told_by h (response_count h) (response_of x)) ≡ moves
      → transfer_of w ≡ chunk_step (has_line x DRDY) (cond moves (Some 0) None)
  transfer_begun moves r e =
      transfer_of-begun h x w (snooped_count h) one (snoops_to h) (below g r) r
      ∙ ap (λ c. chunk_step (has_line x DRDY) (cond c (Some 0) None)) e

  still_before : responds x ≡ true → EndsTo h (response_count h)
  still_before r = ends_to-still h g.before (may_answer_next-parts h (in_time g r)).3

  at_once : (row : Row) (moves : Bool) → responds x ≡ true → IsRowOf h (response_count h) row
      → does_move (told_by h (response_count h) (response_of x)) ≡ moves
      → IsReached end_of (cond moves None (Some row.seen.clock)) w (length h)
  at_once row true r is e =
      let some = some_transfer (has_line x DRDY) in
      none_ends (still_before r)
      (ends_to-moving w some.0 (response_count h) g.after (transfer_begun true r e ∙ some.1)
      (count_next r ∙ add-one (response_count h)))
  at_once row false r is e =
      let ends : EndsTo w (response_count h + 1) =
      subst (EndsTo w) (count_next r)
      (ends_to-still w g.after (transfer_begun false r e ∙ no_transfer (has_line x DRDY))) in
      let s = snooped_before g r in
      let old = snoop_end_of-old h x w (snooped_count h) (response_count h) one (snoops_to h) (below g r) in
      ends_alone (still_before r) s.0 row ends is (old ∙ s.1)

  pub moves_told : (row : Row) → responds x ≡ true → IsRowOf h (response_count h) row
      → moves_by (Some row) x ≡ does_move (told_by h (response_count h) (response_of x))
  unfolding is_some_and
  moves_told row r is =
      let s = snooped_before g r in ap does_move (told_row h (response_count h) s.0 (response_of x) row is s.1)

  pub ended_row : (row : Row) (moves : Bool) → responds x ≡ true → IsRowOf h (response_count h) row
      → moves_by (Some row) x ≡ moves → IsReached end_of (cond moves None (Some row.seen.clock)) w (length h)
  ended_row row moves r is e = at_once row moves r is (sym (moves_told row r is) ∙ e)

  pub ended_answered : (o : Option Row) (moves : Bool) → responds x ≡ true → SaysAnswered x h o → moves_by o x ≡ moves
      → IsReached end_of (cond moves None (option_map (λ r. r.seen.clock) o)) w (length h)
  ended_answered None moves r s e = absurd (both_ways _ s r)
  ended_answered (Some row) moves r s e = ended_row row moves r s.1 e

  pub moves_with : (o : Option Row) → SaysAnswered x h o → MovesWith x (moves_by o x) h
  moves_with None s =
      record { orderly = g.before; timely = in_time g; moves_is = λ r. absurd (both_ways _ s r) }
  moves_with (Some row) s =
      record {
        orderly = g.before;
        timely = in_time g;
        moves_is = λ r. moves_told row r s.1
            ∙ sym (moves_new h x w (snooped_count h) one (snoops_to h) (below g r) r);
      }

  -- without one
  last_cases : (o p : Option ℕ) (moving : Option Row) → responds x ≡ false → transfer_of h ≡ o → transfer_of w ≡ p
      → (is_some o && is_none p) ≡ true → SaysMoving h moving
      → IsReached end_of (option_map (λ r. r.seen.clock) moving) w (length h)
  last_cases None p moving f e k t s = absurd (let no : ⊥ = cc in no)
  last_cases (Some c) (Some d) moving f e k t s = absurd (let no : ⊥ = cc in no)
  last_cases (Some c) None None f e k t s = absurd (let no : ⊥ = cc in no)
  last_cases (Some c) None (Some row) f e k t s =
      let same = response_count-kept h x w one f in
      let now : EndsTo w (s.0 + 1) =
      subst (EndsTo w) (same ∙ s.1 ∙ sym (add-one s.0)) (ends_to-still w g.after k) in
      let there = now.reached s.0 (omega arith) in
      let a = ended_snoop w s.0 there.0 g.after there.1 in
      ends_alone (ends_to-moving h c s.0 g.before e s.1) a.0 row now s.2 a.1

  pub ended_last : (moving : Option Row) → responds x ≡ false
      → (is_some (transfer_of h) && is_none (transfer_of w)) ≡ true → SaysMoving h moving
      → IsReached end_of (option_map (λ r. r.seen.clock) moving) w (length h)
  ended_last moving f t s = last_cases (transfer_of h) (transfer_of w) moving f refl refl t s

  none_cases : (o p : Option ℕ) → responds x ≡ false → transfer_of h ≡ o → transfer_of w ≡ p
      → (is_some o && is_none p) ≡ false → IsReached end_of None w (length h)
  none_cases None p f e k t =
      let now : transfer_of w ≡ None =
      transfer_of-kept h x w one g.before f ∙ ap (chunk_step (has_line x DRDY)) e ∙ no_chunk (has_line x DRDY) in
      none_ends (ends_to-still h g.before e)
      (subst (EndsTo w) (response_count-kept h x w one f) (ends_to-still w g.after now))
  none_cases (Some c) None f e k t = absurd (let no : ⊥ = cc in no)
  none_cases (Some c) (Some d) f e k t =
      let p = transfer_parts h c e in
      none_ends (ends_to-moving h c p.0 g.before e p.1)
      (ends_to-moving w d p.0 g.after k (response_count-kept h x w one f ∙ p.1))

  pub ended_none : responds x ≡ false → (is_some (transfer_of h) && is_none (transfer_of w)) ≡ false
      → IsReached end_of None w (length h)
  ended_none f t = none_cases (transfer_of h) (transfer_of w) f refl refl t
