-- Which rows are next: those of the requests that are snooped, respond and move data next.
use Rattle.std.proofs.Common.{ℕ, suc, ◌+◌, ◌-◌, ◌<◌, ◌≤◌, ◌≡◌, Bool, true, false, not, ◌&&◌, Option, Some, None, inl, inr}
use Rattle.std.proofs.Common.{is_none, is_some, length, refl, sym, ap, ◌∙◌, arith, subst}
use Rattle.std.specs.List.{find}
use Rattle.std.specs.Option.{option_map}
use Rattle.std.proofs.lemmas.Bool.{and_parts, cases_lt}
use Rattle.fsb_count.specs.Clocks.{count_where, first_where}
use Rattle.fsb_count.proofs.Interface.{first_where-found, first_where-none, is_none-none, nth_where-found, nth_where-there}
use Rattle.fsb_signal.specs.declared.lines.TheConstants.Lines.{ADS}
use Rattle.fsb_signal.specs.Samples.{line_at}
use Rattle.fsb_trace.specs.At.{Trace}
use Rattle.fsb_trace.specs.Requests.{is_cancelled, is_live, live_clock_of, live_number_of, seen_at}
use Rattle.fsb_trace.specs.Snoop.{snoop_end_of}
use Rattle.fsb_trace.specs.Outcome.{response_clock_of}
use Rattle.fsb_trace.specs.Response.{end_of}
use Rattle.fsb_trace.proofs.Interface.{end_of-response, live_clock_of-number, snoop_end_of-clock}
use Rattle.fsb_laws.specs.Orderly.{Orderly}
use Rattle.fsb_laws.specs.Progress.{response_count, transfer_of}
use Rattle.fsb_laws.proofs.Interface.{ends_to-moving, ends_to-still, has_answer, is_live-ads, response_counted}
use Rattle.fsb_laws.proofs.Interface.{response_there, snoop_end_of-above, transfer_parts}
use Rattle.fsb_heads.specs.Heads.{snooped_count}
use Rattle.fsb_heads.proofs.Interface.{snoops_to}
use Rattle.fsb_owner_table.specs.Kept.{is_row_closed, kept_below}
use Rattle.fsb_owner_table.specs.Rows.{reached, row_at, snoop_at}
use Rattle.fsb_owner_table.proofs.Reached.{reached-live, reached-parts}
use Rattle.fsb_owner_table.proofs.KeptRows.{clock_is}
use Rattle.fsb_owner_feed.specs.Table.{IsRowOf, SaysAsking, SaysMoving, SaysWaiting, is_row_asking, is_row_moving, is_row_waiting}
use Rattle.fsb_owner_feed.proofs.FoundRows.{find_rows, passes, stays_open}

none_by : (o : Option ℕ) → ((e : ℕ) → o ≡ Some e → ⊥) → o ≡ None
none_by None f = refl
none_by (Some e) f = absurd (f e refl)

some_of : (o : Option ℕ) → is_some o ≡ true → (t : ℕ) × (o ≡ Some t)
some_of None t = absurd (let no : ⊥ = cc in no)
some_of (Some e) t = (e, refl)

some_else : (o : Option ℕ) → is_none o ≡ false → (t : ℕ) × (o ≡ Some t)
some_else None t = absurd (let no : ⊥ = cc in no)
some_else (Some e) t = (e, refl)

pub row_of : (h : Trace) (i q : ℕ) → live_clock_of h i ≡ Some q → IsRowOf h i (row_at h q)
row_of h i q e =
    record { clock = e ∙ ap (λ k. Some k) (sym (clock_is h q)); is = ap (row_at h) (sym (clock_is h q)) }

-- what a row says of its snoop end
none_snooped : (h : Trace) (o : Option ℕ) (q : ℕ) → reached snoop_end_of h q ≡ o → is_none (snoop_at h q) ≡ is_none o
unfolding snoop_at
none_snooped h None q e = rw e refl
none_snooped h (Some t) q e = rw e refl

some_snooped : (h : Trace) (o : Option ℕ) (q : ℕ) → reached snoop_end_of h q ≡ o → is_some (snoop_at h q) ≡ is_some o
unfolding snoop_at
some_snooped h None q e = rw e refl
some_snooped h (Some t) q e = rw e refl

is_asking : (h : Trace) (q : ℕ)
    → is_row_asking (row_at h q) ≡ (not (is_cancelled h q) && is_none (reached snoop_end_of h q))
unfolding row_at seen_at
is_asking h q = ap (λ b. not (is_cancelled h q) && b) (none_snooped h (reached snoop_end_of h q) q refl)

is_waiting : (h : Trace) (q : ℕ)
    → is_row_waiting (row_at h q) ≡ (is_some (reached snoop_end_of h q) && is_none (reached response_clock_of h q))
unfolding row_at
is_waiting h q =
    ap (λ b. b && is_none (reached response_clock_of h q)) (some_snooped h (reached snoop_end_of h q) q refl)

is_moving : (h : Trace) (q : ℕ)
    → is_row_moving (row_at h q) ≡ (is_some (reached response_clock_of h q) && is_none (reached end_of h q))
unfolding row_at
is_moving h q = refl

off : (b : Bool) → not b ≡ true → b ≡ false
off true e = absurd (let no : ⊥ = cc in no)
off false e = refl

live_at : (h : Trace) (q : ℕ) → line_at ADS h q ≡ true → is_cancelled h q ≡ false → is_live h q ≡ true
unfolding is_live
live_at h q t f = rw (t, f) refl

alive : (h : Trace) (q : ℕ) → is_live h q ≡ true → is_cancelled h q ≡ false
unfolding is_live
alive h q t = off (is_cancelled h q) (and_parts (line_at ADS h q) (not (is_cancelled h q)) t).1

-- a request whose end is reached has its response and its snoop end
module _ (h : Trace) (orderly : Orderly h) (q : ℕ) where
  of_response : (r : ℕ) → reached response_clock_of h q ≡ Some r → (t : ℕ) × (reached snoop_end_of h q ≡ Some t)
  of_response r e =
      let p = reached-parts response_clock_of h q r e in
      let a = has_answer h r (live_number_of h q) (orderly.timely (live_number_of h q) r p.1) in
      (a.snoop, reached-live snoop_end_of h q p.0 ∙ a.is_snoop)

  of_end : (t : ℕ) → reached end_of h q ≡ Some t → (r : ℕ) × (reached response_clock_of h q ≡ Some r)
  of_end t e =
      let p = reached-parts end_of h q t e in
      let r = end_of-response h (live_number_of h q) t p.1 in
      (r.0, reached-live response_clock_of h q p.0 ∙ r.1)

  asking_open : is_row_asking (row_at h q) ≡ true → is_row_closed (row_at h q) (length h - 3) ≡ false
  asking_open =
      stays_open is_row_asking h q
      (λ t. off (is_cancelled h q) (and_parts (not (is_cancelled h q)) (is_none (reached snoop_end_of h q))
      (sym (is_asking h q) ∙ t)).0)
      (λ t. none_by (reached end_of h q) (λ e k.
      let none = is_none-none (reached snoop_end_of h q) (and_parts (not (is_cancelled h q)) (is_none (reached snoop_end_of h q)) (sym (is_asking h q) ∙ t)).1 in
      let r = of_end e k in
      let s = of_response r.0 r.1 in let there = s.1 in let no : ⊥ = cc in no))

  waiting_open : is_row_waiting (row_at h q) ≡ true → is_row_closed (row_at h q) (length h - 3) ≡ false
  waiting_open =
      stays_open is_row_waiting h q
      (λ t. let s = some_of (reached snoop_end_of h q) (and_parts (is_some (reached snoop_end_of h q)) (is_none (reached response_clock_of h q)) (sym (is_waiting h q) ∙ t)).0 in
      alive h q (reached-parts snoop_end_of h q s.0 s.1).0)
      (λ t. none_by (reached end_of h q) (λ e k.
      let none = is_none-none (reached response_clock_of h q) (and_parts (is_some (reached snoop_end_of h q)) (is_none (reached response_clock_of h q)) (sym (is_waiting h q) ∙ t)).1 in
      let r = of_end e k in let there = r.1 in let no : ⊥ = cc in no))

  moving_open : is_row_moving (row_at h q) ≡ true → is_row_closed (row_at h q) (length h - 3) ≡ false
  moving_open =
      stays_open is_row_moving h q
      (λ t. let s = some_of (reached response_clock_of h q) (and_parts (is_some (reached response_clock_of h q)) (is_none (reached end_of h q)) (sym (is_moving h q) ∙ t)).0 in
      alive h q (reached-parts response_clock_of h q s.0 s.1).0)
      (λ t. is_none-none (reached end_of h q) (and_parts (is_some (reached response_clock_of h q)) (is_none (reached end_of h q)) (sym (is_moving h q) ∙ t)).1)

-- a live request has number s where those with lesser numbers are others, and no live request before it has it
number_is : (h : Trace) (s q : ℕ) → (live_number_of h q < s → ⊥)
    → ((k : ℕ) → k < q → is_live h k ≡ true → live_number_of h k ≡ s → ⊥) → live_number_of h q ≡ s
unfolding live_number_of
number_is h s q low high =
    elim (cases_lt (count_where (is_live h) q) s) [
      | inl less ↦ absurd (low less)
      | inr more ↦
          elim (cases_lt s (count_where (is_live h) q)) [
            | inl above ↦
                let p = nth_where-there (is_live h) s q above in
                let f = nth_where-found (is_live h) s q p.0 p.1 in absurd (high p.0 f.0 f.1 f.2)
            | inr same ↦ omega (arith, more, same)
          ]
    ]

pub numbered : (h : Trace) (i q : ℕ) → live_clock_of h i ≡ Some q
    → (q < length h) × (is_live h q ≡ true) × (live_number_of h q ≡ i)
unfolding live_clock_of live_number_of
numbered h i q e = nth_where-found (is_live h) i (length h) q e

module _ (h : Trace) (orderly : Orderly h) where
  -- the request that is snooped next
  asks_for : (q : ℕ) → passes is_row_asking h q ≡ true
      → (is_live h q ≡ true) × (snoop_end_of h (live_number_of h q) ≡ None)
  asks_for q t =
      let p = and_parts (line_at ADS h q) (is_row_asking (row_at h q)) t in
      let k = and_parts (not (is_cancelled h q)) (is_none (reached snoop_end_of h q)) (sym (is_asking h q) ∙ p.1) in
      let live : is_live h q ≡ true = live_at h q p.0 (off (is_cancelled h q) k.0) in
      (live, sym (reached-live snoop_end_of h q live) ∙ is_none-none (reached snoop_end_of h q) k.1)

  asks_not : (q : ℕ) → passes is_row_asking h q ≡ false → is_live h q ≡ true
      → (t : ℕ) × (snoop_end_of h (live_number_of h q) ≡ Some t)
  asks_not q f live =
      let none : is_row_asking (row_at h q) ≡ false = (rw (is_live-ads h q live) at f) in
      let k : (not (is_cancelled h q) && is_none (reached snoop_end_of h q)) ≡ false = sym (is_asking h q) ∙ none in
      let there = some_else (reached snoop_end_of h q) (rw (alive h q live) at k) in
      (there.0, sym (reached-live snoop_end_of h q live) ∙ there.1)

  first_asking : (o : Option ℕ) → first_where (passes is_row_asking h) (length h - 1) ≡ o
      → SaysAsking h (option_map (row_at h) o)
  first_asking None e = λ q k.
      let p = numbered h (snooped_count h) q k in
      elim (cases_lt (q + 1) (length h)) [
        | inl less ↦
            let t = asks_not q (first_where-none _ (length h - 1) e q (omega (arith, less))) p.1 in
            let there : snoop_end_of h (snooped_count h) ≡ Some t.0 = ap (snoop_end_of h) (sym p.2) ∙ t.1 in
            let none = (snoops_to h).next in absurd (let no : ⊥ = cc in no)
        | inr more ↦ more
      ]
  first_asking (Some q) e =
      let p = first_where-found _ (length h - 1) q e in
      let a = asks_for q p.1 in
      let low : live_number_of h q < snooped_count h → ⊥ = λ l.
      let t = (snoops_to h).reached (live_number_of h q) l in let there = t.1 in let none = a.1 in let no : ⊥ = cc in no in
      let number = number_is h (snooped_count h) q low
      (λ k l live same.
      let t = asks_not k (p.2 k l) live in
      let there : snoop_end_of h (snooped_count h) ≡ Some t.0 = ap (snoop_end_of h) (sym same) ∙ t.1 in
      let none = (snoops_to h).next in let no : ⊥ = cc in no) in
      row_of h (snooped_count h) q
      (ap (live_clock_of h) (sym number) ∙ live_clock_of-number h q (omega (arith, p.0)) a.0)

  pub says_asking : SaysAsking h (find is_row_asking (kept_below h (length h - 1)))
  says_asking =
      subst (SaysAsking h) (sym (find_rows is_row_asking h (asking_open h orderly) (length h - 1)))
      (first_asking (first_where (passes is_row_asking h) (length h - 1)) refl)

  -- the request that responds next
  waits_for : (q : ℕ) → passes is_row_waiting h q ≡ true → (is_live h q ≡ true)
      × ((t : ℕ) × (snoop_end_of h (live_number_of h q) ≡ Some t)) × (response_clock_of h (live_number_of h q) ≡ None)
  waits_for q t =
      let k = and_parts (is_some (reached snoop_end_of h q)) (is_none (reached response_clock_of h q))
      (sym (is_waiting h q) ∙ (and_parts (line_at ADS h q) (is_row_waiting (row_at h q)) t).1) in
      let s = some_of (reached snoop_end_of h q) k.0 in
      let p = reached-parts snoop_end_of h q s.0 s.1 in (
        p.0,
        (s.0, p.1),
        sym (reached-live response_clock_of h q p.0) ∙ is_none-none (reached response_clock_of h q) k.1,
      )

  waits_not : (q s : ℕ) → passes is_row_waiting h q ≡ false → is_live h q ≡ true
      → snoop_end_of h (live_number_of h q) ≡ Some s → (t : ℕ) × (response_clock_of h (live_number_of h q) ≡ Some t)
  waits_not q s f live e =
      let none : is_row_waiting (row_at h q) ≡ false = (rw (is_live-ads h q live) at f) in
      let k : (is_some (reached snoop_end_of h q) && is_none (reached response_clock_of h q)) ≡ false =
      sym (is_waiting h q) ∙ none in
      let there = some_else (reached response_clock_of h q) (rw (reached-live snoop_end_of h q live, e) at k) in
      (there.0, sym (reached-live response_clock_of h q live) ∙ there.1)

  snooped_below : (i t : ℕ) → snoop_end_of h i ≡ Some t → i < snooped_count h
  snooped_below i t e =
      elim (cases_lt i (snooped_count h)) [
        | inl l ↦ l
        | inr m ↦
            let none = snoop_end_of-above h (snooped_count h) i (snoops_to h) m in absurd (let no : ⊥ = cc in no)
      ]

  first_waiting : (o : Option ℕ) → first_where (passes is_row_waiting h) (length h - 1) ≡ o
      → SaysWaiting h (option_map (row_at h) o)
  first_waiting None e =
      none_by (snoop_end_of h (response_count h)) (λ s k.
      let c = snoop_end_of-clock h (response_count h) s k in
      let p = numbered h (response_count h) c.clock c.is_clock in
      let less : c.clock < length h - 1 = omega (arith, c.above, c.within) in
      let t = waits_not c.clock s (first_where-none _ (length h - 1) e c.clock less) p.1
      (ap (snoop_end_of h) p.2 ∙ k) in
      let l = response_counted h (live_number_of h c.clock) t.0 t.1 in
      let same = p.2 in absurd (omega (arith, l, same)))
  first_waiting (Some q) e =
      let p = first_where-found _ (length h - 1) q e in
      let a = waits_for q p.1 in
      let low : live_number_of h q < response_count h → ⊥ = λ l.
      let t = response_there h (live_number_of h q) l in let there = t.1 in let none = a.2 in let no : ⊥ = cc in no in
      let number = number_is h (response_count h) q low
      (λ k l live same.
      let above : response_count h ≤ live_number_of h q =
      elim (cases_lt (live_number_of h q) (response_count h)) [ inl m ↦ absurd (low m) | inr m ↦ m ] in
      let s = a.1 in
      let within : live_number_of h k < snooped_count h =
      omega (arith, same, above, snooped_below (live_number_of h q) s.0 s.1) in
      let s = (snoops_to h).reached (live_number_of h k) within in
      let t = waits_not k s.0 (p.2 k l) live s.1 in
      let counted = response_counted h (live_number_of h k) t.0 t.1 in omega (arith, counted, same)) in
      row_of h (response_count h) q
      (ap (live_clock_of h) (sym number) ∙ live_clock_of-number h q (omega (arith, p.0)) a.0)

  pub says_waiting : SaysWaiting h (find is_row_waiting (kept_below h (length h - 1)))
  says_waiting =
      subst (SaysWaiting h) (sym (find_rows is_row_waiting h (waiting_open h orderly) (length h - 1)))
      (first_waiting (first_where (passes is_row_waiting h) (length h - 1)) refl)

  -- the request whose data are on the way
  moves_for : (q : ℕ) → passes is_row_moving h q ≡ true → (is_live h q ≡ true)
      × ((r : ℕ) × (response_clock_of h (live_number_of h q) ≡ Some r)) × (end_of h (live_number_of h q) ≡ None)
  moves_for q t =
      let k = and_parts (is_some (reached response_clock_of h q)) (is_none (reached end_of h q))
      (sym (is_moving h q) ∙ (and_parts (line_at ADS h q) (is_row_moving (row_at h q)) t).1) in
      let s = some_of (reached response_clock_of h q) k.0 in
      let p = reached-parts response_clock_of h q s.0 s.1 in
      (p.0, (s.0, p.1), sym (reached-live end_of h q p.0) ∙ is_none-none (reached end_of h q) k.1)

  moves_not : (q s : ℕ) → passes is_row_moving h q ≡ false → is_live h q ≡ true
      → response_clock_of h (live_number_of h q) ≡ Some s → (t : ℕ) × (end_of h (live_number_of h q) ≡ Some t)
  moves_not q s f live e =
      let none : is_row_moving (row_at h q) ≡ false = (rw (is_live-ads h q live) at f) in
      let k : (is_some (reached response_clock_of h q) && is_none (reached end_of h q)) ≡ false =
      sym (is_moving h q) ∙ none in
      let there = some_else (reached end_of h q) (rw (reached-live response_clock_of h q live, e) at k) in
      (there.0, sym (reached-live end_of h q live) ∙ there.1)

  -- of those that responded the last alone may have no end
  last_open : (i r : ℕ) (o : Option ℕ) → transfer_of h ≡ o → response_clock_of h i ≡ Some r → end_of h i ≡ None
      → response_count h ≡ suc i
  last_open i r None e f none =
      let t = (ends_to-still h orderly e).reached i (response_counted h i r f) in
      let there = t.1 in absurd (let no : ⊥ = cc in no)
  last_open i r (Some k) e f none =
      let p = transfer_parts h k e in
      let counted = response_counted h i r f in
      elim (cases_lt i p.0) [
        | inl less ↦
            let t = (ends_to-moving h k p.0 orderly e p.1).reached i less in
            let there = t.1 in absurd (let no : ⊥ = cc in no)
        | inr more ↦ omega (arith, more, counted, p.1)
      ]

  first_moving : (o : Option ℕ) → first_where (passes is_row_moving h) (length h - 1) ≡ o
      → SaysMoving h (option_map (row_at h) o)
  first_moving None e =
      none_by (transfer_of h) (λ k f.
      let p = transfer_parts h k f in
      let r = response_there h p.0 (omega (arith, p.1)) in
      let a = has_answer h r.0 p.0 (orderly.timely p.0 r.0 r.1) in
      let c = snoop_end_of-clock h p.0 a.snoop a.is_snoop in
      let n = numbered h p.0 c.clock c.is_clock in
      let less : c.clock < length h - 1 = omega (arith, c.above, c.within) in
      let t = moves_not c.clock r.0 (first_where-none _ (length h - 1) e c.clock less) n.1
      (ap (response_clock_of h) n.2 ∙ r.1) in
      let none : end_of h p.0 ≡ None = (ends_to-moving h k p.0 orderly f p.1).above p.0 (omega arith) in
      let there : end_of h p.0 ≡ Some t.0 = ap (end_of h) (sym n.2) ∙ t.1 in let no : ⊥ = cc in no)
  first_moving (Some q) e =
      let p = first_where-found _ (length h - 1) q e in
      let a = moves_for q p.1 in
      let r = a.1 in (
        live_number_of h q,
        last_open (live_number_of h q) r.0 (transfer_of h) refl r.1 a.2,
        row_of h (live_number_of h q) q (live_clock_of-number h q (omega (arith, p.0)) a.0),
      )

  pub says_moving : SaysMoving h (find is_row_moving (kept_below h (length h - 1)))
  says_moving =
      subst (SaysMoving h) (sym (find_rows is_row_moving h (moving_open h orderly) (length h - 1)))
      (first_moving (first_where (passes is_row_moving h) (length h - 1)) refl)
