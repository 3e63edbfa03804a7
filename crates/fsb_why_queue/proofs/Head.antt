-- The live request that is snooped next, one sample on.
use Rattle.std.proofs.Common.{ℕ, zero, suc, ◌+◌, ◌-◌, ◌<◌, ◌≤◌, ◌≡◌, Bool, true, false, cond, ◌&&◌, not, Option, Some, None}
use Rattle.std.proofs.Common.{[], ◌∷◌, ◌++◌, length, refl, sym, ap, subst, ◌∙◌, arith, inl, inr, nat_eq, nat_le, is_some}
use Rattle.std.specs.Option.{option_map}
use Rattle.std.proofs.lemmas.Bool.{and_from, and_right, both_ways, cases_lt, false_from_ne_true, le-leb, ne_eqb}
use Rattle.fsb_count.proofs.Interface.{count_where-above, nth_where-found, nth_where-there}
use Rattle.fsb_signal.specs.declared.lines.TheConstants.Lines.{ADS, DEFER, HITM, TRDY}
use Rattle.fsb_signal.specs.declared.sample.Sample.{Sample}
use Rattle.fsb_signal.specs.Samples.{has_line, line_at}
use Rattle.fsb_trace.specs.At.{Trace, line_back, request_at}
use Rattle.fsb_trace.specs.Requests.{is_live, live_clock_of, live_count, live_number_of, live_request_of, seen_at}
use Rattle.fsb_trace.specs.Snoop.{line_at_snoop_end, snoop_end_of}
use Rattle.fsb_trace.specs.Response.{end_of, ready_clock_of}
use Rattle.fsb_trace.specs.Rules.{next_response}
use Rattle.fsb_trace.proofs.Interface.{live_request_of-stays, line_at_snoop_end-stays, snoop_end_of-clock, snoop_end_of-stays}
use Rattle.fsb_laws.specs.OneMore.{OneMore, cancels}
use Rattle.fsb_laws.specs.Orderly.{Orderly, Spaced}
use Rattle.fsb_laws.specs.Progress.{SnoopsTo, ends_snoop_of, may_answer_next, response_count}
use Rattle.fsb_laws.proofs.Interface.{has_answer, is_cancelled-late, is_live-ads, is_live-more, line_at-new, live_clock_of-less}
use Rattle.fsb_laws.proofs.Interface.{live_clock_of-more, live_clock_of-new, one_more, response_there, snoop_end_of-above}
use Rattle.fsb_laws.proofs.Interface.{snoop_end_of-more}
use Rattle.fsb_heads.specs.Heads.{snooped_count}
use Rattle.fsb_heads.proofs.Interface.{snoops_to}
use Rattle.fsb_laws.proofs.Interface.{next_response-new, ready_clock_of-next, ready_clock_of-old, request_at-last, request_at-old}
use Rattle.fsb_heads.specs.Heads.{value_before}
use Rattle.fsb_owner_table.specs.declared.row.Row.{Row}
use Rattle.fsb_owner_table.specs.Rows.{reached, row_at, snoop_at, snooped_by}
use Rattle.fsb_owner_table.specs.declared.row.Snooped.{Snooped}
use Rattle.fsb_owner_table.proofs.Reached.{reached-live}
use Rattle.fsb_owner_table.proofs.RowGoes.{request_of}
use Rattle.fsb_owner_feed.specs.declared.begins.FirstClock.{FirstClock}
use Rattle.fsb_owner_feed.specs.Begins.{IsLast, decoded_by}
use Rattle.fsb_owner_feed.proofs.Beginning.{seen_new}
use Rattle.fsb_encode.specs.declared.request.Request.{Request}
use Rattle.fsb_signal.specs.declared.lines.Lines.{Lines}
use Rattle.fsb_count.specs.Options.{is_some_and}
use Rattle.fsb_owner_feed.specs.Table.{IsRowOf}
use Rattle.fsb_owner_feed.proofs.NextRows.{numbered}
use Rattle.fsb_why_queue.specs.declared.next.Next.{Next}
use Rattle.fsb_why_queue.specs.Next.{IsNext, SaysAsked}
use Rattle.fsb_reasons.proofs.Interface.{back_from, back_parts}

-- the live requests with their snoop end lie below the last clocks
number_low : (h : Trace) (x : Sample) (v : Trace) (s n : ℕ) → OneMore h x v → SnoopsTo h s → length h ≤ n + 1
    → s ≤ live_number_of v n
unfolding live_clock_of live_number_of
number_low h x v zero n m to l = omega arith
number_low h x v (suc i) n m to l =
    let p = to.reached i (omega arith) in
    let c = snoop_end_of-clock v i p.0 (snoop_end_of-stays (length h) h v i p.0 m.agree p.2 p.1) in
    let f = nth_where-found (is_live v) i (length v) c.clock c.is_clock in
    let more = count_where-above (is_live v) c.clock n (omega (arith, c.above, p.2, l)) f.1 in
    omega (arith, more, f.2)

-- a live request at q is the one of number s or a later one
live_at : (v : Trace) (s q : ℕ) → q < length v → is_live v q ≡ true → s ≤ live_number_of v q
    → (c : ℕ) × (live_clock_of v s ≡ Some c) × (c ≤ q)
unfolding live_clock_of live_number_of
live_at v s q l t low =
    let more = count_where-above (is_live v) q (length v) l t in
    let there = nth_where-there (is_live v) s (length v) (omega (arith, more, low)) in
    let f = nth_where-found (is_live v) s (length v) there.0 there.1 in
    elim (cases_lt q there.0) [
      | inr near ↦ (there.0, there.1, near)
      | inl far ↦
          let past = count_where-above (is_live v) q there.0 far t in absurd (omega (arith, past, f.2, low))
    ]

clock_parts : (v : Trace) (s c : ℕ) → live_clock_of v s ≡ Some c → (c < length v) × (is_live v c ≡ true)
unfolding live_clock_of
clock_parts v s c e = let f = nth_where-found (is_live v) s (length v) c e in (f.0, f.1)

module _ (h : Trace) (x : Sample) (o : Spaced h) where
  abbrev v : Trace
  v = h ++ x ∷ []

  m : OneMore h x (h ++ x ∷ [])
  m = one_more h x

  -- where none of before the new clock is next, it is the one that begins there
  new_cases : (s : ℕ) (b : Bool) (r : Option ℕ) → SnoopsTo h s → has_line x ADS ≡ b → live_clock_of v s ≡ r
      → ((c : ℕ) → live_clock_of v s ≡ Some c → c < length h → ⊥) → live_clock_of v s ≡ cond b (Some (length h)) None
  new_cases s true r to t e none =
      let new = live_clock_of-new h x v m t in
      let p = clock_parts v (live_number_of v (length h)) (length h) new in
      let k = live_at v s (length h) p.0 p.1 (number_low h x v s (length h) m to (omega arith)) in
      elim (cases_lt k.0 (length h)) [
        | inl old ↦ absurd (none k.0 k.1 old)
        | inr now ↦ let same : k.0 ≡ length h = omega (arith, now, k.2) in k.1 ∙ ap (λ c. Some c) same
      ]
  new_cases s false None to t e none = e
  new_cases s false (Some c) to t e none =
      let p = clock_parts v s c e in
      elim (cases_lt c (length h)) [
        | inl old ↦ absurd (none c e old)
        | inr now ↦
            let same : c ≡ length h = omega (arith, now, p.0, m.size) in
            let ads : line_at ADS v (length h) ≡ true = subst (λ k. line_at ADS v k ≡ true) same (is_live-ads v c p.1) in
            absurd (both_ways _ t (sym (line_at-new ADS h x v m) ∙ ads))
      ]

  new_head : ((c : ℕ) → live_clock_of v (snooped_count h) ≡ Some c → c < length h → ⊥)
      → live_clock_of v (snooped_count h) ≡ cond (has_line x ADS) (Some (length h)) None
  new_head none = new_cases (snooped_count h) (has_line x ADS) _ (snoops_to h) refl refl none

  old_clock : (s c : ℕ) → live_clock_of v s ≡ Some c → c < length h → live_clock_of h s ≡ Some c
  old_clock s c e l = live_clock_of-less h x v s c m o l e

  -- the next one is cancelled
  pub head-cancelled : (q : ℕ) → live_clock_of h (snooped_count h) ≡ Some q → cancels x (length h) q ≡ true
      → cond (has_line x ADS) (Some (length h)) None ≡ live_clock_of v (snooped_count h)
  head-cancelled q e t =
      sym (new_head (λ c f l.
      let old = old_clock (snooped_count h) c f l in
      let same : c ≡ q = cc in
      let live : is_live v q ≡ true = subst (λ k. is_live v k ≡ true) same (clock_parts v (snooped_count h) c f).1 in
      let below : q < length h = subst (λ k. k < length h) same l in
      let dead : is_live v q ≡ false = is_live-more h x v q m below ∙ and_right _ _ (ap not t) in
      both_ways _ dead live))

  -- or goes on
  pub head-kept : (q : ℕ) → live_clock_of h (snooped_count h) ≡ Some q → cancels x (length h) q ≡ false
      → Some q ≡ live_clock_of v (snooped_count h)
  head-kept q e f = sym (live_clock_of-more h x v (snooped_count h) q m o e f)

  -- or there is none that is decoded
  module _ (none : (q : ℕ) → live_clock_of h (snooped_count h) ≡ Some q → length h ≤ q + 1) where
    pub head-new : line_back ADS h (length h) 1 ≡ false
        → cond (has_line x ADS) (Some (length h)) None ≡ live_clock_of v (snooped_count h)
    head-new f =
        sym (new_head (λ c e l.
        let old = old_clock (snooped_count h) c e l in
        let near = none c old in
        let ads = is_live-ads h c (clock_parts h (snooped_count h) c old).1 in
        let same : c + 1 ≡ length h = omega (arith, near, l) in
        both_ways _ f (back_from ADS h (length h) 1 c same ads)))

    pub head-begun : line_back ADS h (length h) 1 ≡ true → Some (length h - 1) ≡ live_clock_of v (snooped_count h)
    unfolding is_live cancels
    head-begun t =
        let p = back_parts ADS h (length h) 1 t in
        let q : ℕ = length h - 1 in
        let next : q + 1 ≡ length h = omega (arith, p.0) in
        let below : q < length h = omega (arith, next) in
        let alive : is_live h q ≡ true = and_from _ _ p.1 (ap not (is_cancelled-late h q (omega (arith, next)))) in
        let apart : nat_eq (q + 3) (length h) ≡ false = ne_eqb (q + 3) (length h) (λ e. omega (arith, next, e)) in
        let live : is_live v q ≡ true =
        is_live-more h x v q m below ∙ and_from _ _ alive (ap not (and_right _ _ apart)) in
        let k = live_at v (snooped_count h) q (omega (arith, below, m.size)) live
        (number_low h x v (snooped_count h) q m (snoops_to h) (omega (arith, next))) in
        let near = none k.0 (old_clock (snooped_count h) k.0 k.1 (omega (arith, k.2, below))) in
        let same : k.0 ≡ q = omega (arith, near, k.2, next) in
        sym (k.1 ∙ ap (λ c. Some c) same)

    -- and its snoop does not end
    pub head-unended : ends_snoop_of h (snooped_count h) x ≡ false
    head-unended =
        false_from_ne_true (ends_snoop_of h (snooped_count h) x) (λ t.
        let now : snoop_end_of v (snooped_count h) ≡ Some (length h) =
        snoop_end_of-more h x v (snooped_count h) m o (snoops_to h) ∙ ap (λ b. cond b (Some (length h)) None) t in
        let c = snoop_end_of-clock v (snooped_count h) (length h) now in
        let near = none c.clock (old_clock (snooped_count h) c.clock c.is_clock (omega (arith, c.above))) in
        omega (arith, c.above, near))

  pub head-snoop : (b : Bool) → ends_snoop_of h (snooped_count h) x ≡ b
      → cond b (Some (length h)) None ≡ snoop_end_of v (snooped_count h)
  head-snoop b e =
      ap (λ t. cond t (Some (length h)) None) (sym e)
      ∙ sym (snoop_end_of-more h x v (snooped_count h) m o (snoops_to h))

-- where the next to respond has no snoop end it is the one that is snooped next
answered_snooped : (h : Trace) (n : ℕ) → Orderly h → response_count h ≡ n → n ≤ snooped_count h
answered_snooped h zero o e = omega arith
answered_snooped h (suc i) o e =
    let r = response_there h i (omega (arith, e)) in
    let a = has_answer h r.0 i (o.timely i r.0 r.1) in
    elim (cases_lt i (snooped_count h)) [
      | inl l ↦ omega (arith, l)
      | inr l ↦
          let none = snoop_end_of-above h (snooped_count h) i (snoops_to h) l in
          let some = a.is_snoop in absurd (let no : ⊥ = cc in no)
    ]

pub same_head : (h : Trace) → Orderly h → snoop_end_of h (response_count h) ≡ None → snooped_count h ≡ response_count h
same_head h o none =
    let low = answered_snooped h (response_count h) o refl in
    elim (cases_lt (response_count h) (snooped_count h)) [
      | inr l ↦ omega (arith, l, low)
      | inl l ↦
          let p = (snoops_to h).reached (response_count h) l in
          let there = p.1 in absurd (let no : ⊥ = cc in no)
    ]

-- what is known of the request that responds next, by its number
pub next_is : (h : Trace) (x : Sample) (n : ℕ) (next : Next) → n ≡ length h → next.request.number ≡ response_count h
    → live_clock_of (h ++ x ∷ []) (response_count h) ≡ Some next.request.clock
    → next.snoop ≡ snoop_end_of (h ++ x ∷ []) (response_count h)
    → next.ended ≡ value_before (end_of (h ++ x ∷ [])) (response_count h)
    → next.decoded ≡ live_request_of (h ++ x ∷ []) (response_count h)
    → next.handed ≡ line_at_snoop_end HITM (h ++ x ∷ []) (response_count h)
    → next.defer ≡ line_at_snoop_end DEFER (h ++ x ∷ []) (response_count h)
    → next.ready ≡ ready_clock_of (h ++ x ∷ []) (response_count h) → IsNext next (h ++ x ∷ []) n
next_is h x n next e a q s d r hitm defer ready = record {
  number = a ∙ sym (ap (next_response (h ++ x ∷ [])) e ∙ next_response-new h x (h ++ x ∷ []) (one_more h x));
  clock = ap (live_clock_of (h ++ x ∷ [])) a ∙ q;
  snoop = s ∙ sym (ap (snoop_end_of (h ++ x ∷ [])) a);
  ended = d ∙ sym (ap (value_before (end_of (h ++ x ∷ []))) a);
  decoded = r ∙ sym (ap (live_request_of (h ++ x ∷ [])) a);
  handed = hitm ∙ sym (ap (line_at_snoop_end HITM (h ++ x ∷ [])) a);
  defer = defer ∙ sym (ap (line_at_snoop_end DEFER (h ++ x ∷ [])) a);
  ready = ready ∙ sym (ap (ready_clock_of (h ++ x ∷ [])) a);
}

pub none_left : (v : Trace) (i : ℕ) → live_clock_of v i ≡ None → live_count v ≤ i
unfolding live_clock_of live_count
none_left v i e =
    elim (cases_lt i (live_count v)) [
      | inr l ↦ l
      | inl l ↦ let p = nth_where-there (is_live v) i (length v) l in let some = p.1 in absurd (let no : ⊥ = cc in no)
    ]

pub none_next : (h : Trace) (x : Sample) (n : ℕ) → n ≡ length h → live_clock_of (h ++ x ∷ []) (response_count h) ≡ None
    → live_count (h ++ x ∷ []) ≤ next_response (h ++ x ∷ []) n
none_next h x n e q =
    subst (λ i. live_count (h ++ x ∷ []) ≤ i)
    (sym (ap (next_response (h ++ x ∷ [])) e ∙ next_response-new h x (h ++ x ∷ []) (one_more h x)))
    (none_left (h ++ x ∷ []) (response_count h) q)

-- the snoop end of a request, by its row
snoop_field : (h : Trace) (q : ℕ) → (row_at h q).snoop ≡ option_map (snooped_by h) (reached snoop_end_of h q)
unfolding row_at snoop_at
snoop_field h q = refl

pub row_snoop : (h : Trace) (i : ℕ) (row : Row) → IsRowOf h i row → row.snoop ≡ option_map (snooped_by h) (snoop_end_of h i)
row_snoop h i row r =
    let k = numbered h i row.seen.clock r.clock in
    ap (λ w. w.snoop) r.is ∙ snoop_field h row.seen.clock
    ∙ ap (option_map (snooped_by h)) (reached-live snoop_end_of h row.seen.clock k.1 ∙ ap (snoop_end_of h) k.2)

pub snooped_parts : (h : Trace) (s : Snooped) (o : Option ℕ) → Some s ≡ option_map (snooped_by h) o
    → o ≡ Some s.clock
unfolding snooped_by
snooped_parts h s None e = absurd (let no : ⊥ = cc in no)
snooped_parts h s (Some t) e = let same : s ≡ snooped_by h t = cc in rw same refl

pub unsnooped : (h : Trace) (o : Option ℕ) → None ≡ option_map (snooped_by h) o → o ≡ None
unsnooped h None e = refl
unsnooped h (Some t) e = absurd (let no : ⊥ = cc in no)

pub snoop_stays : (h : Trace) (x : Sample) (i t : ℕ) → snoop_end_of h i ≡ Some t → snoop_end_of (h ++ x ∷ []) i ≡ Some t
snoop_stays h x i t e =
    let m = one_more h x in
    let c = snoop_end_of-clock h i t e in
    snoop_end_of-stays (length h) h (h ++ x ∷ []) i t m.agree c.within e

pub clock_stays : (h : Trace) (x : Sample) (i t q : ℕ) → Spaced h → live_clock_of h i ≡ Some q → snoop_end_of h i ≡ Some t
    → live_clock_of (h ++ x ∷ []) i ≡ Some q
clock_stays h x i t q o e f =
    let m = one_more h x in
    let within = (snoop_end_of-clock h i t f).within in
    let c = snoop_end_of-clock (h ++ x ∷ []) i t (snoop_stays h x i t f) in
    let old = live_clock_of-less h x (h ++ x ∷ []) i c.clock m o (omega (arith, c.above, within)) c.is_clock in
    let same : c.clock ≡ q = cc in c.is_clock ∙ ap (λ k. Some k) same

-- the lines at its snoop end, and what is decoded of it
lines-cases : (h : Trace) (s : Snooped) (o : Option ℕ) → Some s ≡ option_map (snooped_by h) o
    → (s.hitm ≡ is_some_and o (line_at HITM h)) × (s.defer ≡ is_some_and o (line_at DEFER h))
unfolding snooped_by is_some_and
lines-cases h s None e = absurd (let no : ⊥ = cc in no)
lines-cases h s (Some t) e = let same : s ≡ snooped_by h t = cc in (rw same refl, rw same refl)

pub snooped_lines : (h : Trace) (x : Sample) (i : ℕ) (s : Snooped) → Some s ≡ option_map (snooped_by h) (snoop_end_of h i)
    → (s.hitm ≡ line_at_snoop_end HITM (h ++ x ∷ []) i) × (s.defer ≡ line_at_snoop_end DEFER (h ++ x ∷ []) i)
unfolding line_at_snoop_end
snooped_lines h x i s e =
    let m = one_more h x in
    let t = snooped_parts h s (snoop_end_of h i) e in
    let l = (snoop_end_of-clock h i s.clock t).within in
    let p = lines-cases h s (snoop_end_of h i) e in (
      p.0 ∙ line_at_snoop_end-stays HITM (length h) h (h ++ x ∷ []) i s.clock m.agree l t,
      p.1 ∙ line_at_snoop_end-stays DEFER (length h) h (h ++ x ∷ []) i s.clock m.agree l t,
    )

row_request : (h : Trace) (row : Row) → row ≡ row_at h row.seen.clock → row.seen.request ≡ request_at h row.seen.clock
unfolding row_at seen_at
row_request h row e = ap (λ w. w.seen.request) e

pub request_stays : (h : Trace) (x : Sample) (i t : ℕ) (row : Row) → IsRowOf h i row → snoop_end_of h i ≡ Some t
    → row.seen.request ≡ live_request_of (h ++ x ∷ []) i
request_stays h x i t row r e =
    let m = one_more h x in
    let l = (snoop_end_of-clock h i t e).within in
    row_request h row r.is ∙ sym (request_of h i row.seen.clock r.clock)
    ∙ live_request_of-stays (length h) h (h ++ x ∷ []) i t m.agree l e

pub request_kept : (h : Trace) (x : Sample) (i : ℕ) (row : Row) → IsRowOf h i row → row.seen.clock + 1 < length h
    → live_clock_of (h ++ x ∷ []) i ≡ Some row.seen.clock → row.seen.request ≡ live_request_of (h ++ x ∷ []) i
request_kept h x i row r l e =
    row_request h row r.is ∙ sym (request_at-old h x (h ++ x ∷ []) row.seen.clock (one_more h x) l)
    ∙ sym (request_of (h ++ x ∷ []) i row.seen.clock e)

-- a request in its first clock is not decoded
asked-cases : (h : Trace) (x : Sample) (i : ℕ) (b : Bool)
    → cond b (Some (length h)) None ≡ live_clock_of (h ++ x ∷ []) i
    → SaysAsked (h ++ x ∷ []) i (cond b (Some (record { clock = length h; request = None })) None)
asked-cases h x i true e =
    let m = one_more h x in (
      sym e,
      sym (request_of (h ++ x ∷ []) i (length h) (sym e)
          ∙ request_at-last (h ++ x ∷ []) (length h) (omega (arith, m.size))),
    )
asked-cases h x i false e = sym e

pub asked-now : (h : Trace) (x : Sample) (i n : ℕ) → n ≡ length h
    → cond (has_line x ADS) (Some (length h)) None ≡ live_clock_of (h ++ x ∷ []) i
    → SaysAsked (h ++ x ∷ []) i (cond (has_line x ADS) (Some (record { clock = n; request = None })) None)
asked-now h x i n e f = rw e (asked-cases h x i (has_line x ADS) f)

pub begun_request : (h : Trace) (x : Sample) (q : ℕ) (begins : FirstClock) → IsLast begins q h
    → decoded_by begins.first x ≡ request_at (h ++ x ∷ []) q
unfolding seen_at
begun_request h x q begins l = ap (λ s. s.request) (seen_new x l)

pub asked-begun : (h : Trace) (x : Sample) (i q n : ℕ) (request : Option Request) (begins : FirstClock) → IsLast begins q h
    → n ≡ q → request ≡ decoded_by begins.first x → Some q ≡ live_clock_of (h ++ x ∷ []) i
    → SaysAsked (h ++ x ∷ []) i (Some (record { clock = n; request = request }))
asked-begun h x i q n request begins l e f g = (
  sym (ap (λ k. Some k) e ∙ g),
  f ∙ begun_request h x q begins l ∙ sym (request_of (h ++ x ∷ []) i q (sym g)),
)

-- a line at the snoop end of the next one to be snooped
then-cases : (line : Lines) (h : Trace) (x : Sample) (b : Bool) → (is_some (cond b (Some (length h)) None) && has_line x line)
    ≡ is_some_and (cond b (Some (length h)) None) (line_at line (h ++ x ∷ []))
unfolding is_some_and
then-cases line h x true = sym (line_at-new line h x (h ++ x ∷ []) (one_more h x))
then-cases line h x false = refl

pub line_then : (line : Lines) (h : Trace) (x : Sample) (o : Option ℕ) → Spaced h
    → o ≡ snoop_end_of (h ++ x ∷ []) (snooped_count h)
    → (is_some o && has_line x line) ≡ line_at_snoop_end line (h ++ x ∷ []) (snooped_count h)
unfolding line_at_snoop_end
line_then line h x o sp e =
    let now = snoop_end_of-more h x (h ++ x ∷ []) (snooped_count h) (one_more h x) sp (snoops_to h) in
    ap (λ k. is_some k && has_line x line) (e ∙ now)
    ∙ then-cases line h x (ends_snoop_of h (snooped_count h) x)
    ∙ sym (ap (λ k. is_some_and k (line_at line (h ++ x ∷ []))) now)

-- the ready clock
pub ready-old : (h : Trace) (x : Sample) (y : ℕ) → ready_clock_of h (response_count h) ≡ Some y
    → Some y ≡ ready_clock_of (h ++ x ∷ []) (response_count h)
ready-old h x y e = sym (ready_clock_of-old h x (h ++ x ∷ []) (response_count h) y (one_more h x) e)

pub ready-new : (h : Trace) (x : Sample) (b : Bool) → Orderly h → ready_clock_of h (response_count h) ≡ None
    → (has_line x TRDY && may_answer_next h) ≡ b
    → cond b (Some (length h)) None ≡ ready_clock_of (h ++ x ∷ []) (response_count h)
ready-new h x b o e f =
    let next = ready_clock_of-next h x (h ++ x ∷ []) (snooped_count h) (one_more h x) o (snoops_to h) in
    sym ((rw e at next) ∙ ap (λ k. cond k (Some (length h)) None) f)

-- where the next one to be snooped began at the last clock none is decoded
pub near_none : (h : Trace) (p n : ℕ) → live_clock_of h (snooped_count h) ≡ Some p → n ≡ length h → nat_le (p + 2) n ≡ false
    → (q : ℕ) → live_clock_of h (snooped_count h) ≡ Some q → length h ≤ q + 1
near_none h p n e k f q g =
    let same : p ≡ q = cc in
    elim (cases_lt n (p + 2)) [
      | inl l ↦ omega (arith, l, k, same)
      | inr l ↦ absurd (both_ways _ f (le-leb (p + 2) n l))
    ]

pub trdy-is : (h : Trace) (x : Sample) (b one other : Bool) → one ≡ has_line x TRDY → other ≡ may_answer_next h
    → (one && other) ≡ b → (has_line x TRDY && may_answer_next h) ≡ b
trdy-is h x b one other e f g = rw (sym e, sym f) g
