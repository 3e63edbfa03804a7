-- Rule 18 of requests that are no replies: the outstanding ones, by the rows.
use Rattle.std.proofs.Common.{ℕ, ◌+◌, ◌-◌, ◌^◌, ◌<◌, ◌≤◌, ◌≡◌, Bool, true, false, not, ◌&&◌, ◌||◌, nat_le, nat_lt, Option, Some, None}
use Rattle.std.proofs.Common.{[], ◌∷◌, ◌++◌, List, length, slice_get, refl, sym, ap, subst, ◌∙◌, arith, inl, inr}
use Rattle.std.specs.List.{count_by, find}
use Rattle.std.specs.Option.{option_map}
use Rattle.std.proofs.lemmas.Bool.{and_left, and_parts, and_right, both_ways, cases_Bool, false_from_ne_true, le-leb, leb-true, lt-leb, lt-ltb, not_from_true, or_cases, or_left, or_right}
use Rattle.fsb_count.specs.Clocks.{any_where, count_where, first_where}
use Rattle.fsb_count.specs.Options.{is_before, is_some_and}
use Rattle.fsb_count.proofs.Interface.{any_where-off, count_where-same, first_where-found, first_where-none, is_before-from, is_before-parts}
use Rattle.fsb_encode.specs.declared.request.Request.{Request}
use Rattle.fsb_signal.specs.declared.lines.TheConstants.Lines.{ADS}
use Rattle.fsb_signal.specs.declared.marks.Marks.{Marks}
use Rattle.fsb_signal.specs.declared.sample.Sample.{Sample}
use Rattle.fsb_signal.specs.Samples.{line_at}
use Rattle.fsb_trace.specs.declared.who.Who.{Who}
use Rattle.fsb_trace.specs.At.{Trace, known_pair_at, line_back, request_at}
use Rattle.fsb_trace.specs.Flight.{is_dropped, is_finished, is_outstanding}
use Rattle.fsb_trace.specs.Requests.{have_same_id, is_reply}
use Rattle.fsb_trace.specs.Rules.{breaks, is_begun_wrongly, is_id_taken_by, is_outstanding_of_winner, is_outstanding_wrong, phase_rules}
use Rattle.fsb_trace.specs.Winner.{is_agent, winner_at}
use Rattle.fsb_trace.proofs.Interface.{winner_at-agree}
use Rattle.fsb_laws.proofs.Interface.{count_where-none, line_at-old, one_more}
use Rattle.fsb_owner_table.specs.declared.row.Row.{Row}
use Rattle.fsb_owner_table.specs.Kept.{is_row_closed, is_row_dropped, row_last_clock, rows_of}
use Rattle.fsb_owner_table.specs.Rows.{row_at}
use Rattle.fsb_trace.specs.Requests.{seen_at}
use Rattle.fsb_owner_table.proofs.Closed.{closed_is}
use Rattle.fsb_laws.specs.Orderly.{Orderly}
use Rattle.fsb_owner_feed.specs.declared.begins.FirstClock.{FirstClock}
use Rattle.fsb_owner_feed.specs.Begins.{SaysBegins, decoded_by}
use Rattle.fsb_owner_feed.proofs.FoundRows.{find_rows, passes}
use Rattle.fsb_reasons.specs.declared.reason.Reason.{Reason}
use Rattle.fsb_reasons.specs.declared.reason.Reason.TheVariants.{IdTaken, TooMany}
use Rattle.fsb_reasons.specs.RuleOf.{rule_of}
use Rattle.fsb_why.specs.Explains.{Explains, IsReason, Tells, either_reason}
use Rattle.fsb_why_open.specs.Open.{IsFirstClock, is_row_of, is_row_unfinished, row_takes}
use Rattle.fsb_why_open.proofs.InFlight.{dropped_more, found_clock, none_mapped}
use Rattle.fsb_why_open.proofs.KeptOnes.{count_rows, most}
use Rattle.fsb_why_open.proofs.Same.{ads_same, outstanding_same, request_same}

-- a row that is closed below a clock is closed below each later one
before_more : (o : Option ℕ) (d c : ℕ) → d ≤ c → is_before o d ≡ true → is_before o c ≡ true
before_more o d c l t = let p = is_before-parts o d t in is_before-from o p.0 c p.1 (omega (arith, l, p.2))

closed_more : (row : Row) (d c : ℕ) → d ≤ c → is_row_closed row d ≡ true → is_row_closed row c ≡ true
closed_more row d c l t =
    elim (or_cases (is_row_dropped row d) (is_before (row_last_clock row) d) t) [
      | inl dropped ↦ or_left (is_row_dropped row c) (is_before (row_last_clock row) c) (dropped_more row d c l dropped)
      | inr last ↦ or_right (is_row_dropped row c) (is_before (row_last_clock row) c) (before_more (row_last_clock row) d c l last)
    ]

outstanding_open : (row : Row) (c d : ℕ) → d ≤ c → is_row_unfinished c row ≡ true → is_row_closed row d ≡ false
outstanding_open row c d l t =
    false_from_ne_true (is_row_closed row d) (λ k.
    both_ways (not (is_row_closed row c)) (not_from_true (is_row_closed row c) (closed_more row d c l k))
    (and_parts (not (is_reply row.seen.request)) (not (is_row_closed row c)) t).1)

pub request_of_row : (h : Trace) (p : ℕ) → (row_at h p).seen.request ≡ request_at h p
unfolding row_at seen_at
request_of_row h p = refl

who_of_row : (h : Trace) (p : ℕ) → (row_at h p).seen.who ≡ winner_at h p
unfolding row_at seen_at
who_of_row h p = refl

parted : (a l r d f b : Bool) → l ≡ true
    → (a && ((not r && not (d || f)) && b)) ≡ (((((a && l) && not r) && not d) && not f) && b)
parted a l r d f b t = rw t (grind arith)

-- the row of an outstanding request that passes one more test
outstanding_and : (h : Trace) (q p : ℕ) (b : Bool) → p < q
    → (line_at ADS h p && (is_row_unfinished q (row_at h p) && b)) ≡ (is_outstanding h q p && b)
unfolding is_outstanding
outstanding_and h q p b l =
    rw (closed_is (row_at h p) h p q refl, request_of_row h p)
    (parted (line_at ADS h p) (nat_lt p q) (is_reply (request_at h p)) (is_dropped h q p) (is_finished h q p) b (lt-ltb p q l))

unwon : (w : Trace) (q p : ℕ) → winner_at w q ≡ None → is_outstanding_of_winner w q p ≡ false
unfolding is_outstanding_of_winner is_some_and
unwon w q p e = rw e (grind arith)

no_id : (a : Option Request) → have_same_id a None ≡ false
unfolding have_same_id is_some_and
no_id None = refl
no_id (Some r) = refl

undecoded : (w : Trace) (q p : ℕ) → request_at w q ≡ None → is_id_taken_by w q p ≡ false
unfolding is_id_taken_by
undecoded w q p e =
    and_right (is_outstanding w q p) (have_same_id (request_at w p) (request_at w q))
    (ap (have_same_id (request_at w p)) e ∙ no_id (request_at w p))

module _ {rows : List Row} {q : ℕ} {who : Option Who} {request : Option Request} {h : Trace} {x : Sample} (b : IsFirstClock rows q who request h x) where
  abbrev v : Trace
  v = h ++ x ∷ []

  back : length h - 1 ≡ q
  back = omega (arith, b.last)

  pub winner_is : (p : ℕ) → p ≤ q → winner_at v p ≡ winner_at h p
  winner_is p l = sym (winner_at-agree (length h) h v p (one_more h x).agree (omega (arith, b.last, l)))

  takes_is : (p : ℕ) → p < q → passes (row_takes q request) h p ≡ is_id_taken_by v q p
  unfolding is_id_taken_by
  takes_is p l =
      outstanding_and h q p (have_same_id (row_at h p).seen.request request) l
      ∙ (rw (
        outstanding_same h x q b.orderly b.last b.asks p l,
        request_same h x q b.orderly b.last b.asks p l,
        sym b.decoded,
        request_of_row h p,
      ) refl)

  takes_open : (p : ℕ) → row_takes q request (row_at h p) ≡ true → is_row_closed (row_at h p) (length h - 3) ≡ false
  takes_open p t = outstanding_open (row_at h p) q (length h - 3) (omega (arith, b.last)) (and_parts _ _ t).0

  first_taking : find (row_takes q request) rows ≡ option_map (row_at h) (first_where (passes (row_takes q request) h) q)
  first_taking =
      ap (find (row_takes q request)) b.kept ∙ find_rows (row_takes q request) h takes_open (length h - 1)
      ∙ ap (λ n. option_map (row_at h) (first_where (passes (row_takes q request) h) n)) back

  -- no outstanding request has the ID
  pub free : None ≡ find (row_takes q request) rows → any_where (is_id_taken_by v q) q ≡ false
  free e =
      let f = none_mapped h _ (e ∙ first_taking) in
      any_where-off (is_id_taken_by v q) q (λ p l.
      sym (takes_is p l) ∙ first_where-none (passes (row_takes q request) h) q f p l)

  pub free_undecoded : request ≡ None → any_where (is_id_taken_by v q) q ≡ false
  free_undecoded e = any_where-off (is_id_taken_by v q) q (λ p l. undecoded v q p (sym b.decoded ∙ e))

  pub line_is : (m : ℕ) → line_back ADS v (q + 1) 1 ≡ true
  unfolding line_back
  line_is m =
      let at : q + 1 - 1 ≡ q = omega arith in
      rw (at, le-leb 1 (q + 1) (omega arith)) (ads_same h x q b.orderly b.last b.asks q (omega arith) ∙ b.asks)

  -- or one has
  pub taken_is : (m : Marks) (row : Row) (r : Request) → Some row ≡ find (row_takes q request) rows → request ≡ Some r
      → is_reply request ≡ false → IsReason m v (q + 1) 18 (IdTaken r.did row.seen.clock)
  unfolding rule_of
  taken_is m row r e some plain =
      let f = found_clock h _ row (e ∙ first_taking) in
      let p = first_where-found (passes (row_takes q request) h) q f.0 f.1 in
      let at : q + 1 - 1 ≡ q = omega arith in
      let by = sym (takes_is f.0 p.0) ∙ p.1 in
      rw (f.2) (record {
        rule = refl;
        holds = rw at (
          line_is 0,
          ap is_reply (sym b.decoded) ∙ plain,
          (r, sym b.decoded ∙ some, refl),
          p.0,
          by,
        );
      })

  -- how many are of the agent
  of_is : (agent : Who) (p : ℕ) → who ≡ Some agent → p < q → passes (is_row_of q agent) h p ≡ is_outstanding_of_winner v q p
  unfolding is_outstanding_of_winner is_some_and
  of_is agent p e l =
      outstanding_and h q p (is_agent (row_at h p).seen.who agent) l
      ∙ (rw (
        outstanding_same h x q b.orderly b.last b.asks p l,
        winner_is p (omega (arith, l)),
        winner_is q (omega arith) ∙ sym b.winner ∙ e,
        who_of_row h p,
      ) refl)

  of_open : (agent : Who) (p : ℕ) → is_row_of q agent (row_at h p) ≡ true → is_row_closed (row_at h p) (length h - 3) ≡ false
  of_open agent p t = outstanding_open (row_at h p) q (length h - 3) (omega (arith, b.last)) (and_parts _ _ t).0

  pub count_is : (agent : Who) → who ≡ Some agent
      → count_by (is_row_of q agent) rows ≡ count_where (is_outstanding_of_winner v q) q
  count_is agent e =
      ap (count_by (is_row_of q agent)) b.kept ∙ count_rows (is_row_of q agent) h (of_open agent) (length h - 1)
      ∙ ap (count_where (passes (is_row_of q agent) h)) back
      ∙ count_where-same (passes (is_row_of q agent) h) (is_outstanding_of_winner v q) q
      (record { same = λ p l. of_is agent p e l })

  -- what the code counts
  pub counted : (agent : Who) (n j : ℕ) → who ≡ Some agent → q < 2 ^ 32 → n ≡ count_by (is_row_of q agent) rows
      → (n < 2 ^ 32 → j ≡ n) → count_where (is_outstanding_of_winner v q) q ≡ j
  counted agent n j e fits is_count as_number =
      let same = is_count ∙ count_is agent e in
      let few = most (is_outstanding_of_winner v q) q in
      sym same ∙ sym (as_number (omega (arith, same, few, fits)))

  pub nobodys : who ≡ None → nat_le 4 (count_where (is_outstanding_of_winner v q) q) ≡ false
  nobodys e =
      rw (count_where-none (is_outstanding_of_winner v q) q (λ p l. unwon v q p (winner_is q (omega arith) ∙ sym b.winner ∙ e))) refl

  pub few : (n : ℕ) → count_where (is_outstanding_of_winner v q) q ≡ n → n < 4
      → nat_le 4 (count_where (is_outstanding_of_winner v q) q) ≡ false
  few n e l = rw e (lt-leb 4 n l)

  pub too_many_is : (m : Marks) (agent : Who) (n : ℕ) → who ≡ Some agent → is_reply request ≡ false
      → count_where (is_outstanding_of_winner v q) q ≡ n → 4 ≤ n → IsReason m v (q + 1) 18 (TooMany agent n)
  unfolding rule_of
  too_many_is m agent n e plain k l =
      let at : q + 1 - 1 ≡ q = omega arith in
      record {
        rule = refl;
        holds = rw at (
          line_is 0,
          ap is_reply (sym b.decoded) ∙ plain,
          winner_is q (omega arith) ∙ sym b.winner ∙ e,
          k,
          l,
        );
      }

  -- both together
  pub plain_kept : (m : Marks) → is_reply request ≡ false → any_where (is_id_taken_by v q) q ≡ false
      → nat_le 4 (count_where (is_outstanding_of_winner v q) q) ≡ false → breaks m v (q + 1) 18 ≡ false
  unfolding breaks phase_rules is_outstanding_wrong is_begun_wrongly
  plain_kept m plain f g =
      let at : q + 1 - 1 ≡ q = omega arith in
      rw (at, sym b.decoded, plain, f, g) (grind arith)

  pub either_plain : (m : Marks) (one two o : Option Reason) → is_reply request ≡ false → o ≡ either_reason one two
      → Tells m v (q + 1) 18 (any_where (is_id_taken_by v q) q) one
      → Tells m v (q + 1) 18 (nat_le 4 (count_where (is_outstanding_of_winner v q) q)) two → Explains m v (q + 1) 18 o
  either_plain m (Some reason) two o plain e first second =
      subst (Explains m v (q + 1) 18) (sym e) first
  either_plain m None (Some reason) o plain e first second =
      subst (Explains m v (q + 1) 18) (sym e) second
  either_plain m None None o plain e first second =
      subst (Explains m v (q + 1) 18) (sym e) (plain_kept m plain first second)

-- where no request began at the last clock nothing is asked
back_same : (h : Trace) (x : Sample) → line_back ADS h (length h) 1 ≡ false → line_back ADS (h ++ x ∷ []) (length h) 1 ≡ false
unfolding line_back
back_same h x f =
    elim (cases_Bool (nat_le 1 (length h))) [
      | inl t ↦ rw t (rw (line_at-old ADS h x (h ++ x ∷ []) (length h - 1) (one_more h x) (before_last h t)) (rw t at f))
      | inr none ↦ rw none refl
    ]
  where
    before_last : (w : Trace) → nat_le 1 (length w) ≡ true → length w - 1 < length w
    before_last w t = let l = leb-true 1 (length w) t in omega (arith, l)

pub none_begun : (m : Marks) (h : Trace) (x : Sample) (c : ℕ) → c ≡ length h → line_back ADS h (length h) 1 ≡ false
    → breaks m (h ++ x ∷ []) c 18 ≡ false
unfolding breaks phase_rules is_outstanding_wrong
none_begun m h x c e f = and_left _ _ (ap (λ n. line_back ADS (h ++ x ∷ []) n 1) e ∙ back_same h x f)

-- where one did it is as the table says
second_at : (h : Trace) (x : Sample) (first : Sample) (q : ℕ) → length h ≡ q + 1 → slice_get h q ≡ Some first
    → request_at (h ++ x ∷ []) q ≡ decoded_by first x
unfolding request_at decoded_by known_pair_at
second_at h x first q e f =
    let m = one_more h x in
    let one : slice_get (h ++ x ∷ []) q ≡ Some first = sym (m.agree.same q (omega (arith, e))) ∙ f in
    let two : slice_get (h ++ x ∷ []) (q + 1) ≡ Some x = ap (slice_get (h ++ x ∷ [])) (sym e) ∙ m.last in
    rw (one, two) refl

asked_last : (h : Trace) (q : ℕ) → length h ≡ q + 1 → line_back ADS h (length h) 1 ≡ true → line_at ADS h q ≡ true
unfolding line_back
asked_last h q e t =
    let back : length h - 1 ≡ q = omega (arith, e) in
    ap (line_at ADS h) (sym back) ∙ (and_parts (nat_le 1 (length h)) (line_at ADS h (length h - 1)) t).1

pub begins_from : (rows : List Row) (h : Trace) (x : Sample) (begun : FirstClock) (request : Option Request) (c q : ℕ)
    → rows ≡ rows_of h → Orderly h → c ≡ length h → q ≡ c - 1 → SaysBegins (Some begun) h
    → request ≡ decoded_by begun.first x → (IsFirstClock rows q begun.who request h x) × (q + 1 ≡ c)
begins_from rows h x begun request c q kept o e back says decoded =
    let at : length h - 1 ≡ q = sym (back ∙ ap (λ n. n - 1) e) in
    let last : length h ≡ q + 1 = let l = says.1.last in omega (arith, l, at) in (
      record {
        kept = kept;
        orderly = o;
        last = last;
        asks = asked_last h q last says.0;
        winner = says.1.who ∙ ap (winner_at h) at;
        decoded = decoded ∙ sym (second_at h x begun.first q last (ap (slice_get h) (sym at) ∙ says.1.first));
      },
      sym last ∙ sym e,
    )
