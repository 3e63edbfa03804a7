-- The request that began at the last clock, in its second clock.
use Rattle.std.proofs.Common.{ℕ, ◌+◌, ◌-◌, ◌≡◌, ◌/◌, Bool, true, false, nat_le, Option, Some, None}
use Rattle.std.proofs.Common.{[], ◌∷◌, ◌++◌, length, refl, slice_get, sym, ap, ◌∙◌, arith}
use Rattle.std.specs.Option.{option_map}
use Rattle.std.proofs.lemmas.Bool.{le-leb, leb-true}
use Rattle.fsb_signal.specs.declared.lines.TheConstants.Lines.{ADS}
use Rattle.fsb_signal.specs.declared.sample.Sample.{Sample}
use Rattle.fsb_signal.specs.Samples.{has_line}
use Rattle.fsb_trace.specs.declared.seen.Seen.{Seen}
use Rattle.fsb_trace.specs.declared.who.Who.{Who}
use Rattle.fsb_trace.specs.declared.who.Who.TheVariants.{Symmetric, Priority}
use Rattle.fsb_trace.specs.At.{Trace, known_pair_at, line_back, request_at}
use Rattle.fsb_trace.specs.Requests.{line_of, seen_at}
use Rattle.fsb_trace.specs.Winner.{winner_at}
use Rattle.fsb_trace.proofs.Interface.{winner_at-agree}
use Rattle.fsb_laws.specs.OneMore.{OneMore}
use Rattle.fsb_laws.proofs.Interface.{is_cancelled-late, line_at-new, line_at-old, one_more}
use Rattle.fsb_owner_table.specs.Happened.{begun_row}
use Rattle.fsb_owner_table.specs.Rows.{row_at}
use Rattle.fsb_owner_feed.specs.declared.begins.FirstClock.{FirstClock}
use Rattle.fsb_owner_feed.specs.Begins.{IsLast, SaysBegins, line_by, decoded_by}

-- the line, by the winner and the sample
abbrev line_with : Option Who → Option Sample → Option ℕ
line_with winner sample =
    elim winner [
      | Some who ↦ elim who [ Symmetric a ↦ option_map (λ s. s.addr.bits / 4) sample | Priority ↦ None ]
      | None ↦ None
    ]

line_of-is : (w : Trace) (q : ℕ) → line_of w q ≡ line_with (winner_at w q) (slice_get w q)
unfolding line_of
line_of-is w q = refl

line_cases : (who : Option Who) (first : Sample) → line_with who (Some first) ≡ line_by who first
unfolding line_by
line_cases None first = refl
line_cases (Some (Symmetric a)) first = refl
line_cases (Some Priority) first = refl

module _ {h : Trace} (x : Sample) {begins : FirstClock} {q : ℕ} (l : IsLast begins q h) where
  abbrev v : Trace
  v = h ++ x ∷ []

  m : OneMore h x (h ++ x ∷ [])
  m = one_more h x

  first_at : slice_get v q ≡ Some begins.first
  first_at = sym (m.agree.same q (omega (arith, l.last))) ∙ l.first

  second_at : slice_get v (q + 1) ≡ Some x
  second_at = ap (slice_get v) (sym l.last) ∙ m.last

  winner_new : winner_at v q ≡ begins.who
  winner_new = sym (winner_at-agree (length h) h v q m.agree (omega (arith, l.last))) ∙ sym l.who

  request_new : request_at v q ≡ decoded_by begins.first x
  unfolding request_at decoded_by known_pair_at
  request_new = rw (first_at, second_at) refl

  pub line_new : line_of v q ≡ line_by begins.who begins.first
  line_new =
      line_of-is v q ∙ ap (λ o. line_with o (slice_get v q)) winner_new ∙ ap (line_with begins.who) first_at
      ∙ line_cases begins.who begins.first

  pub seen_new : ◌≡◌ {A = Seen}
      (record { clock = q; who = begins.who; request = decoded_by begins.first x; cancelled = false }) (seen_at v q)
  unfolding seen_at
  seen_new =
      rw (winner_new, request_new, is_cancelled-late v q (omega (arith, l.last, m.size))) refl

-- whether a request began a clock back
back_cases : (h : Trace) (x : Sample) (b : Bool) → nat_le 1 (length h) ≡ b
    → line_back ADS (h ++ x ∷ []) (length h) 1 ≡ line_back ADS h (length h) 1
unfolding line_back
back_cases h x true e =
    let some = leb-true 1 (length h) e in
    rw e (line_at-old ADS h x (h ++ x ∷ []) (length h - 1) (one_more h x) (omega (arith, some)))
back_cases h x false e = rw e refl

pub asked_back : (h : Trace) (x : Sample) → line_back ADS (h ++ x ∷ []) (length h) 1 ≡ line_back ADS h (length h) 1
asked_back h x = back_cases h x (nat_le 1 (length h)) refl

pub asks_now : (h : Trace) (x : Sample)
    → line_back ADS (h ++ x ∷ []) (length (h ++ x ∷ [])) 1 ≡ has_line x ADS
unfolding line_back
asks_now h x =
    let size = (one_more h x).size in
    let e : length h + 1 - 1 ≡ length h = omega arith in
    rw (size, le-leb 1 (length h + 1) (omega arith), e) (line_at-new ADS h x (h ++ x ∷ []) (one_more h x))

pub begun_none : (h : Trace) (x : Sample) → SaysBegins None h → begun_row (h ++ x ∷ []) (length h) ≡ None
unfolding begun_row
begun_none h x f = rw (asked_back h x ∙ f) refl

pub begun_some : (h : Trace) (x : Sample) (begins : FirstClock) → SaysBegins (Some begins) h
    → begun_row (h ++ x ∷ []) (length h) ≡ Some (row_at (h ++ x ∷ []) (length h - 1))
unfolding begun_row
begun_some h x begins s = rw (asked_back h x ∙ s.0) refl

-- the request that begins with the sample
pub begins_some : (h : Trace) (x : Sample) (who : Option Who) → has_line x ADS ≡ true → who ≡ winner_at h (length h)
    → SaysBegins (Some (record { who = who; first = x })) (h ++ x ∷ [])
begins_some h x who t is =
    let one = one_more h x in
    let size = one.size in
    let e : length (h ++ x ∷ []) - 1 ≡ length h = omega (arith, size) in (
      asks_now h x ∙ t,
      record {
        last = omega (arith, size);
        who = is ∙ winner_at-agree (length h) h (h ++ x ∷ []) (length h) one.agree (omega arith)
            ∙ ap (winner_at (h ++ x ∷ [])) (sym e);
        first = ap (slice_get (h ++ x ∷ [])) e ∙ one.last;
      },
    )

pub begins_none : (h : Trace) (x : Sample) → has_line x ADS ≡ false → SaysBegins None (h ++ x ∷ [])
begins_none h x f = asks_now h x ∙ f

pub begins_empty : SaysBegins None []
unfolding line_back
begins_empty = refl
