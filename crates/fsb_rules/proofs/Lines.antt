-- The lines of the last clocks.
use Rattle.std.proofs.Common.{ℕ, ◌+◌, ◌-◌, ◌<◌, ◌≡◌, ◌==◌, Bool, true, false, nat_le, Option, Some, None, [], ◌∷◌, ◌++◌}
use Rattle.std.proofs.Common.{length, slice_get, cond, refl, sym, ap, ◌∙◌, arith}
use Rattle.std.specs.Option.{option_map, option_and_then, option_map_or, unwrap_or}
use Rattle.std.proofs.lemmas.Bool.{leb-true, leb-false, le-leb, lt-leb, and_parts, and_left, eqb-true}
use Rattle.std.proofs.lemmas.Bool.{false_from_ne_true}
use Rattle.fsb_count.specs.Options.{is_some_and}
use Rattle.fsb_count.proofs.Interface.{slice_get-end}
use Rattle.fsb_signal.specs.declared.lines.Lines.{Lines}
use Rattle.fsb_signal.specs.declared.sample.Sample.{Sample}
use Rattle.fsb_signal.specs.Samples.{has_line, line_at}
use Rattle.fsb_signal.specs.declared.lines.TheConstants.Lines.{ADS}
use Rattle.fsb_encode.specs.declared.request.Pair.{Pair}
use Rattle.fsb_encode.specs.declared.request.Request.{Request}
use Rattle.fsb_encode.specs.Decoded.{request_of}
use Rattle.fsb_trace.specs.At.{Trace, line_back, known_pair, known_pair_at, request_at}
use Rattle.fsb_trace.specs.Winner.{winner_at}
use Rattle.fsb_trace.proofs.Interface.{winner_at-agree}
use Rattle.fsb_arbiter.specs.Order.{is_in}
use Rattle.fsb_arbiter.specs.Arbiter.{lines_back}
use Rattle.fsb_laws.specs.OneMore.{OneMore}
use Rattle.fsb_laws.proofs.Interface.{line_at-new, line_at-old, one_more}
use Rattle.fsb_rules.specs.declared.recent.Recent.{Recent}
use Rattle.fsb_rules.specs.Recent.{RecentStands, asserted_back, request_by}
use Rattle.fsb_rules.specs.Checker.{beginner_of}

-- a line among those of a clock back is asserted there
lines_form : (line : Lines) (o : Option Sample)
    → is_some_and (option_map (λ s. s.lines) o) (λ l. is_in l line) ≡ option_map_or (λ s. has_line s line) o false
unfolding is_some_and
lines_form line None = refl
lines_form line (Some s) = refl

among_cases : (line : Lines) (h : Trace) (d : ℕ) (b : Bool) → nat_le d (length h) ≡ b
    → is_some_and (lines_back h d) (λ l. is_in l line) ≡ line_back line h (length h) d
unfolding lines_back line_back line_at is_some_and
among_cases line h d true e = rw e (lines_form line (slice_get h (length h - d)))
among_cases line h d false e = rw e refl

pub is_among-back : (line : Lines) (h : Trace) (d : ℕ) (o : Option Lines) → o ≡ lines_back h d
    → is_some_and o (λ l. is_in l line) ≡ line_back line h (length h) d
is_among-back line h d o e =
    ap (λ lines. is_some_and lines (λ l. is_in l line)) e ∙ among_cases line h d (nat_le d (length h)) refl

-- and where there is no such clock, no line is
no_line : (n : ℕ) → 0 < n → (0 == n) ≡ false
no_line n l = false_from_ne_true _ (λ t. let same = eqb-true 0 n t in omega arith)

asserted_form : (line : Lines) (o : Option Lines) → 0 < line.0
    → is_in (unwrap_or o (record { 0 = 0 })) line ≡ is_some_and o (λ l. is_in l line)
unfolding is_some_and
asserted_form line None l = no_line line.0 l
asserted_form line (Some lines) l = refl

pub asserted_back-is : (line : Lines) (h : Trace) (d : ℕ) → 0 < line.0
    → is_in (asserted_back h d) line ≡ line_back line h (length h) d
unfolding asserted_back
asserted_back-is line h d l = asserted_form line (lines_back h d) l ∙ is_among-back line h d (lines_back h d) refl

-- lines back from the new clock are those of the old trace
old_cases : (line : Lines) (h : Trace) (x : Sample) (v : Trace) (d : ℕ) (b : Bool) → OneMore h x v → 0 < d
    → nat_le d (length h) ≡ b → line_back line v (length h) d ≡ line_back line h (length h) d
unfolding line_back
old_cases line h x v d true m l e =
    let within = leb-true d (length h) e in rw e (line_at-old line h x v (length h - d) m (omega arith))
old_cases line h x v d false m l e = rw e refl

pub line_back-new : (line : Lines) (h : Trace) (x : Sample) (v : Trace) (d : ℕ) → OneMore h x v → 0 < d
    → line_back line v (length h) d ≡ line_back line h (length h) d
line_back-new line h x v d m l = old_cases line h x v d (nat_le d (length h)) m l refl

-- a line that is asserted a clock back has a clock before
pub line_back-some : (h : Trace) → line_back ADS h (length h) 1 ≡ true → 0 < length h
unfolding line_back
line_back-some h t = let l = leb-true 1 (length h) (and_parts _ _ t).0 in omega arith

-- before the first clock none is
pub line_back-none : (line : Lines) (h : Trace) → length h ≡ 0 → line_back line h (length h) 1 ≡ false
unfolding line_back
line_back-none line h e = and_left _ _ (lt-leb 1 (length h) (omega arith))

-- what is kept goes on
pub lines_back-first : (h : Trace) (x : Sample) (v : Trace) → OneMore h x v → lines_back v 1 ≡ Some x.lines
unfolding lines_back
lines_back-first h x v m =
    let e : length h + 1 - 1 ≡ length h = omega arith in
    rw (m.size, le-leb 1 (length h + 1) (omega arith), e, m.last) refl

next_cases : (h : Trace) (x : Sample) (v : Trace) (d : ℕ) (b : Bool) → OneMore h x v → 0 < d
    → nat_le d (length h) ≡ b → lines_back v (d + 1) ≡ lines_back h d
unfolding lines_back
next_cases h x v d true m l e =
    let within = leb-true d (length h) e in
    let same : length h + 1 - (d + 1) ≡ length h - d = omega arith in
    rw (
      m.size,
      le-leb (d + 1) (length h + 1) (omega arith),
      e,
      same,
      sym (m.agree.same (length h - d) (omega arith)),
    ) refl
next_cases h x v d false m l e =
    let out : length h < d = leb-false d (length h) e in
    rw (m.size, lt-leb (d + 1) (length h + 1) (omega arith), e) refl

pub lines_back-next : (h : Trace) (x : Sample) (v : Trace) (d : ℕ) → OneMore h x v → 0 < d
    → lines_back v (d + 1) ≡ lines_back h d
lines_back-next h x v d m l = next_cases h x v d (nat_le d (length h)) m l refl

known_pair_at-new : (h : Trace) (x : Sample) (v : Trace) → OneMore h x v → known_pair_at v (length h) ≡ known_pair x
unfolding known_pair_at
known_pair_at-new h x v m = rw m.last refl

known_pair_at-old : (h : Trace) (x : Sample) (v : Trace) (c : ℕ) → OneMore h x v → c < length h
    → known_pair_at v c ≡ known_pair_at h c
unfolding known_pair_at
known_pair_at-old h x v c m l = rw (sym (m.agree.same c l)) refl

-- the request of the last clock and the new one
swapped : (a b : Option Pair)
    → option_and_then (λ q. option_and_then {U = Request} (λ p. request_of p q) a) b
    ≡ option_and_then (λ p. option_and_then {U = Request} (λ q. request_of p q) b) a
swapped None None = refl
swapped None (Some q) = refl
swapped (Some p) None = refl
swapped (Some p) (Some q) = refl

pub request_at-new : (h : Trace) (x : Sample) → line_back ADS h (length h) 1 ≡ true
    → request_at (h ++ x ∷ []) (length h - 1) ≡ request_by (known_pair_at h (length h - 1)) x
unfolding request_by request_at
request_at-new h x t =
    let l = line_back-some h t in
    let m = one_more h x in
    let e : length h - 1 + 1 ≡ length h = omega arith in
    rw (
      e,
      known_pair_at-new h x (h ++ x ∷ []) m,
      known_pair_at-old h x (h ++ x ∷ []) (length h - 1) m (omega arith),
    )
    (sym (swapped (known_pair_at h (length h - 1)) (known_pair x)))

-- What a trace has at its new clock, and what lies before that.
pub line_at-last : (line : Lines) (h : Trace) (x : Sample) → line_at line (h ++ x ∷ []) (length h) ≡ has_line x line
line_at-last line h x = line_at-new line h x (h ++ x ∷ []) (one_more h x)

pub line_back-last : (line : Lines) (h : Trace) (x : Sample) (d : ℕ) → 0 < d
    → line_back line (h ++ x ∷ []) (length h) d ≡ line_back line h (length h) d
line_back-last line h x d l = line_back-new line h x (h ++ x ∷ []) d (one_more h x) l

pub winner_at-last : (h : Trace) (x : Sample) → winner_at (h ++ x ∷ []) (length h) ≡ winner_at h (length h)
winner_at-last h x =
    let m = one_more h x in sym (winner_at-agree (length h) h (h ++ x ∷ []) (length h) m.agree (omega arith))

pub line_back-end : (line : Lines) (h : Trace) (x : Sample)
    → line_back line (h ++ x ∷ []) (length (h ++ x ∷ [])) 1 ≡ has_line x line
unfolding line_back
line_back-end line h x =
    let size = (one_more h x).size in
    let e : length h + 1 - 1 ≡ length h = omega arith in
    rw (size, le-leb 1 (length h + 1) (omega arith), e) (line_at-last line h x)

pub beginner-last : (h : Trace) (x : Sample)
    → beginner_of (h ++ x ∷ []) ≡ cond (has_line x ADS) (winner_at h (length h)) None
unfolding beginner_of
beginner-last h x =
    let size = (one_more h x).size in
    let e : length h + 1 - 1 ≡ length h = omega arith in
    rw (line_back-end ADS h x, size, e, winner_at-last h x) refl

pub ruleset new_clock = (slice_get-end, line_at-last, line_back-last, winner_at-last)

pub ruleset new_winner = (line_at-last, winner_at-last, beginner-last)

pub ruleset begun_facts = (line_back-last, request_at-new)

-- what is kept of the last clocks goes on
pub recent_goes : {old : Recent} {h : Trace} (x : Sample) (new : Recent) → RecentStands old h
    → new.first ≡ x.lines → new.second ≡ old.first → new.third ≡ old.second
    → (has_line x ADS ≡ true → new.words ≡ known_pair x) → RecentStands new (h ++ x ∷ [])
unfolding asserted_back
recent_goes {old} {h} x new s a b c d =
    let v : Trace = h ++ x ∷ [] in
    let m = one_more h x in
    let size = m.size in
    let e : length v - 1 ≡ length h = omega arith in
    let of : Option Lines → Lines = λ o. unwrap_or o (record { 0 = 0 }) in
    record {
      first = a ∙ sym (ap of (lines_back-first h x v m));
      second = b ∙ s.first ∙ sym (ap of (lines_back-next h x v 1 m (omega arith)));
      third = c ∙ s.second ∙ sym (ap of (lines_back-next h x v 2 m (omega arith)));
      words = λ t. d (sym (line_back-end ADS h x) ∙ t) ∙ sym (ap (known_pair_at v) e ∙ known_pair_at-new h x v m);
    }
