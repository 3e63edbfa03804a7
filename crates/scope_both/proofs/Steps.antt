-- Behind the header, a token that is no fault in the strict way does the same in the way of wires that take the same.
use Rattle.std.proofs.Common.{◌≡◌, ℕ, Bool, true, false, not, ◌&&◌, if◌then◌else◌, List, [], ◌∷◌, ◌++◌}
use Rattle.std.proofs.Common.{codes, map, nat_lt, option_map, Option, Some, None, refl, sym, ap, subst, ◌∙◌}
use Rattle.std.specs.List.{list_all}
use Rattle.std.proofs.lemmas.Bool.{and_parts, not-true}
use Rattle.vcd_grammar.specs.declared.fault.VcdCause.{VcdCause}
use Rattle.vcd_grammar.specs.declared.fault.VcdCause.TheVariants as causes
use Rattle.vcd_grammar.specs.Tokens.{Token, is_long}
use Rattle.vcd_grammar.specs.Digits.{is_value_digit}
use Rattle.vcd_grammar.specs.Words.{ValueWord, Stamp, Scalar, Vector, Foreign, Mark, Section, Wrong, same, is_end}
use Rattle.vcd_grammar.specs.Codes.{lines_of}
use Rattle.vcd_way.specs.Declarations.{Declaration, with_word}
use Rattle.vcd_way.specs.declared.tap.Tap.{Tap}
use Rattle.vcd_way.specs.Ways.{Keeps, Way}
use Rattle.vcd_way.specs.Events.{whole}
use Rattle.vcd_way.specs.Steps.{Spot, AtPreface, AtHeader, InSection, AtValues, AtCode, AtOtherCode, InRemark, DumpState}
use Rattle.vcd_way.specs.Steps.{Step, reads_past, moves_to, breaks, digits_by, value_word_by, comes, stamp_step}
use Rattle.vcd_way.specs.Steps.{given, scalar_step, is_too_wide_for, is_unreadable, vector_step, other_step, mark_step}
use Rattle.vcd_way.specs.Steps.{value_step, may_be_long, stops, resumes, step_at}
use Rattle.vcd_way.specs.Steps.{step, section_at}
use Rattle.vcd_way.specs.Strict.{StrictHeader, strict_rules, strict}
use Rattle.vcd_way.proofs.Interface.{sound-step}
use Rattle.scope_both.specs.Usual.{usual_rules}
use Rattle.scope_both.proofs.Words.{strict-digits, usual-digits, is_wrong, are_sound, is_sound_word, same-word}
use Rattle.scope_both.proofs.Lines.{SameLines, same-set, same-fit}
use Rattle.scope_both.proofs.Changes.{Alike, plain}

-- what a header of the strict way makes known, and what is gathered
abbrev pub Strictly : Type 0
Strictly = DumpState StrictHeader

abbrev pub Gathered : Type 0
Gathered = DumpState (List Declaration)

-- which lines there are, and the taps of a code
abbrev pub Lines : Type 0
Lines = List Declaration → List ℕ

abbrev pub Taps : Type 0
Taps = List Declaration → List ℕ → Option (List Tap)

-- the way that keeps each declaration and takes these lines and taps
abbrev pub taking : Lines → Taps → Bool → Way (List Declaration)
taking l t early = record {
  start = [];
  declares = λ ds d. Keeps (ds ++ d ∷ []) [];
  closes = λ ds. Keeps ds (l ds);
  lines = l;
  taps = t;
  rules = usual_rules early;
}

-- a code has whole taps, of the same lines
pub record HasLines (t : Taps) (ds : List Declaration) (code lines : List ℕ) : Type 0 where
  pub numbers : List ℕ
  pub taps : t ds code ≡ Some (map whole numbers)
  pub same : SameLines numbers lines

-- what is taken of declarations is what the strict header has
pub record Takes (l : Lines) (t : Taps) (ds : List Declaration) (h : StrictHeader) : Type 0 where
  pub lines : SameLines (l ds) h.lines
  pub codes : (code lines : List ℕ) → lines_of h.codes code ≡ Some lines → HasLines t ds code lines

-- both know the same, and no fault
pub record Even (l : Lines) (t : Taps) (s : Strictly) (g : Gathered) : Type 0 where
  pub fault : s.fault ≡ None
  pub none : g.fault ≡ None
  pub time : g.time ≡ s.time
  pub takes : Takes l t g.header s.header

-- behind the header; a vector has digits that are strict and all known
abbrev pub is_sound : Spot → Bool
is_sound AtPreface = false
is_sound AtHeader = false
is_sound (InSection section) = false
is_sound AtValues = true
is_sound (AtCode place digits) = are_sound digits
is_sound (AtOtherCode place) = true
is_sound (InRemark section) = true

-- a token did the same
pub record Goes (l : Lines) (t : Taps) (y : Step StrictHeader) (z : Step (List Declaration)) : Type 0 where
  pub even : Even l t y.state z.state
  pub spot : z.state.spot ≡ y.state.spot
  pub sound : is_sound y.state.spot ≡ true
  pub alike : Alike y.happenings (plain z.happenings)

-- unless it is a fault in the strict way
abbrev Same : Lines → Taps → Step StrictHeader → Step (List Declaration) → Type 0
Same l t y z = y.state.fault ≡ None → Goes l t y z

same-if : (l : Lines) (t : Taps) (b : Bool) (x y : Step StrictHeader) (p q : Step (List Declaration)) → Same l t x p
    → Same l t y q → Same l t (if b then x else y) (if b then p else q)
same-if l t true x y p q f h = f
same-if l t false x y p q f h = h

same-breaks : (l : Lines) (t : Taps) (s : Strictly) (place : ℕ) (cause : VcdCause) (z : Step (List Declaration))
    → Same l t (breaks s place cause) z
same-breaks l t s place cause z h = cc h

even-at : (l : Lines) (t : Taps) (s : Strictly) (g : Gathered) (a b : Spot) → Even l t s g
    → Even l t (record s { spot = a }) (record g { spot = b })
even-at l t s g a b e = record { fault = e.fault; none = e.none; time = e.time; takes = e.takes }

same-moves : (l : Lines) (t : Taps) (s : Strictly) (g : Gathered) (spot : Spot) → Even l t s g → is_sound spot ≡ true
    → Same l t (moves_to s spot) (moves_to g spot)
same-moves l t s g spot e k h = record { even = even-at l t s g spot spot e; spot = refl; sound = k; alike = tt }

-- where both stand between values
pub record Between (l : Lines) (t : Taps) (s : Strictly) (g : Gathered) : Type 0 where
  pub even : Even l t s g
  pub spot : s.spot ≡ AtValues
  pub other : g.spot ≡ AtValues

same-past : (l : Lines) (t : Taps) (s : Strictly) (g : Gathered) → Between l t s g
    → Same l t (reads_past s) (reads_past g)
same-past l t s g k h = record {
  even = k.even;
  spot = k.other ∙ sym k.spot;
  sound = ap is_sound k.spot;
  alike = tt;
}

same-comes : (l : Lines) (t : Taps) (s : Strictly) (g : Gathered) (place time : ℕ) → Between l t s g
    → Same l t (comes s place time) (comes g place time)
same-comes l t s g place time k h = record {
  even = record { fault = k.even.fault; none = k.even.none; time = refl; takes = k.even.takes };
  spot = k.other ∙ sym k.spot;
  sound = ap is_sound k.spot;
  alike = (refl, tt);
}

same-stamp : (l : Lines) (t : Taps) (s : Strictly) (g : Gathered) (place time : ℕ) (last : Option ℕ) → Between l t s g
    → Same l t (stamp_step s place time last) (stamp_step g place time last)
same-stamp l t s g place time None k = same-comes l t s g place time k
same-stamp l t s g place time (Some last) k =
    same-if l t (nat_lt time last) (breaks s place causes.TimeBack)
    (if nat_lt last time then comes s place time else reads_past s) (breaks g place causes.TimeBack)
    (if nat_lt last time then comes g place time else reads_past g)
    (same-breaks l t s place causes.TimeBack (breaks g place causes.TimeBack))
    (same-if l t (nat_lt last time) (comes s place time) (reads_past s) (comes g place time) (reads_past g)
    (same-comes l t s g place time k) (same-past l t s g k))

same-given : (l : Lines) (t : Taps) (s : Strictly) (g : Gathered) (place : ℕ) (lines numbers digits : List ℕ)
    → Even l t s g → SameLines numbers lines
    → Same l t (given s place (map whole lines) (Some digits)) (given g place (map whole numbers) (Some digits))
same-given l t s g place lines numbers digits e k h = record {
  even = even-at l t s g AtValues AtValues e;
  spot = refl;
  sound = refl;
  alike = (same-set numbers lines digits k, tt);
}

same-scalar : (l : Lines) (t : Taps) (early : Bool) (s : Strictly) (g : Gathered) (place digit : ℕ) (code : List ℕ)
    (lines : Option (List ℕ)) → lines_of s.header.codes code ≡ lines → is_value_digit digit ≡ true → Even l t s g
    → Same l t (scalar_step strict s place digit (option_map (map whole) lines))
    (scalar_step (taking l t early) g place digit (t g.header code))
same-scalar l t early s g place digit code None f d e =
    same-breaks l t s place causes.Code (scalar_step (taking l t early) g place digit (t g.header code))
same-scalar l t early s g place digit code (Some lines) f d e =
    let k = e.takes.codes code lines f in
    let one : list_all is_value_digit (digit ∷ []) ≡ true = ap (λ x. x && true) d in
    let here = strict-digits (digit ∷ []) one in
    let there = usual-digits early (digit ∷ []) one in
    subst (λ (x : Option (List ℕ)). Same l t (given s place (map whole lines) x)
    (scalar_step (taking l t early) g place digit (t g.header code))) (sym here)
    (subst (λ (x : Option (List Tap)). Same l t (given s place (map whole lines) (Some (digit ∷ [])))
    (scalar_step (taking l t early) g place digit x)) (sym k.taps)
    (subst (λ (x : Option (List ℕ)). Same l t (given s place (map whole lines) (Some (digit ∷ [])))
    (given g place (map whole k.numbers) x)) (sym there)
    (same-given l t s g place lines k.numbers (digit ∷ []) e k.same)))

-- ---- what a token says between values

same-or : (l : Lines) (t : Taps) (b : Bool) (y : Step StrictHeader) (p q : Step (List Declaration)) → Same l t y p
    → Same l t y q → Same l t y (if b then p else q)
same-or l t true y p q f h = f
same-or l t false y p q f h = h

-- a token that begins or ends a hole
same-switch : (l : Lines) (t : Taps) (s : Strictly) (g : Gathered) (off : Bool) (z : Step (List Declaration))
    → z.state ≡ record g { is_off = off } → plain z.happenings ≡ [] → Between l t s g → Same l t (reads_past s) z
same-switch l t s g off z e n k h = record {
  even = record {
    fault = k.even.fault;
    none = ap (λ (r : Gathered). r.fault) e ∙ k.even.none;
    time = ap (λ (r : Gathered). r.time) e ∙ k.even.time;
    takes = subst (λ (r : Gathered). Takes l t r.header s.header) (sym e) k.even.takes;
  };
  spot = ap (λ (r : Gathered). r.spot) e ∙ k.other ∙ sym k.spot;
  sound = ap is_sound k.spot;
  alike = subst (λ x. Alike [] x) (sym n) tt;
}

same-mark : (l : Lines) (t : Taps) (early : Bool) (s : Strictly) (g : Gathered) (word : List ℕ) → Between l t s g
    → Same l t (mark_step strict s word) (mark_step (taking l t early) g word)
same-mark l t early s g word k =
    let way = taking l t early in
    let on = g.is_off && same (codes "$dumpon") word in
    same-or l t (same (codes "$dumpoff") word) (reads_past s) (stops way g)
    (if on then resumes way g else reads_past g) (same-switch l t s g true (stops way g) refl refl k)
    (same-or l t on (reads_past s) (resumes way g) (reads_past g) (same-switch l t s g false (resumes way g) refl refl k)
    (same-past l t s g k))

same-value : (l : Lines) (t : Taps) (early : Bool) (s : Strictly) (g : Gathered) (u : Token) (v : ValueWord)
    → is_sound_word v ≡ true → Between l t s g
    → Same l t (value_step strict s u v) (value_step (taking l t early) g u v)
same-value l t early s g u (Stamp time) d k =
    subst (λ (x : Option ℕ). Same l t (stamp_step s u.place time s.time) (stamp_step g u.place time x))
    (sym k.even.time) (same-stamp l t s g u.place time s.time k)
same-value l t early s g u (Scalar digit code) d k =
    same-scalar l t early s g u.place digit code (lines_of s.header.codes code) refl d k.even
same-value l t early s g u (Vector digits) d k = same-moves l t s g (AtCode u.place digits) k.even d
same-value l t early s g u Foreign d k = same-moves l t s g (AtOtherCode u.place) k.even refl
same-value l t early s g u Mark d k = same-mark l t early s g u.word k
same-value l t early s g u Section d k = same-moves l t s g (InRemark (section_at u)) k.even refl
same-value l t early s g u Wrong d k =
    same-breaks l t s u.place causes.Token (value_step (taking l t early) g u Wrong)

not-wrong : (s : Strictly) (u : Token) (v : ValueWord) → (value_step strict s u v).state.fault ≡ None
    → is_wrong v ≡ false
not-wrong s u (Stamp time) h = refl
not-wrong s u (Scalar digit code) h = refl
not-wrong s u (Vector digits) h = refl
not-wrong s u Foreign h = refl
not-wrong s u Mark h = refl
not-wrong s u Section h = refl
not-wrong s u Wrong h = cc h

and-false : (x : Bool) → (x && false) ≡ false
and-false true = refl
and-false false = refl

same-short-word : (l : Lines) (t : Taps) (early : Bool) (s : Strictly) (g : Gathered) (u : Token) (b : Bool)
    → is_long u.word ≡ b → Between l t s g
    → Same l t
    (if b then breaks s u.place causes.Token else value_step strict s u (value_word_by strict_rules u.word))
    (if not (may_be_long (value_word_by (usual_rules early) u.word)) && b then breaks g u.place causes.Token
    else value_step (taking l t early) g u (value_word_by (usual_rules early) u.word))
same-short-word l t early s g u true e k =
    same-breaks l t s u.place causes.Token
    (if not (may_be_long (value_word_by (usual_rules early) u.word)) && true then breaks g u.place causes.Token
    else value_step (taking l t early) g u (value_word_by (usual_rules early) u.word))
same-short-word l t early s g u false e k = λ h.
    let v = value_word_by strict_rules u.word in
    let w = value_word_by (usual_rules early) u.word in
    let word = same-word early u.word e (not-wrong s u v h) in
    subst (λ x. Goes l t (value_step strict s u v)
    (if x then breaks g u.place causes.Token else value_step (taking l t early) g u w))
    (sym (and-false (not (may_be_long w))))
    (subst (λ x. Goes l t (value_step strict s u v) (value_step (taking l t early) g u x)) (sym word.same)
    (same-value l t early s g u v word.sound k h))

-- ---- the code after a vector, and after another value

same-by : (l : Lines) (t : Taps) (y x : Step StrictHeader) (z w : Step (List Declaration)) → y ≡ x → z ≡ w
    → Same l t x w → Same l t y z
same-by l t y x z w e f p = subst (λ r. Same l t r z) (sym e) (subst (λ r. Same l t x r) (sym f) p)

same-wide : (l : Lines) (t : Taps) (early : Bool) (s : Strictly) (g : Gathered) (place from : ℕ)
    (digits code lines : List ℕ) (b : Bool) → is_too_wide_for (map whole lines) digits ≡ b → are_sound digits ≡ true
    → Even l t s g → HasLines t g.header code lines
    → Same l t
    (if b then breaks s from causes.Width else given s from (map whole lines) (digits_by strict_rules digits))
    (vector_step (taking l t early) g place from digits (t g.header code))
same-wide l t early s g place from digits code lines true e d k n =
    same-breaks l t s from causes.Width (vector_step (taking l t early) g place from digits (t g.header code))
same-wide l t early s g place from digits code lines false e d k n =
    let way = taking l t early in
    let parts = and_parts (list_all is_value_digit digits) (not (is_unreadable digits)) d in
    let read = not-true (is_unreadable digits) parts.1 in
    let fits = same-fit lines n.numbers digits n.same e in
    let here : given s from (map whole lines) (digits_by strict_rules digits)
    ≡ given s from (map whole lines) (Some digits) =
    λ i. given s from (map whole lines) (strict-digits digits parts.0 i) in
    let there : vector_step way g place from digits (Some (map whole n.numbers))
    ≡ given g from (map whole n.numbers) (Some digits) =
    λ i. if fits i then breaks g from causes.Width
    else given g from (map whole n.numbers)
    (if read i then None else usual-digits early digits parts.0 i) in
    same-by l t (given s from (map whole lines) (digits_by strict_rules digits))
    (given s from (map whole lines) (Some digits))
    (vector_step way g place from digits (t g.header code)) (given g from (map whole n.numbers) (Some digits))
    here (ap (vector_step way g place from digits) n.taps ∙ there)
    (same-given l t s g from lines n.numbers digits k n.same)

same-vector : (l : Lines) (t : Taps) (early : Bool) (s : Strictly) (g : Gathered) (place from : ℕ)
    (digits code : List ℕ) (lines : Option (List ℕ)) → lines_of s.header.codes code ≡ lines → are_sound digits ≡ true
    → Even l t s g
    → Same l t (vector_step strict s place from digits (option_map (map whole) lines))
    (vector_step (taking l t early) g place from digits (t g.header code))
same-vector l t early s g place from digits code None f d k =
    same-breaks l t s place causes.Code (vector_step (taking l t early) g place from digits (t g.header code))
same-vector l t early s g place from digits code (Some lines) f d k =
    same-wide l t early s g place from digits code lines (is_too_wide_for (map whole lines) digits) refl d k
    (k.takes.codes code lines f)

same-other : (l : Lines) (t : Taps) (s : Strictly) (g : Gathered) (place : ℕ) (code : List ℕ)
    (lines : Option (List ℕ)) → lines_of s.header.codes code ≡ lines → Even l t s g
    → Same l t (other_step s place (option_map (map whole) lines)) (other_step g place (t g.header code))
same-other l t s g place code None f k =
    same-breaks l t s place causes.Code (other_step g place (t g.header code))
same-other l t s g place code (Some lines) f k =
    let n = k.takes.codes code lines f in
    subst (λ (x : Option (List Tap)). Same l t (moves_to s AtValues) (other_step g place x)) (sym n.taps)
    (same-moves l t s g AtValues k refl)

-- ---- a token, by where it stands

same-at : (l : Lines) (t : Taps) (early : Bool) (s : Strictly) (g : Gathered) (u : Token) (spot : Spot)
    → s.spot ≡ spot → g.spot ≡ spot → is_sound spot ≡ true → Even l t s g
    → Same l t (step_at strict spot s u) (step_at (taking l t early) spot g u)
same-at l t early s g u AtPreface e f d k = cc d
same-at l t early s g u AtHeader e f d k = cc d
same-at l t early s g u (InSection section) e f d k = cc d
same-at l t early s g u AtValues e f d k =
    same-short-word l t early s g u (is_long u.word) refl (record { even = k; spot = e; other = f })
same-at l t early s g u (AtCode from digits) e f d k =
    let way = taking l t early in
    same-if l t (is_long u.word) (breaks s u.place causes.Token)
    (vector_step strict s u.place from digits (strict.taps s.header u.word)) (breaks g u.place causes.Token)
    (vector_step way g u.place from digits (t g.header u.word))
    (same-breaks l t s u.place causes.Token (breaks g u.place causes.Token))
    (same-vector l t early s g u.place from digits u.word (lines_of s.header.codes u.word) refl d k)
same-at l t early s g u (AtOtherCode from) e f d k =
    same-if l t (is_long u.word) (breaks s u.place causes.Token)
    (other_step s u.place (strict.taps s.header u.word)) (breaks g u.place causes.Token)
    (other_step g u.place (t g.header u.word))
    (same-breaks l t s u.place causes.Token (breaks g u.place causes.Token))
    (same-other l t s g u.place u.word (lines_of s.header.codes u.word) refl k)
same-at l t early s g u (InRemark section) e f d k =
    let over = record s { remarks = s.remarks ++ section ∷ [] } in
    let done = record g { remarks = g.remarks ++ section ∷ [] } in
    let more = InRemark (with_word section u.word) in
    same-if l t (is_end u.word) (moves_to over AtValues) (moves_to s more) (moves_to done AtValues) (moves_to g more)
    (same-moves l t over done AtValues (record { fault = k.fault; none = k.none; time = k.time; takes = k.takes }) refl)
    (same-moves l t s g more k refl)

-- both stand at the same place behind the header
pub record Behind (l : Lines) (t : Taps) (s : Strictly) (g : Gathered) : Type 0 where
  pub even : Even l t s g
  pub spot : g.spot ≡ s.spot
  pub sound : is_sound s.spot ≡ true

pub same-step : (l : Lines) (t : Taps) (early : Bool) (s : Strictly) (g : Gathered) (u : Token) → Behind l t s g
    → Same l t (step strict s u) (step (taking l t early) g u)
same-step l t early s g u k =
    let way = taking l t early in
    same-by l t (step strict s u) (step_at strict s.spot s u) (step way g u) (step_at way s.spot g u)
    (sound-step strict s u k.even.fault)
    (sound-step way g u k.even.none ∙ ap (λ spot. step_at way spot g u) k.spot)
    (same-at l t early s g u s.spot refl k.spot k.sound k.even)
