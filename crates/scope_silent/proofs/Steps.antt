-- In the way of wires no line without a wire changes.
use Rattle.std.proofs.Common.{◌≡◌, ℕ, Bool, true, false, not, ◌&&◌, ◌==◌, if◌then◌else◌, is_some, nat_lt, List, [], ◌∷◌, ◌++◌, map, Option, Some, None, codes, refl, ap}
use Rattle.std.specs.List.{list_all}
use Rattle.std.proofs.lemmas.Bool.{and_parts, and_from, or_left, or_right, eq-eqb}
use Rattle.vcd_grammar.specs.declared.fault.VcdCause.TheVariants as causes
use Rattle.vcd_grammar.specs.Tokens.{Token, is_long}
use Rattle.vcd_grammar.specs.Words.{HeaderWord, Declares, Finishes, Ends, Opens, Bare, header_word, is_dollar, is_end, same}
use Rattle.vcd_grammar.specs.Words.{ValueWord, Stamp, Scalar, Vector, Foreign, Mark, Section, Wrong}
use Rattle.vcd_grammar.specs.Judging.{is_declared}
use Rattle.vcd_way.specs.declared.tap.Tap.{Tap}
use Rattle.vcd_way.specs.Declarations.{DumpSection, Declaration, declaration_of, with_word}
use Rattle.vcd_way.specs.Ways.{Keeps, ValueRules, Way}
use Rattle.vcd_way.specs.Pieces.{Happening, Comes, Gets, Switches}
use Rattle.vcd_way.specs.Events.{whole}
use Rattle.vcd_way.specs.Lawful.{IsLawfulWay}
use Rattle.vcd_way.specs.Steps.{Spot, AtPreface, AtHeader, InSection, AtValues, AtCode, AtOtherCode, InRemark, DumpState}
use Rattle.vcd_way.specs.Steps.{Step, reads_past, moves_to, breaks, if_short, header_step}
use Rattle.vcd_way.specs.Steps.{kept_step, declared_step, section_end, section_step, is_declaring, digits_by}
use Rattle.vcd_way.specs.Steps.{value_word_by, comes, stamp_step, given, scalar_step, is_too_wide_for}
use Rattle.vcd_way.specs.Steps.{vector_digits, vector_step, other_step, stops, resumes, mark_step, value_step, may_be_long}
use Rattle.vcd_way.specs.Steps.{remark_step, step_at, step, happenings_in}
use Rattle.scope_wiring.specs.declared.wire.Wire.{Wire}
use Rattle.scope_way.specs.Wired.{wired_lines, wired_way, AreLawfulWires, holds_always}
use Rattle.scope_way.proofs.Lawfulness.{way_is_lawful}
use Rattle.scope_silent.proofs.Taps.{is_of, changes_of, whole-of}

-- ---- the lines of wires

wider : (n : ℕ) (ls ks : List ℕ) → list_all (is_declared ls) ks ≡ true → list_all (is_declared (n ∷ ls)) ks ≡ true
wider n ls [] h = refl
wider n ls (k ∷ ks) h =
    let both = and_parts (is_declared ls k) (list_all (is_declared ls) ks) h in
    and_from _ _ (or_right (n == k) (is_declared ls k) both.0) (wider n ls ks both.1)

-- each of some lines is among them
own : (ls : List ℕ) → list_all (is_declared ls) ls ≡ true
own [] = refl
own (n ∷ ls) = and_from _ _ (or_left (n == n) (is_declared ls n) (eq-eqb n n refl)) (wider n ls ls (own ls))

-- ---- what happens

-- what happens changes no line but these
abbrev pub stays_in : List ℕ → Happening → Bool
stays_in ls (Comes stamp) = true
stays_in ls (Gets change) = changes_of ls change
stays_in ls (Switches switch lines) = list_all (is_declared ls) lines

-- a step does so
abbrev Stays : {W : Type 0} → List ℕ → Step W → Type 0
Stays ls y = list_all (stays_in ls) y.happenings ≡ true

-- a way by which no line but these changes
record Within {W : Type 0} (ls : List ℕ) (way : Way W) : Type 0 where
  declares : (s : DumpState W) (place : ℕ) (d : Declaration) → Stays ls (kept_step s place (way.declares s.header d))
  closes : (s : DumpState W) (place : ℕ) → Stays ls (kept_step s place (way.closes s.header))
  lines : (h : W) → list_all (is_declared ls) (way.lines h) ≡ true
  taps : (h : W) (code : List ℕ) (taps : List Tap) → way.taps h code ≡ Some taps → list_all (is_of ls) taps ≡ true

alone : (b : Bool) → b ≡ true → (b && true) ≡ true
alone b h = ap (λ x. x && true) h

kept : {W : Type 0} (ls lines : List ℕ) (s : DumpState W) (place : ℕ) (h : W) → list_all (is_declared ls) lines ≡ true
    → Stays ls (kept_step s place (Keeps h lines))
kept ls [] s place h there = refl
kept ls (n ∷ lines) s place h there =
    alone (list_all (is_of ls) (map whole (n ∷ lines))) (whole-of ls (n ∷ lines) there)

wires-within : (ws : List Wire) (m : ValueRules) → AreLawfulWires ws → Within (wired_lines ws) (wired_way ws m)
wires-within ws m fit =
    let law : IsLawfulWay (wired_way ws m) holds_always = way_is_lawful (λ ds. ws) m (λ ds. fit) in
    record {
      declares = λ s place d. refl;
      closes = λ s place. kept (wired_lines ws) (wired_lines ws) s place s.header (own (wired_lines ws));
      lines = λ h. own (wired_lines ws);
      taps = λ h code taps e. law.declared h code taps refl e;
    }

stays-if : {W : Type 0} (ls : List ℕ) (b : Bool) (x y : Step W) → Stays ls x → Stays ls y
    → Stays ls (if b then x else y)
stays-if ls true x y p q = p
stays-if ls false x y p q = q

-- ---- the header

in-declared : {W : Type 0} (ls : List ℕ) (way : Way W) (s : DumpState W) (place : ℕ) (d : Option Declaration)
    → Within ls way → Stays ls (declared_step way s place d)
in-declared ls way s place None w = refl
in-declared ls way s place (Some d) w = w.declares s place d

in-end : {W : Type 0} (ls : List ℕ) (way : Way W) (s : DumpState W) (section : DumpSection) (word : HeaderWord)
    → Within ls way → Stays ls (section_end way s section word)
in-end ls way s section Declares w =
    in-declared ls way (record s { spot = AtHeader }) section.place (declaration_of way.rules.widest s.path section) w
in-end ls way s section Finishes w = w.closes (record s { spot = AtValues }) section.place
in-end ls way s section Ends w = refl
in-end ls way s section Opens w = refl
in-end ls way s section Bare w = refl

in-section : {W : Type 0} (ls : List ℕ) (way : Way W) (s : DumpState W) (section : DumpSection) (t : Token)
    → Within ls way → Stays ls (section_step way s section t)
in-section ls way s section t w =
    let word = header_word section.keyword in
    let more = moves_to s (InSection (with_word section t.word)) in
    stays-if ls (is_long t.word && is_declaring word) (breaks s t.place causes.Token)
    (if is_end t.word then section_end way s section word else more) refl
    (stays-if ls (is_end t.word) (section_end way s section word) more (in-end ls way s section word w) refl)

in-header : {W : Type 0} (ls : List ℕ) (s : DumpState W) (t : Token) (word : HeaderWord) → Stays ls (header_step s t word)
in-header ls s t Declares = refl
in-header ls s t Finishes = refl
in-header ls s t Ends = refl
in-header ls s t Opens = refl
in-header ls s t Bare = refl

in-short : {W : Type 0} (ls : List ℕ) (s : DumpState W) (t : Token) (y : Step W) → Stays ls y → Stays ls (if_short s t y)
in-short ls s t y p = stays-if ls (is_long t.word) (breaks s t.place causes.Token) y refl p

-- ---- the values

in-stamp : {W : Type 0} (ls : List ℕ) (s : DumpState W) (place time : ℕ) (last : Option ℕ)
    → Stays ls (stamp_step s place time last)
in-stamp ls s place time None = refl
in-stamp ls s place time (Some last) =
    stays-if ls (nat_lt time last) (breaks s place causes.TimeBack)
    (if nat_lt last time then comes s place time else reads_past s) refl
    (stays-if ls (nat_lt last time) (comes s place time) (reads_past s) refl refl)

in-given : {W : Type 0} (ls : List ℕ) (s : DumpState W) (place : ℕ) (taps : List Tap) (digits : Option (List ℕ))
    → list_all (is_of ls) taps ≡ true → Stays ls (given s place taps digits)
in-given ls s place taps (Some ds) there = alone (list_all (is_of ls) taps) there
in-given ls s place [] None there = refl
in-given ls s place (tap ∷ taps) None there = refl

in-scalar : {W : Type 0} (ls : List ℕ) (way : Way W) (s : DumpState W) (place digit : ℕ) (o : Option (List Tap))
    → ((taps : List Tap) → o ≡ Some taps → list_all (is_of ls) taps ≡ true) → Stays ls (scalar_step way s place digit o)
in-scalar ls way s place digit None there = refl
in-scalar ls way s place digit (Some taps) there =
    in-given ls s place taps (digits_by way.rules (digit ∷ [])) (there taps refl)

in-vector : {W : Type 0} (ls : List ℕ) (way : Way W) (s : DumpState W) (place from : ℕ) (digits : List ℕ)
    (o : Option (List Tap)) → ((taps : List Tap) → o ≡ Some taps → list_all (is_of ls) taps ≡ true)
    → Stays ls (vector_step way s place from digits o)
in-vector ls way s place from digits None there = refl
in-vector ls way s place from digits (Some taps) there =
    stays-if ls (is_too_wide_for taps digits) (breaks s from causes.Width)
    (given s from taps (vector_digits way.rules digits)) refl
    (in-given ls s from taps (vector_digits way.rules digits) (there taps refl))

in-other : {W : Type 0} (ls : List ℕ) (s : DumpState W) (place : ℕ) (o : Option (List Tap)) → Stays ls (other_step s place o)
in-other ls s place None = refl
in-other ls s place (Some taps) = refl

in-mark : {W : Type 0} (ls : List ℕ) (way : Way W) (s : DumpState W) (word : List ℕ) → Within ls way
    → Stays ls (mark_step way s word)
in-mark ls way s word w =
    let lines = alone (list_all (is_declared ls) (way.lines s.header)) (w.lines s.header) in
    let on = way.rules.tells_holes && (s.is_off && same (codes "$dumpon") word) in
    stays-if ls (way.rules.tells_holes && same (codes "$dumpoff") word) (stops way s)
    (if on then resumes way s else reads_past s) lines
    (stays-if ls on (resumes way s) (reads_past s) lines refl)

in-value : {W : Type 0} (ls : List ℕ) (way : Way W) (s : DumpState W) (t : Token) (word : ValueWord) → Within ls way
    → Stays ls (value_step way s t word)
in-value ls way s t (Stamp time) w = in-stamp ls s t.place time s.time
in-value ls way s t (Scalar digit code) w =
    in-scalar ls way s t.place digit (way.taps s.header code) (λ taps e. w.taps s.header code taps e)
in-value ls way s t (Vector digits) w = refl
in-value ls way s t Foreign w = refl
in-value ls way s t Mark w = in-mark ls way s t.word w
in-value ls way s t Section w = refl
in-value ls way s t Wrong w = refl

in-remark : {W : Type 0} (ls : List ℕ) (s : DumpState W) (section : DumpSection) (t : Token)
    → Stays ls (remark_step s section t)
in-remark ls s section t =
    stays-if ls (is_end t.word) (moves_to (record s { remarks = s.remarks ++ section ∷ [] }) AtValues)
    (moves_to s (InRemark (with_word section t.word))) refl refl

-- ---- tokens

in-place : {W : Type 0} (ls : List ℕ) (way : Way W) (spot : Spot) (s : DumpState W) (t : Token) → Within ls way
    → Stays ls (step_at way spot s t)
in-place ls way AtPreface s t w =
    let word = header_step s t (header_word t.word) in
    stays-if ls (is_dollar t.word) (if_short s t word) (reads_past s)
    (in-short ls s t word (in-header ls s t (header_word t.word))) refl
in-place ls way AtHeader s t w =
    in-short ls s t (header_step s t (header_word t.word)) (in-header ls s t (header_word t.word))
in-place ls way (InSection section) s t w = in-section ls way s section t w
in-place ls way AtValues s t w =
    let word = value_word_by way.rules t.word in
    stays-if ls (not (way.rules.takes_any && may_be_long word) && is_long t.word) (breaks s t.place causes.Token)
    (value_step way s t word) refl (in-value ls way s t word w)
in-place ls way (AtCode from digits) s t w =
    let taps = way.taps s.header t.word in
    in-short ls s t (vector_step way s t.place from digits taps)
    (in-vector ls way s t.place from digits taps (λ ts e. w.taps s.header t.word ts e))
in-place ls way (AtOtherCode from) s t w =
    let taps = way.taps s.header t.word in
    in-short ls s t (other_step s t.place taps) (in-other ls s t.place taps)
in-place ls way (InRemark section) s t w = in-remark ls s section t

in-step : {W : Type 0} (ls : List ℕ) (way : Way W) (s : DumpState W) (t : Token) → Within ls way → Stays ls (step way s t)
unfolding step
in-step ls way s t w =
    stays-if ls (is_some s.fault) (reads_past s) (step_at way s.spot s t) refl (in-place ls way s.spot s t w)

both-stay : (ls : List ℕ) (a b : List Happening) → list_all (stays_in ls) a ≡ true → list_all (stays_in ls) b ≡ true
    → list_all (stays_in ls) (a ++ b) ≡ true
both-stay ls [] b p q = q
both-stay ls (x ∷ a) b p q =
    let both = and_parts (stays_in ls x) (list_all (stays_in ls) a) p in
    and_from (stays_in ls x) (list_all (stays_in ls) (a ++ b)) both.0 (both-stay ls a b both.1 q)

all-stay : {W : Type 0} (ls : List ℕ) (way : Way W) (s : DumpState W) (ts : List Token) → Within ls way
    → list_all (stays_in ls) (happenings_in way s ts) ≡ true
all-stay ls way s [] w = refl
all-stay ls way s (t ∷ ts) w =
    both-stay ls (step way s t).happenings (happenings_in way (step way s t).state ts) (in-step ls way s t w)
    (all-stay ls way (step way s t).state ts w)

-- whatever the tokens are, they change no line without a wire
pub wires-stay : (ws : List Wire) (m : ValueRules) (s : DumpState (List Declaration)) (ts : List Token) → AreLawfulWires ws
    → list_all (stays_in (wired_lines ws)) (happenings_in (wired_way ws m) s ts) ≡ true
wires-stay ws m s ts fit = all-stay (wired_lines ws) (wired_way ws m) s ts (wires-within ws m fit)
