-- In the strict way a section of the header does what the grammar says.
use Rattle.std.proofs.Common.{◌≡◌, ℕ, Bool, true, false, not, ◌&&◌, ◌||◌, ◌==◌, if◌then◌else◌, List, [], ◌∷◌, ◌++◌}
use Rattle.std.proofs.Common.{length, take, nat_le, Option, Some, None, refl, sym, ap, subst, ◌∙◌, arith}
use Rattle.std.proofs.lemmas.Bool.{le-leb}
use Rattle.std.specs.List.{list_all}
use Rattle.fsb_signal.specs.Table.{table, signal_number}
use Rattle.fsb_signal.specs.DumpText.{width_of}
use Rattle.vcd_grammar.specs.declared.fault.VcdCause.TheVariants as causes
use Rattle.vcd_grammar.specs.Tokens.{Token, is_long}
use Rattle.vcd_grammar.specs.Digits.{is_value_digit, number_up_to, width_in}
use Rattle.vcd_grammar.specs.Words.{HeaderWord, Declares, Finishes, Ends, Opens, Bare, header_word, is_end, name_in}
use Rattle.vcd_grammar.specs.Words.{is_foreign_type, is_code_word}
use Rattle.vcd_grammar.specs.Judging.{Draft, Mode, Header, Variable, Skipped, Closing, Values, Pending, Beside, Passed}
use Rattle.vcd_grammar.specs.Judging.{Known, TokenTurn, stays, goes_to, fails, draft_at, drafted, is_declared, other_declared}
use Rattle.vcd_grammar.specs.Judging.{line_declared, named, with_width, declared, missing_from, closed_with, closed}
use Rattle.vcd_grammar.specs.Judging.{header_turn, turn_in}
use Rattle.vcd_way.specs.Declarations.{DumpSection, Declaration, with_word, declaration_with, declaration_of}
use Rattle.vcd_way.specs.Ways.{Refuses}
use Rattle.vcd_way.specs.Steps.{Spot, AtPreface, AtHeader, InSection, AtValues, AtCode, AtOtherCode, InRemark, DumpState}
use Rattle.vcd_way.specs.Steps.{Step, moves_to, breaks, header_step, kept_step, declared_step}
use Rattle.vcd_way.specs.Steps.{section_end, section_step, is_declaring}
use Rattle.vcd_way.specs.Strict.{StrictHeader, with_other, with_strict_line, strict_named, strict_declares, strict_closed}
use Rattle.vcd_way.specs.Strict.{strict_closes, strict}
use Rattle.vcd_way.proofs.Blocks.{Alike}

-- ---- the grammar's words for a state

-- a declaration with these further words
abbrev pub draft_from : Draft → List (List ℕ) → Draft
draft_from d [] = d
draft_from d (w ∷ ws) = draft_from (drafted d w) ws

abbrev pub mode_of_section : DumpSection → HeaderWord → Mode
mode_of_section section Declares = Variable (draft_from (draft_at section.place) section.words)
mode_of_section section Finishes = Closing section.place
mode_of_section section Ends = Skipped
mode_of_section section Opens = Skipped
mode_of_section section Bare = Skipped

abbrev pub mode_of_spot : Spot → Mode
mode_of_spot AtPreface = Header
mode_of_spot AtHeader = Header
mode_of_spot (InSection section) = mode_of_section section (header_word section.keyword)
mode_of_spot AtValues = Values
mode_of_spot (AtCode place digits) = Pending place (take 65 digits)
mode_of_spot (AtOtherCode place) = Beside
mode_of_spot (InRemark section) = Passed

abbrev pub known_of : DumpState StrictHeader → Known
known_of s = record {
  fault = s.fault;
  mode = mode_of_spot s.spot;
  lines = s.header.lines;
  codes = s.header.codes;
  time = s.time;
}

-- the strict way has no words before the header, and a vector has digits alone
abbrev pub is_sound : Spot → Bool
is_sound AtPreface = false
is_sound AtHeader = true
is_sound (InSection section) = true
is_sound AtValues = true
is_sound (AtCode place digits) = list_all is_value_digit digits
is_sound (AtOtherCode place) = true
is_sound (InRemark section) = true

-- a token does the same
pub record Follows (x : TokenTurn) (y : Step StrictHeader) : Type 0 where
  pub known : x.known ≡ known_of y.state
  pub alike : Alike x.events y.happenings
  pub sound : is_sound y.state.spot ≡ true

pub follows-if : (b : Bool) (x z : TokenTurn) (y w : Step StrictHeader) → Follows x y → Follows z w
    → Follows (if b then x else z) (if b then y else w)
follows-if true x z y w p q = p
follows-if false x z y w p q = q

-- the state at a spot
abbrev pub at : DumpState StrictHeader → Spot → DumpState StrictHeader
at s spot = record s { spot = spot }

-- ---- declarations

kept : (d : Draft) (w : List ℕ) → d.count ≡ 4 → drafted d w ≡ d
unfolding drafted
kept d w e = rw e refl

-- further words say nothing
full : (d : Draft) (ws : List (List ℕ)) → d.count ≡ 4 → draft_from d ws ≡ d
full d [] e = refl
full d (w ∷ ws) e = ap (λ x. draft_from x ws) (kept d w e) ∙ full d ws e

draft-snoc : (d : Draft) (ws : List (List ℕ)) (w : List ℕ) → draft_from d (ws ++ w ∷ []) ≡ drafted (draft_from d ws) w
draft-snoc d [] w = refl
draft-snoc d (x ∷ ws) w = draft-snoc (drafted d x) ws w

no_width : width_in [] ≡ None
unfolding number_up_to
no_width = refl

-- a declaration of four words
abbrev draft_of : ℕ → List ℕ → Option ℕ → List ℕ → List ℕ → Draft
draft_of place a width c e = record {
  place = place;
  count = 4;
  is_line = not (is_foreign_type a);
  width = width;
  code = c;
  line = signal_number (name_in e);
}

-- a declaration with a width
abbrev declaration : DumpState StrictHeader → ℕ → List ℕ → ℕ → List ℕ → List ℕ → List (List ℕ) → Declaration
declaration s place a width c e ws = record {
  place = place;
  kind = a;
  width = width;
  code = c;
  reference = e;
  after = ws;
  path = s.path;
}

choose : (s : DumpState StrictHeader) (m : Mode) (place n : ℕ) (c : List ℕ) (f d q : Bool)
    → Follows
    (if not (not f) || d then other_declared (record (known_of s) { mode = m }) c
    else (if q then line_declared (record (known_of s) { mode = m }) c n
    else fails (record (known_of s) { mode = Header }) place causes.Width))
    (kept_step (at s AtHeader) place
    (if f || d then with_other s.header c
    else (if q then with_strict_line s.header c n else Refuses causes.Width)))
choose s m place n c true d q = record { known = refl; alike = tt; sound = refl }
choose s m place n c false true q = record { known = refl; alike = tt; sound = refl }
choose s m place n c false false true = record { known = refl; alike = (λ v. refl, tt); sound = refl }
choose s m place n c false false false = record { known = refl; alike = tt; sound = refl }

named-same : (s : DumpState StrictHeader) (m : Mode) (place w : ℕ) (a c e : List ℕ) (ws : List (List ℕ))
    (line : Option ℕ)
    → Follows (named (record (known_of s) { mode = m }) (draft_of place a (Some w) c e) w line)
    (kept_step (at s AtHeader) place (strict_named s.header (declaration s place a w c e ws) line))
named-same s m place w a c e ws None = record { known = refl; alike = tt; sound = refl }
named-same s m place w a c e ws (Some n) =
    choose s m place n c (is_foreign_type a) (is_declared s.header.lines n) (w == width_of n)

coded : (s : DumpState StrictHeader) (m : Mode) (place w : ℕ) (a c e : List ℕ) (ws : List (List ℕ)) (many ok : Bool)
    → many ≡ true
    → Follows
    (if ok then named (record (known_of s) { mode = m }) (draft_of place a (Some w) c e) w (signal_number (name_in e))
    else fails (record (known_of s) { mode = Header }) place causes.Header)
    (declared_step strict (at s AtHeader) place
    (if many && ok then Some (declaration s place a w c e ws) else None))
unfolding strict_declares
coded s m place w a c e ws true true h = named-same s m place w a c e ws (signal_number (name_in e))
coded s m place w a c e ws true false h = record { known = refl; alike = tt; sound = refl }
coded s m place w a c e ws false ok h = cc h

width-same : (s : DumpState StrictHeader) (m : Mode) (section : DumpSection) (a b c e : List ℕ) (ws : List (List ℕ))
    (width : Option ℕ)
    → Follows (with_width (record (known_of s) { mode = m }) (draft_of section.place a width c e) width)
    (declared_step strict (at s AtHeader) section.place
    (declaration_with s.path (record section { words = a ∷ b ∷ c ∷ e ∷ ws }) width))
width-same s m section a b c e ws None = record { known = refl; alike = tt; sound = refl }
width-same s m section a b c e ws (Some w) =
    let count = length (a ∷ b ∷ c ∷ e ∷ ws) in
    coded s m section.place w a c e ws (nat_le 4 count) (is_code_word c) (le-leb 4 count (omega arith))

words-same : (s : DumpState StrictHeader) (m : Mode) (section : DumpSection) (ws : List (List ℕ))
    → Follows (declared (record (known_of s) { mode = m }) (draft_from (draft_at section.place) ws))
    (declared_step strict (at s AtHeader) section.place (declaration_of 1000000 s.path (record section { words = ws })))
unfolding drafted declared declaration_of
words-same s m section [] = rw no_width (record { known = refl; alike = tt; sound = refl })
words-same s m section (a ∷ []) = rw no_width (record { known = refl; alike = tt; sound = refl })
words-same s m section (a ∷ b ∷ []) = by (width_in b) refl
  where
    by : (width : Option ℕ) → width_in b ≡ width
        → Follows (declared (record (known_of s) { mode = m }) (draft_from (draft_at section.place) (a ∷ b ∷ [])))
        (declared_step strict (at s AtHeader) section.place
        (declaration_of 1000000 s.path (record section { words = a ∷ b ∷ [] })))
    by None e = rw e (record { known = refl; alike = tt; sound = refl })
    by (Some w) e = rw e (record { known = refl; alike = tt; sound = refl })
words-same s m section (a ∷ b ∷ c ∷ []) = by (width_in b) refl
  where
    by : (width : Option ℕ) → width_in b ≡ width
        → Follows (declared (record (known_of s) { mode = m }) (draft_from (draft_at section.place) (a ∷ b ∷ c ∷ [])))
        (declared_step strict (at s AtHeader) section.place
        (declaration_of 1000000 s.path (record section { words = a ∷ b ∷ c ∷ [] })))
    by None e = rw e (record { known = refl; alike = tt; sound = refl })
    by (Some w) e = rw e (record { known = refl; alike = tt; sound = refl })
words-same s m section (a ∷ b ∷ c ∷ e ∷ ws) =
    let d = draft_of section.place a (width_in b) c e in
    subst (λ x. Follows (with_width (record (known_of s) { mode = m }) x x.width)
    (declared_step strict (at s AtHeader) section.place
    (declaration_with s.path (record section { words = a ∷ b ∷ c ∷ e ∷ ws }) (width_in b))))
    (sym (full d ws refl)) (width-same s m section a b c e ws (width_in b))

-- ---- tokens of the header

closed-same : (s : DumpState StrictHeader) (m : Mode) (place : ℕ) (missing : Option ℕ)
    → Follows (closed_with (record (known_of s) { mode = m }) place missing)
    (kept_step (at s AtValues) place (strict_closed s.header missing))
closed-same s m place None = record { known = refl; alike = tt; sound = refl }
closed-same s m place (Some n) = record { known = refl; alike = tt; sound = refl }

pub header-same : (s : DumpState StrictHeader) (t : Token) (w : HeaderWord) → header_word t.word ≡ w
    → Follows (header_turn (known_of (at s AtHeader)) t.place w) (header_step (at s AtHeader) t w)
header-same s t Declares e = record { known = rw e refl; alike = tt; sound = refl }
header-same s t Finishes e = record { known = rw e refl; alike = tt; sound = refl }
header-same s t Ends e = record { known = refl; alike = tt; sound = refl }
header-same s t Opens e = record { known = rw e refl; alike = tt; sound = refl }
header-same s t Bare e = record { known = refl; alike = tt; sound = refl }

-- a section by its keyword, with what a token in it is
section-by : (s : DumpState StrictHeader) (section : DumpSection) (t : Token) (w : HeaderWord) (long last : Bool)
    → header_word section.keyword ≡ w
    → Follows
    (elim w as (λ x. TokenTurn) [
      | Declares ↦ if long then fails (known_of (at s (InSection section))) t.place causes.Token
          else (if last then
          declared (known_of (at s (InSection section))) (draft_from (draft_at section.place) section.words)
          else
          goes_to (known_of (at s (InSection section)))
          (Variable (drafted (draft_from (draft_at section.place) section.words) t.word)))
      | Finishes ↦ if last then closed (known_of (at s (InSection section))) section.place
          else stays (known_of (at s (InSection section)))
      | Ends ↦ if last then goes_to (known_of (at s (InSection section))) Header
          else stays (known_of (at s (InSection section)))
      | Opens ↦ if last then goes_to (known_of (at s (InSection section))) Header
          else stays (known_of (at s (InSection section)))
      | Bare ↦ if last then goes_to (known_of (at s (InSection section))) Header
          else stays (known_of (at s (InSection section)))
    ])
    (if long && is_declaring w then breaks (at s (InSection section)) t.place causes.Token
    else (if last then section_end strict (at s (InSection section)) section w
    else moves_to (at s (InSection section)) (InSection (with_word section t.word))))
unfolding closed strict_closes
section-by s section t Declares true last e = record { known = refl; alike = tt; sound = refl }
section-by s section t Declares false true e =
    words-same s (mode_of_spot (InSection section)) section section.words
section-by s section t Declares false false e =
    record { known = rw (e, draft-snoc (draft_at section.place) section.words t.word) refl; alike = tt; sound = refl }
section-by s section t Finishes true true e =
    closed-same s (mode_of_spot (InSection section)) section.place (missing_from s.header.lines 0 table)
section-by s section t Finishes false true e =
    closed-same s (mode_of_spot (InSection section)) section.place (missing_from s.header.lines 0 table)
section-by s section t Finishes true false e = record { known = rw e refl; alike = tt; sound = refl }
section-by s section t Finishes false false e = record { known = rw e refl; alike = tt; sound = refl }
section-by s section t Ends true true e = record { known = refl; alike = tt; sound = refl }
section-by s section t Ends false true e = record { known = refl; alike = tt; sound = refl }
section-by s section t Ends true false e = record { known = rw e refl; alike = tt; sound = refl }
section-by s section t Ends false false e = record { known = rw e refl; alike = tt; sound = refl }
section-by s section t Opens true true e = record { known = refl; alike = tt; sound = refl }
section-by s section t Opens false true e = record { known = refl; alike = tt; sound = refl }
section-by s section t Opens true false e = record { known = rw e refl; alike = tt; sound = refl }
section-by s section t Opens false false e = record { known = rw e refl; alike = tt; sound = refl }
section-by s section t Bare true true e = record { known = refl; alike = tt; sound = refl }
section-by s section t Bare false true e = record { known = refl; alike = tt; sound = refl }
section-by s section t Bare true false e = record { known = rw e refl; alike = tt; sound = refl }
section-by s section t Bare false false e = record { known = rw e refl; alike = tt; sound = refl }

section-turn : (s : DumpState StrictHeader) (section : DumpSection) (t : Token) (w : HeaderWord)
    → header_word section.keyword ≡ w
    → Follows (turn_in (mode_of_section section w) (known_of (at s (InSection section))) t)
    (if is_long t.word && is_declaring w then breaks (at s (InSection section)) t.place causes.Token
    else (if is_end t.word then section_end strict (at s (InSection section)) section w
    else moves_to (at s (InSection section)) (InSection (with_word section t.word))))
section-turn s section t Declares e = section-by s section t Declares (is_long t.word) (is_end t.word) e
section-turn s section t Finishes e = section-by s section t Finishes (is_long t.word) (is_end t.word) e
section-turn s section t Ends e = section-by s section t Ends (is_long t.word) (is_end t.word) e
section-turn s section t Opens e = section-by s section t Opens (is_long t.word) (is_end t.word) e
section-turn s section t Bare e = section-by s section t Bare (is_long t.word) (is_end t.word) e

pub section-same : (s : DumpState StrictHeader) (section : DumpSection) (t : Token)
    → Follows (turn_in (mode_of_spot (InSection section)) (known_of (at s (InSection section))) t)
    (section_step strict (at s (InSection section)) section t)
section-same s section t = section-turn s section t (header_word section.keyword) refl
