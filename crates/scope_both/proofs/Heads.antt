-- In the header, a token that is no fault in the strict way does the same in the way of wires.
use Rattle.std.proofs.Common.{◌≡◌, ℕ, ◌≤◌, Bool, true, false, ◌&&◌, ◌||◌, ◌==◌, if◌then◌else◌, List, [], ◌∷◌, ◌++◌}
use Rattle.std.proofs.Common.{nat_eq, nat_le, Option, Some, None, refl, sym, ap, subst, ◌∙◌, append-nil, arith}
use Rattle.std.proofs.lemmas.Bool.{eqb-true, and_parts, leb-true, le-leb}
use Rattle.fsb_signal.specs.DumpText.{width_of}
use Rattle.fsb_signal.specs.Table.{table, signal_number}
use Rattle.vcd_grammar.specs.declared.fault.VcdCause.{VcdCause}
use Rattle.vcd_grammar.specs.declared.fault.VcdCause.TheVariants as causes
use Rattle.vcd_grammar.specs.Tokens.{Token, is_long}
use Rattle.vcd_grammar.specs.Digits.{is_number, number_from, number_up_to}
use Rattle.vcd_grammar.specs.Words.{HeaderWord, Declares, Finishes, Ends, Opens, Bare, header_word, is_dollar, is_end}
use Rattle.vcd_grammar.specs.Words.{is_foreign_type, name_in}
use Rattle.vcd_grammar.specs.Codes.{with_code}
use Rattle.vcd_grammar.specs.Judging.{is_declared, missing_from}
use Rattle.vcd_way.specs.Declarations.{DumpSection, Declaration, declaration_of, declaration_with, with_word, word_of_section}
use Rattle.vcd_way.specs.Ways.{Keeps, Refuses}
use Rattle.vcd_way.specs.Steps.{Spot, AtPreface, AtHeader, InSection, AtValues, Step, reads_past, moves_to, breaks}
use Rattle.vcd_way.specs.Steps.{header_step, if_short, unknown_from_here, kept_step, declared_step, path_after}
use Rattle.vcd_way.specs.Steps.{section_kept, section_end, is_declaring, section_step, step_at, step, section_at}
use Rattle.vcd_way.specs.Strict.{StrictHeader, strict, with_other, with_strict_line, strict_named, strict_declares}
use Rattle.vcd_way.specs.Strict.{strict_closed, strict_closes}
use Rattle.vcd_way.proofs.Interface.{sound-step}
use Rattle.scope_both.proofs.Codes.{Knows, knows-more}
use Rattle.scope_both.proofs.Steps.{Strictly, Gathered, Lines, Taps, taking}

-- both know the same of a header, and no fault
pub record Heads (s : Strictly) (g : Gathered) : Type 0 where
  pub fault : s.fault ≡ None
  pub none : g.fault ≡ None
  pub time : g.time ≡ s.time
  pub path : g.path ≡ s.path
  pub knows : Knows g.header s.header

-- both stand between the sections, the second perhaps before the first `$`; or in the same section
pub data Place (a b : Spot) : Type 0 where
  Outside : (p : Bool) → a ≡ AtHeader → b ≡ (if p then AtPreface else AtHeader) → Place a b
  Inside : (section : DumpSection) → a ≡ InSection section → b ≡ InSection section → Place a b

-- the header goes on: the lines that were declared are unknown in the strict way
pub record GoesOn (s : Strictly) (y : Step StrictHeader) (z : Step (List Declaration)) : Type 0 where
  pub heads : Heads y.state z.state
  pub place : Place y.state.spot z.state.spot
  pub added : List ℕ
  pub lines : y.state.header.lines ≡ s.header.lines ++ added
  pub happens : y.happenings ≡ unknown_from_here added
  pub quiet : z.happenings ≡ []

-- the header is over: the lines that are taken are unknown in the second way
pub record IsOver (l : Lines) (s : Strictly) (g : Gathered) (y : Step StrictHeader) (z : Step (List Declaration)) : Type 0 where
  pub heads : Heads y.state z.state
  pub here : y.state.spot ≡ AtValues
  pub there : z.state.spot ≡ AtValues
  pub lines : y.state.header ≡ s.header
  pub other : z.state.header ≡ g.header
  pub quiet : y.happenings ≡ []
  pub happens : z.happenings ≡ unknown_from_here (l g.header)

-- a token did the same
pub data Heading (l : Lines) (s : Strictly) (g : Gathered) (y : Step StrictHeader) (z : Step (List Declaration)) : Type 0 where
  On : GoesOn s y z → Heading l s g y z
  Over : IsOver l s g y z → Heading l s g y z

-- unless it is a fault in the strict way
abbrev Same : Lines → Strictly → Gathered → Step StrictHeader → Step (List Declaration) → Type 0
Same l s g y z = y.state.fault ≡ None → Heading l s g y z

same-if : (l : Lines) (s : Strictly) (g : Gathered) (b : Bool) (x y : Step StrictHeader) (p q : Step (List Declaration))
    → Same l s g x p → Same l s g y q → Same l s g (if b then x else y) (if b then p else q)
same-if l s g true x y p q f h = f
same-if l s g false x y p q f h = h

same-breaks : (l : Lines) (s : Strictly) (g : Gathered) (r : Strictly) (place : ℕ) (cause : VcdCause)
    (z : Step (List Declaration)) → Same l s g (breaks r place cause) z
same-breaks l s g r place cause z h = cc h

same-by : (l : Lines) (s : Strictly) (g : Gathered) (y x : Step StrictHeader) (z w : Step (List Declaration)) → y ≡ x
    → z ≡ w → Same l s g x w → Same l s g y z
same-by l s g y x z w e f p = subst (λ r. Same l s g r z) (sym e) (subst (λ r. Same l s g x r) (sym f) p)

-- a token that declares nothing
same-moves : (l : Lines) (s : Strictly) (g : Gathered) (a b : Spot) → Heads s g → Place a b
    → Same l s g (moves_to s a) (moves_to g b)
same-moves l s g a b k p h = On (record {
  heads = record { fault = k.fault; none = k.none; time = k.time; path = k.path; knows = k.knows };
  place = p;
  added = [];
  lines = sym (append-nil s.header.lines);
  happens = refl;
  quiet = refl;
})

-- ---- between the sections

same-word : (l : Lines) (s : Strictly) (g : Gathered) (u : Token) (w : HeaderWord) → Heads s g
    → Same l s g (header_step s u w) (header_step g u w)
same-word l s g u Declares k =
    same-moves l s g (InSection (section_at u)) (InSection (section_at u)) k (Inside (section_at u) refl refl)
same-word l s g u Finishes k =
    same-moves l s g (InSection (section_at u)) (InSection (section_at u)) k (Inside (section_at u) refl refl)
same-word l s g u Ends k = same-moves l s g AtHeader AtHeader k (Outside false refl refl)
same-word l s g u Opens k =
    same-moves l s g (InSection (section_at u)) (InSection (section_at u)) k (Inside (section_at u) refl refl)
same-word l s g u Bare k = same-breaks l s g s u.place causes.Header (header_step g u Bare)

same-short : (l : Lines) (s : Strictly) (g : Gathered) (u : Token) → Heads s g
    → Same l s g (if_short s u (header_step s u (header_word u.word))) (if_short g u (header_step g u (header_word u.word)))
same-short l s g u k =
    same-if l s g (is_long u.word) (breaks s u.place causes.Token) (header_step s u (header_word u.word))
    (breaks g u.place causes.Token) (header_step g u (header_word u.word))
    (same-breaks l s g s u.place causes.Token (breaks g u.place causes.Token)) (same-word l s g u (header_word u.word) k)

-- a word without `$` opens no section
bare-byte : (b : ℕ) → (b == 36) ≡ false → nat_eq 36 b ≡ false
bare-byte b h = by (nat_eq 36 b) refl
  where
    by : (x : Bool) → nat_eq 36 b ≡ x → x ≡ false
    by true e = let n : b ≡ 36 = sym (eqb-true 36 b e) in
        let wrong : true ≡ false = sym (ap (λ k. k == 36) n) ∙ h in cc wrong
    by false e = refl

bare : (word : List ℕ) → is_dollar word ≡ false → header_word word ≡ Bare
unfolding header_word
bare [] h = refl
bare (b ∷ bs) h = let e = bare-byte b h in rw (e, h) refl

breaks-bare : (s : Strictly) (u : Token) (b : Bool)
    → (if b then breaks s u.place causes.Token else breaks s u.place causes.Header).state.fault ≡ None → ⊥
breaks-bare s u true h = cc h
breaks-bare s u false h = cc h

same-bare : (l : Lines) (s : Strictly) (g : Gathered) (u : Token) → is_dollar u.word ≡ false
    → Same l s g (if_short s u (header_step s u (header_word u.word))) (reads_past g)
same-bare l s g u e h =
    absurd (breaks-bare s u (is_long u.word)
    (subst (λ w. (if_short s u (header_step s u w)).state.fault ≡ None) (bare u.word e) h))

same-preface : (l : Lines) (s : Strictly) (g : Gathered) (u : Token) (b : Bool) → is_dollar u.word ≡ b → Heads s g
    → Same l s g (if_short s u (header_step s u (header_word u.word)))
    (if b then if_short g u (header_step g u (header_word u.word)) else reads_past g)
same-preface l s g u true e k = same-short l s g u k
same-preface l s g u false e k = same-bare l s g u e

same-outside : (l : Lines) (t : Taps) (early : Bool) (s : Strictly) (g : Gathered) (u : Token) (p : Bool) → Heads s g
    → Same l s g (step_at strict AtHeader s u) (step_at (taking l t early) (if p then AtPreface else AtHeader) g u)
same-outside l t early s g u true k = same-preface l s g u (is_dollar u.word) refl k
same-outside l t early s g u false k = same-short l s g u k

-- ---- declarations

-- a number that is not above one limit is not above a greater one
number-if : (b : Bool) (n low high : ℕ) (many : Bool) → (many && nat_le n low) ≡ b → low ≤ high
    → b ≡ true → (if many && nat_le n high then Some n else None) ≡ Some n
number-if b n low high many e few h =
    let parts = and_parts many (nat_le n low) (e ∙ h) in
    let fits : n ≤ high = omega (arith, leb-true n low parts.1, few) in
    λ i. if parts.0 i && le-leb n high fits i then Some n else None

same-number : (low high : ℕ) (word : List ℕ) (n : ℕ) → low ≤ high → number_up_to low word ≡ Some n
    → number_up_to high word ≡ Some n
unfolding number_up_to
same-number low high word n few h =
    by (is_number word && nat_le (number_from 0 word) low) refl h
  where
    by : (b : Bool) → (is_number word && nat_le (number_from 0 word) low) ≡ b
        → (if b then Some (number_from 0 word) else None) ≡ Some n
        → (if is_number word && nat_le (number_from 0 word) high then Some (number_from 0 word) else None) ≡ Some n
    by true e f = number-if true (number_from 0 word) low high (is_number word) e few refl ∙ f
    by false e f = cc f

same-declaration : (low high : ℕ) (path : List (List ℕ)) (section : DumpSection) (d : Declaration) → low ≤ high
    → declaration_of low path section ≡ Some d → declaration_of high path section ≡ Some d
unfolding declaration_of
same-declaration low high path section d few h =
    by (number_up_to low (word_of_section section 1)) refl h
  where
    by : (n : Option ℕ) → number_up_to low (word_of_section section 1) ≡ n
        → declaration_with path section n ≡ Some d
        → declaration_with path section (number_up_to high (word_of_section section 1)) ≡ Some d
    by None e f = cc f
    by (Some n) e f =
        ap (declaration_with path section) (same-number low high (word_of_section section 1) n few e) ∙ f

-- what is kept of a declaration
same-kept : (l : Lines) (s : Strictly) (g : Gathered) (place : ℕ) (d : Declaration) (ls line added : List ℕ)
    → Heads s g → ls ≡ s.header.lines ++ added
    → Same l s g
    (kept_step (record s { spot = AtHeader }) place
    (Keeps (record { lines = ls; codes = with_code s.header.codes d.code line }) added))
    (kept_step (record g { spot = AtHeader }) place (Keeps (g.header ++ d ∷ []) []))
same-kept l s g place d ls line added k e h = On (record {
  heads = record {
    fault = k.fault;
    none = k.none;
    time = k.time;
    path = k.path;
    knows = knows-more g.header d s.header ls line k.knows;
  };
  place = Outside false refl refl;
  added = added;
  lines = e;
  happens = refl;
  quiet = refl;
})

same-named : (l : Lines) (s : Strictly) (g : Gathered) (place : ℕ) (d : Declaration) (number : Option ℕ) → Heads s g
    → Same l s g (kept_step (record s { spot = AtHeader }) place (strict_named s.header d number))
    (kept_step (record g { spot = AtHeader }) place (Keeps (g.header ++ d ∷ []) []))
same-named l s g place d None k =
    same-kept l s g place d s.header.lines [] [] k (sym (append-nil s.header.lines))
same-named l s g place d (Some number) k =
    by (is_foreign_type d.kind || is_declared s.header.lines number) (d.width == width_of number)
  where
    by : (a b : Bool) → Same l s g
        (kept_step (record s { spot = AtHeader }) place
        (if a then with_other s.header d.code
        else (if b then with_strict_line s.header d.code number else Refuses causes.Width)))
        (kept_step (record g { spot = AtHeader }) place (Keeps (g.header ++ d ∷ []) []))
    by true b = same-kept l s g place d s.header.lines [] [] k (sym (append-nil s.header.lines))
    by false true = same-kept l s g place d (s.header.lines ++ number ∷ []) (number ∷ []) (number ∷ []) k refl
    by false false =
        same-breaks l s g (record s { spot = AtHeader }) place causes.Width
        (kept_step (record g { spot = AtHeader }) place (Keeps (g.header ++ d ∷ []) []))

same-declares : (l : Lines) (s : Strictly) (g : Gathered) (place : ℕ) (d : Declaration) → Heads s g
    → Same l s g (kept_step (record s { spot = AtHeader }) place (strict_declares s.header d))
    (kept_step (record g { spot = AtHeader }) place (Keeps (g.header ++ d ∷ []) []))
unfolding strict_declares
same-declares l s g place d k = same-named l s g place d (signal_number (name_in d.reference)) k

same-declared : (l : Lines) (t : Taps) (early : Bool) (s : Strictly) (g : Gathered) (section : DumpSection)
    (d : Option Declaration) → declaration_of 1000000 s.path section ≡ d → Heads s g
    → Same l s g (declared_step strict (record s { spot = AtHeader }) section.place d)
    (declared_step (taking l t early) (record g { spot = AtHeader }) section.place
    (declaration_of 4294967295 g.path section))
same-declared l t early s g section None e k =
    same-breaks l s g (record s { spot = AtHeader }) section.place causes.Header
    (declared_step (taking l t early) (record g { spot = AtHeader }) section.place
    (declaration_of 4294967295 g.path section))
same-declared l t early s g section (Some d) e k =
    let wide : declaration_of 4294967295 g.path section ≡ Some d =
    ap (λ p. declaration_of 4294967295 p section) k.path
    ∙ same-declaration 1000000 4294967295 s.path section d (omega arith) e in
    subst (λ (x : Option Declaration). Same l s g
    (kept_step (record s { spot = AtHeader }) section.place (strict_declares s.header d))
    (declared_step (taking l t early) (record g { spot = AtHeader }) section.place x)) (sym wide)
    (same-declares l s g section.place d k)

-- the end of the header
same-closed : (l : Lines) (s : Strictly) (g : Gathered) (place : ℕ) (missing : Option ℕ) → Heads s g
    → Same l s g (kept_step (record s { spot = AtValues }) place (strict_closed s.header missing))
    (kept_step (record g { spot = AtValues }) place (Keeps g.header (l g.header)))
same-closed l s g place None k = λ h. Over (record {
  heads = record { fault = k.fault; none = k.none; time = k.time; path = k.path; knows = k.knows };
  here = refl;
  there = refl;
  lines = refl;
  other = refl;
  quiet = refl;
  happens = refl;
})
same-closed l s g place (Some number) k =
    same-breaks l s g (record s { spot = AtValues }) place (causes.Missing number)
    (kept_step (record g { spot = AtValues }) place (Keeps g.header (l g.header)))

same-closes : (l : Lines) (s : Strictly) (g : Gathered) (place : ℕ) → Heads s g
    → Same l s g (kept_step (record s { spot = AtValues }) place (strict_closes s.header))
    (kept_step (record g { spot = AtValues }) place (Keeps g.header (l g.header)))
unfolding strict_closes
same-closes l s g place k = same-closed l s g place (missing_from s.header.lines 0 table) k

-- a section that declares nothing
same-section : (l : Lines) (s : Strictly) (g : Gathered) (section : DumpSection) → Heads s g
    → Same l s g (moves_to (section_kept s section) AtHeader) (moves_to (section_kept g section) AtHeader)
same-section l s g section k h = On (record {
  heads = record {
    fault = k.fault;
    none = k.none;
    time = k.time;
    path = ap (λ p. path_after p section) k.path;
    knows = k.knows;
  };
  place = Outside false refl refl;
  added = [];
  lines = sym (append-nil s.header.lines);
  happens = refl;
  quiet = refl;
})

same-end : (l : Lines) (t : Taps) (early : Bool) (s : Strictly) (g : Gathered) (section : DumpSection) (w : HeaderWord)
    → Heads s g → Same l s g (section_end strict s section w) (section_end (taking l t early) g section w)
same-end l t early s g section Declares k =
    same-declared l t early s g section (declaration_of 1000000 s.path section) refl k
same-end l t early s g section Finishes k = same-closes l s g section.place k
same-end l t early s g section Ends k = same-section l s g section k
same-end l t early s g section Opens k = same-section l s g section k
same-end l t early s g section Bare k = same-section l s g section k

same-inside : (l : Lines) (t : Taps) (early : Bool) (s : Strictly) (g : Gathered) (section : DumpSection) (u : Token)
    → Heads s g → Same l s g (section_step strict s section u) (section_step (taking l t early) g section u)
same-inside l t early s g section u k =
    let w = header_word section.keyword in
    let more = InSection (with_word section u.word) in
    same-if l s g (is_long u.word && is_declaring w) (breaks s u.place causes.Token)
    (if is_end u.word then section_end strict s section w else moves_to s more) (breaks g u.place causes.Token)
    (if is_end u.word then section_end (taking l t early) g section w else moves_to g more)
    (same-breaks l s g s u.place causes.Token (breaks g u.place causes.Token))
    (same-if l s g (is_end u.word) (section_end strict s section w) (moves_to s more)
    (section_end (taking l t early) g section w) (moves_to g more) (same-end l t early s g section w k)
    (same-moves l s g more more k (Inside (with_word section u.word) refl refl)))

-- ---- a token of the header

same-place : (l : Lines) (t : Taps) (early : Bool) (s : Strictly) (g : Gathered) (u : Token) → Heads s g
    → Place s.spot g.spot → Same l s g (step_at strict s.spot s u) (step_at (taking l t early) g.spot g u)
same-place l t early s g u k (Outside p e f) =
    same-by l s g (step_at strict s.spot s u) (step_at strict AtHeader s u)
    (step_at (taking l t early) g.spot g u) (step_at (taking l t early) (if p then AtPreface else AtHeader) g u)
    (ap (λ x. step_at strict x s u) e) (ap (λ x. step_at (taking l t early) x g u) f)
    (same-outside l t early s g u p k)
same-place l t early s g u k (Inside section e f) =
    same-by l s g (step_at strict s.spot s u) (section_step strict s section u)
    (step_at (taking l t early) g.spot g u) (section_step (taking l t early) g section u)
    (ap (λ x. step_at strict x s u) e) (ap (λ x. step_at (taking l t early) x g u) f)
    (same-inside l t early s g section u k)

pub same-head : (l : Lines) (t : Taps) (early : Bool) (s : Strictly) (g : Gathered) (u : Token) → Heads s g
    → Place s.spot g.spot → Same l s g (step strict s u) (step (taking l t early) g u)
same-head l t early s g u k p =
    same-by l s g (step strict s u) (step_at strict s.spot s u) (step (taking l t early) g u)
    (step_at (taking l t early) g.spot g u) (sound-step strict s u k.fault)
    (sound-step (taking l t early) g u k.none) (same-place l t early s g u k p)
