-- The codes that the strict way knows are those that were declared.
use Rattle.std.proofs.Common.{◌≡◌, ℕ, Bool, true, false, ◌||◌, if◌then◌else◌, is_some, List, [], ◌∷◌, ◌++◌}
use Rattle.std.proofs.Common.{Some, None, refl, sym, ap, ◌∙◌}
use Rattle.std.specs.List.{list_any}
use Rattle.std.specs.Cmp.Lexicographic.{same_text}
use Rattle.vcd_grammar.specs.Words.{same}
use Rattle.vcd_grammar.specs.Codes.{Code, with_code, lines_of}
use Rattle.vcd_way.specs.Declarations.{Declaration}
use Rattle.vcd_way.specs.Strict.{StrictHeader}

-- a code was declared
abbrev pub is_coded : List Declaration → List ℕ → Bool
is_coded ds code = list_any (λ (d : Declaration). same code d.code) ds

-- the strict way knows the codes that were declared
abbrev pub Knows : List Declaration → StrictHeader → Type 0
Knows ds h = (code : List ℕ) → is_some (lines_of h.codes code) ≡ is_coded ds code

or-none : (x : Bool) → (x || false) ≡ x
or-none true = refl
or-none false = refl

some-code : (b : Bool) (line : List ℕ) → is_some (if b then Some line else None) ≡ b
some-code true line = refl
some-code false line = refl

-- a code that was there already
known-found : (k : Code) (ks : List Code) (c line code : List ℕ) (b : Bool) → same code k.code ≡ b → k.code ≡ c
    → is_some (if b then Some (k.lines ++ line) else lines_of ks code)
    ≡ (is_some (if b then Some k.lines else lines_of ks code) || same code c)
known-found k ks c line code true e f = refl
known-found k ks c line code false e f =
    sym (ap (λ x. is_some (lines_of ks code) || x) (ap (same code) (sym f) ∙ e) ∙ or-none (is_some (lines_of ks code)))

known-later : (k : Code) (ks more : List Code) (c code : List ℕ) (b : Bool)
    → is_some (lines_of more code) ≡ (is_some (lines_of ks code) || same code c)
    → is_some (if b then Some k.lines else lines_of more code)
    ≡ (is_some (if b then Some k.lines else lines_of ks code) || same code c)
known-later k ks more c code true h = refl
known-later k ks more c code false h = h

known-by : (k : Code) (ks : List Code) (c line code : List ℕ) (b : Bool) → same c k.code ≡ b
    → is_some (lines_of (with_code ks c line) code) ≡ (is_some (lines_of ks code) || same code c)
    → is_some (lines_of (if b then record { code = k.code; lines = k.lines ++ line } ∷ ks else k ∷ with_code ks c line) code)
    ≡ (is_some (lines_of (k ∷ ks) code) || same code c)
known-by k ks c line code true e h =
    known-found k ks c line code (same code k.code) refl (sym (same_text c k.code (sym e)))
known-by k ks c line code false e h = known-later k ks (with_code ks c line) c code (same code k.code) h

known-with : (ks : List Code) (c line code : List ℕ)
    → is_some (lines_of (with_code ks c line) code) ≡ (is_some (lines_of ks code) || same code c)
known-with [] c line code = some-code (same code c) line
known-with (k ∷ ks) c line code = known-by k ks c line code (same c k.code) refl (known-with ks c line code)

or-assoc : (x y z : Bool) → (x || (y || z)) ≡ ((x || y) || z)
or-assoc true y z = refl
or-assoc false y z = refl

coded-more : (ds : List Declaration) (d : Declaration) (code : List ℕ)
    → is_coded (ds ++ d ∷ []) code ≡ (is_coded ds code || same code d.code)
coded-more [] d code = or-none (same code d.code)
coded-more (x ∷ ds) d code =
    ap (λ b. same code x.code || b) (coded-more ds d code)
    ∙ or-assoc (same code x.code) (is_coded ds code) (same code d.code)

-- after one more declaration
pub knows-more : (ds : List Declaration) (d : Declaration) (h : StrictHeader) (ls line : List ℕ) → Knows ds h
    → Knows (ds ++ d ∷ []) (record { lines = ls; codes = with_code h.codes d.code line })
knows-more ds d h ls line k = λ code.
    known-with h.codes d.code line code
    ∙ ap (λ b. b || same code d.code) (k code)
    ∙ sym (coded-more ds d code)
