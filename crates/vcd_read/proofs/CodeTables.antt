-- The map of the declared codes, and the table of those of one byte.
use Rattle.std.proofs.Common.{◌≡◌, ℕ, Bool, true, false, List, [], ◌∷◌, ◌++◌, length, ◌==◌, Option, Some, None}
use Rattle.std.proofs.Common.{slice_get, slice_set, replicate, cond, refl, sym, ap, subst, ◌∙◌, arith, suc, zero}
use Rattle.std.specs.Cmp.Lexicographic.{same_text, other_text, nat_list_eq_equiv}
use Rattle.std.proofs.lemmas.Bool.{ne_eqb}
use Rattle.vcd_grammar.specs.Words.{same}
use Rattle.vcd_grammar.specs.Codes.{Code, lines_of, with_code}
use Rattle.vcd_read.specs.CodesView.{Agree, lines_or_none, only_of, with_single}

-- no table of nothing tells a line
pub none_single : (n byte number : ℕ) → slice_get (replicate n None) byte ≡ Some (Some number) → ⊥
none_single zero byte number h = cc
none_single (suc n) zero number h = cc
none_single (suc n) (suc byte) number h = none_single n byte number h

-- a code is itself
same-self : (code : List ℕ) → same code code ≡ true
same-self code = nat_list_eq_equiv.refl code

-- the lines of the code that has got one more variable
pub with_code-same : (cs : List Code) (code line : List ℕ)
    → lines_of (with_code cs code line) code ≡ Some (lines_or_none (lines_of cs code) ++ line)
with_code-same [] code line = rw (same-self code) refl
with_code-same (c ∷ cs) code line = by (same code c.code) refl (with_code-same cs code line)
  where
    by : (b : Bool) → same code c.code ≡ b
        → lines_of (with_code cs code line) code ≡ Some (lines_or_none (lines_of cs code) ++ line)
        → lines_of (with_code (c ∷ cs) code line) code ≡ Some (lines_or_none (lines_of (c ∷ cs) code) ++ line)
    by true t rest = rw t (rw t refl)
    by false t rest = rw t (rw t rest)

-- the lines of another code
pub with_code-other : (cs : List Code) (code line other : List ℕ) → same other code ≡ false
    → lines_of (with_code cs code line) other ≡ lines_of cs other
with_code-other [] code line other h = rw h refl
with_code-other (c ∷ cs) code line other h = by (same code c.code) refl (with_code-other cs code line other h)
  where
    by : (b : Bool) → same code c.code ≡ b → lines_of (with_code cs code line) other ≡ lines_of cs other
        → lines_of (with_code (c ∷ cs) code line) other ≡ lines_of (c ∷ cs) other
    by true t rest = let e : same other c.code ≡ false =
        subst (λ w. same other w ≡ false) (same_text code c.code (sym t)) h in rw t (rw e refl)
    by false t rest = rw t (ap (λ r. cond (same other c.code) (Some c.lines) r) rest)

-- what was put into a table
get-set_same : {X : Type 0} (xs : List X) (i : ℕ) (v w : X) → slice_get (slice_set xs i v) i ≡ Some w → v ≡ w
get-set_same [] i v w h = cc
get-set_same (x ∷ xs) zero v w h = cc
get-set_same (x ∷ xs) (suc i) v w h = get-set_same xs i v w h

get-set_other : {X : Type 0} (xs : List X) (i j : ℕ) (v : X) → (i ≡ j → ⊥)
    → slice_get (slice_set xs i v) j ≡ slice_get xs j
get-set_other [] i j v h = refl
get-set_other (x ∷ xs) zero zero v h = absurd (h refl)
get-set_other (x ∷ xs) zero (suc j) v h = refl
get-set_other (x ∷ xs) (suc i) zero v h = refl
get-set_other (x ∷ xs) (suc i) (suc j) v h = get-set_other xs i j v (λ e. h (ap suc e))

-- the only one of some lines
only_is : (lines : List ℕ) (number : ℕ) → only_of lines ≡ Some number → lines ≡ number ∷ []
only_is [] number h = absurd cc
only_is (n ∷ []) number h = cc
only_is (n ∷ m ∷ lines) number h = absurd cc

-- a table of another code is not changed
other_single : (single : List (Option ℕ)) (code : List ℕ) (only : Option ℕ) (byte : ℕ)
    → same (byte ∷ []) code ≡ false → slice_get (with_single single code only) byte ≡ slice_get single byte
other_single single [] only byte h = refl
other_single single (b ∷ []) only byte h =
    get-set_other single b byte only (λ e. other_text _ _ (sym h) (ap (λ n. n ∷ []) (sym e)))
other_single single (b ∷ c ∷ code) only byte h =
    let many : (length (b ∷ c ∷ code) == 1) ≡ false = ne_eqb (length (b ∷ c ∷ code)) 1 (λ e. omega (arith, e)) in
    ap (λ t. slice_get (cond t (slice_set single b only) single) byte) many

-- the table still tells only what is so, once a code has got one more variable
pub agree_more : (single : List (Option ℕ)) (codes : List Code) (code line joined : List ℕ) (only : Option ℕ)
    → Agree single codes → joined ≡ lines_or_none (lines_of codes code) ++ line → only ≡ only_of joined
    → Agree (with_single single code only) (with_code codes code line)
agree_more single codes code line joined only agree is only_one =
    record { tells = λ byte number h. by byte number h (same (byte ∷ []) code) refl }
  where
    by : (byte number : ℕ) → slice_get (with_single single code only) byte ≡ Some (Some number) → (b : Bool)
        → same (byte ∷ []) code ≡ b
        → lines_of (with_code codes code line) (byte ∷ []) ≡ Some (number ∷ [])
    by byte number h true t =
        let e : byte ∷ [] ≡ code = same_text (byte ∷ []) code (sym t) in
        let k : slice_get (slice_set single byte only) byte ≡ Some (Some number) =
        subst (λ w. slice_get (with_single single w only) byte ≡ Some (Some number)) (sym e) h in
        let one : joined ≡ number ∷ [] =
        only_is joined number (sym only_one ∙ get-set_same single byte only (Some number) k) in
        rw e (with_code-same codes code line ∙ ap Some (sym is ∙ one))
    by byte number h false t =
        with_code-other codes code line (byte ∷ []) t
        ∙ agree.tells byte number (sym (other_single single code only byte t) ∙ h)
