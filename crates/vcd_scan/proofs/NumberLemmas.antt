-- The numbers of codes: how large they are, and that each is one code's.
use Rattle.std.proofs.Common.{◌≡◌, ℕ, ◌+◌, ◌*◌, ◌-◌, ◌^◌, ◌<◌, ◌≤◌, suc, Bool, true, false, ◌&&◌, nat_eq, nat_le, List, [], ◌∷◌, length, drop, get_or}
use Rattle.std.proofs.Common.{Option, Some, None, refl, sym, ap, ◌∙◌, arith}
use Rattle.std.proofs.lemmas.Nat.{pow-add}
use Rattle.std.proofs.Math.Nat.{pow-le-pow_right}
use Rattle.std.proofs.lemmas.Bool.{and_parts, and_from, leb-true, false≢true, eq-eqb, ne_eqb}
use Rattle.std.proofs.lemmas.List.{drop_more, length-drop}
use Rattle.std.specs.List.{list_all}
use Rattle.std.specs.Char.{is_ascii_graphic}
use Rattle.std.specs.Cmp.Lexicographic.{same_text, nat_list_eq_equiv}
use Rattle.vcd_grammar.specs.Words.{same}
use Rattle.vcd_scan.specs.CodeNumbers.{numbered, number_of}

-- printable characters
abbrev IsPrintable : ℕ → Type 0
IsPrintable b = (33 ≤ b) × (b ≤ 126)

printable : (b : ℕ) → is_ascii_graphic b ≡ true → IsPrintable b
printable b h = let p = and_parts (nat_le 33 b) (nat_le b 126) h in (leb-true 33 b p.0, leb-true b 126 p.1)

abbrev AllPrintable : List ℕ → Type 0
AllPrintable bs = list_all is_ascii_graphic bs ≡ true

-- the first character, and the others
parts : (b : ℕ) (bs : List ℕ) → AllPrintable (b ∷ bs) → IsPrintable b × AllPrintable bs
parts b bs h = let p = and_parts (is_ascii_graphic b) (list_all is_ascii_graphic bs) h in (printable b p.0, p.1)

pub numbered_lt : (bs : List ℕ) → AllPrintable bs → numbered bs < 2 ^ (7 * length bs)
numbered_lt [] h = omega arith
numbered_lt (b ∷ bs) h =
    let p = parts b bs h in
    let rest = numbered_lt bs p.1 in
    let e : 7 * suc (length bs) ≡ 7 + 7 * length bs = omega arith in
    rw (e, pow-add 2 7 (7 * length bs)) (omega (arith, rest, p.0.0, p.0.1))

-- a number is one code's
pub one_number : (a b : List ℕ) → AllPrintable a → AllPrintable b → numbered a ≡ numbered b → a ≡ b
one_number [] [] f g h = refl
one_number [] (y ∷ b) f g h = let q = parts y b g in absurd (omega (arith, h, q.0.0))
one_number (x ∷ a) [] f g h = let p = parts x a f in absurd (omega (arith, h, p.0.0))
one_number (x ∷ a) (y ∷ b) f g h =
    let p = parts x a f in
    let q = parts y b g in
    let first : x ≡ y = omega (arith, h, p.0.0, p.0.1, q.0.0, q.0.1) in
    let rest : numbered a ≡ numbered b = omega (arith, h, p.0.0, p.0.1, q.0.0, q.0.1) in
    λ i. first i ∷ one_number a b p.1 q.1 rest i

-- what has a number is printable, and its number is that
says : (code : List ℕ) (n : ℕ) → number_of code ≡ Some n → AllPrintable code × (numbered code ≡ n)
says code n h = by (nat_le (length code) 9 && list_all is_ascii_graphic code) refl
  where
    by : (b : Bool) → (nat_le (length code) 9 && list_all is_ascii_graphic code) ≡ b → AllPrintable code × (numbered code ≡ n)
    by true t = let k : Some (numbered code) ≡ Some n = rw t at h in
        ((and_parts (nat_le (length code) 9) (list_all is_ascii_graphic code) t).1, cc)
    by false t = let k : ◌≡◌ {A = Option ℕ} None (Some n) = rw t at h in absurd cc

-- numbers are equal where codes are
pub same_number : (code other : List ℕ) (n m : ℕ) → number_of code ≡ Some n → number_of other ≡ Some m
    → nat_eq n m ≡ same code other
same_number code other n m h k = by (same code other) refl
  where
    by : (b : Bool) → same code other ≡ b → nat_eq n m ≡ same code other
    by true t =
        let e : Some n ≡ Some m = sym h ∙ ap number_of (same_text code other (sym t)) ∙ k in
        let one : n ≡ m = cc in
        eq-eqb n m one ∙ sym t
    by false t =
        let p = says code n h in
        let q = says other m k in
        ne_eqb n m (λ e. false≢true (sym t
        ∙ ap (same code) (sym (one_number code other p.0 q.0 (p.1 ∙ e ∙ sym q.1)))
        ∙ nat_list_eq_equiv.refl code)) ∙ sym t

pub other_number : (code other : List ℕ) (n : ℕ) → number_of code ≡ Some n → number_of other ≡ None
    → same code other ≡ false
other_number code other n h k = by (same code other) refl
  where
    by : (b : Bool) → same code other ≡ b → same code other ≡ false
    by true t =
        let e : ◌≡◌ {A = Option ℕ} (Some n) None = sym h ∙ ap number_of (same_text code other (sym t)) ∙ k in
        absurd cc
    by false t = t

pub none_number : (code other : List ℕ) (m : ℕ) → number_of code ≡ None → number_of other ≡ Some m
    → same code other ≡ false
none_number code other m h k = by (same code other) refl
  where
    by : (b : Bool) → same code other ≡ b → same code other ≡ false
    by true t =
        let e : ◌≡◌ {A = Option ℕ} None (Some m) = sym h ∙ ap number_of (same_text code other (sym t)) ∙ k in
        absurd cc
    by false t = t

-- one more character
pub numbered_more : (code : List ℕ) (left : ℕ) → left < length code
    → (get_or code left 0 - 32) + 94 * numbered (drop (left + 1) code) ≡ numbered (drop left code)
numbered_more code left h = ap numbered (sym (drop_more code left 0 h))

pub printable_more : (code : List ℕ) (left : ℕ) → left < length code → is_ascii_graphic (get_or code left 0) ≡ true
    → AllPrintable (drop (left + 1) code) → AllPrintable (drop left code)
printable_more code left h one rest = ap (list_all is_ascii_graphic) (drop_more code left 0 h)
    ∙ and_from (is_ascii_graphic (get_or code left 0)) (list_all is_ascii_graphic (drop (left + 1) code)) one rest

pub numbered_small : (code : List ℕ) (left : ℕ) → length code ≤ 9 → 0 < left → AllPrintable (drop left code)
    → numbered (drop left code) < 2 ^ 56
numbered_small code left short some h =
    let rest = length-drop left code in
    omega (
      arith,
      numbered_lt (drop left code) h,
      pow-le-pow_right {n = 2} (omega arith) {i = 7 * length (drop left code)} {j = 56}
          (omega (arith, rest, short, some)),
    )
