-- A text is cut at its separators: lines that are joined to equal texts are equal.
use Rattle.std.proofs.Common.{◌≡◌, ◌≤◌, ◌+◌, ◌/◌, ◌%◌, ℕ, zero, suc, Bool, true, false, cond, List, [], ◌∷◌, ◌++◌}
use Rattle.std.proofs.Common.{◌<◌, ◌^◌, not, length, take, drop, refl, sym, ap, append_assoc, ◌∙◌, arith}
use Rattle.std.specs.Prelude.{◌==◌, nat_lt}
use Rattle.std.specs.Fmt.{decimal, digits, digits_onto, digit_glyph}
use Rattle.std.specs.List.{flat_map, list_all}
use Rattle.std.specs.Str.Parse.{digits_value}
use Rattle.std.proofs.Math.Seq.{take-append_seam, drop-append_seam}
use Rattle.std.proofs.lemmas.Bool.{and_from, and_parts, lt-ltb, ltb-true, ltb-false, ne_eqb}
use Rattle.std.proofs.lemmas.Fmt.{digits_is_IsNumeral}
use Rattle.std.proofs.lemmas.List.Folds.{list_all-append}
use Rattle.fsb_io.specs.NumberText.{hexadecimal}

-- each byte is above this one
abbrev pub are_above : ℕ → List ℕ → Bool
are_above low bytes = list_all (nat_lt low) bytes

pub above-append : (low : ℕ) (a b : List ℕ) → are_above low a ≡ true → are_above low b ≡ true
    → are_above low (a ++ b) ≡ true
above-append low a b p q = list_all-append (nat_lt low) a b ∙ and_from _ _ p q

-- two texts that are equal: so are what stands before the first separator, and what stands behind it
pub cut_same : (low mark : ℕ) (a b x y : List ℕ) → mark ≤ low → are_above low a ≡ true → are_above low b ≡ true
    → a ++ mark ∷ x ≡ b ++ mark ∷ y → (a ≡ b) × (x ≡ y)
cut_same low mark [] [] x y h p q e = (refl, cc)
cut_same low mark [] (c ∷ b) x y h p q e =
    let first : mark ≡ c = cc in
    absurd (omega (arith, h, first, ltb-true low c (and_parts (nat_lt low c) (are_above low b) q).0))
cut_same low mark (c ∷ a) [] x y h p q e =
    let first : c ≡ mark = cc in
    absurd (omega (arith, h, first, ltb-true low c (and_parts (nat_lt low c) (are_above low a) p).0))
cut_same low mark (c ∷ a) (d ∷ b) x y h p q e =
    let first : c ≡ d = cc in
    let behind : a ++ mark ∷ x ≡ b ++ mark ∷ y = cc in
    let rest = cut_same low mark a b x y h (and_parts (nat_lt low c) (are_above low a) p).1
    (and_parts (nat_lt low d) (are_above low b) q).1 behind in
    (λ i. first i ∷ rest.0 i, rest.1)

-- a line: it ends with a line feed, and every byte before that is a space or above
pub record IsLine (line : List ℕ) : Type 0 where
  pub body : List ℕ
  pub plain : are_above 31 body ≡ true
  pub ends : line ≡ body ++ 10 ∷ []

-- each of them is a line
abbrev pub AreLines : List (List ℕ) → Type 0
AreLines [] = Unit {0}
AreLines (line ∷ lines) = IsLine line × AreLines lines

pub lines-append : (a b : List (List ℕ)) → AreLines a → AreLines b → AreLines (a ++ b)
lines-append [] b p q = q
lines-append (line ∷ a) b p q = (p.0, lines-append a b p.1 q)

-- lines one after another
abbrev pub joined : List (List ℕ) → List ℕ
joined lines = flat_map (λ line. line) lines

-- a line before others
joined-first : (line : List ℕ) (lines : List (List ℕ)) (l : IsLine line)
    → joined (line ∷ lines) ≡ l.body ++ 10 ∷ joined lines
joined-first line lines l =
    ap (λ t. t ++ joined lines) l.ends ∙ append_assoc l.body (10 ∷ []) (joined lines)

-- a text with a line feed in it is not empty
some_text : (a x : List ℕ) → [] ≡ a ++ 10 ∷ x → ⊥
some_text [] x e = cc
some_text (c ∷ a) x e = cc

pub joined_same : (v w : List (List ℕ)) → AreLines v → AreLines w → joined v ≡ joined w → v ≡ w
joined_same [] [] p q e = refl
joined_same [] (line ∷ w) p q e = absurd (some_text q.0.body (joined w) (e ∙ joined-first line w q.0))
joined_same (line ∷ v) [] p q e = absurd (some_text p.0.body (joined v) (sym e ∙ joined-first line v p.0))
joined_same (line ∷ v) (other ∷ w) p q e =
    let both : p.0.body ++ 10 ∷ joined v ≡ q.0.body ++ 10 ∷ joined w =
    sym (joined-first line v p.0) ∙ e ∙ joined-first other w q.0 in
    let cut = cut_same 31 10 p.0.body q.0.body (joined v) (joined w) (omega arith) p.0.plain q.0.plain both in
    let first : line ≡ other = p.0.ends ∙ ap (λ t. t ++ 10 ∷ []) cut.0 ∙ sym q.0.ends in
    let rest = joined_same v w p.1 q.1 cut.1 in
    λ i. first i ∷ rest i

-- ---- numbers

-- every digit is a byte from `0` to `9`, or from `a` on
glyph_passes : (p : ℕ → Bool) → ((d : ℕ) → d < 10 → p (48 + d) ≡ true) → ((d : ℕ) → 10 ≤ d → p (87 + d) ≡ true)
    → (d : ℕ) → p (digit_glyph false d) ≡ true
glyph_passes p low high d = by (nat_lt d 10) refl
  where
    by : (t : Bool) → nat_lt d 10 ≡ t → p (cond t (48 + d) (87 + d)) ≡ true
    by true e = low d (ltb-true d 10 e)
    by false e = high d (ltb-false d 10 e)

either_passes : (p : ℕ → Bool) (t : Bool) (a b : List ℕ) → list_all p a ≡ true → list_all p b ≡ true
    → list_all p (cond t a b) ≡ true
either_passes p true a b h k = h
either_passes p false a b h k = k

-- a test that every digit passes
onto_passes : (p : ℕ → Bool) (base k n : ℕ) (ds : List ℕ) → ((d : ℕ) → p (digit_glyph false d) ≡ true)
    → list_all p ds ≡ true → list_all p (digits_onto k base false n ds) ≡ true
onto_passes p base zero n ds each h = h
onto_passes p base (suc k) n ds each h =
    let digit = digit_glyph false (n % base) in
    let more : list_all p (digit ∷ ds) ≡ true = and_from _ _ (each (n % base)) h in
    either_passes p (n / base == 0) (digit ∷ ds) (digits_onto k base false (n / base) (digit ∷ ds)) more
    (onto_passes p base k (n / base) (digit ∷ ds) each more)

glyph_above : (d : ℕ) → nat_lt 32 (digit_glyph false d) ≡ true
glyph_above = glyph_passes (nat_lt 32) (λ d l. lt-ltb 32 (48 + d) (omega arith))
    (λ d l. lt-ltb 32 (87 + d) (omega arith))

-- the digits of a number are above the space
pub decimal_above : (n : ℕ) → are_above 32 (decimal n) ≡ true
unfolding digits
decimal_above n = onto_passes (nat_lt 32) 10 64 n [] glyph_above refl

pub hexadecimal_above : (n : ℕ) → are_above 32 (hexadecimal n) ≡ true
unfolding digits
hexadecimal_above n = onto_passes (nat_lt 32) 16 64 n [] glyph_above refl

-- what is above the space is of a line
pub above_more : (bytes : List ℕ) → are_above 32 bytes ≡ true → are_above 31 bytes ≡ true
above_more [] h = refl
above_more (b ∷ bytes) h =
    let parts = and_parts (nat_lt 32 b) (are_above 32 bytes) h in
    and_from _ _ (lt-ltb 31 b (omega (arith, ltb-true 32 b parts.0))) (above_more bytes parts.1)

-- no digit is a question mark
is_no_question : ℕ → Bool
is_no_question b = not (b == 63)

no_question : (d : ℕ) → is_no_question (digit_glyph false d) ≡ true
unfolding is_no_question
no_question = glyph_passes is_no_question (λ d l. ap not (ne_eqb (48 + d) 63 (λ e. omega (arith, l, e))))
    (λ d l. ap not (ne_eqb (87 + d) 63 (λ e. omega (arith, l, e))))

pub hexadecimal_known : (n : ℕ) → hexadecimal n ≡ 63 ∷ [] → ⊥
unfolding digits is_no_question
hexadecimal_known n e =
    let no : list_all is_no_question (63 ∷ []) ≡ true =
    ap (list_all is_no_question) (sym e) ∙ onto_passes is_no_question 16 64 n [] no_question refl in
    cc

-- numbers of the same text are the same
pub hexadecimal_same : (m n : ℕ) → m < 2 ^ 64 → n < 2 ^ 64 → hexadecimal m ≡ hexadecimal n → m ≡ n
hexadecimal_same m n a b e =
    sym (digits_is_IsNumeral 16 false (omega arith) (omega arith) m (omega (arith, a))).1 ∙ ap (digits_value 16) e
    ∙ (digits_is_IsNumeral 16 false (omega arith) (omega arith) n (omega (arith, b))).1

-- ---- lists

-- two lists that are equal, and cut at the same place
pub parts_same : {X : Type 0} (a b x y : List X) → length a ≡ length b → a ++ x ≡ b ++ y → (a ≡ b) × (x ≡ y)
parts_same a b x y long e = (
  sym (take-append_seam a x) ∙ ap (take (length a)) e ∙ ap (λ n. take n (b ++ y)) long ∙ take-append_seam b y,
  sym (drop-append_seam a x) ∙ ap (drop (length a)) e ∙ ap (λ n. drop n (b ++ y)) long ∙ drop-append_seam b y,
)
