-- The lines of loads and stores read back.
use Rattle.std.proofs.Common.{◌≡◌, ℕ, ◌*◌, ◌%◌, ◌^◌, ◌<◌, ◌≤◌, Bool, true, false, eqb, List, [], ◌∷◌, ◌++◌, length, Ok}
use Rattle.std.proofs.Common.{refl, arith, lit<}
use Rattle.std.specs.Prelude.{◌&&◌, codes, nat_lt, nat_le, slice_index}
use Rattle.std.specs.List.{list_all}
use Rattle.std.specs.Fmt.{decimal}
use Rattle.std.proofs.lemmas.Bool.{le-leb, leb-true, leb-false, lt-ltb, ltb-true, ne_eqb, and_parts}
use Rattle.std.proofs.lemmas.List.{append-nil, append_assoc}
use Rattle.std.proofs.Math.Nat.{pow-le-pow_right}
use Rattle.fsb_io.specs.NumberText.{hexadecimal}
use Rattle.fsb_access.specs.declared.access.Access.{Access}
use Rattle.fsb_access.specs.declared.access.Access.TheVariants.{Load, Store}
use Rattle.fsb_access.specs.declared.access.Operand.{Operand}
use Rattle.fsb_access.specs.declared.access.Operand.TheVariants.{Literal, LastPlus}
use Rattle.fsb_access.specs.Access.{is_size, is_place, fits, number_of, is_lawful_access}
use Rattle.fsb_script.specs.TextWords.{line_ended, address}
use Rattle.fsb_script.specs.Statements.{size_at, aligned_at, load_of, store_of, operand_of, literal_of, is_added}
use Rattle.fsb_script.specs.Text.{access_text, operand_text}
use Rattle.fsb_script_laws.proofs.Numbers.{is_figure, Figures, hex_figures, hex_back}
use Rattle.fsb_script_laws.proofs.Split.{is_inner, Word, plain_inner, figures_word, decimal_next, hex_next, hex_last}
use Rattle.fsb_script_laws.proofs.Split.{hex_inner, next_behind, decimal_inner, inner_append}

above : (n : ℕ) → 8 < n → is_size n ≡ false
above n h = rw (
  ne_eqb n 1 (λ e. omega arith),
  ne_eqb n 2 (λ e. omega arith),
  ne_eqb n 4
      (λ e. omega arith),
  ne_eqb n 8 (λ e. omega arith),
) refl

pub size_small : (n : ℕ) → is_size n ≡ true → n ≤ 8
size_small n size = by (nat_le n 8) refl
  where
    by : (t : Bool) → nat_le n 8 ≡ t → n ≤ 8
    by true e = leb-true n 8 e
    by false e = let off : is_size n ≡ false = above n (leb-false n 8 e) in absurd cc

-- the facts of an access's place, one by one
pub record Place (size addr : ℕ) : Type 0 where
  pub size_is : is_size size ≡ true
  pub small : size ≤ 8
  pub below : addr < 2 ^ 36
  pub aligned : (eqb (addr % size) 0) ≡ true

pub place_is : (size addr : ℕ) → is_place size addr ≡ true → Place size addr
place_is size addr h =
    let two : (is_size size && nat_lt addr (2 ^ 36)) ≡ true =
    (and_parts (is_size size && nat_lt addr (2 ^ 36)) (eqb (addr % size) 0) h).0 in
    let size_is : is_size size ≡ true = (and_parts (is_size size) (nat_lt addr (2 ^ 36)) two).0 in
    record {
      size_is = size_is;
      small = size_small size size_is;
      below = ltb-true addr (2 ^ 36) (and_parts (is_size size) (nat_lt addr (2 ^ 36)) two).1;
      aligned = (and_parts (is_size size && nat_lt addr (2 ^ 36)) (eqb (addr % size) 0) h).1;
    }

-- ---- where an access is

abbrev pub load_words : ℕ → ℕ → List ℕ
load_words size addr = decimal size ++ (32 ∷ hexadecimal addr)

pub load_back : (size addr : ℕ) → Place size addr → load_of (32 ∷ load_words size addr) ≡ Ok (Load size addr)
unfolding load_of size_at aligned_at address line_ended
load_back size addr at =
    let small : size < 10 ^ 18 = omega (arith, at.small) in
    let wide : addr < 16 ^ 16 = omega (arith, at.below) in
    rw (decimal_next size (32 ∷ hexadecimal addr) small refl)
    (rw (at.size_is) (rw (hex_last addr wide) (rw (lt-ltb addr (2 ^ 36) at.below) (rw (at.aligned) refl))))

-- ---- operands

fits_wide : (size number : ℕ) → size ≤ 8 → fits size number ≡ true → number < 16 ^ 16
fits_wide size number small fit =
    let bits : 8 * size ≤ 64 = omega arith in
    let most : 2 ^ (8 * size) ≤ 2 ^ 64 = pow-le-pow_right {n = 2} (lit< tt) bits in
    let below : number < 2 ^ (8 * size) = ltb-true number (2 ^ (8 * size)) fit in
    omega arith

literal_back : (size number : ℕ) → size ≤ 8 → fits size number ≡ true → literal_of size (hexadecimal number) ≡ Ok number
unfolding literal_of
literal_back size number small fit = rw (hex_back number (fits_wide size number small fit)) (rw fit refl)

no_first : (a b : Bool) → (a && (false && b)) ≡ false
no_first true b = refl
no_first false b = refl

not_added : (word : List ℕ) → list_all is_figure word ≡ true → is_added word ≡ false
not_added [] all = refl
not_added (b ∷ bs) all =
    let here : is_figure b ≡ true = (and_parts (is_figure b) (list_all is_figure bs) all).0 in
    let high : b ≤ 102 = leb-true b 102 (and_parts (nat_le 48 b) (nat_le b 102) here).1 in
    rw (ne_eqb b 114 (λ e. omega arith)) (no_first (nat_le 2 (length (b ∷ bs))) (eqb (slice_index (b ∷ bs) 1) 43))

operand_back : (size : ℕ) (value : Operand) → size ≤ 8 → fits size (number_of value) ≡ true
    → operand_of size (operand_text value) ≡ Ok value
unfolding operand_of
operand_back size (Literal number) small fit =
    let figures : Figures 16 (hexadecimal number) = hex_figures 15 number (lit< tt) (fits_wide size number small fit) in
    rw (not_added (hexadecimal number) figures.all) (rw (literal_back size number small fit) refl)
operand_back size (LastPlus number) small fit =
    let two : nat_le 2 (length (114 ∷ (43 ∷ hexadecimal number))) ≡ true =
    le-leb 2 (length (114 ∷ (43 ∷ hexadecimal number))) (omega arith) in
    rw two (rw (literal_back size number small fit) refl)

operand_word : (size : ℕ) (value : Operand) → size ≤ 8 → fits size (number_of value) ≡ true → Word (operand_text value)
operand_word size (Literal number) small fit =
    figures_word 16 (hexadecimal number) (hex_figures 15 number (lit< tt) (fits_wide size number small fit))
operand_word size (LastPlus number) small fit =
    let w : Word (hexadecimal number) = figures_word 16 (hexadecimal number)
    (hex_figures 15 number (lit< tt) (fits_wide size number small fit)) in
    record { some = omega arith; plain = w.plain }

-- ---- stores

abbrev pub store_words : ℕ → ℕ → Operand → List ℕ
store_words size addr value = decimal size ++ (32 ∷ (hexadecimal addr ++ (32 ∷ operand_text value)))

pub store_back : (size addr : ℕ) (value : Operand) → Place size addr → fits size (number_of value) ≡ true
    → store_of (32 ∷ store_words size addr value) ≡ Ok (Store size addr value)
unfolding store_of size_at aligned_at address line_ended
store_back size addr value at fit =
    let small : size < 10 ^ 18 = omega (arith, at.small) in
    let wide : addr < 16 ^ 16 = omega (arith, at.below) in
    rw (decimal_next size (32 ∷ (hexadecimal addr ++ (32 ∷ operand_text value))) small refl)
    (rw (at.size_is) (rw (hex_next addr (32 ∷ operand_text value) wide refl)
    (rw (lt-ltb addr (2 ^ 36) at.below) (rw (at.aligned)
    (rw (rw append-nil at (next_behind (operand_text value) [] (operand_word size value at.small fit) refl))
    (rw (operand_back size value at.small fit) refl))))))

-- ---- the lines

-- the line of an access, without its line feed
abbrev pub access_line : Access → List ℕ
access_line (Load size addr) = codes "ld " ++ load_words size addr
access_line (Store size addr value) = codes "st " ++ store_words size addr value

pub access_line_is : (access : Access) (rest : List ℕ) → access_text access ++ rest ≡ access_line access ++ (10 ∷ rest)
unfolding access_text
access_line_is (Load size addr) rest = simp append_assoc
access_line_is (Store size addr value) rest = simp append_assoc

place_inner : (size addr : ℕ) (rest : List ℕ) → Place size addr → list_all is_inner rest ≡ true
    → list_all is_inner (decimal size ++ (32 ∷ (hexadecimal addr ++ rest))) ≡ true
place_inner size addr rest at inner =
    let small : size < 10 ^ 18 = omega (arith, at.small) in
    let wide : addr < 16 ^ 16 = omega (arith, at.below) in
    inner_append (decimal size) (32 ∷ (hexadecimal addr ++ rest)) (decimal_inner size small)
    (inner_append (hexadecimal addr) rest (hex_inner addr wide) inner)

pub access_inner : (access : Access) → is_lawful_access access ≡ true → list_all is_inner (access_line access) ≡ true
access_inner (Load size addr) lawful =
    let whole = place_inner size addr [] (place_is size addr lawful) refl in
    inner_append (codes "ld ") (load_words size addr) refl (rw append-nil at whole)
access_inner (Store size addr value) lawful =
    let at : Place size addr = place_is size addr
    (and_parts (is_place size addr) (fits size (number_of value)) lawful).0 in
    let fit : fits size (number_of value) ≡ true =
    (and_parts (is_place size addr) (fits size (number_of value)) lawful).1 in
    inner_append (codes "st ") (store_words size addr value) refl
    (place_inner size addr (32 ∷ operand_text value) at
    (plain_inner (operand_text value) (operand_word size value at.small fit).plain))
