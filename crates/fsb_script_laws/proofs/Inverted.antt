-- What a line that was read says of its numbers.
use Rattle.std.proofs.Common.{◌≡◌, ℕ, ◌+◌, ◌-◌, ◌*◌, ◌%◌, ◌^◌, ◌<◌, ◌≤◌, Bool, true, false, cond, eqb, List, [], ◌∷◌}
use Rattle.std.proofs.Common.{◌++◌, length, Result, Ok, Err, ◌⊎◌, inl, inr, refl, sym, subst, ◌∙◌, arith, drop}
use Rattle.std.specs.Prelude.{◌&&◌, nat_lt, nat_le, codes}
use Rattle.std.specs.Str.{bytes_eq}
use Rattle.std.specs.List.{list_all}
use Rattle.std.proofs.lemmas.Bool.{leb-true, eqb-false, lt-ltb, and_from, and_parts}
use Rattle.std.proofs.lemmas.List.Folds.{list_all-append}
use Rattle.fsb_access.specs.declared.access.Access.{Access}
use Rattle.fsb_access.specs.declared.access.Access.TheVariants.{Load, Store}
use Rattle.fsb_access.specs.declared.access.Operand.{Operand}
use Rattle.fsb_access.specs.declared.access.Operand.TheVariants.{Literal, LastPlus}
use Rattle.fsb_access.specs.declared.item.Item.TheVariants.{Idle}
use Rattle.fsb_access.specs.Access.{is_size, is_place, fits, number_of, is_lawful_access}
use Rattle.fsb_script.specs.declared.fault.Cause.{Cause}
use Rattle.fsb_hazard.specs.declared.line.HazardLine.{HazardLine}
use Rattle.fsb_hazard.specs.declared.line.HazardLine.TheVariants.{Stall, Trdy, Resp, Gap, Retry, Defer, Aerr, Bnr}
use Rattle.fsb_script.specs.declared.fault.Cause.TheVariants.{Word, Number, Range, Align, Outside}
use Rattle.fsb_script.specs.declared.plan.Window.{Window}
use Rattle.fsb_script.specs.Parsing.{◌>>=◌, require}
use Rattle.fsb_script.specs.Bounds.{is_profile, is_lawful_window, is_lawful_setting, is_lawful_item, is_lawful_hazard}
use Rattle.fsb_script.specs.TextWords.{next_word, line_ended, decimal_within, address, hex_of, hex_digit}
use Rattle.fsb_script.specs.TextWords.{decimal_word, hex_word}
use Rattle.fsb_script.specs.Statements.{size_at, aligned_at, load_of, store_of, literal_of, operand_of, is_added}
use Rattle.fsb_script.specs.Statements.{idle_of, profile_of, window_of, bytes_from, bytes_of, memory_of, settings_at}
use Rattle.fsb_script.specs.Statements.{count_of, delay_of, turn_of, transaction_of, block_of}
use Rattle.fsb_script_laws.specs.LawfulPlans.{is_byte_setting}

pub bind_ok : {A B E : Type 0} (r : Result A E) (f : A → Result B E) (y : B) → (r >>= f) ≡ Ok y
    → (x : A) × ((r ≡ Ok x) × (f x ≡ Ok y))
bind_ok (Ok x) f y h = (x, (refl, h))
bind_ok (Err c) f y h = absurd cc

pub require_ok : {A : Type 0} (t : Bool) (c : Cause) (x y : A) → require t c x ≡ Ok y → (t ≡ true) × (x ≡ y)
require_ok true c x y h = (refl, cc)
require_ok false c x y h = absurd cc

pub if_ok : {A E : Type 0} (t : Bool) (a b : Result A E) (y : A) → cond t a b ≡ Ok y → (a ≡ Ok y) ⊎ (b ≡ Ok y)
if_ok true a b y h = inl h
if_ok false a b y h = inr h

pub ok_same : {A E : Type 0} (x y : A) (r : Result A E) → r ≡ Ok x → r ≡ Ok y → x ≡ y
ok_same x y r a b = cc

pub ended_is : {A : Type 0} (x y : A) (line : List ℕ) → line_ended x line ≡ Ok y → x ≡ y
unfolding line_ended
ended_is x y line h = (require_ok _ _ x y h).1

pub within_is : (low high : ℕ) (line : List ℕ) (n : ℕ × List ℕ) → decimal_within low high line ≡ Ok n
    → (nat_le low n.0 && nat_le n.0 high) ≡ true
unfolding decimal_within
within_is low high line n h =
    let a = bind_ok (decimal_word line) _ n h in
    let b = require_ok (nat_le low a.0.0 && nat_le a.0.0 high) _ a.0 n a.1.1 in
    subst (λ (m : ℕ × List ℕ). (nat_le low m.0 && nat_le m.0 high) ≡ true) b.1 b.0

address_is : (line : List ℕ) (n : ℕ × List ℕ) → address line ≡ Ok n → nat_lt n.0 (2 ^ 36) ≡ true
unfolding address
address_is line n h =
    let a = bind_ok (hex_word line) _ n h in
    let b = require_ok (nat_lt a.0.0 (2 ^ 36)) _ a.0 n a.1.1 in
    subst (λ (m : ℕ × List ℕ). nat_lt m.0 (2 ^ 36) ≡ true) b.1 b.0

-- ---- accesses

size_is : (line : List ℕ) (n : ℕ × List ℕ) → size_at line ≡ Ok n → is_size n.0 ≡ true
unfolding size_at
size_is line n h =
    let a = bind_ok (decimal_word line) _ n h in
    let b = require_ok (is_size a.0.0) _ a.0 n a.1.1 in
    subst (λ (m : ℕ × List ℕ). is_size m.0 ≡ true) b.1 b.0

aligned_is : (size : ℕ) (line : List ℕ) (n : ℕ × List ℕ) → aligned_at size line ≡ Ok n
    → (nat_lt n.0 (2 ^ 36) && eqb (n.0 % size) 0) ≡ true
unfolding aligned_at
aligned_is size line n h =
    let a = bind_ok (address line) _ n h in
    let b = require_ok (eqb (a.0.0 % size) 0) _ a.0 n a.1.1 in
    subst (λ (m : ℕ × List ℕ). (nat_lt m.0 (2 ^ 36) && eqb (m.0 % size) 0) ≡ true) b.1
    (and_from _ _ (address_is line a.0 a.1.0) b.0)

place_from : (size addr : ℕ) → is_size size ≡ true → (nat_lt addr (2 ^ 36) && eqb (addr % size) 0) ≡ true
    → is_place size addr ≡ true
place_from size addr a b =
    and_from (is_size size && nat_lt addr (2 ^ 36)) (eqb (addr % size) 0)
    (and_from (is_size size) (nat_lt addr (2 ^ 36)) a (and_parts (nat_lt addr (2 ^ 36)) (eqb (addr % size) 0) b).0)
    (and_parts (nat_lt addr (2 ^ 36)) (eqb (addr % size) 0) b).1

pub load_is : (line : List ℕ) (access : Access) → load_of line ≡ Ok access → is_lawful_access access ≡ true
unfolding load_of
load_is line access h =
    let a = bind_ok (size_at line) _ access h in
    let b = bind_ok (aligned_at a.0.0 a.0.1) _ access a.1.1 in
    subst (λ (x : Access). is_lawful_access x ≡ true) (ended_is (Load a.0.0 b.0.0) access b.0.1 b.1.1)
    (place_from a.0.0 b.0.0 (size_is line a.0 a.1.0) (aligned_is a.0.0 a.0.1 b.0 b.1.0))

literal_is : (size : ℕ) (word : List ℕ) (n : ℕ) → literal_of size word ≡ Ok n → fits size n ≡ true
unfolding literal_of
literal_is size word n h =
    let a = bind_ok (hex_of word) _ n h in
    let b = require_ok (fits size a.0) _ a.0 n a.1.1 in
    subst (λ (m : ℕ). fits size m ≡ true) b.1 b.0

operand_is : (size : ℕ) (word : List ℕ) (value : Operand) → operand_of size word ≡ Ok value
    → fits size (number_of value) ≡ true
unfolding operand_of
operand_is size word value h = by (if_ok (is_added word) _ _ value h)
  where
    value_is : (f : ℕ → Operand) → ((n : ℕ) → number_of (f n) ≡ n) → (w : List ℕ)
        → (literal_of size w >>= (λ n. Ok (f n))) ≡ Ok value → fits size (number_of value) ≡ true
    value_is f same w g =
        let a = bind_ok (literal_of size w) (λ n. Ok (f n)) value g in
        subst (λ (o : Operand). fits size (number_of o) ≡ true) (ok_same (f a.0) value (Ok (f a.0)) refl a.1.1)
        (subst (λ (m : ℕ). fits size m ≡ true) (sym (same a.0)) (literal_is size w a.0 a.1.0))

    by : ((literal_of size (drop 2 word) >>= (λ n. Ok (LastPlus n))) ≡ Ok value) ⊎
        ((literal_of size word >>= (λ n. Ok (Literal n))) ≡ Ok value) → fits size (number_of value) ≡ true
    by (inl g) = value_is LastPlus (λ n. refl) (drop 2 word) g
    by (inr g) = value_is Literal (λ n. refl) word g

pub store_is : (line : List ℕ) (access : Access) → store_of line ≡ Ok access → is_lawful_access access ≡ true
unfolding store_of
store_is line access h =
    let a = bind_ok (size_at line) _ access h in
    let b = bind_ok (aligned_at a.0.0 a.0.1) _ access a.1.1 in
    let c = bind_ok (next_word b.0.1) _ access b.1.1 in
    let d = bind_ok (operand_of a.0.0 c.0.0) _ access c.1.1 in
    subst (λ (x : Access). is_lawful_access x ≡ true) (ended_is (Store a.0.0 b.0.0 d.0) access c.0.1 d.1.1)
    (and_from (is_place a.0.0 b.0.0) (fits a.0.0 (number_of d.0))
    (place_from a.0.0 b.0.0 (size_is line a.0 a.1.0) (aligned_is a.0.0 a.0.1 b.0 b.1.0))
    (operand_is a.0.0 c.0.0 d.0 d.1.0))

-- ---- memory

digit_is : (b h : ℕ) → hex_digit b ≡ Ok h → h < 16
unfolding hex_digit
digit_is b h e = by (nat_le 48 b && nat_le b 57) (nat_le 97 b && nat_le b 102)
    (nat_le 65 b && nat_le b 70) refl refl refl e
  where
    by : (s t u : Bool) → (nat_le 48 b && nat_le b 57) ≡ s → (nat_le 97 b && nat_le b 102) ≡ t
        → (nat_le 65 b && nat_le b 70) ≡ u
        → cond s (Ok (b - 48)) (cond t (Ok (b - 87)) (cond u (Ok (b - 55)) (Err Number))) ≡ Ok h → h < 16
    by true t u p q r e =
        let x : b ≤ 57 = leb-true b 57 (and_parts (nat_le 48 b) (nat_le b 57) p).1 in
        let y : b - 48 ≡ h = cc in
        omega arith
    by false true u p q r e =
        let x : b ≤ 102 = leb-true b 102 (and_parts (nat_le 97 b) (nat_le b 102) q).1 in
        let y : b - 87 ≡ h = cc in
        omega arith
    by false false true p q r e =
        let x : b ≤ 70 = leb-true b 70 (and_parts (nat_le 65 b) (nat_le b 70) r).1 in
        let y : b - 55 ≡ h = cc in
        omega arith
    by false false false p q r e = absurd cc

abbrev pub is_byte : ℕ → Bool
is_byte b = nat_lt b 256

bytes_are : (so_far word bytes : List ℕ) → list_all is_byte so_far ≡ true → bytes_from so_far word ≡ Ok bytes
    → list_all is_byte bytes ≡ true
bytes_are so_far [] bytes all h = subst (λ (xs : List ℕ). list_all is_byte xs ≡ true)
    (ok_same so_far bytes (Ok so_far) refl h) all
bytes_are so_far (high ∷ []) bytes all h = absurd cc
bytes_are so_far (high ∷ (low ∷ digits)) bytes all h =
    let a = bind_ok (hex_digit high) (λ x. hex_digit low >>= (λ y. bytes_from (so_far ++ (x * 16 + y) ∷ []) digits))
    bytes h in
    let b = bind_ok (hex_digit low) (λ y. bytes_from (so_far ++ (a.0 * 16 + y) ∷ []) digits) bytes a.1.1 in
    let high_is : a.0 < 16 = digit_is high a.0 a.1.0 in
    let low_is : b.0 < 16 = digit_is low b.0 b.1.0 in
    let small : is_byte (a.0 * 16 + b.0) ≡ true = lt-ltb (a.0 * 16 + b.0) 256 (omega (arith, high_is, low_is)) in
    bytes_are (so_far ++ (a.0 * 16 + b.0) ∷ []) digits bytes
    (list_all-append is_byte so_far ((a.0 * 16 + b.0) ∷ [])
    ∙ and_from (list_all is_byte so_far) (is_byte (a.0 * 16 + b.0) && true) all
    (and_from (is_byte (a.0 * 16 + b.0)) true small refl)) b.1.1

bytes_of_are : (word bytes : List ℕ) → bytes_of word ≡ Ok bytes → list_all is_byte bytes ≡ true
unfolding bytes_of
bytes_of_are word bytes h = by (if_ok _ (bytes_from [] word) (Err Number) bytes h)
  where
    by : (bytes_from [] word ≡ Ok bytes) ⊎ (Err Number ≡ Ok bytes) → list_all is_byte bytes ≡ true
    by (inl g) = bytes_are [] word bytes refl g
    by (inr g) = absurd cc

-- what a line of memory says
pub record Memory (addr : ℕ) (bytes : List ℕ) : Type 0 where
  pub inside : addr + length bytes ≤ 2 ^ 36
  pub small : list_all is_byte bytes ≡ true

pub memory_is : (line : List ℕ) (m : ℕ × List ℕ) → memory_of line ≡ Ok m → Memory m.0 m.1
unfolding memory_of
memory_is line m h =
    let a = bind_ok (address line) _ m h in
    let w = bind_ok (next_word a.0.1) _ m a.1.1 in
    let b = bind_ok (bytes_of w.0.0) _ m w.1.1 in
    let c = bind_ok (require (nat_le (a.0.0 + length b.0) (2 ^ 36)) Outside b.0) _ m b.1.1 in
    let r = require_ok (nat_le (a.0.0 + length b.0) (2 ^ 36)) Outside b.0 c.0 c.1.0 in
    let same : b.0 ≡ c.0 = r.1 in
    let known : Memory a.0.0 b.0 = record {
      inside = leb-true (a.0.0 + length b.0) (2 ^ 36) r.0;
      small =
          bytes_of_are w.0.0 b.0 b.1.0;
    } in
    subst (λ (x : ℕ × List ℕ). Memory x.0 x.1) (ended_is (a.0.0, c.0) m w.0.1 c.1.1)
    (subst (λ (bs : List ℕ). Memory a.0.0 bs) same known)

pub settings_lawful : (addr : ℕ) (bytes : List ℕ) → addr + length bytes ≤ 2 ^ 36 → list_all is_byte bytes ≡ true
    → (list_all is_lawful_setting (settings_at addr bytes) ≡ true) ×
    (list_all is_byte_setting (settings_at addr bytes) ≡ true)
settings_lawful addr [] inside small = (refl, refl)
settings_lawful addr (b ∷ bs) inside small =
    let again = settings_lawful (addr + 1) bs (omega arith) (and_parts (is_byte b) (list_all is_byte bs) small).1 in (
      and_from (nat_lt addr (2 ^ 36)) (list_all is_lawful_setting (settings_at (addr + 1) bs))
          (lt-ltb addr (2 ^ 36) (omega arith)) again.0,
      and_from (is_byte b) (list_all is_byte_setting (settings_at (addr + 1) bs))
          (and_parts (is_byte b) (list_all is_byte bs) small).0 again.1,
    )

-- ---- idle items, the profile and the bridge

-- the number of a line that has one number within its bounds
one_number : (low high : ℕ) (line : List ℕ) (n : ℕ)
    → (decimal_within low high line >>= (λ m. line_ended m.0 m.1)) ≡ Ok n → (nat_le low n && nat_le n high) ≡ true
one_number low high line n h =
    let a = bind_ok (decimal_within low high line) (λ m. line_ended m.0 m.1) n h in
    subst (λ (m : ℕ). (nat_le low m && nat_le m high) ≡ true) (ended_is a.0.0 n a.0.1 a.1.1)
    (within_is low high line a.0 a.1.0)

pub idle_is : (line : List ℕ) (n : ℕ) (cache : ℕ) → idle_of line ≡ Ok n → is_lawful_item cache (Idle n) ≡ true
unfolding idle_of
idle_is line n cache h = one_number 1 200000 line n h

one_or_two : (n : ℕ) → (nat_le 1 n && nat_le n 2) ≡ true → is_profile n ≡ true
one_or_two n h =
    let low : 1 ≤ n = leb-true 1 n (and_parts (nat_le 1 n) (nat_le n 2) h).0 in
    let high : n ≤ 2 = leb-true n 2 (and_parts (nat_le 1 n) (nat_le n 2) h).1 in
    by (eqb n 1) refl low high
  where
    by : (t : Bool) → eqb n 1 ≡ t → 1 ≤ n → n ≤ 2 → is_profile n ≡ true
    by true e low high = rw e refl
    by false e low high = let two : n ≡ 2 = omega (arith, eqb-false n 1 e) in rw two refl

pub profile_is : (line : List ℕ) (n : ℕ) → profile_of line ≡ Ok n → is_profile n ≡ true
unfolding profile_of
profile_is line n h = one_or_two n (one_number 1 2 line n h)

pub window_is : (line : List ℕ) (w : Window) → window_of line ≡ Ok w → is_lawful_window w ≡ true
unfolding window_of
window_is line w h =
    let base = bind_ok (address line) _ w h in
    let from = bind_ok (require (eqb (base.0.0 % 32) 0) Align base.0) _ w base.1.1 in
    let whole_base = require_ok (eqb (base.0.0 % 32) 0) Align base.0 from.0 from.1.0 in
    let size = bind_ok (hex_word from.0.1) _ w from.1.1 in
    let inside = bind_ok (require (nat_le size.0.0 (2 ^ 36)) Outside size.0) _ w size.1.1 in
    let whole = bind_ok (require (nat_lt 0 inside.0.0 && eqb (inside.0.0 % 32) 0) Align inside.0) _ w inside.1.1 in
    let whole_size = require_ok (nat_lt 0 inside.0.0 && eqb (inside.0.0 % 32) 0) Align inside.0 whole.0 whole.1.0 in
    let last = bind_ok (require (nat_le (from.0.0 + whole.0.0) (2 ^ 36)) Outside whole.0) _ w whole.1.1 in
    let fits_in = require_ok (nat_le (from.0.0 + whole.0.0) (2 ^ 36)) Outside whole.0 last.0 last.1.0 in
    let base_is : (nat_lt from.0.0 (2 ^ 36) && eqb (from.0.0 % 32) 0) ≡ true =
    subst (λ (m : ℕ × List ℕ). (nat_lt m.0 (2 ^ 36) && eqb (m.0 % 32) 0) ≡ true) whole_base.1
    (and_from (nat_lt base.0.0 (2 ^ 36)) (eqb (base.0.0 % 32) 0)
    (address_is line base.0 base.1.0) whole_base.0) in
    let size_is_whole : (nat_lt 0 whole.0.0 && eqb (whole.0.0 % 32) 0) ≡ true =
    subst (λ (m : ℕ × List ℕ). (nat_lt 0 m.0 && eqb (m.0 % 32) 0) ≡ true) whole_size.1 whole_size.0 in
    let known : is_lawful_window (record { base = from.0.0; size = whole.0.0 }) ≡ true =
    and_from (nat_lt from.0.0 (2 ^ 36) && eqb (from.0.0 % 32) 0)
    ((nat_lt 0 whole.0.0 && eqb (whole.0.0 % 32) 0) && nat_le (from.0.0 + whole.0.0) (2 ^ 36)) base_is
    (and_from (nat_lt 0 whole.0.0 && eqb (whole.0.0 % 32) 0)
    (nat_le (from.0.0 + whole.0.0) (2 ^ 36)) size_is_whole fits_in.0) in
    let known_last : is_lawful_window (record { base = from.0.0; size = last.0.0 }) ≡ true =
    subst (λ (m : ℕ × List ℕ). is_lawful_window (record { base = from.0.0; size = m.0 }) ≡ true) fits_in.1
    known in
    subst (λ (x : Window). is_lawful_window x ≡ true)
    (ended_is (record { base = from.0.0; size = last.0.0 }) w last.0.1 last.1.1) known_last

-- ---- hazards

count_is : (line : List ℕ) (n : ℕ) → count_of line ≡ Ok n → (nat_le 1 n && nat_le n 255) ≡ true
unfolding count_of
count_is line n h = one_number 1 255 line n h

delay_is : (line : List ℕ) (n : ℕ) → delay_of line ≡ Ok n → nat_le n 65535 ≡ true
unfolding delay_of
delay_is line n h = (and_parts (nat_le 0 n) (nat_le n 65535) (one_number 0 65535 line n h)).1

-- what a hazard's line gave is lawful
abbrev IsLawfulRead : Result HazardLine Cause → Type 0
IsLawfulRead r = (h : HazardLine) → r ≡ Ok h → is_lawful_hazard h ≡ true

either_read : (t : Bool) (a b : Result HazardLine Cause) → IsLawfulRead a → IsLawfulRead b → IsLawfulRead (cond t a b)
either_read true a b left right = left
either_read false a b left right = right

counted_read : (k : ℕ) (line : List ℕ) (f : ℕ → HazardLine)
    → ((n : ℕ) → (nat_le 1 n && nat_le n 255) ≡ true → is_lawful_hazard (f n) ≡ true)
    → IsLawfulRead (count_of line >>= (λ n. Ok (f n)))
counted_read k line f lawful h e =
    let a = bind_ok (count_of line) (λ n. Ok (f n)) h e in
    subst (λ (x : HazardLine). is_lawful_hazard x ≡ true) (ok_same (f a.0) h (Ok (f a.0)) refl a.1.1)
    (lawful a.0 (count_is line a.0 a.1.0))

delayed_read : (k : ℕ) (line : List ℕ) → nat_le k 199999 ≡ true → IsLawfulRead (delay_of line >>= (λ n. Ok (Defer k n)))
delayed_read k line few h e =
    let a = bind_ok (delay_of line) (λ n. Ok (Defer k n)) h e in
    subst (λ (x : HazardLine). is_lawful_hazard x ≡ true) (ok_same (Defer k a.0) h (Ok (Defer k a.0)) refl a.1.1)
    (and_from (nat_le k 199999) (nat_le a.0 65535) few (delay_is line a.0 a.1.0))

plain_read : (line : List ℕ) (x : HazardLine) → is_lawful_hazard x ≡ true → IsLawfulRead (line_ended x line)
plain_read line x lawful h e = subst (λ (y : HazardLine). is_lawful_hazard y ≡ true) (ended_is x h line e) lawful

no_hazard : IsLawfulRead (Err Word)
no_hazard h e = absurd cc

turn_is : (k : ℕ) (word line : List ℕ) → nat_le k 199999 ≡ true → IsLawfulRead (turn_of k word line)
unfolding turn_of
turn_is k word line few =
    either_read (bytes_eq word (codes "stall")) _ _
    (counted_read k line (λ n. Stall k n) (λ n e. and_from (nat_le k 199999) (nat_le 1 n && nat_le n 255) few e))
    (either_read (bytes_eq word (codes "trdy")) _ _
    (counted_read k line (λ n. Trdy k n) (λ n e. and_from (nat_le k 199999) (nat_le 1 n && nat_le n 255) few e))
    (either_read (bytes_eq word (codes "resp")) _ _
    (counted_read k line (λ n. Resp k n) (λ n e. and_from (nat_le k 199999) (nat_le 1 n && nat_le n 255) few e))
    (either_read (bytes_eq word (codes "data")) _ _
    (counted_read k line (λ n. Gap k n) (λ n e. and_from (nat_le k 199999) (nat_le 1 n && nat_le n 255) few e))
    (either_read (bytes_eq word (codes "retry")) _ _ (plain_read line (Retry k) few)
    (either_read (bytes_eq word (codes "defer")) _ _ (delayed_read k line few)
    (either_read (bytes_eq word (codes "aerr")) _ _ (plain_read line (Aerr k) few) no_hazard))))))

pub transaction_is : (line : List ℕ) → IsLawfulRead (transaction_of line)
unfolding transaction_of
transaction_is line h e =
    let k = bind_ok (decimal_within 0 199999 line) _ h e in
    let w = bind_ok (next_word k.0.1) _ h k.1.1 in
    turn_is k.0.0 w.0.0 w.0.1 (and_parts (nat_le 0 k.0.0) (nat_le k.0.0 199999) (within_is 0 199999 line k.0 k.1.0)).1
    h w.1.1

pub block_is : (line : List ℕ) → IsLawfulRead (block_of line)
unfolding block_of
block_is line h e =
    let from = bind_ok (decimal_within 0 199999 line) _ h e in
    let to = bind_ok (decimal_within 0 199999 from.0.1) _ h from.1.1 in
    let last = bind_ok (require (nat_le from.0.0 to.0.0) Range to.0) _ h to.1.1 in
    let order = require_ok (nat_le from.0.0 to.0.0) Range to.0 last.0 last.1.0 in
    let most : nat_le to.0.0 199999 ≡ true = (and_parts (nat_le 0 to.0.0) (nat_le to.0.0 199999)
    (within_is 0 199999 from.0.1 to.0 to.1.0)).1 in
    let known : is_lawful_hazard (Bnr from.0.0 to.0.0) ≡ true =
    and_from (nat_le from.0.0 to.0.0) (nat_le to.0.0 199999) order.0 most in
    let known_last : is_lawful_hazard (Bnr from.0.0 last.0.0) ≡ true =
    subst (λ (m : ℕ × List ℕ). is_lawful_hazard (Bnr from.0.0 m.0) ≡ true) order.1 known in
    subst (λ (x : HazardLine). is_lawful_hazard x ≡ true)
    (ended_is (Bnr from.0.0 last.0.0) h last.0.1 last.1.1) known_last
