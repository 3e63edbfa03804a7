-- What is taken as a line fits the line and the variable.
use Rattle.std.proofs.Common.{◌≡◌, ◌∙◌, ℕ, ◌+◌, ◌-◌, ◌<◌, ◌≤◌, Bool, true, false, not, ◌&&◌, nat_eq, nat_le, nat_lt, List, [], ◌∷◌, length, Option, Some, None, slice_get, refl, sym, ap, cond, arith, suc, zero}
use Rattle.std.specs.List.{list_all}
use Rattle.std.specs.Option.{option_map_or}
use Rattle.std.proofs.lemmas.Bool.{and_parts, and_from, leb-true, leb-false, le-leb, lt-ltb, ltb-true, eqb-true, eq-eqb}
use Rattle.fsb_signal.specs.Table.{TableEntry, table}
use Rattle.fsb_signal.specs.DumpText.{width_of}
use Rattle.vcd_way.specs.declared.tap.Tap.{Tap}
use Rattle.vcd_way.specs.declared.tap.Part.TheVariants as parts
use Rattle.vcd_way.specs.Lawful.{is_part_within, is_lawful_tap}
use Rattle.scope_pick.specs.declared.variable.Range.{Range}
use Rattle.scope_pick.specs.declared.variable.Variable.{Variable}
use Rattle.scope_pick.specs.declared.variable.Written.{Written}
use Rattle.scope_pick.specs.declared.variable.Written.TheVariants.{Absent, Numbers, Unreadable}
use Rattle.scope_pick.specs.declared.place.Place.{Place}
use Rattle.scope_pick.specs.Places.{entry_width, line_width, lowest_index, highest_index, is_range_of, from_bit, place_by_index, place_within, known_range, place_of}
use Rattle.scope_pick.specs.Numbering.{is_wire_kind}
use Rattle.scope_wiring.specs.Taps.{part_at, tap_at, bit_tap, tap_if, tap_of, bit_at_index, place_between, place_named, place_if, tap_named}

-- ---- the table

has_bits : (es : List TableEntry) (n : ℕ) → list_all (λ (e : TableEntry). nat_le 1 e.width) es ≡ true
    → n < length es → 1 ≤ entry_width (slice_get es n)
unfolding entry_width
has_bits [] n h k = absurd (omega (arith, k))
has_bits (e ∷ es) zero h k = leb-true 1 e.width (and_parts (nat_le 1 e.width) (list_all (λ (f : TableEntry). nat_le 1 f.width) es) h).0
has_bits (e ∷ es) (suc n) h k =
    has_bits es n (and_parts (nat_le 1 e.width) (list_all (λ (f : TableEntry). nat_le 1 f.width) es) h).1 (omega (arith, k))

pub line_has_bits : (line : ℕ) → line < 22 → 1 ≤ line_width line
unfolding line_width
line_has_bits line h = has_bits table line refl h

same_entry : (o : Option TableEntry) → entry_width o ≡ option_map_or (λ (e : TableEntry). e.width) o 0
unfolding entry_width
same_entry None = refl
same_entry (Some e) = refl

pub same_width : (line : ℕ) → line_width line ≡ width_of line
unfolding line_width
same_width line = same_entry (slice_get table line)

-- ---- places

abbrev low_in : Option Place → ℕ
low_in None = 0
low_in (Some p) = p.low

-- how far the ends of a range are apart
abbrev apart : Range → ℕ
apart range = cond (nat_le range.right range.left) (range.left - range.right) (range.right - range.left)

-- a range of as many indices as there are bits
spans : (width : ℕ) (range : Range) → is_range_of width range ≡ true → apart range + 1 ≡ width
unfolding is_range_of
spans width range h =
    let parts = and_parts (nat_lt 0 width) (nat_eq (apart range) (width - 1)) h in
    let some = ltb-true 0 width parts.0 in
    let same = eqb-true (apart range) (width - 1) parts.1 in
    omega (arith, some, same)

down : (lo lw left right : ℕ) → 1 ≤ lw → right ≤ left → right ≤ lo → lo + lw - 1 ≤ left
    → (lo - right) + lw ≤ (left - right) + 1
down lo lw left right a b c d = omega arith

up : (lo lw left right : ℕ) → 1 ≤ lw → left ≤ lo → lo + lw - 1 ≤ right
    → (right - (lo + lw - 1)) + lw ≤ (right - left) + 1
up lo lw left right a b c = omega arith

some_low : (b : Bool) (q p : Place) → cond b (Some q) None ≡ Some p → (b ≡ true) × (q.low ≡ p.low)
some_low true q p e = (refl, ap low_in e)
some_low false q p e = absurd cc

index_fits : (line : ℕ) (range : Range) (p : Place) (d : Bool) → d ≡ nat_le range.right range.left → 1 ≤ line_width line
    → cond d
    (cond (nat_le range.right (lowest_index line) && nat_le (highest_index line) range.left)
    (Some (from_bit (lowest_index line - range.right) false)) None)
    (cond (nat_le range.left (lowest_index line) && nat_le (highest_index line) range.right)
    (Some (from_bit (range.right - highest_index line) true)) None) ≡ Some p
    → p.low + line_width line ≤ apart range + 1
unfolding highest_index
index_fits line range p true o w e =
    let found = some_low _ _ p e in
    let parts = and_parts (nat_le range.right (lowest_index line)) (nat_le (highest_index line) range.left) found.0 in
    rw (sym o) (rw (sym found.1) (down (lowest_index line) (line_width line) range.left range.right w
    (leb-true range.right range.left (sym o)) (leb-true _ _ parts.0) (leb-true _ _ parts.1)))
index_fits line range p false o w e =
    let found = some_low _ _ p e in
    let parts = and_parts (nat_le range.left (lowest_index line)) (nat_le (highest_index line) range.right) found.0 in
    rw (sym o) (rw (sym found.1) (up (lowest_index line) (line_width line) range.left range.right w
    (leb-true _ _ parts.0) (leb-true _ _ parts.1)))

wide_fits : (line width : ℕ) (range : Range) (p : Place) (b : Bool) → 1 ≤ line_width line
    → (b ≡ true → is_range_of width range ≡ true)
    → cond b (place_by_index line range) None ≡ Some p → p.low + line_width line ≤ width
unfolding place_by_index
wide_fits line width range p true w h e =
    let long = spans width range (h refl) in
    let fits = index_fits line range p (nat_le range.right range.left) refl w e in
    omega (arith, long, fits)
wide_fits line width range p false w h e = absurd cc

within_fits : (line width : ℕ) (range : Range) (p : Place) (b : Bool) → 1 ≤ line_width line
    → (b ≡ true → width ≡ line_width line)
    → cond b (Some (from_bit 0 false))
    (cond ((nat_lt 1 (line_width line) && nat_lt (line_width line) width) && is_range_of width range)
    (place_by_index line range) None) ≡ Some p
    → p.low + line_width line ≤ width
within_fits line width range p true w h e =
    let low : 0 ≡ p.low = ap low_in e in
    let same = h refl in
    omega (arith, low, same)
within_fits line width range p false w h e =
    wide_fits line width range p ((nat_lt 1 (line_width line) && nat_lt (line_width line) width) && is_range_of width range) w
    (λ t. (and_parts (nat_lt 1 (line_width line) && nat_lt (line_width line) width) (is_range_of width range) t).1) e

pub place_fits : (line width : ℕ) (written : Written) (p : Place) → 1 ≤ line_width line
    → place_of line width written ≡ Some p → p.low + line_width line ≤ width
unfolding place_of known_range place_within
place_fits line width Absent p w e =
    within_fits line width (record { left = width - 1; right = 0 }) p (nat_eq width (line_width line)) w
    (eqb-true width (line_width line)) e
place_fits line width (Numbers range) p w e =
    within_fits line width range p (nat_eq width (line_width line)) w (eqb-true width (line_width line)) e
place_fits line width Unreadable p w e = absurd cc

-- ---- bits that are named

abbrev number_in : Option ℕ → ℕ
number_in None = 0
number_in (Some n) = n

some_number : (b : Bool) (n k : ℕ) → cond b (Some n) None ≡ Some k → (b ≡ true) × (n ≡ k)
some_number true n k e = (refl, ap number_in e)
some_number false n k e = absurd cc

bit_down : (range : Range) (index k : ℕ) (d : Bool) → d ≡ true
    → cond d
    (cond (nat_le range.right index && nat_le index range.left) (Some (index - range.right)) None)
    (cond (nat_le range.left index && nat_le index range.right) (Some (range.right - index)) None) ≡ Some k
    → (index - range.right ≡ k) × (range.right ≤ index) × (index ≤ range.left)
bit_down range index k true h e =
    let found = some_number _ _ k e in
    let parts = and_parts (nat_le range.right index) (nat_le index range.left) found.0 in
    (found.1, leb-true _ _ parts.0, leb-true _ _ parts.1)
bit_down range index k false h e = absurd cc

bit_up : (range : Range) (index k : ℕ) (d : Bool) → d ≡ false
    → cond d
    (cond (nat_le range.right index && nat_le index range.left) (Some (index - range.right)) None)
    (cond (nat_le range.left index && nat_le index range.right) (Some (range.right - index)) None) ≡ Some k
    → (range.right - index ≡ k) × (range.left ≤ index) × (index ≤ range.right)
bit_up range index k true h e = absurd cc
bit_up range index k false h e =
    let found = some_number _ _ k e in
    let parts = and_parts (nat_le range.left index) (nat_le index range.right) found.0 in
    (found.1, leb-true _ _ parts.0, leb-true _ _ parts.1)

lower : (h l : ℕ) (p : Place) (b : Bool) → (b ≡ true → l ≤ h) → (b ≡ false → h < l)
    → cond b (Some (from_bit l false)) (Some (from_bit h true)) ≡ Some p → (p.low ≤ h) × (p.low ≤ l)
lower h l p true less more e =
    let low : l ≡ p.low = ap low_in e in
    let order = less refl in
    (omega (arith, low, order), omega (arith, low))
lower h l p false less more e =
    let low : h ≡ p.low = ap low_in e in
    let order = more refl in
    (omega (arith, low), omega (arith, low, order))

-- two bits as far apart as two indices are, both of the variable
between : (width lw low h l left right first last : ℕ) (d b : Bool) → low ≤ h → low ≤ l
    → cond b (first - last) (last - first) + 1 ≡ lw → (b ≡ true → last ≤ first) → (b ≡ false → first < last)
    → cond d (left - right) (right - left) + 1 ≡ width
    → (d ≡ true → (first - right ≡ h) × (right ≤ first) × (first ≤ left))
    → (d ≡ false → (right - first ≡ h) × (left ≤ first) × (first ≤ right))
    → (d ≡ true → (last - right ≡ l) × (right ≤ last) × (last ≤ left))
    → (d ≡ false → (right - last ≡ l) × (left ≤ last) × (last ≤ right))
    → low + lw ≤ width
between width lw low h l left right first last true true a b span less more wide fd fu ld lu =
    let f = fd refl in let g = ld refl in let o = less refl in
    omega (arith, a, b, span, wide, f.0, f.1, f.2, g.0, g.1, g.2, o)
between width lw low h l left right first last true false a b span less more wide fd fu ld lu =
    let f = fd refl in let g = ld refl in let o = more refl in
    omega (arith, a, b, span, wide, f.0, f.1, f.2, g.0, g.1, g.2, o)
between width lw low h l left right first last false true a b span less more wide fd fu ld lu =
    let f = fu refl in let g = lu refl in let o = less refl in
    omega (arith, a, b, span, wide, f.0, f.1, f.2, g.0, g.1, g.2, o)
between width lw low h l left right first last false false a b span less more wide fd fu ld lu =
    let f = fu refl in let g = lu refl in let o = more refl in
    omega (arith, a, b, span, wide, f.0, f.1, f.2, g.0, g.1, g.2, o)

between_fits : (line width : ℕ) (range bits : Range) (p : Place) (high low : Option ℕ)
    → high ≡ bit_at_index range bits.left → low ≡ bit_at_index range bits.right
    → is_range_of (line_width line) bits ≡ true → is_range_of width range ≡ true
    → place_between high low ≡ Some p → p.low + line_width line ≤ width
unfolding bit_at_index place_between
between_fits line width range bits p None low hh ll s t e = absurd cc
between_fits line width range bits p (Some h) None hh ll s t e = absurd cc
between_fits line width range bits p (Some h) (Some l) hh ll s t e =
    let below = lower h l p (nat_le l h) (leb-true l h) (leb-false l h) e in
    between width (line_width line) p.low h l range.left range.right bits.left bits.right
    (nat_le range.right range.left) (nat_le bits.right bits.left) below.0 below.1
    (spans (line_width line) bits s) (leb-true _ _) (leb-false _ _) (spans width range t)
    (λ d. bit_down range bits.left h (nat_le range.right range.left) d (sym hh))
    (λ d. bit_up range bits.left h (nat_le range.right range.left) d (sym hh))
    (λ d. bit_down range bits.right l (nat_le range.right range.left) d (sym ll))
    (λ d. bit_up range bits.right l (nat_le range.right range.left) d (sym ll))

named_if : (line width : ℕ) (range bits : Range) (p : Place) (b c : Bool)
    → b ≡ is_range_of (line_width line) bits → c ≡ is_range_of width range
    → cond (b && c) (place_between (bit_at_index range bits.left) (bit_at_index range bits.right)) None ≡ Some p
    → p.low + line_width line ≤ width
named_if line width range bits p true true s t e =
    between_fits line width range bits p (bit_at_index range bits.left) (bit_at_index range bits.right) refl refl
    (sym s) (sym t) e
named_if line width range bits p true false s t e = absurd cc
named_if line width range bits p false c s t e = absurd cc

pub named_fits : (line width : ℕ) (known : Option Range) (bits : Range) (p : Place)
    → place_if line width known bits ≡ Some p → p.low + line_width line ≤ width
unfolding place_if place_named
named_fits line width None bits p e = absurd cc
named_fits line width (Some range) bits p e =
    named_if line width range bits p (is_range_of (line_width line) bits) (is_range_of width range) refl refl e

-- ---- taps

part_fits : (line width : ℕ) (place : Place) (b : Bool) → (b ≡ true → width ≡ line_width line)
    → place.low + line_width line ≤ width
    → is_part_within
    (cond b parts.Whole
    (parts.Bits (record { count = line_width line; low = place.low; lowest = 0; is_turned = place.turned })))
    width (width_of line) ≡ true
part_fits line width place true h f = eq-eqb width (width_of line) (h refl ∙ same_width line)
part_fits line width place false h f =
    let same = same_width line in
    and_from _ _ (le-leb _ _ f) (le-leb _ _ (omega (arith, same)))

tap_fits : (line width : ℕ) (inverted : Bool) (place : Place) → line < 22 → place.low + line_width line ≤ width
    → is_lawful_tap (tap_at line width inverted place) ≡ true
unfolding tap_at part_at
tap_fits line width inverted place k f =
    let some = line_has_bits line k in
    and_from _ _ (lt-ltb line (length table) k)
    (and_from _ _ (le-leb 1 width (omega (arith, f, some)))
    (part_fits line width place (nat_eq width (line_width line) && not place.turned)
    (λ t. eqb-true width (line_width line)
    (and_parts (nat_eq width (line_width line)) (not place.turned) t).0) f))

abbrev tap_in : Option Tap → Tap → Tap
tap_in None tap = tap
tap_in (Some other) tap = other

some_tap : (b : Bool) (own tap : Tap) → cond b (Some own) None ≡ Some tap → own ≡ tap
some_tap true own tap e = ap (λ o. tap_in o own) e
some_tap false own tap e = absurd cc

placed_fits : (line : ℕ) (v : Variable) (inverted : Bool) (o : Option Place) (tap : Tap) → line < 22
    → ((p : Place) → o ≡ Some p → p.low + line_width line ≤ v.width)
    → tap_if line v inverted o ≡ Some tap → is_lawful_tap tap ≡ true
unfolding tap_if
placed_fits line v inverted None tap k f e = absurd cc
placed_fits line v inverted (Some place) tap k f e =
    sym (ap is_lawful_tap (some_tap (is_wire_kind v.kind.items) (tap_at line v.width inverted place) tap e))
    ∙ tap_fits line v.width inverted place k (f place refl)

within_line : (line : ℕ) (tap : Tap) (o : Option Tap) (b : Bool) → (b ≡ true → o ≡ Some tap → is_lawful_tap tap ≡ true)
    → cond b o None ≡ Some tap → is_lawful_tap tap ≡ true
within_line line tap o true h e = h refl e
within_line line tap o false h e = absurd cc

pub tap_is_lawful : (line : ℕ) (v : Variable) (inverted : Bool) (tap : Tap) → tap_of line v inverted ≡ Some tap
    → is_lawful_tap tap ≡ true
unfolding tap_of
tap_is_lawful line v inverted tap e =
    within_line line tap (tap_if line v inverted (place_of line v.width v.range)) (nat_lt line 22)
    (λ k q. placed_fits line v inverted (place_of line v.width v.range) tap (ltb-true line 22 k)
    (λ p. place_fits line v.width v.range p (line_has_bits line (ltb-true line 22 k))) q) e

pub named_tap_is_lawful : (line : ℕ) (v : Variable) (inverted : Bool) (bits : Range) (tap : Tap)
    → tap_named line v inverted bits ≡ Some tap → is_lawful_tap tap ≡ true
unfolding tap_named
named_tap_is_lawful line v inverted bits tap e =
    within_line line tap (tap_if line v inverted (place_if line v.width (known_range v.width v.range) bits)) (nat_lt line 22)
    (λ k q. placed_fits line v inverted (place_if line v.width (known_range v.width v.range) bits) tap (ltb-true line 22 k)
    (λ p. named_fits line v.width (known_range v.width v.range) bits p) q) e

pub bit_tap_is_lawful : (line number : ℕ) (inverted : Bool) → line < 22 → number < line_width line
    → is_lawful_tap (bit_tap line number inverted) ≡ true
unfolding bit_tap
bit_tap_is_lawful line number inverted k n =
    let same = same_width line in
    and_from _ _ (lt-ltb line (length table) k) (le-leb (number + 1) (width_of line) (omega (arith, same, n)))
