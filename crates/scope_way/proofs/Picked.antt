-- Picked wires are lawful.
use Rattle.std.proofs.Common.{◌≡◌, ◌∙◌, ℕ, ◌-◌, ◌<◌, Bool, true, false, not, ◌&&◌, nat_le, nat_lt, List, [], ◌∷◌, length, Option, Some, None, slice_get, refl, sym, ap, cond, arith, suc, zero}
use Rattle.std.specs.List.{filter_map, flat_map, cons_option, list_all, enumerate_from}
use Rattle.std.proofs.lemmas.Bool.{and_parts, and_from, ltb-true}
use Rattle.std.proofs.lemmas.List.Folds.{list_all-append}
use Rattle.std.proofs.lemmas.List.Concat.{flat_map-cons}
use Rattle.fsb_signal.specs.Table.{TableEntry, table}
use Rattle.vcd_way.specs.declared.tap.Tap.{Tap}
use Rattle.vcd_way.specs.Lawful.{is_lawful_tap}
use Rattle.scope_pick.specs.declared.variable.Range.{Range}
use Rattle.scope_pick.specs.declared.variable.Variable.{Variable}
use Rattle.scope_pick.specs.declared.wires.Named.{Named}
use Rattle.scope_pick.specs.declared.split.Bit.{Bit}
use Rattle.scope_pick.specs.Names.{line_named}
use Rattle.scope_pick.specs.Places.{entry_width, line_width}
use Rattle.scope_pick.specs.Splits.{bits, bit_at, bit_in, base_of, bit_numbers}
use Rattle.scope_pick.specs.Scopes.{found_in, is_listed}
use Rattle.scope_wiring.specs.declared.home.Home.{Home}
use Rattle.scope_wiring.specs.declared.home.Home.TheVariants.{Nowhere, At, Refused}
use Rattle.scope_wiring.specs.declared.meaning.Meaning.{Meaning}
use Rattle.scope_wiring.specs.declared.meaning.Meaning.TheVariants.{Nothing, Several, Lacking, Whole, Bits, Word, WordBits}
use Rattle.scope_wiring.specs.declared.text.LineOption.{LineOption}
use Rattle.scope_wiring.specs.declared.wire.Wire.{Wire}
use Rattle.scope_wiring.specs.Meanings.{meaning_of, name_sought, path_sought}
use Rattle.scope_wiring.specs.NamedWords.{first_bit, index_at}
use Rattle.scope_wiring.specs.Taps.{tap_of, tap_named, bit_tap}
use Rattle.scope_wiring.specs.Texts.{before_bits}
use Rattle.scope_wiring.specs.Wirings.{wire_if, whole_wire, bits_wire, bit_wired, word_wire, word_wires, single, wires_meant, wires_named, is_taken, line_wire, is_word_taken, is_first, bit_from, bit_wire, first_some, wire_in, wire_at, option_wires, found_wires, wires_with}
use Rattle.scope_way.specs.Wired.{AreLawfulWires}
use Rattle.scope_way.proofs.Fits.{tap_is_lawful, named_tap_is_lawful, bit_tap_is_lawful}

abbrev fits : Wire → Bool
fits w = is_lawful_tap w.tap

abbrev wire_of : Option Wire → Wire → Wire
wire_of None w = w
wire_of (Some other) w = other

if_fits : (i : ℕ) (o : Option Tap) (w : Wire) → ((tap : Tap) → o ≡ Some tap → is_lawful_tap tap ≡ true)
    → wire_if i o ≡ Some w → fits w ≡ true
unfolding wire_if
if_fits i None w h e = absurd cc
if_fits i (Some tap) w h e = sym (ap (λ o. fits (wire_of o w)) e) ∙ h tap refl

-- ---- lists

cons_fits : (o : Option Wire) (rest : List Wire) → ((w : Wire) → o ≡ Some w → fits w ≡ true)
    → list_all fits rest ≡ true → list_all fits (cons_option o rest) ≡ true
cons_fits None rest h k = k
cons_fits (Some w) rest h k = and_from _ _ (h w refl) k

mapped_fit : {X : Type 0} (f : X → Option Wire) → ((x : X) (w : Wire) → f x ≡ Some w → fits w ≡ true) → (xs : List X)
    → list_all fits (filter_map f xs) ≡ true
mapped_fit f h [] = refl
mapped_fit f h (x ∷ xs) = cons_fits (f x) (filter_map f xs) (h x) (mapped_fit f h xs)

flat_fit : {X : Type 0} (f : X → List Wire) → ((x : X) → list_all fits (f x) ≡ true) → (xs : List X)
    → list_all fits (flat_map f xs) ≡ true
flat_fit f h [] = refl
flat_fit f h (x ∷ xs) =
    ap (list_all fits) (flat_map-cons f x xs)
    ∙ list_all-append fits (f x) (flat_map f xs)
    ∙ and_from _ _ (h x) (flat_fit f h xs)

guarded : (b : Bool) (o : Option Wire) (w : Wire) → (o ≡ Some w → fits w ≡ true) → cond b o None ≡ Some w
    → fits w ≡ true
guarded true o w h e = h e
guarded false o w h e = absurd cc

guarded_by : (b : Bool) (o : Option Wire) (w : Wire) → (b ≡ true → o ≡ Some w → fits w ≡ true)
    → cond b o None ≡ Some w → fits w ≡ true
guarded_by true o w h e = h refl e
guarded_by false o w h e = absurd cc

listed : (b : Bool) (ws : List Wire) → (b ≡ true → list_all fits ws ≡ true) → list_all fits (cond b ws []) ≡ true
listed true ws h = h refl
listed false ws h = refl

-- ---- named by the user

whole_fits : (o : LineOption) (i : ℕ) (v : Option Variable) (w : Wire) → whole_wire o i v ≡ Some w → fits w ≡ true
unfolding whole_wire
whole_fits o i None w e = absurd cc
whole_fits o i (Some v) w e =
    if_fits i (tap_of o.line v o.inverted) w (tap_is_lawful o.line v o.inverted) e

bits_fit : (o : LineOption) (i : ℕ) (range : Range) (v : Option Variable) (w : Wire)
    → bits_wire o i range v ≡ Some w → fits w ≡ true
unfolding bits_wire
bits_fit o i range None w e = absurd cc
bits_fit o i range (Some v) w e =
    if_fits i (tap_named o.line v o.inverted range) w (named_tap_is_lawful o.line v o.inverted range) e

single_fits : (o : Option Wire) → ((w : Wire) → o ≡ Some w → fits w ≡ true) → list_all fits (single o) ≡ true
unfolding single
single_fits None h = refl
single_fits (Some w) h = and_from _ _ (h w refl) refl

bit_wired_fits : (o : LineOption) (k : ℕ) (i : Option ℕ) (w : Wire) → o.line < 22 → k < line_width o.line
    → bit_wired o k i ≡ Some w → fits w ≡ true
unfolding bit_wired
bit_wired_fits o k None w h n e = absurd cc
bit_wired_fits o k (Some i) w h n e =
    sym (ap (λ x. fits (wire_of x w)) e) ∙ bit_tap_is_lawful o.line k o.inverted h n

word_bit_fits : (vs : List Variable) (o : LineOption) (scope word : List ℕ) (range : Range) → o.line < 22
    → (k : ℕ) (w : Wire) → word_wire vs o scope word range k ≡ Some w → fits w ≡ true
unfolding word_wire
word_bit_fits vs o scope word range h k w e =
    guarded_by (nat_lt k (line_width o.line)) (bit_wired o k (first_bit vs scope word (index_at range k))) w
    (λ t. bit_wired_fits o k (first_bit vs scope word (index_at range k)) w h (ltb-true _ _ t)) e

word_fits : (vs : List Variable) (o : LineOption) (range : Range) (word : List ℕ) (scope : Option (List ℕ))
    → list_all fits (word_wires vs o range word scope) ≡ true
unfolding word_wires
word_fits vs o range word None = refl
word_fits vs o range word (Some scope) =
    listed (nat_lt o.line 22) (filter_map (word_wire vs o scope word range) bit_numbers)
    (λ t. mapped_fit (word_wire vs o scope word range) (word_bit_fits vs o scope word range (ltb-true _ _ t))
    bit_numbers)

meant_fits : (vs : List Variable) (home : Home) (o : LineOption) (m : Meaning)
    → list_all fits (wires_meant vs home o m) ≡ true
unfolding wires_meant
meant_fits vs home o Nothing = refl
meant_fits vs home o Several = refl
meant_fits vs home o Lacking = refl
meant_fits vs home o (Whole i) = single_fits (whole_wire o i (slice_get vs i)) (whole_fits o i (slice_get vs i))
meant_fits vs home o (Bits i range) =
    single_fits (bits_wire o i range (slice_get vs i)) (bits_fit o i range (slice_get vs i))
meant_fits vs home o (Word range) =
    word_fits vs o range (name_sought o.target.items) (path_sought vs home o.target.items)
meant_fits vs home o (WordBits range) =
    word_fits vs o range (before_bits (name_sought o.target.items)) (path_sought vs home o.target.items)

named_fit : (vs : List Variable) (home : Home) (o : LineOption) → list_all fits (wires_named vs home o) ≡ true
unfolding wires_named
named_fit vs home o = meant_fits vs home o (meaning_of vs home o.line o.target.items)

-- ---- found in the scope

line_fits : (ns : List Named) (settled : List ℕ) (scope i : ℕ) (v : Variable) (line : Option ℕ) (w : Wire)
    → line_wire ns settled scope i v line ≡ Some w → fits w ≡ true
unfolding line_wire
line_fits ns settled scope i v None w e = absurd cc
line_fits ns settled scope i v (Some line) w e =
    guarded (not (is_listed settled line) && is_taken i (found_in ns scope line)) (wire_if i (tap_of line v false)) w
    (if_fits i (tap_of line v false) w (tap_is_lawful line v false)) e

-- what has a width is in the table
is_entry : (es : List TableEntry) (n k : ℕ) → k < entry_width (slice_get es n) → n < length es
unfolding entry_width
is_entry [] n k h = absurd (omega (arith, h))
is_entry (e ∷ es) zero k h = omega arith
is_entry (e ∷ es) (suc n) k h = let rest = is_entry es n k h in omega (arith, rest)

is_in_table : (line k : ℕ) → k < line_width line → line < 22
unfolding line_width
is_in_table line k h = is_entry table line k h

numbered_fits : (b : Bit) (base : ℕ) (c : Bool) (w : Wire)
    → (c ≡ true → b.number - base < line_width b.line)
    → cond c (Some (record { index = b.index; tap = bit_tap b.line (b.number - base) false })) None ≡ Some w
    → fits w ≡ true
numbered_fits b base true w h e =
    sym (ap (λ o. fits (wire_of o w)) e)
    ∙ bit_tap_is_lawful b.line (b.number - base) false (is_in_table b.line (b.number - base) (h refl)) (h refl)
numbered_fits b base false w h e = absurd cc

bit_from_fits : (b : Bit) (base : Option ℕ) (w : Wire) → bit_from b base ≡ Some w → fits w ≡ true
unfolding bit_from
bit_from_fits b None w e = absurd cc
bit_from_fits b (Some base) w e =
    numbered_fits b base (nat_le base b.number && nat_lt (b.number - base) (line_width b.line)) w
    (λ t. ltb-true _ _ (and_parts (nat_le base b.number) (nat_lt (b.number - base) (line_width b.line)) t).1) e

bit_fits : (bs : List Bit) (ns : List Named) (settled : List ℕ) (scope : ℕ) (b : Option Bit) (w : Wire)
    → bit_wire bs ns settled scope b ≡ Some w → fits w ≡ true
unfolding bit_wire
bit_fits bs ns settled scope None w e = absurd cc
bit_fits bs ns settled scope (Some b) w e =
    guarded
    ((not (is_listed settled b.line) && is_word_taken b (found_in ns scope b.line))
    && is_first b (bit_in bs b b.number))
    (bit_from b (base_of bs b)) w (bit_from_fits b (base_of bs b) w) e

either_fits : (o other : Option Wire) (w : Wire) → (o ≡ Some w → fits w ≡ true)
    → (other ≡ Some w → fits w ≡ true) → first_some o other ≡ Some w → fits w ≡ true
either_fits None other w h k e = k e
either_fits (Some own) other w h k e = h e

in_scope_fits : (vs : List Variable) (bs : List Bit) (ns : List Named) (settled : List ℕ) (scope i : ℕ) (v : Variable)
    (w : Wire) → wire_in vs bs ns settled scope i v ≡ Some w → fits w ≡ true
unfolding wire_in
in_scope_fits vs bs ns settled scope i v w e =
    either_fits (line_wire ns settled scope i v (line_named v.name.items)) (bit_wire bs ns settled scope (bit_at vs i v)) w
    (line_fits ns settled scope i v (line_named v.name.items) w) (bit_fits bs ns settled scope (bit_at vs i v) w) e

at_fits : (vs : List Variable) (bs : List Bit) (ns : List Named) (settled : List ℕ) (home : Home) (i : ℕ) (v : Variable)
    (w : Wire) → wire_at vs bs ns settled home i v ≡ Some w → fits w ≡ true
unfolding wire_at
at_fits vs bs ns settled Nowhere i v w e = absurd cc
at_fits vs bs ns settled (At scope) i v w e = in_scope_fits vs bs ns settled scope i v w e
at_fits vs bs ns settled (Refused cause) i v w e = absurd cc

-- ---- all of them

pub picked_are_lawful : (vs : List Variable) (os : List LineOption) (ns : List Named) (settled : List ℕ) (home : Home)
    → AreLawfulWires (wires_with vs os ns settled home)
unfolding wires_with option_wires found_wires
picked_are_lawful vs os ns settled home =
    list_all-append fits (flat_map (wires_named vs home) os)
    (filter_map (λ p. wire_at vs (bits vs) ns settled home p.0 p.1) (enumerate_from 0 vs))
    ∙ and_from _ _ (flat_fit (wires_named vs home) (named_fit vs home) os)
    (mapped_fit (λ p. wire_at vs (bits vs) ns settled home p.0 p.1)
    (λ p. at_fits vs (bits vs) ns settled home p.0 p.1) (enumerate_from 0 vs))
