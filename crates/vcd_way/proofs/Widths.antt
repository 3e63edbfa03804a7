-- In a lawful way each line keeps its width.
use Rattle.std.proofs.Common.{◌≡◌, ℕ, ◌+◌, ◌-◌, ◌≤◌, Bool, true, false, not, ◌&&◌, ◌==◌, if◌then◌else◌, is_some, nat_le, nat_lt, min}
use Rattle.std.proofs.Common.{List, [], ◌∷◌, ◌++◌, length, take, drop, map, reverse, replicate, slice_get, slice_set, slice_index}
use Rattle.std.proofs.Common.{Option, Some, None, codes, refl, sym, ap, ◌∙◌, arith, suc, zero}
use Rattle.std.specs.List.{list_all}
use Rattle.std.specs.Option.{option_map_or}
use Rattle.std.proofs.lemmas.Bool.{leb-true, ltb-true, ltb-false, lt-ltb, le-leb, eqb-true, eq-eqb, and_parts, and_from, or_parts}
use Rattle.std.proofs.lemmas.List.{length-take, length-drop, length-append, length-map, length-replicate, length-reverse}
use Rattle.fsb_signal.specs.Table.{TableEntry, table}
use Rattle.fsb_signal.specs.DumpText.{width_of}
use Rattle.vcd_grammar.specs.declared.fault.VcdCause.TheVariants as causes
use Rattle.vcd_grammar.specs.Tokens.{Token, is_long, tokens_so_far}
use Rattle.vcd_grammar.specs.Digits.{pad_of, extended}
use Rattle.vcd_grammar.specs.Words.{HeaderWord, Declares, Finishes, Ends, Opens, Bare, header_word, is_dollar, is_end, same}
use Rattle.vcd_grammar.specs.Words.{ValueWord, Stamp, Scalar, Vector, Foreign, Mark, Section, Wrong}
use Rattle.vcd_grammar.specs.Values.{Values, at_first}
use Rattle.vcd_way.specs.declared.tap.BitRun.{BitRun}
use Rattle.vcd_way.specs.declared.tap.Part.{Part}
use Rattle.vcd_way.specs.declared.tap.Part.TheVariants as parts
use Rattle.vcd_way.specs.declared.tap.Tap.{Tap}
use Rattle.vcd_way.specs.Declarations.{DumpSection, Declaration, declaration_of, with_word}
use Rattle.vcd_way.specs.Ways.{Kept, Keeps, Refuses, ValueRules, Way}
use Rattle.vcd_way.specs.Pieces.{Happening, Comes, Gets, Switches}
use Rattle.vcd_way.specs.Events.{whole, inverted_digit, inverted_if, run_of, with_part, digits_at, set_tap, set_taps, unknown_in}
use Rattle.vcd_way.specs.Steps.{Spot, AtPreface, AtHeader, InSection, AtValues, AtCode, AtOtherCode, InRemark, DumpState}
use Rattle.vcd_way.specs.Steps.{first_state, Step, reads_past, moves_to, breaks, if_short, header_step}
use Rattle.vcd_way.specs.Steps.{kept_step, declared_step, section_end, section_step, is_declaring, one_more, digits_by}
use Rattle.vcd_way.specs.Steps.{value_word_by, comes, stamp_step, given, scalar_step, is_too_wide_for, is_unreadable}
use Rattle.vcd_way.specs.Steps.{vector_digits, vector_step, other_step, stops, resumes, mark_step, value_step, may_be_long}
use Rattle.vcd_way.specs.Steps.{remark_step, step_at, step, happenings_in}
use Rattle.vcd_way.specs.Lawful.{is_line, is_part_within, is_lawful_tap, is_lawfully_kept, IsLawfulWay, values_through}
use Rattle.vcd_way.specs.Lawful.{values_so_far_by, HasWidths}

-- ---- values

set-lengths : (v : Values) (n : ℕ) (ds : List ℕ) → length ds ≡ length (digits_at v n)
    → map length (slice_set v n ds) ≡ map length v
set-lengths [] n ds h = refl
set-lengths (x ∷ v) zero ds h = ap (λ k. k ∷ map length v) h
set-lengths (x ∷ v) (suc n) ds h = ap (λ ks. length x ∷ ks) (set-lengths v n ds h)

abbrev first_number : List ℕ → ℕ
first_number [] = 0
first_number (n ∷ ns) = n

abbrev other_numbers : List ℕ → List ℕ
other_numbers [] = []
other_numbers (n ∷ ns) = ns

same-at : (v : Values) (es : List TableEntry) (n : ℕ) → map length v ≡ map (λ (e : TableEntry). e.width) es
    → length (digits_at v n) ≡ option_map_or (λ (e : TableEntry). e.width) (slice_get es n) 0
same-at [] [] n h = refl
same-at [] (e ∷ es) n h = cc h
same-at (x ∷ v) [] n h = cc h
same-at (x ∷ v) (e ∷ es) zero h = ap first_number h
same-at (x ∷ v) (e ∷ es) (suc n) h = same-at v es n (ap other_numbers h)

-- ---- parts

turned-length : (b : Bool) (ds : List ℕ) → length (if b then reverse ds else ds) ≡ length ds
turned-length true ds = length-reverse ds
turned-length false ds = refl

run-length : (run : BitRun) (ds : List ℕ) → (run.low + run.count) ≤ length ds → length (run_of run ds) ≡ run.count
run-length run ds h =
    let rest = drop (length ds - (run.low + run.count)) ds in
    turned-length run.is_turned (take run.count rest)
    ∙ omega (arith, h, length-take run.count rest, length-drop (length ds - (run.low + run.count)) ds)

put-length : (a b c : List ℕ) → length (a ++ b ++ c) ≡ length a + (length b + length c)
put-length a b c =
    omega (arith, length-append a (b ++ c), length-append b c, length-append (a ++ b) c, length-append a b)

-- what stands before a part, the part, and what stands behind it
whole-again : (n high count a b c : ℕ) → high ≤ n → count ≤ high → a ≡ min (n - high) n → b ≡ count
    → c ≡ n - ((n - high) + count) → a + (b + c) ≡ n
whole-again n high count a b c h k p q r = omega (arith, h, k, p, q, r)

part-length : (part : Part) (width line_width : ℕ) (ds line : List ℕ) → is_part_within part width line_width ≡ true
    → length ds ≡ width → length line ≡ line_width → length (with_part part ds line) ≡ length line
part-length parts.Whole width line_width ds line h d l = d ∙ eqb-true width line_width h ∙ sym l
part-length (parts.Bits run) width line_width ds line h d l =
    let within = and_parts (nat_le (run.low + run.count) width) (nat_le (run.lowest + run.count) line_width) h in
    let low = leb-true (run.low + run.count) width within.0 in
    let lowest = leb-true (run.lowest + run.count) line_width within.1 in
    let top = length line - (run.lowest + run.count) in
    let bits = run_of run ds in
    let rest = drop (top + run.count) line in
    let count = run-length run ds (omega (arith, low, d)) in
    let taken = length-take top line in
    let left = length-drop (top + run.count) line in
    put-length (take top line) bits rest
    ∙ whole-again (length line) (run.lowest + run.count) run.count (length (take top line)) (length bits) (length rest)
    (omega (arith, lowest, l)) (omega arith) taken count left

inverted-length : (b : Bool) (ds : List ℕ) → length (inverted_if b ds) ≡ length ds
inverted-length true ds = length-map ds inverted_digit
inverted-length false ds = refl

extended-length : (width : ℕ) (ds : List ℕ) → length ds ≤ width → length (extended width ds) ≡ width
unfolding extended
extended-length width ds h =
    let pad = pad_of (slice_index ds 0) in
    omega (arith, h, length-append (replicate (width - length ds) pad) ds, length-replicate (width - length ds) pad)

-- ---- taps

-- digits that a lawful tap takes
abbrev is_fit : List ℕ → Tap → Bool
is_fit ds tap = is_lawful_tap tap && nat_le (length ds) tap.width

within-tap : (tap : Tap) → is_lawful_tap tap ≡ true → is_part_within tap.part tap.width (width_of tap.line) ≡ true
within-tap tap h =
    let within = is_part_within tap.part tap.width (width_of tap.line) in
    (and_parts (nat_le 1 tap.width) within (and_parts (is_line tap.line) (nat_le 1 tap.width && within) h).1).1

some-tap : (tap : Tap) → is_lawful_tap tap ≡ true → nat_le 1 tap.width ≡ true
some-tap tap h =
    let within = is_part_within tap.part tap.width (width_of tap.line) in
    (and_parts (nat_le 1 tap.width) within (and_parts (is_line tap.line) (nat_le 1 tap.width && within) h).1).0

tap-widths : (v : Values) (tap : Tap) (ds : List ℕ) → HasWidths v → is_fit ds tap ≡ true → HasWidths (set_tap v tap ds)
tap-widths v tap ds h f =
    let both = and_parts (is_lawful_tap tap) (nat_le (length ds) tap.width) f in
    let all = extended tap.width ds in
    let line = digits_at v tap.line in
    set-lengths v tap.line (with_part tap.part (inverted_if tap.inverted all) line)
    (part-length tap.part tap.width (width_of tap.line) (inverted_if tap.inverted all) line (within-tap tap both.0)
    (inverted-length tap.inverted all ∙ extended-length tap.width ds (leb-true (length ds) tap.width both.1))
    (same-at v table tap.line h)) ∙ h

taps-widths : (v : Values) (taps : List Tap) (ds : List ℕ) → HasWidths v → list_all (is_fit ds) taps ≡ true
    → HasWidths (set_taps v taps ds)
taps-widths v [] ds h f = h
taps-widths v (tap ∷ taps) ds h f =
    let both = and_parts (is_fit ds tap) (list_all (is_fit ds) taps) f in
    taps-widths (set_tap v tap ds) taps ds (tap-widths v tap ds h both.0) both.1

-- each line has a bit
least : (es : List TableEntry) (n : ℕ) → list_all (λ (e : TableEntry). nat_le 1 e.width) es ≡ true
    → nat_lt n (length es) ≡ true → nat_le 1 (option_map_or (λ (e : TableEntry). e.width) (slice_get es n) 0) ≡ true
least [] n h o = absurd (omega (arith, ltb-true n 0 o))
least (e ∷ es) zero h o = (and_parts (nat_le 1 e.width) (list_all (λ (x : TableEntry). nat_le 1 x.width) es) h).0
least (e ∷ es) (suc n) h o =
    least es n (and_parts (nat_le 1 e.width) (list_all (λ (x : TableEntry). nat_le 1 x.width) es) h).1
    (lt-ltb n (length es) (omega (arith, ltb-true (suc n) (length (e ∷ es)) o)))

pub whole-lawful : (n : ℕ) → is_line n ≡ true → is_lawful_tap (whole n) ≡ true
whole-lawful n h =
    let some = least table n refl h in
    and_from (is_line n) (nat_le 1 (width_of n) && (width_of n == width_of n)) h
    (and_from (nat_le 1 (width_of n)) (width_of n == width_of n) some (eq-eqb (width_of n) (width_of n) refl))

-- lawful taps take one digit
one-digit : (taps : List Tap) (d : ℕ) (ds : List ℕ) → list_all is_lawful_tap taps ≡ true → length ds ≡ length (d ∷ [])
    → list_all (is_fit ds) taps ≡ true
one-digit [] d ds h e = refl
one-digit (tap ∷ taps) d ds h e =
    let both = and_parts (is_lawful_tap tap) (list_all is_lawful_tap taps) h in
    let some = leb-true 1 tap.width (some-tap tap both.0) in
    and_from (is_fit ds tap) (list_all (is_fit ds) taps)
    (and_from (is_lawful_tap tap) (nat_le (length ds) tap.width) both.0
    (le-leb (length ds) tap.width (omega (arith, some, e)))) (one-digit taps d ds both.1 e)

whole-taps : (lines : List ℕ) → list_all is_line lines ≡ true → list_all is_lawful_tap (map whole lines) ≡ true
whole-taps [] h = refl
whole-taps (n ∷ lines) h =
    let both = and_parts (is_line n) (list_all is_line lines) h in
    and_from (is_lawful_tap (whole n)) (list_all is_lawful_tap (map whole lines)) (whole-lawful n both.0)
    (whole-taps lines both.1)

unknown-fit : (lines : List ℕ) → list_all is_line lines ≡ true → list_all (is_fit (120 ∷ [])) (map whole lines) ≡ true
unknown-fit lines h = one-digit (map whole lines) 120 (120 ∷ []) (whole-taps lines h) refl

-- digits that are not too wide
narrow-taps : (taps : List Tap) (digits ds : List ℕ) → list_all is_lawful_tap taps ≡ true
    → is_too_wide_for taps digits ≡ false → length ds ≡ length digits → list_all (is_fit ds) taps ≡ true
narrow-taps [] digits ds h w e = refl
narrow-taps (tap ∷ taps) digits ds h w e =
    let both = and_parts (is_lawful_tap tap) (list_all is_lawful_tap taps) h in
    let fits = or_parts (nat_lt tap.width (length digits)) (is_too_wide_for taps digits) w in
    let few = ltb-false tap.width (length digits) fits.0 in
    and_from (is_fit ds tap) (list_all (is_fit ds) taps)
    (and_from (is_lawful_tap tap) (nat_le (length ds) tap.width) both.0
    (le-leb (length ds) tap.width (omega (arith, few, e)))) (narrow-taps taps digits ds both.1 fits.1 e)

-- ---- what happens

abbrev fits : Happening → Bool
fits (Comes stamp) = true
fits (Gets change) = list_all (is_fit change.digits) change.taps
fits (Switches switch lines) = list_all is_line lines

through : (v : Values) (hs : List Happening) → HasWidths v → list_all fits hs ≡ true → HasWidths (values_through v hs)
through v [] h f = h
through v (Comes stamp ∷ hs) h f = through v hs h f
through v (Gets change ∷ hs) h f =
    let both = and_parts (list_all (is_fit change.digits) change.taps) (list_all fits hs) f in
    through (set_taps v change.taps change.digits) hs (taps-widths v change.taps change.digits h both.0) both.1
through v (Switches switch lines ∷ hs) h f =
    let both = and_parts (list_all is_line lines) (list_all fits hs) f in
    through (unknown_in v lines) hs (taps-widths v (map whole lines) (120 ∷ []) h (unknown-fit lines both.0)) both.1

-- what is kept holds, and what happens fits
record Fits {W : Type 0} (holds : W → Bool) (y : Step W) : Type 0 where
  header : holds y.state.header ≡ true
  fit : list_all fits y.happenings ≡ true

fits-if : {W : Type 0} (holds : W → Bool) (b : Bool) (x y : Step W) → Fits holds x → Fits holds y
    → Fits holds (if b then x else y)
fits-if holds true x y p q = p
fits-if holds false x y p q = q

alone : (b : Bool) → b ≡ true → (b && true) ≡ true
alone b h = ap (λ x. x && true) h

-- ---- the header

fits-kept : {W : Type 0} (holds : W → Bool) (s : DumpState W) (place : ℕ) (kept : Kept W) → holds s.header ≡ true
    → is_lawfully_kept holds kept ≡ true → Fits holds (kept_step s place kept)
fits-kept holds s place (Keeps header []) h k =
    record { header = (and_parts (holds header) true k).0; fit = refl }
fits-kept holds s place (Keeps header (n ∷ lines)) h k =
    let both = and_parts (holds header) (list_all is_line (n ∷ lines)) k in
    record {
      header = both.0;
      fit = alone (list_all (is_fit (120 ∷ [])) (map whole (n ∷ lines))) (unknown-fit (n ∷ lines) both.1);
    }
fits-kept holds s place (Refuses cause) h k = record { header = h; fit = refl }

fits-declared : {W : Type 0} (way : Way W) (holds : W → Bool) (s : DumpState W) (place : ℕ) (d : Option Declaration)
    → IsLawfulWay way holds → holds s.header ≡ true → Fits holds (declared_step way s place d)
fits-declared way holds s place None law h = record { header = h; fit = refl }
fits-declared way holds s place (Some d) law h =
    fits-kept holds s place (way.declares s.header d) h (law.declares s.header d h)

fits-end : {W : Type 0} (way : Way W) (holds : W → Bool) (s : DumpState W) (section : DumpSection) (w : HeaderWord)
    → IsLawfulWay way holds → holds s.header ≡ true → Fits holds (section_end way s section w)
fits-end way holds s section Declares law h =
    fits-declared way holds (record s { spot = AtHeader }) section.place
    (declaration_of way.rules.widest s.path section) law h
fits-end way holds s section Finishes law h =
    fits-kept holds (record s { spot = AtValues }) section.place (way.closes s.header) h (law.closes s.header h)
fits-end way holds s section Ends law h = record { header = h; fit = refl }
fits-end way holds s section Opens law h = record { header = h; fit = refl }
fits-end way holds s section Bare law h = record { header = h; fit = refl }

fits-section : {W : Type 0} (way : Way W) (holds : W → Bool) (s : DumpState W) (section : DumpSection) (t : Token)
    → IsLawfulWay way holds → holds s.header ≡ true → Fits holds (section_step way s section t)
fits-section way holds s section t law h =
    let w = header_word section.keyword in
    let more = moves_to s (InSection (with_word section t.word)) in
    fits-if holds (is_long t.word && is_declaring w) (breaks s t.place causes.Token)
    (if is_end t.word then section_end way s section w else more) (record { header = h; fit = refl })
    (fits-if holds (is_end t.word) (section_end way s section w) more (fits-end way holds s section w law h)
    (record { header = h; fit = refl }))

fits-header : {W : Type 0} (holds : W → Bool) (s : DumpState W) (t : Token) (w : HeaderWord) → holds s.header ≡ true
    → Fits holds (header_step s t w)
fits-header holds s t Declares h = record { header = h; fit = refl }
fits-header holds s t Finishes h = record { header = h; fit = refl }
fits-header holds s t Ends h = record { header = h; fit = refl }
fits-header holds s t Opens h = record { header = h; fit = refl }
fits-header holds s t Bare h = record { header = h; fit = refl }

fits-short : {W : Type 0} (holds : W → Bool) (s : DumpState W) (t : Token) (y : Step W) → holds s.header ≡ true
    → Fits holds y → Fits holds (if_short s t y)
fits-short holds s t y h p =
    fits-if holds (is_long t.word) (breaks s t.place causes.Token) y (record { header = h; fit = refl }) p

-- ---- the values

more-length : (d : Option ℕ) (rest : Option (List ℕ)) (ds : List ℕ) (n : ℕ)
    → ((r : List ℕ) → rest ≡ Some r → length r ≡ n) → one_more d rest ≡ Some ds → length ds ≡ suc n
more-length None rest ds n h k = cc k
more-length (Some d) None ds n h k = cc k
more-length (Some d) (Some r) ds n h k =
    sym (ap (λ (o : Option (List ℕ)). length (option_map_or (λ x. x) o [])) k) ∙ ap (λ n. suc n) (h r refl)

meant-length : (m : ValueRules) (bs ds : List ℕ) → digits_by m bs ≡ Some ds → length ds ≡ length bs
meant-length m [] ds h = sym (ap (λ (o : Option (List ℕ)). length (option_map_or (λ x. x) o [])) h)
meant-length m (b ∷ bs) ds h = more-length (m.digit b) (digits_by m bs) ds (length bs) (λ r e. meant-length m bs r e) h

vector-length : (m : ValueRules) (bs ds : List ℕ) (b : Bool) → (if b then None else digits_by m bs) ≡ Some ds
    → length ds ≡ length bs
vector-length m bs ds true h = cc h
vector-length m bs ds false h = meant-length m bs ds h

fits-stamp : {W : Type 0} (holds : W → Bool) (s : DumpState W) (place time : ℕ) (last : Option ℕ)
    → holds s.header ≡ true → Fits holds (stamp_step s place time last)
fits-stamp holds s place time None h = record { header = h; fit = refl }
fits-stamp holds s place time (Some last) h =
    fits-if holds (nat_lt time last) (breaks s place causes.TimeBack)
    (if nat_lt last time then comes s place time else reads_past s) (record { header = h; fit = refl })
    (fits-if holds (nat_lt last time) (comes s place time) (reads_past s) (record { header = h; fit = refl })
    (record { header = h; fit = refl }))

fits-given : {W : Type 0} (holds : W → Bool) (s : DumpState W) (place : ℕ) (taps : List Tap) (digits : Option (List ℕ))
    → holds s.header ≡ true → ((ds : List ℕ) → digits ≡ Some ds → list_all (is_fit ds) taps ≡ true)
    → Fits holds (given s place taps digits)
fits-given holds s place taps (Some ds) h f =
    record { header = h; fit = alone (list_all (is_fit ds) taps) (f ds refl) }
fits-given holds s place [] None h f = record { header = h; fit = refl }
fits-given holds s place (tap ∷ taps) None h f = record { header = h; fit = refl }

fits-scalar : {W : Type 0} (way : Way W) (holds : W → Bool) (s : DumpState W) (place digit : ℕ) (o : Option (List Tap))
    → holds s.header ≡ true → ((taps : List Tap) → o ≡ Some taps → list_all is_lawful_tap taps ≡ true)
    → Fits holds (scalar_step way s place digit o)
fits-scalar way holds s place digit None h l = record { header = h; fit = refl }
fits-scalar way holds s place digit (Some taps) h l =
    fits-given holds s place taps (digits_by way.rules (digit ∷ [])) h
    (λ ds e. one-digit taps digit ds (l taps refl) (meant-length way.rules (digit ∷ []) ds e))

fits-wide : {W : Type 0} (way : Way W) (holds : W → Bool) (s : DumpState W) (from : ℕ) (digits : List ℕ) (taps : List Tap)
    (b : Bool) → is_too_wide_for taps digits ≡ b → holds s.header ≡ true → list_all is_lawful_tap taps ≡ true
    → Fits holds (if b then breaks s from causes.Width else given s from taps (vector_digits way.rules digits))
fits-wide way holds s from digits taps true e h l = record { header = h; fit = refl }
fits-wide way holds s from digits taps false e h l =
    fits-given holds s from taps (vector_digits way.rules digits) h
    (λ ds k. narrow-taps taps digits ds l e
    (vector-length way.rules digits ds (way.rules.takes_any && is_unreadable digits) k))

fits-vector : {W : Type 0} (way : Way W) (holds : W → Bool) (s : DumpState W) (place from : ℕ) (digits : List ℕ)
    (o : Option (List Tap)) → holds s.header ≡ true
    → ((taps : List Tap) → o ≡ Some taps → list_all is_lawful_tap taps ≡ true)
    → Fits holds (vector_step way s place from digits o)
fits-vector way holds s place from digits None h l = record { header = h; fit = refl }
fits-vector way holds s place from digits (Some taps) h l =
    fits-wide way holds s from digits taps (is_too_wide_for taps digits) refl h (l taps refl)

fits-other : {W : Type 0} (holds : W → Bool) (s : DumpState W) (place : ℕ) (o : Option (List Tap)) → holds s.header ≡ true
    → Fits holds (other_step s place o)
fits-other holds s place None h = record { header = h; fit = refl }
fits-other holds s place (Some taps) h = record { header = h; fit = refl }

fits-mark : {W : Type 0} (way : Way W) (holds : W → Bool) (s : DumpState W) (word : List ℕ) → IsLawfulWay way holds
    → holds s.header ≡ true → Fits holds (mark_step way s word)
fits-mark way holds s word law h =
    let lines = alone (list_all is_line (way.lines s.header)) (law.lines s.header h) in
    let on = way.rules.tells_holes && (s.is_off && same (codes "$dumpon") word) in
    fits-if holds (way.rules.tells_holes && same (codes "$dumpoff") word) (stops way s)
    (if on then resumes way s else reads_past s) (record { header = h; fit = lines })
    (fits-if holds on (resumes way s) (reads_past s) (record { header = h; fit = lines }) (record { header = h; fit = refl }))

fits-value : {W : Type 0} (way : Way W) (holds : W → Bool) (s : DumpState W) (t : Token) (w : ValueWord)
    → IsLawfulWay way holds → holds s.header ≡ true → Fits holds (value_step way s t w)
fits-value way holds s t (Stamp time) law h = fits-stamp holds s t.place time s.time h
fits-value way holds s t (Scalar digit code) law h =
    fits-scalar way holds s t.place digit (way.taps s.header code) h (λ taps e. law.taps s.header code taps h e)
fits-value way holds s t (Vector digits) law h = record { header = h; fit = refl }
fits-value way holds s t Foreign law h = record { header = h; fit = refl }
fits-value way holds s t Mark law h = fits-mark way holds s t.word law h
fits-value way holds s t Section law h = record { header = h; fit = refl }
fits-value way holds s t Wrong law h = record { header = h; fit = refl }

fits-remark : {W : Type 0} (holds : W → Bool) (s : DumpState W) (section : DumpSection) (t : Token) → holds s.header ≡ true
    → Fits holds (remark_step s section t)
fits-remark holds s section t h =
    fits-if holds (is_end t.word) (moves_to (record s { remarks = s.remarks ++ section ∷ [] }) AtValues)
    (moves_to s (InRemark (with_word section t.word))) (record { header = h; fit = refl }) (record { header = h; fit = refl })

-- ---- tokens

fits-at : {W : Type 0} (way : Way W) (holds : W → Bool) (spot : Spot) (s : DumpState W) (t : Token)
    → IsLawfulWay way holds → holds s.header ≡ true → Fits holds (step_at way spot s t)
fits-at way holds AtPreface s t law h =
    let word = header_step s t (header_word t.word) in
    fits-if holds (is_dollar t.word) (if_short s t word) (reads_past s)
    (fits-short holds s t word h (fits-header holds s t (header_word t.word) h)) (record { header = h; fit = refl })
fits-at way holds AtHeader s t law h =
    fits-short holds s t (header_step s t (header_word t.word)) h (fits-header holds s t (header_word t.word) h)
fits-at way holds (InSection section) s t law h = fits-section way holds s section t law h
fits-at way holds AtValues s t law h =
    let w = value_word_by way.rules t.word in
    fits-if holds (not (way.rules.takes_any && may_be_long w) && is_long t.word) (breaks s t.place causes.Token)
    (value_step way s t w) (record { header = h; fit = refl }) (fits-value way holds s t w law h)
fits-at way holds (AtCode from digits) s t law h =
    let taps = way.taps s.header t.word in
    fits-short holds s t (vector_step way s t.place from digits taps) h
    (fits-vector way holds s t.place from digits taps h (λ ts e. law.taps s.header t.word ts h e))
fits-at way holds (AtOtherCode from) s t law h =
    let taps = way.taps s.header t.word in
    fits-short holds s t (other_step s t.place taps) h (fits-other holds s t.place taps h)
fits-at way holds (InRemark section) s t law h = fits-remark holds s section t h

fits-step : {W : Type 0} (way : Way W) (holds : W → Bool) (s : DumpState W) (t : Token) → IsLawfulWay way holds
    → holds s.header ≡ true → Fits holds (step way s t)
unfolding step
fits-step way holds s t law h =
    fits-if holds (is_some s.fault) (reads_past s) (step_at way s.spot s t) (record { header = h; fit = refl })
    (fits-at way holds s.spot s t law h)

fits-append : (a b : List Happening) → list_all fits a ≡ true → list_all fits b ≡ true → list_all fits (a ++ b) ≡ true
fits-append [] b p q = q
fits-append (x ∷ a) b p q =
    let both = and_parts (fits x) (list_all fits a) p in
    and_from (fits x) (list_all fits (a ++ b)) both.0 (fits-append a b both.1 q)

fits-in : {W : Type 0} (way : Way W) (holds : W → Bool) (s : DumpState W) (ts : List Token) → IsLawfulWay way holds
    → holds s.header ≡ true → list_all fits (happenings_in way s ts) ≡ true
fits-in way holds s [] law h = refl
fits-in way holds s (t ∷ ts) law h =
    let one = fits-step way holds s t law h in
    fits-append (step way s t).happenings (happenings_in way (step way s t).state ts) one.fit
    (fits-in way holds (step way s t).state ts law one.header)

pub widths-kept : {W : Type 0} (way : Way W) (holds : W → Bool) (fed : List ℕ) → IsLawfulWay way holds
    → HasWidths (values_so_far_by way fed)
unfolding values_so_far_by
widths-kept way holds fed law =
    through at_first (happenings_in way (first_state way) (tokens_so_far fed)) refl
    (fits-in way holds (first_state way) (tokens_so_far fed) law law.start)
