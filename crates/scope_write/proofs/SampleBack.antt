-- The digits of a sample give the sample back, also what is unknown in it.
use Rattle.std.proofs.Common.{◌≡◌, ℕ, zero, suc, ◌+◌, ◌*◌, ◌%◌, ◌^◌, ◌<◌, Bool, true, false, List, [], ◌∷◌, map, refl, sym, ap, ◌∙◌}
use Rattle.std.proofs.Common.{arith, replicate}
use Rattle.std.proofs.Math.Path.{ap₂}
use Rattle.std.specs.Prelude.{if◌then◌else◌, nat_lt, slice_index}
use Rattle.std.specs.List.{list_all}
use Rattle.std.specs.Int.{bit_at}
use Rattle.std.specs.Int.RustNames.{bit_and}
use Rattle.std.specs.Int.Bits.{and_zero_r, xor_zero_r}
use Rattle.std.proofs.Math.Nat.{mod-eq_of_lt}
use Rattle.std.proofs.lemmas.Bool.{ltb-true, and_parts}
use Rattle.fsb_signal.specs.declared.sample.Sample.{Sample}
use Rattle.fsb_signal.specs.Samples.{known_sample}
use Rattle.fsb_signal.specs.DumpText.{width_of, value_of, digits_of}
use Rattle.fsb_signal.proofs.Interface.{same_word, same_sample}
use Rattle.vcd_grammar.specs.Digits.{is_unknown}
use Rattle.vcd_grammar.specs.declared.level.Level.{Level}
use Rattle.vcd_grammar.specs.Levels.{level_of, asserted_at, unknown_at, control_of, bits_without, bits_from, is_low}
use Rattle.vcd_grammar.specs.Values.{sample_at, sample_of}
use Rattle.vcd_laws.proofs.Known.{next, none}
use Rattle.vcd_laws.proofs.Lines.{digits_at}
use Rattle.vcd_laws.proofs.SampleBack.{sample-back}
use Rattle.scope_write.specs.Text.{unknowns, unknown_of, is_written, shown_digits}
use Rattle.scope_write.specs.Samples.{IsSilent, Has64Lines}
use Rattle.scope_write.proofs.Digits.{AreApart, IsOne, bit_in, one_of, apart-one, apart-two, apart-three, apart-word}
use Rattle.scope_write.proofs.Digits.{low-shown_digits, unknown-shown_digits, idle-shown_digits}
use Rattle.scope_write.proofs.Lines.{all_numbers, by_number, line_of, lines_of}

-- ---- lines that are not written

-- what a line has, whether it is written or not
abbrev whole_line : ℕ → Sample → ℕ → List ℕ
whole_line clock s zero = clock ∷ []
whole_line clock s (suc n) = shown_digits (width_of (suc n)) (value_of s (suc n)) (unknown_of s (suc n))

same_map : (f g : ℕ → List ℕ) → ((n : ℕ) → n < 22 → f n ≡ g n) → (ns : List ℕ)
    → list_all (λ n. nat_lt n 22) ns ≡ true → map f ns ≡ map g ns
same_map f g same [] h = refl
same_map f g same (n ∷ ns) h =
    ap₂ (λ x xs. x ∷ xs) (same n (ltb-true n 22 (and_parts _ _ h).0)) (same_map f g same ns (and_parts _ _ h).1)

-- a silent line has its digits although they are not written
written_or_not : (there : List Bool) (clock : ℕ) (s : Sample) → IsSilent there s → (n : ℕ) → n < 22
    → line_of there clock s n ≡ whole_line clock s n
written_or_not there clock s silent zero h = refl
written_or_not there clock s silent (suc n) h = by (is_written there (suc n)) (silent (suc n) h)
  where
    by : (w : Bool) → (w ≡ false → (value_of s (suc n) ≡ 0) × (unknown_of s (suc n) ≡ 0)) →
        (if w then shown_digits (width_of (suc n)) (value_of s (suc n)) (unknown_of s (suc n))
        else replicate (width_of (suc n)) 49)
        ≡ shown_digits (width_of (suc n)) (value_of s (suc n)) (unknown_of s (suc n))
    by true quiet = refl
    by false quiet =
        sym (ap₂ (shown_digits (width_of (suc n))) (quiet refl).0 (quiet refl).1
        ∙ idle-shown_digits (width_of (suc n)))

-- ---- what the digits say

-- what each line has
abbrev levels : (ℕ → List ℕ) → List Level
levels f = map level_of (by_number f)

asserted-levels : (f : ℕ → List ℕ) (n : ℕ) → n < 22 → asserted_at (levels f) n ≡ bits_from is_low 0 (f n)
unfolding level_of
asserted-levels f =
    next _ 21 refl
    (next _ 20 refl
    (next _ 19 refl
    (next _ 18 refl
    (next _ 17 refl
    (next _ 16 refl
    (next _ 15 refl
    (next _ 14 refl
    (next _ 13 refl
    (next _ 12 refl
    (next _ 11 refl
    (next _ 10 refl
    (next _ 9 refl
    (next _ 8 refl
    (next _ 7 refl
    (next _ 6 refl
    (next _ 5 refl
    (next _ 4 refl
    (next _ 3 refl
    (next _ 2 refl
    (next _ 1 refl
    (next _ 0 refl (none _))))))))))))))))))))))

unknown-levels : (f : ℕ → List ℕ) (n : ℕ) → n < 22 → unknown_at (levels f) n ≡ bits_from is_unknown 0 (f n)
unfolding level_of
unknown-levels f =
    next _ 21 refl
    (next _ 20 refl
    (next _ 19 refl
    (next _ 18 refl
    (next _ 17 refl
    (next _ 16 refl
    (next _ 15 refl
    (next _ 14 refl
    (next _ 13 refl
    (next _ 12 refl
    (next _ 11 refl
    (next _ 10 refl
    (next _ 9 refl
    (next _ 8 refl
    (next _ 7 refl
    (next _ 6 refl
    (next _ 5 refl
    (next _ 4 refl
    (next _ 3 refl
    (next _ 2 refl
    (next _ 1 refl
    (next _ 0 refl (none _))))))))))))))))))))))

-- the digits of a sample without unknown bits
abbrev known_line : ℕ → Sample → ℕ → List ℕ
known_line clock s zero = clock ∷ []
known_line clock s (suc n) = digits_of (width_of (suc n)) (value_of s (suc n))

-- the sample that asserts what another asserts, and in which nothing is unknown
abbrev asserted_part : Sample → Sample
asserted_part s = known_sample s.lines.0 s.req.bits s.addr.bits s.dbus.bits

-- the values of a sample, by its lines and words
abbrev values_by : ℕ → ℕ → ℕ → ℕ → List ℕ
values_by l r a d =
    0 ∷ bit_in l 1 ∷ bit_in l 2 ∷ bit_in l 4 ∷ bit_in l 8 ∷ bit_in l 16
    ∷ bit_in l 32 ∷ bit_in l 64 ∷ bit_in l 128 ∷ r ∷ a ∷ bit_in l 256
    ∷ bit_in l 512 ∷ bit_in l 1024 ∷ bit_in l 2048 ∷ (4 * bit_in l 16384 + 2 * bit_in l 8192 + bit_in l 4096) ∷ bit_in l 32768 ∷ bit_in l 65536
    ∷ bit_in l 131072 ∷ d ∷ (2 * bit_in l 524288 + bit_in l 262144) ∷ bit_in l 1048576 ∷ []

same_values : (s : Sample) (n : ℕ) → value_of (asserted_part s) n ≡ value_of s n
unfolding value_of
same_values s n =
    ap (λ l. slice_index (values_by l (s.req.bits % 32) (s.addr.bits % 8589934592) s.dbus.bits) n)
    (mod-eq_of_lt s.line_bits)
    ∙ ap (λ r. slice_index (values_by s.lines.0 r (s.addr.bits % 8589934592) s.dbus.bits) n) (mod-eq_of_lt s.req_bits)
    ∙ ap (λ a. slice_index (values_by s.lines.0 s.req.bits a s.dbus.bits) n) (mod-eq_of_lt s.addr_bits)

-- ---- no line is both

control_apart : (s : Sample) → bit_and s.lines.0 (s.unknown.0 % 2097152) ≡ 0
control_apart s = ap (bit_and s.lines.0) (mod-eq_of_lt s.line_unknown) ∙ s.disjoint

req_apart : (s : Sample) → bit_and s.req.bits (s.req.unknown % 32) ≡ 0
req_apart s = ap (bit_and s.req.bits) (mod-eq_of_lt s.req_unknown) ∙ s.req.disjoint

addr_apart : (s : Sample) → bit_and s.addr.bits (s.addr.unknown % 8589934592) ≡ 0
addr_apart s = ap (bit_and s.addr.bits) (mod-eq_of_lt s.addr_unknown) ∙ s.addr.disjoint

line : (s : Sample) (mask i : ℕ) → bit_at mask i ≡ 1 → IsOne (bit_in s.lines.0 mask) (bit_in (s.unknown.0 % 2097152) mask)
line s mask i one = one_of s.lines.0 (s.unknown.0 % 2097152) mask i (control_apart s) one

values_apart : (s : Sample) (n : ℕ) → n < 21 → AreApart (width_of (suc n)) (value_of s (suc n)) (unknown_of s (suc n))
unfolding value_of
values_apart s =
    next _ 20 (apart-one _ _ (line s 1 0 refl))
    (next _ 19 (apart-one _ _ (line s 2 1 refl))
    (next _ 18 (apart-one _ _ (line s 4 2 refl))
    (next _ 17 (apart-one _ _ (line s 8 3 refl))
    (next _ 16 (apart-one _ _ (line s 16 4 refl))
    (next _ 15 (apart-one _ _ (line s 32 5 refl))
    (next _ 14 (apart-one _ _ (line s 64 6 refl))
    (next _ 13 (apart-one _ _ (line s 128 7 refl))
    (next _ 12 (apart-word 5 _ _ (req_apart s))
    (next _ 11 (apart-word 33 _ _ (addr_apart s))
    (next _ 10 (apart-one _ _ (line s 256 8 refl))
    (next _ 9 (apart-one _ _ (line s 512 9 refl))
    (next _ 8 (apart-one _ _ (line s 1024 10 refl))
    (next _ 7 (apart-one _ _ (line s 2048 11 refl))
    (next _ 6 (apart-three _ _ _ _ _ _ (line s 16384 14 refl) (line s 8192 13 refl) (line s 4096 12 refl))
    (next _ 5 (apart-one _ _ (line s 32768 15 refl))
    (next _ 4 (apart-one _ _ (line s 65536 16 refl))
    (next _ 3 (apart-one _ _ (line s 131072 17 refl))
    (next _ 2 (apart-word 64 _ _ s.dbus.disjoint)
    (next _ 1 (apart-two _ _ _ _ (line s 524288 19 refl) (line s 262144 18 refl))
    (next _ 0 (apart-one _ _ (line s 1048576 20 refl)) (none _)))))))))))))))))))))

asserted-same : (clock : ℕ) (s : Sample) (n : ℕ) → n < 21
    → asserted_at (levels (whole_line clock s)) (suc n) ≡ asserted_at (levels (known_line clock (asserted_part s))) (suc n)
asserted-same clock s n h =
    asserted-levels (whole_line clock s) (suc n) (omega (arith, h))
    ∙ low-shown_digits 0 (width_of (suc n)) (value_of s (suc n)) (unknown_of s (suc n)) (values_apart s n h)
    ∙ ap (λ v. bits_from is_low 0 (digits_of (width_of (suc n)) v)) (sym (same_values s (suc n)))
    ∙ sym (asserted-levels (known_line clock (asserted_part s)) (suc n) (omega (arith, h)))

unknown-same : (clock : ℕ) (s : Sample) (n : ℕ) → n < 21
    → unknown_at (levels (whole_line clock s)) (suc n) ≡ asserted_at (levels (known_line clock (unknowns s))) (suc n)
unknown-same clock s n h =
    unknown-levels (whole_line clock s) (suc n) (omega (arith, h))
    ∙ unknown-shown_digits 0 (width_of (suc n)) (value_of s (suc n)) (unknown_of s (suc n))
    ∙ sym (asserted-levels (known_line clock (unknowns s)) (suc n) (omega (arith, h)))

-- ---- the parts of a known sample

without-none : (bits others : ℕ) → others ≡ 0 → bits_without bits others ≡ bits
unfolding bits_without
without-none bits others is = rw is (rw (and_zero_r bits) (xor_zero_r bits))

without-apart : (bits others : ℕ) → bit_and bits others ≡ 0 → bits_without bits others ≡ bits
unfolding bits_without
without-apart bits others is = rw is (xor_zero_r bits)

-- what the levels of a known sample assert
record Asserts (at : ℕ → ℕ) (lines req addr dbus : ℕ) : Type 0 where
  lines_are : control_of at ≡ lines
  req_is : at 9 % 32 ≡ req
  addr_is : at 10 % 8589934592 ≡ addr
  dbus_is : at 19 ≡ dbus

known-asserts : (clock : ℕ) (lines req addr dbus : ℕ) → dbus < 2 ^ 64 →
    Asserts (asserted_at (levels (known_line clock (known_sample lines req addr dbus)))) (lines % 2097152) (req % 32)
    (addr % 8589934592) dbus
unfolding sample_at
known-asserts clock lines req addr dbus h =
    let s = known_sample lines req addr dbus in
    let back : sample_of (digits_at clock s) ≡ s = sample-back clock s refl h in
    record {
      lines_are = sym (without-none _ _ (ap (λ (t : Sample). t.unknown.0) back)) ∙ ap (λ (t : Sample). t.lines.0) back;
      req_is = sym (without-none _ _ (ap (λ (t : Sample). t.req.unknown) back)) ∙ ap (λ (t : Sample). t.req.bits) back;
      addr_is = sym (without-none _ _ (ap (λ (t : Sample). t.addr.unknown) back)) ∙ ap (λ (t : Sample). t.addr.bits) back;
      dbus_is = sym (without-none _ _ (ap (λ (t : Sample). t.dbus.unknown) back)) ∙ ap (λ (t : Sample). t.dbus.bits) back;
    }

control-same : (f g : ℕ → ℕ) → ((n : ℕ) → n < 21 → f (suc n) ≡ g (suc n)) → control_of f ≡ control_of g
unfolding control_of
control-same f g same =
    rw (
      same 0 (omega arith),
      same 1 (omega arith),
      same 2 (omega arith),
      same 3 (omega arith),
      same 4 (omega arith),
      same 5 (omega arith),
      same 6 (omega arith),
      same 7 (omega arith),
      same 10 (omega arith),
      same 11 (omega arith),
      same 12 (omega arith),
      same 13 (omega arith),
      same 14 (omega arith),
      same 15 (omega arith),
      same 16 (omega arith),
      same 17 (omega arith),
      same 19 (omega arith),
      same 20 (omega arith),
    ) refl

asserts-same : (f g : ℕ → ℕ) (lines req addr dbus : ℕ) → ((n : ℕ) → n < 21 → f (suc n) ≡ g (suc n))
    → Asserts g lines req addr dbus → Asserts f lines req addr dbus
asserts-same f g lines req addr dbus same a = record {
  lines_are = control-same f g same ∙ a.lines_are;
  req_is = ap (λ n. n % 32) (same 8 (omega arith)) ∙ a.req_is;
  addr_is = ap (λ n. n % 8589934592) (same 9 (omega arith)) ∙ a.addr_is;
  dbus_is = same 18 (omega arith) ∙ a.dbus_is;
}

-- ---- the sample

whole-back : (clock : ℕ) (s : Sample) → Has64Lines s → sample_of (by_number (whole_line clock s)) ≡ s
unfolding sample_at
whole-back clock s within = same_sample _ _
    (ap (λ n. record { 0 = n }) (ap₂ bits_without lines unknown ∙ without-apart s.lines.0 s.unknown.0 s.disjoint))
    (ap (λ n. record { 0 = n }) unknown)
    (same_word _ _ (ap₂ bits_without req req_unknown ∙ without-apart s.req.bits s.req.unknown s.req.disjoint) req_unknown)
    (same_word _ _ (ap₂ bits_without addr addr_unknown ∙ without-apart s.addr.bits s.addr.unknown s.addr.disjoint)
    addr_unknown)
    (same_word _ _ (ap₂ bits_without a.dbus_is u.dbus_is ∙ without-apart s.dbus.bits s.dbus.unknown s.dbus.disjoint)
    u.dbus_is)
  where
    a : Asserts (asserted_at (levels (whole_line clock s))) (s.lines.0 % 2097152) (s.req.bits % 32)
        (s.addr.bits % 8589934592) s.dbus.bits
    a = asserts-same _ _ _ _ _ _ (asserted-same clock s)
        (known-asserts clock s.lines.0 s.req.bits s.addr.bits s.dbus.bits within.bits)

    u : Asserts (unknown_at (levels (whole_line clock s))) (s.unknown.0 % 2097152) (s.req.unknown % 32)
        (s.addr.unknown % 8589934592) s.dbus.unknown
    u = asserts-same _ _ _ _ _ _ (unknown-same clock s)
        (known-asserts clock s.unknown.0 s.req.unknown s.addr.unknown s.dbus.unknown within.unknown)

    lines : control_of (asserted_at (levels (whole_line clock s))) ≡ s.lines.0
    lines = a.lines_are ∙ mod-eq_of_lt s.line_bits

    unknown : control_of (unknown_at (levels (whole_line clock s))) ≡ s.unknown.0
    unknown = u.lines_are ∙ mod-eq_of_lt s.line_unknown

    req : asserted_at (levels (whole_line clock s)) 9 % 32 ≡ s.req.bits
    req = a.req_is ∙ mod-eq_of_lt s.req_bits

    req_unknown : unknown_at (levels (whole_line clock s)) 9 % 32 ≡ s.req.unknown
    req_unknown = u.req_is ∙ mod-eq_of_lt s.req_unknown

    addr : asserted_at (levels (whole_line clock s)) 10 % 8589934592 ≡ s.addr.bits
    addr = a.addr_is ∙ mod-eq_of_lt s.addr_bits

    addr_unknown : unknown_at (levels (whole_line clock s)) 10 % 8589934592 ≡ s.addr.unknown
    addr_unknown = u.addr_is ∙ mod-eq_of_lt s.addr_unknown

-- the digits of a sample, of those lines that are written, give it back
pub shown-back : (there : List Bool) (clock : ℕ) (s : Sample) → IsSilent there s → Has64Lines s
    → sample_of (lines_of there clock s) ≡ s
shown-back there clock s silent within =
    ap sample_of (same_map (line_of there clock s) (whole_line clock s) (written_or_not there clock s silent)
    all_numbers refl)
    ∙ whole-back clock s within
