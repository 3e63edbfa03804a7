-- The digits of a known sample give the sample back.
use Rattle.std.proofs.Common.{◌≡◌, ℕ, zero, suc, ◌+◌, ◌*◌, ◌/◌, ◌%◌, ◌^◌, ◌<◌, true, List, map, refl, sym, ap, ◌∙◌}
use Rattle.std.proofs.Common.{arith, eq-eqb}
use Rattle.std.proofs.Math.Path.{ap₂}
use Rattle.std.specs.Prelude.{◌==◌, if◌then◌else◌}
use Rattle.std.specs.Int.{bit_at}
use Rattle.std.specs.Int.RustNames.{bit_and}
use Rattle.std.specs.Int.Bits.{and_zero_r, xor_zero_r}
use Rattle.std.proofs.Math.Nat.{mod-eq_of_lt}
use Rattle.std.proofs.lemmas.Nat.{mod-pow-add}
use Rattle.std.proofs.lemmas.Nat.Bits.{and_pow, bit_at-lt}
use Rattle.std.proofs.lemmas.Bool.{eqb-true, ne_eqb, and_parts}
use Rattle.fsb_signal.specs.declared.sample.Sample.{Sample}
use Rattle.fsb_signal.specs.Samples.{is_known}
use Rattle.fsb_signal.specs.DumpText.{width_of, value_of}
use Rattle.fsb_signal.proofs.Interface.{same_word, same_sample}
use Rattle.vcd_grammar.specs.Digits.{is_unknown}
use Rattle.vcd_grammar.specs.declared.level.Level.{Level}
use Rattle.vcd_grammar.specs.Levels.{level_of, asserted_at, unknown_at, control_of, bits_without, bits_from, is_low}
use Rattle.vcd_grammar.specs.Values.{sample_at, sample_of}
use Rattle.vcd_laws.proofs.Digits.{low-digits_of, unknown-digits_of}
use Rattle.vcd_laws.proofs.Known.{next, none}
use Rattle.vcd_laws.proofs.Lines.{digits_at, line_digits}

-- ---- a number from its bits

-- the number that the lowest k bits make
abbrev number_of : ℕ → ℕ → ℕ
number_of x zero = 0
number_of x (suc k) = number_of x k + bit_at x k * 2 ^ k

number_of-is : (x k : ℕ) → number_of x k ≡ x % 2 ^ k
number_of-is x zero = omega arith
number_of-is x (suc k) =
    let next_power : 1 + k ≡ suc k = omega arith in
    let split : x % 2 ^ suc k ≡ (x / 2 ^ k % 2) * 2 ^ k + x % 2 ^ k = ap (λ n. x % 2 ^ n) (sym next_power)
    ∙ mod-pow-add x 1 k in
    ap (λ n. n + bit_at x k * 2 ^ k) (number_of-is x k) ∙ swapped (x % 2 ^ k) (bit_at x k * 2 ^ k) ∙ sym split
  where
    swapped : (a b : ℕ) → a + b ≡ b + a
    swapped a b = omega arith

-- one of the lines of a set, as the sample says it, is its bit
line_bit : (x i mask : ℕ) → mask ≡ 2 ^ i → 0 < mask → (if bit_and x mask == mask then 1 else 0) ≡ bit_at x i
line_bit x i mask is some = ap (λ n. if n == mask then 1 else 0) (ap (bit_and x) is ∙ and_pow x i
    ∙ ap (λ n. bit_at x i * n) (sym is)) ∙ by (bit_at x i) (bit_at-lt x i)
  where
    by : (bit : ℕ) → bit < 2 → (if bit * mask == mask then 1 else 0) ≡ bit
    by zero small = rw (ne_eqb (0 * mask) mask (λ e. omega arith)) refl
    by (suc zero) small = rw (eq-eqb (1 * mask) mask (omega arith)) refl
    by (suc (suc n)) small = absurd (omega arith)

-- each signal of one control line has a bit of the set, the response has three, and the address parity two
record HasLines (bit : ℕ → ℕ) (x : ℕ) : Type 0 where
  breq0 : bit 1 ≡ bit_at x 0
  breq1 : bit 2 ≡ bit_at x 1
  breq2 : bit 3 ≡ bit_at x 2
  breq3 : bit 4 ≡ bit_at x 3
  bpri : bit 5 ≡ bit_at x 4
  lock : bit 6 ≡ bit_at x 5
  bnr : bit 7 ≡ bit_at x 6
  ads : bit 8 ≡ bit_at x 7
  aerr : bit 11 ≡ bit_at x 8
  hit : bit 12 ≡ bit_at x 9
  hitm : bit 13 ≡ bit_at x 10
  defer : bit 14 ≡ bit_at x 11
  rs : bit 15 ≡ 4 * bit_at x 14 + 2 * bit_at x 13 + bit_at x 12
  trdy : bit 16 ≡ bit_at x 15
  dbsy : bit 17 ≡ bit_at x 16
  drdy : bit 18 ≡ bit_at x 17
  ap : bit 20 ≡ 2 * bit_at x 19 + bit_at x 18
  rp : bit 21 ≡ bit_at x 20

-- the same sum, in the order of the bits
in_order : (b0 b1 b2 b3 b4 b5 b6 b7 b8 b9 b10 b11 b12 b13 b14 b15 b16 b17 b18 b19 b20 : ℕ) →
    b0 + 2 * b1 + 4 * b2 + 8 * b3 + 16 * b4 + 32 * b5 + 64 * b6 + 128 * b7
    + (256 * b8 + 512 * b9 + 1024 * b10 + 2048 * b11 + 4096 * (4 * b14 + 2 * b13 + b12) + 32768 * b15
    + 65536 * b16 + 131072 * b17)
    + (262144 * (2 * b19 + b18) + 1048576 * b20)
    ≡ 0 + b0 * 1 + b1 * 2 + b2 * 4 + b3 * 8 + b4 * 16 + b5 * 32 + b6 * 64 + b7 * 128 + b8 * 256 + b9 * 512
    + b10 * 1024 + b11 * 2048 + b12 * 4096
    + b13 * 8192 + b14 * 16384 + b15 * 32768 + b16 * 65536 + b17 * 131072 + b18 * 262144 + b19 * 524288 + b20 * 1048576
in_order b0 b1 b2 b3 b4 b5 b6 b7 b8 b9 b10 b11 b12 b13 b14 b15 b16 b17 b18 b19 b20 = omega arith

single : (n x i : ℕ) → n ≡ bit_at x i → n % 2 ≡ bit_at x i
single n x i is = ap (λ m. m % 2) is ∙ mod-eq_of_lt (bit_at-lt x i)

three : (a b c : ℕ) → a < 2 → b < 2 → c < 2 → 4 * a + 2 * b + c < 8
three a b c h k l = omega arith

triple : (n x : ℕ) → n ≡ 4 * bit_at x 14 + 2 * bit_at x 13 + bit_at x 12
    → n % 8 ≡ 4 * bit_at x 14 + 2 * bit_at x 13 + bit_at x 12
triple n x is = ap (λ m. m % 8) is
    ∙ mod-eq_of_lt (three (bit_at x 14) (bit_at x 13) (bit_at x 12) (bit_at-lt x 14) (bit_at-lt x 13) (bit_at-lt x 12))

two : (a b : ℕ) → a < 2 → b < 2 → 2 * a + b < 4
two a b h k = omega arith

pair : (n x : ℕ) → n ≡ 2 * bit_at x 19 + bit_at x 18 → n % 4 ≡ 2 * bit_at x 19 + bit_at x 18
pair n x is = ap (λ m. m % 4) is ∙ mod-eq_of_lt (two (bit_at x 19) (bit_at x 18) (bit_at-lt x 19) (bit_at-lt x 18))

control-back : (bit : ℕ → ℕ) (x : ℕ) → x < 2 ^ 21 → HasLines bit x → control_of bit ≡ x
unfolding control_of
control-back bit x few h =
    rw (single (bit 1) x 0 h.breq0)
    (rw (single (bit 2) x 1 h.breq1) (rw (single (bit 3) x 2 h.breq2) (rw (single (bit 4) x 3 h.breq3)
    (rw (single (bit 5) x 4 h.bpri)
    (rw (single (bit 6) x 5 h.lock) (rw (single (bit 7) x 6 h.bnr) (rw (single (bit 8) x 7 h.ads)
    (rw (single (bit 11) x 8 h.aerr)
    (rw (single (bit 12) x 9 h.hit) (rw (single (bit 13) x 10 h.hitm) (rw (single (bit 14) x 11 h.defer)
    (rw (triple (bit 15) x h.rs)
    (rw (single (bit 16) x 15 h.trdy)
    (rw (single (bit 17) x 16 h.dbsy)
    (rw (single (bit 18) x 17 h.drdy) (rw (pair (bit 20) x h.ap) (rw (single (bit 21) x 20 h.rp)
    (in_order (bit_at x 0) (bit_at x 1) (bit_at x 2) (bit_at x 3) (bit_at x 4) (bit_at x 5) (bit_at x 6)
    (bit_at x 7) (bit_at x 8) (bit_at x 9) (bit_at x 10) (bit_at x 11)
    (bit_at x 12) (bit_at x 13) (bit_at x 14) (bit_at x 15) (bit_at x 16) (bit_at x 17) (bit_at x 18)
    (bit_at x 19) (bit_at x 20)
    ∙ number_of-is x 21 ∙ mod-eq_of_lt few))))))))))))))))))

control-none : (bit : ℕ → ℕ) → ((n : ℕ) → n < 21 → bit (suc n) ≡ 0) → control_of bit ≡ 0
unfolding control_of
control-none bit zeros =
    rw (
      zeros 0 (omega arith),
      zeros 1 (omega arith),
      zeros 2 (omega arith),
      zeros 3 (omega arith),
      zeros 4 (omega arith),
      zeros 5 (omega arith),
      zeros 6 (omega arith),
      zeros 7 (omega arith),
      zeros 10 (omega arith),
      zeros 11 (omega arith),
      zeros 12 (omega arith),
      zeros 13 (omega arith),
      zeros 14 (omega arith),
      zeros 15 (omega arith),
      zeros 16 (omega arith),
      zeros 17 (omega arith),
      zeros 19 (omega arith),
      zeros 20 (omega arith),
    ) refl

-- ---- what the digits of a sample say

-- what each line has
abbrev levels_at : ℕ → Sample → List Level
levels_at clock s = map level_of (digits_at clock s)

asserted-digits : (clock : ℕ) (s : Sample) (n : ℕ) → n < 21
    → asserted_at (levels_at clock s) (suc n) ≡ bits_from is_low 0 (line_digits s (suc n))
unfolding level_of
asserted-digits clock s =
    next _ 20 refl
    (next _ 19 refl
    (next _ 18 refl
    (next _ 17 refl
    (next _ 16 refl (next _ 15 refl (next _ 14 refl (next _ 13 refl (next _ 12 refl (next _ 11 refl (next _ 10 refl
    (next _ 9 refl
    (next _ 8 refl
    (next _ 7 refl
    (next _ 6 refl
    (next _ 5 refl
    (next _ 4 refl (next _ 3 refl (next _ 2 refl (next _ 1 refl (next _ 0 refl (none _)))))))))))))))))))))

unknown-digits : (clock : ℕ) (s : Sample) (n : ℕ) → n < 21
    → unknown_at (levels_at clock s) (suc n) ≡ bits_from is_unknown 0 (line_digits s (suc n))
unfolding level_of
unknown-digits clock s =
    next _ 20 refl
    (next _ 19 refl
    (next _ 18 refl
    (next _ 17 refl
    (next _ 16 refl (next _ 15 refl (next _ 14 refl (next _ 13 refl (next _ 12 refl (next _ 11 refl (next _ 10 refl
    (next _ 9 refl
    (next _ 8 refl
    (next _ 7 refl
    (next _ 6 refl
    (next _ 5 refl
    (next _ 4 refl (next _ 3 refl (next _ 2 refl (next _ 1 refl (next _ 0 refl (none _)))))))))))))))))))))

asserted-levels : (clock : ℕ) (s : Sample) (n : ℕ) → n < 21
    → asserted_at (levels_at clock s) (suc n) ≡ value_of s (suc n) % 2 ^ width_of (suc n)
asserted-levels clock s n h =
    asserted-digits clock s n h ∙ low-digits_of 0 (width_of (suc n)) (value_of s (suc n)) ∙ omega arith

unknown-levels : (clock : ℕ) (s : Sample) (n : ℕ) → n < 21 → unknown_at (levels_at clock s) (suc n) ≡ 0
unknown-levels clock s n h = unknown-digits clock s n h ∙ unknown-digits_of (width_of (suc n)) (value_of s (suc n))

-- a signal of one control line
line_level : (clock : ℕ) (s : Sample) (n i mask : ℕ) → n < 21 → width_of (suc n) ≡ 1
    → value_of s (suc n) ≡ (if bit_and s.lines.0 mask == mask then 1 else 0) → mask ≡ 2 ^ i → 0 < mask →
    asserted_at (levels_at clock s) (suc n) ≡ bit_at s.lines.0 i
line_level clock s n i mask h one value is some =
    asserted-levels clock s n h
    ∙ ap₂ (λ v w. v % 2 ^ w) (value ∙ line_bit s.lines.0 i mask is some) one
    ∙ mod-eq_of_lt (bit_at-lt s.lines.0 i)

-- the response, of three control lines
response_level : (clock : ℕ) (s : Sample)
    → asserted_at (levels_at clock s) 15 ≡ 4 * bit_at s.lines.0 14 + 2 * bit_at s.lines.0 13 + bit_at s.lines.0 12
unfolding value_of
response_level clock s =
    asserted-levels clock s 14 (omega arith)
    ∙ ap (λ n. n % 8) (ap₂ (λ n c. n + c)
    (ap₂ (λ a b. 4 * a + 2 * b) (line_bit s.lines.0 14 16384 refl (omega arith))
    (line_bit s.lines.0 13 8192 refl (omega arith)))
    (line_bit s.lines.0 12 4096 refl (omega arith)))
    ∙ mod-eq_of_lt (three (bit_at s.lines.0 14) (bit_at s.lines.0 13) (bit_at s.lines.0 12)
    (bit_at-lt s.lines.0 14) (bit_at-lt s.lines.0 13) (bit_at-lt s.lines.0 12))

-- the address parity, of two control lines
address_parity_level : (clock : ℕ) (s : Sample)
    → asserted_at (levels_at clock s) 20 ≡ 2 * bit_at s.lines.0 19 + bit_at s.lines.0 18
unfolding value_of
address_parity_level clock s =
    asserted-levels clock s 19 (omega arith)
    ∙ ap (λ n. n % 4) (ap₂ (λ a b. 2 * a + b) (line_bit s.lines.0 19 524288 refl (omega arith))
    (line_bit s.lines.0 18 262144 refl (omega arith)))
    ∙ mod-eq_of_lt (two (bit_at s.lines.0 19) (bit_at s.lines.0 18) (bit_at-lt s.lines.0 19) (bit_at-lt s.lines.0 18))

lines-levels : (clock : ℕ) (s : Sample) → HasLines (asserted_at (levels_at clock s)) s.lines.0
unfolding value_of
lines-levels clock s = record {
  breq0 = line_level clock s 0 0 1 (omega arith) refl refl refl (omega arith);
  breq1 = line_level clock s 1 1 2 (omega arith) refl refl refl (omega arith);
  breq2 = line_level clock s 2 2 4 (omega arith) refl refl refl (omega arith);
  breq3 = line_level clock s 3 3 8 (omega arith) refl refl refl (omega arith);
  bpri = line_level clock s 4 4 16 (omega arith) refl refl refl (omega arith);
  lock = line_level clock s 5 5 32 (omega arith) refl refl refl (omega arith);
  bnr = line_level clock s 6 6 64 (omega arith) refl refl refl (omega arith);
  ads = line_level clock s 7 7 128 (omega arith) refl refl refl (omega arith);
  aerr = line_level clock s 10 8 256 (omega arith) refl refl refl (omega arith);
  hit = line_level clock s 11 9 512 (omega arith) refl refl refl (omega arith);
  hitm = line_level clock s 12 10 1024 (omega arith) refl refl refl (omega arith);
  defer = line_level clock s 13 11 2048 (omega arith) refl refl refl (omega arith);
  rs = response_level clock s;
  trdy = line_level clock s 15 15 32768 (omega arith) refl refl refl (omega arith);
  dbsy = line_level clock s 16 16 65536 (omega arith) refl refl refl (omega arith);
  drdy = line_level clock s 17 17 131072 (omega arith) refl refl refl (omega arith);
  ap = address_parity_level clock s;
  rp = line_level clock s 20 20 1048576 (omega arith) refl refl refl (omega arith);
}

-- ---- the sample

without-none : (bits others : ℕ) → others ≡ 0 → bits_without bits others ≡ bits
unfolding bits_without
without-none bits others is = rw is (rw (and_zero_r bits) (xor_zero_r bits))

-- no bit of the sample is unknown
record IsKnown (s : Sample) : Type 0 where
  lines : s.unknown.0 ≡ 0
  req : s.req.unknown ≡ 0
  addr : s.addr.unknown ≡ 0
  dbus : s.dbus.unknown ≡ 0

known_parts : (s : Sample) → is_known s ≡ true → IsKnown s
known_parts s h =
    let three_known = (and_parts _ _ h).0 in
    let two_known = (and_parts _ _ three_known).0 in
    record {
      lines = eqb-true _ _ (and_parts _ _ two_known).0;
      req = eqb-true _ _ (and_parts _ _ two_known).1;
      addr = eqb-true _ _ (and_parts _ _ three_known).1;
      dbus = eqb-true _ _ (and_parts _ _ h).1;
    }

pub sample-back : (clock : ℕ) (s : Sample) → is_known s ≡ true → s.dbus.bits < 2 ^ 64
    → sample_of (digits_at clock s) ≡ s
unfolding sample_at value_of
sample-back clock s h fits = same_sample _ _
    (ap (λ n. record { 0 = n }) (without-none _ _ no_unknown
    ∙ control-back _ s.lines.0 s.line_bits (lines-levels clock s)))
    (ap (λ n. record { 0 = n }) (no_unknown ∙ sym k.lines))
    (same_word _ _ (without-none _ _ (no 8 (omega arith) 32)
    ∙ ap (λ n. n % 32) (asserted-levels clock s 8 (omega arith) ∙ req) ∙ req) (no 8 (omega arith) 32 ∙ sym k.req))
    (same_word _ _ (without-none _ _ (no 9 (omega arith) 8589934592)
    ∙ ap (λ n. n % 8589934592) (asserted-levels clock s 9 (omega arith) ∙ addr)
    ∙ addr) (no 9 (omega arith) 8589934592 ∙ sym k.addr))
    (same_word _ _ (without-none _ _ (unknown-levels clock s 18 (omega arith))
    ∙ asserted-levels clock s 18 (omega arith) ∙ mod-eq_of_lt fits) (unknown-levels clock s 18 (omega arith)
    ∙ sym k.dbus))
  where
    k : IsKnown s
    k = known_parts s h

    no_unknown : control_of (unknown_at (levels_at clock s)) ≡ 0
    no_unknown = control-none _ (unknown-levels clock s)

    no : (n : ℕ) → n < 21 → (m : ℕ) → unknown_at (levels_at clock s) (suc n) % m ≡ 0
    no n within m = ap (λ u. u % m) (unknown-levels clock s n within) ∙ omega arith

    req : s.req.bits % 32 ≡ s.req.bits
    req = mod-eq_of_lt s.req_bits

    addr : s.addr.bits % 8589934592 ≡ s.addr.bits
    addr = mod-eq_of_lt s.addr_bits
