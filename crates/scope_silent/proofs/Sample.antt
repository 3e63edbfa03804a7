-- The sample of values in which each line that is not among some has the digits of before the first value.
use Rattle.std.proofs.Common.{◌≡◌, ℕ, zero, suc, ◌+◌, ◌*◌, ◌%◌, ◌<◌, ◌^◌, true, false, List, [], ◌∷◌, map, arith, ap, refl, ◌∙◌}
use Rattle.std.proofs.Math.Path.{ap₂}
use Rattle.std.proofs.Math.Nat.{mod-eq_of_lt}
use Rattle.std.specs.Int.{bit_at}
use Rattle.fsb_signal.specs.DumpText.{value_of}
use Rattle.vcd_grammar.specs.Digits.{is_unknown}
use Rattle.vcd_grammar.specs.Levels.{level_of, asserted_at, unknown_at, control_of, bits_from, is_low}
use Rattle.vcd_grammar.specs.LevelFacts.{control_of-lt}
use Rattle.vcd_grammar.specs.Values.{Values, at_first, sample_at, sample_of}
use Rattle.vcd_grammar.specs.Judging.{is_declared}
use Rattle.vcd_laws.proofs.Known.{next, none}
use Rattle.vcd_way.specs.Events.{digits_at}
use Rattle.scope_write.specs.Text.{is_written, unknown_of}
use Rattle.scope_write.specs.Samples.{IsSilent}
use Rattle.scope_write.proofs.Digits.{bit_in}
use Rattle.scope_silent.specs.Lines.{there_in}
use Rattle.scope_silent.proofs.Bits.{without-zero, in-zero, control-1, control-2, control-3, control-4, control-5, control-6}
use Rattle.scope_silent.proofs.Bits.{control-8, control-11, control-18, control-19, control-20}

-- each line that is not among these has the digits of before the first value
abbrev pub Idle : List ℕ → Values → Type 0
Idle ls v = (n : ℕ) → is_declared ls n ≡ false → digits_at v n ≡ digits_at at_first n

-- ---- what the digits of a line say

asserted-level : (v : Values) (n : ℕ) → asserted_at (map level_of v) n ≡ bits_from is_low 0 (digits_at v n)
unfolding level_of
asserted-level [] n = refl
asserted-level (x ∷ v) zero = refl
asserted-level (x ∷ v) (suc n) = asserted-level v n

unknown-level : (v : Values) (n : ℕ) → unknown_at (map level_of v) n ≡ bits_from is_unknown 0 (digits_at v n)
unfolding level_of
unknown-level [] n = refl
unknown-level (x ∷ v) zero = refl
unknown-level (x ∷ v) (suc n) = unknown-level v n

-- ---- a control line

-- the line of a mask is neither asserted nor unknown
record IsQuiet (v : Values) (mask : ℕ) : Type 0 where
  asserted : bit_in (sample_of v).lines.0 mask ≡ 0
  unknown : bit_in ((sample_of v).unknown.0 % 2097152) mask ≡ 0

quiet-line : (v : Values) (n i mask : ℕ) → ((f : ℕ → ℕ) → f n ≡ 0 → bit_at (control_of f) i ≡ 0) → mask ≡ 2 ^ i
    → 0 < mask → bits_from is_low 0 (digits_at v n) ≡ 0 → bits_from is_unknown 0 (digits_at v n) ≡ 0 → IsQuiet v mask
unfolding sample_at
quiet-line v n i mask bit is some low unknown =
    let a : bit_at (control_of (asserted_at (map level_of v))) i ≡ 0 =
    bit (asserted_at (map level_of v)) (asserted-level v n ∙ low) in
    let u : bit_at (control_of (unknown_at (map level_of v))) i ≡ 0 =
    bit (unknown_at (map level_of v)) (unknown-level v n ∙ unknown) in
    record {
      asserted = in-zero _ i mask is some (without-zero _ _ i a);
      unknown = in-zero _ i mask is some
          (ap (λ x. bit_at x i) (mod-eq_of_lt (control_of-lt (unknown_at (map level_of v)))) ∙ u);
    }

-- ---- the entries that a dump need not declare

abbrev Silent : List ℕ → Values → ℕ → Type 0
Silent ls v n =
    is_written (there_in ls) n ≡ false → (value_of (sample_of v) n ≡ 0) × (unknown_of (sample_of v) n ≡ 0)

never : {A : Type 0} → true ≡ false → A
never e = cc e

quiet : (ls : List ℕ) (v : Values) (n i mask : ℕ) → ((f : ℕ → ℕ) → f n ≡ 0 → bit_at (control_of f) i ≡ 0)
    → mask ≡ 2 ^ i → 0 < mask → bits_from is_low 0 (digits_at at_first n) ≡ 0
    → bits_from is_unknown 0 (digits_at at_first n) ≡ 0 → Idle ls v → is_declared ls n ≡ false → IsQuiet v mask
quiet ls v n i mask bit is some low unknown h out =
    quiet-line v n i mask bit is some (ap (bits_from is_low 0) (h n out) ∙ low)
    (ap (bits_from is_unknown 0) (h n out) ∙ unknown)

single : (v : Values) (mask : ℕ) → IsQuiet v mask
    → (bit_in (sample_of v).lines.0 mask ≡ 0) × (bit_in ((sample_of v).unknown.0 % 2097152) mask ≡ 0)
single v mask q = (q.asserted, q.unknown)

silent-2 : (ls : List ℕ) (v : Values) → Idle ls v → Silent ls v 2
unfolding value_of is_written
silent-2 ls v h = λ out. single v 2 (quiet ls v 2 1 2 control-1 refl (omega arith) refl refl h out)

silent-3 : (ls : List ℕ) (v : Values) → Idle ls v → Silent ls v 3
unfolding value_of is_written
silent-3 ls v h = λ out. single v 4 (quiet ls v 3 2 4 control-2 refl (omega arith) refl refl h out)

silent-4 : (ls : List ℕ) (v : Values) → Idle ls v → Silent ls v 4
unfolding value_of is_written
silent-4 ls v h = λ out. single v 8 (quiet ls v 4 3 8 control-3 refl (omega arith) refl refl h out)

silent-5 : (ls : List ℕ) (v : Values) → Idle ls v → Silent ls v 5
unfolding value_of is_written
silent-5 ls v h = λ out. single v 16 (quiet ls v 5 4 16 control-4 refl (omega arith) refl refl h out)

silent-6 : (ls : List ℕ) (v : Values) → Idle ls v → Silent ls v 6
unfolding value_of is_written
silent-6 ls v h = λ out. single v 32 (quiet ls v 6 5 32 control-5 refl (omega arith) refl refl h out)

silent-7 : (ls : List ℕ) (v : Values) → Idle ls v → Silent ls v 7
unfolding value_of is_written
silent-7 ls v h = λ out. single v 64 (quiet ls v 7 6 64 control-6 refl (omega arith) refl refl h out)

silent-11 : (ls : List ℕ) (v : Values) → Idle ls v → Silent ls v 11
unfolding value_of is_written
silent-11 ls v h = λ out. single v 256 (quiet ls v 11 8 256 control-8 refl (omega arith) refl refl h out)

silent-14 : (ls : List ℕ) (v : Values) → Idle ls v → Silent ls v 14
unfolding value_of is_written
silent-14 ls v h = λ out. single v 2048 (quiet ls v 14 11 2048 control-11 refl (omega arith) refl refl h out)

silent-20 : (ls : List ℕ) (v : Values) → Idle ls v → Silent ls v 20
unfolding value_of is_written
silent-20 ls v h = λ out.
    let high = quiet ls v 20 19 524288 control-19 refl (omega arith) refl refl h out in
    let low = quiet ls v 20 18 262144 control-18 refl (omega arith) refl refl h out in
    (ap₂ (λ a b. 2 * a + b) high.asserted low.asserted, ap₂ (λ a b. 2 * a + b) high.unknown low.unknown)

silent-21 : (ls : List ℕ) (v : Values) → Idle ls v → Silent ls v 21
unfolding value_of is_written
silent-21 ls v h = λ out. single v 1048576 (quiet ls v 21 20 1048576 control-20 refl (omega arith) refl refl h out)

-- the sample asserts no line that is not among these, and knows each of them
pub silent : (ls : List ℕ) (v : Values) → Idle ls v → IsSilent (there_in ls) (sample_of v)
unfolding is_written
silent ls v h =
    next (Silent ls v) 21 (λ e. never e)
    (next _ 20 (λ e. never e)
    (next _ 19 (silent-2 ls v h)
    (next _ 18 (silent-3 ls v h)
    (next _ 17 (silent-4 ls v h)
    (next _ 16 (silent-5 ls v h)
    (next _ 15 (silent-6 ls v h)
    (next _ 14 (silent-7 ls v h)
    (next _ 13 (λ e. never e)
    (next _ 12 (λ e. never e)
    (next _ 11 (λ e. never e)
    (next _ 10 (silent-11 ls v h)
    (next _ 9 (λ e. never e)
    (next _ 8 (λ e. never e)
    (next _ 7 (silent-14 ls v h)
    (next _ 6 (λ e. never e)
    (next _ 5 (λ e. never e)
    (next _ 4 (λ e. never e)
    (next _ 3 (λ e. never e)
    (next _ 2 (λ e. never e)
    (next _ 1 (silent-20 ls v h)
    (next _ 0 (silent-21 ls v h) (none _))))))))))))))))))))))
