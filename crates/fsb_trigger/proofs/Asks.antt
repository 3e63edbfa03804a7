-- A sample in which all tests hold asserts the lines that they ask for.
use Rattle.std.proofs.Common.{◌≡◌, ◌==◌, ℕ, true, false, List, [], ◌∷◌, sym, ap, ◌∙◌, inl, inr, eq-eqb, not, arith}
use Rattle.std.specs.Int.RustNames.{bit_and, bit_or}
use Rattle.std.specs.Int.{bit_at}
use Rattle.std.specs.Int.Bits.{and_zero_r}
use Rattle.std.specs.List.{fold, list_all}
use Rattle.std.proofs.lemmas.Bool.{cases_Bool, and_parts, eqb-true}
use Rattle.std.proofs.lemmas.Nat.Bits.{bit_at_and, bit_at_or, same_from_bits}
use Rattle.fsb_signal.specs.declared.sample.Sample.{Sample}
use Rattle.fsb_signal.specs.Samples.{has_line, has_unknown}
use Rattle.fsb_trigger.specs.AskedLines.{asked_line, asked_lines}
use Rattle.fsb_trigger.specs.TriggerSteps.{test_holds}
use Rattle.fsb_trigger.specs.declared.test.Test.{Test}
use Rattle.fsb_trigger.specs.declared.test.Test.TheVariants.{Asserted, NotAsserted, Request, Address, Data}

-- the lines of two masks are there where those of each are
both_there : (lines a b : ℕ) → bit_and lines a ≡ a → bit_and lines b ≡ b → bit_and lines (bit_or a b) ≡ bit_or a b
both_there lines a b p q =
    same_from_bits (bit_and lines (bit_or a b)) (bit_or a b) (λ i.
    let one = sym (bit_at_and lines a i) ∙ ap (λ n. bit_at n i) p in
    let two = sym (bit_at_and lines b i) ∙ ap (λ n. bit_at n i) q in
    let all = bit_at_and lines (bit_or a b) i in
    let either = bit_at_or a b i in
    omega (arith, one, two, all, either))

one_there : (s : Sample) (test : Test) → test_holds s test ≡ true
    → bit_and s.lines.0 (asked_line test) ≡ asked_line test
unfolding test_holds
one_there s (Asserted line) e = eqb-true (bit_and s.lines.0 line.0) line.0
    (and_parts (not (has_unknown s line)) (has_line s line) e).1
one_there s (NotAsserted line) e = and_zero_r s.lines.0
one_there s (Request bits) e = and_zero_r s.lines.0
one_there s (Address bits) e = and_zero_r s.lines.0
one_there s (Data bits) e = and_zero_r s.lines.0

all_there : (s : Sample) (lines : ℕ) (tests : List Test) → bit_and s.lines.0 lines ≡ lines
    → list_all (test_holds s) tests ≡ true
    → bit_and s.lines.0 (fold (λ lines test. bit_or lines (asked_line test)) lines tests)
    ≡ fold (λ lines test. bit_or lines (asked_line test)) lines tests
all_there s lines [] p e = p
all_there s lines (test ∷ tests) p e =
    let parts = and_parts (test_holds s test) (list_all (test_holds s) tests) e in
    all_there s (bit_or lines (asked_line test)) tests
    (both_there s.lines.0 lines (asked_line test) p (one_there s test parts.0)) parts.1

-- where a line lacks that they ask for, not all of the tests hold
pub lacks : (s : Sample) (tests : List Test) (lines : ℕ) → lines ≡ asked_lines tests
    → (bit_and s.lines.0 lines == lines) ≡ false → false ≡ list_all (test_holds s) tests
lacks s tests lines asked lack =
    elim (cases_Bool (list_all (test_holds s) tests)) [
      | inl t ↦
          (let all = all_there s 0 tests (and_zero_r s.lines.0) t in
          let there : bit_and s.lines.0 lines ≡ lines = ap (bit_and s.lines.0) asked ∙ all ∙ sym asked in
          absurd (let both : true ≡ false = sym (eq-eqb (bit_and s.lines.0 lines) lines there) ∙ lack in cc))
      | inr f ↦ sym f
    ]
