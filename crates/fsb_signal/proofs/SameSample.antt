-- Two samples are equal where their lines and words are, whatever proves their facts.
use Rattle.std.proofs.Common.{◌≡◌, ◌<◌, ◌^◌}
use Rattle.std.proofs.Math.Nat.{ℕ_set}
use Rattle.std.proofs.Math.Bridge.{le_prop}
use Rattle.std.specs.Int.Bits.{bit_and}
use mathlib.Core.HLevel.{is_prop→PathP}
use Rattle.fsb_signal.specs.declared.sample.Word.{Word}
use Rattle.fsb_signal.specs.declared.sample.Sample.{Sample}

pub same_word : (v w : Word) → v.bits ≡ w.bits → v.unknown ≡ w.unknown → v ≡ w
same_word v w bits unknown = λ i. record {
  bits = bits i;
  unknown = unknown i;
  disjoint = is_prop→PathP (λ j. bit_and (bits j) (unknown j) ≡ 0) (λ j. ℕ_set _ _) v.disjoint w.disjoint i;
}

pub same_sample : (s t : Sample) → s.lines ≡ t.lines → s.unknown ≡ t.unknown → s.req ≡ t.req → s.addr ≡ t.addr
    → s.dbus ≡ t.dbus → s ≡ t
same_sample s t lines unknown req addr dbus = λ i. record {
  lines = lines i;
  unknown = unknown i;
  req = req i;
  addr = addr i;
  dbus = dbus i;
  disjoint = is_prop→PathP (λ j. bit_and (lines j).0 (unknown j).0 ≡ 0) (λ j. ℕ_set _ _) s.disjoint t.disjoint i;
  line_bits = is_prop→PathP (λ j. (lines j).0 < 2 ^ 21) (λ j. le_prop) s.line_bits t.line_bits i;
  line_unknown = is_prop→PathP (λ j. (unknown j).0 < 2 ^ 21) (λ j. le_prop) s.line_unknown t.line_unknown i;
  req_bits = is_prop→PathP (λ j. (req j).bits < 2 ^ 5) (λ j. le_prop) s.req_bits t.req_bits i;
  req_unknown = is_prop→PathP (λ j. (req j).unknown < 2 ^ 5) (λ j. le_prop) s.req_unknown t.req_unknown i;
  addr_bits = is_prop→PathP (λ j. (addr j).bits < 2 ^ 33) (λ j. le_prop) s.addr_bits t.addr_bits i;
  addr_unknown = is_prop→PathP (λ j. (addr j).unknown < 2 ^ 33) (λ j. le_prop) s.addr_unknown t.addr_unknown i;
}
