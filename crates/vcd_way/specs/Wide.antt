-- What dumps of any tool have beside the strict ones: the digits of VHDL, words before the header,
-- holes, and early ends.
use Rattle.std.specs.Prelude.{ℕ, Bool, true, false, ◌==◌, if◌then◌else◌, List, [], codes, Option, Some, None}
use Rattle.std.specs.List.{list_any}
use Rattle.vcd_grammar.specs.Digits.{is_value_digit}
use Rattle.vcd_way.specs.declared.tap.Edge.TheVariants as edges
use Rattle.vcd_way.specs.Ways.{ValueRules}

-- the byte is one of these
abbrev pub is_among : List ℕ → ℕ → Bool
is_among bytes b = list_any (λ c. c == b) bytes

-- beside the strict digits those of VHDL, in either case: U, W and - are unknown, H is 1 and L is 0
unfoldable pub wide_digit : ℕ → Option ℕ
wide_digit b =
    if is_value_digit b then Some b
    else (if is_among (codes "uUwW-") b then Some 120
    else (if is_among (codes "hH") b then Some 49
    else (if is_among (codes "lL") b then Some 48 else None)))

-- what is let pass by default
abbrev pub wide_rules : ValueRules
wide_rules = record {
  digit = wide_digit;
  takes_any = true;
  widest = 4294967295;
  edge = edges.Rising;
  takes_first = false;
  late = [];
  skips_preface = true;
  tells_holes = true;
  ends_early = true;
}
