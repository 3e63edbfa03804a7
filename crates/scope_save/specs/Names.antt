-- The name that GTKWave gives a variable.
use Rattle.std.specs.Prelude.{ℕ, ◌-◌, ◌==◌, nat_lt, if◌then◌else◌, List, [], ◌++◌, length, codes, decimal}
use Rattle.scope_pick.specs.declared.variable.Range.{Range}
use Rattle.scope_pick.specs.declared.variable.Variable.{Variable}
use Rattle.scope_pick.specs.declared.variable.Written.{Written}
use Rattle.scope_pick.specs.declared.variable.Written.TheVariants.{Absent, Numbers, Unreadable}

-- the last index of a range, behind a colon, where it has two
abbrev pub right_text : Range → List ℕ
right_text range = if range.left == range.right then [] else codes ":" ++ decimal range.right

-- a range: `[35:3]`, or `[7]`
abbrev pub range_text : Range → List ℕ
range_text range = codes "[" ++ decimal range.left ++ right_text range ++ codes "]"

-- the range of a variable of this width; a word without one is counted from its last bit up
unfoldable pub span_text : Written → ℕ → List ℕ
span_text (Numbers range) width = range_text range
span_text Unreadable width = []
span_text Absent width = if nat_lt 1 width then codes "[" ++ decimal (width - 1) ++ codes ":0]" else []

-- a scope, with the dot behind it
unfoldable pub scope_text : List ℕ → List ℕ
scope_text scope = if length scope == 0 then [] else scope ++ codes "."

-- the path of a variable with its range, as `tb.dut.a[35:3]`
unfoldable pub path_text : Variable → List ℕ
path_text v = scope_text v.scope.items ++ v.name.items ++ span_text v.range v.width
