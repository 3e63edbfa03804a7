-- The two lists of an agent's line buffers, and what their calls do to them.
use Rattle.std.specs.Prelude.{ℕ, Bool, ◌==◌, if◌then◌else◌, ◌≢◌, List, [], ◌∷◌, ◌++◌, map, Option, Some, None}
use Rattle.std.specs.List.{AllPairs, after_first, before_first, find}
use Rattle.std.specs.Option.{option_and_then}
use Rattle.fsb_linebuf.specs.declared.entry.Fill.{Fill}
use Rattle.fsb_linebuf.specs.declared.entry.Push.{Push}

-- the fills that are under way and the pushes that are owed, each list in the order in which they came
pub record Buffered : Type 0 where
  pub fills : List Fill
  pub pushes : List Push

-- the fill is the one of this line
abbrev pub is_fill_on : ℕ → Fill → Bool
is_fill_on line fill = fill.line == line

-- the push is for the transaction of this number
abbrev pub is_push_for : ℕ → Push → Bool
is_push_for number push = push.number == number

-- the fill of a line, if there is one
abbrev pub fill_on : ℕ → List Fill → Option Fill
fill_on line fills = find (is_fill_on line) fills

-- the number that a line's fill is promised to; none where it isn't promised, or where there is no fill
abbrev pub promise_on : ℕ → List Fill → Option ℕ
promise_on line fills = option_and_then (λ fill. fill.promise) (fill_on line fills)

-- the first push for a number, if there is one
abbrev pub push_for : ℕ → List Push → Option Push
push_for number pushes = find (is_push_for number) pushes

-- a list without the first of its items that passes the test
abbrev pub without_first : {X : Type 0} → (X → Bool) → List X → List X
without_first test items = before_first test items ++ after_first test items

-- the fills without the one of this line
abbrev pub fills_without : ℕ → List Fill → List Fill
fills_without line fills = without_first (is_fill_on line) fills

-- the pushes without the first one for this number
abbrev pub pushes_without : ℕ → List Push → List Push
pushes_without number pushes = without_first (is_push_for number) pushes

-- the fill, promised to a number where it is the one of this line
abbrev pub with_promise : ℕ → ℕ → Fill → Fill
with_promise line to fill = if is_fill_on line fill then record fill { promise = Some to } else fill

-- the fills, the one of this line promised to a number
abbrev pub promised_to : ℕ → ℕ → List Fill → List Fill
promised_to line to fills = map (with_promise line to) fills

-- the pushes, with one more behind them where a number was promised the bytes
abbrev pub pushed_to : Option ℕ → List ℕ → List Push → List Push
pushed_to None bytes pushes = pushes
pushed_to (Some to) bytes pushes = pushes ++ record { number = to; bytes = bytes } ∷ []

-- no line has two fills
abbrev pub OneALine : List Fill → Type 0
OneALine fills = AllPairs (λ fill later. fill.line ≢ later.line) fills
