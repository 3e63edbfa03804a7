-- What holds of an order, and of the texts that stand in place of one.
use Rattle.std.specs.Prelude.{◌≡◌, ◌≤◌, ℕ, Bool, true, false, nat_lt, ⊤, ◌⊎◌, List, length, Option, Some, None, IfSome}
use Rattle.scope_words.specs.Names.{Lines, SampledLines}
use Rattle.scope_words.specs.declared.moment.Moment.{Moment}
use Rattle.scope_words.specs.declared.moment.Moment.TheVariants.{Clock, Time}
use Rattle.scope_words.specs.declared.order.Order.{Order}
use Rattle.scope_words.specs.declared.order.Order.TheVariants as orders
use Rattle.scope_words.specs.declared.order.Views.{Views}
use Rattle.scope_words.specs.declared.order.Wires.{Wires}
use Rattle.scope_words.specs.declared.order.Part.{Part}
use Rattle.scope_words.specs.declared.orders.Reading.{Reading}
use Rattle.scope_words.specs.declared.orders.Reading.TheVariants as readings
use Rattle.scope_words.specs.declared.told.Stop.{Stop}
use Rattle.scope_words.specs.declared.told.Stop.TheVariants as stops

-- a text, where it is one, is that of an error
abbrev pub IsError : Stop → Type 0
IsError (stops.Told told) = told.is_error ≡ true
IsError stops.Memory = ⊤

-- memory lacked
abbrev pub LacksMemory : Stop → Type 0
LacksMemory stop = stop ≡ stops.Memory

-- a name: 1 to 4,096 bytes
abbrev pub IsName : List ℕ → Type 0
IsName word = (1 ≤ length word) × (length word ≤ 4096)

-- what an order says of the wires
abbrev pub KeepsWires : Wires → Type 0
KeepsWires wires =
    IfSome wires.choice.scope (λ scope. IsName scope.items) × Lines wires.choice.without.items
    × IfSome wires.file (λ file. IsName file.now) × SampledLines wires.after.items

-- both are numbers of clocks, and the end lies before the begin
unfoldable pub ends_before : Option Moment → Option Moment → Bool
ends_before None end = false
ends_before (Some (Time count unit)) end = false
ends_before (Some (Clock begin)) None = false
ends_before (Some (Clock begin)) (Some (Time count unit)) = false
ends_before (Some (Clock begin)) (Some (Clock end)) = nat_lt end begin

-- a number of broken rules that may be looked for: 1 to 16
abbrev pub IsMost : ℕ → Type 0
IsMost most = (1 ≤ most) × (most ≤ 16)

-- a part begins in one way, and doesn't end before it begins where that is said by numbers of clocks
abbrev pub KeepsPart : Part → Type 0
KeepsPart part =
    ((part.at ≡ None) ⊎ (part.from ≡ None)) × (ends_before part.at part.to ≡ false)
    × (ends_before part.from part.to ≡ false) × (1 ≤ part.quiet) × IsMost part.most

-- what an order says of the files that show a broken rule
abbrev pub KeepsViews : Views → Type 0
KeepsViews views = IfSome views.save (λ file. IsName file.now) × IfSome views.cut (λ file. IsName file.now)

-- names have 1 to 4,096 bytes, and a rule is one of 1 to 31
abbrev pub KeepsLimits : Order → Type 0
KeepsLimits (orders.Lines dump) = IsName dump.now
KeepsLimits (orders.Check wires part views dump) =
    KeepsWires wires × KeepsPart part × KeepsViews views × IsName dump.now
KeepsLimits (orders.Coherence wires part dump) = KeepsWires wires × KeepsPart part × IsName dump.now
KeepsLimits (orders.Table wires part form dump) = KeepsWires wires × KeepsPart part × IsName dump.now
KeepsLimits (orders.Pick wires part dump) = KeepsWires wires × KeepsPart part × IsName dump.now
KeepsLimits (orders.Rule number) = IfSome number (λ n. (1 ≤ n) × (n ≤ 31))

-- an order keeps its limits
abbrev pub IsReading : Reading → Type 0
IsReading (readings.Order order) = KeepsLimits order
IsReading (readings.Told told) = ⊤
