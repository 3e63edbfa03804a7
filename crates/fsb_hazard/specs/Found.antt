-- What is kept of hazard lines so that the entry of a question is found without a look at each of them.
use Rattle.std.specs.Prelude.{◌≡◌, ℕ, Bool, ◌&&◌, nat_le, List, Option, Some, None, unwrap_or}
use Rattle.std.specs.Ordering.{nat_cmp}
use Rattle.std.specs.BTreeMap.{BTreeMap, get}
use Rattle.std.specs.List.{list_any}
use Rattle.std.specs.List.Sorted.{IsNonDecreasingBy}
use Rattle.fsb_encode.specs.declared.request.Request.{Request}
use Rattle.fsb_hazard.specs.declared.choice.Choice.{Choice}
use Rattle.fsb_hazard.specs.declared.choice.Ask.TheVariants.{Clock, Begun}
use Rattle.fsb_hazard.specs.declared.found.Held.{Held}
use Rattle.fsb_hazard.specs.declared.line.HazardLine.{HazardLine}
use Rattle.fsb_hazard.specs.declared.line.HazardLine.TheVariants.{Stall, Trdy, Resp, Gap, Retry, Defer, Aerr, Bnr}
use Rattle.fsb_hazard.specs.Choice.{quiet_choice}
use Rattle.fsb_hazard.specs.Entry.{entry}

-- the number of the request of which the line speaks, if it speaks of one
abbrev pub request_of : HazardLine → Option ℕ
request_of (Stall k n) = Some k
request_of (Trdy k n) = Some k
request_of (Resp k n) = Some k
request_of (Gap k n) = Some k
request_of (Retry k) = Some k
request_of (Defer k later) = Some k
request_of (Aerr k) = Some k
request_of (Bnr first last) = None

-- what is kept for the request with this number: the quiet choice where nothing is
abbrev pub chosen : BTreeMap ℕ Choice → ℕ → Choice
chosen choices number = unwrap_or (get nat_cmp choices number) quiet_choice

-- whether the clock is one of those from the first to the last
abbrev pub is_within : ℕ → Held → Bool
is_within clock held = nat_le held.first clock && nat_le clock held.last

-- what is chosen for a clock: BNR#, where the clock is within some of these
abbrev pub held_choice : List Held → ℕ → Choice
held_choice held clock = record quiet_choice { bnr = list_any (is_within clock) held }

-- none begins later, or ends later, than one that stands behind it
pub record InOrder (held : List Held) : Type 0 where
  pub firsts : IsNonDecreasingBy (λ h. h.first) held
  pub lasts : IsNonDecreasingBy (λ h. h.last) held

-- what is kept for each request is the entry of its question
abbrev pub AreChosen : BTreeMap ℕ Choice → List HazardLine → Type 0
AreChosen choices lines = (number : ℕ) (request : Request) → chosen choices number ≡ entry lines (Begun number request)

-- what is chosen for each clock is the entry of its question
abbrev pub AreHeld : List Held → List HazardLine → Type 0
AreHeld held lines = (clock : ℕ) → held_choice held clock ≡ entry lines (Clock clock)

-- what is kept answers every question as the lines do, and can be searched
pub record Finds (choices : BTreeMap ℕ Choice) (held : List Held) (lines : List HazardLine) : Type 0 where
  pub choices_found : AreChosen choices lines
  pub held_found : AreHeld held lines
  pub in_order : InOrder held
