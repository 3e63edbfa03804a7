-- The deferrals of the bridge, and what its calls do to them.
use Rattle.std.specs.Prelude.{ℕ, ◌+◌, ◌*◌, Bool, false, not, ◌&&◌, nat_le, nat_lt, ◌==◌, if◌then◌else◌, List, ◌++◌, Option, Some, None}
use Rattle.std.specs.List.{after_first, before_first, find, list_any}
use Rattle.std.specs.Option.{option_map}
use Rattle.fsb_encode.specs.declared.request.Request.{Request}
use Rattle.fsb_encode.specs.declared.request.Kind.TheVariants.{Reply as ReplyKind}
use Rattle.fsb_script.specs.declared.plan.Window.{Window}
use Rattle.fsb_bridge.specs.declared.deferral.Deferral.{Deferral}
use Rattle.fsb_bridge.specs.declared.deferral.Waiting.{Waiting}
use Rattle.fsb_bridge.specs.declared.deferral.News.{News}
use Rattle.fsb_bridge.specs.declared.deferral.News.TheVariants.{Answered, Reply}

-- the window, if there is one, and the deferrals that wait for their replies, in the order in which they came
pub record Bridged : Type 0 where
  pub window : Option Window
  pub waiting : List Waiting

-- whether the line lies in the window
abbrev pub is_covered : Option Window → ℕ → Bool
is_covered None line = false
is_covered (Some window) line = nat_le window.base (line * 32) && nat_lt (line * 32) (window.base + window.size)

-- the deferral is of this line, of this request, or has this ID
abbrev pub is_of_line : ℕ → Waiting → Bool
is_of_line line waiting = waiting.deferral.request.line == line

abbrev pub is_of_number : ℕ → Waiting → Bool
is_of_number number waiting = waiting.deferral.number == number

abbrev pub is_of_id : ℕ → Waiting → Bool
is_of_id did waiting = waiting.deferral.request.did == did

-- whether a deferral of the line waits for its reply
abbrev pub is_waited_for : ℕ → List Waiting → Bool
is_waited_for line waiting = list_any (is_of_line line) waiting

-- the reply to the deferral is due at the clock: its response came, its wait is over, and no reply is under way
abbrev pub is_due_reply : ℕ → Waiting → Bool
is_due_reply clock waiting =
    elim waiting.answered [
      | None ↦ false
      | Some response ↦ nat_le (response + 1 + waiting.later) clock && not waiting.begun
    ]

-- the first of the deferrals whose reply is due at the clock
abbrev pub due_deferral : ℕ → List Waiting → Option Deferral
due_deferral clock waiting = option_map (λ w. w.deferral) (find (is_due_reply clock) waiting)

-- a deferral that is new
abbrev pub new_waiting : ℕ → Request → Bool → ℕ → Waiting
new_waiting number request shared later = record {
  deferral = record { number = number; request = request; shared = shared };
  later = later;
  answered = None;
  begun = false;
}

-- one that stands where there is none
abbrev pub no_deferral : Waiting
no_deferral = new_waiting 0 (record { kind = ReplyKind; line = 0; chunk = 0; did = 0; den = false }) false 0

-- the deferral after its response came at a clock
abbrev pub with_answer : ℕ → ℕ → Waiting → Waiting
with_answer number clock waiting =
    if is_of_number number waiting then record waiting { answered = Some clock } else waiting

-- the deferral after a reply to it began, or was cancelled
abbrev pub with_reply : ℕ → Bool → Waiting → Waiting
with_reply did begun waiting = if is_of_id did waiting then record waiting { begun = begun } else waiting

-- the deferral after something was heard
abbrev pub told : News → Waiting → Waiting
told (Answered number clock) waiting = with_answer number clock waiting
told (Reply did begun) waiting = with_reply did begun waiting

-- the first deferral with an ID, if there is one
abbrev pub deferral_of_id : ℕ → List Waiting → Option Deferral
deferral_of_id did waiting = option_map (λ w. w.deferral) (find (is_of_id did) waiting)

-- the deferrals without the first one that has the ID
abbrev pub waiting_without : ℕ → List Waiting → List Waiting
waiting_without did waiting = before_first (is_of_id did) waiting ++ after_first (is_of_id did) waiting
