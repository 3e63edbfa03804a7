-- What the machine of a line asks of the requests for it, beside what its states are: that each waits for its turn.
use Rattle.std.specs.Prelude.{◌≡◌, ◌<◌, ℕ, ◌+◌, true, false, Some}
use Rattle.fsb_signal.specs.declared.lines.TheConstants.Lines.{HIT}
use Rattle.fsb_signal.specs.Samples.{line_at}
use Rattle.fsb_line.specs.declared.purpose.Purpose.{Purpose}
use Rattle.fsb_line.specs.declared.purpose.Purpose.TheVariants.{WriteBack}
use Rattle.fsb_line.specs.States.{asks_line}
use Rattle.fsb_trace.specs.At.{Trace}
use Rattle.fsb_trace.specs.Requests.{is_reply, live_clock_of, live_request_of}
use Rattle.fsb_trace.specs.Snoop.{line_at_snoop_end, snoop_end_of}
use Rattle.fsb_trace.specs.Outcome.{is_deferred}
use Rattle.fsb_owners.specs.Rules.{is_answered_below, is_served_or_deferred}
use Rattle.fsb_owners.specs.Shown.{asks, is_held_back, is_still_asking, names, origin_of, purpose_at, snooped_at}

-- live request i is Deferred. Live request j asks for its line, and the snoop of j ends behind that of i, but not behind that
-- of the reply to i
pub record IsAskedWhilePending (v : Trace) (line i j : ℕ) : Type 0 where
  pub deferred : is_deferred v i ≡ true
  pub clock : ℕ
  pub begins : live_clock_of v i ≡ Some clock
  pub agent : ℕ
  pub asked : asks v line agent clock ≡ true
  pub snoop : ℕ
  pub is_snoop : snoop_end_of v i ≡ Some snoop
  pub later_clock : ℕ
  pub later_begins : live_clock_of v j ≡ Some later_clock
  pub later_names : names v line later_clock ≡ true
  pub kind : Purpose
  pub is_kind : purpose_at v later_clock ≡ Some kind
  pub asks_for_line : asks_line kind ≡ true
  pub later_snoop : ℕ
  pub is_later_snoop : snoop_end_of v j ≡ Some later_snoop
  pub behind : snoop < later_snoop
  pub unanswered : is_answered_below v i later_snoop ≡ false

-- the requests for the line wait for their turn at c, the last clock of v, and a reply repeats HIT#: rules 21, 30 and 31, and
-- of rule 22 that others go first
pub record WaitTheirTurn (v : Trace) (line c : ℕ) : Type 0 where
  -- who begins a request for the line has no earlier one for it outstanding
  pub asks_once : (q a : ℕ) → q + 1 ≡ c → asks v line a q ≡ true → is_still_asking v line a q ≡ false
  -- who begins a write-back has let the open requests of others go first
  pub lets_others_go : (q a : ℕ) → q + 1 ≡ c → asks v line a q ≡ true → purpose_at v q ≡ Some WriteBack →
      is_held_back v line a q ≡ false
  -- a reply repeats HIT# of the request that it answers
  pub repeats_hit : (j i q a : ℕ) → snooped_at v c ≡ Some j → is_reply (live_request_of v j) ≡ true → origin_of v j ≡ Some i →
      live_clock_of v i ≡ Some q → asks v line a q ≡ true → line_at HIT v c ≡ line_at_snoop_end HIT v i
  -- a pending line is neither given to a later request, nor deferred for one
  pub keeps_pending : (i j : ℕ) → IsAskedWhilePending v line i j → is_served_or_deferred v j ≡ false
