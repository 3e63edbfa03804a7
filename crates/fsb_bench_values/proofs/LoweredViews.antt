-- What an agent sends, gives up or sees at a snoop end leaves the bytes of each line that it still holds and that
-- has come.
use Rattle.fsb_bench_values.proofs.Words
use Words.{ℕ, ◌≡◌, ◌≢◌, ◌∙◌, Bool, true, false, List, [], ◌∷◌, ◌++◌, Option, Some, None, if◌then◌else◌, refl, sym, ap}
use Words.{subst, arith, ◌==◌, is_none, option_map_or, Held, CacheSets, copies, sets_filled, sets_without, slot_of}
use Words.{states, Kind, Request, Mesi, Exclusive, Invalid, Modified, Shared, asks_line, granted, is_held, is_sole}
use Words.{Buffered, fill_on, promised_to, Outcome, OwnRequest, Want, AgentView, has_come, line_state_by, given_up}
use Words.{handed_on, new_request, request_numbered, requests_granted, buffers_giving, committed, granted_by, is_giver}
use Words.{kind_asks, no_bytes, other_settled, own_settled, sets_lowered, state_snooped, upgraded_by, with_fill}
use Words.{with_push, written_by, sent, sets_cleared_for, want_by, ReplayState}
use Rattle.fsb_linebuf.specs.declared.entry.Fill.{Fill}
use Rattle.fsb_trace.specs.declared.outcome.Outcome.TheVariants as outcomes
use Rattle.fsb_bench_values.proofs.ItemsServed.{IsAgentAt}
use Rattle.fsb_bench_values.proofs.SetCopies.{Lowers, WasHeld, filled-other, lowers-same, lowers-shared}
use Rattle.fsb_bench_values.proofs.SetCopies.{lowers-without}

-- a line that is held and has come was so before, with these bytes, and alone where it is
pub record WasReady (w next : AgentView) (line : ℕ) : Type 0 where
  pub held : is_held (line_state_by w line) ≡ true
  pub came : has_come w line ≡ true
  pub same : copies next.lines line ≡ copies w.lines line
  pub alone : is_sole (line_state_by next line) ≡ true → is_sole (line_state_by w line) ≡ true

-- the later record has its lines from the earlier one, as far as they have come; and the rest stays
pub record IsLowered (w next : AgentView) : Type 0 where
  pub number : next.number ≡ w.number
  pub items : next.items ≡ w.items
  pub last : next.last ≡ w.last
  pub lines : (line : ℕ) → is_held (line_state_by next line) ≡ true → has_come next line ≡ true → WasReady w next line

pub lowered-same : (w : AgentView) → IsLowered w w
lowered-same w = grind arith

pub lowered-twice : (u w x : AgentView) → IsLowered u w → IsLowered w x → IsLowered u x
lowered-twice u w x j k = grind arith

-- so it has the bytes of a state where that one had them
pub lowered-at : (state : ReplayState) (a : ℕ) (w next : AgentView) → IsLowered w next → IsAgentAt state a w
    → IsAgentAt state a next
lowered-at state a w next j k = grind arith

-- a line of the sets that was held, where its bytes had come
ready-from : (w next : AgentView) (line : ℕ) → WasHeld w.lines next.lines line → has_come w line ≡ true
    → WasReady w next line
ready-from w next line k come = record { held = k.held; came = come; same = k.same; alone = k.alone }

-- what is sent
lowers-cleared_for : (sets : CacheSets) (line : ℕ) → Lowers sets (sets_cleared_for sets line)
lowers-cleared_for sets line = by (slot_of sets line)
  where
    chosen : (held : Held) (b : Bool) → Lowers sets (if b then sets else sets_without sets held.line)
    chosen held true = lowers-same sets
    chosen held false = lowers-without sets held.line

    by : (o : Option Held)
        → Lowers sets (elim o [
          | None ↦ sets
          | Some held ↦ if held.line == line then sets else sets_without sets held.line
        ])
    by None = lowers-same sets
    by (Some held) = chosen held (held.line == line)

pub lowered-sent : (w : AgentView) (clock number : ℕ) → IsLowered w (sent w clock number)
lowered-sent w clock number = by (want_by w clock)
  where
    by : (o : Option Want) → IsLowered w (elim o [
      | None ↦ w
      | Some want ↦ record w {
        lines = sets_cleared_for w.lines want.request.line;
        outs = w.outs ++ new_request number want.request ∷ [];
      }
    ])
    by None = lowered-same w
    by (Some want) = record {
      number = refl;
      items = refl;
      last = refl;
      lines = λ line held come.
          let k = lowers-cleared_for w.lines want.request.line line held in
          record { held = k.held; came = come; same = k.same; alone = k.alone };
    }

-- what is given up, and what is handed on
pub lowered-given : (w : AgentView) (number : ℕ) → IsLowered w (given_up w number)
lowered-given w number = grind arith

pub lowered-handed : (w : AgentView) (number : ℕ) → IsLowered w (handed_on w number)
lowered-handed w number = grind arith

-- a line without a fill had none before another one began, and is another line
come-more : (line : ℕ) (fill : Fill) (fills : List Fill) → is_none (fill_on line (fills ++ fill ∷ [])) ≡ true
    → (is_none (fill_on line fills) ≡ true) × (line ≢ fill.line)
come-more line fill [] e = grind arith
come-more line fill (f ∷ fills) e = grind (arith, come-more line fill fills)

-- and it has none where one is promised
come-promised : (line other number : ℕ) (fills : List Fill)
    → is_none (fill_on line (promised_to other number fills)) ≡ is_none (fill_on line fills)
come-promised line other number [] = refl
come-promised line other number (f ∷ fills) = grind (arith, come-promised line other number fills)

-- the line of an own request is granted, upgraded or written back
filled-lines : (w next : AgentView) (out : OwnRequest) (state : Mesi) (bytes : List ℕ) (line : ℕ)
    → next.lines ≡ sets_filled w.lines out.request.line state bytes
    → next.buffers.fills ≡ w.buffers.fills ++ record
    { line = out.request.line; number = out.number; promise = None } ∷ []
    → is_held (line_state_by next line) ≡ true → has_come next line ≡ true → WasReady w next line
filled-lines w next out state bytes line lines fills held come =
    let k = come-more line (record { line = out.request.line; number = out.number; promise = None }) w.buffers.fills
    (ap (λ fs. is_none (fill_on line fs)) (sym fills) ∙ come) in
    let was = filled-other w.lines out.request.line line state bytes k.1
    (ap (λ sets. is_held (states sets line)) (sym lines) ∙ held) in
    ready-from w next line (subst (λ sets. WasHeld w.lines sets line) (sym lines) was) k.0

lowered-granted : (w : AgentView) (out : OwnRequest) (shared : Bool) → IsLowered w (granted_by w out shared)
lowered-granted w out shared = by (asks_line (kind_asks out.request.kind))
  where
    after : AgentView
    after = record w {
      lines = sets_filled w.lines out.request.line (granted (kind_asks out.request.kind) shared) no_bytes;
      buffers = with_fill w.buffers out.request.line out.number;
      outs = requests_granted out.number None w.outs;
    }

    by : (b : Bool) → IsLowered w (elim b [ false ↦ w | true ↦ after ])
    by false = lowered-same w
    by true = record {
      number = refl;
      items = refl;
      last = refl;
      lines = λ other held come.
          filled-lines w after out (granted (kind_asks out.request.kind) shared) no_bytes other refl refl held come;
    }

lowered-upgraded : (w : AgentView) (out : OwnRequest) → IsLowered w (upgraded_by w out)
lowered-upgraded w out = by (is_held (line_state_by w out.request.line))
  where
    after : AgentView
    after = record w {
      lines = sets_filled w.lines out.request.line Modified (copies w.lines out.request.line);
      buffers = with_fill w.buffers out.request.line out.number;
      outs = requests_granted out.number (Some (copies w.lines out.request.line)) w.outs;
    }

    by : (b : Bool) → IsLowered w (elim b [ false ↦ w | true ↦ after ])
    by false = lowered-same w
    by true = record {
      number = refl;
      items = refl;
      last = refl;
      lines = λ other held come.
          filled-lines w after out Modified (copies w.lines out.request.line) other refl refl held come;
    }

lowered-written : (w : AgentView) (out : OwnRequest) → IsLowered w (written_by w out)
lowered-written w out = record {
  number = refl;
  items = refl;
  last = refl;
  lines = λ line held come.
      let k = lowers-without w.lines out.request.line line held in
      record { held = k.held; came = come; same = k.same; alone = k.alone };
}

-- the snoop end of an own request, whatever its outcome
own-lowered : (w : AgentView) (out : OwnRequest) (shared : Bool) (outcome : Outcome)
    → IsLowered w (own_settled w out shared outcome)
own-lowered w out shared outcomes.Granted = lowered-granted w out shared
own-lowered w out shared outcomes.Handed = lowered-granted w out true
own-lowered w out shared outcomes.Retried = lowered-same w
own-lowered w out shared outcomes.Deferred = lowered-same w
own-lowered w out shared outcomes.Written = lowered-written w out
own-lowered w out shared outcomes.Replied = lowered-granted w out shared
own-lowered w out shared outcomes.Failed = lowered-same w
own-lowered w out shared outcomes.Upgraded = lowered-upgraded w out

shared-held : (state : Mesi) (kind : Kind) (outcome : Outcome) → state_snooped state kind outcome ≡ Shared
    → is_held state ≡ true
shared-held state kind outcome h1 = grind arith

lowers-lowered : (sets : CacheSets) (line : ℕ) (state : Mesi) → (state ≡ Shared → is_held (states sets line) ≡ true)
    → Lowers sets (sets_lowered sets line state)
lowers-lowered sets line Invalid held = lowers-without sets line
lowers-lowered sets line Shared held = lowers-shared sets line (held refl)
lowers-lowered sets line Exclusive held = lowers-same sets
lowers-lowered sets line Modified held = lowers-same sets

-- giving a line takes no fill
giving-come : (w : AgentView) (request : Request) (number line : ℕ) (outcome : Outcome)
    → is_none (fill_on line (other_settled w number request outcome).buffers.fills) ≡ true
    → has_come w line ≡ true
giving-come w request number line outcome e = by (is_giver w request outcome) e
  where
    to : ℕ
    to = request.line

    given : Bool → Buffered
    given b = elim b [
      | true ↦ with_push w.buffers number (copies w.lines to)
      | false ↦ record w.buffers { fills = promised_to to number w.buffers.fills }
    ]

    left : Bool → Buffered
    left b = elim b [ true ↦ buffers_giving w to number | false ↦ w.buffers ]

    giving : (b : Bool) → is_none (fill_on line (given b).fills) ≡ true → has_come w line ≡ true
    giving true f = f
    giving false f = sym (come-promised line to number w.buffers.fills) ∙ f

    by : (b : Bool) → is_none (fill_on line (left b).fills) ≡ true → has_come w line ≡ true
    by true f = giving (has_come w to) f
    by false f = f

-- the snoop end of another agent's request
other-lowered : (w : AgentView) (number : ℕ) (request : Request) (outcome : Outcome)
    → IsLowered w (other_settled w number request outcome)
other-lowered w number request outcome = record {
  number = refl;
  items = refl;
  last = refl;
  lines = λ line held come.
      let state = line_state_by w request.line in
      let k = lowers-lowered w.lines request.line (state_snooped state request.kind outcome)
      (shared-held state request.kind outcome) line held in
      record {
        held = k.held;
        came = giving-come w request number line outcome come;
        same = k.same;
        alone = k.alone;
      };
}

pub lowered-committed : (w : AgentView) (number : ℕ) (mine : Bool) (request : Request) (shared : Bool)
    (outcome : Outcome)
    → IsLowered w (committed w number mine request shared outcome)
lowered-committed w number true request shared outcome = by (request_numbered number w.outs)
  where
    by : (o : Option OwnRequest) → IsLowered w (option_map_or (λ out. own_settled w out shared outcome) o w)
    by None = lowered-same w
    by (Some out) = own-lowered w out shared outcome
lowered-committed w number false request shared outcome = other-lowered w number request outcome
