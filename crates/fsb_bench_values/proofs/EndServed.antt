-- The end of an agent's request, whatever its outcome: what that completes is served, and each agent has the bytes
-- of the one byte memory behind it.
use Rattle.fsb_bench_values.proofs.Words
use Words.{ℕ, ◌<◌, ◌≡◌, ◌≢◌, Bool, true, false, Option, Some, None, List, [], length, refl, sym, ap, subst, ◌∙◌, arith}
use Words.{list_all, option_map_or, Done, ReplayState, replay, copies, is_held, is_lawful_item, line_bytes, Outcome}
use Words.{OwnRequest, AgentView, has_come, line_state_by, arrived_entries, arrived_for, ended_entries_for, ended_for}
use Words.{given_up, line_arrived, met_by, met_entries, upgrade_ended, upgrade_entries, request_numbered, agent_ended}
use Words.{entries_ended}
use Rattle.fsb_trace.specs.declared.outcome.Outcome.TheVariants as outcomes
use Rattle.fsb_bench_values.proofs.ArrivalServed.{alone_with, arrival-served, owns_line}
use Rattle.fsb_bench_values.proofs.HandServed.{AreServed}
use Rattle.fsb_bench_values.proofs.ItemsServed.{IsAgentAt}
use Rattle.fsb_bench_values.proofs.LoweredViews.{lowered-at, lowered-given}

-- agent a may have a line come: it is this agent, with lawful items, and lines in its cache; and it has the bytes of
-- the state
pub record IsReadyFor (state : ReplayState) (a : ℕ) (w : AgentView) : Type 0 where
  pub number : w.number ≡ a
  pub lawful : list_all (is_lawful_item (length w.lines)) w.items ≡ true
  pub some : 0 < length w.lines
  pub at : IsAgentAt state a w

-- the agent has none of the lines ready that another one may store into where the line of this request comes
pub record IsBeside (w : AgentView) (out : OwnRequest) (u : AgentView) : Type 0 where
  pub apart : (line : ℕ) → alone_with w out.request.line (owns_line out) line ≡ true
      → is_held (line_state_by u line) ≡ true → has_come u line ≡ true → ⊥

-- a line may come to agent a for such a request, with such bytes
abbrev pub Coming : Type 1
Coming = OwnRequest → List ℕ → Type 0

-- what happens to agent a, and what that completes: it is served; the agent, and each other one that is beside it
-- where a line comes, has the bytes of the state behind it; and so has the line that comes, where its agent has
-- completed on it
pub record EndsServed (state : ReplayState) (a clock : ℕ) (comes : Coming) (w next : AgentView)
    (entries : List Done) : Type 0 where
  pub served : AreServed state entries
  pub agent : IsAgentAt (replay state entries) a next
  pub others : (b : ℕ) (u : AgentView) → ((out : OwnRequest) (bytes : List ℕ) → comes out bytes → IsBeside w out u)
      → b ≢ a → IsAgentAt state b u → IsAgentAt (replay state entries) b u
  pub came : (out : OwnRequest) (bytes : List ℕ) → comes out bytes
      → copies (met_by w clock out bytes).lines out.request.line
      ≡ line_bytes (replay state entries).memory out.request.line

-- nothing is completed
nothing-served : (state : ReplayState) (a clock : ℕ) (comes : Coming) (w next : AgentView)
    → ((out : OwnRequest) (bytes : List ℕ) → comes out bytes → ⊥) → IsAgentAt state a next
    → EndsServed state a clock comes w next []
nothing-served state a clock comes w next none k = grind arith

-- the line of a request comes
met-served : (state : ReplayState) (a clock : ℕ) (comes : Coming) (w : AgentView) (out : OwnRequest) (bytes : List ℕ)
    → IsReadyFor state a w → comes out bytes
    → ((x : OwnRequest) (ys : List ℕ) → comes x ys → (x ≡ out) × (ys ≡ bytes))
    → bytes ≡ line_bytes state.memory out.request.line
    → EndsServed state a clock comes w (arrived_for w clock out bytes) (met_entries w clock out bytes)
met-served state a clock comes w out bytes k does only now =
    let after = replay state (met_entries w clock out bytes) in
    let j = arrival-served state a clock w out bytes k.number k.lawful k.at k.some now in
    record {
      served = j.served;
      agent = j.arrives.agent;
      others = λ b u beside other h.
          let is = beside out bytes does in
          record {
            last = h.last ∙ sym (j.arrives.others b other);
            copies = λ line held come.
                h.copies line held come
                ∙ sym (j.arrives.beside line (off (alone_with w out.request.line (owns_line out) line)
                (λ own. is.apart line own held come)));
          };
      came = λ x ys c.
          let same = only x ys c in
          subst (λ zs. copies (met_by w clock x zs).lines x.request.line ≡ line_bytes after.memory x.request.line)
          (sym same.1)
          (subst (λ (z : OwnRequest). copies (met_by w clock z bytes).lines z.request.line
          ≡ line_bytes after.memory z.request.line) (sym same.0) j.arrives.came);
    }
  where
    off : (x : Bool) → (x ≡ true → ⊥) → x ≡ false
    off true never = absurd (never refl)
    off false never = refl

-- which lines come with the end of the request of this number, with this outcome, where these bytes have moved
abbrev pub Comes : AgentView → ℕ → List ℕ → Outcome → Coming
Comes w number moved outcomes.Granted out bytes = (request_numbered number w.outs ≡ Some out) × (bytes ≡ moved)
Comes w number moved outcomes.Handed out bytes = (request_numbered number w.outs ≡ Some out) × (bytes ≡ moved)
Comes w number moved outcomes.Retried out bytes = ⊥
Comes w number moved outcomes.Deferred out bytes = ⊥
Comes w number moved outcomes.Written out bytes = ⊥
Comes w number moved outcomes.Replied out bytes = (request_numbered number w.outs ≡ Some out) × (bytes ≡ moved)
Comes w number moved outcomes.Failed out bytes = ⊥
Comes w number moved outcomes.Upgraded out bytes =
    (request_numbered number w.outs ≡ Some out) × (out.kept ≡ Some bytes)

-- the bytes with which they come are those of their lines
abbrev pub BringsNow : ReplayState → Coming → Type 0
BringsNow state comes =
    (out : OwnRequest) (bytes : List ℕ) → comes out bytes → bytes ≡ line_bytes state.memory out.request.line

one-out : (a b : OwnRequest) (o : Option OwnRequest) → o ≡ Some a → o ≡ Some b → a ≡ b
one-out a b o e f = cc

no-out : (a : OwnRequest) (o : Option OwnRequest) → o ≡ None → o ≡ Some a → ⊥
no-out a o e f = cc

line-served : (state : ReplayState) (a clock number : ℕ) (w : AgentView) (moved : List ℕ) (comes : Coming)
    → IsReadyFor state a w
    → ((out : OwnRequest) (bytes : List ℕ) → comes out bytes
    → (request_numbered number w.outs ≡ Some out) × (bytes ≡ moved))
    → ((out : OwnRequest) → request_numbered number w.outs ≡ Some out → comes out moved) → BringsNow state comes
    → EndsServed state a clock comes w (line_arrived w clock number moved) (arrived_entries w clock number moved)
line-served state a clock number w moved comes k says does now = by (request_numbered number w.outs) refl
  where
    by : (o : Option OwnRequest) → request_numbered number w.outs ≡ o → EndsServed state a clock comes w
        (option_map_or (λ out. arrived_for w clock out moved) o w)
        (option_map_or (λ out. met_entries w clock out moved) o [])
    by None e =
        nothing-served state a clock comes w w
        (λ out bytes c. no-out out (request_numbered number w.outs) e (says out bytes c).0) k.at
    by (Some out) e =
        met-served state a clock comes w out moved k (does out e)
        (λ x ys c. (one-out x out (request_numbered number w.outs) (says x ys c).0 e, (says x ys c).1))
        (now out moved (does out e))

upgrade-served : (state : ReplayState) (a clock number : ℕ) (w : AgentView) (comes : Coming) → IsReadyFor state a w
    → ((out : OwnRequest) (bytes : List ℕ) → comes out bytes
    → (request_numbered number w.outs ≡ Some out) × (out.kept ≡ Some bytes))
    → ((out : OwnRequest) (bytes : List ℕ) → request_numbered number w.outs ≡ Some out → out.kept ≡ Some bytes
    → comes out bytes)
    → BringsNow state comes
    → EndsServed state a clock comes w (upgrade_ended w clock number) (upgrade_entries w clock number)
upgrade-served state a clock number w comes k says does now = by (request_numbered number w.outs) refl
  where
    one-kept : (x y : List ℕ) (o : Option (List ℕ)) → o ≡ Some x → o ≡ Some y → x ≡ y
    one-kept x y o e f = cc

    no-kept : (x : List ℕ) (o : Option (List ℕ)) → o ≡ None → o ≡ Some x → ⊥
    no-kept x o e f = cc

    kept-by : (out : OwnRequest) → request_numbered number w.outs ≡ Some out → (o : Option (List ℕ)) → out.kept ≡ o
        → EndsServed state a clock comes w
        (elim o [ Some bytes ↦ arrived_for w clock out bytes | None ↦ given_up w out.number ])
        (elim o [ Some bytes ↦ met_entries w clock out bytes | None ↦ [] ])
    kept-by out e None f =
        nothing-served state a clock comes w (given_up w out.number)
        (λ x ys c.
        let said = says x ys c in
        let same = one-out x out (request_numbered number w.outs) said.0 e in
        no-kept ys out.kept f (ap (λ (z : OwnRequest). z.kept) (sym same) ∙ said.1))
        (lowered-at state a w (given_up w out.number) (lowered-given w out.number) k.at)
    kept-by out e (Some bytes) f =
        met-served state a clock comes w out bytes k (does out bytes e f)
        (λ x ys c.
        let said = says x ys c in
        let same = one-out x out (request_numbered number w.outs) said.0 e in
        (same, one-kept ys bytes out.kept (ap (λ (z : OwnRequest). z.kept) (sym same) ∙ said.1) f))
        (now out bytes (does out bytes e f))

    by : (o : Option OwnRequest) → request_numbered number w.outs ≡ o → EndsServed state a clock comes w
        (option_map_or (ended_for w clock) o w) (option_map_or (ended_entries_for w clock) o [])
    by None e =
        nothing-served state a clock comes w w
        (λ out bytes c. no-out out (request_numbered number w.outs) e (says out bytes c).0) k.at
    by (Some out) e = kept-by out e out.kept refl

-- whatever the outcome
pub end-served : (state : ReplayState) (a clock number : ℕ) (w : AgentView) (moved : List ℕ) (outcome : Outcome)
    → IsReadyFor state a w → BringsNow state (Comes w number moved outcome)
    → EndsServed state a clock (Comes w number moved outcome) w (agent_ended clock number moved outcome w)
    (entries_ended clock number moved outcome w)
end-served state a clock number w moved outcomes.Granted k now =
    line-served state a clock number w moved (Comes w number moved outcomes.Granted) k (λ out bytes c. c)
    (λ out e. (e, refl)) now
end-served state a clock number w moved outcomes.Handed k now =
    line-served state a clock number w moved (Comes w number moved outcomes.Handed) k (λ out bytes c. c)
    (λ out e. (e, refl)) now
end-served state a clock number w moved outcomes.Retried k now =
    nothing-served state a clock (Comes w number moved outcomes.Retried) w (given_up w number) (λ out bytes c. c)
    (lowered-at state a w (given_up w number) (lowered-given w number) k.at)
end-served state a clock number w moved outcomes.Deferred k now =
    nothing-served state a clock (Comes w number moved outcomes.Deferred) w w (λ out bytes c. c) k.at
end-served state a clock number w moved outcomes.Written k now =
    nothing-served state a clock (Comes w number moved outcomes.Written) w (given_up w number) (λ out bytes c. c)
    (lowered-at state a w (given_up w number) (lowered-given w number) k.at)
end-served state a clock number w moved outcomes.Replied k now =
    line-served state a clock number w moved (Comes w number moved outcomes.Replied) k (λ out bytes c. c)
    (λ out e. (e, refl)) now
end-served state a clock number w moved outcomes.Failed k now =
    nothing-served state a clock (Comes w number moved outcomes.Failed) w w (λ out bytes c. c) k.at
end-served state a clock number w moved outcomes.Upgraded k now =
    upgrade-served state a clock number w (Comes w number moved outcomes.Upgraded) k (λ out bytes c. c)
    (λ out bytes e f. (e, f)) now
