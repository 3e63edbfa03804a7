-- The request that begins at a clock, by its row.
use Rattle.std.proofs.Common.{ℕ, ◌+◌, ◌<◌, ◌≡◌, Bool, true, false, cond, not, ◌&&◌, nat_eq, Option, Some, None, refl, sym, ap, ◌∙◌}
use Rattle.std.proofs.Common.{arith, inl, inr}
use Rattle.std.specs.Option.{option_and_then, option_map}
use Rattle.std.proofs.lemmas.Bool.{and_parts, and_right, both_ways, cases_Bool, eq-eqb}
use Rattle.std.proofs.lemmas.Option.{cond_some}
use Rattle.fsb_count.specs.Options.{is_at, is_some_and}
use Rattle.fsb_signal.specs.declared.lines.TheConstants.Lines.{ADS}
use Rattle.fsb_signal.specs.Samples.{line_at}
use Rattle.fsb_line.specs.declared.purpose.Purpose.{Purpose}
use Rattle.fsb_trace.specs.At.{Trace, request_at}
use Rattle.fsb_trace.specs.Requests.{is_reply, line_of, seen_at}
use Rattle.fsb_owners.specs.Shown.{agent_at, names, purpose_at}
use Rattle.fsb_owner_table.specs.declared.row.Row.{Row}
use Rattle.fsb_owner_table.specs.Rows.{row_at}
use Rattle.fsb_owner_rows.specs.OfRow.{row_agent, row_line, row_purpose}
use Rattle.fsb_owner_rows.proofs.RowWords.{agent_is, purpose_is, request_is}
use Rattle.fsb_owner_laws.proofs.Emptied.{agent_four}
use Rattle.fsb_owner_judge.specs.Sights.{asking_at, asking_of}
use Rattle.fsb_owner_sights.specs.Agents.{IsOneOfFour}

pub purpose_row : (v : Trace) (q : ℕ) (row : Row) → row ≡ row_at v q → row_purpose row ≡ purpose_at v q
purpose_row v q row e = ap row_purpose e ∙ purpose_is v q

pub agent_row : (v : Trace) (q : ℕ) (row : Row) → row ≡ row_at v q → row_agent row ≡ agent_at v q
agent_row v q row e = ap row_agent e ∙ agent_is v q

-- it is one of four
one_at : (v : Trace) (q : ℕ) (o : Option ℕ) → agent_at v q ≡ o → IsOneOfFour o
one_at v q None e = tt
one_at v q (Some a) e = agent_four v q a e

pub agent_one : (v : Trace) (q : ℕ) (row : Row) (o : Option ℕ) → row ≡ row_at v q → o ≡ row_agent row → IsOneOfFour o
agent_one v q row o e f = one_at v q o (sym (f ∙ agent_row v q row e))

line_is : (v : Trace) (q : ℕ) → (row_at v q).line ≡ line_of v q
unfolding row_at
line_is v q = refl

-- the line that the request names
pub row_line_is : (v : Trace) (q : ℕ) (row : Row) → row ≡ row_at v q
    → row_line row ≡ cond (is_reply (request_at v q)) None (line_of v q)
row_line_is v q row e = ap row_line e ∙ (rw (request_is v q, line_is v q) refl)

names_itself : (v : Trace) (q line : ℕ) → line_at ADS v q ≡ true → line_of v q ≡ Some line
    → names v line q ≡ not (is_reply (request_at v q))
unfolding names is_at is_some_and
names_itself v q line t e = rw (t, e, eq-eqb line line refl) refl

names_nothing : (v : Trace) (q line : ℕ) → line_at ADS v q ≡ false → names v line q ≡ false
unfolding names
names_nothing v q line f = rw f refl

-- what is made of the line that the request names, where it names one
pub named : {A : Type 0} (v : Trace) (q : ℕ) (make : ℕ → Option A) → line_at ADS v q ≡ true → (o : Option ℕ) → line_of v q ≡ o
    → option_and_then (λ line. cond (names v line q) (make line) None) o
    ≡ option_and_then make (cond (is_reply (request_at v q)) None o)
named v q make t None e =
    elim (cases_Bool (is_reply (request_at v q))) [
      | inl reply ↦ sym (rw reply refl)
      | inr plain ↦ sym (rw plain refl)
    ]
named v q make t (Some line) e =
    elim (cases_Bool (is_reply (request_at v q))) [
      | inl reply ↦ rw (names_itself v q line t e, reply) refl
      | inr plain ↦ rw (names_itself v q line t e, plain) refl
    ]

asking_none : (v : Trace) (q : ℕ) (o : Option ℕ) → line_at ADS v q ≡ false
    → option_and_then (λ line. cond (names v line q) (option_map (asking_of v q line) (agent_at v q)) None) o ≡ None
asking_none v q None f = refl
asking_none v q (Some line) f = rw (names_nothing v q line f) refl

-- no request begins
pub no_asking : (v : Trace) (q : ℕ) → line_at ADS v q ≡ false → asking_at v q ≡ None
unfolding asking_at
no_asking v q f = asking_none v q (line_of v q) f

-- the request that begins
pub asking_named : (v : Trace) (q : ℕ) (row : Row) → row ≡ row_at v q → line_at ADS v q ≡ true
    → asking_at v q ≡ option_and_then (λ line. option_map (asking_of v q line) (agent_at v q)) (row_line row)
unfolding asking_at
asking_named v q row e t =
    named v q (λ line. option_map (asking_of v q line) (agent_at v q)) t (line_of v q) refl
    ∙ ap (option_and_then (λ line. option_map (asking_of v q line) (agent_at v q))) (sym (row_line_is v q row e))

-- the request, by the line that its row names

pub asking_some : (v : Trace) (q : ℕ) (row : Row) (line : ℕ) → row ≡ row_at v q → line_at ADS v q ≡ true
    → Some line ≡ row_line row → option_map (asking_of v q line) (agent_at v q) ≡ asking_at v q
asking_some v q row line e t s =
    sym (asking_named v q row e t ∙ ap (option_and_then (λ l. option_map (asking_of v q l) (agent_at v q))) (sym s))

pub asking_empty : (v : Trace) (q : ℕ) (row : Row) → row ≡ row_at v q → line_at ADS v q ≡ true
    → None ≡ row_line row → None ≡ asking_at v q
asking_empty v q row e t s =
    sym (asking_named v q row e t ∙ ap (option_and_then (λ l. option_map (asking_of v q l) (agent_at v q))) (sym s))

pub begun_none : (v : Trace) (q : ℕ) (row : Row) → None ≡ cond (line_at ADS v q) (Some row) None → None ≡ asking_at v q
begun_none v q row e = by_ads (line_at ADS v q) refl e
  where
    by_ads : (b : Bool) → line_at ADS v q ≡ b → None ≡ cond b (Some row) None → None ≡ asking_at v q
    by_ads true t f = absurd (let no : ⊥ = cc in no)
    by_ads false t f = sym (no_asking v q t)
