-- A pass, one sample on.
use Rattle.std.proofs.Common.{ℕ, ◌+◌, ◌-◌, ◌≡◌, true, false, length, List, [], ◌∷◌, ◌++◌}
use Rattle.std.proofs.Common.{sym, ap, ◌∙◌, arith, subst}
use Rattle.std.proofs.lemmas.Bool.{both_ways}
use Rattle.fsb_signal.specs.declared.sample.Sample.{Sample}
use Rattle.fsb_trace.specs.At.{Trace}
use Rattle.fsb_laws.proofs.Interface.{one_more}
use Rattle.fsb_owners.specs.Joint.{Joint}
use Rattle.fsb_owner_table.specs.declared.row.Row.{Row}
use Rattle.fsb_owner_table.specs.Kept.{rows_of}
use Rattle.fsb_owner_rows.specs.Kept.{AreKeptAt}
use Rattle.fsb_owner_rows.specs.OfRow.{is_named_line}
use Rattle.fsb_owner_feed.specs.Table.{ComesNext as TakesNext, Stands as TableStands}
use Rattle.fsb_owner_judge.specs.declared.judge.OwnerJudge.{OwnerJudge}
use Rattle.fsb_owner_judge.specs.declared.sights.Waiting.{Waiting}
use Rattle.fsb_owner_judge.specs.Judge.{Stands as JudgeStands, has_lacked_memory}
use Rattle.fsb_owner_judge.specs.Lines.{ShowWaits, is_waiting}
use Rattle.fsb_cohere.specs.declared.cohere.Coherence.{Coherence}
use Rattle.fsb_cohere.specs.Cohere.{KeepsOrder, IsOneOn, ShowsWaits, Stands}
use Rattle.fsb_cohere.proofs.Showing.{before_last, last}

pub takes : (pass : Coherence) (first : List Joint) (h : Trace) (x : Sample) → Stands pass first h → pass.lacks_memory ≡ false
    → KeepsOrder h x → TakesNext pass.table x h
takes pass first h x s r n = record { stands = s.table r; before = n.before; after = n.after }

pub next : (pass : Coherence) (first : List Joint) (h : Trace) (x : Sample) (rows : List Row) → Stands pass first h
    → pass.lacks_memory ≡ false → KeepsOrder h x → rows ≡ rows_of (h ++ x ∷ []) → IsOneOn first h x (h ++ x ∷ []) rows pass.judge
next pass first h x rows s r n k = record {
  more = one_more h x;
  before = n.before;
  after = n.after;
  kept = k;
  stands = s.judge r;
  room = s.room r;
}

-- what is listed is what the agents wait for at the clock before
pub waits_shown : {first : List Joint} {h : Trace} {x : Sample} {v : Trace} {rows : List Row} {judge : OwnerJudge}
    → IsOneOn first h x v rows judge → (waits : List Waiting) (before clock : ℕ) → clock ≡ length h → before ≡ clock - 1
    → ((line : ℕ) → is_waiting waits line ≡ is_named_line rows line)
    → ((w : Trace) → AreKeptAt rows w before → AreKeptAt rows w clock → clock ≡ before + 1 → ShowWaits w before waits)
    → ShowsWaits v rows (length h) waits
waits_shown {first} {h} {x} {v} {rows} {judge} g waits before clock e b l s = record {
  lines = l;
  shown = λ z.
      let at : before ≡ length h - 1 = b ∙ ap (λ n. n - 1) e in
      subst (λ n. ShowWaits v n waits) at
      (s v (subst (AreKeptAt rows v) (sym at) (before_last g z)) (subst (AreKeptAt rows v) (sym e) (last g))
      (omega (arith, e, at, z)));
}

pub passed : (pass : Coherence) (first : List Joint) (v : Trace) → TableStands pass.table v → JudgeStands pass.judge first v
    → has_lacked_memory pass.judge ≡ false → Stands pass first v
passed pass first v t j r = record { table = λ _. t; judge = λ _. j; room = λ _. r }

-- where memory was lacking a pass stands for anything
pub lacking : (pass : Coherence) (first : List Joint) (v : Trace) → pass.lacks_memory ≡ true → Stands pass first v
lacking pass first v t = record {
  table = λ f. absurd (both_ways pass.lacks_memory f t);
  judge = λ f. absurd (both_ways pass.lacks_memory f t);
  room = λ f. absurd (both_ways pass.lacks_memory f t);
}
