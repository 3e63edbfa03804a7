-- A clock of which the facts are known keeps the tie of the line.
use Rattle.fsb_coherent.proofs.Words
use Words.{ℕ, ◌+◌, ◌++◌, List, sym, subst, Ordered, Valued, Event, MemoryLine, MayRun, run, ordered_run, Past}
use Words.{ClockFacts, KeepsTie, events_at, Tied, events_before_snoop, events_from_snoop}
use Rattle.fsb_coherent.proofs.Clocks.{MayRun-append, run-append}
use Rattle.fsb_coherent.proofs.FirstEvents.{first-events}
use Rattle.fsb_coherent.proofs.FromSnoop.{from-snoop}
use Rattle.fsb_coherent.proofs.SameEvents.{events-in-two}

-- these events may happen, and the line after them is that of the run one clock on
abbrev KeepsTieBy : Past → ℕ → ℕ → MemoryLine → List Event → Type 0
KeepsTieBy p line n x es = MayRun x es × Tied p line (n + 1) (run x es)

keeps-by : (p : Past) (line n : ℕ) (x : MemoryLine) → ClockFacts p line n → Ordered x → Valued x → Tied p line n x
    → KeepsTieBy p line n x (events_at p line n)
keeps-by p line n x facts ordered valued tied =
    let before : List Event = events_before_snoop p line n in
    let from : List Event = events_from_snoop p line n in
    let first = first-events p line n x facts valued tied in
    let last = from-snoop p line n (run x before) facts (ordered_run x before ordered first.0) first.1 in
    let whole : KeepsTieBy p line n x (before ++ from) = (
      MayRun-append x before from first.0 last.0,
      subst (Tied p line (n + 1)) (sym (run-append x before from)) last.1,
    ) in
    subst (KeepsTieBy p line n x) (sym (events-in-two p line n facts.goes_on facts.begins)) whole

pub facts-keep-ties : (p : Past) (line n : ℕ) → ClockFacts p line n → KeepsTie p line n
facts-keep-ties p line n facts = record {
  may = λ x ordered valued tied. (keeps-by p line n x facts ordered valued tied).0;
  tied = λ x ordered valued tied. (keeps-by p line n x facts ordered valued tied).1;
}
