-- For which traces a pass stands.
use Rattle.std.specs.Prelude.{◌≡◌, ℕ, ◌-◌, ◌<◌, max, Bool, false, List, [], ◌∷◌, ◌++◌}
use Rattle.fsb_signal.specs.declared.sample.Sample.{Sample}
use Rattle.fsb_trace.specs.At.{Trace}
use Rattle.fsb_laws.specs.OneMore.{OneMore}
use Rattle.fsb_laws.specs.Orderly.{Orderly}
use Rattle.fsb_owners.specs.Joint.{Joint}
use Rattle.fsb_owner_table.specs.declared.row.Row.{Row}
use Rattle.fsb_owner_table.specs.Kept.{rows_of}
use Rattle.fsb_owner_feed.specs.Table.{Stands as TableStands, fed as fed_table}
use Rattle.fsb_owner_rows.specs.OfRow.{is_named_line}
use Rattle.fsb_owner_judge.specs.declared.judge.OwnerJudge.{OwnerJudge}
use Rattle.fsb_owner_judge.specs.declared.sights.Waiting.{Waiting}
use Rattle.fsb_owner_judge.specs.Judge.{Stands as JudgeStands, has_lacked_memory, taken}
use Rattle.fsb_owner_judge.specs.Lines.{ShowWaits, is_waiting}
use Rattle.fsb_cohere.specs.declared.cohere.Coherence.{Coherence}

-- memory was lacking in a call
abbrev pub lacks_memory : Coherence → Bool
lacks_memory pass = pass.lacks_memory

-- how many samples it was fed, by its table or by its judge
abbrev pub fed : Coherence → ℕ
fed pass = max (fed_table pass.table) (taken pass.judge)

-- h and the samples up to x keep the distance of requests and the time of responses, as a trace does that breaks no phase rule
pub record KeepsOrder (h : Trace) (x : Sample) : Type 0 where
  pub before : Orderly h
  pub after : Orderly (h ++ x ∷ [])

-- v is h and then the sample x, and the judge stands for h; the rows are those that are kept of v
pub record IsOneOn (first : List Joint) (h : Trace) (x : Sample) (v : Trace) (rows : List Row) (judge : OwnerJudge) : Type 0 where
  pub more : OneMore h x v
  pub before : Orderly h
  pub after : Orderly v
  pub kept : rows ≡ rows_of v
  pub stands : JudgeStands judge first h
  pub room : has_lacked_memory judge ≡ false

-- these are the lines that the rows name, with what the agents wait for at the clock before n
pub record ShowsWaits (v : Trace) (rows : List Row) (n : ℕ) (waits : List Waiting) : Type 0 where
  pub lines : (line : ℕ) → is_waiting waits line ≡ is_named_line rows line
  pub shown : 0 < n → ShowWaits v (n - 1) waits

-- the pass began with these joint states and was fed this trace, unless memory was lacking
pub record Stands (pass : Coherence) (first : List Joint) (h : Trace) : Type 0 where
  pub table : lacks_memory pass ≡ false → TableStands pass.table h
  pub judge : lacks_memory pass ≡ false → JudgeStands pass.judge first h
  pub room : lacks_memory pass ≡ false → has_lacked_memory pass.judge ≡ false
