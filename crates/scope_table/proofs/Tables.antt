-- What is written of a dump, from what was read of it.
use Rattle.std.proofs.Common.{Bool, ◌≡◌, ◌∙◌, ℕ, ◌≤◌, ◌++◌, inl, inr, List, [], ◌∷◌, IsTrue, Some, Result, Ok, Err, length, option_map, sym, ap, subst, refl}
use Rattle.fsb_rules.specs.declared.broken.Broken.{Broken}
use Rattle.fsb_rules.specs.Checker.{as_broken}
use Rattle.fsb_signal.specs.declared.marks.Marks.{Marks}
use Rattle.fsb_signal.specs.declared.sample.Sample.{Sample}
use Rattle.fsb_trace.specs.At.{Trace}
use Rattle.fsb_trace.specs.Verdict.{verdict}
use Rattle.row_texts.specs.declared.line.Form.{Form}
use Rattle.row_texts.specs.Lines.{head_text}
use Rattle.request_lines.specs.declared.lines.RequestLines.{RequestLines}
use Rattle.request_lines.specs.Standing.{Stands}
use Rattle.request_lines.specs.Tables.{over_text, table_text}
use Rattle.vcd_way.specs.Declarations.{Declaration}
use Rattle.vcd_way.specs.Ways.{Way}
use Rattle.vcd_way.specs.Events.{DumpEvent, samples_among}
use Rattle.vcd_way.specs.Answers.{first_fault_by, events_by}
use Rattle.vcd_scan.specs.Ending.{early_told}
use Rattle.scope_wiring.specs.declared.wiring.Choice.{Choice}
use Rattle.scope_wiring.specs.declared.wiring.Wiring.{Wiring}
use Rattle.scope_way.specs.Wired.{wired_way}
use Rattle.scope_check.specs.declared.part.Part.{Part}
use Rattle.scope_check.specs.Bounds.{most_counted}
use Rattle.scope_check.specs.Parts.{clocks_of}
use Rattle.scope_watch.specs.declared.stop.ScopeStop.{ScopeStop}
use Rattle.scope_watch.specs.declared.stop.ScopeStop.TheVariants as stops
use Rattle.scope_watch.specs.declared.header.Header.{Header}
use Rattle.scope_watch.specs.declared.values.Ended.{Ended}
use Rattle.scope_watch.specs.declared.values.Sampling.{Sampling}
use Rattle.scope_watch.specs.Checking.{IsWiredBy}
use Rattle.scope_watch.specs.Heading.{IsHeaded}
use Rattle.scope_watch.specs.Watching.{rules_for, IsRead, IsWatched}
use Rattle.scope_table.specs.declared.answer.TabledPart.{TabledPart}
use Rattle.scope_table.specs.declared.tabler.Tabler.{Tabler}
use Rattle.scope_table.specs.Standing.{HasTabled, IsStopOfWriting}
use Rattle.scope_table.specs.Tabled.{IsTable, IsTableAs, IsTabled}

-- ---- what is put

pub put-stop : (stop : ScopeStop) (seen : List DumpEvent → Type 0) (p : Part) (form : Form) (m : Marks)
    (way : Way (List Declaration)) (text old new : List ℕ) → IsWatched (Err stop) seen most_counted way text
    → IsTableAs (Err stop) p form m way text old new
put-stop (stops.Bad fault) seen p form m way text old new h = h
put-stop stops.ReadFault seen p form m way text old new h = tt
put-stop stops.NoHeader seen p form m way text old new h = h
put-stop stops.TooLong seen p form m way text old new h = h
put-stop stops.TooMany seen p form m way text old new h = h
put-stop stops.WriteFault seen p form m way text old new h = tt
put-stop stops.Memory seen p form m way text old new h = tt

pub write-stop : (stop : ScopeStop) (p : Part) (form : Form) (m : Marks) (way : Way (List Declaration))
    (text old new : List ℕ) → IsStopOfWriting stop → IsTableAs (Err stop) p form m way text old new
write-stop (stops.Bad fault) p form m way text old new h = absurd h
write-stop stops.ReadFault p form m way text old new h = absurd h
write-stop stops.NoHeader p form m way text old new h = absurd h
write-stop stops.TooLong p form m way text old new h = absurd h
write-stop stops.TooMany p form m way text old new h = absurd h
write-stop stops.WriteFault p form m way text old new h = tt
write-stop stops.Memory p form m way text old new h = tt

-- an answer that is one stop is no other
abbrev pub answered : (X : Type 0) → ScopeStop → Result X ScopeStop
answered X stop = Err stop

pub same-stop : {X : Type 0} (a b : ScopeStop) → answered X a ≡ answered X b → a ≡ b
same-stop a b e = cc

module _ {D : Type 0} (tells : Bool) (holds : D → List ℕ) (faults : D → ℕ) where
  -- what a watcher that writes has put, where a whole text was read and the last lines were put
  pub put-whole : (first last now : Tabler D RequestLines) (out mid end : D) (told : TabledPart) (ended : Ended) (p : Part) (form : Form)
      (m : Marks) (way : Way (List Declaration)) (text : List ℕ) → first.part ≡ p → first.form ≡ form → first.marks ≡ m
      → first.sink.now ≡ mid → told.early_end ≡ ended.early_end
      → (r : IsRead ended (λ es. HasTabled tells holds faults first last es) way text)
      → told.start ≡ last.start → told.clocks ≡ length r.shown.samples
      → told.found ≡ as_broken (verdict first.marks r.shown.samples)
      → now.sink.ghost_name ≡ last.sink.ghost_name
      → (now.sink.ghost_name ≡ first.sink.ghost_name → end ≡ now.sink.now)
      → IsTrue tells → holds mid ≡ holds out ++ head_text form
      → ((begun : List ℕ) → holds last.sink.now ≡ begun ++ over_text first.form last.start first.marks r.shown.samples
      → holds now.sink.now ≡ begun ++ table_text first.form last.start first.marks r.shown.samples)
      → IsTable told p form m way text (holds out) (holds end)
  put-whole first last now out mid end told ended p form m way text e f k lent same_end r start clocks found same back t begun put =
      let s = r.shown in
      let header : holds first.sink.now ≡ holds out ++ head_text first.form =
      ap holds lent ∙ begun ∙ ap (λ x. holds out ++ head_text x) (sym f) in
      let written : holds end ≡ holds out ++ table_text first.form (clocks_of s.parted.before) first.marks (samples_among s.parted.part) =
      ap holds (back (same ∙ s.same)) ∙ put (holds out) (s.text t (holds out) header)
      ∙ ap (λ n. holds out ++ table_text first.form n first.marks s.samples) s.start
      ∙ ap (λ w. holds out ++ table_text first.form (clocks_of s.parted.before) first.marks w) s.parted.samples_are in
      let here : IsTable told first.part first.form first.marks way text (holds out) (holds end) = record {
        none = r.none;
        early_end = ap (λ x. option_map early_told x) same_end ∙ r.early_end;
        before = s.parted.before;
        part = s.parted.part;
        behind = s.parted.behind;
        parted = s.parted.parted;
        start = start ∙ s.start;
        clocks = clocks ∙ ap length s.parted.samples_are;
        found = found ∙ ap (λ w. as_broken (verdict first.marks w)) s.parted.samples_are;
        put = written;
      } in
      subst (λ q. IsTable told q form m way text (holds out) (holds end)) e
      (subst (λ x. IsTable told first.part x m way text (holds out) (holds end)) f
      (subst (λ x. IsTable told first.part first.form x way text (holds out) (holds end)) k here))

-- ---- the whole

-- the reading of a header has no fault of writing
pub no-write-fault : (stop : ScopeStop) (text left : List ℕ) → IsHeaded (Err stop) text left → stop ≡ stops.WriteFault → ⊥
no-write-fault stop text left h e = subst (λ x. IsHeaded (Err x) text left) e h

pub tabled-header : (stop : ScopeStop) (choice : Choice) (p : Part) (form : Form) (s : Sampling) (text left old new : List ℕ)
    → IsHeaded (Err stop) text left → IsTabled (Err stop) choice p form s text old new
tabled-header (stops.Bad fault) choice p form s text left old new h = inl h
tabled-header stops.ReadFault choice p form s text left old new h = tt
tabled-header stops.NoHeader choice p form s text left old new h = h
tabled-header stops.TooLong choice p form s text left old new h = h
tabled-header stops.TooMany choice p form s text left old new h = absurd h
tabled-header stops.WriteFault choice p form s text left old new h = tt
tabled-header stops.Memory choice p form s text left old new h = tt

pub tabled-values : (stop : ScopeStop) (choice : Choice) (p : Part) (form : Form) (s : Sampling) (h : Header) (w : Wiring)
    (m : Marks) (way : Way (List Declaration)) (text old new : List ℕ) → IsWiredBy choice s h w text
    → way ≡ wired_way w.wires.items (rules_for s) → IsTableAs (Err stop) p form m way text old new
    → IsTabled (Err stop) choice p form s text old new
tabled-values (stops.Bad fault) choice p form s h w m way text old new wired e f =
    inr (record {
      header = h;
      wiring = w;
      wired = wired;
      fault_is = subst (λ x. first_fault_by x text ≡ Some fault) e f;
    })
tabled-values stops.ReadFault choice p form s h w m way text old new wired e f = tt
tabled-values stops.NoHeader choice p form s h w m way text old new wired e f = absurd f
tabled-values stops.TooLong choice p form s h w m way text old new wired e f = (f, wired.declares.is_dump)
tabled-values stops.TooMany choice p form s h w m way text old new wired e f =
    record {
      header = h;
      wiring = w;
      wired = wired;
      many = subst (λ x. most_counted ≤ length (events_by x text)) e f;
    }
tabled-values stops.WriteFault choice p form s h w m way text old new wired e f = tt
tabled-values stops.Memory choice p form s h w m way text old new wired e f = tt

-- the same with the marks and the way of the wires
pub tabled-by : (told : TabledPart) (p : Part) (form : Form) (m known : Marks) (way wired : Way (List Declaration))
    (text old new : List ℕ) → m ≡ known → way ≡ wired → IsTable told p form m way text old new
    → IsTable told p form known wired text old new
tabled-by told p form m known way wired text old new e f h =
    subst (λ x. IsTable told p form known x text old new) f (subst (λ x. IsTable told p form x way text old new) e h)
