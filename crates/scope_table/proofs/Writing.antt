-- What a watcher that writes has written, after one more event.
use Rattle.std.proofs.Common.{Bool, ◌≡◌, ◌∙◌, ap, ℕ, ◌<◌, ◌≤◌, ◌++◌, ◌∷◌, [], List, Result, Ok, Err, IsTrue, OnOk, length, append-nil, length-append, arith, subst, sym, refl}
use Rattle.fsb_io.specs.Faults.{Rose}
use Rattle.fsb_signal.specs.declared.marks.Marks.{Marks}
use Rattle.fsb_signal.specs.declared.sample.Sample.{Sample}
use Rattle.fsb_trace.specs.At.{Trace}
use Rattle.row_texts.specs.declared.line.Form.{Form}
use Rattle.row_texts.specs.Lines.{head_text}
use Rattle.request_lines.specs.declared.lines.RequestLines.{RequestLines}
use Rattle.request_lines.specs.Standing.{Stands}
use Rattle.request_lines.specs.Tables.{over_text}
use Rattle.request_lines.proofs.Sounds.{head-only}
use Rattle.vcd_way.specs.Events.{DumpEvent}
use Rattle.vcd_course.specs.declared.event.Stamp.{Stamp}
use Rattle.scope_check.specs.declared.part.Part.{Part}
use Rattle.scope_check.specs.declared.parting.Parting.{Parting}
use Rattle.scope_check.specs.Parting.{HasParted}
use Rattle.scope_table.specs.declared.tabler.Tabler.{Tabler}
use Rattle.scope_table.specs.Standing.{HasTabled, HasFailed, start_after}
use Rattle.scope_table.proofs.Starting.{none-came, started, goes-on, same-lines}

module _ {D : Type 0} (tells : Bool) (holds : D → List ℕ) (faults : D → ℕ) where
  -- before the first event
  pub none-written : (first : Tabler D RequestLines) (form : Form) (m : Marks) (p : Part) → first.form ≡ form → first.marks ≡ m
      → first.part ≡ p → first.start ≡ 0 → HasParted first.parting p [] [] → Stands first.lines form m []
      → HasTabled tells holds faults first first []
  none-written first form m p e f q zero parted stands =
      let here : HasParted first.parting first.part [] [] = subst (λ x. HasParted first.parting x [] []) (sym q) parted in
      record {
        same = refl;
        samples = [];
        parted = here;
        start = none-came here first.start zero;
        stands = subst (λ x. Stands first.lines x first.marks []) (sym e) (subst (λ x. Stands first.lines form x []) (sym f) stands);
        later = omega arith;
        text = λ t begun h. h ∙ ap (λ x. begun ++ x) (sym (head-only first.form first.start first.marks));
      }

  -- an event that is no clock of the part
  pub none-more : (first old : Tabler D RequestLines) (es : List DumpEvent) (e : DumpEvent) (g : Parting) (start : ℕ)
      → (s : HasTabled tells holds faults first old es) → HasParted g first.part (es ++ e ∷ []) (s.samples ++ [])
      → start ≡ start_after old.start (length s.samples) e
      → HasTabled tells holds faults first (record old { parting = g; start = start }) (es ++ e ∷ [])
  none-more first old es e g start s parted after =
      let here : HasParted g first.part (es ++ e ∷ []) s.samples =
      subst (λ (w : List Sample). HasParted g first.part (es ++ e ∷ []) w) (append-nil s.samples) parted in
      record {
        same = s.same;
        samples = s.samples;
        parted = here;
        start = started s.parted e here old.start start s.start after;
        stands = s.stands;
        later = s.later;
        text = λ t begun h. s.text t begun h
            ∙ ap (λ x. begun ++ x) (same-lines first.form old.start start first.marks e s.samples after);
      }

  -- a clock of it
  pub one-more : (first old new : Tabler D RequestLines) (es : List DumpEvent) (e : DumpEvent) (x : Sample)
      → (s : HasTabled tells holds faults first old es) → HasParted new.parting first.part (es ++ e ∷ []) (s.samples ++ x ∷ [])
      → new.sink.ghost_name ≡ old.sink.ghost_name → new.start ≡ old.start
      → Stands new.lines first.form first.marks (s.samples ++ x ∷ []) → faults old.sink.now ≤ faults new.sink.now
      → (IsTrue tells → (begun : List ℕ) → holds old.sink.now ≡ begun ++ over_text first.form old.start first.marks s.samples
      → holds new.sink.now ≡ begun ++ over_text first.form old.start first.marks (s.samples ++ x ∷ []))
      → HasTabled tells holds faults first new (es ++ e ∷ [])
  one-more first old new es e x s parted same start stands later text = record {
    same = same ∙ s.same;
    samples = s.samples ++ x ∷ [];
    parted = parted;
    start = goes-on s.parted e x parted new.start (start ∙ s.start);
    stands = stands;
    later = omega (arith, later, s.later);
    text = λ t begun h. text t begun (s.text t begun h)
        ∙ ap (λ n. begun ++ over_text first.form n first.marks (s.samples ++ x ∷ [])) (sym start);
  }

  rose-later : (before now after : ℕ) → before ≤ now → Rose now after → Rose before after
  rose-later before now after h r = omega (arith, h, r)

  -- a clock that the sink did not take
  pub failed-there : (first old new : Tabler D RequestLines) (es : List DumpEvent) → (s : HasTabled tells holds faults first old es)
      → new.sink.ghost_name ≡ old.sink.ghost_name → Rose (faults old.sink.now) (faults new.sink.now)
      → HasFailed faults first new
  failed-there first old new es s same rose =
      record { same = same ∙ s.same; rose = rose-later _ _ _ s.later rose }

  -- the same of the sink that was lent: before it was it had failed so often
  pub rose-back : (first last : Tabler D RequestLines) (out mid end : D) → first.sink.now ≡ mid → faults out ≤ faults mid
      → HasFailed faults first last → (last.sink.ghost_name ≡ first.sink.ghost_name → end ≡ last.sink.now)
      → Rose (faults out) (faults end)
  rose-back first last out mid end m before h same =
      subst (λ x. Rose (faults out) (faults x)) (sym (same h.same))
      (rose-later (faults out) (faults first.sink.now) (faults last.sink.now)
      (subst (λ x. faults out ≤ faults x) (sym m) before) h.rose)

  -- and where it failed as the last lines were put
  pub rose-last : (first last now : Tabler D RequestLines) (out mid end : D) (es : List DumpEvent) → first.sink.now ≡ mid
      → faults out ≤ faults mid → (s : HasTabled tells holds faults first last es)
      → now.sink.ghost_name ≡ last.sink.ghost_name → Rose (faults last.sink.now) (faults now.sink.now)
      → (now.sink.ghost_name ≡ first.sink.ghost_name → end ≡ now.sink.now) → Rose (faults out) (faults end)
  rose-last first last now out mid end es m before s same rose back =
      rose-back first now out mid end m before (failed-there first last now es s same rose) back

  -- what a clock that was put, or was not, makes of it
  pub more-put : {T E : Type 0} (r : Result T E) (old new : Tabler D RequestLines) (e : DumpEvent) (x : Sample) (g : Parting)
      → ((first : Tabler D RequestLines) (es : List DumpEvent) (s : HasTabled tells holds faults first old es)
      → HasParted g first.part (es ++ e ∷ []) (s.samples ++ x ∷ []))
      → new.sink.ghost_name ≡ old.sink.ghost_name → new.parting ≡ g → new.start ≡ old.start
      → OnOk r ((form : Form) (m : Marks) (w : Trace) → Stands old.lines form m w → Stands new.lines form m (w ++ x ∷ []))
      → faults old.sink.now ≤ faults new.sink.now
      → (IsTrue tells → OnOk r ((form : Form) (m : Marks) (w : Trace) (begun : List ℕ) → Stands old.lines form m w
      → holds old.sink.now ≡ begun ++ over_text form old.start m w
      → holds new.sink.now ≡ begun ++ over_text form old.start m (w ++ x ∷ [])))
      → OnOk r ((first : Tabler D RequestLines) (es : List DumpEvent) → HasTabled tells holds faults first old es
      → HasTabled tells holds faults first new (es ++ e ∷ []))
  more-put (Ok t) old new e x g parted same parting start stands later text = λ first es s.
      one-more first old new es e x s
      (subst (λ y. HasParted y first.part (es ++ e ∷ []) (s.samples ++ x ∷ [])) (sym parting) (parted first es s)) same start
      (stands first.form first.marks s.samples s.stands) later
      (λ told begun h. text told first.form first.marks s.samples begun s.stands h)
  more-put (Err f) old new e x g parted same parting start stands later text = tt

-- ---- how many events there are

pub many-behind : (n : ℕ) (es more : List DumpEvent) → n ≤ length es → n ≤ length (es ++ more)
many-behind n es more few = omega (arith, few, length-append es more)

-- the same part, where the machine is the same
pub parted-as : {g h : Parting} {p : Part} {es : List DumpEvent} {w : List Sample} → h ≡ g → HasParted g p es w
    → HasParted h p es w
parted-as {g} {h} {p} {es} {w} e s = subst (λ x. HasParted x p es w) (sym e) s
