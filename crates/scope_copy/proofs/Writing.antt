-- What a watcher that writes has written, after one more event.
use Rattle.std.proofs.Common.{◌≡◌, ◌∙◌, ap, ℕ, ◌<◌, ◌≤◌, ◌^◌, ◌++◌, ◌∷◌, [], List, Bool, Result, Ok, Err, IsTrue, OnOk, length, append-nil, length-append, arith, subst, sym, refl}
use Rattle.std.proofs.lemmas.List.Elements.{All-nil, All-push}
use Rattle.fsb_io.specs.Faults.{Rose}
use Rattle.fsb_signal.specs.declared.sample.Sample.{Sample}
use Rattle.vcd_way.specs.Events.{DumpEvent}
use Rattle.scope_check.specs.declared.part.Part.{Part}
use Rattle.scope_check.specs.declared.parting.Parting.{Parting}
use Rattle.scope_check.specs.Parting.{HasParted}
use Rattle.scope_write.specs.declared.writer.DumpWriter.{DumpWriter}
use Rattle.scope_write.specs.Samples.{Has64Lines}
use Rattle.scope_write.specs.Standing.{Stands}
use Rattle.scope_write.specs.Text.{shown_dump}
use Rattle.scope_copy.specs.declared.copier.Copier.{Copier}
use Rattle.scope_copy.specs.Standing.{HasCopied, HasFailed}

module _ {D : Type 0} (tells : Bool) (holds : D → List ℕ) (faults : D → ℕ) where
  -- before the first event
  pub none-written : (first : Copier D) (writer : DumpWriter) (there : List Bool) (p : Part) → first.writer ≡ writer
      → first.there ≡ there → first.part ≡ p → HasParted first.parting p [] [] → Stands writer there []
      → HasCopied tells holds faults first first []
  none-written first writer there p e f q parted written = record {
    same = refl;
    samples = [];
    parted = subst (λ x. HasParted first.parting x [] []) (sym q) parted;
    written = subst (λ x. Stands x first.there []) (sym e) (subst (λ x. Stands writer x []) (sym f) written);
    within = All-nil Has64Lines;
    few = omega arith;
    later = omega arith;
    text = λ t begun h. h;
  }

  -- an event that is no clock of the part
  pub none-more : (first old : Copier D) (es : List DumpEvent) (e : DumpEvent) (g : Parting)
      → (s : HasCopied tells holds faults first old es) → HasParted g first.part (es ++ e ∷ []) (s.samples ++ [])
      → HasCopied tells holds faults first (record old { parting = g }) (es ++ e ∷ [])
  none-more first old es e g s parted = record {
    same = s.same;
    samples = s.samples;
    parted = subst (λ (w : List Sample). HasParted g first.part (es ++ e ∷ []) w) (append-nil s.samples) parted;
    written = s.written;
    within = s.within;
    few = s.few;
    later = s.later;
    text = s.text;
  }

  -- a clock of it
  pub one-more : (first old new : Copier D) (es : List DumpEvent) (e : DumpEvent) (x : Sample)
      → (s : HasCopied tells holds faults first old es) → HasParted new.parting first.part (es ++ e ∷ []) (s.samples ++ x ∷ [])
      → new.sink.ghost_name ≡ old.sink.ghost_name → length s.samples < 10 ^ 18 → Has64Lines x
      → Stands new.writer first.there (s.samples ++ x ∷ []) → faults old.sink.now ≤ faults new.sink.now
      → (IsTrue tells → (begun : List ℕ) → holds old.sink.now ≡ begun ++ shown_dump first.there s.samples
      → holds new.sink.now ≡ begun ++ shown_dump first.there (s.samples ++ x ∷ []))
      → HasCopied tells holds faults first new (es ++ e ∷ [])
  one-more first old new es e x s parted same room within written later text = record {
    same = same ∙ s.same;
    samples = s.samples ++ x ∷ [];
    parted = parted;
    written = written;
    within = All-push Has64Lines s.samples x s.within within;
    few = omega (arith, room, length-append s.samples (x ∷ []));
    later = omega (arith, later, s.later);
    text = λ t begun h. text t begun (s.text t begun h);
  }

  rose-later : (before now after : ℕ) → before ≤ now → Rose now after → Rose before after
  rose-later before now after h r = omega (arith, h, r)

  -- a clock that the sink did not take
  pub failed-there : (first old new : Copier D) (es : List DumpEvent) → (s : HasCopied tells holds faults first old es)
      → new.sink.ghost_name ≡ old.sink.ghost_name → Rose (faults old.sink.now) (faults new.sink.now)
      → HasFailed faults first new
  failed-there first old new es s same rose =
      record { same = same ∙ s.same; rose = rose-later _ _ _ s.later rose }

  -- the same of the sink that was lent: before it was it had failed so often
  pub rose-back : (first last : Copier D) (out mid end : D) → first.sink.now ≡ mid → faults out ≤ faults mid
      → HasFailed faults first last → (last.sink.ghost_name ≡ first.sink.ghost_name → end ≡ last.sink.now)
      → Rose (faults out) (faults end)
  rose-back first last out mid end m before h same =
      subst (λ x. Rose (faults out) (faults x)) (sym (same h.same))
      (rose-later (faults out) (faults first.sink.now) (faults last.sink.now)
      (subst (λ x. faults out ≤ faults x) (sym m) before) h.rose)

  -- what a clock that was put, or was not, makes of it
  pub more-put : {T E : Type 0} (r : Result T E) (old new : Copier D) (e : DumpEvent) (x : Sample) (g : Parting)
      → ((first : Copier D) (es : List DumpEvent) (s : HasCopied tells holds faults first old es)
      → HasParted g first.part (es ++ e ∷ []) (s.samples ++ x ∷ []))
      → new.sink.ghost_name ≡ old.sink.ghost_name → new.parting ≡ g → Has64Lines x
      → OnOk r ((there : List Bool) (w : List Sample) → Stands old.writer there w → length w < 10 ^ 18)
      → OnOk r ((there : List Bool) (w : List Sample) → Stands old.writer there w → Stands new.writer there (w ++ x ∷ []))
      → faults old.sink.now ≤ faults new.sink.now
      → (IsTrue tells → OnOk r ((there : List Bool) (w : List Sample) (begun : List ℕ) → Stands old.writer there w
      → holds old.sink.now ≡ begun ++ shown_dump there w → holds new.sink.now ≡ begun ++ shown_dump there (w ++ x ∷ [])))
      → OnOk r ((first : Copier D) (es : List DumpEvent) → HasCopied tells holds faults first old es
      → HasCopied tells holds faults first new (es ++ e ∷ []))
  more-put (Ok t) old new e x g parted same parting within few stands later text = λ first es s.
      one-more first old new es e x s
      (subst (λ y. HasParted y first.part (es ++ e ∷ []) (s.samples ++ x ∷ [])) (sym parting) (parted first es s)) same
      (few first.there s.samples s.written) within (stands first.there s.samples s.written) later
      (λ told begun h. text told first.there s.samples begun s.written h)
  more-put (Err f) old new e x g parted same parting within few stands later text = tt

-- ---- how many events there are

pub many-behind : (n : ℕ) (es more : List DumpEvent) → n ≤ length es → n ≤ length (es ++ more)
many-behind n es more few = omega (arith, few, length-append es more)
