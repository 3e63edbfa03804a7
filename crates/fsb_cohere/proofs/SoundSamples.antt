-- A sample with which no phase rule is broken.
use Rattle.std.proofs.Common.{ℕ, ◌<◌, ◌≡◌, length, List, [], ◌∷◌, ◌++◌, Option, Some, None}
use Rattle.std.proofs.Common.{refl, sym, ◌∙◌}
use Rattle.fsb_signal.specs.declared.marks.Marks.{Marks}
use Rattle.fsb_signal.specs.declared.sample.Sample.{Sample}
use Rattle.fsb_trace.specs.At.{Trace}
use Rattle.fsb_trace.specs.Verdict.{verdict}
use Rattle.fsb_trace.proofs.Interface.{verdict-least, verdict-stays}
use Rattle.fsb_laws.proofs.Interface.{one_more}
use Rattle.fsb_owner_laws.proofs.Sound.{sound_orderly}
use Rattle.fsb_cohere.specs.Cohere.{KeepsOrder}

-- no rule was broken before
sound_before : (m : Marks) (h : Trace) (x : Sample) (o : Option (ℕ × ℕ)) → verdict m (h ++ x ∷ []) ≡ None → verdict m h ≡ o
    → verdict m h ≡ None
sound_before m h x None e f = f
sound_before m h x (Some p) e f =
    let stays = verdict-stays (length h) m h (h ++ x ∷ []) p.0 p.1 (one_more h x).agree (verdict-least m h p.0 p.1 f).0 f in
    let no : ⊥ = cc in absurd no

pub keeps_order : (m : Marks) (h : Trace) (x : Sample) → verdict m (h ++ x ∷ []) ≡ None → KeepsOrder h x
keeps_order m h x e = record {
  before = sound_orderly m h (sound_before m h x (verdict m h) e refl);
  after = sound_orderly m (h ++ x ∷ []) e;
}
