-- What is remembered with one more event.
use Rattle.std.proofs.Common.{◌≡◌, ◌++◌, ◌∷◌, [], List, sym, subst}
use Rattle.fsb_signal.specs.declared.marks.Marks.{Marks}
use Rattle.vcd_way.specs.Events.{DumpEvent}
use Rattle.scope_check.specs.declared.finding.Judged.{Judged}
use Rattle.scope_check.specs.declared.part.Part.{Part}
use Rattle.scope_check.specs.Findings.{IsFoundIn}
use Rattle.scope_parts.specs.declared.latest.Latest.{Latest}
use Rattle.scope_parts.specs.Standing.{Remembers, but_last}
use Rattle.scope_parts.proofs.Lists.{but_last-snoc}

pub remembers_more : (l k : Latest) (p : Part) (m : Marks) (es : List DumpEvent) (e : DumpEvent) → Remembers l p m es
    → IsFoundIn k.found p m (es ++ e ∷ []) → k.before ≡ l.found
    → Remembers k p m (es ++ e ∷ [])
remembers_more l k p m es e r found before = record {
  found = found;
  before = subst (λ (f : Judged). IsFoundIn f p m (but_last (es ++ e ∷ []))) (sym before)
      (subst (λ xs. IsFoundIn l.found p m xs) (sym (but_last-snoc es e)) r.found);
}
