use Rattle.std.proofs.Common.{◌≡◌, Err, Ok, ap, refl, subst}
use Rattle.scope_check.specs.declared.part.Part.{Part}
use Rattle.scope_copy.specs.Copying.{IsCopied}
use Rattle.fsb_io.specs.Faults.{Rose}
use Rattle.scope_top.specs.Viewing.{IsUncopied, MayStop, uncut}
use Rattle.scope_top.proofs.Viewing.{uncut-stop}
use Rattle.scope_top.proofs.views.copy_around.Goals as goal

pub returns-in-Ok-clause-cut : goal.returns-in-Ok-clause-cut
returns-in-Ok-clause-cut g c = λ tells held. record {
  copied = c.in-Ok._copied;
  is_copied = subst (λ (p : Part). IsCopied (Ok c.in-Ok._copied) c.args.choice.now p c.args.again
      (g.S.Source.holds c.args.dump.now) (g.C.Sink.holds c.args.cut.now) (g.C.Sink.holds c.copy_dump.new.out))
      c.part_around-part.ensures (c.in-Ok.ensures.copied tells held);
}

pub returns-in-Err-clause-stop : goal.returns-in-Err-clause-stop
returns-in-Err-clause-stop g c =
    rw c.uncut.ensures
    (uncut-stop _ _ _ _ _ (g.S.Source.holds c.args.dump.now) c.args.choice.now c.part_around-part.result c.args.again
    (g.C.Sink.holds c.args.cut.now) (g.C.Sink.holds c.copy_dump.new.out) c.in-Err.stop
    (λ e. c.in-Err.ensures.read_fault (ap (λ s. Err s) e)) (λ e tells. c.in-Err.ensures.write_fault tells (ap (λ s. Err s) e))
    (λ tells held. c.in-Err.ensures.copied tells held))
