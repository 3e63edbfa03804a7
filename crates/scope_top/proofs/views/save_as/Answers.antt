use Rattle.std.proofs.Common.{◌≡◌, ◌∙◌, ap}
use Rattle.scope_save.specs.SaveText.{save_text}
use Rattle.scope_time.specs.Scales.{scale_of}
use Rattle.scope_top.specs.Viewing.{mark_at}
use Rattle.scope_top.proofs.views.save_as.Goals as goal

pub returns-in-Ok-clause-saved : goal.returns-in-Ok-clause-saved
returns-in-Ok-clause-saved g c = λ tells held.
    let a = c.args in
    let before = c.in_ok-before.before in
    let h = a.header.now in
    let w = a.wiring.now in
    record {
      before = before;
      again = c.in_ok-again.again;
      same = c.in_ok-again.ensures;
      is_before = c.in_ok-before.ensures.before tells;
      text = c.in-Ok.ensures.whole held
          ∙ c.deref-4.ensures.value
          ∙ c.in_ok-text.ensures
          ∙ ap (λ vs. save_text a.name.now vs c.deref-3.result.now c.mark_at-mark.result) c.deref-2.ensures.value
          ∙ ap (λ ws. save_text a.name.now h.variables.items ws c.mark_at-mark.result) c.deref-3.ensures.value
          ∙ ap (λ m. save_text a.name.now h.variables.items w.wires.items m)
          (c.mark_at-mark.ensures ∙ ap (mark_at a.broken before) (c.in_ok-scale.ensures ∙ ap scale_of c.deref.ensures.value));
    }
