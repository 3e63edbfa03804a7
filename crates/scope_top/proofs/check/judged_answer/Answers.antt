use Rattle.std.proofs.Common.{◌≡◌, ◌∙◌, List, ℕ, Result, Ok, Err, IfErr, IsTrue, ap, arith, refl, subst, sym}
use Rattle.std.specs.Result.{is_err}
use Rattle.std.specs.Prelude.{false}
use Rattle.scope_report.specs.declared.ending.Ending.{Ending}
use Rattle.scope_top.specs.Performing.{EndsStopped}
use Rattle.scope_top.specs.Viewing.{Files, IsUncopied, MayStop, ShowsFinding}
use Rattle.scope_top.proofs.Viewing.{err-weaker, may-stop, ok-shown, rose-since, shows-same}
use Rattle.scope_top.proofs.check.judged_answer.Goals as goal

pub returns-in_ok-unviewed-in-Err-clause-ends : goal.returns-in_ok-unviewed-in-Err-clause-ends
returns-in_ok-unviewed-in-Err-clause-ends g c = λ tells save_tells cut_tells. record {
  answer = Err c.in-Err.stop;
  is_checked = c.in-Err.ensures.checked tells;
  ends = subst (λ (e : Ending). EndsStopped c.in-Err.stop e) (sym c.in_ok-unviewed-in-Err.ensures.0)
      c.in_ok-answer-in-Err.ensures.ends;
  shows = λ no. (refl, refl);
}

pub returns-in_ok-viewed_as-in-Ok-clause-ends : goal.returns-in_ok-viewed_as-in-Ok-clause-ends
returns-in_ok-viewed_as-in-Ok-clause-ends g c = λ tells save_tells cut_tells.
    let a = c.args in
    let dumped = g.S.Source.holds a.dump.now in
    let checked = c.in-Ok.checked in
    let files : Files = record {
      save_old = g.V.Sink.holds a.save.now;
      save_new = g.V.Sink.holds c.show_found-shown.new.save;
      cut_old = g.C.Sink.holds a.cut.now;
      cut_new = g.C.Sink.holds c.show_found-shown.new.cut;
    } in
    let held : g.S.Source.holds c.tried_answer.new.dump ≡ dumped =
    c.in_ok-answer-in-Ok.ensures.holds_stays tells ∙ c.in-Ok.ensures.holds_stays tells in
    let same = c.in_ok-same.same in
    record {
      answer = Ok checked;
      is_checked = c.in-Ok.ensures.checked tells;
      ends = c.in_ok-viewed_as-in-Ok.ensures.0 ∙ c.in_ok-answer-in-Ok.ensures.ending;
      shows = λ no. shows-same a.choice.now same a.sampling dumped c.in_ok-same.ensures a.views a.name.now checked.header checked.finding
          files
          (subst (λ (x : List ℕ). ShowsFinding a.views a.choice.now same x a.name.now checked.header checked.finding files) held
          (ok-shown c.show_found-shown.result (c.show_found-shown.ensures.shown tells save_tells cut_tells)
          (ap (λ r. is_err r) (sym c.in_ok-viewed_as-in-Ok.ensures.1) ∙ no)));
    }

pub returns-in_ok-viewed_as-in-Ok-clause-shown : goal.returns-in_ok-viewed_as-in-Ok-clause-shown
returns-in_ok-viewed_as-in-Ok-clause-shown g c =
    let a = c.args in
    rw c.in_ok-viewed_as-in-Ok.ensures.1
    (err-weaker _ _ c.show_found-shown.result
    (λ stop m. may-stop _ _ _ _ _ _ _ _ stop
    (λ rose. rose-since _ _ _ (omega (arith, c.in-Ok.ensures.later, c.in_ok-answer-in-Ok.ensures.later)) rose)
    (λ s. s) (λ u. u)
    (λ u tells held. subst (λ (x : List ℕ). IsUncopied x)
    (c.in_ok-answer-in-Ok.ensures.holds_stays tells ∙ c.in-Ok.ensures.holds_stays tells) (u tells held)) m)
    c.show_found-shown.ensures.stop)
