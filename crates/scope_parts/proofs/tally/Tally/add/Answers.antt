use Rattle.std.proofs.Common.{arith, ◌<◌, ◌∙◌, ◌+◌, ◌++◌, ap, sym, subst}
use Rattle.scope_check.specs.declared.finding.Judged.{Judged}
use Rattle.scope_parts.specs.declared.finding.End.{End}
use Rattle.scope_check.specs.Bounds.{most_counted}
use Rattle.scope_parts.specs.Segments.{clocks_in, parts_in, told_if_judged}
use Rattle.scope_parts.specs.Standing.{Keeps}
use Rattle.scope_parts.proofs.Tallies.{tallies_more}
use Rattle.scope_check.proofs.Interface.{if-err}
use Rattle.scope_parts.proofs.Clocks.{parts-judged}
use Rattle.scope_parts.proofs.tally.Tally.add.Goals as goal

pub returns-clause-tallies : goal.returns-clause-tallies
returns-clause-tallies c ss s h found end size =
    let t = c.args.self.now in
    let kept = c.keep_if_judged.new.kept in
    tallies_more t (record { clocks = c.in_ok-more.more; judged = c.in_ok-judged.judged; kept = kept }) ss s
    c.args.clocks h size c.in_ok-more.ensures.sum
    (c.in_ok-judged.ensures.sum ∙ ap (λ n. t.judged + n) (c.from.ensures ∙ ap (λ (f : Judged). f.judged) (sym found)))
    (subst (λ (f : Judged). Keeps kept (parts_in ss ++ told_if_judged t.clocks f s.end)) (sym found)
    (subst (λ (e : End). Keeps kept (parts_in ss ++ told_if_judged t.clocks c.args.found.now e)) (sym end)
    (c.in_ok-keep_if_judged.ensures.keeps (parts_in ss) h.kept)))

pub returns-in_err-keep_if_judged-clause-many : goal.returns-in_err-keep_if_judged-clause-many
returns-in_err-keep_if_judged-clause-many c ss h few within =
    let is = h.clocks in
    let parts = parts-judged ss in
    let full = c.in_err-keep_if_judged.ensures.many (parts_in ss) c.args.clocks h.kept (omega (arith, is, parts, few)) within in
    let so : most_counted < clocks_in ss + c.args.clocks = omega (arith, full, is) in
    if-err _ so
