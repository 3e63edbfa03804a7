use Rattle.std.proofs.Common.{refl, sym, ap, map, subst, ◌∙◌}
use Rattle.vcd_header.specs.Gathering.{FitsRules}
use Rattle.scope_way.specs.Variables.{shown_from}
use Rattle.scope_watch.proofs.Headers.{open-reader, header-end, past-end}
use Rattle.scope_watch.proofs.begin.at_end.Goals as goal

pub finish-requires-clause-open : goal.finish-requires-clause-open
finish-requires-clause-open c = open-reader c.args.reader.now c.requires.0 c.requires.1

pub returns-clause-ended : goal.returns-clause-ended
returns-clause-ended c = λ fed o. record {
  cutter = c.in_ok-cutter.ensures;
  rest = c.new-2.ensures.items;
  taken = refl;
  header = λ m f.
      let fits = subst (λ x. FitsRules m x) (sym o.holds.rules) f in
      header-end m fed (o.early m f) (past-end m fed (c.in-Ok.ensures.answer m fed fits o.holds.stands o.holds.fresh));
  shows = λ m f.
      let fits = subst (λ x. FitsRules m x) (sym o.holds.rules) f in
      let told = c.in-Ok.ensures.declared m fed fits o.holds.stands in
      record {
        variables = c.in_ok-header.ensures.variables ∙ ap (λ s. map shown_from s.header) told;
        remarks = c.in_ok-header.ensures.remarks ∙ ap (λ s. s.remarks) told;
      };
}
