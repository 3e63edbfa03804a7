use Rattle.std.proofs.Common.{◌≡◌, ◌+◌, ◌-◌, ◌∷◌, drop, get_or, map, sym, ap, subst, ◌∙◌, arith}
use Rattle.std.proofs.lemmas.List.{drop_more}
use Rattle.std.proofs.Math.Seq.{drop-length}
use Rattle.fsb_signal.specs.Table.{table}
use Rattle.vcd_grammar.specs.Levels.{level_of}
use Rattle.vcd_way.specs.Events.{sampled}
use Rattle.vcd_course.specs.Told.{rows_told}
use Rattle.vcd_course.proofs.RowFacts.{length_values, length_sampled}
use Rattle.vcd_course.proofs.lines.Rows.levels_with.Goals as goal

pub loop-left-init : goal.loop-left-init
loop-left-init c =
    let late = c.args.late.now in
    let before = rows_told c.args.self.now in
    let after = rows_told c.args.after.now in
    record {
      within = omega arith;
      levels = c.args.self.now.says ∙ ap (λ l. map level_of (sampled l before after)) (sym (drop-length late));
    }

pub loop-left-preserved : goal.loop-left-preserved
loop-left-preserved c =
    let late = c.args.late.now in
    let self = c.args.self.now in
    let other = c.args.after.now in
    let before = rows_told self in
    let after = rows_told other in
    let inv = c.loop-left.invariant in
    let k = c.loop-left.left - 1 in
    let n = get_or late k 0 in
    let next : k + 1 ≡ c.loop-left.left = omega arith in
    let rest = sampled (drop c.loop-left.left late) before after in
    record {
      within = omega (arith, inv.within);
      levels = c.copy_level.ensures rest after inv.levels other.says
          (length_sampled (drop c.loop-left.left late) before after ∙ length_values table self.rows self.long)
          (length_values table other.rows other.long)
          ∙ sym (ap (λ l. map level_of (sampled l before after))
          (drop_more late k 0 (omega (arith, inv.within)) ∙ ap (λ j. n ∷ drop j late) next));
    }

pub returns : goal.returns
returns c =
    let late = c.args.late.now in
    let before = rows_told c.args.self.now in
    let after = rows_told c.args.after.now in
    let none : c.loop-left.left ≡ 0 = omega arith in
    subst (λ k. c.loop-left.levels ≡ map level_of (sampled (drop k late) before after)) none
    c.loop-left.invariant.levels
