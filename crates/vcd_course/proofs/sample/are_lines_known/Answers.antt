use Rattle.std.proofs.Common.{◌≡◌}
use Rattle.std.proofs.lemmas.Bool.{eqb-true}
use Rattle.vcd_grammar.specs.Levels.{unknown_at}
use Rattle.vcd_course.proofs.Known.{some_of, none_set}
use Rattle.vcd_course.proofs.sample.are_lines_known.Goals as goal

pub returns : goal.returns
returns c = λ test.
    let none : some_of (unknown_at c.args.levels.now) ≡ 0 = cc (eqb-true _ _ test) in
    none_set (unknown_at c.args.levels.now) none
