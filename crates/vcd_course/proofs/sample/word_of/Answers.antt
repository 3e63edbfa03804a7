use Rattle.std.proofs.Common.{refl}
use Rattle.fsb_signal.proofs.Interface.{same_word}
use Rattle.vcd_grammar.specs.Levels.{bits_without}
use Rattle.vcd_grammar.specs.LevelFacts.{without-apart}
use Rattle.vcd_course.proofs.sample.word_of.Goals as goal

pub invariant_of-result : goal.invariant_of-result
unfolding bits_without
invariant_of-result c = record { disjoint = without-apart c.args.asserted c.args.unknown }

pub returns : goal.returns
unfolding bits_without
returns c = same_word _ _ refl refl
