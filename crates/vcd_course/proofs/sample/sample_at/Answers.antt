use Rattle.std.proofs.Common.{◌%◌, ◌^◌, ◌<◌, ◌∙◌, lit<}
use Rattle.std.proofs.Math.Nat.{mod-lt}
use Rattle.fsb_signal.proofs.Interface.{same_sample}
use Rattle.vcd_grammar.specs.Levels.{bits_without, asserted_at, unknown_at}
use Rattle.vcd_grammar.specs.LevelFacts.{without-apart, without-lt, control_of-lt}
use Rattle.vcd_grammar.specs.Values.{sample_at, word_of}
use Rattle.vcd_course.proofs.sample.sample_at.Goals as goal

pub invariant_of-result : goal.invariant_of-result
unfolding bits_without
invariant_of-result c =
    let levels = c.args.levels.now in
    let lines : c.asserted_lines-asserted.result < 2 ^ 21 =
    rw c.asserted_lines-asserted.ensures (control_of-lt (asserted_at levels)) in
    record {
      disjoint = without-apart c.asserted_lines-asserted.result c.unknown_lines-unknown.result;
      line_bits = without-lt 21 _ c.unknown_lines-unknown.result lines;
      line_unknown = rw c.unknown_lines-unknown.ensures (control_of-lt (unknown_at levels));
      req_bits = rw c.word_of-req.ensures (without-lt 5 _ _ (mod-lt c.asserted_at.result (lit< tt)));
      req_unknown = rw c.word_of-req.ensures (mod-lt c.unknown_at.result (lit< tt));
      addr_bits = rw c.word_of-addr.ensures (without-lt 33 _ _ (mod-lt c.asserted_at-2.result (lit< tt)));
      addr_unknown = rw c.word_of-addr.ensures (mod-lt c.unknown_at-2.result (lit< tt));
    }

pub returns : goal.returns
unfolding sample_at bits_without
returns c = same_sample _ _
    (λ i. record { 0 = bits_without (c.asserted_lines-asserted.ensures i) (c.unknown_lines-unknown.ensures i) })
    (λ i. record { 0 = c.unknown_lines-unknown.ensures i })
    (c.word_of-req.ensures ∙ (λ i. word_of (c.asserted_at.ensures i % 2 ^ 5) (c.unknown_at.ensures i % 2 ^ 5)))
    (c.word_of-addr.ensures ∙ (λ i. word_of (c.asserted_at-2.ensures i % 2 ^ 33) (c.unknown_at-2.ensures i % 2 ^ 33)))
    (c.word_of.ensures ∙ (λ i. word_of (c.asserted_at-3.ensures i) (c.unknown_at-3.ensures i)))
