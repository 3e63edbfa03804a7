use Rattle.std.proofs.Common.{◌∙◌, refl, arith}
use Rattle.fsb_io.proofs.Interface.{written_none, written_more, written_part, written_all}
use Rattle.fsb_show.specs.ShowText.{probe_text}
use Rattle.fsb_show.proofs.Texts.{next_seen, end_seen, part_of_all}
use Rattle.fsb_show.proofs.text.put_totals.Goals as goal

pub loop-i-init : goal.loop-i-init
loop-i-init g c = record { written = λ tells. written_none _ _; name = λ tells. refl; later = omega arith }

pub returns-in_err-put_total-clause-part : goal.returns-in_err-put_total-clause-part
returns-in_err-put_total-clause-part g c tells =
    written_part _ _ _ _ _ _ _ (c.loop-i.invariant.written tells)
    (next_seen probe_text _ c.args.probes.now c.loop-i.i c.index-probes-i.result _ c.loop-i-test.true
    c.index-probes-i.is c.total_of.ensures)
    (c.put_total.ensures.part tells)

pub loop-i-preserved : goal.loop-i-preserved
loop-i-preserved g c = record {
  written = λ tells. written_more _ _ _ _ _ _ _ (c.loop-i.invariant.written tells)
      (next_seen probe_text _ c.args.probes.now c.loop-i.i c.index-probes-i.result _ c.loop-i-test.true
      c.index-probes-i.is c.total_of.ensures)
      (c.in_ok-put_total.ensures.whole tells);
  name = λ tells. c.put_total.ensures.name_stays tells ∙ c.loop-i.invariant.name tells;
  later = omega (arith, c.loop-i.invariant.later, c.put_total.ensures.cause.later);
}

pub returns-clause-whole : goal.returns-clause-whole
returns-clause-whole g c tells =
    written_all _ _ _ _ (c.loop-i.invariant.written tells)
    (end_seen probe_text _ c.args.probes.now c.loop-i.i (omega (arith, c.loop-i-test.false)))

pub returns-clause-part : goal.returns-clause-part
returns-clause-part g c tells =
    part_of_all _ _ _ (written_all _ _ _ _ (c.loop-i.invariant.written tells)
    (end_seen probe_text _ c.args.probes.now c.loop-i.i (omega (arith, c.loop-i-test.false))))
