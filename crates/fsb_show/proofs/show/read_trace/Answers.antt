use Rattle.std.proofs.Common.{◌≡◌, ◌≤◌, ℕ, List, Some, length, inr, arith, sym, subst, ◌∙◌}
use Rattle.fsb_signal.specs.declared.sample.Sample.{Sample}
use Rattle.vcd_grammar.specs.Reading.{first_fault}
use Rattle.fsb_show.specs.ShownDump.{IsLongDump}
use Rattle.fsb_show.proofs.Readings.{answer_is, bad_text, few_samples, long_text, read_whole}
use Rattle.fsb_show.proofs.show.read_trace.Goals as goal

pub returns-in-Ok-read_dump-clause-few : goal.returns-in-Ok-read_dump-clause-few
returns-in-Ok-read_dump-clause-few g c =
    let trace = c.in-Ok-read_dump.ensures.trace in
    subst (λ (w : List Sample). length w ≤ 200000) (sym trace.2)
    (few_samples c.as_slice.result.now trace.0 c.in-Ok-read_dump.ensures.answer)

pub returns-in-Err-Bad-clause-read : goal.returns-in-Err-Bad-clause-read
returns-in-Err-Bad-clause-read g c tells =
    let same = c.as_slice.ensures.value ∙ c.in-Ok.ensures.whole tells in
    let refused = answer_is (Unit {0}) _ _ _ c.in-Err-Bad.field-0-is c.in-Err-Bad.ensures.answer in (
      read_whole _ _ _ same (omega (arith, c.as_slice.ensures.len, c.in-Ok.ensures.short)) (c.in-Ok.ensures.end tells),
      subst (λ (t : List ℕ). first_fault t ≡ Some c.in-Err-Bad.fault) same (bad_text c.as_slice.result.now _ refused),
    )

pub returns-in-Err-TooLong-read_dump-clause-read : goal.returns-in-Err-TooLong-read_dump-clause-read
returns-in-Err-TooLong-read_dump-clause-read g c tells =
    let same = c.as_slice.ensures.value ∙ c.in-Ok.ensures.whole tells in
    let stop = c.in-Err-TooLong-read_dump in
    let refused = answer_is (Unit {0}) _ _ _ stop.field-0-is stop.ensures.answer in
    inr (
      read_whole _ _ _ same (omega (arith, c.as_slice.ensures.len, c.in-Ok.ensures.short)) (c.in-Ok.ensures.end tells),
      subst (λ (t : List ℕ). IsLongDump t) same (long_text c.as_slice.result.now refused),
    )
