use Rattle.std.proofs.Common.{sym, ◌∙◌}
use Rattle.vcd_scan.proofs.reader.ValueReader.feed.Goals as goal

pub returns-in-Err-clause-answer : goal.returns-in-Err-clause-answer
returns-in-Err-clause-answer c = λ head fed s n. c.in-Err.ensures.answer head fed (s.works n)

pub returns-in-Err-clause-told : goal.returns-in-Err-clause-told
returns-in-Err-clause-told c = λ head fed s n. c.in-Err.ensures.told head fed (s.works n)

pub returns-in_default-answer-clause-stands : goal.returns-in_default-answer-clause-stands
returns-in_default-answer-clause-stands c = λ head fed s. record {
  works = λ n. c.in_default-answer.ensures.works head fed (s.works (sym c.absorb-answer.ensures.refusal ∙ n));
}

pub returns-in_default-answer-clause-answer : goal.returns-in_default-answer-clause-answer
returns-in_default-answer-clause-answer c = λ head fed s n. c.absorb-answer.ensures.answer head fed (s.works n)
