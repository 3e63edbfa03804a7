use Rattle.fsb_trace.proofs.VerdictLaws.{verdict-least, verdict-none}
use Rattle.fsb_trace.proofs.laws.verdict_is_least.Goals as goal

pub returns : goal.returns
returns c = record {
  broken = λ m w c j e. let h = verdict-least m w c j e in (h.0, h.1);
  rule = λ m w c j k e l. (verdict-least m w c j e).2 k l;
  clock = λ m w c j d k e l n. (verdict-least m w c j e).3 d k l n;
  accepted = λ m w c j e l. verdict-none m w e c j l;
}
