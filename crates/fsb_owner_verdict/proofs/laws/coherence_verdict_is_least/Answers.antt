use Rattle.std.specs.Prelude.{length}
use Rattle.fsb_owner_verdict.specs.Coherence.{coherence_verdict, is_any_broken}
use Rattle.fsb_owners.proofs.LeastLaws.{least_broken-least, least_broken-none}
use Rattle.fsb_owner_verdict.proofs.laws.coherence_verdict_is_least.Goals as goal

pub returns : goal.returns
unfolding coherence_verdict
returns c = record {
  broken = λ m first w c j e. let h = least_broken-least (is_any_broken m first w) 32 (length w) c j e in (h.0, h.1);
  rule = λ m first w c j k e l. (least_broken-least (is_any_broken m first w) 32 (length w) c j e).2 k l;
  clock = λ m first w c j d k e l n. (least_broken-least (is_any_broken m first w) 32 (length w) c j e).3 d k l n;
  coherent = λ m first w c j e l n. least_broken-none (is_any_broken m first w) 32 (length w) e c j l n;
}
