use Rattle.std.specs.Prelude.{length}
use Rattle.fsb_owners.specs.Rules.{is_ownership_broken, ownership_verdict}
use Rattle.fsb_owners.proofs.LeastLaws.{least_broken-least, least_broken-none}
use Rattle.fsb_owners.proofs.laws.ownership_verdict_is_least.Goals as goal

pub returns : goal.returns
unfolding ownership_verdict
returns c = record {
  broken = λ first w c j e. let h = least_broken-least (is_ownership_broken first w) 32 (length w) c j e in (h.0, h.1);
  rule = λ first w c j k e l. (least_broken-least (is_ownership_broken first w) 32 (length w) c j e).2 k l;
  clock = λ first w c j d k e l n. (least_broken-least (is_ownership_broken first w) 32 (length w) c j e).3 d k l n;
  coherent = λ first w c j e l n. least_broken-none (is_ownership_broken first w) 32 (length w) e c j l n;
}
