use Rattle.std.proofs.Common.{rules, arith}
use Rattle.std.proofs.lemmas.Grind.{common_steps}
use Rattle.fsb_access.specs.Access.{is_lawful_access}
use Rattle.fsb_agent_view.proofs.Interface.{list_all-from}
use Rattle.fsb_agent.specs.Parts.{is_servable}
use Rattle.fsb_agent.proofs.Rests.{rest-all}
use Rattle.fsb_agent.proofs.hand.Hand.+serve_all.Goals as goal

pub serve_all-requires : goal.serve_all-requires
serve_all-requires t c =
    let now = c.serve_part.new.self.cache in
    let still = list_all-from (is_servable c.args.self.now.cache) (is_servable now) c.args.accesses.now
    c.serve_part.ensures.keeps c.requires.servable in (
      search rules,
      (
        grind (arith, common_steps),
        (
          grind (arith, common_steps),
          (
            rest-all is_lawful_access c.args.accesses.now c.requires.lawful,
            rest-all (is_servable now) c.args.accesses.now still,
          ),
        ),
      ),
    )
