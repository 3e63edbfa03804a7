use Rattle.fsb_agent.proofs.Stored.{sole_store}
use Rattle.fsb_agent.proofs.hand.Hand.serve.Goals as goal

pub store-requires-clause-sole : goal.store-requires-clause-sole
store-requires-clause-sole c = sole_store c.args.self.now.cache c.args.access.now _ c.in-Store.addr _
    c.in-Store.is c.requires.servable
